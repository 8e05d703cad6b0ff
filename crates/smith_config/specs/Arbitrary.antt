-- The configuration drawn from bytes. Rules of this project.
use Rattle.std.specs.Prelude.{ℕ, ◌^◌, Bool, false, List, [], ◌∷◌}
use Rattle.smith_bytes.specs.Draws.{range_at, bool_at}
use Rattle.smith_types.specs.Syntax.Instructions.{no_kind, with_kind}
use Rattle.smith_types.specs.Syntax.instruction_kind.InstructionKind.TheVariants.{
  NumericInt,
  Numeric,
  VectorInt,
  Vector,
  Reference,
  Parametric,
  Variable,
  Table,
  MemoryInt,
  Memory,
  Control,
  Aggregate,
}
use Rattle.smith_config.specs.Config.{default_config}
use Rattle.smith_config.specs.Sanitized.{sanitized}
use Rattle.smith_config.specs.declared.config.Config.{Config}

-- a draw of a field as a number in 0..=most
abbrev pub up_to : ℕ → (Config → ℕ → Config) → Config → List ℕ → Config × List ℕ
up_to most put config bytes = let number = range_at 0 most bytes in (put config number.0, number.1)

-- a draw of a field as a bool
abbrev pub coin : (Config → Bool → Config) → Config → List ℕ → Config × List ℕ
coin put config bytes = let drawn = bool_at bytes in (put config drawn.0, drawn.1)

-- draws in sequence
abbrev pub in_turn : List (Config → List ℕ → Config × List ℕ) → Config → List ℕ → Config × List ℕ
in_turn [] config bytes = (config, bytes)
in_turn (draw ∷ draws) config bytes = let drawn = draw config bytes in in_turn draws drawn.0 drawn.1

-- the maximum counts, and the length of bodies
unfoldable pub maximums_at : Config → List ℕ → Config × List ℕ
maximums_at config bytes = in_turn (
    up_to 1000 (λ config n. record config { max_types = n }) ∷
    up_to 1000 (λ config n. record config { max_imports = n }) ∷
    up_to 1000 (λ config n. record config { max_tags = n }) ∷
    up_to 1000 (λ config n. record config { max_funcs = n }) ∷
    up_to 1000 (λ config n. record config { max_globals = n }) ∷
    up_to 1000 (λ config n. record config { max_exports = n }) ∷
    up_to 1000 (λ config n. record config { max_element_segments = n }) ∷
    up_to 1000 (λ config n. record config { max_elements = n }) ∷
    up_to 1000 (λ config n. record config { max_data_segments = n }) ∷
    up_to 1000 (λ config n. record config { max_instructions = n }) ∷
    []) config bytes

-- memories, tables and sizes
unfoldable pub sizes_at : Config → List ℕ → Config × List ℕ
sizes_at config bytes = in_turn (
    up_to 100 (λ config n. record config { max_memories = n }) ∷
    up_to 100 (λ config n. record config { max_tables = n }) ∷
    up_to (2 ^ 32) (λ config n. record config { max_memory32_bytes = n }) ∷
    up_to (2 ^ 64) (λ config n. record config { max_memory64_bytes = n }) ∷
    up_to 5 (λ config n. record config { min_uleb_size = n }) ∷
    []) config bytes

-- the proposals and the limits of components
unfoldable pub proposals_at : Config → List ℕ → Config × List ℕ
proposals_at config bytes = in_turn (
    coin (λ config b. record config { bulk_memory_enabled = b }) ∷
    coin (λ config b. record config { reference_types_enabled = b }) ∷
    coin (λ config b. record config { simd_enabled = b }) ∷
    coin (λ config b. record config { multi_value_enabled = b }) ∷
    up_to 1000 (λ config n. record config { max_aliases = n }) ∷
    up_to 10 (λ config n. record config { max_nesting_depth = n }) ∷
    coin (λ config b. record config { saturating_float_to_int_enabled = b }) ∷
    coin (λ config b. record config { sign_extension_ops_enabled = b }) ∷
    coin (λ config b. record config { relaxed_simd_enabled = b }) ∷
    coin (λ config b. record config { exceptions_enabled = b }) ∷
    coin (λ config b. record config { threads_enabled = b }) ∷
    coin (λ config b. record config { tail_call_enabled = b }) ∷
    coin (λ config b. record config { gc_enabled = b }) ∷
    coin (λ config b. record config { compact_imports_enabled = b }) ∷
    coin (λ config b. record config { memory64_enabled = b }) ∷
    []) config bytes

-- each kind of instructions
unfoldable pub instruction_kinds_at : Config → List ℕ → Config × List ℕ
instruction_kinds_at config bytes = in_turn (
    coin (λ config b. record config { allowed_instructions = with_kind config.allowed_instructions b NumericInt }) ∷
    coin (λ config b. record config { allowed_instructions = with_kind config.allowed_instructions b Numeric }) ∷
    coin (λ config b. record config { allowed_instructions = with_kind config.allowed_instructions b VectorInt }) ∷
    coin (λ config b. record config { allowed_instructions = with_kind config.allowed_instructions b Vector }) ∷
    coin (λ config b. record config { allowed_instructions = with_kind config.allowed_instructions b Reference }) ∷
    coin (λ config b. record config { allowed_instructions = with_kind config.allowed_instructions b Parametric }) ∷
    coin (λ config b. record config { allowed_instructions = with_kind config.allowed_instructions b Variable }) ∷
    coin (λ config b. record config { allowed_instructions = with_kind config.allowed_instructions b Table }) ∷
    coin (λ config b. record config { allowed_instructions = with_kind config.allowed_instructions b MemoryInt }) ∷
    coin (λ config b. record config { allowed_instructions = with_kind config.allowed_instructions b Memory }) ∷
    coin (λ config b. record config { allowed_instructions = with_kind config.allowed_instructions b Control }) ∷
    coin (λ config b. record config { allowed_instructions = with_kind config.allowed_instructions b Aggregate }) ∷
    []) config bytes

-- the other rules
unfoldable pub rules_at : Config → List ℕ → Config × List ℕ
rules_at config bytes = in_turn (
    coin (λ config b. record config { table_max_size_required = b }) ∷
    up_to 1000000 (λ config n. record config { max_table_elements = n }) ∷
    coin (λ config b. record config { disallow_traps = b }) ∷
    coin (λ config b. record config { allow_floats = b }) ∷
    coin (λ config b. record config { extended_const_enabled = b }) ∷
    up_to 100 (λ config n. record config { const_expr_fuel = n }) ∷
    coin (λ config b. record config { limit_arrays_in_const_exprs = b }) ∷
    []) config bytes

-- the default of the fields that are not drawn: minimums are 0, and proposals with little support
-- in engines are disabled
abbrev pub undrawn_config : Config
undrawn_config = record default_config {
  max_components = 0;
  max_instances = 0;
  max_modules = 0;
  max_values = 0;
  allowed_instructions = no_kind;
  wide_arithmetic_enabled = false;
}

-- the configuration drawn from bytes, and the bytes left
unfoldable pub config_at : List ℕ → Config × List ℕ
config_at bytes =
    let drawn = in_turn (maximums_at ∷ sizes_at ∷ proposals_at ∷ instruction_kinds_at ∷ rules_at ∷ []) undrawn_config bytes in
    (sanitized drawn.0, drawn.1)
