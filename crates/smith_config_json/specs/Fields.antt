-- The fields of a configuration by their names in JSON, each with the function that sets it. Rules
-- of this project.
use Rattle.std.specs.Prelude.{◌≡◌, ℕ, ◌-◌, ◌^◌, Bool, List, [], ◌∷◌, Option, Some, None, cond, codes}
use Rattle.std.specs.Str.{bytes_eq}
use Rattle.smith_config.specs.declared.config.Config.{Config}
use Rattle.smith_config.specs.declared.offset_choices.MemoryOffsetChoices.{MemoryOffsetChoices}
use Rattle.smith_types.specs.Syntax.instruction_kind.InstructionKinds.{InstructionKinds}
use Rattle.smith_config_json.specs.declared.field.FieldKind.{FieldKind}
use Rattle.smith_config_json.specs.declared.field.FieldKind.TheVariants as kind

-- a configuration with one field set to a value
abbrev pub Setter : Type 0 → Type 0
Setter A = Config → A → Config

-- a list of names, each with an item
abbrev pub Table : Type 0 → Type 0
Table A = List (List ℕ × A)

-- the first item with a name
abbrev pub named : {A : Type 0} → List ℕ → Table A → Option A
named name [] = None
named name (entry ∷ entries) = cond (bytes_eq name entry.0) (Some entry.1) (named name entries)

-- the type of a field's values, and the function that sets it
pub data Field : Type 0 where
  whole : ℕ → Setter ℕ → Field
  truth : Setter Bool → Field
  kinds : Setter InstructionKinds → Field
  choices : Setter MemoryOffsetChoices → Field
  file : Field
  preset : Field

-- a number field with the bounds of its type: `u8`
abbrev pub byte : Setter ℕ → Field
byte set = whole (2 ^ 8 - 1) set

-- `u32`
abbrev pub word : Setter ℕ → Field
word set = whole (2 ^ 32 - 1) set

-- `u64`
abbrev pub long : Setter ℕ → Field
long set = whole (2 ^ 64 - 1) set

-- `usize`
abbrev pub size : Setter ℕ → Field
size set = whole (2 ^ 64 - 1) set

-- `u128`
abbrev pub wide : Setter ℕ → Field
wide set = whole (2 ^ 128 - 1) set

-- every field, in the order of `Config`, and the members that set no field: the preset, which
-- changes the configuration before any field is set, the fuel, its export, and the sinks
unfoldable pub fields : Table Field
fields =
    (codes "min-types", size (λ config n. record config { min_types = n }))
    ∷ (codes "max-types", size (λ config n. record config { max_types = n }))
    ∷ (codes "min-imports", size (λ config n. record config { min_imports = n }))
    ∷ (codes "max-imports", size (λ config n. record config { max_imports = n }))
    ∷ (codes "min-tags", size (λ config n. record config { min_tags = n }))
    ∷ (codes "max-tags", size (λ config n. record config { max_tags = n }))
    ∷ (codes "min-funcs", size (λ config n. record config { min_funcs = n }))
    ∷ (codes "max-funcs", size (λ config n. record config { max_funcs = n }))
    ∷ (codes "min-globals", size (λ config n. record config { min_globals = n }))
    ∷ (codes "max-globals", size (λ config n. record config { max_globals = n }))
    ∷ (codes "min-exports", size (λ config n. record config { min_exports = n }))
    ∷ (codes "max-exports", size (λ config n. record config { max_exports = n }))
    ∷ (codes "min-element-segments", size (λ config n. record config { min_element_segments = n }))
    ∷ (codes "max-element-segments", size (λ config n. record config { max_element_segments = n }))
    ∷ (codes "min-elements", size (λ config n. record config { min_elements = n }))
    ∷ (codes "max-elements", size (λ config n. record config { max_elements = n }))
    ∷ (codes "min-data-segments", size (λ config n. record config { min_data_segments = n }))
    ∷ (codes "max-data-segments", size (λ config n. record config { max_data_segments = n }))
    ∷ (codes "min-memories", word (λ config n. record config { min_memories = n }))
    ∷ (codes "max-memories", size (λ config n. record config { max_memories = n }))
    ∷ (codes "min-tables", word (λ config n. record config { min_tables = n }))
    ∷ (codes "max-tables", size (λ config n. record config { max_tables = n }))
    ∷ (codes "max-memory32-bytes", long (λ config n. record config { max_memory32_bytes = n }))
    ∷ (codes "max-memory64-bytes", wide (λ config n. record config { max_memory64_bytes = n }))
    ∷ (codes "memory-max-size-required", truth (λ config b. record config { memory_max_size_required = b }))
    ∷ (codes "max-table-elements", long (λ config n. record config { max_table_elements = n }))
    ∷ (codes "table-max-size-required", truth (λ config b. record config { table_max_size_required = b }))
    ∷ (codes "max-type-size", word (λ config n. record config { max_type_size = n }))
    ∷ (codes "const-expr-fuel", word (λ config n. record config { const_expr_fuel = n }))
    ∷ (codes "limit-arrays-in-const-exprs", truth (λ config b. record config { limit_arrays_in_const_exprs = b }))
    ∷ (codes "allow-start-export", truth (λ config b. record config { allow_start_export = b }))
    ∷ (codes "export-everything", truth (λ config b. record config { export_everything = b }))
    ∷ (codes "allow-floats", truth (λ config b. record config { allow_floats = b }))
    ∷ (codes "disallow-traps", truth (λ config b. record config { disallow_traps = b }))
    ∷ (codes "allow-invalid-funcs", truth (λ config b. record config { allow_invalid_funcs = b }))
    ∷ (codes "reference-types-enabled", truth (λ config b. record config { reference_types_enabled = b }))
    ∷ (codes "gc-enabled", truth (λ config b. record config { gc_enabled = b }))
    ∷ (codes "custom-descriptors-enabled", truth (λ config b. record config { custom_descriptors_enabled = b }))
    ∷ (codes "multi-value-enabled", truth (λ config b. record config { multi_value_enabled = b }))
    ∷ (codes "bulk-memory-enabled", truth (λ config b. record config { bulk_memory_enabled = b }))
    ∷ (codes "simd-enabled", truth (λ config b. record config { simd_enabled = b }))
    ∷ (codes "exceptions-enabled", truth (λ config b. record config { exceptions_enabled = b }))
    ∷ (codes "threads-enabled", truth (λ config b. record config { threads_enabled = b }))
    ∷ (codes "shared-everything-threads-enabled", truth (λ config b. record config { shared_everything_threads_enabled = b }))
    ∷ (codes "memory64-enabled", truth (λ config b. record config { memory64_enabled = b }))
    ∷ (codes "custom-page-sizes-enabled", truth (λ config b. record config { custom_page_sizes_enabled = b }))
    ∷ (codes "extended-const-enabled", truth (λ config b. record config { extended_const_enabled = b }))
    ∷ (codes "compact-imports-enabled", truth (λ config b. record config { compact_imports_enabled = b }))
    ∷ (codes "relaxed-simd-enabled", truth (λ config b. record config { relaxed_simd_enabled = b }))
    ∷ (codes "saturating-float-to-int-enabled", truth (λ config b. record config { saturating_float_to_int_enabled = b }))
    ∷ (codes "sign-extension-ops-enabled", truth (λ config b. record config { sign_extension_ops_enabled = b }))
    ∷ (codes "tail-call-enabled", truth (λ config b. record config { tail_call_enabled = b }))
    ∷ (codes "wide-arithmetic-enabled", truth (λ config b. record config { wide_arithmetic_enabled = b }))
    ∷ (codes "acquire-release-atomics-enabled", truth (λ config b. record config { acquire_release_atomics_enabled = b }))
    ∷ (codes "multibyte-array-access-enabled", truth (λ config b. record config { multibyte_array_access_enabled = b }))
    ∷ (codes "non-nullable-enabled", truth (λ config b. record config { non_nullable_enabled = b }))
    ∷ (codes "allowed-instructions", kinds (λ config k. record config { allowed_instructions = k }))
    ∷ (codes "memory-offset-choices", choices (λ config c. record config { memory_offset_choices = c }))
    ∷ (codes "max-instructions", size (λ config n. record config { max_instructions = n }))
    ∷ (codes "canonicalize-nans", truth (λ config b. record config { canonicalize_nans = b }))
    ∷ (codes "generate-custom-sections", truth (λ config b. record config { generate_custom_sections = b }))
    ∷ (codes "min-uleb-size", byte (λ config n. record config { min_uleb_size = n }))
    ∷ (codes "max-aliases", size (λ config n. record config { max_aliases = n }))
    ∷ (codes "max-components", size (λ config n. record config { max_components = n }))
    ∷ (codes "max-instances", size (λ config n. record config { max_instances = n }))
    ∷ (codes "max-modules", size (λ config n. record config { max_modules = n }))
    ∷ (codes "max-nesting-depth", size (λ config n. record config { max_nesting_depth = n }))
    ∷ (codes "max-values", size (λ config n. record config { max_values = n }))
    ∷ (codes "available-imports", file)
    ∷ (codes "exports", file)
    ∷ (codes "module-shape", file)
    ∷ (codes "preset", preset)
    ∷ (codes "fuel", word (λ config n. config))
    ∷ (codes "fuel-export", truth (λ config b. config))
    ∷ (codes "observe", truth (λ config b. config))
    ∷ []

-- the field with a name
abbrev pub field_named : List ℕ → Option Field
field_named name = named name fields

-- a kind is the kind of a field's values; whole numbers of `n` bits are below `2^n`
abbrev pub HasKind : Field → FieldKind → Type 0
HasKind (whole most set) (kind.Whole bits) = most ≡ 2 ^ bits - 1
HasKind (truth set) kind.Flag = Unit {0}
HasKind (kinds set) kind.InstructionKinds = Unit {0}
HasKind (choices set) kind.OffsetChoices = Unit {0}
HasKind file kind.File = Unit {0}
HasKind preset kind.Preset = Unit {0}
HasKind f k = ⊥

-- neither exists, or the kind is the field's
abbrev pub AreOfKind : Option Field → Option FieldKind → Type 0
AreOfKind (Some f) (Some k) = HasKind f k
AreOfKind None None = Unit {0}
AreOfKind f k = ⊥
