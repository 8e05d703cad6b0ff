-- Configurations used by the examples.
use Rattle.std.specs.Prelude.{ℕ, true, false, List, [], ◌∷◌}
use Rattle.smith_types.specs.Syntax.Instructions.{no_kind}
use Rattle.smith_config.specs.Config.{default_config}
use Rattle.smith_config.specs.declared.config.Config.{Config}

-- each field that is drawn is 0 or false
abbrev pub least_config : Config
least_config = record default_config {
  max_types = 0;
  max_imports = 0;
  max_tags = 0;
  max_funcs = 0;
  max_globals = 0;
  max_exports = 0;
  max_element_segments = 0;
  max_elements = 0;
  max_data_segments = 0;
  max_memories = 0;
  max_tables = 0;
  max_memory32_bytes = 0;
  max_memory64_bytes = 0;
  max_table_elements = 0;
  const_expr_fuel = 0;
  allow_floats = false;
  reference_types_enabled = false;
  gc_enabled = false;
  multi_value_enabled = false;
  bulk_memory_enabled = false;
  simd_enabled = false;
  exceptions_enabled = false;
  threads_enabled = false;
  memory64_enabled = false;
  extended_const_enabled = false;
  compact_imports_enabled = false;
  relaxed_simd_enabled = false;
  saturating_float_to_int_enabled = false;
  sign_extension_ops_enabled = false;
  tail_call_enabled = false;
  wide_arithmetic_enabled = false;
  allowed_instructions = no_kind;
  max_instructions = 0;
  min_uleb_size = 0;
  max_aliases = 0;
  max_components = 0;
  max_instances = 0;
  max_modules = 0;
  max_nesting_depth = 0;
  max_values = 0;
}

-- bytes for all draws, which give mostly distinct numbers, and two more bytes
abbrev pub counting_bytes : List ℕ
counting_bytes =
    -- counts
    0 ∷ 1 ∷ 0 ∷ 2 ∷ 0 ∷ 3 ∷ 0 ∷ 4 ∷ 0 ∷ 5 ∷ 0 ∷ 6 ∷ 0 ∷ 7 ∷ 0 ∷ 8 ∷ 0 ∷ 9 ∷ 0 ∷ 10 ∷
    -- memories, tables, bytes, lengths of numbers
    11 ∷ 12 ∷ 0 ∷ 0 ∷ 0 ∷ 0 ∷ 13 ∷ 0 ∷ 0 ∷ 0 ∷ 0 ∷ 0 ∷ 0 ∷ 0 ∷ 0 ∷ 14 ∷ 3 ∷
    -- bulk memory, reference types and multi-value, aliases, depth
    1 ∷ 1 ∷ 0 ∷ 1 ∷ 0 ∷ 15 ∷ 7 ∷
    -- sign extension, relaxed SIMD, exceptions, tail calls, garbage collection, 64-bit memories
    0 ∷ 1 ∷ 1 ∷ 1 ∷ 0 ∷ 1 ∷ 1 ∷ 0 ∷ 1 ∷
    -- instructions: numeric without floats, and control
    1 ∷ 0 ∷ 0 ∷ 0 ∷ 0 ∷ 0 ∷ 0 ∷ 0 ∷ 0 ∷ 0 ∷ 1 ∷ 0 ∷
    -- rules
    1 ∷ 0 ∷ 1 ∷ 0 ∷ 1 ∷ 0 ∷ 1 ∷ 17 ∷ 1 ∷
    -- remaining bytes
    98 ∷ 99 ∷ []

-- the configuration drawn from these bytes
abbrev pub counting_config : Config
counting_config = record least_config {
  max_types = 1;
  max_imports = 2;
  max_tags = 3;
  max_funcs = 4;
  max_globals = 5;
  max_exports = 6;
  max_element_segments = 7;
  max_elements = 8;
  max_data_segments = 9;
  max_instructions = 10;
  max_memories = 11;
  max_tables = 12;
  max_memory32_bytes = 13;
  max_memory64_bytes = 14;
  min_uleb_size = 3;
  bulk_memory_enabled = true;
  reference_types_enabled = true;
  multi_value_enabled = true;
  max_aliases = 15;
  max_nesting_depth = 7;
  sign_extension_ops_enabled = true;
  exceptions_enabled = true;
  tail_call_enabled = true;
  gc_enabled = true;
  memory64_enabled = true;
  allowed_instructions = record { 0 = 1025 };
  table_max_size_required = true;
  max_table_elements = 256;
  disallow_traps = true;
  extended_const_enabled = true;
  limit_arrays_in_const_exprs = true;
  const_expr_fuel = 17;
}
