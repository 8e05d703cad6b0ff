-- Bytes from which a configuration is drawn in which consecutive bools differ.
use Rattle.std.specs.Prelude.{ℕ, true, List, [], ◌∷◌}
use Rattle.smith_config.specs.ExampleConfigs.{least_config}
use Rattle.smith_config.specs.declared.config.Config.{Config}

-- bools that alternate, and distinct numbers
abbrev pub changing_bytes : List ℕ
changing_bytes =
    -- counts
    0 ∷ 21 ∷ 0 ∷ 22 ∷ 0 ∷ 23 ∷ 0 ∷ 24 ∷ 0 ∷ 25 ∷ 0 ∷ 26 ∷ 0 ∷ 27 ∷ 0 ∷ 28 ∷ 0 ∷ 29 ∷ 0 ∷ 30 ∷
    -- memories, tables, bytes, lengths of numbers
    31 ∷ 32 ∷ 0 ∷ 0 ∷ 0 ∷ 0 ∷ 33 ∷ 0 ∷ 0 ∷ 0 ∷ 0 ∷ 0 ∷ 0 ∷ 0 ∷ 0 ∷ 34 ∷ 5 ∷
    -- reference types and multi-value, the second and the fourth proposal; aliases, depth
    0 ∷ 1 ∷ 0 ∷ 1 ∷ 0 ∷ 35 ∷ 6 ∷
    -- the first, third, fifth, seventh and ninth of the other nine proposals; the third requires
    -- SIMD
    1 ∷ 0 ∷ 1 ∷ 0 ∷ 1 ∷ 0 ∷ 1 ∷ 0 ∷ 1 ∷
    -- numeric, vector, parametric, table, memory and aggregate instructions
    0 ∷ 1 ∷ 0 ∷ 1 ∷ 0 ∷ 1 ∷ 0 ∷ 1 ∷ 0 ∷ 1 ∷ 0 ∷ 1 ∷
    -- rules
    0 ∷ 0 ∷ 0 ∷ 36 ∷ 1 ∷ 0 ∷ 1 ∷ 37 ∷ 0 ∷ []

-- the configuration with the numbers drawn from these bytes
abbrev counted_config : Config
counted_config = record least_config {
  max_types = 21;
  max_imports = 22;
  max_tags = 23;
  max_funcs = 24;
  max_globals = 25;
  max_exports = 26;
  max_element_segments = 27;
  max_elements = 28;
  max_data_segments = 29;
  max_instructions = 30;
  max_memories = 31;
  max_memory32_bytes = 33;
  max_memory64_bytes = 34;
  min_uleb_size = 5;
  max_aliases = 35;
  max_nesting_depth = 6;
  max_table_elements = 36;
  const_expr_fuel = 37;
}

-- the configuration drawn from these bytes
abbrev pub changing_config : Config
changing_config = record counted_config {
  max_tables = 32;
  reference_types_enabled = true;
  multi_value_enabled = true;
  saturating_float_to_int_enabled = true;
  threads_enabled = true;
  gc_enabled = true;
  memory64_enabled = true;
  allowed_instructions = record { 0 = 2991 };
  disallow_traps = true;
  extended_const_enabled = true;
}

-- the same numbers, and every bool inverted
abbrev pub turned_bytes : List ℕ
turned_bytes =
    0 ∷ 21 ∷ 0 ∷ 22 ∷ 0 ∷ 23 ∷ 0 ∷ 24 ∷ 0 ∷ 25 ∷ 0 ∷ 26 ∷ 0 ∷ 27 ∷ 0 ∷ 28 ∷ 0 ∷ 29 ∷ 0 ∷ 30 ∷
    31 ∷ 1 ∷ 0 ∷ 0 ∷ 0 ∷ 0 ∷ 33 ∷ 0 ∷ 0 ∷ 0 ∷ 0 ∷ 0 ∷ 0 ∷ 0 ∷ 0 ∷ 34 ∷ 5 ∷
    1 ∷ 0 ∷ 1 ∷ 0 ∷ 0 ∷ 35 ∷ 6 ∷
    0 ∷ 1 ∷ 0 ∷ 1 ∷ 0 ∷ 1 ∷ 0 ∷ 1 ∷ 0 ∷
    1 ∷ 0 ∷ 1 ∷ 0 ∷ 1 ∷ 0 ∷ 1 ∷ 0 ∷ 1 ∷ 0 ∷ 1 ∷ 0 ∷
    1 ∷ 0 ∷ 0 ∷ 36 ∷ 0 ∷ 1 ∷ 0 ∷ 37 ∷ 1 ∷ []

-- the configuration drawn from the inverted bytes
abbrev pub turned_config : Config
turned_config = record counted_config {
  max_tables = 1;
  bulk_memory_enabled = true;
  simd_enabled = true;
  sign_extension_ops_enabled = true;
  exceptions_enabled = true;
  tail_call_enabled = true;
  compact_imports_enabled = true;
  allowed_instructions = record { 0 = 1365 };
  table_max_size_required = true;
  allow_floats = true;
  limit_arrays_in_const_exprs = true;
}
