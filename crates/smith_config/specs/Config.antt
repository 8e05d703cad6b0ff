-- The default configuration. Rules of this project.
use Rattle.std.specs.Prelude.{true, false, ◌^◌, None}
use Rattle.smith_types.specs.Syntax.Instructions.{every_kind}
use Rattle.smith_config.specs.OffsetChoices.{default_choices}
use Rattle.smith_config.specs.declared.config.Config.{Config}

-- every field has its documented default
abbrev pub default_config : Config
default_config = record {
  min_types = 0;
  max_types = 100;
  min_imports = 0;
  max_imports = 100;
  min_tags = 0;
  max_tags = 100;
  min_funcs = 0;
  max_funcs = 100;
  min_globals = 0;
  max_globals = 100;
  min_exports = 0;
  max_exports = 100;
  min_element_segments = 0;
  max_element_segments = 100;
  min_elements = 0;
  max_elements = 100;
  min_data_segments = 0;
  max_data_segments = 100;
  min_memories = 0;
  max_memories = 1;
  min_tables = 0;
  max_tables = 1;
  max_memory32_bytes = 2 ^ 32;
  max_memory64_bytes = 2 ^ 64;
  memory_max_size_required = false;
  max_table_elements = 1000000;
  table_max_size_required = false;
  max_type_size = 1000;
  const_expr_fuel = 50;
  limit_arrays_in_const_exprs = false;
  allow_start_export = true;
  export_everything = false;
  allow_floats = true;
  disallow_traps = false;
  allow_invalid_funcs = false;
  reference_types_enabled = true;
  gc_enabled = true;
  custom_descriptors_enabled = false;
  multi_value_enabled = true;
  bulk_memory_enabled = true;
  simd_enabled = true;
  exceptions_enabled = true;
  threads_enabled = true;
  shared_everything_threads_enabled = false;
  memory64_enabled = true;
  custom_page_sizes_enabled = false;
  extended_const_enabled = true;
  compact_imports_enabled = true;
  relaxed_simd_enabled = true;
  saturating_float_to_int_enabled = true;
  sign_extension_ops_enabled = true;
  tail_call_enabled = true;
  wide_arithmetic_enabled = true;
  acquire_release_atomics_enabled = false;
  multibyte_array_access_enabled = false;
  non_nullable_enabled = false;
  allowed_instructions = every_kind;
  memory_offset_choices = default_choices;
  max_instructions = 100;
  canonicalize_nans = false;
  generate_custom_sections = false;
  min_uleb_size = 1;
  max_aliases = 1000;
  max_components = 10;
  max_instances = 10;
  max_modules = 10;
  max_nesting_depth = 10;
  max_values = 10;
  available_imports = None;
  exports = None;
  module_shape = None;
}
