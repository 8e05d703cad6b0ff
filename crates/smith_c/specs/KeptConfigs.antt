-- The request of a stored configuration.
use Rattle.std.specs.Prelude.{◌≡◌, ℕ, ◌+◌, ◌*◌, ◌^◌, List, Option, Some, None, if◌then◌else◌}
use Rattle.smith_config.specs.declared.config.Config.{Config}
use Rattle.smith_request.specs.Refusals.{IsRefusal, IsRefusalFor, IsUnread, status_of}
use Rattle.smith_request.specs.Requests.{IsRequest, IsBinary, IsBinaryFor, HasBinary, HasBinaryFor, IsTextOf, IsTextFor}
use Rattle.smith_request.specs.declared.manner.Form.TheVariants.{Binary, Text}
use Rattle.smith_request.specs.declared.additions.Additions.{Additions}
use Rattle.smith_request.specs.declared.additions.Fuel.{Fuel}
use Rattle.smith_request.specs.declared.refusal.Refusal.{Refusal}
use Rattle.smith_request.specs.declared.request.Request.{Request}
use Rattle.smith_text.specs.declared.module.Layout.{Layout}
use Rattle.smith_c.specs.CallAnswers.{IsAnswered, IsExplained}
use Rattle.smith_c.specs.declared.answer.Answer.{Answer}
use Rattle.smith_c.specs.declared.kept.KeptConfig.{KeptConfig}

-- the stored fuel, if any
abbrev pub kept_fuel : KeptConfig → Option Fuel
kept_fuel kept = if kept.has_fuel then Some (record { amount = kept.fuel; is_exported = kept.is_fuel_exported }) else None

-- what is stored as added to a program
abbrev pub kept_additions : KeptConfig → Additions
kept_additions kept = record { fuel = kept_fuel kept; is_observed = kept.is_observed }

-- the stored configuration, without shapes
abbrev pub config_of : KeptConfig → Config
config_of kept = record {
  min_types = kept.min_types;
  max_types = kept.max_types;
  min_imports = kept.min_imports;
  max_imports = kept.max_imports;
  min_tags = kept.min_tags;
  max_tags = kept.max_tags;
  min_funcs = kept.min_funcs;
  max_funcs = kept.max_funcs;
  min_globals = kept.min_globals;
  max_globals = kept.max_globals;
  min_exports = kept.min_exports;
  max_exports = kept.max_exports;
  min_element_segments = kept.min_element_segments;
  max_element_segments = kept.max_element_segments;
  min_elements = kept.min_elements;
  max_elements = kept.max_elements;
  min_data_segments = kept.min_data_segments;
  max_data_segments = kept.max_data_segments;
  min_memories = kept.min_memories;
  max_memories = kept.max_memories;
  min_tables = kept.min_tables;
  max_tables = kept.max_tables;
  max_memory32_bytes = kept.max_memory32_bytes;
  max_memory64_bytes = kept.max_memory64_bytes_high * 2 ^ 64 + kept.max_memory64_bytes_low;
  memory_max_size_required = kept.memory_max_size_required;
  max_table_elements = kept.max_table_elements;
  table_max_size_required = kept.table_max_size_required;
  max_type_size = kept.max_type_size;
  const_expr_fuel = kept.const_expr_fuel;
  limit_arrays_in_const_exprs = kept.limit_arrays_in_const_exprs;
  allow_start_export = kept.allow_start_export;
  export_everything = kept.export_everything;
  allow_floats = kept.allow_floats;
  disallow_traps = kept.disallow_traps;
  allow_invalid_funcs = kept.allow_invalid_funcs;
  reference_types_enabled = kept.reference_types_enabled;
  gc_enabled = kept.gc_enabled;
  custom_descriptors_enabled = kept.custom_descriptors_enabled;
  multi_value_enabled = kept.multi_value_enabled;
  bulk_memory_enabled = kept.bulk_memory_enabled;
  simd_enabled = kept.simd_enabled;
  exceptions_enabled = kept.exceptions_enabled;
  threads_enabled = kept.threads_enabled;
  shared_everything_threads_enabled = kept.shared_everything_threads_enabled;
  memory64_enabled = kept.memory64_enabled;
  custom_page_sizes_enabled = kept.custom_page_sizes_enabled;
  extended_const_enabled = kept.extended_const_enabled;
  compact_imports_enabled = kept.compact_imports_enabled;
  relaxed_simd_enabled = kept.relaxed_simd_enabled;
  saturating_float_to_int_enabled = kept.saturating_float_to_int_enabled;
  sign_extension_ops_enabled = kept.sign_extension_ops_enabled;
  tail_call_enabled = kept.tail_call_enabled;
  wide_arithmetic_enabled = kept.wide_arithmetic_enabled;
  acquire_release_atomics_enabled = kept.acquire_release_atomics_enabled;
  multibyte_array_access_enabled = kept.multibyte_array_access_enabled;
  non_nullable_enabled = kept.non_nullable_enabled;
  allowed_instructions = record { 0 = kept.allowed_instructions };
  memory_offset_choices = record { 0 = kept.offsets_inside; 1 = kept.offsets_between; 2 = kept.offsets_past };
  max_instructions = kept.max_instructions;
  canonicalize_nans = kept.canonicalize_nans;
  generate_custom_sections = kept.generate_custom_sections;
  min_uleb_size = kept.min_uleb_size;
  max_aliases = kept.max_aliases;
  max_components = kept.max_components;
  max_instances = kept.max_instances;
  max_modules = kept.max_modules;
  max_nesting_depth = kept.max_nesting_depth;
  max_values = kept.max_values;
  available_imports = None;
  exports = None;
  module_shape = None;
}

-- the stored request
abbrev pub request_of : KeptConfig → Request
request_of kept = record { config = config_of kept; additions = kept_additions kept }

-- the request of the text is stored, with status 0; or the text is refused, and the stored request
-- is unchanged
pub data IsRead (text : List ℕ) (before after : KeptConfig) (answer : Answer) : Type 0 where
  kept : IsRequest text (request_of after) → answer ≡ record { status = 0; length = 0 } → IsRead text before after answer
  refused : (refusal : Refusal) → IsUnread text refusal → after ≡ before → answer ≡ record { status = status_of refusal; length = 0 } →
      IsRead text before after answer

-- each answer for a stored configuration is an answer for the text
pub record AnswersFor (config : KeptConfig) (text : List ℕ) : Type 0 where
  pub binary : (input before after : List ℕ) (answer : Answer) →
      IsAnswered (IsBinaryFor (request_of config) input) (IsRefusalFor Binary (request_of config) input) before after answer →
      IsAnswered (IsBinary text input) (IsRefusal Binary text input) before after answer
  pub texts : (layout : Layout) (input before after : List ℕ) (answer : Answer) →
      IsAnswered (IsTextFor (request_of config) input) (IsRefusalFor (Text layout) (request_of config) input) before after answer →
      IsAnswered (IsTextOf text input) (IsRefusal (Text layout) text input) before after answer
  pub refusals : (input before after : List ℕ) (answer : Answer) →
      IsExplained (HasBinaryFor (request_of config) input) (IsRefusalFor Binary (request_of config) input) before after answer →
      IsExplained (HasBinary text input) (IsRefusal Binary text input) before after answer
