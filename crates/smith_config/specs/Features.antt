-- The features that a configuration enables. Rules of this project.
use Rattle.std.specs.Prelude.{ℕ, Bool, true, sum_by, nat_lt, if◌then◌else◌}
use Rattle.smith_types.specs.Syntax.Features.{Features}
use Rattle.smith_types.specs.Syntax.FeatureBits.{feature_rows}
use Rattle.smith_config.specs.declared.config.Config.{Config}

-- the features that a configuration enables: always mutable globals and version 1.0 of the
-- standard; multi-memory if it allows several memories; function references if garbage collection
-- is enabled; each other feature if its field is true
abbrev pub features_of : Config → Features
features_of config = record {
  mutable_global = true;
  wasm1 = true;
  saturating_float_to_int = config.saturating_float_to_int_enabled;
  sign_extension = config.sign_extension_ops_enabled;
  reference_types = config.reference_types_enabled;
  multi_value = config.multi_value_enabled;
  bulk_memory = config.bulk_memory_enabled;
  simd = config.simd_enabled;
  relaxed_simd = config.relaxed_simd_enabled;
  multi_memory = nat_lt 1 config.max_memories;
  exceptions = config.exceptions_enabled;
  memory64 = config.memory64_enabled;
  tail_call = config.tail_call_enabled;
  function_references = config.gc_enabled;
  gc = config.gc_enabled;
  compact_imports = config.compact_imports_enabled;
  threads = config.threads_enabled;
  shared_everything_threads = config.shared_everything_threads_enabled;
  custom_page_sizes = config.custom_page_sizes_enabled;
  extended_const = config.extended_const_enabled;
  wide_arithmetic = config.wide_arithmetic_enabled;
  acquire_release_atomics = config.acquire_release_atomics_enabled;
  multibyte_array_access = config.multibyte_array_access_enabled;
  custom_descriptors = config.custom_descriptors_enabled;
}

-- the bit of an enabled feature, or 0
abbrev pub bit_of : Bool × ℕ → ℕ
bit_of row = if row.0 then row.1 else 0

-- the features as a number: the sum of the bits of those that are enabled
abbrev pub number_of : Features → ℕ
number_of features = sum_by bit_of (feature_rows features)
