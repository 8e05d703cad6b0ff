-- Features used by the examples.
use Rattle.std.specs.Prelude.{true, false}
use Rattle.smith_types.specs.Common.{Features}
use Rattle.smith_syntax.specs.Features.{every_feature}

-- all features except exact references
abbrev pub usual_features : Features
usual_features = record every_feature { custom_descriptors = false }

-- the usual features without garbage collection
abbrev pub without_gc : Features
without_gc = record usual_features { gc = false }

-- no features
abbrev pub no_features : Features
no_features = record {
  mutable_global = false;
  wasm1 = false;
  saturating_float_to_int = false;
  sign_extension = false;
  reference_types = false;
  multi_value = false;
  bulk_memory = false;
  simd = false;
  relaxed_simd = false;
  multi_memory = false;
  exceptions = false;
  memory64 = false;
  tail_call = false;
  function_references = false;
  gc = false;
  compact_imports = false;
  threads = false;
  shared_everything_threads = false;
  custom_page_sizes = false;
  extended_const = false;
  wide_arithmetic = false;
  acquire_release_atomics = false;
  multibyte_array_access = false;
  custom_descriptors = false;
}

-- garbage collection alone
abbrev pub gc_alone : Features
gc_alone = record no_features { gc = true }
