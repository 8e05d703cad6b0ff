-- The WebAssembly features that a module may use.
use Rattle.std.specs.Prelude.{Bool, true}

-- the enabled features, each named after its flag
pub record Features : Type 0 where
  pub mutable_global : Bool
  pub wasm1 : Bool
  pub saturating_float_to_int : Bool
  pub sign_extension : Bool
  pub reference_types : Bool
  pub multi_value : Bool
  pub bulk_memory : Bool
  pub simd : Bool
  pub relaxed_simd : Bool
  pub multi_memory : Bool
  pub exceptions : Bool
  pub memory64 : Bool
  pub tail_call : Bool
  pub function_references : Bool
  pub gc : Bool
  pub compact_imports : Bool
  pub threads : Bool
  pub shared_everything_threads : Bool
  pub custom_page_sizes : Bool
  pub extended_const : Bool
  pub wide_arithmetic : Bool
  pub acquire_release_atomics : Bool
  pub multibyte_array_access : Bool
  pub custom_descriptors : Bool

-- all features
abbrev pub every_feature : Features
every_feature = record {
  mutable_global = true;
  wasm1 = true;
  saturating_float_to_int = true;
  sign_extension = true;
  reference_types = true;
  multi_value = true;
  bulk_memory = true;
  simd = true;
  relaxed_simd = true;
  multi_memory = true;
  exceptions = true;
  memory64 = true;
  tail_call = true;
  function_references = true;
  gc = true;
  compact_imports = true;
  threads = true;
  shared_everything_threads = true;
  custom_page_sizes = true;
  extended_const = true;
  wide_arithmetic = true;
  acquire_release_atomics = true;
  multibyte_array_access = true;
  custom_descriptors = true;
}
