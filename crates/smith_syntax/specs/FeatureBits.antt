-- Sets of features as bits.
use Rattle.std.specs.Prelude.{ℕ, Bool, List, [], ◌∷◌, codes, ◌==◌, bit_and, bit_or, if◌then◌else◌}
use Rattle.smith_syntax.specs.declared.features.WasmFeatures.{WasmFeatures}
use Rattle.smith_syntax.specs.Features.{Features}

-- the bits of a set
abbrev pub bits_of : WasmFeatures → ℕ
bits_of set = set.0

-- the name and the bit of each feature
abbrev pub feature_table : List (List ℕ × ℕ)
feature_table =
    (codes "MUTABLE_GLOBAL", 1) ∷
    (codes "WASM1", 2) ∷
    (codes "SATURATING_FLOAT_TO_INT", 4) ∷
    (codes "SIGN_EXTENSION", 8) ∷
    (codes "REFERENCE_TYPES", 16) ∷
    (codes "MULTI_VALUE", 32) ∷
    (codes "BULK_MEMORY", 64) ∷
    (codes "SIMD", 128) ∷
    (codes "RELAXED_SIMD", 256) ∷
    (codes "MULTI_MEMORY", 512) ∷
    (codes "EXCEPTIONS", 1024) ∷
    (codes "MEMORY64", 2048) ∷
    (codes "TAIL_CALL", 4096) ∷
    (codes "FUNCTION_REFERENCES", 8192) ∷
    (codes "GC", 16384) ∷
    (codes "COMPACT_IMPORTS", 32768) ∷
    (codes "THREADS", 65536) ∷
    (codes "SHARED_EVERYTHING_THREADS", 131072) ∷
    (codes "CUSTOM_PAGE_SIZES", 262144) ∷
    (codes "EXTENDED_CONST", 524288) ∷
    (codes "WIDE_ARITHMETIC", 1048576) ∷
    (codes "ACQUIRE_RELEASE_ATOMICS", 2097152) ∷
    (codes "MULTIBYTE_ARRAY_ACCESS", 4194304) ∷
    (codes "CUSTOM_DESCRIPTORS", 8388608) ∷
    []

-- whether each feature is in a set, and its bit
abbrev pub feature_rows : Features → List (Bool × ℕ)
feature_rows features =
    (features.mutable_global, 1) ∷
    (features.wasm1, 2) ∷
    (features.saturating_float_to_int, 4) ∷
    (features.sign_extension, 8) ∷
    (features.reference_types, 16) ∷
    (features.multi_value, 32) ∷
    (features.bulk_memory, 64) ∷
    (features.simd, 128) ∷
    (features.relaxed_simd, 256) ∷
    (features.multi_memory, 512) ∷
    (features.exceptions, 1024) ∷
    (features.memory64, 2048) ∷
    (features.tail_call, 4096) ∷
    (features.function_references, 8192) ∷
    (features.gc, 16384) ∷
    (features.compact_imports, 32768) ∷
    (features.threads, 65536) ∷
    (features.shared_everything_threads, 131072) ∷
    (features.custom_page_sizes, 262144) ∷
    (features.extended_const, 524288) ∷
    (features.wide_arithmetic, 1048576) ∷
    (features.acquire_release_atomics, 2097152) ∷
    (features.multibyte_array_access, 4194304) ∷
    (features.custom_descriptors, 8388608) ∷
    []

-- whether all bits of `wanted` are set in `bits`
abbrev pub has : ℕ → ℕ → Bool
has bits wanted = bit_and bits wanted == wanted

-- `bits` together with `others`, if `wanted` is true; else `bits`
unfoldable pub joined : ℕ → Bool → ℕ → ℕ
joined bits wanted others = if wanted then bit_or bits others else bits

-- the features whose bits are in a set
abbrev pub features_in : WasmFeatures → Features
features_in set = record {
  mutable_global = has set.0 1;
  wasm1 = has set.0 2;
  saturating_float_to_int = has set.0 4;
  sign_extension = has set.0 8;
  reference_types = has set.0 16;
  multi_value = has set.0 32;
  bulk_memory = has set.0 64;
  simd = has set.0 128;
  relaxed_simd = has set.0 256;
  multi_memory = has set.0 512;
  exceptions = has set.0 1024;
  memory64 = has set.0 2048;
  tail_call = has set.0 4096;
  function_references = has set.0 8192;
  gc = has set.0 16384;
  compact_imports = has set.0 32768;
  threads = has set.0 65536;
  shared_everything_threads = has set.0 131072;
  custom_page_sizes = has set.0 262144;
  extended_const = has set.0 524288;
  wide_arithmetic = has set.0 1048576;
  acquire_release_atomics = has set.0 2097152;
  multibyte_array_access = has set.0 4194304;
  custom_descriptors = has set.0 8388608;
}
