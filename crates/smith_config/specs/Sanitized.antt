-- Configurations without contradictions between fields. Rules of this project.
use Rattle.std.specs.Prelude.{◌≡◌, ◌≤◌, ◌⊎◌, false, ◌&&◌, IsTrue, IsSome, None, is_some, min, if◌then◌else◌}
use Rattle.smith_config.specs.declared.config.Config.{Config}

-- a configuration in which a field that requires another is on only if that is on, there is at most
-- one table without reference types, and a module shape replaces the other shapes
abbrev pub sanitized : Config → Config
sanitized config =
    let gc = config.reference_types_enabled && config.gc_enabled in
    record config {
      max_tables = if config.reference_types_enabled then config.max_tables else min config.max_tables 1;
      gc_enabled = gc;
      shared_everything_threads_enabled = gc && config.threads_enabled && config.shared_everything_threads_enabled;
      custom_descriptors_enabled = gc && config.custom_descriptors_enabled;
      multibyte_array_access_enabled = gc && config.multibyte_array_access_enabled;
      non_nullable_enabled = gc && config.non_nullable_enabled;
      relaxed_simd_enabled = config.simd_enabled && config.relaxed_simd_enabled;
      acquire_release_atomics_enabled = config.threads_enabled && config.acquire_release_atomics_enabled;
      available_imports = if is_some config.module_shape then None else config.available_imports;
      exports = if is_some config.module_shape then None else config.exports;
    }

-- no field that is on requires a field that is off, several tables require reference types, and a
-- module shape excludes the other shapes
pub record IsSanitized (config : Config) : Type 0 where
  pub one_table : config.reference_types_enabled ≡ false → config.max_tables ≤ 1
  pub gc : IsTrue config.gc_enabled → IsTrue config.reference_types_enabled
  pub shared_gc : IsTrue config.shared_everything_threads_enabled → IsTrue config.gc_enabled
  pub shared_threads : IsTrue config.shared_everything_threads_enabled → IsTrue config.threads_enabled
  pub descriptors : IsTrue config.custom_descriptors_enabled → IsTrue config.gc_enabled
  pub multibyte : IsTrue config.multibyte_array_access_enabled → IsTrue config.gc_enabled
  pub non_nullable : IsTrue config.non_nullable_enabled → IsTrue config.gc_enabled
  pub relaxed : IsTrue config.relaxed_simd_enabled → IsTrue config.simd_enabled
  pub atomics : IsTrue config.acquire_release_atomics_enabled → IsTrue config.threads_enabled
  pub imports : IsSome config.module_shape → config.available_imports ≡ None
  pub exports : IsSome config.module_shape → config.exports ≡ None

-- `new` is `old` with each of these ten fields turned off, lowered, cleared or unchanged
pub record IsLowered (old new : Config) : Type 0 where
  pub tables : new.max_tables ≤ old.max_tables
  pub gc : IsTrue new.gc_enabled → IsTrue old.gc_enabled
  pub shared : IsTrue new.shared_everything_threads_enabled → IsTrue old.shared_everything_threads_enabled
  pub descriptors : IsTrue new.custom_descriptors_enabled → IsTrue old.custom_descriptors_enabled
  pub multibyte : IsTrue new.multibyte_array_access_enabled → IsTrue old.multibyte_array_access_enabled
  pub non_nullable : IsTrue new.non_nullable_enabled → IsTrue old.non_nullable_enabled
  pub relaxed : IsTrue new.relaxed_simd_enabled → IsTrue old.relaxed_simd_enabled
  pub atomics : IsTrue new.acquire_release_atomics_enabled → IsTrue old.acquire_release_atomics_enabled
  pub imports : (new.available_imports ≡ None) ⊎ (new.available_imports ≡ old.available_imports)
  pub exports : (new.exports ≡ None) ⊎ (new.exports ≡ old.exports)
  pub others : new ≡ record old {
    max_tables = new.max_tables;
    gc_enabled = new.gc_enabled;
    shared_everything_threads_enabled = new.shared_everything_threads_enabled;
    custom_descriptors_enabled = new.custom_descriptors_enabled;
    multibyte_array_access_enabled = new.multibyte_array_access_enabled;
    non_nullable_enabled = new.non_nullable_enabled;
    relaxed_simd_enabled = new.relaxed_simd_enabled;
    acquire_release_atomics_enabled = new.acquire_release_atomics_enabled;
    available_imports = new.available_imports;
    exports = new.exports;
  }
