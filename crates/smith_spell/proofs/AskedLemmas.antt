-- Minimums one by one, and the minimums, shapes and export-everything that sanitising keeps.
use Rattle.smith_spell.proofs.Common.{All, Config, rules, sanitized, sym, ℕ, ◌∙◌, ◌≡◌}
use Rattle.std.proofs.Common.{map}
use Rattle.std.specs.Prelude.{slice_index_or}
use Rattle.std.proofs.lemmas.List.Elements.{All-map, recursion_from_All}
use Rattle.smith_bytes.specs.declared.error.Count.{Count}
use Rattle.smith_bytes.specs.declared.error.Count.TheVariants.{Types, Imports, Tags, Funcs, Globals, Exports, ElementSegments, Elements}
use Rattle.smith_bytes.specs.declared.error.Count.TheVariants.{DataSegments, Memories, Tables}
use Rattle.smith_config.specs.Faults.{counts, minimum_of}
use Rattle.smith_config.specs.Minimums.{HasNoMinimums}
use Rattle.smith_spell.specs.Decided.{AsksForNothing}

-- there are no minimums if each is 0
pub zero_each : (config : Config) → All (λ minimum. minimum ≡ 0) (map (minimum_of config) counts) → HasNoMinimums config
zero_each config all count =
    let zero = recursion_from_All (λ (minimum : ℕ). minimum ≡ 0) (map (minimum_of config) counts) all in
    elim count as (λ k. minimum_of config k ≡ 0) [
      | Types ↦ zero.0
      | Imports ↦ zero.1.0
      | Tags ↦ zero.1.1.0
      | Funcs ↦ zero.1.1.1.0
      | Globals ↦ zero.1.1.1.1.0
      | Exports ↦ zero.1.1.1.1.1.0
      | ElementSegments ↦ zero.1.1.1.1.1.1.0
      | Elements ↦ zero.1.1.1.1.1.1.1.0
      | DataSegments ↦ zero.1.1.1.1.1.1.1.1.0
      | Memories ↦ zero.1.1.1.1.1.1.1.1.1.0
      | Tables ↦ zero.1.1.1.1.1.1.1.1.1.1.0
    ]

pub each_zero : (config : Config) → HasNoMinimums config → All (λ minimum. minimum ≡ 0) (map (minimum_of config) counts)
each_zero config none = All-map (λ (minimum : ℕ). minimum ≡ 0) (minimum_of config) counts
    (λ k other _. none (slice_index_or counts k other))

-- sanitising changes no minimum
same_minimum : (config : Config) (count : Count) → minimum_of (sanitized config) count ≡ minimum_of config count
same_minimum config count = search rules

-- sanitising adds no shape, and never removes the only one
pub asked_once_sanitised : (config : Config) → AsksForNothing config → AsksForNothing (sanitized config)
asked_once_sanitised config h =
    let alone = h.no_shapes.module_shape in
    record {
      no_minimums = λ count. same_minimum config count ∙ h.no_minimums count;
      no_shapes = record {
        available_imports = rw alone h.no_shapes.available_imports;
        exports = rw alone h.no_shapes.exports;
        module_shape = alone;
      };
      not_everything = h.not_everything;
    }

pub asked_at_first : (config : Config) → AsksForNothing (sanitized config) → AsksForNothing config
asked_at_first config h =
    let alone = h.no_shapes.module_shape in
    record {
      no_minimums = λ count. sym (same_minimum config count) ∙ h.no_minimums count;
      no_shapes = record {
        available_imports = rw alone at h.no_shapes.available_imports;
        exports = rw alone at h.no_shapes.exports;
        module_shape = alone;
      };
      not_everything = h.not_everything;
    }
