-- Exports that fit, with one more.
use Rattle.smith_draw_contents.proofs.Common.{[], All-cons, All-nil, arith, Config, EntitySpaces, Export, false, IsStanding, item_size}
use Rattle.smith_draw_contents.proofs.Common.{List, map, map-append, slice_get, SubType, sym, true, ℕ, ◌++◌, ◌+◌, ◌∙◌, ◌∷◌, ◌≡◌, ◌≤◌}
use Rattle.std.specs.Prelude.{Some}
use Rattle.std.specs.Str.{bytes_eq}
use Rattle.std.proofs.lemmas.List.Elements.{All-append}
use Rattle.std.proofs.lemmas.List.Sums.{sum_by-append}
use Rattle.std.proofs.lemmas.Map.Keys.{any_passes_from_place}
use Rattle.std.proofs.lemmas.Slice.Eq.{bytes_eq-Decides}
use Rattle.smith_types.specs.Exports.{AreExportsValid}
use Rattle.smith_draw_contents.specs.Exporting.{is_exported}
use Rattle.smith_draw_contents.specs.Exported.{AreExportsFit}
use Rattle.smith_types.proofs.ListLemmas.{mapped_at}
use Rattle.smith_types.proofs.DistinctLemmas.{distinct_push}

-- no export fits after imports that fit
pub none_fit : (config : Config) (types : List SubType) (spaces : EntitySpaces) (imports : ℕ) → imports ≤ config.max_type_size
    → AreExportsFit config types spaces imports [] imports
none_fit config types spaces imports within = record {
  valid = record {
    stand = All-nil (λ (one : Export). IsStanding spaces one.1 one.2);
    distinct = record { once = λ i j item at there. absurd cc };
  };
  type_size = omega arith;
  within = within;
}

not_there : (exports : List Export) (name : List ℕ) → is_exported exports name ≡ false → (i : ℕ)
    → slice_get (map (λ (one : Export). one.0) exports) i ≡ Some name → ⊥
not_there exports name fresh i there =
    let (other, at, alike) = mapped_at exports i name there in
    let same : bytes_eq other.0 name ≡ true = (bytes_eq-Decides other.0 name).1 alike in
    let taken : is_exported exports name ≡ true = any_passes_from_place (λ (one : Export). bytes_eq one.0 name) exports i other at same in
    absurd (cc (sym fresh ∙ taken))

-- one more export of an existing item under a new name is valid too
pub valid_push : {spaces : EntitySpaces} {exports : List Export} (one : Export) → AreExportsValid spaces exports → is_exported exports one.0
    ≡ false → IsStanding spaces one.1 one.2 → AreExportsValid spaces (exports ++ one ∷ [])
valid_push {spaces = spaces} {exports = exports} one valid fresh stands =
    let P = λ (each : Export). IsStanding spaces each.1 each.2 in
    record {
      stand = All-append P exports (one ∷ []) valid.stand (All-cons P one [] stands (All-nil P));
      distinct = rw map-append (distinct_push (map (λ (each : Export). each.0) exports) one.0 valid.distinct
          (not_there exports one.0 fresh));
    }

-- one more export under a new name fits too, of an existing item for which there is room
pub fit_push : {config : Config} {types : List SubType} {spaces : EntitySpaces} {imports : ℕ} {exports : List Export} {size : ℕ}
    (one : Export) → AreExportsFit config types spaces imports exports size → is_exported exports one.0 ≡ false
    → IsStanding spaces one.1 one.2 → size + (item_size types spaces one.1 one.2 + 1) ≤ config.max_type_size
    → AreExportsFit config types spaces imports (exports ++ one ∷ []) (size + (item_size types spaces one.1 one.2 + 1))
fit_push {types = types} {spaces = spaces} {exports = exports} one fit fresh stands room =
    let more = sum_by-append (λ (each : Export). item_size types spaces each.1 each.2 + 1) exports (one ∷ []) in
    record {
      valid = valid_push one fit.valid fresh stands;
      type_size = omega (arith, more, fit.type_size);
      within = room;
    }
