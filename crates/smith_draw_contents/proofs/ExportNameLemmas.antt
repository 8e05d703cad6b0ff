-- The names of exports: a new name after them, and a set that has them.
use Rattle.smith_draw_contents.proofs.Common.{[], ap, arith, Bool, Export, false, Global, HashSet, if◌then◌else◌, length, length-append}
use Rattle.smith_draw_contents.proofs.Common.{List, refl, String, sym, true, ℕ, ◌++◌, ◌<◌, ◌^◌, ◌∙◌, ◌∷◌, ◌≡◌, ◌≤◌}
use Rattle.std.proofs.Common.{◌||◌}
use Rattle.std.specs.Str.{bytes_eq}
use Rattle.std.specs.Fmt.{decimal}
use Rattle.std.specs.HashSet.{contains_text}
use Rattle.std.proofs.lemmas.Fmt.{decimal_nonempty}
use Rattle.std.proofs.lemmas.Slice.Eq.{bytes_eq-Decides}
use Rattle.std.proofs.lemmas.List.Folds.{list_any-append}
use Rattle.smith_bytes.specs.Names.{text_at, IsMadeNew, AddsName, IsNewName}
use Rattle.smith_draw_contents.specs.Exporting.{is_exported, longest_export, export_name_at, HasNames}
use Rattle.smith_bytes.proofs.NewNameLemmas.{new_name_is, new_by}

short_by : (name : List ℕ) (one : Export) (exports : List Export) (b : Bool) → bytes_eq one.0 name ≡ b → (b || is_exported exports name)
    ≡ true
    → (is_exported exports name ≡ true → length name ≤ longest_export exports) → length name ≤ longest_export (one ∷ exports)
short_by name one exports true same there later = omega (arith, ap length ((bytes_eq-Decides one.0 name).0 same))
short_by name one exports false same there later = omega (arith, later there)

-- a name that an export has is no longer than the longest
pub exported_short : (name : List ℕ) (exports : List Export) → is_exported exports name ≡ true → length name ≤ longest_export exports
exported_short name [] there = absurd cc
exported_short name (one ∷ exports) there = short_by name one exports (bytes_eq one.0 name) refl there (exported_short name exports)

-- a text made new among names
made_new : {S : Type 0} {names : HashSet (String Global) S} {exports : List Export} {text name : List ℕ} → HasNames names exports
    → length exports < 2 ^ 64 → IsMadeNew names text name → IsNewName (is_exported exports) (decimal (length exports)) text name
made_new {names = names} {exports = exports} {text = text} {name = name} known few made =
    new_by {taken = contains_text names} (is_exported exports) known.has (record {
      copies = made.copies;
      made = rw known.size at made.made;
      fresh = made.fresh;
      some = decimal_nonempty (length exports) few;
      needed = rw known.size at made.needed;
    })

-- the name that is drawn after exports
pub export_named : {S : Type 0} {names : HashSet (String Global) S} {exports : List Export} {rest name : List ℕ} (bytes : List ℕ)
    → HasNames names exports → length exports < 2 ^ 64 → IsMadeNew names (text_at 1000 bytes).0 name → rest ≡ (text_at 1000 bytes).1
    → export_name_at exports bytes ≡ (name, rest)
unfolding export_name_at
export_named {exports = exports} {name = name} bytes known few made rest =
    let is = new_name_is (is_exported exports) (decimal (length exports)) (text_at 1000 bytes).0 name (longest_export exports)
    (λ other there. exported_short other exports there) (made_new known few made) in
    rw (is, rest) refl

or_either : (a b : Bool) → (if a then true else b) ≡ (b || (a || false))
or_either true true = refl
or_either true false = refl
or_either false true = refl
or_either false false = refl

-- a set with one more name has the names of one more export
pub names_more : {S : Type 0} {old new : HashSet (String Global) S} {exports : List Export} (added : Export) → HasNames old exports
    → AddsName old new added.0 → HasNames new (exports ++ added ∷ [])
names_more {exports = exports} added known more = record {
  has = λ name. more.has name ∙ rw (known.has name) (or_either (bytes_eq added.0 name) (is_exported exports name))
      ∙ sym (list_any-append (λ (one : Export). bytes_eq one.0 name) exports (added ∷ []));
  size = more.size ∙ rw (known.size, length-append) refl;
}
