-- Names inserted into a set one after another.
use Rattle.std.proofs.Common.{◌≡◌, ℕ, zero, suc, ◌+◌, ◌<◌, List, [], ◌∷◌, ◌++◌, Some, Bool, true, false, not, cond, length, map, take, drop}
use Rattle.std.proofs.Common.{get_or, refl, sym, ap, ◌∙◌, subst, arith, inl, inr, add-one}
use Rattle.std.specs.Prelude.{slice_get}
use Rattle.std.specs.Str.{bytes_eq}
use Rattle.std.proofs.Math.Seq.{split_at, take-suc}
use Rattle.std.proofs.lemmas.Option.{slice_get_within}
use Rattle.std.proofs.lemmas.Slice.Eq.{bytes_eq-Decides}
use Rattle.smith_types.specs.Exports.{AreDistinct}
use Rattle.smith_types.specs.Syntax.entity_type.ExportKind.{ExportKind}
use Rattle.smith_types.proofs.ListLemmas.{slice_get-push, slice_get-grown}

-- whether a name is among these
abbrev pub has : List (List ℕ) → List ℕ → Bool
has [] q = false
has (name ∷ names) q = cond (bytes_eq name q) true (has names q)

has-push : (names : List (List ℕ)) (name q : List ℕ) → has (names ++ name ∷ []) q ≡ cond (bytes_eq name q) true (has names q)
has-push [] name q = refl
has-push (x ∷ names) name q = elim (bytes_eq x q) as (λ b. cond b true (has (names ++ name ∷ []) q) ≡ cond (bytes_eq name q) true
    (cond b true (has names q))) [
      | true ↦ elim (bytes_eq name q) as (λ b. true ≡ cond b true true) [ true ↦ refl | false ↦ refl ]
      | false ↦ has-push names name q
    ]

has_there : (names : List (List ℕ)) (i : ℕ) (name : List ℕ) → slice_get names i ≡ Some name → has names name ≡ true
has_there [] i name at = cc
has_there (x ∷ names) zero name at =
    let same : x ≡ name = cc in
    let yes : bytes_eq x name ≡ true = (bytes_eq-Decides x name).1 same in rw yes refl
has_there (x ∷ names) (suc i) name at =
    let later = has_there names i name at in
    elim (bytes_eq x name) as (λ b. cond b true (has names name) ≡ true) [ true ↦ refl | false ↦ later ]

at_head : (x name : List ℕ) (names : List (List ℕ)) (b : Bool) → bytes_eq x name ≡ b
    → (has names name ≡ true → (i : ℕ) × (slice_get names i ≡ Some name)) → cond b true (has names name) ≡ true
    → (i : ℕ) × (slice_get (x ∷ names) i ≡ Some name)
at_head x name names true is later h = (zero, ap Some ((bytes_eq-Decides x name).0 is))
at_head x name names false is later h = let (i, at) = later h in (suc i, at)

there_from_has : (names : List (List ℕ)) (name : List ℕ) → has names name ≡ true → (i : ℕ) × (slice_get names i ≡ Some name)
there_from_has [] name h = cc
there_from_has (x ∷ names) name h = at_head x name names (bytes_eq x name) refl (there_from_has names name) h

distinct_push : (names : List (List ℕ)) (name : List ℕ) → has names name ≡ false → AreDistinct names → AreDistinct (names ++ name ∷ [])
distinct_push names name new before = record {
  once = λ i j item at there. elim (slice_get-push names name i item at) [
    | inl old ↦ elim (slice_get-push names name j item there) [
      | inl again ↦ before.once i j item old again
      | inr (is, same) ↦ let yes = has_there names i item old in let no : has names item ≡ false =
          subst (λ (n : List ℕ). has names n ≡ false) same new in cc
    ]
    | inr (is, same) ↦ elim (slice_get-push names name j item there) [
      | inl again ↦ let yes = has_there names j item again in let no : has names item ≡ false =
          subst (λ (n : List ℕ). has names n ≡ false) same new in cc
      | inr (also, _) ↦ is ∙ sym also
    ]
  ];
}

at_seam : (names more : List (List ℕ)) (name : List ℕ) → slice_get (names ++ name ∷ more) (length names) ≡ Some name
at_seam [] more name = refl
at_seam (x ∷ names) more name = at_seam names more name

not_distinct : (names more : List (List ℕ)) (name : List ℕ) → has names name ≡ true → AreDistinct (names ++ name ∷ more) → ⊥
not_distinct names more name old distinct =
    let (i, at) = there_from_has names name old in
    let inside : i < length names = slice_get_within names i name at in
    let same : i ≡ length names = distinct.once i (length names) name (slice_get-grown names (name ∷ more) i name at)
    (at_seam names more name) in
    omega arith

-- the names of exports
abbrev pub names_of : List (List ℕ × ExportKind × ℕ) → List (List ℕ)
names_of exports = map (λ (one : List ℕ × ExportKind × ℕ). one.0) exports

names_append : (xs ys : List (List ℕ × ExportKind × ℕ)) → names_of (xs ++ ys) ≡ names_of xs ++ names_of ys
names_append [] ys = refl
names_append (x ∷ xs) ys = ap (λ (more : List (List ℕ)). x.0 ∷ more) (names_append xs ys)

module _ (exports : List (List ℕ × ExportKind × ℕ)) (i : ℕ) (one d : List ℕ × ExportKind × ℕ) (inside : i < length exports)
    (read : one ≡ get_or exports i d) where
  turn : names_of (take (i + 1) exports) ≡ names_of (take i exports) ++ one.0 ∷ []
  turn =
      ap (λ (n : ℕ). names_of (take n exports)) (add-one i) ∙ ap names_of (take-suc exports i d inside) ∙ names_append (take i exports)
      (get_or exports i d ∷ [])
      ∙ ap (λ (x : List ℕ × ExportKind × ℕ). names_of (take i exports) ++ x.0 ∷ []) (sym read)

  pub known_turn : (q : List ℕ) (old new : Bool) → old ≡ has (names_of (take i exports)) q → new ≡ cond (bytes_eq one.0 q) true old
      → new ≡ has (names_of (take (i + 1) exports)) q
  known_turn q old new known is =
      is ∙ ap (λ (b : Bool). cond (bytes_eq one.0 q) true b) known ∙ sym (has-push (names_of (take i exports)) one.0 q)
      ∙ ap (λ (names : List (List ℕ)). has names q) (sym turn)

  pub distinct_turn : has (names_of (take i exports)) one.0 ≡ false → AreDistinct (names_of (take i exports))
      → AreDistinct (names_of (take (i + 1) exports))
  distinct_turn new before = subst (λ (names : List (List ℕ)). AreDistinct names) (sym turn)
      (distinct_push (names_of (take i exports)) one.0 new before)

  pub twice : has (names_of (take i exports)) one.0 ≡ true → AreDistinct (names_of exports) → ⊥
  twice old distinct =
      let cut : names_of exports ≡ names_of (take i exports) ++ one.0 ∷ names_of (drop (suc i) exports) =
      ap names_of (split_at exports i d inside) ∙ names_append (take i exports) (get_or exports i d ∷ drop (suc i) exports)
      ∙ ap (λ (x : List ℕ × ExportKind × ℕ). names_of (take i exports) ++ x.0 ∷ names_of (drop (suc i) exports)) (sym read) in
      not_distinct (names_of (take i exports)) (names_of (drop (suc i) exports)) one.0 old
      (subst (λ (names : List (List ℕ)). AreDistinct names) cut distinct)

pub not_false : (b : Bool) → not b ≡ false → b ≡ true
not_false true h = refl
not_false false h = cc

pub not_true : (b : Bool) → not b ≡ true → b ≡ false
not_true true h = cc
not_true false h = refl
