-- Names of exports, each of which is new.
use Rattle.smith_check_module.proofs.Common.{ap, arith, Bool, bytes_eq, cond, ExportKind, false, inl, inr, IsTrue, length, List, refl}
use Rattle.smith_check_module.proofs.Common.{same_Some, slice_get, slice_get_past, Some, sym, true, ℕ, ◌+◌, ◌<◌, ◌↔◌, ◌∙◌, ◌≡◌}
use Rattle.std.proofs.Common.{◌⊎◌}
use Rattle.std.proofs.lemmas.Slice.Eq.{bytes_eq-Decides}
use Rattle.smith_check_module.specs.Judges.{IsFirstRepeated, IsNameUnused}

module _ (exports : List (List ℕ × ExportKind × ℕ)) where
  -- an export before an index has a name
  pub IsNameUsed : ℕ → List ℕ → Type 0
  IsNameUsed index name =
      (k : ℕ) × (other : List ℕ × ExportKind × ℕ) × (k < index) × (slice_get exports k ≡ Some other) × (other.0 ≡ name)

  -- each export before an index has a new name
  pub AreNew : ℕ → Type 0
  AreNew index = (k : ℕ) (one : List ℕ × ExportKind × ℕ) → k < index → slice_get exports k ≡ Some one → IsNameUnused exports k one.0

  below_or_at : (k index : ℕ) → k < index + 1 → (k < index) ⊎ (k ≡ index)
  below_or_at k index low = grind arith

  module _ (index : ℕ) (one : List ℕ × ExportKind × ℕ) (at : slice_get exports index ≡ Some one) where
    used_more : (q : List ℕ) (old new b : Bool) → IsTrue old ↔ IsNameUsed index q → bytes_eq one.0 q ≡ b → new ≡ cond b true old
        → IsTrue new ↔ IsNameUsed (index + 1) q
    unfolding IsNameUsed
    used_more q old new true known same is = (
      λ yes. (index, one, omega arith, at, (bytes_eq-Decides one.0 q).0 same),
      λ used. is,
    )
    used_more q old new false known same is = (
      λ yes. let (k, other, low, there, named) = known.0 (sym is ∙ yes) in (k, other, omega arith, there, named),
      λ (k, other, low, there, named). elim (below_or_at k index low) [
        | inl before ↦ is ∙ known.1 (k, other, before, there, named)
        | inr here ↦
            let which : one ≡ other = same_Some one other (sym at ∙ ap (slice_get exports) (sym here) ∙ there) in
            let yes : bytes_eq one.0 q ≡ true = (bytes_eq-Decides one.0 q).1 (ap (λ (e : List ℕ × ExportKind × ℕ). e.0) which ∙ named) in
            absurd cc
      ],
    )

    pub used_next : (q : List ℕ) (old new : Bool) → IsTrue old ↔ IsNameUsed index q → new ≡ cond (bytes_eq one.0 q) true old
        → IsTrue new ↔ IsNameUsed (index + 1) q
    used_next q old new known is = used_more q old new (bytes_eq one.0 q) known refl is

    pub new_next : (old : Bool) → IsTrue old ↔ IsNameUsed index one.0 → old ≡ false → AreNew index → AreNew (index + 1)
    unfolding IsNameUsed AreNew
    new_next old known none new = λ k two low there. elim (below_or_at k index low) [
      | inl before ↦ new k two before there
      | inr here ↦ λ earlier other before place named.
          let which : one ≡ two = same_Some one two (sym at ∙ ap (slice_get exports) (sym here) ∙ there) in
          let used : IsTrue old = known.1 (
            earlier,
            other,
            omega arith,
            place,
            named ∙ sym (ap (λ (e : List ℕ × ExportKind × ℕ). e.0) which),
          ) in
          absurd cc
    ]

    pub repeated_here : IsNameUsed index one.0 → AreNew index → IsFirstRepeated exports index
    unfolding IsNameUsed AreNew
    repeated_here (k, other, low, there, named) new = record {
      before = new;
      repeated = λ two place unused.
          let which : one ≡ two = same_Some one two (sym at ∙ place) in
          unused k other low there (named ∙ ap (λ (e : List ℕ × ExportKind × ℕ). e.0) which);
    }

  pub none_used : (q : List ℕ) → IsNameUsed 0 q → ⊥
  unfolding IsNameUsed
  none_used q (k, other, low, there, named) = omega arith

  pub none_old : AreNew 0
  unfolding AreNew
  none_old = λ k one low there. absurd (omega arith)

  pub none_repeated : AreNew (length exports) → IsFirstRepeated exports (length exports)
  unfolding AreNew
  none_repeated new = record {
    before = new;
    repeated = λ one at unused. let past = slice_get_past exports (length exports) (omega arith) in absurd cc;
  }
