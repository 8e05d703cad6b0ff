-- The direct subtypes of the types of a space, as types are added.
use Rattle.smith_types.proofs.Common.{[], ap, append-nil, arith, Bool, cases_eq, false, get_or, if◌then◌else◌, inl, inr, length}
use Rattle.smith_types.proofs.Common.{length-append, length-set, List, None, refl, same_Some, set, slice_get, slice_get-get_or}
use Rattle.smith_types.proofs.Common.{slice_get_within, Some, subst, SubType, suc, sym, true, zero, ℕ, ◌++◌, ◌+◌, ◌<◌, ◌^◌, ◌∙◌, ◌∷◌, ◌≡◌}
use Rattle.smith_types.proofs.Common.{◌≤◌, ◌⊎◌}
use Rattle.std.proofs.lemmas.Bool.{eq-eqb, ne_eqb}
use Rattle.std.proofs.lemmas.Option.{get_or_from_slice_get}
use Rattle.std.proofs.lemmas.List.{get_or-set_other, get_or-set_same}
use Rattle.smith_types.specs.declared.family.Family.{Family}
use Rattle.smith_types.specs.GroupedTypes.{MayFollow}
use Rattle.smith_types.specs.KindCounts.{indices_from}
use Rattle.smith_types.specs.Families.{is_directly_below, direct_subtypes, AreFamilies}
use Rattle.smith_types.proofs.KindCountLemmas.{count_most, length_indices}
use Rattle.smith_types.proofs.ListLemmas.{slice_get-grown, slice_get-last, slice_get-push}

-- the family of a type without direct subtypes
abbrev pub no_family : Family
no_family = record { count = 0; last = 0; previous = 0 }

-- the items of a list after one was replaced
pub slice_get-set : {A : Type 0} (xs : List A) (j : ℕ) (y : A) (i : ℕ) (x : A) → slice_get (set xs j y) i ≡ Some x → ((i ≡ j) × (y ≡ x))
    ⊎ ((i ≡ j → ⊥) × (slice_get xs i ≡ Some x))
slice_get-set [] j y i x at = inr (λ same. cc, at)
slice_get-set (z ∷ xs) zero y zero x at = inl (refl, same_Some y x at)
slice_get-set (z ∷ xs) zero y (suc i) x at = inr (λ same. omega (arith, same), at)
slice_get-set (z ∷ xs) (suc j) y zero x at = inr (λ same. omega (arith, same), at)
slice_get-set (z ∷ xs) (suc j) y (suc i) x at =
    elim (slice_get-set xs j y i x at) [
      | inl (is, same) ↦ inl (ap suc is, same)
      | inr (other, old) ↦ inr
          (λ same. other (omega (arith, same)), old)
    ]

push_turn : (b : Bool) (first : ℕ) (xs ys more : List ℕ) → ys ≡ xs ++ more → (if b then first ∷ ys else ys) ≡ (if b then first ∷ xs else xs)
    ++ more
push_turn true first xs ys more same = ap (λ (l : List ℕ). first ∷ l) same
push_turn false first xs ys more same = same

-- the indices of the types that satisfy a test, with one more type
indices-push : (test : SubType → Bool) (first last : ℕ) (types : List SubType) (t : SubType) → last ≡ first + length types
    → indices_from test first (types ++ t ∷ []) ≡ indices_from test first types ++ (if test t then last ∷ [] else [])
indices-push test first last [] t is = let same : last ≡ first = omega (arith, is) in rw same refl
indices-push test first last (u ∷ types) t is =
    push_turn (test u) first _ _ _ (indices-push test (first + 1) last types t (omega (arith, is)))

within_turn : (b : Bool) (first i k most : ℕ) (rest : List ℕ) → first < most → ((p : ℕ) → slice_get rest p ≡ Some i → i < most)
    → slice_get (if b then first ∷ rest else rest) k ≡ Some i → i < most
within_turn true first i zero most rest less later at = let same : first ≡ i = same_Some first i at in omega (arith, same, less)
within_turn true first i (suc k) most rest less later at = later k at
within_turn false first i k most rest less later at = later k at

indices_within : (test : SubType → Bool) (first most : ℕ) (types : List SubType) (k i : ℕ) → most ≡ first + length types
    → slice_get (indices_from test first types) k ≡ Some i → i < most
indices_within test first most [] k i is at = cc
indices_within test first most (u ∷ types) k i is at = within_turn (test u) first i k most (indices_from test (first + 1) types)
    (omega (arith, is)) (λ p later. indices_within test (first + 1) most types p i (omega (arith, is)) later) at

direct_within : (types : List SubType) (s k i : ℕ) → slice_get (direct_subtypes types s) k ≡ Some i → i < length types
direct_within types s k i at = indices_within (is_directly_below s) 0 (length types) types k i (omega arith) at

-- a type that is not directly below another leaves its direct subtypes unchanged
direct_same : (types : List SubType) (t : SubType) (s : ℕ) → is_directly_below s t ≡ false → direct_subtypes (types ++ t ∷ []) s
    ≡ direct_subtypes types s
direct_same types t s off = indices-push (is_directly_below s) 0 (length types) types t (omega arith)
    ∙ ap (λ (b : Bool). direct_subtypes types s ++ (if b then length types ∷ [] else [])) off ∙ append-nil (direct_subtypes types s)

-- a type that is directly below another becomes the last of its direct subtypes
direct_more : (types : List SubType) (t : SubType) (s : ℕ) → is_directly_below s t ≡ true → direct_subtypes (types ++ t ∷ []) s
    ≡ direct_subtypes types s ++ length types ∷ []
direct_more types t s on = indices-push (is_directly_below s) 0 (length types) types t (omega arith)
    ∙ ap (λ (b : Bool). direct_subtypes types s ++ (if b then length types ∷ [] else [])) on

pub below_itself : (t : SubType) (s : ℕ) → t.supertype ≡ Some s → is_directly_below s t ≡ true
below_itself t s up = rw up (eq-eqb s s refl)

pub below_other : (t : SubType) (s i : ℕ) → t.supertype ≡ Some s → (i ≡ s → ⊥) → is_directly_below i t ≡ false
below_other t s i up other = rw up (ne_eqb s i (λ same. other (sym same)))

-- a type without a supertype changes no family
pub families_same : (types : List SubType) (t : SubType) (families : List Family) → t.supertype ≡ None → AreFamilies types families
    → AreFamilies (types ++ t ∷ []) families
families_same types t families none h =
    let same : (s : ℕ) → direct_subtypes (types ++ t ∷ []) s ≡ direct_subtypes types s = λ s. direct_same types t s (rw none refl) in
    record {
      count = λ s family at. h.count s family at ∙ ap length (sym (same s));
      last = λ s k family at end. subst (λ (l : List ℕ). slice_get l k ≡ Some family.last) (sym (same s))
          (h.last s k family at (end ∙ ap length (same s)));
      previous = λ s k i family at here. subst (λ (l : List ℕ). slice_get l k ≡ Some family.previous) (sym (same s))
          (h.previous s k i family (subst (λ (l : List ℕ). slice_get l (suc k) ≡ Some i) (same s) at) here);
      within = λ s k i at. h.within s k i (subst (λ (l : List ℕ). slice_get l k ≡ Some i) (same s) at);
      others = λ s past. same s ∙ h.others s past;
    }

-- one more family, of a type without direct subtypes
pub families_more : (types : List SubType) (families : List Family) → AreFamilies types families
    → AreFamilies types (families ++ no_family ∷ [])
families_more types families h = record {
  count = λ s family at. elim (slice_get-push families no_family s family at) [
    | inl old ↦ h.count s family old
    | inr (is, same) ↦ ap (λ (f : Family). f.count) (sym same) ∙ ap length (sym (h.others s (omega (arith, is))))
  ];
  last = λ s k family at end. elim (slice_get-push families no_family s family at) [
    | inl old ↦ h.last s k family old end
    | inr (is, same) ↦ let none : suc k ≡ 0 = end ∙ ap length (h.others s (omega (arith, is))) in absurd (omega (arith, none))
  ];
  previous = λ s k i family at here. elim (slice_get-push families no_family i family here) [
    | inl old ↦ h.previous s k i family at old
    | inr (is, same) ↦ let inside : i < length families = h.within s (suc k) i at in absurd (omega (arith, is, inside))
  ];
  within = λ s k i at. let inside : i < length families = h.within s k i at in simp length-append (omega (arith, inside));
  others = λ s past. let long : length (families ++ no_family ∷ []) ≡ length families + 1 = length-append families (no_family ∷ []) in
      h.others s (omega (arith, past, long));
}

-- the entry before a type that is not added yet is arbitrary
families_previous : (types : List SubType) (families : List Family) (n previous : ℕ) (old d : Family) → length types ≤ n
    → n < length families → old ≡ get_or families n d → AreFamilies types families
    → AreFamilies types (set families n (record { count = old.count; last = old.last; previous = previous }))
families_previous types families n previous old d past inside read h =
    let stands : slice_get families n ≡ Some old = slice_get-get_or families n d inside ∙ ap Some (sym read) in
    let now : Family = record { count = old.count; last = old.last; previous = previous } in
    let long : length (set families n now) ≡ length families = length-set families n now in record {
      count = λ s family at. elim (slice_get-set families n now s family at) [
        | inl (is, same) ↦ ap (λ (f : Family). f.count) (sym same) ∙ h.count n old stands ∙ ap (λ (m : ℕ). length (direct_subtypes types m))
            (sym is)
        | inr (other, before) ↦ h.count s family before
      ];
      last = λ s k family at end. elim (slice_get-set families n now s family at) [
        | inl (is, same) ↦
            let here : slice_get families s ≡ Some old = subst (λ (m : ℕ). slice_get families m ≡ Some old) (sym is) stands in
            h.last s k old here end ∙ ap (λ (f : Family). Some f.last) same
        | inr (other, before) ↦ h.last s k family before end
      ];
      previous = λ s k i family at here. elim (slice_get-set families n now i family here) [
        | inl (is, same) ↦ let less : i < length types = direct_within types s (suc k) i at in absurd (omega (arith, is, less, past))
        | inr (other, before) ↦ h.previous s k i family at before
      ];
      within = λ s k i at. let less : i < length families = h.within s k i at in omega (arith, less, long);
      others = λ s beyond. h.others s (omega (arith, beyond, long));
    }

-- a type is added to the direct subtypes of its supertype
families_joined : (types : List SubType) (t : SubType) (families : List Family) (s n : ℕ) (above d : Family) → t.supertype ≡ Some s
    → n ≡ length types → s < n → n < length families → above ≡ get_or families s d
    → (get_or families n d).previous ≡ above.last → AreFamilies types families
    → AreFamilies (types ++ t ∷ []) (set families s (record { count = above.count + 1; last = n; previous = above.previous }))
families_joined types t families s n above d up is less inside read linked h =
    let now : Family = record { count = above.count + 1; last = n; previous = above.previous } in
    let stands : slice_get families s ≡ Some above = slice_get-get_or families s d (omega (arith, less, inside)) ∙ ap Some (sym read) in
    let long : length (set families s now) ≡ length families = length-set families s now in
    let more : direct_subtypes (types ++ t ∷ []) s ≡ direct_subtypes types s ++ n ∷ [] = direct_more types t s (below_itself t s up)
    ∙ ap (λ (m : ℕ). direct_subtypes types s ++ m ∷ []) (sym is) in
    let same : (r : ℕ) → (r ≡ s → ⊥) → direct_subtypes (types ++ t ∷ []) r ≡ direct_subtypes types r =
    λ r other. direct_same types t r (below_other t s r up other) in
    let one : length (direct_subtypes types s ++ n ∷ []) ≡ length (direct_subtypes types s) + 1 = length-append (direct_subtypes types s)
    (n ∷ []) in
    let unchanged : (i : ℕ) (family : Family) → slice_get (set families s now) i ≡ Some family → (old : Family)
    × (slice_get families i ≡ Some old) × (old.previous ≡ family.previous) =
    λ i family here. elim (slice_get-set families s now i family here) [
      | inl (at, equal) ↦ (
        above,
        subst (λ (m : ℕ). slice_get families m ≡ Some above) (sym at) stands,
        ap (λ (f : Family). f.previous) equal,
      )
      | inr (other, before) ↦ (family, before, refl)
    ] in record {
      count = λ r family at. elim (slice_get-set families s now r family at) [
        | inl (here, equal) ↦
            let counted : above.count ≡ length (direct_subtypes types s) = h.count s above stands in
            ap (λ (f : Family). f.count) (sym equal) ∙ ap (λ (m : ℕ). m + 1) counted ∙ sym one ∙ sym (ap length more)
            ∙ ap (λ (m : ℕ). length (direct_subtypes (types ++ t ∷ []) m)) (sym here)
        | inr (other, before) ↦ h.count r family before ∙ ap length (sym (same r other))
      ];
      last = λ r k family at end. elim (slice_get-set families s now r family at) [
        | inl (here, equal) ↦
            let at_end : suc k ≡ length (direct_subtypes (types ++ t ∷ []) s) =
            end ∙ ap (λ (m : ℕ). length (direct_subtypes (types ++ t ∷ []) m)) here in
            let place : length (direct_subtypes types s) ≡ k = omega (arith, at_end ∙ ap length more, one) in
            let found : slice_get (direct_subtypes types s ++ n ∷ []) k ≡ Some n =
            subst (λ (m : ℕ). slice_get (direct_subtypes types s ++ n ∷ []) m ≡ Some n) place
            (slice_get-last (direct_subtypes types s) n) in
            subst (λ (m : ℕ). slice_get (direct_subtypes (types ++ t ∷ []) m) k ≡ Some family.last) (sym here)
            (subst (λ (l : List ℕ). slice_get l k ≡ Some family.last) (sym more) (found ∙ ap (λ (f : Family). Some f.last) equal))
        | inr (other, before) ↦
            subst (λ (l : List ℕ). slice_get l k ≡ Some family.last) (sym (same r other))
            (h.last r k family before (end ∙ ap length (same r other)))
      ];
      previous = λ r k i family at here. elim (cases_eq r s) [
        | inl at_s ↦
            let listed : slice_get (direct_subtypes types s ++ n ∷ []) (suc k) ≡ Some i =
            subst (λ (l : List ℕ). slice_get l (suc k) ≡ Some i) more
            (subst (λ (m : ℕ). slice_get (direct_subtypes (types ++ t ∷ []) m) (suc k) ≡ Some i) at_s at) in
            let (old, before, kept) = unchanged i family here in
            let found : slice_get (direct_subtypes types s) k ≡ Some family.previous =
            elim (slice_get-push (direct_subtypes types s) n (suc k) i listed) [
              | inl earlier ↦ h.previous s k i old earlier before ∙ ap Some kept
              | inr (end, new) ↦
                  let own : get_or families n d ≡ old = get_or_from_slice_get families n old d
                  (subst (λ (m : ℕ). slice_get families m ≡ Some old) (sym new) before) in
                  h.last s k above stands end ∙ ap Some (sym linked ∙ ap (λ (f : Family). f.previous) own ∙ kept)
            ] in
            subst (λ (m : ℕ). slice_get (direct_subtypes (types ++ t ∷ []) m) k ≡ Some family.previous) (sym at_s)
            (subst (λ (l : List ℕ). slice_get l k ≡ Some family.previous) (sym more)
            (slice_get-grown (direct_subtypes types s) (n ∷ []) k family.previous found))
        | inr other ↦
            let (old, before, kept) = unchanged i family here in
            subst (λ (l : List ℕ). slice_get l k ≡ Some family.previous) (sym (same r other))
            (h.previous r k i old (subst (λ (l : List ℕ). slice_get l (suc k) ≡ Some i) (same r other) at) before ∙ ap Some kept)
      ];
      within = λ r k i at. elim (cases_eq r s) [
        | inl at_s ↦
            let listed : slice_get (direct_subtypes types s ++ n ∷ []) k ≡ Some i = subst (λ (l : List ℕ). slice_get l k ≡ Some i) more
            (subst (λ (m : ℕ). slice_get (direct_subtypes (types ++ t ∷ []) m) k ≡ Some i) at_s at) in
            elim (slice_get-push (direct_subtypes types s) n k i listed) [
              | inl earlier ↦ let in_old : i < length families = h.within s k i earlier in omega (arith, in_old, long)
              | inr (end, new) ↦ omega (arith, new, inside, long)
            ]
        | inr other ↦ let in_old : i < length families =
            h.within r k i (subst (λ (l : List ℕ). slice_get l k ≡ Some i) (same r other) at) in omega (arith, in_old, long)
      ];
      others = λ r past.
          let other : r ≡ s → ⊥ = λ equal. omega (arith, equal, past, long, less, inside) in
          same r other ∙ h.others r (omega (arith, past, long));
    }

-- both steps, in the order of the code
pub families_linked : (types : List SubType) (t : SubType) (families : List Family) (s n : ℕ) (above d old e : Family)
    → t.supertype ≡ Some s → n ≡ length types → s < n → n < length families → above ≡ get_or families s d → old ≡ get_or families n e
    → AreFamilies types families
    → AreFamilies (types ++ t ∷ []) (set (set families n (record { count = old.count; last = old.last; previous = above.last })) s
    (record { count = above.count + 1; last = n; previous = above.previous }))
families_linked types t families s n above d old e up is less inside read own h =
    let now : Family = record { count = old.count; last = old.last; previous = above.last } in
    let long : length (set families n now) ≡ length families = length-set families n now in
    let kept : above ≡ get_or (set families n now) s d =
    read ∙ sym (get_or-set_other families n s now d (λ same. omega (arith, same, less))) in
    let linked : (get_or (set families n now) n d).previous ≡ above.last =
    ap (λ (f : Family). f.previous) (get_or-set_same families n now d inside) in
    families_joined types t (set families n now) s n above d up is less (omega (arith, inside, long)) kept linked
    (families_previous types families n above.last old e (omega (arith, is)) inside own h)

-- the number of direct subtypes of a type fits its counter
pub family_room : (types : List SubType) (t : SubType) (families : List Family) (s : ℕ) (above d : Family) → MayFollow types t
    → AreFamilies types families → s < length families → above ≡ get_or families s d → above.count + 1 < 2 ^ 32
family_room types t families s above d follows h inside read =
    let counted : above.count ≡ length (direct_subtypes types s) =
    h.count s above (slice_get-get_or families s d inside ∙ ap Some (sym read)) in
    let few : length types + 1 < 2 ^ 32 = follows.room in
    omega (arith, counted, few, length_indices (is_directly_below s) 0 types, count_most (is_directly_below s) types)

-- the supertype of a type to be added has a smaller index
pub supertype_before : (types : List SubType) (t : SubType) (s : ℕ) → MayFollow types t → t.supertype ≡ Some s → s < length types
supertype_before types t s follows up =
    let (u, at, alike) = follows.below s up in
    slice_get_within types s u at
