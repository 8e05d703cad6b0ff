-- Laws of canonical indices.
use Rattle.std.proofs.Common.{◌≡◌, ℕ, zero, suc, ◌+◌, ◌-◌, ◌<◌, ◌≤◌, ◌⊎◌, Bool, true, false, List, [], ◌∷◌, ◌++◌, Option, Some, None, cond}
use Rattle.std.proofs.Common.{length, get_or, map, refl, sym, ap, subst, ◌∙◌, arith, inl, inr, length-append, zero-add}
use Rattle.std.specs.Prelude.{nat_lt, slice_get, slice_index}
use Rattle.std.specs.List.{flat_map}
use Rattle.std.proofs.lemmas.Option.{slice_get_within, slice_get-get_or}
use Rattle.std.proofs.lemmas.Bool.{ltb-true}
use Rattle.smith_types.specs.Exports.{AreDistinct}
use Rattle.smith_types.proofs.ListLemmas.{slice_get-after}
use Rattle.smith_types.specs.Syntax.composite_type.SubType.{SubType}
use Rattle.smith_check_types.specs.Renamed.{renamed}
use Rattle.smith_check_types.specs.Canonical.{rec_index, rolled_index, rolled, DefinedType, defined_in, defined_from, defined_types}
use Rattle.smith_check_types.specs.Canonical.{IsFirstEqual, AreCanonical}
use Rattle.smith_check_types.proofs.CanonicalLemmas.{in_either, some_at, length-defined_in, length-defined_from}

pub same_place : (groups : List (List SubType)) (indices : List ℕ) → AreCanonical groups indices → (i j first other : ℕ)
    → slice_get indices i ≡ Some first → slice_get indices j ≡ Some other
    → slice_get (defined_types indices groups) i ≡ slice_get (defined_types indices groups) j → first ≡ other
same_place groups indices canonical i j first other at there same =
    let one = canonical.each i first at in
    let two = canonical.each j other there in
    let low : first ≤ other = one.least other (two.equal ∙ sym same) in
    let high : other ≤ first = two.least first (one.equal ∙ same) in
    omega (arith, low, high)

pub same_type : (groups : List (List SubType)) (indices : List ℕ) → AreCanonical groups indices → (i j first other : ℕ)
    → slice_get indices i ≡ Some first → slice_get indices j ≡ Some other
    → first ≡ other → slice_get (defined_types indices groups) i ≡ slice_get (defined_types indices groups) j
same_type groups indices canonical i j first other at there same =
    sym (canonical.each i first at).equal ∙ ap (slice_get (defined_types indices groups)) same ∙ (canonical.each j other there).equal

pub own_index : (groups : List (List SubType)) (indices : List ℕ) → AreCanonical groups indices → AreDistinct (defined_types indices groups)
    → (index : ℕ) → index < length indices → slice_get indices index ≡ Some index
own_index groups indices canonical distinct index inside =
    let (first, at) = some_at indices index inside in
    let (d, there) = some_at (defined_types indices groups) index (omega (arith, inside, canonical.long)) in
    let one = canonical.each index first at in
    let same : first ≡ index = distinct.once first index d (one.equal ∙ there) there in
    at ∙ ap (λ (n : ℕ). Some n) same

-- the same item is in the second of two lists
by_half : {A : Type 0} (xs ys zs : List A) (index : ℕ) → ((k : ℕ) → index ≡ length xs + k → slice_get ys k ≡ slice_get zs k)
    → slice_get (xs ++ ys) index ≡ slice_get (xs ++ zs) index
by_half [] ys zs index same = same index (omega arith)
by_half (x ∷ xs) ys zs zero same = refl
by_half (x ∷ xs) ys zs (suc index) same = by_half xs ys zs index (λ k is. same k (omega (arith, is)))

below_or_at : (i end : ℕ) → i < suc end → (i < end) ⊎ (i ≡ end)
below_or_at i end low = grind arith

index_from : (xs : List ℕ) (i x : ℕ) → slice_get xs i ≡ Some x → slice_index xs i ≡ x
index_from [] i x at = absurd cc
index_from (y ∷ xs) zero x at = cc
index_from (y ∷ xs) (suc i) x at = index_from xs i x at

-- indices that are equal before a group give one rolled group
rolled-same : (one other : List ℕ) (start : ℕ) (index : ℕ) → ((i : ℕ) → i < start → slice_index one i ≡ slice_index other i)
    → rolled_index one start index ≡ rolled_index other start index
rolled-same one other start index same =
    elim (nat_lt index start) as (λ b. nat_lt index start ≡ b → cond b (slice_index one index) (rec_index (index - start))
    ≡ cond b (slice_index other index) (rec_index (index - start))) [
      | true ↦ λ h. same index (ltb-true index start h)
      | false ↦ λ h. refl
    ] refl

group-same : (one other : List ℕ) (start : ℕ) (group : List SubType) → ((i : ℕ) → i < start → slice_index one i ≡ slice_index other i)
    → rolled one start group ≡ rolled other start group
group-same one other start group same = λ i. map (renamed (λ index. rolled-same one other start index same i)) group

-- the type at an index is made of the canonical indices before it
defined-same : (one other : List ℕ) (start : ℕ) (groups : List (List SubType)) (index : ℕ)
    → ((i : ℕ) → i < start + index → slice_index one i ≡ slice_index other i)
    → slice_get (defined_from one start groups) index ≡ slice_get (defined_from other start groups) index
defined-same one other start [] index same = refl
defined-same one other start (group ∷ groups) index same =
    let end = start + length group in
    let form : rolled one start group ≡ rolled other start group =
    group-same one other start group (λ i low. same i (omega (arith, low))) in
    let count : length (defined_in (rolled other start group) 0 group) ≡ length group =
    length-defined_in (rolled other start group) 0 group in
    let first : defined_in (rolled one start group) 0 group ≡ defined_in (rolled other start group) 0 group =
    ap (λ (f : List SubType). defined_in f 0 group) form in
    ap (λ (l : List DefinedType). slice_get (l ++ defined_from one end groups) index) first
    ∙ by_half (defined_in (rolled other start group) 0 group) (defined_from one end groups) (defined_from other end groups) index
    (λ k is. defined-same one other end groups k (λ i low. same i (omega (arith, low, is, count))))

pub unique_below : (groups : List (List SubType)) (one other : List ℕ) → AreCanonical groups one → AreCanonical groups other
    → (end : ℕ) → end ≤ length one → (i : ℕ) → i < end → slice_index one i ≡ slice_index other i
unique_below groups one other first second zero within i low = absurd (omega arith)
unique_below groups one other first second (suc end) within i low =
    let before = unique_below groups one other first second end (omega arith) in
    let sizes : length one ≡ length other = first.long ∙ length-defined_from one 0 groups ∙ sym (length-defined_from other 0 groups)
    ∙ sym second.long in
    elim (below_or_at i end low) [
      | inl lower ↦ before i lower
      | inr is ↦
          let (c, at) = some_at one end (omega (arith, within)) in
          let (d, there) = some_at other end (omega (arith, within, sizes)) in
          let left = first.each end c at in
          let right = second.each end d there in
          let low_c : c ≤ end = left.least end refl in
          let low_d : d ≤ end = right.least end refl in
          let same : (n : ℕ) → n ≤ end → slice_get (defined_types one groups) n ≡ slice_get (defined_types other groups) n =
          λ n upto. defined-same one other 0 groups n (λ k lt. before k (omega (arith, lt, upto))) in
          let c_d : c ≤ d = left.least d (same d low_d ∙ right.equal ∙ sym (same end (omega arith))) in
          let d_c : d ≤ c = right.least c (sym (same c low_c) ∙ left.equal ∙ same end (omega arith)) in
          let both : c ≡ d = omega (arith, c_d, d_c) in
          ap (slice_index one) is ∙ index_from one end c at ∙ both ∙ sym (index_from other end d there) ∙ ap (slice_index other) (sym is)
    ]

pub same_lists : (one other : List ℕ) → length one ≡ length other → ((i : ℕ) → i < length one → slice_index one i ≡ slice_index other i)
    → one ≡ other
same_lists [] [] long same = refl
same_lists [] (y ∷ ys) long same = absurd (omega (arith, long))
same_lists (x ∷ xs) [] long same = absurd (omega (arith, long))
same_lists (x ∷ xs) (y ∷ ys) long same =
    let first : x ≡ y = same 0 (omega arith) in
    let others = same_lists xs ys (omega (arith, long)) (λ i low. same (suc i) (omega (arith, low))) in
    cc (first, others)

pub unique_indices : (groups : List (List SubType)) (one other : List ℕ) → AreCanonical groups one → AreCanonical groups other → one ≡ other
unique_indices groups one other first second =
    let sizes : length one ≡ length other = first.long ∙ length-defined_from one 0 groups ∙ sym (length-defined_from other 0 groups)
    ∙ sym second.long in
    same_lists one other sizes (unique_below groups one other first second (length one) (omega arith))
