-- The types that may have subtypes.
use Rattle.smith_draw_types.proofs.Common.{[], All, All-from_recursion, ap, arith, Bool, cond, false, IsOrderly, length, List, lt-ltb, None}
use Rattle.smith_draw_types.proofs.Common.{range_at, range_within, refl, slice_get, Some, subst, SubType, suc, sym, true, zero, ℕ, ◌+◌, ◌-◌}
use Rattle.smith_draw_types.proofs.Common.{◌<◌, ◌∙◌, ◌∷◌, ◌≡◌}
use Rattle.std.specs.Prelude.{slice_index}
use Rattle.std.specs.List.{AllByRecursion as Each}
use Rattle.smith_types.specs.GroupedTypes.{HasDepth, AreExtensible, root, deeper, extensible_from}
use Rattle.smith_draw_types.specs.Choices.{chosen_at}
use Rattle.smith_draw_types.specs.Offered.{supertype_at}
use Rattle.smith_draw_types.specs.SubTypes.{depth_at, may_have_subtypes, supertypes_from, supertypes, SomeMayHaveSubtypes}
use Rattle.smith_draw_types.proofs.AncestorLemmas.{ancestors_up, ancestors_none}

-- the depth of a type, by the list of its proper supertypes
pub depth_is : (types : List SubType) → IsOrderly types → {i d : ℕ} → HasDepth types i d → d ≡ depth_at types i
depth_is types orderly (root {i = i} {t = t} at none) =
    let alone : supertype_at types i ≡ None = rw at none in
    rw (ancestors_none types i alone) refl
depth_is types orderly (deeper {i = i} {s = s} {t = t} at up above) =
    let one : supertype_at types i ≡ Some s = rw at up in
    rw (ancestors_up types orderly i s one) (ap suc (depth_is types orderly above))

listed_same : (types : List SubType) (start : ℕ) (rest : List SubType) (depths : List ℕ) → length depths ≡ length rest
    → ((j i : ℕ) → i ≡ start + j → j < length rest → depth_at types i ≡ slice_index depths j)
    → extensible_from start rest depths ≡ supertypes_from types start rest
listed_same types start [] depths long each = refl
listed_same types start (t ∷ rest) [] long each = absurd (omega arith)
listed_same types start (t ∷ rest) (depth ∷ depths) long each =
    let first : depth_at types start ≡ depth = each 0 start (omega arith) (omega arith) in
    let others = listed_same types (start + 1) rest depths (omega arith) (λ j i is inside. each (suc j) i (omega arith) (omega arith)) in
    rw (first, others) refl

-- the indices that a type space keeps
pub extensible_are : (types : List SubType) → IsOrderly types → (indices : List ℕ) → AreExtensible types indices
    → indices ≡ supertypes types
unfolding supertypes
extensible_are types orderly indices kept =
    kept.exact ∙ listed_same types 0 types kept.depths kept.known.long (λ j i is inside. let same : i ≡ j = omega arith in
    rw same (sym (depth_is types orderly (kept.known.each j inside))))

-- the type at this index exists and may have subtypes
pub record IsSupertype (types : List SubType) (i : ℕ) : Type 0 where
  pub ty : SubType
  pub stands : slice_get types i ≡ Some ty
  pub allowed : may_have_subtypes types i ty ≡ true

each_turn : (types : List SubType) (start : ℕ) (t : SubType) (others : List ℕ) (b : Bool) → may_have_subtypes types start t ≡ b
    → slice_get types start ≡ Some t → Each (IsSupertype types) others → Each (IsSupertype types) (cond b (start ∷ others) others)
each_turn types start t others true may at h = (record { ty = t; stands = at; allowed = may }, h)
each_turn types start t others false may at h = h

supertypes_each : (types : List SubType) (start : ℕ) (rest : List SubType) → ((j : ℕ) (t : SubType) → slice_get rest j ≡ Some t
    → slice_get types (start + j) ≡ Some t) → Each (IsSupertype types) (supertypes_from types start rest)
supertypes_each types start [] stands = tt
supertypes_each types start (t ∷ more) stands =
    let zero_more : start + 0 ≡ start = omega arith in
    let here : slice_get types start ≡ Some t = subst (λ (n : ℕ). slice_get types n ≡ Some t) zero_more (stands 0 t refl) in
    each_turn types start t (supertypes_from types (start + 1) more) (may_have_subtypes types start t) refl here
    (supertypes_each types (start + 1) more (λ j u at.
    let later : start + suc j ≡ start + 1 + j = omega arith in
    subst (λ (n : ℕ). slice_get types n ≡ Some u) later (stands (suc j) u at)))

pub supertypes_all : (types : List SubType) → All (IsSupertype types) (supertypes types)
unfolding supertypes
supertypes_all types = All-from_recursion (IsSupertype types) (supertypes_from types 0 types)
    (supertypes_each types 0 types (λ j t at. let same : j ≡ 0 + j = omega arith in subst (λ (n : ℕ). slice_get types n ≡ Some t) same at))

-- a property of each item of a non-empty list holds for the chosen one
pub chosen_of : {A : Type 0} (P : A → Type 0) (other : A) (items : List A) (bytes : List ℕ) → 0 < length items → All P items
    → P (chosen_at other items bytes).0
unfolding chosen_at
chosen_of P other items bytes some each =
    let place = range_at 0 (length items - 1) bytes in
    each place.0 other (omega (arith, range_within 0 (length items - 1) bytes (omega arith)))

longer : (b : Bool) (start : ℕ) (others : List ℕ) → (b ≡ false → 0 < length others) → 0 < length (cond b (start ∷ others) others)
longer true start others h = omega arith
longer false start others h = h refl

listed : (types : List SubType) (start : ℕ) (rest : List SubType) (j : ℕ) (t : SubType) → slice_get rest j ≡ Some t
    → may_have_subtypes types (start + j) t ≡ true → 0 < length (supertypes_from types start rest)
listed types start [] j t at may = cc
listed types start (u ∷ rest) zero t at may =
    let first : start + 0 ≡ start = omega arith in
    let same : t ≡ u = cc in
    let here : may_have_subtypes types start u ≡ true = subst (λ (v : SubType). may_have_subtypes types start v ≡ true) same
    (subst (λ (n : ℕ). may_have_subtypes types n t ≡ true) first may) in
    longer (may_have_subtypes types start u) start (supertypes_from types (start + 1) rest) (λ off. cc)
listed types start (u ∷ rest) (suc j) t at may =
    let later : start + suc j ≡ start + 1 + j = omega arith in
    longer (may_have_subtypes types start u) start (supertypes_from types (start + 1) rest)
    (λ off. listed types (start + 1) rest j t at (subst (λ (n : ℕ). may_have_subtypes types n t ≡ true) later may))

-- a type that may have subtypes is listed
pub some_listed : (types : List SubType) → IsOrderly types → SomeMayHaveSubtypes types → 0 < length (supertypes types)
unfolding supertypes
some_listed types orderly some =
    let same : depth_at types some.index ≡ some.depth = sym (depth_is types orderly some.deep) in
    let may : may_have_subtypes types some.index some.ty ≡ true = rw (some.not_final, same, lt-ltb some.depth 60 some.above) refl in
    let place : some.index ≡ 0 + some.index = omega arith in
    listed types 0 types some.index some.ty some.stands (subst (λ (n : ℕ). may_have_subtypes types n some.ty ≡ true) place may)
