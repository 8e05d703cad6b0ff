-- Branches by a reference that is not null.
use Rattle.smith_check_branches.proofs.Common.{[], All, All-head, all_at, all_left, all_right, ap, AreValid, arith, BodyContext, I32}
use Rattle.smith_check_branches.proofs.Common.{IsInRange, IsValid, IsValInRange, length, List, None, none_not_some, nullable_to}
use Rattle.smith_check_branches.proofs.Common.{one_in_range, Ref, refl, RefType, slice_get, Some, some_same, subst, sym, To, ValType, ℕ}
use Rattle.smith_check_branches.proofs.Common.{◌++◌, ◌∙◌, ◌∷◌, ◌≡◌}
use Rattle.std.proofs.lemmas.List.{same_from_push, length-append}
use Rattle.smith_types.specs.Syntax.value_type.ValType.TheVariants.{F32, F64, I64, V128}
use Rattle.smith_check_operands.proofs.RangeLemmas.{in_range}
use Rattle.smith_check_branches.specs.References.{EndsInNoReference, reference_of}

whole_valid : (context : BodyContext) (labels : List (List ValType)) (index : ℕ) (taken others : List ValType) (reference : RefType)
    → All (AreValid context) labels → slice_get labels index ≡ Some taken → taken ≡ others ++ Ref reference ∷ []
    → AreValid context (others ++ Ref reference ∷ [])
whole_valid context labels index taken others reference valid there is =
    subst (λ ts. AreValid context ts) is (all_at (AreValid context) labels index taken valid there)

-- the values that a label takes below a reference
pub lower_valid : (context : BodyContext) (labels : List (List ValType)) (index : ℕ) (taken others : List ValType) (reference : RefType)
    → All (AreValid context) labels → slice_get labels index ≡ Some taken → taken ≡ others ++ Ref reference ∷ []
    → AreValid context others
lower_valid context labels index taken others reference valid there is =
    all_left (IsValid context) others (Ref reference ∷ []) (whole_valid context labels index taken others reference valid there is)

pub nullable_in_range : (context : BodyContext) (labels : List (List ValType)) (index : ℕ) (taken others : List ValType)
    (reference : RefType) (value : ValType) → All (AreValid context) labels → slice_get labels index ≡ Some taken
    → taken ≡ others ++ Ref reference ∷ [] → value ≡ nullable_to reference.heap_type
    → All (IsValInRange context.types) (value ∷ [])
nullable_in_range context labels index taken others reference value valid there is same =
    let last : IsValid context (Ref reference) = All-head (IsValid context) (Ref reference) []
    (all_right (IsValid context) others (Ref reference ∷ []) (whole_valid context labels index taken others reference valid there is)) in
    one_in_range context.types value (subst (λ v. IsValInRange context.types v) (sym same) (in_range context (Ref reference) last))

pub last_in_range : (context : BodyContext) (labels : List (List ValType)) (index : ℕ) (taken others : List ValType)
    (reference : RefType) → All (AreValid context) labels → slice_get labels index ≡ Some taken
    → taken ≡ others ++ Ref reference ∷ [] → IsInRange context.types reference.heap_type
last_in_range context labels index taken others reference valid there is =
    let last : IsValid context (Ref reference) = All-head (IsValid context) (Ref reference) []
    (all_right (IsValid context) others (Ref reference ∷ []) (whole_valid context labels index taken others reference valid there is)) in
    in_range context (Ref reference) last

reference_or : RefType → ValType → RefType
reference_or d (Ref reference) = reference
reference_or d _ = d

-- the last of some values is the reference that it is
pub last_reference : (value : ValType) (reference : RefType) → Some reference ≡ reference_of value → value ≡ Ref reference
last_reference (Ref other) reference is = ap (λ r. Ref r) (some_same other reference (sym is))
last_reference I32 reference is = absurd (none_not_some reference None refl (sym is))
last_reference I64 reference is = absurd (none_not_some reference None refl (sym is))
last_reference F32 reference is = absurd (none_not_some reference None refl (sym is))
last_reference F64 reference is = absurd (none_not_some reference None refl (sym is))
last_reference V128 reference is = absurd (none_not_some reference None refl (sym is))

pub ends_in_none : (types : List ValType) → length types ≡ 0 → EndsInNoReference types
ends_in_none types none others reference is =
    let long : length types ≡ length (others ++ Ref reference ∷ []) = ap (λ ts. length ts) is in
    omega (arith, length-append others (Ref reference ∷ []))

pub ends_in_other : (types lower : List ValType) (last : ValType) → types ≡ lower ++ last ∷ [] → None ≡ reference_of last
    → EndsInNoReference types
ends_in_other types lower last is none others reference also =
    let (front, same) = same_from_push lower others last (Ref reference) (sym is ∙ also) in
    none_not_some reference (reference_of last) (sym none) (ap (λ v. reference_of v) same)

-- the operands and results are those of the label
pub non_null_only : (labels : List (List ValType)) (index : ℕ) (others lower : List ValType) (reference other : RefType)
    (os rs : List ValType) → slice_get labels index ≡ Some (others ++ Ref reference ∷ []) → slice_get labels index
    ≡ Some (lower ++ Ref other ∷ []) → To os rs (lower ++ nullable_to other.heap_type ∷ []) lower
    → To os rs (others ++ nullable_to reference.heap_type ∷ []) others
unfolding reference_or
non_null_only labels index others lower reference other os rs there at fits =
    let (front, last) = same_from_push lower others (Ref other) (Ref reference)
    (some_same (lower ++ Ref other ∷ []) (others ++ Ref reference ∷ []) (sym at ∙ there)) in
    let same : other ≡ reference = ap (λ v. reference_or other v) last in
    subst (λ ts. To os rs (ts ++ nullable_to reference.heap_type ∷ []) ts) front
    (subst (λ (r : RefType). To os rs (lower ++ nullable_to r.heap_type ∷ []) lower) same fits)
