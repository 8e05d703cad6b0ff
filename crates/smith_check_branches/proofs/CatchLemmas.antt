-- Clauses for exceptions.
use Rattle.smith_check_branches.proofs.Common.{[], All, all_in_range, ap, arith, BodyContext, Bool, drop, false, false≢true, func_same}
use Rattle.smith_check_branches.proofs.Common.{FuncType, IsCatch, IsFuncAt, IsTrue, IsValBelow, IsValInRange, length, List, None}
use Rattle.smith_check_branches.proofs.Common.{none_not_some, one_in_range, slice_get, Some, some_same, subst, SubType, sym, take, ValType}
use Rattle.smith_check_branches.proofs.Common.{with_labels, zip_join, zip_split, ℕ, ◌++◌, ◌<◌, ◌↔◌, ◌∙◌, ◌∷◌, ◌≡◌}
use Rattle.std.specs.List.{AllZip}
use Rattle.std.proofs.lemmas.List.{append-nil, take-append-drop, length-append}
use Rattle.std.proofs.lemmas.List.Elements.{length_all_zip}
use Rattle.std.proofs.Math.Seq.{take-append_seam, drop-append_seam}
use Rattle.smith_types.specs.Expressions.{reference_to}
use Rattle.smith_types.specs.Syntax.value_type.AbstractHeapType.TheVariants as abstract
use Rattle.smith_types.specs.Syntax.value_type.HeapType.TheVariants.{Abstract}
use Rattle.smith_instr.specs.Contexts.{IsTag}
use Rattle.smith_instr.specs.InstrTypes.{IsTaken}
use Rattle.smith_instr.specs.declared.control.Catch.TheVariants as catch
use Rattle.smith_check_operands.specs.Fits.{AreMatched}
use Rattle.smith_check_operands.specs.Scopes.{IsScope}
use Rattle.smith_check_branches.specs.Catches.{HasNoTag}
use Rattle.smith_check_branches.proofs.CallLemmas.{matched_both}

-- two parts of some values match two parts of others
pub matched_parts : (types : List SubType) (lower upper taken front back : List ValType) → front ≡ take (length lower) taken
    → back ≡ drop (length lower) taken → AreMatched types lower front → AreMatched types upper back
    → AllZip (IsValBelow types) (lower ++ upper) taken
matched_parts types lower upper taken front back is also left right =
    subst (λ ys. AllZip (IsValBelow types) (lower ++ upper) ys) (take-append-drop (length lower) taken)
    (zip_join (IsValBelow types) lower upper (take (length lower) taken) (drop (length lower) taken)
    (subst (λ ys. AllZip (IsValBelow types) lower ys) is ((matched_both types lower front).0 left))
    (subst (λ ys. AllZip (IsValBelow types) upper ys) also ((matched_both types upper back).0 right)))

pub parts_matched : (types : List SubType) (lower upper taken front back : List ValType) → front ≡ take (length lower) taken
    → back ≡ drop (length lower) taken → AllZip (IsValBelow types) (lower ++ upper) taken
    → AreMatched types lower front × AreMatched types upper back
parts_matched types lower upper taken front back is also below =
    let (first, rest, same, left, right) = zip_split (IsValBelow types) lower upper taken below in
    let long : length lower ≡ length first = length_all_zip (IsValBelow types) lower first left in
    let one : first ≡ front = sym (is ∙ ap (λ ys. take (length lower) ys) same ∙ ap (λ n. take n (first ++ rest)) long
    ∙ take-append_seam first rest) in
    let other : rest ≡ back = sym (also ∙ ap (λ ys. drop (length lower) ys) same ∙ ap (λ n. drop n (first ++ rest)) long
    ∙ drop-append_seam first rest) in (
      (matched_both types lower front).1 (subst (λ ys. AllZip (IsValBelow types) lower ys) one left),
      (matched_both types upper back).1 (subst (λ ys. AllZip (IsValBelow types) upper ys) other right),
    )

-- a label takes exactly the values whose parts match its parts
pub taken_at : (context : BodyContext) (labels : List (List ValType)) (index : ℕ) (lower upper taken : List ValType)
    → slice_get labels index ≡ Some taken → AllZip (IsValBelow context.types) (lower ++ upper) taken
    → IsTaken (with_labels context labels) (lower ++ upper) index
taken_at context labels index lower upper taken there below = (taken, there, below)

pub taken_from : (context : BodyContext) (labels : List (List ValType)) (index : ℕ) (lower upper taken : List ValType)
    → slice_get labels index ≡ Some taken → IsTaken (with_labels context labels) (lower ++ upper) index
    → AllZip (IsValBelow context.types) (lower ++ upper) taken
taken_from context labels index lower upper taken there t =
    let (these, at, below) = t in
    subst (λ ys. AllZip (IsValBelow context.types) (lower ++ upper) ys) (some_same these taken (sym at ∙ there)) below

pub not_taken_nowhere : (context : BodyContext) (labels : List (List ValType)) (index : ℕ) (lower upper : List ValType)
    → slice_get labels index ≡ None → IsTaken (with_labels context labels) (lower ++ upper) index → ⊥
not_taken_nowhere context labels index lower upper none t = none_not_some t.0 (slice_get labels index) none t.1

pub not_taken_short : (context : BodyContext) (labels : List (List ValType)) (index : ℕ) (lower upper taken : List ValType)
    → slice_get labels index ≡ Some taken → length taken < length lower
    → IsTaken (with_labels context labels) (lower ++ upper) index → ⊥
not_taken_short context labels index lower upper taken there few t =
    let below = taken_from context labels index lower upper taken there t in
    absurd (omega (arith, few, length-append lower upper, length_all_zip (IsValBelow context.types) (lower ++ upper) taken below))

-- a tag holds values of the same types
tag_same : (context : BodyContext) (tag : ℕ) (these others : List ValType) → IsTag context tag these → IsTag context tag others
    → these ≡ others
tag_same context tag these others (ty, at, of) (index, there, is) =
    let same : ty ≡ index = some_same ty index (sym at ∙ there) in
    ap (λ (f : FuncType). f.params) (func_same context.types index (record { params = these; results = [] })
    (record { params = others; results = [] })
    (subst (λ i. IsFuncAt context.types i (record { params = these; results = [] })) same of) is)

pub tag_in_range : (context : BodyContext) (tag : ℕ) (values : List ValType) → IsScope context → IsTag context tag values
    → All (IsValInRange context.types) values
tag_in_range context tag values scope (ty, at, of) =
    all_in_range context values (scope.params_valid ty (record { params = values; results = [] }) of)

pub exception_in_range : (types : List SubType) (value : ValType) → value ≡ reference_to (Abstract false abstract.Exn)
    → All (IsValInRange types) (value ∷ [])
exception_in_range types value is = one_in_range types value (subst (λ v. IsValInRange types v) (sym is) tt)

-- clauses of each form
pub one_caught : (context : BodyContext) (labels : List (List ValType)) (tag index : ℕ) (values : List ValType) (b : Bool)
    → IsTag context tag values → IsTrue b ↔ IsTaken (with_labels context labels) (values ++ []) index
    → IsTrue b ↔ IsCatch (with_labels context labels) (catch.One tag index)
one_caught context labels tag index values b at test = (
  λ h. (values, at, subst (λ vs. IsTaken (with_labels context labels) vs index) (append-nil values) (test.0 h)),
  λ c. let (others, there, taken) = c in
      test.1 (subst (λ vs. IsTaken (with_labels context labels) vs index) (tag_same context tag others values there at
      ∙ sym (append-nil values)) taken),
)

pub reference_caught : (context : BodyContext) (labels : List (List ValType)) (tag index : ℕ) (values : List ValType) (value : ValType)
    (b : Bool) → IsTag context tag values → value ≡ reference_to (Abstract false abstract.Exn)
    → IsTrue b ↔ IsTaken (with_labels context labels) (values ++ value ∷ []) index
    → IsTrue b ↔ IsCatch (with_labels context labels) (catch.OneRef tag index)
reference_caught context labels tag index values value b at is test = (
  λ h. (values, at, subst (λ v. IsTaken (with_labels context labels) (values ++ v ∷ []) index) is (test.0 h)),
  λ c. let (others, there, taken) = c in
      test.1 (subst (λ v. IsTaken (with_labels context labels) (values ++ v ∷ []) index) (sym is)
      (subst (λ vs. IsTaken (with_labels context labels) (vs ++ reference_to (Abstract false abstract.Exn) ∷ []) index)
      (tag_same context tag others values there at) taken)),
)

pub any_reference_caught : (context : BodyContext) (labels : List (List ValType)) (index : ℕ) (value : ValType) (b : Bool)
    → value ≡ reference_to (Abstract false abstract.Exn) → IsTrue b ↔ IsTaken (with_labels context labels) (value ∷ []) index
    → IsTrue b ↔ IsCatch (with_labels context labels) (catch.AllRef index)
any_reference_caught context labels index value b is test =
    subst (λ v. IsTrue b ↔ IsTaken (with_labels context labels) (v ∷ []) index) is test

pub one_unknown : (context : BodyContext) (labels : List (List ValType)) (tag index : ℕ) → HasNoTag context tag
    → IsTrue false ↔ IsCatch (with_labels context labels) (catch.One tag index)
one_unknown context labels tag index never = (λ h. absurd (false≢true h), λ c. absurd (never c.0 c.1))

pub reference_unknown : (context : BodyContext) (labels : List (List ValType)) (tag index : ℕ) → HasNoTag context tag
    → IsTrue false ↔ IsCatch (with_labels context labels) (catch.OneRef tag index)
reference_unknown context labels tag index never = (λ h. absurd (false≢true h), λ c. absurd (never c.0 c.1))
