use Rattle.smith_types_examples.proofs.Common.{◌≡◌, ◌++◌, List, [], ◌∷◌, false, ap, sym, subst, refl, same_Some, slice_get, AllZip, ValType}
use Rattle.smith_types_examples.proofs.Common.{I32, I64, Ref, I32Add, ExternConvertAny, IsValBelow, usual_features, plain, not_null}
use Rattle.smith_types_examples.proofs.Common.{context_types, context_with, below_abstract, one_step}
use Rattle.smith_types.specs.Syntax.value_type.AbstractHeapType.TheVariants as heap
use Rattle.smith_types_examples.proofs.expressions.steps.Goals as goal

pub returns-clause-above_others : goal.returns-clause-above_others
returns-clause-above_others c = one_step (context_with usual_features 2) I32Add (I32 ∷ I32 ∷ []) I32 (I64 ∷ []) (I32 ∷ I32 ∷ [])
    (refl, refl) (tt, (tt, tt))

pub returns-clause-of_a_subtype : goal.returns-clause-of_a_subtype
returns-clause-of_a_subtype c = one_step (context_with usual_features 2) ExternConvertAny (Ref (not_null (plain heap.Any)) ∷ [])
    (Ref (not_null (plain heap.Extern))) [] (Ref (not_null (plain heap.I31)) ∷ [])
    (record { shared = false; nullable = false; taken = refl; given = refl })
    (record { heap = below_abstract context_types false heap.I31 heap.Any refl; nullable = λ never. never }, tt)

-- an instruction takes the value on top of two
top_taken : (rest taken : List ValType) → I32 ∷ I64 ∷ [] ≡ rest ++ taken → AllZip (IsValBelow context_types) taken (I32 ∷ []) → ⊥
top_taken [] [] e accepted = accepted
top_taken [] (a ∷ []) e accepted = cc e
top_taken [] (a ∷ b ∷ taken) e accepted = accepted.1
top_taken (x ∷ []) [] e accepted = accepted
top_taken (x ∷ []) (a ∷ []) e accepted =
    let same : I64 ≡ a = same_Some I64 a (ap (λ values. slice_get values 1) e) in
    subst (λ v. IsValBelow context_types v I32) (sym same) accepted.0
top_taken (x ∷ []) (a ∷ b ∷ taken) e accepted = accepted.1
top_taken (x ∷ y ∷ rest) [] e accepted = accepted
top_taken (x ∷ y ∷ []) (a ∷ taken) e accepted = cc e
top_taken (x ∷ y ∷ z ∷ rest) (a ∷ taken) e accepted = cc e

pub returns-clause-below_others : goal.returns-clause-below_others
returns-clause-below_others c = λ step.
    let (operands, result) = step.typed in
    top_taken step.rest step.taken step.on_top (subst (AllZip (IsValBelow context_types) step.taken) operands step.accepted)
