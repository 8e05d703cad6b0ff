use Rattle.smith_instr_examples.proofs.Common.{◌≡◌, true, false, List, [], ◌∷◌, ◌++◌, refl, subst, ap, funcref, FuncType, Abstract}
use Rattle.smith_instr_examples.proofs.Common.{Concrete, RefType, ValType, F32, I32, I64, Ref, nullable_to, managed, narrows}
use Rattle.smith_types.specs.Syntax.value_type.AbstractHeapType.TheVariants as heap
use Rattle.smith_instr_examples.proofs.SequenceExamples.{valid_one}
use Rattle.smith_instr_examples.proofs.ManagedExamples.{narrows_there, narrows_alone, narrow_table}
use Rattle.smith_instr_examples.proofs.calls.tail.Goals as goal

pub returns-clause-call : goal.returns-clause-call
returns-clause-call c = (narrows, (6, refl, narrows_there), (tt, tt), (I32 ∷ [], refl, valid_one (managed [] (I32 ∷ [])) F32 tt))

pub returns-clause-indirect : goal.returns-clause-indirect
returns-clause-indirect c = (
  narrows,
  false,
  narrow_table [] (I32 ∷ []),
  narrows_there,
  (tt, tt),
  (I32 ∷ [], refl, valid_one (managed [] (I32 ∷ [])) F32 tt),
)

pub returns-clause-reference : goal.returns-clause-reference
returns-clause-reference c = (narrows, narrows_there, (tt, tt), ([], refl, valid_one (managed [] (I32 ∷ [])) F32 tt))

other_reference : (below : List ValType) → I64 ∷ Ref funcref ∷ [] ≡ below ++ (I64 ∷ nullable_to (Concrete 6) ∷ []) → ⊥
other_reference [] is =
    let same : funcref ≡ record { nullable = true; heap_type = Concrete 6 } = cc in
    let never : Abstract false heap.Func ≡ Concrete 6 = ap (λ (r : RefType). r.heap_type) same in
    cc
other_reference (x ∷ []) is = cc
other_reference (x ∷ y ∷ []) is = cc
other_reference (x ∷ y ∷ z ∷ below) is = cc

pub returns-clause-reference_to_any_function : goal.returns-clause-reference_to_any_function
returns-clause-reference_to_any_function c = λ results typed.
    let (function, at, returns, (below, is, valid)) = typed in
    other_reference below (subst (λ (f : FuncType). I64 ∷ Ref funcref ∷ [] ≡ below ++ (f.params ++ nullable_to (Concrete 6) ∷ []))
    (narrows_alone function at) is)
