use Rattle.smith_instr_examples.proofs.Common.{◌≡◌, List, [], ◌∷◌, ◌++◌, refl, ValType, I32, I64, exnref, managed}
use Rattle.smith_instr_examples.proofs.SequenceExamples.{valid_one}
use Rattle.smith_instr_examples.proofs.handlers.rethrown.Goals as goal

pub returns-clause-exception : goal.returns-clause-exception
returns-clause-exception c = (I64 ∷ [], refl, valid_one (managed [] []) I32 tt)

number_on_top : (below : List ValType) → exnref ∷ I32 ∷ [] ≡ below ++ exnref ∷ [] → ⊥
number_on_top [] is = cc
number_on_top (x ∷ []) is = cc
number_on_top (x ∷ y ∷ []) is = cc
number_on_top (x ∷ y ∷ z ∷ below) is = cc

pub returns-clause-below_another_value : goal.returns-clause-below_another_value
returns-clause-below_another_value c = λ results typed. number_on_top typed.0 typed.1
