use Rattle.wasm_smith_examples.proofs.Common.{◌≡◌, [], ◌∷◌, EmptyChoose, Memory, one_function_type}
use Rattle.wasm_smith_examples.proofs.ReachedExamples.{function_first}
use Rattle.wasm_smith_examples.proofs.reach.answers.Goals as goal

pub returns-clause-another_refusal : goal.returns-clause-another_refusal
returns-clause-another_refusal c = λ reaches. let never : EmptyChoose ≡ Memory = reaches one_function_type (0 ∷ []) []
    (function_first []) in cc never

pub returns-clause-no_function : goal.returns-clause-no_function
returns-clause-no_function c = λ reaches. let has = reaches one_function_type (0 ∷ []) [] (function_first []) in cc
