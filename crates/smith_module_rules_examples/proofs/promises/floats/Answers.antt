use Rattle.smith_module_rules_examples.proofs.Common.{[], ◌∷◌, All, All-head, F32Const, F64Const, GivesNoFloat}
use Rattle.smith_module_rules_examples.proofs.promises.floats.Goals as goal

pub returns-clause-in_an_expression : goal.returns-clause-in_an_expression
returns-clause-in_an_expression c = λ none. All-head GivesNoFloat (F64Const 0) []
    (All-head (All GivesNoFloat) (F64Const 0 ∷ []) [] none.constants)

pub returns-clause-in_the_initialiser_of_a_table : goal.returns-clause-in_the_initialiser_of_a_table
returns-clause-in_the_initialiser_of_a_table c = λ none. All-head GivesNoFloat (F32Const 0) []
    (All-head (All GivesNoFloat) (F32Const 0 ∷ []) [] none.constants)

pub returns-clause-in_an_element : goal.returns-clause-in_an_element
returns-clause-in_an_element c = λ none. All-head GivesNoFloat (F32Const 0) []
    (All-head (All GivesNoFloat) (F32Const 0 ∷ []) [] none.constants)
