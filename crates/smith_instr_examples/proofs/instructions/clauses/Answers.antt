use Rattle.smith_instr_examples.proofs.Common.{List, [], ◌∷◌, refl, false, reference_to, Exn, Abstract, ValType, I32, final_type, taking}
use Rattle.smith_instr_examples.proofs.Common.{below_themselves, function_of}
use Rattle.smith_instr_examples.proofs.instructions.clauses.Goals as goal

pub returns-clause-with_the_reference : goal.returns-clause-with_the_reference
returns-clause-with_the_reference c =
    let caught : List ValType = I32 ∷ reference_to (Abstract false Exn) ∷ [] in
    (I32 ∷ [], (1, refl, (final_type (taking (I32 ∷ [])), refl, refl)), (caught, refl, below_themselves (function_of [] []).types caught))
