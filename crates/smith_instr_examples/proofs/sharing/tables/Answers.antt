use Rattle.smith_instr_examples.proofs.Common.{false, [], ◌∷◌, refl, I32, narrows, below_themselves}
use Rattle.smith_instr_examples.proofs.SequenceExamples.{valid_none}
use Rattle.smith_instr_examples.proofs.SharedExamples as example
use Rattle.smith_instr_examples.specs.ExampleManaged.{shared_functions, sharing}
use Rattle.smith_instr_examples.proofs.sharing.tables.Goals as goal

pub returns-clause-call_indirect : goal.returns-clause-call_indirect
returns-clause-call_indirect c = (narrows, false, example.shared_table [], example.narrows_there, (refl, refl))

pub returns-clause-return_call_indirect : goal.returns-clause-return_call_indirect
returns-clause-return_call_indirect c = (
  narrows,
  false,
  example.shared_table (I32 ∷ []),
  example.narrows_there,
  below_themselves sharing.types (I32 ∷ []),
  ([], refl, valid_none (record sharing { results = I32 ∷ [] })),
)

pub returns-clause-get : goal.returns-clause-get
returns-clause-get c = (shared_functions, refl, (refl, refl))
