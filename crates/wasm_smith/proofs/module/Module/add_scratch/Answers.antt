use Rattle.wasm_smith.proofs.Common.{rules}
use Rattle.wasm_smith.proofs.ScratchLemmas.{scratch_answered_valid}
use Rattle.wasm_smith.proofs.module.Module.add_scratch.Goals as goal

pub returns-clause-answer : goal.returns-clause-answer
returns-clause-answer c = search rules

pub returns-clause-valid : goal.returns-clause-valid
returns-clause-valid c = scratch_answered_valid _ _ _ (returns-clause-answer c)
