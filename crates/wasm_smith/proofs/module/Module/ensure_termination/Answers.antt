use Rattle.wasm_smith.proofs.Common.{rules}
use Rattle.wasm_smith.proofs.CountingLemmas.{answered_valid}
use Rattle.wasm_smith.proofs.module.Module.ensure_termination.Goals as goal

pub returns-clause-answer : goal.returns-clause-answer
returns-clause-answer c = search rules

pub returns-clause-valid : goal.returns-clause-valid
returns-clause-valid c = answered_valid _ _ _ _ (returns-clause-answer c)
