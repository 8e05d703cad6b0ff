use Rattle.wasm_smith.proofs.DeterminedLemmas.{modules_same}
use Rattle.wasm_smith.proofs.laws.modules_are_determined.Goals as goal

pub returns : goal.returns
returns c = modules_same
