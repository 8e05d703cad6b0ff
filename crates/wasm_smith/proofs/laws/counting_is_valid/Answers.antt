use Rattle.wasm_smith.proofs.CountingLemmas.{adds_valid}
use Rattle.wasm_smith.proofs.laws.counting_is_valid.Goals as goal

pub returns : goal.returns
returns c = adds_valid
