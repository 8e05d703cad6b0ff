use Rattle.wasm_smith.proofs.GlobalExportLemmas.{unused_is_new}
use Rattle.wasm_smith.proofs.laws.names_are_new.Goals as goal

pub returns : goal.returns
returns c = unused_is_new
