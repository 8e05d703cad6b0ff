use Rattle.wasm_smith.proofs.Common.{rules}
use Rattle.wasm_smith.proofs.SinkExportLemmas.{sinks_exported_valid}
use Rattle.wasm_smith.proofs.module.Module.export_sinks.Goals as goal

pub returns-clause-answer : goal.returns-clause-answer
returns-clause-answer c = search rules

pub returns-clause-valid : goal.returns-clause-valid
returns-clause-valid c = sinks_exported_valid _ _ _ _ (returns-clause-answer c) c.requires.there
