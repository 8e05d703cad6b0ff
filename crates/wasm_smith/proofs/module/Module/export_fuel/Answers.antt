use Rattle.wasm_smith.proofs.Common.{rules}
use Rattle.wasm_smith.proofs.FuelExportLemmas.{exported_valid, fuel_is_new}
use Rattle.wasm_smith.proofs.module.Module.export_fuel.Goals as goal

pub returns-clause-answer : goal.returns-clause-answer
returns-clause-answer c = search rules

pub returns-clause-fresh : goal.returns-clause-fresh
returns-clause-fresh c = fuel_is_new c.args.self.now.exports

pub returns-clause-valid : goal.returns-clause-valid
returns-clause-valid c = exported_valid _ _ _ _ (returns-clause-answer c) c.requires.there
