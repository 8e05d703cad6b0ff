use Rattle.wasm_smith.proofs.FirstPartsLemmas.{module_used, imports_used}
use Rattle.wasm_smith.proofs.build.first_parts.begin.Goals as goal

pub begin_with_module-requires-clause-valid : goal.begin_with_module-requires-clause-valid
begin_with_module-requires-clause-valid c = module_used c.args.config.now c.in-Some.shape c.in-Some.is c.requires.valid

pub begin_with_imports-requires-clause-valid : goal.begin_with_imports-requires-clause-valid
begin_with_imports-requires-clause-valid c = imports_used c.args.config.now c.in-Some-available_imports.shape c.in_default.is
    c.in-Some-available_imports.is c.requires.valid
