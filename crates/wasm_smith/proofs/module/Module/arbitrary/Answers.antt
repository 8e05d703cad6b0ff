use Rattle.wasm_smith.proofs.module.Module.arbitrary.Goals as goal

pub returns-clause-generated : goal.returns-clause-generated
returns-clause-generated c = rw c.default-config.ensures at c.new.ensures
