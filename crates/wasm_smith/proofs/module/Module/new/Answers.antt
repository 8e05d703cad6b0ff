use Rattle.wasm_smith.proofs.module.Module.new.Goals as goal

pub returns : goal.returns
returns c = c.new_internal.ensures
