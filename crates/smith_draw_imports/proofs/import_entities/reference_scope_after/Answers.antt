use Rattle.smith_draw_imports.proofs.import_entities.reference_scope_after.Goals as goal

pub scope-requires : goal.scope-requires
scope-requires c = rw c.as_slice-funcs.ensures c.requires

pub returns : goal.returns
returns c = rw c.as_slice-funcs.ensures at c.scope.ensures
