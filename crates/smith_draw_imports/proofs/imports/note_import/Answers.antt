use Rattle.smith_draw_imports.proofs.Common.{refl}
use Rattle.smith_draw_imports.specs.ImportedEntities.{import_scope}
use Rattle.smith_draw_imports.proofs.ImportGroundLemmas.{function_imported, other_imported}
use Rattle.smith_draw_imports.proofs.imports.note_import.Goals as goal

pub returns-in_default : goal.returns-in_default
returns-in_default c = λ config spaces h. other_imported config c.args.types.now.types spaces c.args.added c.args.grounds.now
    c.in_default.not-Func h

pub returns : goal.returns
returns c = λ config spaces h.
    let types = c.args.types.now.types in
    rw c.in-Func.is (c.note.ensures (import_scope config types spaces) _ refl (function_imported config types spaces c.in-Func.index) h)
