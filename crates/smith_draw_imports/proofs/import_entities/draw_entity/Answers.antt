use Rattle.smith_draw_imports.specs.ImportedEntities.{may_import, has_room}
use Rattle.smith_draw_imports.specs.Imported.{MayImportKind, spaces_of}
use Rattle.smith_draw_imports.proofs.ImportedEntityLemmas.{first_holds, second_holds}
use Rattle.smith_draw_imports.proofs.import_entities.draw_entity.Goals as goal

pub draw_entity_of_kind-requires-clause-kind : goal.draw_entity_of_kind-requires-clause-kind
draw_entity_of_kind-requires-clause-kind c =
    let offered : MayImportKind c.args.config.now c.args.types.now.types (spaces_of c.args.imported.now) c.in-Some.kind =
    rw c.in-Some.is at c.draw_kind.ensures.offered in
    first_holds (may_import c.args.config.now c.args.types.now.types c.in-Some.kind)
    (has_room c.args.config.now (spaces_of c.args.imported.now) c.in-Some.kind) offered

pub if_fits-requires-clause-room : goal.if_fits-requires-clause-room
if_fits-requires-clause-room c =
    let offered : MayImportKind c.args.config.now c.args.types.now.types (spaces_of c.args.imported.now) c.in-Some.kind =
    rw c.in-Some.is at c.draw_kind.ensures.offered in
    rw c.in_ok-added.ensures.kind (second_holds (may_import c.args.config.now c.args.types.now.types c.in-Some.kind)
    (has_room c.args.config.now (spaces_of c.args.imported.now) c.in-Some.kind) offered)
