use Rattle.smith_draw_imports.proofs.Common.{[], Bool, ExportKind, List, refl, sym, ◌∙◌, ◌∷◌, ◌≡◌}
use Rattle.smith_draw_imports.specs.Imported.{spaces_of}
use Rattle.smith_draw_imports.specs.ImportedEntities.{kind_rows}
use Rattle.smith_draw_types.proofs.EnabledLemmas.{length_enabled}
use Rattle.smith_draw_imports.proofs.ImportedEntityLemmas.{row_offered}
use Rattle.smith_draw_imports.proofs.import_kinds.draw_kind.Goals as goal

pub returns-clause-offered : goal.returns-clause-offered
returns-clause-offered c =
    let table : List (ExportKind × Bool) =
    c.kind_row.result ∷ (c.kind_row-2.result ∷ (c.kind_row-3.result ∷ (c.kind_row-4.result ∷ (c.kind_row-5.result ∷ [])))) in
    let is : table ≡ kind_rows c.args.config.now c.args.types.now.types (spaces_of c.args.imported.now) =
    rw (c.kind_row.ensures, c.kind_row-2.ensures, c.kind_row-3.ensures, c.kind_row-4.ensures, c.kind_row-5.ensures) refl in
    row_offered c.args.config.now c.args.types.now.types (spaces_of c.args.imported.now) table _ _ _ _ is
    (c.count_enabled.ensures ∙ sym (length_enabled table)) c.if-count_enabled-eq0.false c.choose_enabled.ensures.exact
