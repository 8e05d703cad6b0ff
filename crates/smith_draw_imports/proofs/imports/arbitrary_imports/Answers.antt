use Rattle.smith_draw_imports.proofs.NoImportLemmas.{no_import_taken}
use Rattle.smith_draw_imports.proofs.imports.arbitrary_imports.Goals as goal

pub returns-clause-none : goal.returns-clause-none
returns-clause-none c = λ none. no_import_taken c.args.config.now c.args.types.now.types c.args.distinct c.draw_imports.new.imported.groups
    c.args.u.now c.draw_imports.new.u c.draw_imports.result none c.draw_imports.ensures.exact
