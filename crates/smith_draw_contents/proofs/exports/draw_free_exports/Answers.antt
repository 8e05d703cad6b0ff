use Rattle.smith_draw_contents.proofs.Common.{IfOk-weaker, spaces_in}
use Rattle.smith_draw_contents.proofs.ExportRefusalLemmas.{no_export_taken}
use Rattle.smith_draw_contents.proofs.exports.draw_free_exports.Goals as goal

pub returns-clause-valid : goal.returns-clause-valid
returns-clause-valid c = IfOk-weaker c.draw_exports.result _ _ (λ made h. h.fit.valid) c.draw_exports.ensures.kept

pub returns-clause-most : goal.returns-clause-most
returns-clause-most c = IfOk-weaker c.draw_exports.result _ _ (λ made h. h.most) c.draw_exports.ensures.kept

pub returns-clause-type_size : goal.returns-clause-type_size
returns-clause-type_size c = IfOk-weaker c.draw_exports.result _ _ (λ made h. h.fit.type_size) c.draw_exports.ensures.kept

pub returns-clause-within : goal.returns-clause-within
returns-clause-within c = IfOk-weaker c.draw_exports.result _ _ (λ made h. h.fit.within) c.draw_exports.ensures.kept

pub returns-clause-none : goal.returns-clause-none
returns-clause-none c = λ none. no_export_taken c.args.config.now c.args.types.now.types (spaces_in c.args.spaces.now) c.args.imports_size _
    _ c.draw_exports.result none c.draw_exports.ensures.exact
