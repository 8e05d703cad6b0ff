use Rattle.smith_draw_contents.proofs.Common.{IfOk-weaker}
use Rattle.smith_draw_contents.proofs.all_exports.export_everything.Goals as goal

pub returns-clause-valid : goal.returns-clause-valid
returns-clause-valid c = IfOk-weaker c.push_exports.result _ _ (λ made h. h.valid) c.push_exports.ensures.fit

pub returns-clause-type_size : goal.returns-clause-type_size
returns-clause-type_size c = IfOk-weaker c.push_exports.result _ _ (λ made h. h.type_size) c.push_exports.ensures.fit

pub returns-clause-within : goal.returns-clause-within
returns-clause-within c = IfOk-weaker c.push_exports.result _ _ (λ made h. h.within) c.push_exports.ensures.fit
