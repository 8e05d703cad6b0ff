use Rattle.smith_draw_contents.proofs.Common.{inl, inr, spaces_in}
use Rattle.std.proofs.lemmas.Result.{IfErr-weaker}
use Rattle.smith_draw_contents.proofs.ExportRefusalLemmas.{exports_all, exports_free}
use Rattle.smith_draw_contents.proofs.exports.arbitrary_exports.Goals as goal

pub returns-then-config-clause-exact : goal.returns-then-config-clause-exact
returns-then-config-clause-exact c =
    rw (exports_all c.args.config.now c.args.types.now.types (spaces_in c.args.spaces.now) c.args.imports_size c.args.u.now
    c.if-config.true) c.export_everything.ensures.exact

pub returns-then-config-clause-refusal : goal.returns-then-config-clause-refusal
returns-then-config-clause-refusal c = IfErr-weaker c.export_everything.result _ _ (λ e h. inl (c.if-config.true, h))
    c.export_everything.ensures.refusal

pub returns-clause-exact : goal.returns-clause-exact
returns-clause-exact c = rw (exports_free c.args.config.now c.args.types.now.types (spaces_in c.args.spaces.now) c.args.imports_size
    c.args.u.now c.if-config.false) c.draw_free_exports.ensures.exact

pub returns-clause-refusal : goal.returns-clause-refusal
returns-clause-refusal c = IfErr-weaker c.draw_free_exports.result _ _ (λ e h. inr (c.if-config.false, h))
    c.draw_free_exports.ensures.refusal
