use Rattle.smith_draw_definitions.proofs.Common.{passed_on, seen_by, standing_in, true}
use Rattle.smith_draw_consts.proofs.TriedStepLemmas.{choice_refused}
use Rattle.smith_draw_definitions.proofs.GlobalsLoop.{global_lacks}
use Rattle.smith_draw_definitions.proofs.DrawnStepLemmas.{drawn_refused}
use Rattle.smith_draw_definitions.proofs.globals.draw_initialised_global.Goals as goal

pub returns-in_err-initial-clause-refusal : goal.returns-in_err-initial-clause-refusal
returns-in_err-initial-clause-refusal c =
    passed_on _ c.from_residual.result c.in_err-initial.field-0.0 c.from_residual.ensures.1
    (drawn_refused c.args.config.now (standing_in c.args.config.now c.args.spaces.now) c.draw_global_type-global.result.val_type _
    (rw c.requires.standing at c.draw_global_type-global.ensures.grounded) c.in_err-initial.ensures.refusal)

pub returns-clause-grounded : goal.returns-clause-grounded
returns-clause-grounded c = rw c.requires.standing at c.draw_global_type-global.ensures.grounded

pub returns-in_err-initial-clause-exact : goal.returns-in_err-initial-clause-exact
returns-in_err-initial-clause-exact c =
    choice_refused _ c.in_err-initial.field-0.0 _ c.from_residual.result c.in_err-initial.ensures.refusal
    (λ empty. global_lacks c.args.config.now (seen_by c.args.config.now c.args.spaces.now true) _ _ _
    (rw c.requires.standing at c.draw_global_type-global.ensures.draws.exact) (c.in_err-initial.ensures.none empty))
    c.from_residual.ensures.1
