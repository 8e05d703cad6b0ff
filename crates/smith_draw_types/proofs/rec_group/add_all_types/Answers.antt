use Rattle.smith_draw_types.proofs.Common.{Context, subst, sym}
use Rattle.smith_draw_types.specs.Grounding.{functions_of, over}
use Rattle.smith_draw_types.specs.KeptGrounds.{AreEarlyGrounds}
use Rattle.smith_draw_types.proofs.EarlyGroundLemmas.{early_grown}
use Rattle.smith_draw_types.proofs.rec_group.add_all_types.Goals as goal

pub add_more_types-requires-clause-grounds : goal.add_more_types-requires-clause-grounds
add_more_types-requires-clause-grounds c =
    let grounds = c.in_ok-grounds.grounds in
    let types = c.args.types.now.types in
    let early = subst (λ (context : Context). AreEarlyGrounds (over context types) grounds) (sym c.in_ok-grounds.ensures.same)
    c.in_ok-grounds.ensures.kept in
    early_grown (functions_of c.args.config.now grounds) types c.add_least_types.new.types.types grounds
    c.in_ok-add_least_types.ensures.grown early
