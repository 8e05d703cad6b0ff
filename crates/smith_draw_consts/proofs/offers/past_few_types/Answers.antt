use Rattle.smith_draw_consts.specs.ConstScopes.{context_of}
use Rattle.smith_draw_consts.proofs.OnlyTypeLemmas.{past_only}
use Rattle.smith_draw_consts.proofs.offers.past_few_types.Goals as goal

pub returns-in-Some : goal.returns-in-Some
returns-in-Some c =
    past_only (context_of c.args.scope.now) c.args.wanted c.args.fuel c.args.arrays c.in-Some.index c.args.place c.types-types.result.now _
    c.past_type.result c.types-types.ensures.value c.in-Some.ensures c.past_type.ensures
