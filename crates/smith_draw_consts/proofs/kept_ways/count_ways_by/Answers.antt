use Rattle.smith_draw_consts.proofs.Common.{arith, sym, ◌∙◌}
use Rattle.smith_draw_consts.specs.ConstScopes.{context_of}
use Rattle.smith_draw_consts.proofs.ConstFoundLemmas.{counted, few_type, not_found}
use Rattle.smith_draw_consts.proofs.kept_ways.count_ways_by.Goals as goal

pub returns-in-Ok-clause-count : goal.returns-in-Ok-clause-count
returns-in-Ok-clause-count c =
    let few = few_type (context_of c.args.scope.now) c.args.wanted c.args.fuel c.args.arrays c.args.index c.args.inner.now in
    counted _ _ _ (omega (arith, few)) (sym c.past_type.ensures ∙ c.in-Ok.is)

pub returns-in-Ok-clause-few : goal.returns-in-Ok-clause-few
returns-in-Ok-clause-few c =
    let few = few_type (context_of c.args.scope.now) c.args.wanted c.args.fuel c.args.arrays c.args.index c.args.inner.now in
    let count = counted _ _ _ (omega (arith, few)) (sym c.past_type.ensures ∙ c.in-Ok.is) in
    omega (arith, few, count)

pub returns-in-Err-clause-count : goal.returns-in-Err-clause-count
returns-in-Err-clause-count c =
    let few = few_type (context_of c.args.scope.now) c.args.wanted c.args.fuel c.args.arrays c.args.index c.args.inner.now in
    absurd (not_found _ _ _ (omega (arith, few)) (sym c.past_type.ensures ∙ c.in-Err.is))

pub returns-in-Err-clause-few : goal.returns-in-Err-clause-few
returns-in-Err-clause-few c =
    let few = few_type (context_of c.args.scope.now) c.args.wanted c.args.fuel c.args.arrays c.args.index c.args.inner.now in
    absurd (not_found _ _ _ (omega (arith, few)) (sym c.past_type.ensures ∙ c.in-Err.is))
