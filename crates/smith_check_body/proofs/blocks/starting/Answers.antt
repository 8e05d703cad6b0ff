use Rattle.smith_check_body.proofs.Common.{ap, arith, false, holding, take, take_all, values, ◌∙◌, ◌≡◌}
use Rattle.smith_check_body.proofs.blocks.starting.Goals as goal

pub returns-clause-ok : goal.returns-clause-ok
returns-clause-ok c =
    let whole : take c.loop-value.value-index c.args.params.now ≡ c.args.params.now = take_all c.loop-value.value-index c.args.params.now
    (omega arith) in
    ap (λ ks. holding ks false) (c.loop-value.invariant ∙ ap (λ xs. values xs) whole)
