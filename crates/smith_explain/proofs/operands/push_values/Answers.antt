use Rattle.std.proofs.Common.{◌≡◌, ◌++◌, ◌∙◌, ap, take, arith}
use Rattle.std.proofs.lemmas.List.{take_all}
use Rattle.smith_check_rules.specs.Slots.{values}
use Rattle.smith_explain.proofs.operands.push_values.Goals as goal

pub returns-clause-ok : goal.returns-clause-ok
returns-clause-ok c =
    let whole : take c.loop-ty.ty-index c.args.types.now ≡ c.args.types.now = take_all c.loop-ty.ty-index c.args.types.now (omega arith) in
    c.loop-ty.invariant ∙ ap (λ xs. c.args.slots.now.items ++ values xs) whole
