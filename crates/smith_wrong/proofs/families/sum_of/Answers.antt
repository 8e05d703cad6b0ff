use Rattle.std.proofs.Common.{◌≡◌, drop, arith}
use Rattle.std.proofs.lemmas.List.{at_drop_all}
use Rattle.smith_wrong.specs.Weights.{total_of}
use Rattle.smith_wrong.proofs.families.sum_of.Goals as goal

pub returns : goal.returns
returns c =
    let none : total_of (drop c.loop-family.family-index c.args.families.now) ≡ 0 =
    at_drop_all total_of c.args.families.now c.loop-family.family-index c.loop-family-test.false in
    omega (arith, none, c.loop-family.invariant.0, c.loop-family.invariant.1)
