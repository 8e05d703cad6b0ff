use Rattle.std.proofs.Common.{◌≡◌, drop}
use Rattle.smith_wrong.specs.Numbers.{numbered}
use Rattle.smith_wrong.proofs.numbers.find_numbered.Given as goal

-- no earlier family has the number
abbrev pub invariant-loop-family : goal.invariant-loop-family
invariant-loop-family l = numbered l.number (drop l.family-index l.families) ≡ numbered l.number l.families
