use Rattle.std.proofs.Common.{◌≡◌, drop}
use Rattle.smith_wrong.specs.Weights.{family_in}
use Rattle.smith_wrong.proofs.families.family_at.Given as goal

abbrev pub invariant-loop-family : goal.invariant-loop-family
invariant-loop-family l = family_in (drop l.family-index l.families) l.left ≡ family_in l.families l.fn.place
