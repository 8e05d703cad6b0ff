use Rattle.smith_wrong.proofs.WithoutLemmas.{NoneBefore}
use Rattle.smith_wrong.proofs.wrong.try_preambles.Given as goal

abbrev pub invariant-loop-family : goal.invariant-loop-family
invariant-loop-family l = NoneBefore l.families l.family-index
