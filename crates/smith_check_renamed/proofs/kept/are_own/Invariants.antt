use Rattle.smith_check_renamed.proofs.OwnLemmas.{AreOwn}
use Rattle.smith_check_renamed.proofs.kept.are_own.Given as goal

abbrev pub invariant-loop-i : goal.invariant-loop-i
invariant-loop-i l = AreOwn l.indices l.i
