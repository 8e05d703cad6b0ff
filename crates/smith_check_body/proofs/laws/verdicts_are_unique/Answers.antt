use Rattle.smith_check_body.proofs.VerdictLemmas.{one_verdict}
use Rattle.smith_check_body.proofs.laws.verdicts_are_unique.Goals as goal

pub returns : goal.returns
returns c = one_verdict
