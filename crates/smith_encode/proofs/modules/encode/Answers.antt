use Rattle.smith_encode.proofs.Common.{sym, ◌∙◌}
use Rattle.smith_encode.proofs.ModuleLemmas.{parts_refused}
use Rattle.smith_encode.proofs.modules.encode.Goals as goal

pub returns-then-not-branch-clause-fault : goal.returns-then-not-branch-clause-fault
returns-then-not-branch-clause-fault c =
    parts_refused c.args.module.now (sym c.in_ok-are_parts_spelled.ensures ∙ c.if-not-branch.true)
