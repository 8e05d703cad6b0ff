use Rattle.smith_body_nodes.proofs.AmongLemmas.{lengths_differ}
use Rattle.smith_body_nodes.proofs.targets.are_below.Goals as goal

pub returns-then-values-wanted : goal.returns-then-values-wanted
returns-then-values-wanted c = lengths_differ c.args.scope.now.types.now.types c.args.values.now c.args.wanted.now c.if-values-wanted.true
