use Rattle.smith_body_leaves.proofs.Common.{arith, bare}
use Rattle.smith_body_leaves.proofs.ReferenceLemmas.{named_past}
use Rattle.smith_body_leaves.proofs.references.is_named.Goals as goal

pub returns-then-place-scope : goal.returns-then-place-scope
returns-then-place-scope c = named_past (bare c.args.scope.now) c.args.wanted c.args.function (omega arith)
