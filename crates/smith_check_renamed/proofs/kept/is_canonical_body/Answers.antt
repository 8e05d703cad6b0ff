use Rattle.smith_check_types.specs.TypeSections.{canonical_index}
use Rattle.smith_check_renamed.proofs.OwnLemmas.{body_own}
use Rattle.smith_check_renamed.proofs.kept.is_canonical_body.Goals as goal

pub returns-then-are_own : goal.returns-then-are_own
returns-then-are_own c = λ yes. body_own (canonical_index c.args.indices.now) (c.are_own.ensures c.if-are_own.true) c.args.body.now
