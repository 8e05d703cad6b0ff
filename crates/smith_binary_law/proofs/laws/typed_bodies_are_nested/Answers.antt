use Rattle.smith_binary_law.proofs.NestingLemmas.{body_nested}
use Rattle.smith_binary_law.proofs.laws.typed_bodies_are_nested.Goals as goal

pub returns : goal.returns
returns c = body_nested
