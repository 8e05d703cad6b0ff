use Rattle.smith_types.proofs.Common.{ap, arith}
use Rattle.smith_types.proofs.GroundedLemmas.{grounded_by_none}
use Rattle.smith_types.proofs.type_space.TypeSpace.finds_ground.Goals as goal

pub returns : goal.returns
returns c =
    grounded_by_none c.self.inside.types.items c.args.self.now.types c.args.descriptors c.args.ty c.loop-index.index
    (ap (λ s. s.types) c.self.view_is)
    (omega (arith, c.loop-index-test.false, c.len-index-end.ensures)) c.loop-index.invariant
