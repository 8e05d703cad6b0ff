use Rattle.smith_types.proofs.Common.{ap}
use Rattle.smith_types.proofs.GroundedLemmas.{marked_decided}
use Rattle.smith_types.proofs.type_space.TypeSpace.grounded_by_structs.Goals as goal

pub returns : goal.returns
returns c = λ descriptors test decides.
    let kept = c.if-not-self.false in
    let types = c.self.inside.types.items in
    marked_decided types c.args.self.now.types c.self.inside.grounds.items c.args.shared _ (ap (λ s. s.types) c.self.view_is)
    c.self.invariant.0.orderly (c.self.invariant.4 kept)
    (c.of.ensures types c.self.inside.grounds.items _ (c.self.invariant.7 kept)) descriptors test decides
