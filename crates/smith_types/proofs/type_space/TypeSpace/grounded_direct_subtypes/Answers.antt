use Rattle.smith_types.proofs.Common.{ap}
use Rattle.std.proofs.lemmas.Option.{IfSome_then}
use Rattle.smith_types.proofs.GroundedLemmas.{family_decided}
use Rattle.smith_types.proofs.type_space.TypeSpace.grounded_direct_subtypes.Goals as goal

pub returns : goal.returns
returns c =
    let kept = c.if-not-self.false in
    let types = c.self.inside.types.items in
    IfSome_then c.of.result (c.of.ensures types c.self.inside.grounds.items (c.self.invariant.8 kept))
    (λ indices listed descriptors test decides. family_decided types c.args.self.now.types c.self.inside.grounds.items c.args.index
    indices.now (ap (λ s. s.types) c.self.view_is) c.self.invariant.0.orderly (c.self.invariant.4 kept) listed descriptors test decides)
