use Rattle.smith_body_aggregates.proofs.Common.{arith, bare, length, ◌<◌}
use Rattle.smith_body_aggregates.proofs.AggregateLemmas.{field_tested}
use Rattle.smith_body_nodes.proofs.IndexedTypeLemmas.{field_valid}
use Rattle.smith_body_aggregates.proofs.aggregates.FieldOfferOffer.is_offered.Goals as goal

pub is_usable-requires-clause-field : goal.is_usable-requires-clause-field
is_usable-requires-clause-field c =
    let inside : c.args.index < length c.args.self.now.fields.now = omega (arith, c.requires.below) in
    field_valid (bare c.args.self.now.scope.now) c.args.self.now.fields.now c.args.index _ c.requires.ready.1 inside

pub returns : goal.returns
returns c =
    let inside : c.args.index < length c.args.self.now.fields.now = omega (arith, c.requires.below) in
    field_tested (bare c.args.self.now.scope.now).types c.args.self.now.of c.args.self.now.fields.now c.args.index _ c.is_usable.result
    inside c.is_usable.ensures
