use Rattle.smith_types.proofs.Common.{ap, sym, ◌∙◌}
use Rattle.smith_types.proofs.GroundedLemmas.{grounds_nothing, grounds_where_below}
use Rattle.smith_types.proofs.type_space.TypeSpace.is_grounded_by.Goals as goal

pub returns-then-not-is_ground : goal.returns-then-not-is_ground
returns-then-not-is_ground c =
    grounds_nothing c.self.inside.types.items c.args.self.now.types c.args.descriptors c.args.ty c.args.index c.index.result.now _
    (ap (λ s. s.types) c.self.view_is) c.requires.stands c.index.ensures
    (sym c.is_ground.ensures ∙ c.if-not-is_ground.true)

pub returns-then-descriptors : goal.returns-then-descriptors
returns-then-descriptors c =
    grounds_where_below c.self.inside.types.items c.args.self.now.types c.args.descriptors c.heap_type_is_sub_type.result c.args.ty
    c.args.index c.index.result.now _ (ap (λ s. s.types) c.self.view_is) c.requires.stands c.index.ensures
    (sym c.is_ground.ensures ∙ c.if-not-is_ground.false) (rw c.if-descriptors.true c.heap_type_is_sub_type.ensures)

pub returns : goal.returns
returns c =
    grounds_where_below c.self.inside.types.items c.args.self.now.types c.args.descriptors c.heap_type_is_sub_type-2.result c.args.ty
    c.args.index c.index.result.now _ (ap (λ s. s.types) c.self.view_is) c.requires.stands c.index.ensures
    (sym c.is_ground.ensures ∙ c.if-not-is_ground.false) (rw c.if-descriptors.false c.heap_type_is_sub_type-2.ensures)
