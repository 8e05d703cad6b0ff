use Rattle.smith_types.proofs.Common.{ap, sym, ◌∙◌}
use Rattle.smith_types.proofs.GroundedLemmas.{and_on, and_off, abstract_read, concrete_read, exact_read, exact_off}
use Rattle.smith_types.proofs.type_space.TypeSpace.is_grounded_by_structs.Goals as goal

pub returns-then-has : goal.returns-then-has
returns-then-has c =
    abstract_read _ _ c.self.inside.ground_kinds c.args.descriptors c.in-Abstract.shared c.in-Abstract.ty _ _
    (ap (λ s. s.types) c.self.view_is) c.self.invariant.0.orderly (c.self.invariant.5 c.if-not-self.false) c.in-Abstract.is
    (and_on _ _ _ (sym c.has.ensures ∙ c.if-has.true) c.abstract_type_is_below.ensures)

pub returns-else-has : goal.returns-else-has
returns-else-has c =
    abstract_read _ _ c.self.inside.ground_kinds c.args.descriptors c.in-Abstract.shared c.in-Abstract.ty _ _
    (ap (λ s. s.types) c.self.view_is) c.self.invariant.0.orderly (c.self.invariant.5 c.if-not-self.false) c.in-Abstract.is
    (and_off _ _ _ (sym c.has.ensures ∙ c.if-has.false) c.if-has.false)

pub returns-in-Concrete : goal.returns-in-Concrete
returns-in-Concrete c =
    concrete_read _ _ c.self.inside.grounds.items c.args.descriptors c.in-Concrete.index _ c.index.result.now _
    (ap (λ s. s.types) c.self.view_is) c.self.invariant.0.orderly (c.self.invariant.4 c.if-not-self.false) c.in-Concrete.is c.requires
    c.index.ensures

pub returns-then-descriptors : goal.returns-then-descriptors
returns-then-descriptors c =
    exact_read _ _ c.self.inside.grounds.items c.args.descriptors c.in-Exact.index _ c.index-then-descriptors.result.now _
    (ap (λ s. s.types) c.self.view_is) c.self.invariant.0.orderly (c.self.invariant.4 c.if-not-self.false) c.in-Exact.is c.requires
    c.index-then-descriptors.ensures c.if-descriptors.true

pub returns-else-descriptors : goal.returns-else-descriptors
returns-else-descriptors c = exact_off _ c.args.descriptors c.in-Exact.index _ c.in-Exact.is c.if-descriptors.false
