use Rattle.smith_spell.proofs.Common.{List, subst, SubType}
use Rattle.smith_types.proofs.GroundedLemmas.{and_on, and_off}
use Rattle.smith_spell.specs.Decided.{IsKnown}
use Rattle.smith_spell.proofs.KnownLemmas.{abstract_known, concrete_known}
use Rattle.smith_spell.proofs.earlier.Earlier.is_grounded.Goals as goal

pub returns-then-self : goal.returns-then-self
returns-then-self c =
    let known = subst (λ (types : List SubType). IsKnown types c.self.inside.known) c.self.view_is c.self.invariant in
    abstract_known _ _ _ _ _ _ _ known c.in-Abstract.is (rw c.in-Abstract.is at c.requires).0
    (and_on _ _ _ c.if-self.true c.is_above_structs.ensures)

pub returns-else-self : goal.returns-else-self
returns-else-self c =
    let known = subst (λ (types : List SubType). IsKnown types c.self.inside.known) c.self.view_is c.self.invariant in
    abstract_known _ _ _ _ _ _ _ known c.in-Abstract.is (rw c.in-Abstract.is at c.requires).0
    (and_off _ _ _ c.if-self.false c.if-self.false)

pub returns-in-Concrete : goal.returns-in-Concrete
returns-in-Concrete c =
    let known = subst (λ (types : List SubType). IsKnown types c.self.inside.known) c.self.view_is c.self.invariant in
    concrete_known _ _ _ _ _ _ known c.in-Concrete.is (rw c.in-Concrete.is at c.requires).1 c.is_ground_at.ensures
