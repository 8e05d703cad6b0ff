use Rattle.smith_check_references.proofs.Common.{bare, Concrete, false≢true, subst, sym, ◌∙◌}
use Rattle.smith_check_references.specs.Hierarchies.{IsFunctionHeap}
use Rattle.smith_check_references.specs.Offers.{IsHeapOffer}
use Rattle.smith_check_references.proofs.HierarchyLemmas.{function_heap_own, function_offer, exact_heap_own}
use Rattle.smith_check_references.proofs.references.least_heap_type.Goals as goal

pub returns-then-contains : goal.returns-then-contains
returns-then-contains c =
    subst (λ h. IsHeapOffer (bare c.args.scope.now) h (Concrete c.in-Concrete.index)) (sym c.in-Concrete.is)
    (function_heap_own (bare c.args.scope.now) c.in-Concrete.index (sym c.contains.ensures ∙ c.if-contains.true)
    (subst (λ h. IsFunctionHeap (bare c.args.scope.now) h) c.in-Concrete.is c.requires.heap))

pub returns-else-contains : goal.returns-else-contains
returns-else-contains c =
    subst (λ h. IsHeapOffer (bare c.args.scope.now) h c.top_at.result) (sym c.in-Concrete.is)
    (function_offer (bare c.args.scope.now) c.in-Concrete.index c.top_at.result c.requires.scope c.top_at.ensures.orderly
    (subst (λ h. IsFunctionHeap (bare c.args.scope.now) h) c.in-Concrete.is c.requires.heap)
    (λ gc. false≢true (sym c.if-contains.false ∙ c.contains.ensures ∙ gc)) c.top_at.ensures.top)

pub returns-in_default : goal.returns-in_default
returns-in_default c = exact_heap_own (bare c.args.scope.now) c.args.heap_type c.requires.heap c.in_default.not-Concrete
