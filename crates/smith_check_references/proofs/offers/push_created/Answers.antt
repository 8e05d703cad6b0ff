use Rattle.smith_check_references.proofs.Common.{bare, held, IfOk, IsHeapValid, reference_to, subst, sym}
use Rattle.smith_check_references.proofs.AggregateLemmas.{created_valid}
use Rattle.smith_check_references.specs.Offers.{IsGiven}
use Rattle.smith_check_references.proofs.offers.push_created.Goals as goal

pub push_reference-requires-clause-valid : goal.push_reference-requires-clause-valid
push_reference-requires-clause-valid c = subst (λ h. IsHeapValid (bare c.args.scope.now) h) (sym c.created_heap_type.ensures)
    (created_valid (bare c.args.scope.now) c.args.ty c.requires.scope c.requires.aggregate)

pub returns-clause-ok : goal.returns-clause-ok
returns-clause-ok c =
    subst (λ h. IfOk c.push_reference.result (λ there. IsGiven (bare c.args.scope.now) (reference_to h) there (held c.args.operands.now)
    (held c.push_reference.new.operands))) c.created_heap_type.ensures c.push_reference.ensures.ok
