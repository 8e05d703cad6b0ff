use Rattle.smith_check_references.proofs.Common.{bare, held, IfOk, subst, ValType}
use Rattle.smith_check_references.specs.Offers.{IsGiven}
use Rattle.smith_check_references.proofs.OfferLemmas.{given_by_heap_result}
use Rattle.smith_check_references.proofs.references.push_function.Goals as goal

pub push_reference-requires-clause-valid : goal.push_reference-requires-clause-valid
push_reference-requires-clause-valid c = c.least_heap_type.ensures.valid

pub returns-clause-ok : goal.returns-clause-ok
returns-clause-ok c =
    subst (λ (v : ValType). IfOk c.push_reference.result (λ there. IsGiven (bare c.args.scope.now) v there (held c.args.operands.now)
    (held c.push_reference.new.operands))) c.function_heap_type-named.ensures.named
    (given_by_heap_result (bare c.args.scope.now) c.function_heap_type-named.result c.least_heap_type.result (held c.args.operands.now) _
    c.push_reference.result c.least_heap_type.ensures c.push_reference.ensures.ok)
