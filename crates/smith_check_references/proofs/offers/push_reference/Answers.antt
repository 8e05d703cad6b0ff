use Rattle.smith_check_references.proofs.Common.{bare, held, one_valid, reference_to}
use Rattle.smith_check_references.proofs.RowLemmas.{given_as}
use Rattle.smith_check_references.proofs.offers.push_reference.Goals as goal

pub push_all-requires-clause-valid : goal.push_all-requires-clause-valid
push_all-requires-clause-valid c = one_valid (bare c.args.scope.now) c.in-Some.given c.in-Some.ensures.valid

pub returns-clause-ok : goal.returns-clause-ok
returns-clause-ok c =
    given_as (bare c.args.scope.now) (reference_to c.args.heap_type) c.in-Some.given (held c.args.operands.now) _ c.in-Some.ensures.above
    c.in-Some.ensures.least c.in_ok-push_all.ensures.ok
