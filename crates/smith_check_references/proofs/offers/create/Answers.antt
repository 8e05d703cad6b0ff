use Rattle.smith_check_references.proofs.Common.{[], bare, created_reference, held, values, ◌∷◌}
use Rattle.smith_check_references.proofs.RowLemmas.{unpopped, popped_given}
use Rattle.smith_check_references.proofs.offers.create.Goals as goal

pub returns-then-not-pop_all-clause-ok : goal.returns-then-not-pop_all-clause-ok
returns-then-not-pop_all-clause-ok c =
    unpopped (bare c.args.scope.now) (values c.args.expected.now) (values (created_reference (bare c.args.scope.now) c.args.ty ∷ []))
    (held c.args.operands.now) c.if-not-pop_all.ensures

pub returns-clause-ok : goal.returns-clause-ok
returns-clause-ok c =
    popped_given (bare c.args.scope.now) (values c.args.expected.now) (created_reference (bare c.args.scope.now) c.args.ty)
    (held c.args.operands.now) (held c.pop_all.new.self) _
    c.push_created.result c.if-not-pop_all.ensures c.push_created.ensures.ok
