use Rattle.smith_check_references.proofs.Common.{[], bare, false≢true, held, one_valid, sym, values, ◌∙◌, ◌∷◌}
use Rattle.smith_check_references.proofs.RowLemmas.{ungiven, as_applied}
use Rattle.smith_check_references.proofs.offers.give.Goals as goal

pub apply-requires-clause-valid : goal.apply-requires-clause-valid
apply-requires-clause-valid c = one_valid (bare c.args.scope.now) c.args.given (c.is_valid.ensures.0 c.if-not-is_valid.false)

pub returns-then-not-is_valid-clause-ok : goal.returns-then-not-is_valid-clause-ok
returns-then-not-is_valid-clause-ok c =
    ungiven (bare c.args.scope.now) (values c.args.expected.now) c.args.given (held c.args.operands.now)
    (λ other valid below. false≢true (sym c.if-not-is_valid.true ∙ c.is_valid.ensures.1 (c.requires.itself other valid below)))

pub returns-clause-ok : goal.returns-clause-ok
returns-clause-ok c =
    as_applied (bare c.args.scope.now) (values c.args.expected.now) (values (c.args.given ∷ [])) (held c.args.operands.now) _ c.apply.result
    c.apply.ensures.ok
