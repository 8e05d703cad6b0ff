use Rattle.smith_body_leaves.proofs.Common.{bare, sym, ◌∙◌}
use Rattle.smith_body_leaves.proofs.ConversionLemmas.{conversion_valid}
use Rattle.smith_body_leaves.proofs.unary.conversion_to.Goals as goal

pub returns-then-is_allowed-clause-valid : goal.returns-then-is_allowed-clause-valid
returns-then-is_allowed-clause-valid c =
    conversion_valid c.args.scope.now.config.now (bare c.args.scope.now) c.args.wanted c.in_ok-conversion.conversion c.requires.wanted
    c.in_ok-conversion.ensures (sym c.is_allowed.ensures.exact ∙ c.if-is_allowed.true)
