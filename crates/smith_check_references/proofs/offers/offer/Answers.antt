use Rattle.smith_check_references.proofs.Common.{ap, bare, false≢true, not, sym, ◌∙◌}
use Rattle.smith_check_references.proofs.OfferLemmas.{offered, not_offered}
use Rattle.smith_check_references.proofs.offers.offer.Goals as goal

pub returns-then-is_valid : goal.returns-then-is_valid
returns-then-is_valid c = offered (bare c.args.scope.now) _ c.args.heap_type (ap (λ b. not b) c.contains-nullable.ensures)
    (c.is_valid.ensures.0 c.if-is_valid.true)

pub returns-else-is_valid : goal.returns-else-is_valid
returns-else-is_valid c = not_offered (bare c.args.scope.now) _ c.args.heap_type (ap (λ b. not b) c.contains-nullable.ensures) c.requires
    (λ valid. false≢true (sym c.if-is_valid.false ∙ c.is_valid.ensures.1 valid))
