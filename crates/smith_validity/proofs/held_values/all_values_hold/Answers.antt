use Rattle.smith_validity.proofs.HeldValueLemmas.{values_from_held, held_from_values}
use Rattle.smith_validity.proofs.held_values.all_values_hold.Goals as goal

pub returns : goal.returns
returns g c = (
  λ yes. values_from_held (g.P.Predicate.meaning c.args.predicate.now) c.args.inner.now (c.are_held.ensures.0 yes),
  λ all. c.are_held.ensures.1 (held_from_values (g.P.Predicate.meaning c.args.predicate.now) c.args.inner.now all),
)
