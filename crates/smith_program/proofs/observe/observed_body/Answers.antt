use Rattle.smith_program.proofs.Common.{refl}
use Rattle.smith_program.proofs.ObservedBodiesLemmas.{is_observed}
use Rattle.smith_program.proofs.observe.observed_body.Goals as goal

pub returns-clause-ok : goal.returns-clause-ok
returns-clause-ok c =
    is_observed c.args.first c.args.module.now c.args.place c.index-code-place.result c.defined_type-function.result.now c.args.body.now _
    (rw c.code.ensures.items at c.index-code-place.is) c.defined_type-function.ensures
    (rw (
      c.in-Drawn.is,
      c.in_ok-observed.ensures.ok,
      c.as_slice-4.ensures.value,
      c.as_slice-5.ensures,
      c.in_ok-mixed.ensures.ok,
      c.as_slice-3.ensures,
      c.in_ok-locals.ensures.joined,
      c.as_slice.ensures,
      c.as_slice-2.ensures,
    ) refl)
