use Rattle.std.proofs.Common.{ap, refl, arith}
use Rattle.smith_wrong_module.specs.Changes.{DifferInLocals}
use Rattle.smith_wrong_module.proofs.SpliceLemmas.{differs, stays, made, not_made}
use Rattle.smith_wrong_module.proofs.expressions.change_locals.Goals as goal

pub returns-then-not-done-clause-ok : goal.returns-then-not-done-clause-ok
returns-then-not-done-clause-ok c =
    let same = not_made _ _ _ c.if-not-done.true c.in_ok-done.ensures.ok in
    ap (λ l. record c.args.module.now { bodies = l })
    (stays _ _ _ _ _ _ (omega (arith, c.if-body-len.false, c.len.ensures)) c.take_out-changed.ensures.value
    c.take_out-changed.ensures.rest (ap (λ l. record c.take_out-changed.result { locals = l }) same)
    c.in_ok-put_back.ensures.ok)

pub returns-clause-ok : goal.returns-clause-ok
returns-clause-ok c = (
  differs DifferInLocals _ _ _ _ _ _ (omega (arith, c.if-body-len.false, c.len.ensures))
      c.take_out-changed.ensures.value c.take_out-changed.ensures.rest c.in_ok-put_back.ensures.ok
      ((c.args.run, made _ _ _ c.if-not-done.false c.in_ok-done.ensures.ok), refl),
  refl,
)
