use Rattle.std.proofs.Common.{ap, refl, arith}
use Rattle.smith_wrong_module.specs.Splices.{AreSpliced}
use Rattle.smith_wrong_module.proofs.SpliceLemmas.{differs, stays, made, not_made}
use Rattle.smith_wrong_module.proofs.entities.edit_group.Goals as goal

pub returns-then-not-done-clause-ok : goal.returns-then-not-done-clause-ok
returns-then-not-done-clause-ok c =
    ap (λ l. record c.args.module.now { types = l })
    (stays _ _ _ _ _ _ (omega (arith, c.if-group-len.false, c.len.ensures)) c.take_out-changed.ensures.value
    c.take_out-changed.ensures.rest (not_made _ _ _ c.if-not-done.true c.in_ok-done.ensures.ok) c.in_ok-put_back.ensures.ok)

pub returns-clause-ok : goal.returns-clause-ok
returns-clause-ok c = (
  differs AreSpliced _ _ _ _ _ _ (omega (arith, c.if-group-len.false, c.len.ensures))
      c.take_out-changed.ensures.value c.take_out-changed.ensures.rest c.in_ok-put_back.ensures.ok
      (c.args.index, made _ _ _ c.if-not-done.false c.in_ok-done.ensures.ok),
  refl,
)
