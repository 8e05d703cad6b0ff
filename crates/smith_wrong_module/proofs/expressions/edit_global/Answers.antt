use Rattle.std.proofs.Common.{refl, arith}
use Rattle.smith_wrong_module.specs.Changes.{DifferInInitial}
use Rattle.smith_wrong_module.proofs.SpliceLemmas.{differs, made}
use Rattle.smith_wrong_module.proofs.expressions.edit_global.Goals as goal

pub returns-clause-ok : goal.returns-clause-ok
returns-clause-ok c = (
  differs DifferInInitial _ _ _ _ _ _ (omega (arith, c.if-global-len.false, c.len.ensures))
      c.take_out-changed.ensures.value c.take_out-changed.ensures.rest c.in_ok-put_back.ensures.ok
      ((c.args.index, made _ _ _ c.if-not-done.false c.in_ok-done.ensures.ok), refl),
  refl,
)
