use Rattle.std.proofs.Common.{refl, arith}
use Rattle.smith_wrong_module.proofs.SpliceLemmas.{changes}
use Rattle.smith_wrong_module.proofs.entities.change_import.Goals as goal

pub returns-clause-ok : goal.returns-clause-ok
returns-clause-ok c = (
  changes _ _ _ _ _ (omega (arith, c.if-index-len.false, c.len.ensures)) c.take_out-changed.ensures.rest
      c.in_ok-put_back.ensures.ok,
  refl,
)
