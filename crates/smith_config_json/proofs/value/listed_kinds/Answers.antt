use Rattle.std.proofs.Common.{arith}
use Rattle.std.proofs.lemmas.Grind.{common_steps}
use Rattle.std.proofs.lemmas.Result.{err_from_is_err_and}
use Rattle.smith_config_json.specs.Values.{ends, refuses, names}
use Rattle.smith_config_json.proofs.value.listed_kinds.Goals as goal

pub returns-in_err-kind-clause-value : goal.returns-in_err-kind-clause-value
returns-in_err-kind-clause-value c =
    let handed = err_from_is_err_and c.from_residual.result c.from_residual.ensures.1 in
    rw (handed.1, handed.2, c.in_err-kind.ensures.rest) (c.loop-kind.invariant.listed _ _ (refuses c.in_err-kind.ensures.value))

pub loop-kind-preserved : goal.loop-kind-preserved
loop-kind-preserved c = record {
  listed = λ v rest later.
      let named = rw c.in-Some.is at c.in_ok-kind.ensures.value in
      c.loop-kind.invariant.listed v rest (names c.in-Some.kind named (rw (c.with-all.ensures, c.in_ok-kind.ensures.rest) at later));
  shorter = let before = c.loop-kind.invariant.shorter in let after = c.in_ok-kind.ensures.rest in grind (arith, common_steps);
}

pub returns-clause-value : goal.returns-clause-value
returns-clause-value c =
    let ended = rw c.in_default.is at c.in_ok-kind.ensures.value in
    rw c.in_ok-kind.ensures.rest (c.loop-kind.invariant.listed _ _ (ends ended))
