use Rattle.smith_check.proofs.Common.{IfOk, Instr, List, refl, subst, sym}
use Rattle.smith_check_operands.specs.Scopes.{bare}
use Rattle.smith_check_body.specs.Verdicts.{IsVerdict}
use Rattle.smith_check.proofs.functions.check_canonical.Goals as goal

pub returns-then-is_canonical_body-clause-ok : goal.returns-then-is_canonical_body-clause-ok
returns-then-is_canonical_body-clause-ok c =
    subst (λ (code : List Instr). IfOk c.check_body.result (IsVerdict (bare c.args.scope.now) code))
    (sym (c.if-is_canonical_body.ensures refl)) c.check_body.ensures.ok
