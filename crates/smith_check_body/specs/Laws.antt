-- A law of verdicts.
use Rattle.std.specs.Prelude.{◌≡◌, List}
use Rattle.smith_instr.specs.declared.instr.Instr.{Instr}
use Rattle.smith_instr.specs.Contexts.{BodyContext}
use Rattle.smith_check_body.specs.Verdicts.{IsVerdict}
use Rattle.smith_check_body.specs.declared.verdict.Verdict.{Verdict}

-- at most one verdict on a body is correct
abbrev pub VerdictsAreUnique : Type 0
VerdictsAreUnique =
    (context : BodyContext) (body : List Instr) (one other : Verdict)
    → IsVerdict context body one → IsVerdict context body other → one ≡ other
