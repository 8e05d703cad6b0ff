use Rattle.std.proofs.Common.{take}
use Rattle.std.specs.Prelude.{All}
use Rattle.smith_instr.specs.declared.control.Catch.{Catch}
use Rattle.smith_check_operands.specs.Scopes.{bare}
use Rattle.smith_explain.specs.Names.{IsAmong, clause_names}
use Rattle.smith_explain.specs.Causes.{AreThere}
use Rattle.smith_explain.proofs.unknown.missing_in_clauses.Given as goal

abbrev pub invariant-loop-i : goal.invariant-loop-i
invariant-loop-i l = All (λ (clause : Catch). AreThere (bare l.scope) l.labels (IsAmong (clause_names clause))) (take l.i l.clauses)
