use Rattle.smith_check_body.proofs.Common.{bare, MatchBool, subst}
use Rattle.std.specs.Prelude.{IfOk}
use Rattle.smith_instr.specs.declared.instr.Instr.TheVariants as instr
use Rattle.smith_check_body.specs.Checks.{Goes, Stops}
use Rattle.smith_check_body.proofs.checker.Checker.check.Goals as goal

pub returns-in-Block-clause-ok : goal.returns-in-Block-clause-ok
returns-in-Block-clause-ok c = rw c.in-Block.is c.open.ensures.ok

pub returns-in-Loop-clause-ok : goal.returns-in-Loop-clause-ok
returns-in-Loop-clause-ok c = rw c.in-Loop.is c.open-in-Loop.ensures.ok

pub returns-in-If-clause-ok : goal.returns-in-If-clause-ok
returns-in-If-clause-ok c = rw c.in-If.is c.open-in-If.ensures.ok

pub returns-in-Else-clause-ok : goal.returns-in-Else-clause-ok
returns-in-Else-clause-ok c = rw c.in-Else.is c.second.ensures.ok

pub returns-in-End-clause-ok : goal.returns-in-End-clause-ok
returns-in-End-clause-ok c = rw c.in-End.is c.close.ensures.ok

pub returns-in-TryTable-clause-ok : goal.returns-in-TryTable-clause-ok
returns-in-TryTable-clause-ok c =
    rw c.in-TryTable.is (subst (λ clauses. IfOk c.open_try.result (λ goes. MatchBool goes
    (Goes (bare c.args.scope.now) (instr.TryTable c.in-TryTable.ty clauses) c.args.self.now c.open_try.new.self)
    (Stops (bare c.args.scope.now) (instr.TryTable c.in-TryTable.ty clauses) c.args.self.now))) c.as_slice.ensures c.open_try.ensures.ok)
