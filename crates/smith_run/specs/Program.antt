-- The result of the program, which checks its words first.
use Rattle.std.specs.Prelude.{ℕ, Result, Ok, Err}
use Rattle.smith_run.specs.declared.run.Outcome.{Outcome}
use Rattle.smith_run.specs.declared.program.ProgramFault.{ProgramFault}
use Rattle.smith_run.specs.declared.program.ProgramFault.TheVariants.{Usage, Run}
use Rattle.smith_run.specs.Run.{status_of}

-- the exit status of the program: 2 if its words are not accepted
abbrev pub exit_status_of : Result Outcome ProgramFault → ℕ
exit_status_of (Ok outcome) = status_of (Ok outcome)
exit_status_of (Err Usage) = 2
exit_status_of (Err (Run fault)) = status_of (Err fault)
