use Rattle.smith_program.proofs.Common.{ap, Code, length, sym, ◌∙◌}
use Rattle.std.specs.Prelude.{List}
use Rattle.smith_program.proofs.TerminationLemmas.{answered_bodies, code_kept, counted_bodies}
use Rattle.smith_program.proofs.program.Program.ensure_termination.Goals as goal

pub returns-clause-typed : goal.returns-clause-typed
returns-clause-typed c =
    rw (← c.self.view_is)
    (answered_bodies c.args.default_fuel c.self.inside.«module» c.ensure_termination.new.self c.ensure_termination.result
    c.self.inside.bodies c.ensure_termination.ensures.answer)

pub returns-clause-counted : goal.returns-clause-counted
returns-clause-counted c = λ valid are. counted_bodies c.ensure_termination.new.self c.self.inside.bodies valid are

pub invariant_of-self : goal.invariant_of-self
invariant_of-self c =
    c.self.invariant
    ∙ sym (ap (λ (code : List Code). length code)
    (code_kept c.args.default_fuel c.self.inside.«module» c.ensure_termination.new.self c.ensure_termination.result
    c.ensure_termination.ensures.answer))
