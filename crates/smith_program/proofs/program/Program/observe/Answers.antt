use Rattle.smith_program.proofs.Common.{subst, sym, ℕ}
use Rattle.smith_program.specs.Observed.{AreObserved}
use Rattle.smith_program.proofs.ObservedProgramLemmas.{observed_bodies}
use Rattle.smith_program.proofs.program.Program.observe.Goals as goal

pub returns-clause-typed : goal.returns-clause-typed
returns-clause-typed c =
    let valid = rw (← c.self.view_is) at c.requires.module_valid in
    let observes = rw (c.globals.ensures, c.as_slice.ensures) at c.in_ok-bodies.ensures.ok in
    let adds = c.in_ok-first.ensures.answer.1 in
    rw (← c.self.view_is)
    (observed_bodies c.in_ok-first.first c.self.inside.«module» c.add_sinks.new.self c.self.inside.bodies c.in_ok-bodies.bodies valid adds
    (subst (λ (n : ℕ). AreObserved n c.self.inside.«module» c.self.inside.bodies c.in_ok-bodies.bodies) (sym adds.next) observes))
