use Rattle.smith_program.proofs.Common.{map, subst, sym, ℕ, ◌≡◌}
use Rattle.wasm_smith.specs.Scratch.{has_vectors}
use Rattle.smith_program.specs.Canonical.{canonical_body}
use Rattle.smith_program.proofs.CanonicalProgramLemmas.{canonical_bodies}
use Rattle.smith_program.proofs.program.Program.canonicalize_nans.Goals as goal

pub returns-clause-typed : goal.returns-clause-typed
returns-clause-typed c =
    let old = c.self.inside.«module» in
    let before = c.self.inside.bodies in
    let adds = c.in_ok-add_scratch.ensures.answer in
    let made = rw (c.globals.ensures, c.as_slice.ensures, c.config.ensures) at c.in_ok-bodies.ensures.ok in
    rw (← c.self.view_is)
    (canonical_bodies c.in_ok-add_scratch.field-0 old c.add_scratch.new.self before c.in_ok-bodies.bodies adds
    (subst (λ (n : ℕ). c.in_ok-bodies.bodies ≡ map (canonical_body (has_vectors old) n) before) (sym adds.next) made))
