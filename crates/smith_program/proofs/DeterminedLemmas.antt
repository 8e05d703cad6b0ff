-- Two programs for the same configuration and the same bytes.
use Rattle.smith_program.proofs.Common.{ap, false, List, ModuleParts, Ok, sym, ℕ, ◌∙◌, ◌≡◌}
use Rattle.smith_config.specs.declared.config.Config.{Config}
use Rattle.wasm_smith.proofs.DeterminedLemmas.{modules_same}
use Rattle.smith_program.specs.DrawnBodies.{bodies_at}
use Rattle.smith_program.specs.Generated.{IsProgram}
use Rattle.smith_program.specs.declared.program.Body.{Body}
use Rattle.smith_program.specs.Parts.{ProgramParts}

-- a program of a module and bodies
abbrev program_of : ModuleParts → List Body → ProgramParts
program_of m bodies = record { «module» = m; bodies = bodies }

pub programs_same : (given : Config) (bytes left rest : List ℕ) (one other : ProgramParts) → IsProgram given bytes (Ok one) left
    → IsProgram given bytes (Ok other) rest → (one ≡ other) × (left ≡ rest)
programs_same given bytes left rest one other h k =
    let first = h.programs.of in
    let second = k.programs.of in
    let (same_module, same_after) = modules_same false given bytes first.after second.after one.«module» other.«module» first.generated
    second.generated in
    let drawn : (one.bodies, left) ≡ (other.bodies, rest) =
    sym h.programs.exact ∙ ap (λ (m : ModuleParts). bodies_at m first.after) same_module ∙ ap (bodies_at other.«module») same_after
    ∙ k.programs.exact in
    let same_bodies : one.bodies ≡ other.bodies = ap (λ (x : List Body × List ℕ). x.0) drawn in (
      ap (λ (m : ModuleParts). program_of m one.bodies) same_module ∙ ap (program_of other.«module») same_bodies,
      ap (λ (x : List Body × List ℕ). x.1) drawn,
    )
