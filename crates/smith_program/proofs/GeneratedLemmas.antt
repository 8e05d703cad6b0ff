-- The result of drawing a module and then its bodies.
use Rattle.smith_program.proofs.Common.{Err, Error, false, inl, inr, List, ModuleParts, Ok, subst, sym, ℕ, ◌∙◌, ◌≡◌}
use Rattle.std.specs.Prelude.{Result, IsErrAnd}
use Rattle.smith_bytes.specs.Source.{KeepsPieces}
use Rattle.smith_bytes.specs.declared.error.Error.TheVariants.{Memory}
use Rattle.smith_config.specs.declared.config.Config.{Config}
use Rattle.wasm_smith.specs.Generated.{IsGenerated}
use Rattle.smith_program.specs.Bodies.{AreDrawnBodies}
use Rattle.smith_program.specs.DrawnBodies.{bodies_at}
use Rattle.smith_program.specs.Generated.{IsProgram}
use Rattle.smith_program.specs.declared.program.Body.{Body}
use Rattle.smith_program.specs.Parts.{ProgramParts}
use Rattle.smith_program.proofs.ValidLemmas.{drawn_valid}

-- a module and its bodies
pub program_made : (given : Config) (bytes after left : List ℕ) (m : ModuleParts) (bodies : List Body)
    → IsGenerated false given bytes (Ok m) after → AreDrawnBodies m bodies → bodies_at m after ≡ (bodies, left) → KeepsPieces after left
    → IsProgram given bytes (Ok (record { «module» = m; bodies = bodies })) left
program_made given bytes after left m bodies generated drawn exact kept = record {
  programs = record { of = record { after = after; generated = generated; source = kept }; exact = exact };
  bodies = drawn;
  valid = drawn_valid m bodies generated.valid drawn;
  refusals = tt;
  source = kept bytes generated.source;
}

-- a refusal of the module
pub module_refused : (given : Config) (bytes left : List ℕ) (answer : Result ProgramParts Error) (e : Error)
    → IsGenerated false given bytes (Err e) left → IsErrAnd answer (λ y. y ≡ e)
    → IsProgram given bytes answer left
module_refused given bytes left (Ok program) e generated passed = absurd passed
module_refused given bytes left (Err y) e generated passed = record {
  programs = tt;
  bodies = tt;
  valid = tt;
  refusals = inl (subst (λ (x : Error). IsGenerated false given bytes (Err x) left) (sym passed) generated);
  source = generated.source;
}

-- lack of memory for the bodies
pub bodies_refused : (given : Config) (bytes after left : List ℕ) (m : ModuleParts) (answer : Result ProgramParts Error) (e : Error)
    → IsGenerated false given bytes (Ok m) after → IsErrAnd answer (λ y. y ≡ e) → e ≡ Memory → KeepsPieces after left
    → IsProgram given bytes answer left
bodies_refused given bytes after left m (Ok program) e generated passed memory kept = absurd passed
bodies_refused given bytes after left m (Err y) e generated passed memory kept = record {
  programs = tt;
  bodies = tt;
  valid = tt;
  refusals = inr (record { is = passed ∙ memory; m = m; of = record { after = after; generated = generated; source = kept } });
  source = kept bytes generated.source;
}
