use Rattle.std.proofs.Common.{[], ◌∷◌, ap, refl, arith}
use Rattle.std.specs.Prelude.{unwrap_or}
use Rattle.smith_instr.specs.declared.instr.Instr.TheVariants as instr
use Rattle.smith_instr.specs.declared.memory.MemoryInstr.TheVariants.{DataDrop}
use Rattle.smith_decode.specs.BodyReadings.{body_of}
use Rattle.smith_decode.specs.declared.modules.Module.{Module}
use Rattle.smith_wrong_module.proofs.SpliceLemmas.{removes}
use Rattle.smith_wrong_module.proofs.examples.modules.Goals as goal

pub returns-clause-start : goal.returns-clause-start
returns-clause-start c = refl

pub returns-clause-instruction : goal.returns-clause-instruction
returns-clause-instruction c = (
  record {
    before = [];
    piece = body_of [] (instr.Memory (DataDrop 0) ∷ []) ∷ [];
    changed = body_of [] [] ∷ [];
    after = [];
    old_parts = refl;
    new_parts = refl;
    place = refl;
    differ = (removes (instr.Memory (DataDrop 0) ∷ []) 0 instr.Nop (omega arith), refl);
  },
  refl,
)

pub returns-clause-other_section : goal.returns-clause-other_section
returns-clause-other_section c same = omega (arith, ap (λ (m : Module). unwrap_or m.start 5) same)

pub returns-clause-two_changes : goal.returns-clause-two_changes
returns-clause-two_changes c changed = omega (arith, ap (λ (m : Module). unwrap_or m.start 5) changed.1)
