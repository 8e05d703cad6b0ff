use Rattle.smith_program_examples.proofs.Common.{[], arith, false≢true, Instr, refl, ◌<◌, ◌∷◌}
use Rattle.std.specs.Prelude.{IsTrue}
use Rattle.smith_instr.specs.Enabled.{names_data}
use Rattle.smith_instr.specs.declared.instr.Instr.TheVariants as instr
use Rattle.smith_instr.specs.declared.memory.MemoryInstr.TheVariants as memory
use Rattle.smith_instr.specs.declared.table.TableInstr.TheVariants as table
use Rattle.smith_program.specs.Valid.{HasOne}
use Rattle.smith_program.specs.declared.program.Body.TheVariants as body
use Rattle.smith_program_examples.proofs.ValidExamples.{no_data, none_of}
use Rattle.smith_program_examples.proofs.valid.named_segments.Goals as goal

pub returns : goal.returns
returns c = record {
  of_data = (
    0,
    body.Drawn (instr.Memory (memory.Init 0 1) ∷ []),
    omega arith,
    refl,
    (
      0,
      instr.Memory (memory.Init 0 1),
      omega arith,
      refl,
      refl,
    ),
  );
  of_elements = no_data (instr.Table (table.Init 0 1) ∷ []) (false≢true, tt);
  in_raw_bytes = none_of (HasOne (λ (x : Instr). IsTrue (names_data x))) (body.Raw ∷ []) ((λ never. never), tt);
  counted = let some : 0 < 1 = omega arith in record { bulk_memory = refl; some = some };
  without_bulk_memory = λ counts. false≢true counts.bulk_memory;
  without_a_segment = λ counts. let none : 0 < 0 = counts.some in omega arith;
}
