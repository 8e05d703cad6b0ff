-- The body for a budget of 0.
use Rattle.smith_body.proofs.Common.{[], AreValid, below_themselves, BodyContext, refl, step, ◌∷◌}
use Rattle.smith_instr.specs.Sequences.{IsBodyTyped}
use Rattle.smith_instr.specs.declared.instr.Instr.TheVariants as instr
use Rattle.smith_instr.proofs.SequenceLemmas.{finished}
use Rattle.smith_body.proofs.DrawnLemmas.{one}

pub stop_typed : (context : BodyContext) → AreValid context context.results → IsBodyTyped context (instr.Unreachable ∷ [])
stop_typed context valid =
    let inside : BodyContext = record context { labels = context.results ∷ [] } in
    record {
      set = [];
      typed = step (one inside instr.Unreachable [] context.results context.results [] [] [] ([], refl, valid)
          (below_themselves context.types context.results) valid refl)
          (finished inside context.results [] valid);
    }
