use Rattle.smith_draw_types.proofs.Common.{IfSome_then, refl}
use Rattle.smith_draw_types.specs.Grounding.{functions_in, over}
use Rattle.smith_draw_types.proofs.EarlyGroundLemmas.{record_begun, families_begun}
use Rattle.smith_draw_types.proofs.early_grounds.EarlyGrounds.of.Goals as goal

pub returns-clause-kept : goal.returns-clause-kept
returns-clause-kept c =
    let context = over (functions_in c.args.config.now c.args.entities.now) c.args.types.now.types in
    let named = rw c.types.ensures.value at (c.have_types.ensures.0 c.if-not-have_types.false) in
    record {
      kept = IfSome_then c.in_ok-kept.kept c.in_ok-kept.ensures.kept (λ kept right. record_begun context kept right named);
      families = IfSome_then c.in_ok-families.families (c.in_ok-families.ensures.listed context refl c.in_ok-kept.ensures.kept)
          (λ families found. let (grounds, right, listed) = found in families_begun context grounds families named right listed);
    }
