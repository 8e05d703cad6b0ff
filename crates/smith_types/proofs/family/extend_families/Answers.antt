use Rattle.smith_types.proofs.FamilyLemmas.{families_more}
use Rattle.smith_types.proofs.family.extend_families.Goals as goal

pub loop-families-preserved : goal.loop-families-preserved
loop-families-preserved c =
    rw c.in_ok-push.ensures.items (families_more c.args.types.now c.loop-families.families.items c.loop-families.invariant)
