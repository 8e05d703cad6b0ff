use Rattle.smith_draw_types.proofs.Common.{HasGranted}
use Rattle.smith_draw_types.specs.Grounding.{functions_in, standing_in}
use Rattle.smith_draw_types.proofs.GrantedLemmas.{sub_type_of_granted}
use Rattle.smith_draw_types.proofs.SupertypeLemmas.{some_listed}
use Rattle.smith_draw_types.proofs.SubTypeLemmas.{sub_type_of_valid, sub_type_of_follows, sub_type_of_some}
use Rattle.smith_draw_types.proofs.DrawingLemmas.{of_drawn}
use Rattle.smith_draw_types.proofs.sub_type.arbitrary_sub_type_of_super_type.Goals as goal

pub draw_sub_type_of-drawn-requires : goal.draw_sub_type_of-drawn-requires
draw_sub_type_of-drawn-requires c = rw c.supertypes-indices.ensures (some_listed _ c.orderly.ensures c.requires.some)

pub returns : goal.returns
returns c =
    let types = c.args.spaces.now.types.now.types in
    let some = some_listed types c.orderly.ensures c.requires.some in
    let draws = rw (c.scope-standing.ensures, c.in_ok-call.ensures.exact, c.supertypes-indices.ensures) at
    c.draw_sub_type_of-drawn.ensures in
    record {
      draws = draws;
      below = of_drawn _ draws (sub_type_of_some _ _ _ _ some);
      valid = λ valid. of_drawn _ draws (sub_type_of_valid _ (functions_in c.args.config.now c.args.spaces.now.entities) _ _ _
          c.requires.sanitized c.requires.gc valid some);
      follows = of_drawn _ draws (sub_type_of_follows _ _ _ _ some);
      granted = λ granted. of_drawn (HasGranted c.args.config.now (standing_in c.args.config.now c.args.spaces.now)) draws
          (sub_type_of_granted _ _ c.orderly.ensures _ _ _ granted);
    }
