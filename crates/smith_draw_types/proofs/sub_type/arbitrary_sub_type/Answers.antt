use Rattle.smith_draw_types.proofs.Common.{Context, HasGranted, IfOk-weaker, refl, subst}
use Rattle.smith_draw_types.specs.Drawing.{Draws}
use Rattle.smith_draw_types.specs.Grounding.{functions_in, over, standing_in}
use Rattle.smith_draw_types.specs.SubTypes.{sub_type_at}
use Rattle.smith_draw_types.proofs.SubTypeLemmas.{sub_type_valid, sub_type_follows}
use Rattle.smith_draw_types.proofs.TakenLemmas.{sub_type_taken}
use Rattle.smith_draw_types.proofs.DrawingLemmas.{of_drawn}
use Rattle.smith_draw_types.proofs.GrantedLemmas.{sub_type_granted}
use Rattle.smith_draw_types.proofs.sub_type.arbitrary_sub_type.Goals as goal

pub returns : goal.returns
returns c =
    let config = c.args.config.now in
    let context = standing_in config c.args.spaces.now in
    let draws = subst (λ (functions : Context). Draws (sub_type_at config (over functions c.args.spaces.now.types.now.types) c.args.limit
    c.args.u.now) c.draw_sub_type.result c.args.u.now c.draw_sub_type.new.u) c.in_ok-grounds.ensures.same c.draw_sub_type.ensures in
    record {
      draws = draws;
      valid = λ valid. of_drawn _ draws (sub_type_valid _ (functions_in config c.args.spaces.now.entities) _ _ _ c.requires.sanitized
          valid);
      follows = of_drawn _ draws (sub_type_follows _ _ _ _);
      granted = λ granted. of_drawn (HasGranted config context) draws (sub_type_granted config context c.orderly.ensures c.args.limit
          c.args.u.now granted);
      reach = λ roots. IfOk-weaker c.draw_sub_type.result _ _ (λ _ e. sub_type_taken config context refl _ _ _ _ c.requires.sanitized roots
          e) draws.exact;
    }
