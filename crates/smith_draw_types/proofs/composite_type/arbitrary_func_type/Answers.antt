use Rattle.smith_draw_types.proofs.Common.{IfOk-weaker, refl}
use Rattle.smith_draw_types.specs.Grounding.{standing_in}
use Rattle.smith_draw_types.proofs.ValueTypeLemmas.{values_shared}
use Rattle.smith_draw_types.proofs.GrantedLemmas.{func_granted}
use Rattle.smith_draw_types.proofs.DrawingLemmas.{of_drawn}
use Rattle.smith_draw_types.proofs.CompositeTypeLemmas.{func_type_drawn, func_type_valid, func_drawn}
use Rattle.smith_draw_types.proofs.TakenLemmas.{func_type_taken}
use Rattle.smith_draw_types.proofs.composite_type.arbitrary_func_type.Goals as goal

pub returns : goal.returns
returns c =
    let draws = rw (c.scope-standing.ensures, c.in_ok-call.ensures.exact) at c.draw_func_type-drawn.ensures in
    let drawn = func_type_drawn c.args.config.now (standing_in c.args.config.now c.args.spaces.now) c.args.must_share c.args.limit
    c.args.u.now c.requires.sanitized c.requires.may_share in
    let inner = func_drawn _ _ _ _ _ drawn in
    record {
      draws = draws;
      granted = of_drawn _ draws (func_granted _ _ c.orderly.ensures _ _ _);
      valid = of_drawn _ draws (func_type_valid _ _ _ _ _ drawn);
      stands = of_drawn _ draws inner.stands;
      shared = λ must. of_drawn _ draws (values_shared _ _ _ _ _ must inner.values);
      reach = λ no. IfOk-weaker c.draw_func_type-drawn.result _ _
          (λ _ e. func_type_taken c.args.config.now (standing_in c.args.config.now c.args.spaces.now) refl _ _ _ _ _ c.orderly.ensures no e)
          draws.exact;
    }
