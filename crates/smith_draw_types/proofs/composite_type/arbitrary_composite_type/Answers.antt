use Rattle.smith_draw_types.proofs.Common.{IfOk-weaker, refl}
use Rattle.smith_draw_types.specs.Grounding.{standing_in}
use Rattle.smith_draw_types.proofs.ValueTypeLemmas.{values_valid, values_shared}
use Rattle.smith_draw_types.proofs.GrantedLemmas.{composite_granted}
use Rattle.smith_draw_types.proofs.DrawingLemmas.{of_drawn}
use Rattle.smith_draw_types.proofs.CompositeTypeLemmas.{composite_type_drawn}
use Rattle.smith_draw_types.proofs.TakenLemmas.{composite_type_taken}
use Rattle.smith_draw_types.proofs.composite_type.arbitrary_composite_type.Goals as goal

pub returns : goal.returns
returns c =
    let draws = rw (c.scope-standing.ensures, c.in_ok-call.ensures.exact) at c.draw_composite_type-drawn.ensures in
    let drawn = composite_type_drawn c.args.config.now (standing_in c.args.config.now c.args.spaces.now) c.args.limit c.args.u.now
    c.requires.sanitized in
    record {
      draws = draws;
      granted = of_drawn _ draws (composite_granted _ _ c.orderly.ensures _ _);
      enabled = of_drawn _ draws drawn.inner.enabled;
      may_be_shared = of_drawn _ draws drawn.shared;
      valid = of_drawn _ draws (values_valid _ _ _ _ _ drawn.inner.values);
      stands = of_drawn _ draws drawn.inner.stands;
      shared = of_drawn _ draws (λ must. values_shared _ _ _ _ _ must drawn.inner.values);
      reach = IfOk-weaker c.draw_composite_type-drawn.result _ _
          (λ _ e. composite_type_taken c.args.config.now (standing_in c.args.config.now c.args.spaces.now) refl _ _ _ _ c.orderly.ensures e)
          draws.exact;
    }
