use Rattle.smith_draw_types.proofs.Common.{All-weaker, IfOk-weaker, IsFieldInRange, refl}
use Rattle.smith_draw_types.specs.Grounding.{standing_in}
use Rattle.smith_draw_types.proofs.ValueTypeLemmas.{values_valid, values_shared}
use Rattle.smith_draw_types.proofs.GrantedLemmas.{struct_granted}
use Rattle.smith_draw_types.proofs.DrawingLemmas.{of_drawn}
use Rattle.smith_draw_types.proofs.FieldTypeLemmas.{IsFieldDrawn}
use Rattle.smith_draw_types.proofs.CompositeTypeLemmas.{struct_type_drawn, field_values_drawn}
use Rattle.smith_draw_types.proofs.TakenLemmas.{struct_type_taken}
use Rattle.smith_draw_types.proofs.composite_type.arbitrary_struct_type.Goals as goal

pub returns : goal.returns
returns c =
    let types = c.args.spaces.now.types.now.types in
    let config = c.args.config.now in
    let draws = rw (c.scope-standing.ensures, c.in_ok-call.ensures.exact) at c.draw_struct_type-drawn.ensures in
    let drawn = struct_type_drawn config (standing_in c.args.config.now c.args.spaces.now) c.args.must_share c.args.limit c.args.u.now
    c.requires.sanitized c.requires.may_share in
    let values = field_values_drawn config types c.args.must_share c.args.limit _ drawn.fields in
    record {
      draws = draws;
      granted = of_drawn _ draws (struct_granted _ _ c.orderly.ensures _ _ _);
      few = of_drawn _ draws drawn.few;
      valid = of_drawn _ draws (values_valid _ _ _ _ _ values);
      stands = of_drawn _ draws (All-weaker (IsFieldDrawn config types c.args.must_share c.args.limit) (IsFieldInRange types)
          (λ field d. d.stands) _ drawn.fields);
      shared = λ must. of_drawn _ draws (values_shared _ _ _ _ _ must values);
      reach = λ no. IfOk-weaker c.draw_struct_type-drawn.result _ _
          (λ _ e. struct_type_taken c.args.config.now (standing_in c.args.config.now c.args.spaces.now) refl _ _ _ _ _ c.orderly.ensures no
          e) draws.exact;
    }
