use Rattle.smith_draw_types.proofs.Common.{Context, false, HeapType, IsGrounded, refl, RefType, true, ◌≡◌}
use Rattle.smith_draw_types.specs.Grounding.{standing_in}
use Rattle.smith_draw_types.proofs.GroundingLemmas.{grounded_if}
use Rattle.smith_draw_types.proofs.ValueTypeLemmas.{drawn_is, IsRefTypeDrawn, ref_type_drawn, ref_type_granted}
use Rattle.smith_draw_types.proofs.TakenLemmas.{ref_type_taken}
use Rattle.smith_draw_types.proofs.value_type.arbitrary_ref_type.Goals as goal

ungranted : (context : Context) (heap_type : HeapType) → true ≡ false → IsGrounded context heap_type
ungranted context heap_type never = cc

pub returns-clause-granted : goal.returns-clause-granted
returns-clause-granted c =
    let context = standing_in c.args.config.now c.args.spaces.now in
    let exact = rw (c.scope-standing.ensures, c.without_record-call.ensures) at c.draw_ref_type-drawn.ensures.exact in
    let granted : c.draw_ref_type-drawn.result.nullable ≡ false → IsGrounded context c.draw_ref_type-drawn.result.heap_type =
    drawn_is (λ (ty : RefType). ty.nullable ≡ false → IsGrounded context ty.heap_type) _
    (λ e. grounded_if context _ c.orderly.ensures (ref_type_granted _ _ _ _ _ e).1) exact in
    search (granted, ungranted)

pub returns-clause-reach : goal.returns-clause-reach
returns-clause-reach c = λ no. ref_type_taken c.args.config.now (standing_in c.args.config.now c.args.spaces.now) refl _ _ _ _ _
    c.orderly.ensures no (rw (c.scope-standing.ensures, c.without_record-call.ensures) at c.draw_ref_type-drawn.ensures.exact)

pub returns-clause-draws : goal.returns-clause-draws
returns-clause-draws c =
    record {
      exact = rw (c.scope-standing.ensures, c.without_record-call.ensures) at c.draw_ref_type-drawn.ensures.exact;
      memory = tt;
      left = c.draw_ref_type-drawn.ensures.left;
    }

pub returns-clause-valid : goal.returns-clause-valid
returns-clause-valid c =
    (drawn_is (λ (ty : RefType). IsRefTypeDrawn c.args.config.now c.args.spaces.now.types.now.types c.args.must_share c.args.limit ty) _
    (ref_type_drawn _ _ _ _ _ c.requires.sanitized c.requires.may_share) (rw (c.scope-standing.ensures, c.without_record-call.ensures)
    at c.draw_ref_type-drawn.ensures.exact)).valid

pub returns-clause-stands : goal.returns-clause-stands
returns-clause-stands c =
    (drawn_is (λ (ty : RefType). IsRefTypeDrawn c.args.config.now c.args.spaces.now.types.now.types c.args.must_share c.args.limit ty) _
    (ref_type_drawn _ _ _ _ _ c.requires.sanitized c.requires.may_share) (rw (c.scope-standing.ensures, c.without_record-call.ensures)
    at c.draw_ref_type-drawn.ensures.exact)).stands

pub returns-clause-shared : goal.returns-clause-shared
returns-clause-shared c =
    (drawn_is (λ (ty : RefType). IsRefTypeDrawn c.args.config.now c.args.spaces.now.types.now.types c.args.must_share c.args.limit ty) _
    (ref_type_drawn _ _ _ _ _ c.requires.sanitized c.requires.may_share) (rw (c.scope-standing.ensures, c.without_record-call.ensures)
    at c.draw_ref_type-drawn.ensures.exact)).shared
