use Rattle.smith_draw_types.proofs.Common.{below_stands, inl, inr, IsGrounded, RefType, ◌≡◌, ◌⊎◌}
use Rattle.smith_draw_types.specs.Grounding.{standing_in}
use Rattle.smith_draw_types.proofs.GroundingLemmas.{grounded_if}
use Rattle.smith_draw_types.proofs.SharedLemmas.{below_shared}
use Rattle.smith_draw_types.proofs.MatchingLemmas.{matching_ref_granted, matching_ref_nullable, matching_ref_below, matching_ref_valid}
use Rattle.smith_draw_types.proofs.DrawingLemmas.{of_drawn}
use Rattle.smith_draw_types.proofs.matching.arbitrary_matching_ref_type.Goals as goal

pub returns-clause-below : goal.returns-clause-below
returns-clause-below c = of_drawn _ (rw (c.scope-standing.ensures, c.in_ok-call.ensures.exact) at c.draw_matching_ref_type-drawn.ensures)
    (matching_ref_below _ _ _ _)

pub returns-clause-nullable : goal.returns-clause-nullable
returns-clause-nullable c = of_drawn _ (rw (c.scope-standing.ensures, c.in_ok-call.ensures.exact) at c.draw_matching_ref_type-drawn.ensures)
    (matching_ref_nullable _ _ _ _)

pub returns-clause-shared : goal.returns-clause-shared
returns-clause-shared c = of_drawn _ (rw (c.scope-standing.ensures, c.in_ok-call.ensures.exact) at c.draw_matching_ref_type-drawn.ensures)
    (below_shared _ c.orderly.ensures _ _ (matching_ref_below _ _ _ _).heap)

pub returns-clause-valid : goal.returns-clause-valid
returns-clause-valid c = of_drawn _ (rw (c.scope-standing.ensures, c.in_ok-call.ensures.exact) at c.draw_matching_ref_type-drawn.ensures)
    (matching_ref_valid _ _ _ _)

pub returns-clause-stands : goal.returns-clause-stands
returns-clause-stands c = of_drawn _ (rw (c.scope-standing.ensures, c.in_ok-call.ensures.exact) at c.draw_matching_ref_type-drawn.ensures)
    (below_stands _ _ _ (matching_ref_below _ _ _ _).heap)

pub returns-clause-granted : goal.returns-clause-granted
returns-clause-granted c = λ on not_null.
    let context = standing_in c.args.config.now c.args.spaces.now in
    of_drawn (λ (drawn : RefType). (drawn.heap_type ≡ c.args.ty.heap_type) ⊎ IsGrounded context drawn.heap_type)
    (rw (c.scope-standing.ensures, c.in_ok-call.ensures.exact) at c.draw_matching_ref_type-drawn.ensures)
    (elim (matching_ref_granted c.args.config.now context c.args.ty c.args.u.now on not_null) [
      | inl same ↦ inl same
      | inr grounded ↦ inr (grounded_if context _ c.orderly.ensures grounded)
    ])
