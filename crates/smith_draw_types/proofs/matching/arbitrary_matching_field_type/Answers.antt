use Rattle.smith_draw_types.proofs.SharedLemmas.{storage_shareable}
use Rattle.smith_draw_types.proofs.MatchingLemmas.{matching_field_match, matching_field_valid}
use Rattle.smith_draw_types.proofs.StandingLemmas.{storage_stands}
use Rattle.smith_draw_types.proofs.DrawingLemmas.{of_drawn}
use Rattle.smith_draw_types.proofs.Common.{All, FieldType, IsGranted, values_of_storage}
use Rattle.smith_draw_types.specs.Grounding.{standing_in}
use Rattle.smith_draw_types.proofs.GrantedLemmas.{matching_field_granted}
use Rattle.smith_draw_types.proofs.matching.arbitrary_matching_field_type.Goals as goal

pub returns-clause-below : goal.returns-clause-below
returns-clause-below c = of_drawn _ (rw (c.scope-standing.ensures, c.in_ok-call.ensures.exact) at c.draw_matching_field_type-drawn.ensures)
    (matching_field_match _ _ _ _)

pub returns-clause-shared : goal.returns-clause-shared
returns-clause-shared c = of_drawn _ (rw (c.scope-standing.ensures, c.in_ok-call.ensures.exact) at c.draw_matching_field_type-drawn.ensures)
    (storage_shareable _ c.orderly.ensures _ _ (matching_field_match _ _ _ _).below)

pub returns-clause-valid : goal.returns-clause-valid
returns-clause-valid c = of_drawn _ (rw (c.scope-standing.ensures, c.in_ok-call.ensures.exact) at c.draw_matching_field_type-drawn.ensures)
    (matching_field_valid _ _ _ _)

pub returns-clause-stands : goal.returns-clause-stands
returns-clause-stands c = of_drawn _ (rw (c.scope-standing.ensures, c.in_ok-call.ensures.exact) at c.draw_matching_field_type-drawn.ensures)
    (storage_stands _ _ _ (matching_field_match _ _ _ _).below)

pub returns-clause-granted : goal.returns-clause-granted
returns-clause-granted c = λ granted.
    let context = standing_in c.args.config.now c.args.spaces.now in
    of_drawn (λ (drawn : FieldType). All (IsGranted c.args.config.now context) (values_of_storage drawn.element_type))
    (rw (c.scope-standing.ensures, c.in_ok-call.ensures.exact) at c.draw_matching_field_type-drawn.ensures)
    (matching_field_granted c.args.config.now context c.orderly.ensures c.args.field c.args.u.now granted)
