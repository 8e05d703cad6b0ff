use Rattle.smith_draw_types.proofs.SharedLemmas.{val_shareable}
use Rattle.smith_draw_types.proofs.MatchingLemmas.{matching_val_below, matching_val_valid}
use Rattle.smith_draw_types.proofs.StandingLemmas.{val_stands}
use Rattle.smith_draw_types.proofs.DrawingLemmas.{of_drawn}
use Rattle.smith_draw_types.proofs.Common.{IsGranted}
use Rattle.smith_draw_types.specs.Grounding.{standing_in}
use Rattle.smith_draw_types.proofs.FilledLemmas.{matching_value}
use Rattle.smith_draw_types.proofs.matching.arbitrary_matching_val_type.Goals as goal

pub returns-clause-below : goal.returns-clause-below
returns-clause-below c = of_drawn _ (rw (c.scope-standing.ensures, c.in_ok-call.ensures.exact) at c.draw_matching_val_type-drawn.ensures)
    (matching_val_below _ _ _ _)

pub returns-clause-shared : goal.returns-clause-shared
returns-clause-shared c = of_drawn _ (rw (c.scope-standing.ensures, c.in_ok-call.ensures.exact) at c.draw_matching_val_type-drawn.ensures)
    (val_shareable _ c.orderly.ensures _ _ (matching_val_below _ _ _ _))

pub returns-clause-valid : goal.returns-clause-valid
returns-clause-valid c = of_drawn _ (rw (c.scope-standing.ensures, c.in_ok-call.ensures.exact) at c.draw_matching_val_type-drawn.ensures)
    (matching_val_valid _ _ _ _)

pub returns-clause-stands : goal.returns-clause-stands
returns-clause-stands c = of_drawn _ (rw (c.scope-standing.ensures, c.in_ok-call.ensures.exact) at c.draw_matching_val_type-drawn.ensures)
    (val_stands _ _ _ (matching_val_below _ _ _ _))

pub returns-clause-granted : goal.returns-clause-granted
returns-clause-granted c = λ granted.
    let context = standing_in c.args.config.now c.args.spaces.now in
    of_drawn (IsGranted c.args.config.now context) (rw (c.scope-standing.ensures, c.in_ok-call.ensures.exact) at
    c.draw_matching_val_type-drawn.ensures) (matching_value c.args.config.now context c.orderly.ensures c.args.ty c.args.u.now granted)
