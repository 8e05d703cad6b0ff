use Rattle.smith_draw_types.proofs.SharedLemmas.{func_shareable}
use Rattle.smith_draw_types.proofs.MatchingLemmas.{matching_func_match, matching_func_valid}
use Rattle.smith_draw_types.proofs.StandingLemmas.{func_stands}
use Rattle.smith_draw_types.proofs.DrawingLemmas.{of_drawn}
use Rattle.smith_draw_types.proofs.Common.{All, Func, FuncType, IsGranted, values_of}
use Rattle.smith_draw_types.specs.Grounding.{standing_in}
use Rattle.smith_draw_types.proofs.GrantedLemmas.{matching_func_granted}
use Rattle.smith_draw_types.proofs.matching.arbitrary_matching_func_type.Goals as goal

pub returns-clause-below : goal.returns-clause-below
returns-clause-below c = of_drawn _ (rw (c.scope-standing.ensures, c.in_ok-call.ensures.exact) at c.draw_matching_func_type-drawn.ensures)
    (matching_func_match _ _ _ _)

pub returns-clause-shared : goal.returns-clause-shared
returns-clause-shared c = of_drawn _ (rw (c.scope-standing.ensures, c.in_ok-call.ensures.exact) at c.draw_matching_func_type-drawn.ensures)
    (func_shareable _ c.orderly.ensures _ _ (matching_func_match _ _ _ _))

pub returns-clause-valid : goal.returns-clause-valid
returns-clause-valid c = of_drawn _ (rw (c.scope-standing.ensures, c.in_ok-call.ensures.exact) at c.draw_matching_func_type-drawn.ensures)
    (matching_func_valid _ _ c.orderly.ensures _ _)

pub returns-clause-stands : goal.returns-clause-stands
returns-clause-stands c = of_drawn _ (rw (c.scope-standing.ensures, c.in_ok-call.ensures.exact) at c.draw_matching_func_type-drawn.ensures)
    (func_stands _ c.orderly.ensures _ _ (matching_func_match _ _ _ _))

pub returns-clause-granted : goal.returns-clause-granted
returns-clause-granted c = λ granted.
    let context = standing_in c.args.config.now c.args.spaces.now in
    of_drawn (λ (drawn : FuncType). All (IsGranted c.args.config.now context) (values_of (Func drawn)))
    (rw (c.scope-standing.ensures, c.in_ok-call.ensures.exact) at c.draw_matching_func_type-drawn.ensures)
    (matching_func_granted c.args.config.now context c.orderly.ensures c.args.function.now c.args.u.now granted)
