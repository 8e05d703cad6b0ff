use Rattle.smith_draw_types.proofs.Common.{below_stands, IfOk-weaker}
use Rattle.smith_draw_types.proofs.SharedLemmas.{below_shared}
use Rattle.smith_draw_types.proofs.HeapTypeLemmas.{matching_heap_below, matching_heap_valid}
use Rattle.smith_draw_types.proofs.ChosenLemmas.{matching_item}
use Rattle.smith_draw_types.proofs.DrawingLemmas.{of_drawn}
use Rattle.smith_draw_types.proofs.matching.arbitrary_matching_heap_type.Goals as goal

pub returns-clause-below : goal.returns-clause-below
returns-clause-below c = of_drawn _ c.draw_matching_heap_type.ensures (matching_heap_below _ _ _ _)

pub returns-clause-shared : goal.returns-clause-shared
returns-clause-shared c = of_drawn _ c.draw_matching_heap_type.ensures (below_shared _ c.orderly.ensures _ _ (matching_heap_below _ _ _ _))

pub returns-clause-valid : goal.returns-clause-valid
returns-clause-valid c = of_drawn _ c.draw_matching_heap_type.ensures (matching_heap_valid _ _ _ _)

pub returns-clause-offered : goal.returns-clause-offered
returns-clause-offered c = IfOk-weaker c.draw_matching_heap_type.result _ _ (λ x. matching_item _ _ _ _ x _)
    c.draw_matching_heap_type.ensures.exact

pub returns-clause-stands : goal.returns-clause-stands
returns-clause-stands c = of_drawn _ c.draw_matching_heap_type.ensures (below_stands _ _ _ (matching_heap_below _ _ _ _))
