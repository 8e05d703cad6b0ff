use Rattle.smith_draw_types.proofs.Common.{above_stands, IfOk-weaker}
use Rattle.smith_draw_types.proofs.SharedLemmas.{above_shared}
use Rattle.smith_draw_types.proofs.HeapTypeLemmas.{super_heap_above, super_heap_valid}
use Rattle.smith_draw_types.proofs.ChosenLemmas.{super_item}
use Rattle.smith_draw_types.proofs.DrawingLemmas.{of_drawn}
use Rattle.smith_draw_types.proofs.super_type.arbitrary_super_type_of_heap_type.Goals as goal

pub returns-clause-above : goal.returns-clause-above
returns-clause-above c = of_drawn _ c.draw_super_heap_type.ensures (super_heap_above _ _ _ _)

pub returns-clause-shared : goal.returns-clause-shared
returns-clause-shared c = of_drawn _ c.draw_super_heap_type.ensures (above_shared _ c.orderly.ensures _ _ (super_heap_above _ _ _ _))

pub returns-clause-valid : goal.returns-clause-valid
returns-clause-valid c = of_drawn _ c.draw_super_heap_type.ensures (super_heap_valid _ _ c.orderly.ensures _ _)

pub returns-clause-offered : goal.returns-clause-offered
returns-clause-offered c = IfOk-weaker c.draw_super_heap_type.result _ _ (λ x. super_item _ _ _ _ x _) c.draw_super_heap_type.ensures.exact

pub returns-clause-stands : goal.returns-clause-stands
returns-clause-stands c = of_drawn _ c.draw_super_heap_type.ensures (above_stands _ c.orderly.ensures _ _ (super_heap_above _ _ _ _))
