use Rattle.smith_draw_types.proofs.SharedLemmas.{above_shared}
use Rattle.smith_draw_types.proofs.MatchingLemmas.{super_ref_nullable, super_ref_above, super_ref_valid}
use Rattle.smith_draw_types.proofs.Common.{above_stands}
use Rattle.smith_draw_types.proofs.DrawingLemmas.{of_drawn}
use Rattle.smith_draw_types.proofs.super_type.arbitrary_super_type_of_ref_type.Goals as goal

pub returns-clause-above : goal.returns-clause-above
returns-clause-above c = of_drawn _ c.draw_super_ref_type.ensures (super_ref_above _ _ _ _)

pub returns-clause-nullable : goal.returns-clause-nullable
returns-clause-nullable c = of_drawn _ c.draw_super_ref_type.ensures (super_ref_nullable _ _ _ _)

pub returns-clause-shared : goal.returns-clause-shared
returns-clause-shared c = of_drawn _ c.draw_super_ref_type.ensures (above_shared _ c.orderly.ensures _ _ (super_ref_above _ _ _ _).heap)

pub returns-clause-valid : goal.returns-clause-valid
returns-clause-valid c = of_drawn _ c.draw_super_ref_type.ensures (super_ref_valid _ _ c.orderly.ensures _ _)

pub returns-clause-stands : goal.returns-clause-stands
returns-clause-stands c = of_drawn _ c.draw_super_ref_type.ensures (above_stands _ c.orderly.ensures _ _ (super_ref_above _ _ _ _).heap)
