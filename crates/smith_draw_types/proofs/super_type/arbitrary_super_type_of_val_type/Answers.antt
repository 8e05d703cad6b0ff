use Rattle.smith_draw_types.proofs.SharedLemmas.{val_shareable_above}
use Rattle.smith_draw_types.proofs.MatchingLemmas.{super_val_above, super_val_valid}
use Rattle.smith_draw_types.proofs.StandingLemmas.{val_above_stands}
use Rattle.smith_draw_types.proofs.DrawingLemmas.{of_drawn}
use Rattle.smith_draw_types.proofs.super_type.arbitrary_super_type_of_val_type.Goals as goal

pub returns-clause-above : goal.returns-clause-above
returns-clause-above c = of_drawn _ c.draw_super_val_type.ensures (super_val_above _ _ _ _)

pub returns-clause-shared : goal.returns-clause-shared
returns-clause-shared c = of_drawn _ c.draw_super_val_type.ensures (val_shareable_above _ c.orderly.ensures _ _ (super_val_above _ _ _ _))

pub returns-clause-valid : goal.returns-clause-valid
returns-clause-valid c = of_drawn _ c.draw_super_val_type.ensures (super_val_valid _ _ c.orderly.ensures _ _)

pub returns-clause-stands : goal.returns-clause-stands
returns-clause-stands c = of_drawn _ c.draw_super_val_type.ensures (val_above_stands _ c.orderly.ensures _ _ (super_val_above _ _ _ _))
