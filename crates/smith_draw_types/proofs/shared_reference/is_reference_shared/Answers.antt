use Rattle.smith_draw_types.proofs.SharedHeapTypeLemmas.{decided_shared}
use Rattle.smith_draw_types.proofs.shared_reference.is_reference_shared.Goals as goal

pub returns : goal.returns
returns c = decided_shared _ _ _ c.holds.ensures
