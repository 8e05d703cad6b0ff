-- A list extends itself.
use Rattle.smith_draw_definitions.proofs.Common.{[], Extends, List, rules}

pub all_kept : {A : Type 0} (xs : List A) → Extends xs xs
all_kept xs = record { more = []; parts = search rules }
