-- Drawn locals of bodies.
use Rattle.std.specs.Prelude.{ℕ, false, List, length}
use Rattle.smith_draw_types.specs.Common.{Config, Context, ValType}
use Rattle.smith_draw_types.specs.CompositeTypes.{val_types_at}

-- the types of locals: at most 100 value types over the existing types (own rule)
unfoldable pub locals_at : Config → Context → List ℕ → List ValType × List ℕ
locals_at config context bytes = val_types_at config context false (length context.types) 100 bytes
