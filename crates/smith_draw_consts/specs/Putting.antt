-- Instructions that are appended, and the values that they push.
use Rattle.std.specs.Prelude.{List, [], ◌∷◌, ◌++◌, All}
use Rattle.std.specs.List.{AllZip}
use Rattle.smith_draw_consts.specs.Common.{ConstInstr, Context, IsValBelow, ValType}
use Rattle.smith_types.specs.Expressions.{AreStackSteps}
use Rattle.smith_types.specs.Flags.{IsInstrEnabled}

-- the instructions push values of subtypes of these types, the last on top
pub record Leaves (context : Context) (wanted : List ValType) (instructions : List ConstInstr) : Type 0 where
  pub values : List ValType
  pub steps : AreStackSteps context instructions [] values
  pub below : AllZip (IsValBelow context.types) values wanted
  pub enabled : All (IsInstrEnabled context.features context.imported_globals) instructions

-- the new instructions push values of these types on top of those of the old instructions
pub record Puts (context : Context) (wanted : List ValType) (old new : List ConstInstr) : Type 0 where
  pub put : (base : List ValType) → Leaves context base old → Leaves context (base ++ wanted) new

-- the instructions push one value of this type on any stack
pub record Adds (context : Context) (wanted : ValType) (instructions : List ConstInstr) : Type 0 where
  pub steps : (base : List ValType) → AreStackSteps context instructions base (base ++ wanted ∷ [])
  pub enabled : All (IsInstrEnabled context.features context.imported_globals) instructions
