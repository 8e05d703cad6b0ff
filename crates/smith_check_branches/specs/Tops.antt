-- The types on top of the stack, for the number of operands of an instruction.
use Rattle.std.specs.Prelude.{◌⊎◌, ℕ, ◌-◌, ◌≤◌, IsTrue, List, ◌++◌, length, drop, replicate}
use Rattle.smith_types.specs.Syntax.value_type.ValType.{ValType}
use Rattle.smith_instr.specs.Contexts.{BodyContext}
use Rattle.smith_check_rules.specs.Slots.{AreBelow, values}
use Rattle.smith_check_rules.specs.declared.slot.Slot.{Slot}
use Rattle.smith_check_rules.specs.declared.slot.Slot.TheVariants.{Bottom}
use Rattle.smith_check_operands.specs.Covers.{Held}

-- the types of the `wanted` values on top of the stack: known types, and below them bottom types if
-- there are too few
abbrev pub top_of : List Slot → ℕ → List Slot
top_of known wanted = replicate (wanted - length known) Bottom ++ drop (length known - wanted) known

-- the values on top of the stack have these types (Validation, Control Instructions, br_table)
pub record IsOnTop (context : BodyContext) (expected : List ValType) (held : Held) : Type 0 where
  pub reached : (length expected ≤ length held.known) ⊎ IsTrue held.dead
  pub below : AreBelow context.types (top_of held.known (length expected)) (values expected)
