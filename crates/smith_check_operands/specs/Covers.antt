-- The stacks that a checker's operands describe.
use Rattle.std.specs.Prelude.{◌≡◌, ◌⊎◌, Bool, IsTrue, List, [], ◌∷◌, ◌++◌}
use Rattle.smith_check_rules.specs.declared.slot.Slot.{Slot}
use Rattle.smith_check_operands.specs.declared.frame.Operands.{Operands}
use Rattle.smith_check_rules.specs.Slots.{IsBelow, AreBelow}
use Rattle.smith_instr.specs.Contexts.{BodyContext}
use Rattle.smith_check_rules.specs.Slots.{IsSlotValid, AreSlotsValid}
use Rattle.smith_check_rules.specs.Sequences.{CountsAs}

-- the known types, the last on top, and whether any types may be below them
pub record Held : Type 0 where
  pub known : List Slot
  pub dead : Bool

abbrev pub holding : List Slot → Bool → Held
holding known dead = record { known = known; dead = dead }

abbrev pub held : Operands → Held
held operands = holding operands.known.items operands.dead

-- a stack of valid types: the known types match those on top; below them there are any types in
-- dead code, and else none
pub record Covers (context : BodyContext) (held : Held) (stack : List Slot) : Type 0 where
  pub under : List Slot
  pub top : List Slot
  pub is : stack ≡ under ++ top
  pub below : AreBelow context.types held.known top
  pub reached : IsTrue held.dead ⊎ (under ≡ [])
  pub valid : AreSlotsValid context stack

-- `rest` is the stack without operands of these types
pub record Takes (context : BodyContext) (expected rest before : List Slot) : Type 0 where
  pub taken : List Slot
  pub is : before ≡ rest ++ taken
  pub accepted : AreBelow context.types taken expected

-- a stack that is covered, and has these operands above `rest`
pub record CoversTaken (context : BodyContext) (expected : List Slot) (old : Held) (rest : List Slot) : Type 0 where
  pub before : List Slot
  pub covered : Covers context old before
  pub takes : Takes context expected rest before

-- the stacks of `new` are exactly the stacks of `old` with the operands popped
pub record Pops (context : BodyContext) (expected : List Slot) (old new : Held) : Type 0 where
  pub sound : (rest : List Slot) → Covers context new rest → CoversTaken context expected old rest
  pub complete : (rest before : List Slot) → Covers context old before → Takes context expected rest before → Covers context new rest
  pub valid : AreSlotsValid context new.known

-- no stack of `old` has these operands on top
abbrev pub PopsNothing : BodyContext → List Slot → Held → Type 0
PopsNothing context expected old = (rest before : List Slot) → Covers context old before → Takes context expected rest before → ⊥

-- `after` is the stack with the results pushed
pub record Gives (context : BodyContext) (results rest after : List Slot) : Type 0 where
  pub given : List Slot
  pub is : after ≡ rest ++ given
  pub offered : CountsAs context results given

pub record CoversGiven (context : BodyContext) (results : List Slot) (old : Held) (after : List Slot) : Type 0 where
  pub rest : List Slot
  pub covered : Covers context old rest
  pub gives : Gives context results rest after

-- the stacks of `new` are exactly the stacks of `old` with the results pushed
pub record Pushes (context : BodyContext) (results : List Slot) (old new : Held) : Type 0 where
  pub sound : (after : List Slot) → Covers context new after → CoversGiven context results old after
  pub complete : (after rest : List Slot) → Covers context old rest → Gives context results rest after → Covers context new after
  pub valid : AreSlotsValid context new.known

-- the stacks of `old` are exactly the stacks of `new` with one more value on top, of a type above
-- `top`
pub record Topped (context : BodyContext) (top : Slot) (new : Held) (rest : List Slot) (value : Slot) : Type 0 where
  pub covered : Covers context new rest
  pub above : IsBelow context.types top value
  pub valid : IsSlotValid context value

pub record Tops (context : BodyContext) (top : Slot) (old new : Held) : Type 0 where
  pub sound : (rest : List Slot) (value : Slot) → Topped context top new rest value → Covers context old (rest ++ value ∷ [])
  pub complete : (rest : List Slot) (value : Slot) → Covers context old (rest ++ value ∷ []) → Topped context top new rest value
  pub valid : AreSlotsValid context new.known
  pub top_valid : IsSlotValid context top

abbrev pub TopsNothing : BodyContext → Held → Type 0
TopsNothing context old = (rest : List Slot) (value : Slot) → Covers context old (rest ++ value ∷ []) → ⊥
