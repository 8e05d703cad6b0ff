-- Instructions whose operands and results are known.
use Rattle.std.specs.Prelude.{◌≡◌, ℕ, Bool, true, MatchBool, List, []}
use Rattle.smith_types.specs.Syntax.value_type.ValType.{ValType}
use Rattle.smith_check_rules.specs.declared.slot.Slot.{Slot}
use Rattle.smith_instr.specs.declared.instr.Instr.{Instr}
use Rattle.smith_instr.specs.Contexts.{BodyContext}
use Rattle.smith_check_rules.specs.Slots.{AreSlotsValid}
use Rattle.smith_check_rules.specs.StackTypes.{HasStackType, Leaves}
use Rattle.smith_check_rules.specs.Sequences.{stacked, IsFramed}
use Rattle.smith_check_operands.specs.Covers.{Held, Covers, Takes}
use Rattle.smith_check_operands.specs.Closes.{Steps, StepsNowhere}

pub record AppliesFrom (context : BodyContext) (operands results : List Slot) (old : Held) (after : List Slot) : Type 0 where
  pub before : List Slot
  pub covered : Covers context old before
  pub framed : IsFramed context operands results [] (stacked before []) (stacked after [])

-- the stacks of `new` are exactly the stacks of `old` with the operands popped and the results
-- pushed
pub record Applies (context : BodyContext) (operands results : List Slot) (old new : Held) : Type 0 where
  pub sound : (after : List Slot) → Covers context new after → AppliesFrom context operands results old after
  pub complete : (before after : List Slot) → Covers context old before → IsFramed context operands results [] (stacked before [])
      (stacked after []) → Covers context new after
  pub valid : AreSlotsValid context new.known

-- an instruction has this type and no other
pub record HasOnly (context : BodyContext) (set : List ℕ) (instruction : Instr) (operands results : List Slot) : Type 0 where
  pub typed : HasStackType context set instruction operands results
  pub only : (these those : List Slot) → HasStackType context set instruction these those → (these ≡ operands) × (those ≡ results)

-- an instruction has no type
abbrev pub HasNone : BodyContext → List ℕ → Instr → Type 0
HasNone context set instruction = (these those : List Slot) → HasStackType context set instruction these those → ⊥

-- whether an instruction applies, and the stacks after it
pub record IsTaken (context : BodyContext) (labels : List (List ValType)) (instruction : Instr) (set : List ℕ) (old new : Held)
    : Type 0 where
  pub steps : Steps context labels instruction set old new
  pub valid : AreSlotsValid context new.known

abbrev pub IsTried : BodyContext → List (List ValType) → Instr → List ℕ → Bool → Held → Held → Type 0
IsTried context labels instruction set taken old new = MatchBool taken (IsTaken context labels instruction set old new)
    (StepsNowhere context labels instruction set old)

-- an instruction pops operands of these types, and dead code follows it
pub record LeavesBy (context : BodyContext) (taken : List Slot) (old new : Held) : Type 0 where
  pub known : new.known ≡ []
  pub dead : new.dead ≡ true
  pub some : (rest : List Slot) × (before : List Slot) × Covers context old before × Takes context taken rest before

pub record HasLeaving (context : BodyContext) (set : List ℕ) (instruction : Instr) (taken : List Slot) : Type 0 where
  pub typed : (these those : List Slot) → Leaves context these those taken → HasStackType context set instruction these those
  pub only : (these those : List Slot) → HasStackType context set instruction these those → Leaves context these those taken
