-- Instructions that apply, or apply to no stack.
use Rattle.std.specs.Prelude.{◌≡◌, ℕ, Bool, MatchBool, List, [], ◌∷◌}
use Rattle.smith_instr.specs.Contexts.{BodyContext}
use Rattle.smith_instr.specs.declared.instr.Instr.{Instr}
use Rattle.smith_check_rules.specs.Slots.{IsBelow, AreBelow, IsSlotValid, AreSlotsValid}
use Rattle.smith_check_rules.specs.Sequences.{stacked, IsFramed}
use Rattle.smith_check_rules.specs.StackTypes.{HasStackType}
use Rattle.smith_check_rules.specs.declared.slot.Slot.{Slot}
use Rattle.smith_check_operands.specs.Applies.{Applies, AppliesFrom}
use Rattle.smith_check_operands.specs.Covers.{Held, Covers}

-- no stack of `old` has these operands on top
abbrev pub AppliesNowhere : BodyContext → List Slot → List Slot → Held → Type 0
AppliesNowhere context operands results old =
    (before after : List Slot) → Covers context old before → IsFramed context operands results [] (stacked before []) (stacked after []) → ⊥

-- whether operands and results apply to a stack of `old`, and the stacks after it
abbrev pub IsApplied : BodyContext → List Slot → List Slot → Bool → Held → Held → Type 0
IsApplied context operands results there old new = MatchBool there (Applies context operands results old new)
    (AppliesNowhere context operands results old)

-- an instruction has this type, and in each of its types the operands match these, and these
-- results match the results
pub record HasWidest (context : BodyContext) (set : List ℕ) (instruction : Instr) (operands results : List Slot) : Type 0 where
  pub typed : HasStackType context set instruction operands results
  pub operands_below : (these those : List Slot) → HasStackType context set instruction these those → AreBelow context.types these operands
  pub results_above : (these those : List Slot) → HasStackType context set instruction these those → AreBelow context.types results those

-- an instruction has one operand and one result, whose types `Row` relates
pub record HasRow (context : BodyContext) (set : List ℕ) (instruction : Instr) (Row : Slot → Slot → Type 0) : Type 0 where
  pub typed : (from to : Slot) → Row from to → HasStackType context set instruction (from ∷ []) (to ∷ [])
  pub only : (these those : List Slot) → HasStackType context set instruction these those
      → (from : Slot) × (to : Slot) × Row from to × (these ≡ from ∷ []) × (those ≡ to ∷ [])

-- `given` is the least valid type of a result, if the operand has the type `top`
pub record IsLeastOf (context : BodyContext) (Row : Slot → Slot → Type 0) (top given : Slot) : Type 0 where
  pub sound : (other : Slot) → IsSlotValid context other → IsBelow context.types given other
      → (from : Slot) × (to : Slot) × Row from to × IsBelow context.types top from × IsBelow context.types to other
  pub least : (from to other : Slot) → Row from to → IsBelow context.types top from → IsSlotValid context other
      → IsBelow context.types to other → IsBelow context.types given other
  pub valid : IsSlotValid context given

-- no result has a valid type, if the operand has the type `top`
abbrev pub HasNoneOf : BodyContext → (Slot → Slot → Type 0) → Slot → Type 0
HasNoneOf context Row top =
    (from to other : Slot) → Row from to → IsBelow context.types top from → IsSlotValid context other → IsBelow context.types to other → ⊥

-- one operand and one result apply to a stack of `old`
pub record AppliesOneFrom (context : BodyContext) (Row : Slot → Slot → Type 0) (old : Held) (after : List Slot) : Type 0 where
  pub from : Slot
  pub to : Slot
  pub row : Row from to
  pub applies : AppliesFrom context (from ∷ []) (to ∷ []) old after

-- the stacks of `new` are exactly the stacks of `old` with the operand popped and the result pushed
pub record AppliesOne (context : BodyContext) (Row : Slot → Slot → Type 0) (old new : Held) : Type 0 where
  pub sound : (after : List Slot) → Covers context new after → AppliesOneFrom context Row old after
  pub complete : (from to : Slot) (before after : List Slot) → Row from to → Covers context old before
      → IsFramed context (from ∷ []) (to ∷ []) [] (stacked before []) (stacked after []) → Covers context new after
  pub valid : AreSlotsValid context new.known

-- no operand and result apply to a stack of `old`
abbrev pub AppliesOneNowhere : BodyContext → (Slot → Slot → Type 0) → Held → Type 0
AppliesOneNowhere context Row old =
    (from to : Slot) (before after : List Slot) → Row from to → Covers context old before
    → IsFramed context (from ∷ []) (to ∷ []) [] (stacked before []) (stacked after []) → ⊥

-- whether an operand and a result apply to a stack of `old`, and the stacks after it
abbrev pub IsOneApplied : BodyContext → (Slot → Slot → Type 0) → Bool → Held → Held → Type 0
IsOneApplied context Row there old new = MatchBool there (AppliesOne context Row old new) (AppliesOneNowhere context Row old)
