-- Values and the types that are expected of them.
use Rattle.std.specs.Prelude.{ℕ, List, [], ◌∷◌}
use Rattle.smith_types.specs.Syntax.value_type.ValType.{ValType}
use Rattle.smith_types.specs.Syntax.value_type.ValType.TheVariants.{I32, I64, F32, F64, V128, Ref}
use Rattle.smith_types.specs.Syntax.composite_type.SubType.{SubType}
use Rattle.smith_types.specs.Subtyping.{IsValBelow, IsValInRange}
use Rattle.smith_check_rules.specs.Slots.{IsBelow}
use Rattle.smith_check_rules.specs.declared.slot.Slot.{Slot}
use Rattle.smith_check_rules.specs.declared.slot.Slot.TheVariants.{Value}

-- the type that a slot refers to exists (own rule)
abbrev pub IsSlotInRange : List SubType → Slot → Type 0
IsSlotInRange types (Value value) = IsValInRange types value
IsSlotInRange types _ = Unit {0}

-- the place of a type of numbers or vectors among these types, or `other` for references (own rule)
abbrev pub number_or : ℕ → ValType → ℕ
number_or other I32 = 0
number_or other I64 = 1
number_or other F32 = 2
number_or other F64 = 3
number_or other V128 = 4
number_or other (Ref reference) = other

-- the values have the expected types, one by one (Validation, Matching, Result Types)
abbrev pub AreFit : List SubType → List Slot → List ValType → Type 0
AreFit types [] [] = Unit {0}
AreFit types (slot ∷ slots) (expected ∷ more) = IsBelow types slot (Value expected) × AreFit types slots more
AreFit types _ _ = ⊥

-- each type matches its counterpart in a list of the same length (Validation, Matching, Result
-- Types)
abbrev pub AreMatched : List SubType → List ValType → List ValType → Type 0
AreMatched types [] [] = Unit {0}
AreMatched types (a ∷ these) (b ∷ others) = IsValBelow types a b × AreMatched types these others
AreMatched types _ _ = ⊥
