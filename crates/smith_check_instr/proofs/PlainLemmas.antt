-- Number types and vector types, which refer to no type and match only themselves.
use Rattle.smith_check_instr.proofs.Common.{[], address, All, All-cons, All-nil, BodyContext, Bool, F32, F64, false, I32, I64, IsSlotValid}
use Rattle.smith_check_instr.proofs.Common.{IsValid, IsValInRange, List, refl, subst, SubType, sym, V128, ValType, ◌∷◌, ◌≡◌}
use Rattle.std.proofs.Common.{true}
use Rattle.std.proofs.lemmas.List.Elements.{All-head}
use Rattle.smith_types.specs.Syntax.value_type.ValType.TheVariants.{Ref}
use Rattle.smith_instr.specs.InstrTypes.{IsNumberOrVector}
use Rattle.smith_instr.specs.ReferenceTypes.{narrower}
use Rattle.smith_check_rules.specs.Slots.{AreBelow, AreSlotsValid, IsBelow}
use Rattle.smith_check_rules.specs.declared.slot.Slot.{Slot}
use Rattle.smith_check_rules.specs.declared.slot.Slot.TheVariants.{Bottom, SomeRef, EitherRef, Value}
use Rattle.smith_check_operands.proofs.PushLemmas.{single}

-- number types and vector types
abbrev pub ArePlain : List ValType → Type 0
ArePlain [] = Unit {0}
ArePlain (value ∷ values) = IsNumberOrVector value × ArePlain values

plain_in_range : (types : List SubType) (value : ValType) → IsNumberOrVector value → IsValInRange types value
plain_in_range types I32 plain = tt
plain_in_range types I64 plain = tt
plain_in_range types F32 plain = tt
plain_in_range types F64 plain = tt
plain_in_range types V128 plain = tt
plain_in_range types (Ref reference) plain = absurd plain

pub all_plain_in_range : (types : List SubType) (values : List ValType) → ArePlain values → All (IsValInRange types) values
all_plain_in_range types [] plain = All-nil (IsValInRange types)
all_plain_in_range types (value ∷ values) (first, plain) = All-cons (IsValInRange types) value values (plain_in_range types value first)
    (all_plain_in_range types values plain)

address_plain : (wide : Bool) → IsNumberOrVector (address wide)
address_plain true = tt
address_plain false = tt

pub is_address_plain : (wide : Bool) (value : ValType) → value ≡ address wide → IsNumberOrVector value
is_address_plain wide value is = subst (λ v. IsNumberOrVector v) (sym is) (address_plain wide)

narrower_plain : (one other : Bool) → IsNumberOrVector (narrower one other)
narrower_plain true other = address_plain other
narrower_plain false other = tt

pub is_narrower_plain : (one other : Bool) (value : ValType) → value ≡ narrower one other → IsNumberOrVector value
is_narrower_plain one other value is = subst (λ v. IsNumberOrVector v) (sym is) (narrower_plain one other)

-- only the type itself is above it
plain_above : (types : List SubType) (value : ValType) (slot : Slot) → IsNumberOrVector value → IsBelow types (Value value) slot
    → slot ≡ Value value
plain_above types value Bottom plain below = absurd below
plain_above types value SomeRef plain below = absurd below
plain_above types value (EitherRef ty) plain below = absurd below
plain_above types I32 (Value I32) plain below = refl
plain_above types I64 (Value I64) plain below = refl
plain_above types F32 (Value F32) plain below = refl
plain_above types F64 (Value F64) plain below = refl
plain_above types V128 (Value V128) plain below = refl
plain_above types (Ref reference) (Value other) plain below = absurd plain
plain_above types value (Value other) plain below = absurd below

-- where the type is not valid, no valid result counts as one
pub no_plain : (context : BodyContext) (value : ValType) (results given : List Slot) → IsNumberOrVector value → results ≡ Value value ∷ []
    → AreBelow context.types results given → AreSlotsValid context given → (IsValid context value → ⊥) → ⊥
no_plain context value results given plain is below valid never =
    let (slot, one, above) = single context.types (Value value) given (subst (λ xs. AreBelow context.types xs given) is below) in
    let slot_valid : IsSlotValid context slot = All-head (IsSlotValid context) slot [] (subst (λ xs. AreSlotsValid context xs) one valid) in
    never (subst (λ s. IsSlotValid context s) (plain_above context.types value slot plain above) slot_valid)
