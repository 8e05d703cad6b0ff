-- Bodies of dead code, step by step.
use Rattle.std.proofs.Common.{◌≡◌, false, true, List, [], ◌∷◌, ◌++◌, refl, sym, inr, pos}
use Rattle.std.specs.Prelude.{All}
use Rattle.std.proofs.lemmas.List.Elements.{All-nil, All-cons}
use Rattle.smith_types.specs.Syntax.value_type.AbstractHeapType.TheVariants as abstract
use Rattle.smith_types.specs.Syntax.value_type.HeapType.TheVariants.{Abstract}
use Rattle.smith_types.specs.Syntax.value_type.ValType.TheVariants.{I32, I64}
use Rattle.smith_types.specs.Syntax.composite_type.SubType.{SubType}
use Rattle.smith_types.proofs.GrowthLemmas.{IsValBelow-refl}
use Rattle.smith_instr.specs.Contexts.{BodyContext, nullable_to, labelled}
use Rattle.smith_instr.specs.InstrTypes.{sets}
use Rattle.smith_instr.specs.declared.aggregate.AggregateInstr.TheVariants as aggregate
use Rattle.smith_instr.specs.declared.instr.Instr.{Instr}
use Rattle.smith_instr.specs.declared.instr.Instr.TheVariants as instr
use Rattle.smith_instr.specs.declared.reference.ReferenceInstr.TheVariants as reference
use Rattle.smith_check_rules.specs.Slots.{IsBelow, AreBelow, IsSlotValid, AreSlotsValid}
use Rattle.smith_check_rules.specs.StackTypes.{IsTaken, HasStackType}
use Rattle.smith_check_rules.specs.Sequences.{stacked, IsStep, AreTyped, nothing, step, IsBodyTyped}
use Rattle.smith_check_rules.specs.ExampleBodies.{plain, with_two_labels, some_function, some_external, selects_any, branches_apart}
use Rattle.smith_check_rules.specs.ExampleBodies.{branches_with_reference, branches_with_conversion, some_internal, shared_internal}
use Rattle.smith_check_rules.specs.declared.slot.Slot.{Slot}
use Rattle.smith_check_rules.specs.declared.slot.Slot.TheVariants.{Bottom, SomeRef, EitherRef, Value}

no_slots : (context : BodyContext) → AreSlotsValid context []
no_slots context = All-nil (IsSlotValid context)

more_slots : (context : BodyContext) (slot : Slot) (slots : List Slot) → IsSlotValid context slot → AreSlotsValid context slots
    → AreSlotsValid context (slot ∷ slots)
more_slots context slot slots first rest = All-cons (IsSlotValid context) slot slots first rest

below_itself : (types : List SubType) (slot : Slot) → IsBelow types slot slot
below_itself types Bottom = tt
below_itself types SomeRef = tt
below_itself types (EitherRef ty) = refl
below_itself types (Value value) = IsValBelow-refl types value

below_themselves : (types : List SubType) (slots : List Slot) → AreBelow types slots slots
below_themselves types [] = tt
below_themselves types (slot ∷ slots) = (below_itself types slot, below_themselves types slots)

-- one instruction on top of any values, which takes values that match its operands
one : (context : BodyContext) (instruction : Instr) (base taken operands results : List Slot)
    → HasStackType context [] instruction operands results → AreBelow context.types taken operands
    → AreSlotsValid context results → sets instruction ≡ [] → IsStep context instruction (stacked (base ++ taken) [])
    (stacked (base ++ results) [])
one context instruction base taken operands results typed accepted valid none = record {
  operands = operands;
  results = results;
  typed = typed;
  framed = record {
    rest = base;
    taken = taken;
    given = results;
    under = refl;
    accepted = accepted;
    offered = record { below = below_themselves context.types results; valid = valid };
    over = refl;
    set_then = sym none;
  };
}

none_left : (context : BodyContext) → AreTyped context [] (stacked [] []) (stacked [] [])
none_left context = nothing (record { below = tt; valid = no_slots context }) refl

pub any_selected : IsBodyTyped plain selects_any
any_selected =
    let context = labelled plain [] in
    let index = more_slots context (Value I32) [] tt (no_slots context) in
    let bottoms = more_slots context Bottom (Bottom ∷ Value I32 ∷ []) tt (more_slots context Bottom (Value I32 ∷ []) tt index) in
    let func = nullable_to (Abstract false abstract.Func) in
    record {
      set = [];
      typed =
          step (one context instr.Unreachable [] [] [] (Bottom ∷ Bottom ∷ Value I32 ∷ []) ([], refl, bottoms) tt bottoms refl)
          (step (one context instr.Select [] (Bottom ∷ Bottom ∷ Value I32 ∷ []) (Bottom ∷ Bottom ∷ Value I32 ∷ []) (Bottom ∷ [])
          (Bottom, tt, refl, refl) (tt, (tt, (tt, tt))) (more_slots context Bottom [] tt (no_slots context)) refl)
          (step (one context (instr.Reference reference.IsNull) [] (Bottom ∷ []) (Value func ∷ []) (Value I32 ∷ [])
          (func ∷ [], I32 ∷ [], (Abstract false abstract.Func, (tt, λ never. cc), (refl, refl)), refl, refl) (tt, tt) index refl)
          (step (one context instr.Drop [] (Value I32 ∷ []) (Value I32 ∷ []) [] (Value I32, refl, refl) (tt, tt) (no_slots context) refl)
          (none_left context))));
    }

both_taken : (context : BodyContext) (given : Slot) → IsTaken context (given ∷ []) 0 → All (IsTaken context (given ∷ [])) (0 ∷ [])
both_taken context given first = All-cons (IsTaken context (given ∷ [])) 0 [] first (All-nil (IsTaken context (given ∷ [])))

pub apart : AreTyped (with_two_labels I32 I64) branches_apart (stacked [] []) (stacked [] [])
apart =
    let context = with_two_labels I32 I64 in
    let slots = more_slots context Bottom (Value I32 ∷ []) tt (more_slots context (Value I32) [] tt (no_slots context)) in
    step (one context instr.Unreachable [] [] [] (Bottom ∷ Value I32 ∷ []) ([], refl, slots) tt slots refl)
    (step (one context (instr.BrTable (0 ∷ []) 1) [] (Bottom ∷ Value I32 ∷ []) (Bottom ∷ Value I32 ∷ []) []
    (Bottom ∷ [], both_taken context Bottom (I32 ∷ [], refl, (tt, tt)), (I64 ∷ [], refl, (tt, tt)), ([], refl, no_slots context))
    (tt, (tt, tt)) (no_slots context) refl)
    (none_left context))

pub with_reference : AreTyped (with_two_labels some_function some_external) branches_with_reference (stacked [] []) (stacked [] [])
with_reference =
    let context = with_two_labels some_function some_external in
    let slot = more_slots context SomeRef [] tt (no_slots context) in
    let index = more_slots context (Value I32) [] tt (no_slots context) in
    step (one context instr.Unreachable [] [] [] (SomeRef ∷ []) ([], refl, slot) tt slot refl)
    (step (one context (instr.Reference reference.AsNonNull) [] (SomeRef ∷ []) (SomeRef ∷ []) (SomeRef ∷ [])
    (SomeRef, SomeRef, inr (tt, refl), refl, refl) (tt, tt) slot refl)
    (step (one context (instr.I32Const (pos 0)) (SomeRef ∷ []) [] [] (Value I32 ∷ []) ([], I32 ∷ [], (refl, refl), refl, refl) tt index
    refl)
    (step (one context (instr.BrTable (0 ∷ []) 1) [] (SomeRef ∷ Value I32 ∷ []) (SomeRef ∷ Value I32 ∷ []) [] (
      SomeRef ∷ [],
      both_taken context SomeRef (some_function ∷ [], refl, (tt, tt)),
      (some_external ∷ [], refl, (tt, tt)),
      ([], refl, no_slots context),
    ) (tt, (tt, tt)) (no_slots context) refl)
    (none_left context))))

pub with_conversion : AreTyped (with_two_labels some_internal shared_internal) branches_with_conversion (stacked [] []) (stacked [] [])
with_conversion =
    let context = with_two_labels some_internal shared_internal in
    let either = EitherRef abstract.Any in
    let outside = more_slots context SomeRef [] tt (no_slots context) in
    let inside = more_slots context either [] (tt, (refl, λ shared. refl)) (no_slots context) in
    let index = more_slots context (Value I32) [] tt (no_slots context) in
    step (one context instr.Unreachable [] [] [] (SomeRef ∷ []) ([], refl, outside) tt outside refl)
    (step (one context (instr.Aggregate aggregate.AnyConvertExtern) [] (SomeRef ∷ []) (EitherRef abstract.Extern ∷ []) (either ∷ [])
    (EitherRef abstract.Extern, either, inr (refl, refl), refl, refl) (tt, tt) inside refl)
    (step (one context (instr.I32Const (pos 0)) (either ∷ []) [] [] (Value I32 ∷ []) ([], I32 ∷ [], (refl, refl), refl, refl) tt index
    refl)
    (step (one context (instr.BrTable (0 ∷ []) 1) [] (either ∷ Value I32 ∷ []) (either ∷ Value I32 ∷ []) [] (
      either ∷ [],
      both_taken context either (some_internal ∷ [], refl, ((false, below_itself [] (Value some_internal)), tt)),
      (shared_internal ∷ [], refl, ((true, below_itself [] (Value shared_internal)), tt)),
      ([], refl, no_slots context),
    ) (refl, (tt, tt)) (no_slots context) refl)
    (none_left context))))
