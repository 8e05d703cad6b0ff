-- What the instructions of the examples name and take.
use Rattle.std.proofs.Common.{◌≡◌, ℕ, ◌+◌, ◌<◌, List, [], ◌∷◌, ◌++◌, length, refl, ap, ◌∙◌, subst, inl, inr, arith, length-append}
use Rattle.std.proofs.lemmas.List.Elements.{All-nil, All-cons, length_all_zip}
use Rattle.smith_types.specs.Syntax.value_type.ValType.TheVariants.{I32}
use Rattle.smith_types.specs.Syntax.composite_type.SubType.{SubType}
use Rattle.smith_types.proofs.GrowthLemmas.{IsValBelow-refl}
use Rattle.smith_instr.specs.Contexts.{BodyContext}
use Rattle.smith_instr.specs.declared.instr.Instr.TheVariants as instr
use Rattle.smith_check_rules.specs.ExampleBodies.{plain}
use Rattle.smith_check_rules.specs.Slots.{IsBelow, IsSlotValid, values}
use Rattle.smith_check_rules.specs.Sequences.{stacked}
use Rattle.smith_check_rules.specs.declared.slot.Slot.{Slot}
use Rattle.smith_check_rules.specs.declared.slot.Slot.TheVariants.{Value}
use Rattle.smith_check_body.specs.declared.checker.Checker.{Checker}
use Rattle.smith_explain.specs.Causes.{AreNamesRight, AreThere, IsTaking, count_in}
use Rattle.smith_explain.specs.ExampleCauses.{adds, refers}
use Rattle.smith_explain.specs.Names.{IsAmong, IsNamed, nothing_named, one_name}
use Rattle.smith_explain.specs.declared.explanation.Named.{Named}
use Rattle.smith_explain.specs.declared.explanation.Space.{Space}
use Rattle.smith_explain.specs.declared.explanation.Space.TheVariants as space

pub none_among : (one : Named) → IsAmong nothing_named one → ⊥
none_among one (inl is) = cc
none_among one (inr (inl is)) = cc
none_among one (inr (inr is)) = cc

pub one_there : (context : BodyContext) (labels : ℕ) (of : Space) (index : ℕ) → index < count_in context labels of
    → AreThere context labels (IsAmong (one_name of index))
one_there context labels of index within one (inl is) =
    let same : record { space = of; index = index } ≡ one = cc in
    subst (λ (it : Named). it.index < count_in context labels it.space) same within
one_there context labels of index within one (inr (inl is)) = absurd (let never : ⊥ = cc in never)
one_there context labels of index within one (inr (inr is)) = absurd (let never : ⊥ = cc in never)

pub refers_there : (context : BodyContext) (labels : ℕ) → 0 < length context.funcs → AreThere context labels (IsNamed refers)
refers_there context labels within one named = elim named as (λ _. one.index < count_in context labels one.space)
    [ inl among ↦ one_there context labels space.Function 0 within one among | inr never ↦ absurd never ]

pub adds_right : (checker : Checker) → AreNamesRight plain checker adds
adds_right checker = record {
  there = λ one named. elim named as (λ _. one.index < count_in plain (length checker.outers.items + 1) one.space)
      [ inl among ↦ absurd (none_among one among) | inr never ↦ absurd never ];
  declared = λ function undeclared. let is = undeclared.is in cc;
  set = λ local unset. let is = unset.is in cc;
}

pub ends_right : (checker : Checker) → AreNamesRight plain checker instr.End
ends_right checker = record {
  there = λ one named. elim named as (λ _. one.index < count_in plain (length checker.outers.items + 1) one.space)
      [ inl among ↦ absurd (none_among one among) | inr never ↦ absurd never ];
  declared = λ function undeclared. let is = undeclared.is in cc;
  set = λ local unset. let is = unset.is in cc;
}

below_itself : (types : List SubType) → IsBelow types (Value I32) (Value I32)
below_itself types = IsValBelow-refl types I32

pub adds_two : (checker : Checker) → IsTaking plain checker adds (Value I32 ∷ Value I32 ∷ [])
adds_two checker = (
  stacked (Value I32 ∷ []) (checker.log.items ++ []),
  record {
    operands = Value I32 ∷ Value I32 ∷ [];
    results = Value I32 ∷ [];
    typed = (I32 ∷ I32 ∷ [], I32 ∷ [], (refl, refl), refl, refl);
    framed = record {
      rest = [];
      taken = Value I32 ∷ Value I32 ∷ [];
      given = Value I32 ∷ [];
      under = refl;
      accepted = (below_itself plain.types, (below_itself plain.types, tt));
      offered = record {
        below = (below_itself plain.types, tt);
        valid = All-cons (IsSlotValid plain) (Value I32) [] tt (All-nil (IsSlotValid plain));
      };
      over = refl;
      set_then = refl;
    };
  },
)

-- a stack of one type is no front and two types
one_is_not_two : (rest taken operands : List Slot) (stack : List Slot) → stack ≡ rest ++ taken → length taken ≡ length operands
    → length stack ≡ 1 → length operands ≡ 2 → ⊥
one_is_not_two rest taken operands stack under same one two =
    let whole : length stack ≡ length (rest ++ taken) = ap (λ (xs : List Slot). length xs) under in
    omega (arith, length-append rest taken)

pub adds_not_one : (checker : Checker) → IsTaking plain checker adds (Value I32 ∷ []) → ⊥
adds_not_one checker taking =
    let step = taking.1 in
    let framed = step.framed in
    one_is_not_two framed.rest framed.taken step.operands (Value I32 ∷ []) framed.under
    (length_all_zip (IsBelow plain.types) framed.taken step.operands framed.accepted) refl
    (ap (λ (xs : List Slot). length xs) (step.typed.3 ∙ ap values step.typed.2.0))
