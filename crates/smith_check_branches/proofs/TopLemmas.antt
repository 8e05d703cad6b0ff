-- Values on top of the stack.
use Rattle.smith_check_branches.proofs.Common.{[], ap, AreBelow, AreSlotsValid, arith, below_themselves, BodyContext, Bool, drop, Held, inl}
use Rattle.smith_check_branches.proofs.Common.{IsBelow, IsTrue, length, List, Pops, Slot, subst, SubType, sym, take, true, ValType, values}
use Rattle.smith_check_branches.proofs.Common.{values_append, zip_join, ℕ, ◌++◌, ◌-◌, ◌∙◌, ◌∷◌, ◌≡◌}
use Rattle.std.proofs.Common.{suc, zero, ◌≤◌, ◌⊎◌}
use Rattle.std.proofs.Common.{inr}
use Rattle.std.specs.Prelude.{replicate}
use Rattle.std.proofs.lemmas.List.{take-append-drop, length-take-le}
use Rattle.smith_types.proofs.ValidityLemmas.{before_or_not}
use Rattle.smith_check_rules.specs.declared.slot.Slot.TheVariants.{Bottom}
use Rattle.smith_check_operands.specs.Covers.{holding}
use Rattle.smith_check_operands.specs.Fits.{AreFit}
use Rattle.smith_check_operands.proofs.CoverLemmas.{pop_enough, pop_beyond}
use Rattle.smith_check_operands.proofs.FitLemmas.{below_from_fit, values_length}
use Rattle.smith_check_branches.specs.Tops.{top_of, IsOnTop}
use Rattle.smith_check_branches.proofs.OperandLemmas.{as_rest}

top_enough : (known : List Slot) (wanted : ℕ) → wanted ≤ length known → top_of known wanted ≡ drop (length known - wanted) known
top_enough known wanted few =
    let none : wanted - length known ≡ 0 = omega arith in
    ap (λ n. replicate n Bottom ++ drop (length known - wanted) known) none

top_beyond : (known : List Slot) (wanted : ℕ) → length known ≤ wanted
    → top_of known wanted ≡ replicate (wanted - length known) Bottom ++ known
top_beyond known wanted many =
    let none : length known - wanted ≡ 0 = omega arith in
    ap (λ n. replicate (wanted - length known) Bottom ++ drop n known) none

bottoms_below : (types : List SubType) (n : ℕ) (xs : List Slot) → length xs ≡ n → AreBelow types (replicate n Bottom) xs
bottoms_below types zero [] long = tt
bottoms_below types zero (x ∷ xs) long = absurd (omega (arith, long))
bottoms_below types (suc n) [] long = absurd (omega (arith, long))
bottoms_below types (suc n) (x ∷ xs) long = (tt, bottoms_below types n xs (omega (arith, long)))

-- enough is known, and fits
pub on_top_enough : (context : BodyContext) (known whole : List Slot) (expected : List ValType) (n : ℕ) (dead : Bool)
    → whole ≡ known → length expected ≤ length known → n ≡ length known - length expected
    → AreFit context.types (take (length whole - n) (drop n whole)) expected → IsOnTop context expected (holding known dead)
on_top_enough context known whole expected n dead same few at fit =
    let fits : AreFit context.types (drop n known) expected = subst (λ xs. AreFit context.types (drop n xs) expected) same
    (subst (λ xs. AreFit context.types xs expected) (as_rest n whole) fit) in
    record {
      reached = inl few;
      below = subst (λ xs. AreBelow context.types xs (values expected))
          (ap (λ m. drop m known) at ∙ sym (top_enough known (length expected) few))
          (below_from_fit context.types (drop n known) expected fits);
    }

-- fewer are known than are expected
pub on_top_beyond : (context : BodyContext) (known whole : List Slot) (expected : List ValType) (n : ℕ) (dead : Bool)
    → whole ≡ known → dead ≡ true → length known ≤ length expected → n ≡ length expected - length known
    → AreFit context.types whole (take (length expected - n) (drop n expected)) → IsOnTop context expected (holding known dead)
on_top_beyond context known whole expected n dead same is many at fit =
    let fits : AreFit context.types known (drop n expected) = subst (λ xs. AreFit context.types xs (drop n expected)) same
    (subst (λ es. AreFit context.types whole es) (as_rest n expected) fit) in
    let split : values (take n expected) ++ values (drop n expected) ≡ values expected =
    sym (values_append (take n expected) (drop n expected)) ∙ ap (λ xs. values xs) (take-append-drop n expected) in
    let few : n ≤ length expected = omega arith in
    let long : length (values (take n expected)) ≡ n = values_length (take n expected) ∙ length-take-le n expected few in
    let tops : replicate n Bottom ++ known ≡ top_of known (length expected) =
    ap (λ m. replicate m Bottom ++ known) at ∙ sym (top_beyond known (length expected) many) in
    record {
      reached = inr is;
      below = subst (λ xs. AreBelow context.types xs (values expected)) tops
          (subst (λ ys. AreBelow context.types (replicate n Bottom ++ known) ys) split
          (zip_join (IsBelow context.types) (replicate n Bottom) known (values (take n expected)) (values (drop n expected))
          (bottoms_below context.types n (values (take n expected)) long) (below_from_fit context.types known (drop n expected) fits)));
    }

pops_enough : (context : BodyContext) (known : List Slot) (wanted : ℕ) (dead : Bool) → AreSlotsValid context known
    → wanted ≤ length known → (new : Held) × Pops context (top_of known wanted) (holding known dead) new
pops_enough context known wanted dead valid few =
    let n = length known - wanted in
    let split : take n known ++ drop n known ≡ known = take-append-drop n known in (
      holding (take n known) dead,
      subst (λ xs. Pops context xs (holding known dead) (holding (take n known) dead)) (sym (top_enough known wanted few))
          (subst (λ xs. Pops context (drop n known) (holding xs dead) (holding (take n known) dead)) split
          (pop_enough context (take n known) (drop n known) (drop n known) dead (subst (λ xs. AreSlotsValid context xs) (sym split) valid)
          (below_themselves context.types (drop n known)))),
    )

pops_beyond : (context : BodyContext) (known : List Slot) (wanted : ℕ) (dead : Bool) → AreSlotsValid context known → dead ≡ true
    → length known ≤ wanted → (new : Held) × Pops context (top_of known wanted) (holding known dead) new
pops_beyond context known wanted dead valid is many = (
  holding [] true,
  subst (λ b. Pops context (top_of known wanted) (holding known b) (holding [] true)) (sym is)
      (subst (λ xs. Pops context xs (holding known true) (holding [] true)) (sym (top_beyond known wanted many))
      (pop_beyond context known (replicate (wanted - length known) Bottom) known valid (below_themselves context.types known))),
)

-- the values on top of the stack are taken off
pub pops_top : (context : BodyContext) (known : List Slot) (wanted : ℕ) (dead : Bool) → AreSlotsValid context known
    → (wanted ≤ length known) ⊎ IsTrue dead → (new : Held) × Pops context (top_of known wanted) (holding known dead) new
pops_top context known wanted dead valid (inl few) = pops_enough context known wanted dead valid few
pops_top context known wanted dead valid (inr is) =
    elim (before_or_not (length known) wanted) [
      | inl some ↦ pops_beyond context known wanted dead valid is (omega (arith, some))
      | inr few ↦ pops_enough context known wanted dead valid few
    ]
