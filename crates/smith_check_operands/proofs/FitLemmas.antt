-- Values that fit expected types, and operands that are popped by these.
use Rattle.smith_check_operands.proofs.Common.{[], ap, AreBelow, AreSlotsValid, arith, BodyContext, Bool, drop, false, length, List, refl}
use Rattle.smith_check_operands.proofs.Common.{Slot, subst, SubType, suc, sym, take, true, ValType, Value, values, ℕ, ◌++◌, ◌-◌, ◌<◌, ◌∙◌}
use Rattle.smith_check_operands.proofs.Common.{◌∷◌, ◌≡◌, ◌≤◌}
use Rattle.std.proofs.lemmas.List.{take-append-drop, length-drop, take_all}
use Rattle.smith_check_operands.specs.Fits.{AreFit}
use Rattle.smith_check_operands.specs.Covers.{holding, Pops, PopsNothing}
use Rattle.smith_check_operands.proofs.CoverLemmas.{pop_enough, pop_beyond, pop_apart, pop_apart_beyond, pop_short}

pub fit_length : (types : List SubType) (slots : List Slot) (expected : List ValType) → AreFit types slots expected
    → length slots ≡ length expected
fit_length types [] [] fit = refl
fit_length types [] (e ∷ es) fit = absurd fit
fit_length types (s ∷ ss) [] fit = absurd fit
fit_length types (s ∷ ss) (e ∷ es) (first, fit) = ap (λ n. suc n) (fit_length types ss es fit)

pub below_from_fit : (types : List SubType) (slots : List Slot) (expected : List ValType) → AreFit types slots expected
    → AreBelow types slots (values expected)
below_from_fit types [] [] fit = tt
below_from_fit types [] (e ∷ es) fit = absurd fit
below_from_fit types (s ∷ ss) [] fit = absurd fit
below_from_fit types (s ∷ ss) (e ∷ es) (first, fit) = (first, below_from_fit types ss es fit)

pub fit_from_below : (types : List SubType) (slots : List Slot) (expected : List ValType) → AreBelow types slots (values expected)
    → AreFit types slots expected
fit_from_below types [] [] fit = tt
fit_from_below types [] (e ∷ es) fit = absurd fit
fit_from_below types (s ∷ ss) [] fit = absurd fit
fit_from_below types (s ∷ ss) (e ∷ es) (first, fit) = (first, fit_from_below types ss es fit)

pub values_length : (types : List ValType) → length (values types) ≡ length types
values_length [] = refl
values_length (x ∷ xs) = ap (λ n. suc n) (values_length xs)

pub values_append : (xs ys : List ValType) → values (xs ++ ys) ≡ values xs ++ values ys
values_append [] ys = refl
values_append (x ∷ xs) ys = ap (λ zs. Value x ∷ zs) (values_append xs ys)

-- the rest of a list, as a slice is read
as_rest : {A : Type 0} (n : ℕ) (xs : List A) → take (length xs - n) (drop n xs) ≡ drop n xs
as_rest n xs = take_all (length xs - n) (drop n xs) (omega (arith, length-drop n xs))

-- enough is known, and fits
pub taken_enough : (context : BodyContext) (known whole : List Slot) (expected : List ValType) (n : ℕ) (dead : Bool)
    → AreSlotsValid context known → whole ≡ known → AreFit context.types (take (length whole - n) (drop n whole)) expected
    → Pops context (values expected) (holding known dead) (holding (take n known) dead)
taken_enough context known whole expected n dead valid same fit =
    let split : take n known ++ drop n known ≡ known = take-append-drop n known in
    let fits : AreFit context.types (drop n known) expected = subst (λ xs. AreFit context.types (drop n xs) expected) same
    (subst (λ xs. AreFit context.types xs expected) (as_rest n whole) fit) in
    subst (λ xs. Pops context (values expected) (holding xs dead) (holding (take n known) dead)) split
    (pop_enough context (take n known) (drop n known) (values expected) dead (subst (λ xs. AreSlotsValid context xs) (sym split) valid)
    (below_from_fit context.types (drop n known) expected fits))

pub refused_enough : (context : BodyContext) (known whole : List Slot) (expected : List ValType) (n : ℕ) (dead : Bool)
    → whole ≡ known → length expected ≤ length known → n ≡ length known - length expected
    → (AreFit context.types (take (length whole - n) (drop n whole)) expected → ⊥)
    → PopsNothing context (values expected) (holding known dead)
refused_enough context known whole expected n dead same few at apart =
    let split : take n known ++ drop n known ≡ known = take-append-drop n known in
    let long : length (drop n known) ≡ length (values expected) = omega (arith, length-drop n known, values_length expected) in
    subst (λ xs. PopsNothing context (values expected) (holding xs dead)) split
    (pop_apart context (take n known) (drop n known) (values expected) dead long
    (λ below. apart (subst (λ xs. AreFit context.types (take (length xs - n) (drop n xs)) expected) (sym same)
    (subst (λ xs. AreFit context.types xs expected) (sym (as_rest n known))
    (fit_from_below context.types (drop n known) expected below)))))

-- fewer are known than are expected
pub taken_beyond : (context : BodyContext) (known whole : List Slot) (expected : List ValType) (n : ℕ) (dead : Bool) (after : List Slot)
    → AreSlotsValid context known → whole ≡ known → dead ≡ true → after ≡ []
    → AreFit context.types whole (take (length expected - n) (drop n expected)) → Pops context (values expected) (holding known dead)
    (holding after dead)
taken_beyond context known whole expected n dead after valid same is none fit =
    let split : values (take n expected) ++ values (drop n expected) ≡ values expected =
    sym (values_append (take n expected) (drop n expected)) ∙ ap (λ xs. values xs) (take-append-drop n expected) in
    let fits : AreFit context.types known (drop n expected) = subst (λ xs. AreFit context.types xs (drop n expected)) same
    (subst (λ es. AreFit context.types whole es) (as_rest n expected) fit) in
    subst (λ b. Pops context (values expected) (holding known b) (holding after b)) (sym is)
    (subst (λ xs. Pops context (values expected) (holding known true) (holding xs true)) (sym none)
    (subst (λ xs. Pops context xs (holding known true) (holding [] true)) split
    (pop_beyond context known (values (take n expected)) (values (drop n expected)) valid
    (below_from_fit context.types known (drop n expected) fits))))

pub refused_beyond : (context : BodyContext) (known whole : List Slot) (expected : List ValType) (n : ℕ) (dead : Bool)
    → whole ≡ known → length known ≤ length expected → n ≡ length expected - length known
    → (AreFit context.types whole (take (length expected - n) (drop n expected)) → ⊥)
    → PopsNothing context (values expected) (holding known dead)
refused_beyond context known whole expected n dead same few at apart =
    let split : values (take n expected) ++ values (drop n expected) ≡ values expected =
    sym (values_append (take n expected) (drop n expected)) ∙ ap (λ xs. values xs) (take-append-drop n expected) in
    let long : length known ≡ length (values (drop n expected)) = omega (arith, length-drop n expected, values_length (drop n expected)) in
    subst (λ xs. PopsNothing context xs (holding known dead)) split
    (pop_apart_beyond context known (values (take n expected)) (values (drop n expected)) dead long
    (λ below. apart (subst (λ xs. AreFit context.types xs (take (length expected - n) (drop n expected))) (sym same)
    (subst (λ es. AreFit context.types known es) (sym (as_rest n expected))
    (fit_from_below context.types known (drop n expected) below)))))

pub refused_short : (context : BodyContext) (known : List Slot) (expected : List ValType) (dead : Bool) → dead ≡ false
    → length known < length expected
    → PopsNothing context (values expected) (holding known dead)
refused_short context known expected dead is few =
    let short : length known < length (values expected) = omega (arith, values_length expected) in
    subst (λ b. PopsNothing context (values expected) (holding known b)) (sym is) (pop_short context known (values expected) short)
