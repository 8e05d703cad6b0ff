-- Stacks at the end of a block.
use Rattle.smith_check_operands.proofs.Common.{[], ap, AreBelow, AreSlotsValid, AreValid, arith, BodyContext, Bool, drop, false, false≢true}
use Rattle.smith_check_operands.proofs.Common.{IsBelow, length, length-append, List, MatchBool, refl, Slot, subst, SubType, suc, sym, take}
use Rattle.smith_check_operands.proofs.Common.{true, ValType, values, ℕ, ◌++◌, ◌-◌, ◌<◌, ◌↔◌, ◌∙◌, ◌∷◌, ◌≡◌, ◌≤◌}
use Rattle.std.proofs.Common.{IsTrue}
use Rattle.std.proofs.lemmas.List.Elements.{length_all_zip}
use Rattle.smith_check_operands.specs.Fits.{AreFit, AreMatched}
use Rattle.smith_check_rules.specs.Sequences.{CountsAs}
use Rattle.smith_check_operands.specs.Covers.{Held, holding, Pops, PopsNothing}
use Rattle.smith_check_operands.specs.Closes.{EndsHere}
use Rattle.smith_check_operands.proofs.CoverLemmas.{pop_enough, pop_apart}
use Rattle.smith_check_operands.proofs.FitLemmas.{below_from_fit, fit_from_below, values_length, taken_beyond, refused_beyond}
use Rattle.smith_check_operands.proofs.FitLemmas.{refused_short}
use Rattle.smith_check_operands.proofs.PushLemmas.{values_valid}
use Rattle.smith_check_operands.proofs.StepLemmas.{covers_itself}

pub by_test : (b : Bool) (P Q : Type 0) → (IsTrue b → P) → ((IsTrue b → ⊥) → Q) → MatchBool b P Q
by_test true P Q so never = so refl
by_test false P Q so never = never (λ h. false≢true h)

ends_if : (context : BodyContext) (old : Held) (dead : Bool) (results : List ValType) → AreValid context results
    → Pops context (values results) old (holding [] dead) → EndsHere context results old
ends_if context old dead results results_valid pops =
    let p = pops.sound [] (covers_itself context (holding [] dead) pops.valid) in
    record {
      stack = p.before;
      covered = p.covered;
      counts = record {
        below = subst (λ xs. AreBelow context.types xs (values results)) (sym p.takes.is) p.takes.accepted;
        valid = values_valid context results results_valid;
      };
    }

ends_not : (context : BodyContext) (old : Held) (results : List ValType) → PopsNothing context (values results) old
    → EndsHere context results old → ⊥
ends_not context old results never e = never [] e.stack e.covered (record { taken = e.stack; is = refl; accepted = e.counts.below })

pub ends_even : (context : BodyContext) (known whole : List Slot) (results : List ValType) (dead b : Bool) → AreSlotsValid context known
    → AreValid context results → whole ≡ known
    → length known ≡ length results → (IsTrue b ↔ AreFit context.types whole results)
    → MatchBool b (EndsHere context results (holding known dead)) (EndsHere context results (holding known dead) → ⊥)
ends_even context known whole results dead b valid results_valid same long fits =
    by_test b _ _
    (λ h. ends_if context (holding known dead) dead results results_valid
    (pop_enough context [] known (values results) dead valid
    (below_from_fit context.types known results (subst (λ xs. AreFit context.types xs results) same (fits.0 h)))))
    (λ never. ends_not context (holding known dead) results
    (pop_apart context [] known (values results) dead (long ∙ sym (values_length results))
    (λ below. never (fits.1 (subst (λ xs. AreFit context.types xs results) (sym same)
    (fit_from_below context.types known results below))))))

pub ends_beyond : (context : BodyContext) (known whole : List Slot) (results : List ValType) (n : ℕ) (dead b : Bool)
    → AreSlotsValid context known → AreValid context results → whole ≡ known → dead ≡ true
    → length known ≤ length results → n ≡ length results - length known
    → (IsTrue b ↔ AreFit context.types whole (take (length results - n) (drop n results)))
    → MatchBool b (EndsHere context results (holding known dead)) (EndsHere context results (holding known dead) → ⊥)
ends_beyond context known whole results n dead b valid results_valid same is few at fits =
    by_test b _ _
    (λ h. ends_if context (holding known dead) dead results results_valid (taken_beyond context known whole results n dead [] valid same is
    refl (fits.0 h)))
    (λ never. ends_not context (holding known dead) results (refused_beyond context known whole results n dead same few at
    (λ fit. never (fits.1 fit))))

pub ends_short : (context : BodyContext) (known : List Slot) (results : List ValType) (dead : Bool) → dead ≡ false
    → length known < length results
    → EndsHere context results (holding known dead) → ⊥
ends_short context known results dead is few = ends_not context (holding known dead) results
    (refused_short context known results dead is few)

pub ends_long : (context : BodyContext) (known : List Slot) (results : List ValType) (dead : Bool) → length results < length known
    → EndsHere context results (holding known dead) → ⊥
ends_long context known results dead many e =
    let whole : length e.stack ≡ length (e.covered.under ++ e.covered.top) = ap (λ xs. length xs) e.covered.is in
    omega (
      arith,
      length-append e.covered.under e.covered.top,
      length_all_zip (IsBelow context.types) known e.covered.top e.covered.below,
      length_all_zip (IsBelow context.types) e.stack (values results) e.counts.below,
      values_length results,
    )

pub matched_length : (types : List SubType) (these others : List ValType) → AreMatched types these others → length these ≡ length others
matched_length types [] [] m = refl
matched_length types [] (e ∷ es) m = absurd m
matched_length types (s ∷ ss) [] m = absurd m
matched_length types (s ∷ ss) (e ∷ es) (first, m) = ap (λ n. suc n) (matched_length types ss es m)

below_from_matched : (types : List SubType) (these others : List ValType) → AreMatched types these others
    → AreBelow types (values these) (values others)
below_from_matched types [] [] m = tt
below_from_matched types [] (e ∷ es) m = absurd m
below_from_matched types (s ∷ ss) [] m = absurd m
below_from_matched types (s ∷ ss) (e ∷ es) (first, m) = (first, below_from_matched types ss es m)

matched_from_below : (types : List SubType) (these others : List ValType) → AreBelow types (values these) (values others)
    → AreMatched types these others
matched_from_below types [] [] m = tt
matched_from_below types [] (e ∷ es) m = absurd m
matched_from_below types (s ∷ ss) [] m = absurd m
matched_from_below types (s ∷ ss) (e ∷ es) (first, m) = (first, matched_from_below types ss es m)

pub may_end_if : (context : BodyContext) (params results ps rs : List ValType) (b : Bool) → ps ≡ params → rs ≡ results
    → AreValid context results → (IsTrue b ↔ AreMatched context.types ps rs)
    → MatchBool b (CountsAs context (values params) (values results)) (CountsAs context (values params) (values results) → ⊥)
may_end_if context params results ps rs b same also valid fits =
    by_test b _ _
    (λ h. record {
      below = below_from_matched context.types params results (subst (λ xs. AreMatched context.types xs results) same
          (subst (λ ys. AreMatched context.types ps ys) also (fits.0 h)));
      valid = values_valid context results valid;
    })
    (λ never m. never (fits.1 (subst (λ xs. AreMatched context.types xs rs) (sym same) (subst (λ ys. AreMatched context.types params ys)
    (sym also) (matched_from_below context.types params results m.below)))))
