-- Runs of locals of the examples.
use Rattle.std.proofs.Common.{◌≡◌, ◌≤◌, ◌∙◌, ℕ, List, [], ◌∷◌, Some, arith, refl, sym, subst}
use Rattle.std.specs.Prelude.{length, slice_get}
use Rattle.std.proofs.lemmas.List.Elements.{All-cons, All-head, All-nil, All-tail}
use Rattle.std.proofs.lemmas.Option.{same_Some}
use Rattle.smith_types.specs.Syntax.value_type.ValType.TheVariants.{I32}
use Rattle.smith_types.specs.ExampleFeatures.{usual_features}
use Rattle.smith_decode.specs.BodyReadings.{local_run}
use Rattle.smith_decode.specs.declared.bodies.LocalRun.{LocalRun}
use Rattle.smith_check_types.specs.TypeSections.{canonical_index}
use Rattle.smith_check.specs.Locals.{IsFirstWrongRun, IsRunRight}
use Rattle.smith_check_examples.specs.ExampleModules.{fourth_type, three_runs}

-- the fourth type is not one of the types before an index, if its canonical index isn't
pub past_types : (end : ℕ) (indices : List ℕ) → end ≤ canonical_index indices 3
    → IsRunRight usual_features end indices (local_run 1 fourth_type) → ⊥
past_types end indices past right =
    let (on, valid) = right (omega arith) in
    let (enabled, inside) = valid.heap_type in
    omega (arith, past, inside)

-- the index of a type past the indices of all types is its canonical index
pub past_one : (indices : List ℕ) → length indices ≡ 1 → 1 ≤ canonical_index indices 3
past_one [] one = absurd (omega (arith, one))
past_one (first ∷ []) one = omega arith
past_one (first ∷ second ∷ others) one = absurd (omega (arith, one))

-- the second of the three runs is the first wrong one
pub second_wrong : (end : ℕ) (indices : List ℕ) → end ≤ canonical_index indices 3
    → IsFirstWrongRun usual_features end indices three_runs 1
second_wrong end indices past = record {
  wrong = local_run 1 fourth_type;
  at = refl;
  invalid = past_types end indices past;
  before = All-cons (IsRunRight usual_features end indices) (local_run 2 I32) [] (λ some. tt) (All-nil _);
}

pub third_not_first : (end : ℕ) (indices : List ℕ) → end ≤ canonical_index indices 3
    → IsFirstWrongRun usual_features end indices three_runs 2 → ⊥
third_not_first end indices past first =
    let P : LocalRun → Type 0 = IsRunRight usual_features end indices in
    let others = All-tail P (local_run 2 I32) (local_run 1 fourth_type ∷ []) first.before in
    past_types end indices past (All-head P (local_run 1 fourth_type) [] others)

-- a run of numbers is not wrong
pub numbers_right : (runs : List LocalRun) → slice_get runs 0 ≡ Some (local_run 2 I32) → IsFirstWrongRun usual_features 0 [] runs 0 → ⊥
numbers_right runs at first =
    first.invalid (subst (IsRunRight usual_features 0 []) (same_Some (local_run 2 I32) first.wrong (sym at ∙ first.at)) (λ some. tt))
