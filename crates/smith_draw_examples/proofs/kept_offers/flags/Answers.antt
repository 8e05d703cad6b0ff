use Rattle.std.proofs.Common.{◌≡◌, ℕ, zero, suc, ◌<◌, ◌≤◌, true, false, List, [], ◌∷◌, get_or, length, refl, ap, ◌∙◌, arith}
use Rattle.std.specs.Prelude.{Bool, Option, None, Some, slice_get}
use Rattle.std.proofs.lemmas.Option.{get_or_from_slice_get}
use Rattle.smith_types.specs.Syntax.value_type.ValType.{ValType}
use Rattle.smith_types.specs.Syntax.value_type.ValType.TheVariants.{I32, I64}
use Rattle.smith_draw_consts.specs.KeptOffers.{AreFlags, is_offered}
use Rattle.smith_draw_examples.proofs.kept_offers.flags.Goals as goal

-- flags that are each right
flags_of : (kinds : List (Option ValType)) (flags : List Bool) → length flags ≤ length kinds
    → ((k : ℕ) (d : Option ValType) → k < length flags → slice_get flags k ≡ Some (is_offered [] I32 (get_or kinds k d)))
    → AreFlags [] I32 kinds flags
flags_of kinds flags few each = record {
  few = few;
  right = λ k kind inside at. each k kind inside ∙ ap (λ (found : Option ValType). Some (is_offered [] I32 found))
      (get_or_from_slice_get kinds k kind kind at);
}

all_right : (k : ℕ) (d : Option ValType) → k < 3 → slice_get (false ∷ false ∷ true ∷ []) k
    ≡ Some (is_offered [] I32 (get_or (Some I64 ∷ None ∷ Some I32 ∷ []) k d))
all_right zero d inside = refl
all_right (suc zero) d inside = refl
all_right (suc (suc zero)) d inside = refl
all_right (suc (suc (suc k))) d inside = absurd (omega (arith, inside))

first_right : (k : ℕ) (d : Option ValType) → k < 1 → slice_get (true ∷ []) k ≡ Some (is_offered [] I32 (get_or (Some I32 ∷ None ∷ []) k d))
first_right zero d inside = refl
first_right (suc k) d inside = absurd (omega (arith, inside))

pub returns-clause-nothing_tested : goal.returns-clause-nothing_tested
returns-clause-nothing_tested c = flags_of (Some I32 ∷ []) [] (omega arith) (λ k d inside. absurd (omega (arith, inside)))

pub returns-clause-all_tested : goal.returns-clause-all_tested
returns-clause-all_tested c = flags_of (Some I64 ∷ None ∷ Some I32 ∷ []) (false ∷ false ∷ true ∷ []) (omega arith) all_right

pub returns-clause-the_first_tested : goal.returns-clause-the_first_tested
returns-clause-the_first_tested c = flags_of (Some I32 ∷ None ∷ []) (true ∷ []) (omega arith) first_right

pub returns-clause-mutable_globals_offered : goal.returns-clause-mutable_globals_offered
returns-clause-mutable_globals_offered c = λ are. let wrong : Some true ≡ Some false = are.right 0 None (omega arith) refl in cc

pub returns-clause-another_type_offered : goal.returns-clause-another_type_offered
returns-clause-another_type_offered c = λ are. let wrong : Some true ≡ Some false = are.right 0 (Some I64) (omega arith) refl in cc

pub returns-clause-its_type_not_offered : goal.returns-clause-its_type_not_offered
returns-clause-its_type_not_offered c = λ are. let wrong : Some false ≡ Some true = are.right 0 (Some I32) (omega arith) refl in cc

pub returns-clause-more_flags_than_classes : goal.returns-clause-more_flags_than_classes
returns-clause-more_flags_than_classes c = λ are. let few : 1 ≤ 0 = are.few in omega (arith, few)
