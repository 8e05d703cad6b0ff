use Rattle.smith_types_examples.proofs.Common.{◌≡◌, arith, rules, Some, refl, subst, slice_get, same_Some, open_type, empty_struct}
use Rattle.smith_types_examples.proofs.Common.{struct_and_below}
use Rattle.smith_types_examples.proofs.types.following.Goals as goal

pub returns-clause-below_another : goal.returns-clause-below_another
returns-clause-below_another c = record {
  below = λ s up. (
    open_type (Some 0) empty_struct,
    subst (λ n. slice_get struct_and_below n ≡ Some (open_type (Some 0) empty_struct)) (same_Some 1 s up) refl,
    search rules,
  );
  room = omega arith;
}
