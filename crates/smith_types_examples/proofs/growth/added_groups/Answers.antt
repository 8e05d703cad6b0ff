use Rattle.smith_types_examples.proofs.Common.{arith, [], ◌∷◌, Some, refl, All-head, IsGroupValid, without_gc, open_type, final_type}
use Rattle.smith_types_examples.proofs.Common.{empty_struct, plain_func, range}
use Rattle.smith_types_examples.proofs.growth.added_groups.Goals as goal

pub returns-clause-below_itself : goal.returns-clause-below_itself
returns-clause-below_itself c = λ added.
    let (before, alike) = added.orderly.under 1 1 (open_type (Some 1) empty_struct) refl refl in
    omega (arith, before)

pub returns-clause-without_its_feature : goal.returns-clause-without_its_feature
returns-clause-without_its_feature c = λ added.
    let types = final_type plain_func ∷ final_type empty_struct ∷ [] in
    let group = All-head (IsGroupValid without_gc types) (range 1 2) [] added.valid in
    let never = (group.members 1 (final_type empty_struct) (omega arith) (omega arith) refl).enabled.inner in
    cc never
