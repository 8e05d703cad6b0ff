use Rattle.smith_types_examples.proofs.Common.{arith, Some, None, refl, IsAlike, open_type, shared_type, empty_struct, plain_func}
use Rattle.smith_types_examples.proofs.TypeExamples.{itself_not_before}
use Rattle.smith_types_examples.proofs.types.orderly.Goals as goal

pub returns-clause-supertype_after : goal.returns-clause-supertype_after
returns-clause-supertype_after c = λ orderly.
    let (before, alike) = orderly.under 0 1 (open_type (Some 1) empty_struct) refl refl in
    omega (arith, before)

pub returns-clause-supertype_past_the_end : goal.returns-clause-supertype_past_the_end
returns-clause-supertype_past_the_end c = λ orderly.
    let (before, alike) = orderly.under 0 7 (open_type (Some 7) empty_struct) refl refl in
    omega (arith, before)

pub returns-clause-its_own_supertype : goal.returns-clause-its_own_supertype
returns-clause-its_own_supertype c = itself_not_before

pub returns-clause-of_another_kind : goal.returns-clause-of_another_kind
returns-clause-of_another_kind c = λ orderly.
    let (before, alike) = orderly.under 1 0 (open_type (Some 0) empty_struct) refl refl in
    let like : IsAlike (open_type (Some 0) empty_struct) (open_type None plain_func) = alike (open_type None plain_func) refl in
    cc like.kind

pub returns-clause-of_another_sharedness : goal.returns-clause-of_another_sharedness
returns-clause-of_another_sharedness c = λ orderly.
    let (before, alike) = orderly.under 1 0 (open_type (Some 0) empty_struct) refl refl in
    let like : IsAlike (open_type (Some 0) empty_struct) (shared_type empty_struct) = alike (shared_type empty_struct) refl in
    cc like.shared
