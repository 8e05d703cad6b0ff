use Rattle.smith_instr_examples.proofs.Common.{◌≡◌, true, false, [], refl, subst, IsRefBelow, managed_types, anything, external}
use Rattle.smith_instr_examples.proofs.Common.{some_struct}
use Rattle.smith_types.specs.Syntax.value_type.AbstractHeapType.TheVariants as heap
use Rattle.smith_instr_examples.proofs.ManagedExamples.{struct_below, struct_apart, struct_valid, any_valid}
use Rattle.smith_instr_examples.proofs.casts.casts.Goals as goal

pub returns-clause-downwards : goal.returns-clause-downwards
returns-clause-downwards c = (anything, struct_valid [] [] false, any_valid [] [], struct_below false true (λ on. refl), (refl, refl))

pub returns-clause-of_another_hierarchy : goal.returns-clause-of_another_hierarchy
returns-clause-of_another_hierarchy c = λ results typed.
    let (from, to_valid, from_valid, below, (taken, given)) = typed in
    let same : from ≡ external = cc in
    struct_apart false true heap.Extern (λ never. cc never) (subst (IsRefBelow managed_types some_struct) same below)
