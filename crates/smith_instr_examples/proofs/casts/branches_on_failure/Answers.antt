use Rattle.smith_instr_examples.proofs.Common.{true, false, [], ◌∷◌, refl, I32, Ref, IsRefBelow-refl, managed_types, anything, something}
use Rattle.smith_types.specs.Syntax.value_type.AbstractHeapType.TheVariants as heap
use Rattle.smith_instr_examples.proofs.ManagedExamples.{struct_below, struct_apart, struct_valid, any_valid}
use Rattle.smith_instr_examples.proofs.casts.branches_on_failure.Goals as goal

pub returns-clause-null_branches : goal.returns-clause-null_branches
returns-clause-null_branches c =
    let labels = (I32 ∷ Ref anything ∷ []) ∷ [] in (
      I32 ∷ [],
      record {
        from_valid = any_valid labels [];
        to_valid = struct_valid labels [] false;
        below = struct_below false true
            (λ on. refl);
        wanted = anything;
        taken = refl;
        arrives = IsRefBelow-refl managed_types anything;
      },
      (refl, refl),
    )

pub returns-clause-null_stays : goal.returns-clause-null_stays
returns-clause-null_stays c =
    let labels = (I32 ∷ Ref something ∷ []) ∷ [] in (
      I32 ∷ [],
      record {
        from_valid = any_valid labels [];
        to_valid = struct_valid labels [] true;
        below = struct_below true true
            (λ on. refl);
        wanted = something;
        taken = refl;
        arrives = IsRefBelow-refl managed_types something;
      },
      (refl, refl),
    )

pub returns-clause-of_another_hierarchy : goal.returns-clause-of_another_hierarchy
returns-clause-of_another_hierarchy c = λ operands results typed. struct_apart true true heap.Extern (λ never. cc never) typed.1.below
