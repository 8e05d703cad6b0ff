use Rattle.smith_instr_examples.proofs.Common.{◌≡◌, true, false, [], ◌∷◌, refl, subst, IsRefBelow, itself, funcref, I32, Ref}
use Rattle.smith_instr_examples.proofs.Common.{IsRefBelow-refl, managed_types, any_struct, some_struct}
use Rattle.smith_types.specs.Syntax.value_type.AbstractHeapType.TheVariants as heap
use Rattle.smith_instr_examples.proofs.ManagedExamples.{struct_below, struct_apart, struct_valid, any_valid, only}
use Rattle.smith_instr_examples.proofs.casts.branches_on_success.Goals as goal

pub returns-clause-null_stays : goal.returns-clause-null_stays
returns-clause-null_stays c =
    let labels = (I32 ∷ Ref any_struct ∷ []) ∷ [] in (
      I32 ∷ [],
      record {
        from_valid = any_valid labels [];
        to_valid = struct_valid labels [] false;
        below = struct_below false true
            (λ on. refl);
        wanted = any_struct;
        taken = refl;
        arrives = record { heap = itself; nullable = λ on. refl };
      },
      (refl, refl),
    )

pub returns-clause-null_branches : goal.returns-clause-null_branches
returns-clause-null_branches c =
    let labels = (I32 ∷ Ref any_struct ∷ []) ∷ [] in (
      I32 ∷ [],
      record {
        from_valid = any_valid labels [];
        to_valid = struct_valid labels [] true;
        below = struct_below true true
            (λ on. refl);
        wanted = any_struct;
        taken = refl;
        arrives = IsRefBelow-refl managed_types any_struct;
      },
      (refl, refl),
    )

pub returns-clause-of_another_hierarchy : goal.returns-clause-of_another_hierarchy
returns-clause-of_another_hierarchy c = λ operands results typed. struct_apart true true heap.Extern (λ never. cc never) typed.1.below

pub returns-clause-to_a_label_of_another_type : goal.returns-clause-to_a_label_of_another_type
returns-clause-to_a_label_of_another_type c = λ operands results typed.
    let (others, cast, is) = typed in
    let same : cast.wanted ≡ funcref = only others funcref cast.wanted cast.taken in
    struct_apart false true heap.Func (λ never. cc never) (subst (IsRefBelow managed_types some_struct) same cast.arrives)
