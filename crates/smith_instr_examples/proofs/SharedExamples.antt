-- Shared types, and a table of shared functions.
use Rattle.smith_types.specs.ExampleTypes.{shared_type}
use Rattle.smith_types.specs.Syntax.composite_type.StorageType.TheVariants.{I16}
use Rattle.smith_types.specs.Syntax.value_type.AbstractHeapType.TheVariants as heap
use Rattle.smith_instr.proofs.CompositionLemmas.{from_below}
use Rattle.smith_instr.specs.declared.aggregate.AggregateInstr.TheVariants as aggregate
use Rattle.smith_instr.specs.declared.instr.Instr.TheVariants as instr
use Rattle.smith_instr_examples.proofs.Common.{true, false, List, [], ◌∷◌, refl, arith, constant, variable, struct, Array, Func, I32, I64}
use Rattle.smith_instr_examples.proofs.Common.{Val, ValType, IsFuncAt, IsStructAt, IsArrayAt, IsFunctionTable, IsRefBelow-refl, below_kind}
use Rattle.smith_instr_examples.proofs.Common.{reference_to, nullable_to, Abstract, Concrete, CountsAs, AreTyped, stacked, step, one}
use Rattle.smith_instr_examples.proofs.Common.{finished, narrows}
use Rattle.smith_instr_examples.proofs.SequenceExamples.{valid_one}
use Rattle.smith_instr_examples.specs.ExampleManaged.{shared_functions, sharing}

pub struct_there : IsStructAt sharing.types 0 (constant I16 ∷ variable (Val I64) ∷ [])
struct_there = (shared_type (struct (constant I16 ∷ variable (Val I64) ∷ [])), refl, refl)

pub numbers_there : IsArrayAt sharing.types 1 (variable (Val I32))
numbers_there = (shared_type (Array (record { 0 = variable (Val I32) })), refl, refl)

pub narrows_there : IsFuncAt sharing.types 2 narrows
narrows_there = (shared_type (Func narrows), refl, refl)

pub shared_table : (results : List ValType) → IsFunctionTable (record sharing { results = results }) 0 false
shared_table results = record {
  table = shared_functions;
  there = refl;
  addressed = refl;
  shared = true;
  of_functions = IsRefBelow-refl sharing.types shared_functions.element_type;
}

pub counted : AreTyped sharing (instr.Aggregate (aggregate.ArrayNewDefault 1) ∷ instr.Aggregate aggregate.ArrayLen ∷ [])
    (stacked (I32 ∷ []) []) (stacked (I32 ∷ []) [])
counted =
    let created = reference_to (Concrete 1) in
    let array = nullable_to (Abstract true heap.Array) in
    let number = valid_one sharing I32 tt in
    let counts : CountsAs sharing (created ∷ []) (array ∷ []) = record {
      below = (
        record {
          heap = below_kind sharing.types 1 (shared_type (Array (record { 0 = variable (Val I32) }))) refl;
          nullable = λ on. refl;
        },
        tt,
      );
      valid = valid_one sharing array (refl, record { heap_type = (refl, λ on. refl); nullable = λ never. refl });
    } in
    step (one sharing (instr.Aggregate (aggregate.ArrayNewDefault 1)) (I32 ∷ []) (created ∷ []) [] [] [] (
      variable (Val I32),
      numbers_there,
      tt,
      (refl, refl),
    ) (valid_one sharing created (refl, record { heap_type = (refl, omega arith); nullable = λ never. refl })) refl)
    (from_below (created ∷ []) counts
    (step (one sharing (instr.Aggregate aggregate.ArrayLen) (array ∷ []) (I32 ∷ []) [] [] [] (true, (refl, refl)) number refl)
    (finished sharing (I32 ∷ []) [] number)))
