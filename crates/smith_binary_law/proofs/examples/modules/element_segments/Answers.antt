use Rattle.smith_binary_law.proofs.Common.{[], All-from_recursion, Concrete, context_with, false, func_ref, funcref, I32, I32Const}
use Rattle.smith_binary_law.proofs.Common.{IsRefBelow, itself, None, pos, refl, table, usual_features, ◌∷◌}
use Rattle.smith_types.specs.Syntax.const_instr.ConstInstr.TheVariants.{RefFunc}
use Rattle.smith_types.specs.Syntax.value_type.ValType.TheVariants.{Ref}
use Rattle.smith_types.specs.Expressions.{reference_to}
use Rattle.smith_types.specs.ExampleContexts.{context_types}
use Rattle.smith_types.specs.ExampleTypes.{final_type, plain_func, not_null}
use Rattle.smith_types.proofs.PathLemmas.{below_kind}
use Rattle.smith_binary_sections.specs.Elements.{func_items}
use Rattle.smith_binary_law.specs.Segments.{IsTyped}
use Rattle.smith_binary_law.proofs.SegmentLemmas.{alone}
use Rattle.smith_binary_law.proofs.examples.modules.element_segments.Goals as goal

below : IsRefBelow context_types (not_null (Concrete 0)) (func_ref false)
below = record { heap = below_kind context_types 0 (final_type plain_func) refl; nullable = λ never. never }

imported : IsTyped (context_with usual_features 3) (Ref (func_ref false)) (RefFunc 0 ∷ [])
imported = alone (context_with usual_features 3) (RefFunc 0) (reference_to (Concrete 0)) (Ref (func_ref false)) (0, refl, refl, refl) below

defined : IsTyped (context_with usual_features 3) (Ref (func_ref false)) (RefFunc 1 ∷ [])
defined = alone (context_with usual_features 3) (RefFunc 1) (reference_to (Concrete 0)) (Ref (func_ref false)) (0, refl, refl, refl) below

pub returns-clause-of_functions : goal.returns-clause-of_functions
returns-clause-of_functions c = record {
  ty = tt;
  items = All-from_recursion (IsTyped (context_with usual_features 3) (Ref (func_ref false))) (func_items (0 ∷ 1 ∷ []))
      (imported, (defined, tt));
  mode = record {
    table = table funcref 2 None;
    stands = refl;
    below = record { heap = itself; nullable = λ never. refl };
    offset_typed = alone (context_with usual_features 3) (I32Const (pos 0)) I32 I32 (refl, refl) tt;
  };
}
