use Rattle.std.proofs.Common.{[], refl, rules}
use Rattle.smith_types.specs.ExampleTypes.{not_null, plain}
use Rattle.smith_types.specs.Subtyping.{itself}
use Rattle.smith_types.specs.Syntax.value_type.AbstractHeapType.TheVariants as heap
use Rattle.smith_types.specs.Syntax.value_type.HeapType.TheVariants.{Concrete}
use Rattle.smith_draw_types.specs.Below.{is_heap_below}
use Rattle.smith_body_law.specs.ExampleContexts.{with_type}
use Rattle.smith_body_law.proofs.ExampleLemmas.{both_apart, holding, no_array_there, no_defaults, is_barren}
use Rattle.smith_body_law.proofs.examples.structs.Goals as goal

pub returns-clause-of_defaults : goal.returns-clause-of_defaults
returns-clause-of_defaults c is =
    is.1.no_struct (0, record { fields = []; struct = (_, refl, refl); defaults = search rules; below = itself })

pub returns-clause-with_a_function : goal.returns-clause-with_a_function
unfolding is_heap_below
returns-clause-with_a_function c = (
  refl,
  is_barren (with_type (holding (not_null (plain heap.Func)))) (holding (not_null (plain heap.Func))) (Concrete 0) refl refl
      (no_defaults (not_null (plain heap.Func)) (Concrete 0) refl)
      (λ index element there below. no_array_there (holding (not_null (plain heap.Func))) (λ element is. cc) index element there)
      (both_apart (holding (not_null (plain heap.Func))) (Concrete 0) refl refl refl refl),
)
