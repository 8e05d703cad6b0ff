use Rattle.std.proofs.Common.{false, refl}
use Rattle.smith_types.specs.ExampleTypes.{empty_struct, plain}
use Rattle.smith_types.specs.Subtyping.{by_step, itself}
use Rattle.smith_types.specs.Syntax.value_type.AbstractHeapType.TheVariants as heap
use Rattle.smith_body_law.proofs.examples.abstract_types.Goals as goal
use Rattle.smith_draw_types.specs.Below.{is_heap_below}
use Rattle.smith_body_law.specs.ExampleContexts.{with_type}
use Rattle.smith_body_law.proofs.ExampleLemmas.{both_apart, no_array_there, no_struct_below, is_barren}

pub returns-clause-exceptions : goal.returns-clause-exceptions
unfolding is_heap_below
returns-clause-exceptions c = (
  refl,
  is_barren (with_type empty_struct) empty_struct (plain heap.Exn) refl refl (no_struct_below empty_struct (plain heap.Exn) refl)
      (λ index element there below. no_array_there empty_struct (λ element is. cc) index element there)
      (both_apart empty_struct (plain heap.Exn) refl refl refl refl),
)

pub returns-clause-nullable : goal.returns-clause-nullable
returns-clause-nullable c is = cc

pub returns-clause-above_i31 : goal.returns-clause-above_i31
returns-clause-above_i31 c is = is.1.no_i31 false (λ on. cc) (by_step {b = plain heap.Eq} (refl, refl) itself)

pub returns-clause-external : goal.returns-clause-external
returns-clause-external c is = is.1.no_external false (λ on. cc) itself

pub returns-clause-number : goal.returns-clause-number
returns-clause-number c is = is
