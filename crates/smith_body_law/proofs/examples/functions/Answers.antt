use Rattle.std.proofs.Common.{[], refl, arith}
use Rattle.smith_types.specs.ExampleTypes.{plain_func}
use Rattle.smith_types.specs.Subtyping.{itself}
use Rattle.smith_types.specs.Syntax.value_type.HeapType.TheVariants.{Concrete}
use Rattle.smith_draw_types.specs.Below.{is_heap_below}
use Rattle.smith_body_law.specs.ExampleContexts.{naming}
use Rattle.smith_body_law.proofs.ExampleLemmas.{both_apart, no_array_there, no_struct_there, is_barren}
use Rattle.smith_body_law.proofs.examples.functions.Goals as goal

pub returns-clause-named : goal.returns-clause-named
returns-clause-named c is = is.1.no_function 0 0 (0, omega arith, refl) refl (record { heap = itself; nullable = λ on. on })

pub returns-clause-not_named : goal.returns-clause-not_named
unfolding is_heap_below
returns-clause-not_named c = (
  refl,
  is_barren (naming []) plain_func (Concrete 0) refl refl (λ (index, by). no_struct_there plain_func (λ fields is. cc) index
      by.fields by.struct) (λ index element there below. no_array_there plain_func (λ element is. cc) index element there)
      (both_apart plain_func (Concrete 0) refl refl refl refl),
)
