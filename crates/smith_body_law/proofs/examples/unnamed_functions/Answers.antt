use Rattle.std.proofs.Common.{◌≡◌, ℕ, List, length, ap, refl, arith}
use Rattle.smith_types.specs.ExampleTypes.{plain, plain_func}
use Rattle.smith_types.specs.Subtyping.{itself}
use Rattle.smith_types.specs.Syntax.value_type.AbstractHeapType.TheVariants as heap
use Rattle.smith_draw_types.specs.Below.{is_heap_below}
use Rattle.smith_body_law.proofs.ExampleLemmas.{never_named, no_function_below, no_struct_there}
use Rattle.smith_body_law.proofs.examples.unnamed_functions.Goals as goal

pub returns-clause-one : goal.returns-clause-one
returns-clause-one c = record {
  no_structs = λ (index, by). no_struct_there plain_func (λ fields is. cc) index by.fields by.struct;
  functions = (0, 0, refl, record { heap = itself; nullable = λ on. on });
  unnamed = λ function index there below named. never_named function named;
}

pub returns-clause-named : goal.returns-clause-named
returns-clause-named c is = is.unnamed 0 0 refl (record { heap = itself; nullable = λ on. on }) (0, omega arith, refl)

pub returns-clause-none : goal.returns-clause-none
unfolding is_heap_below
returns-clause-none c is = no_function_below (plain heap.Exn) refl is.functions

pub returns-clause-one_module : goal.returns-clause-one_module
returns-clause-one_module c = record { features = refl; types = refl; funcs = refl; imported_funcs = refl }

pub returns-clause-other_types : goal.returns-clause-other_types
returns-clause-other_types c same = let none : ℕ = 0 in let never : none ≡ 1 = ap (λ (funcs : List ℕ). length funcs) same.funcs in cc
