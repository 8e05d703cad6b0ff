use Rattle.smith_types_examples.proofs.Common.{rules, [], ◌∷◌, Some, None, refl, Func, open_type, func, func_and_below, anyref, eqref}
use Rattle.smith_types_examples.proofs.Common.{plain, AreBelow-refl, by_cases_from_below}
use Rattle.smith_types.specs.Syntax.value_type.AbstractHeapType.TheVariants as heap
use Rattle.smith_types_examples.proofs.TypeExamples.{two_valid, below_first, first_above, eq_below_any}
use Rattle.smith_types_examples.proofs.refused_types.narrowed_parameter.Goals as goal

pub returns-clause-refused : goal.returns-clause-refused
returns-clause-refused c = λ valid.
    let types = func_and_below (func anyref eqref) (func eqref eqref) in
    let above = first_above (open_type None (Func (func anyref eqref))) (open_type (Some 0) (Func (func eqref eqref))) refl valid in
    let (shares, never) = by_cases_from_below types valid.orderly (plain heap.Any) (plain heap.Eq) above.matched.inner.params.0.heap in
    cc never

pub returns-clause-but_results : goal.returns-clause-but_results
returns-clause-but_results c = AreBelow-refl (func_and_below (func anyref eqref) (func eqref eqref)) (eqref ∷ [])

pub returns-clause-kept : goal.returns-clause-kept
returns-clause-kept c =
    let types = func_and_below (func eqref eqref) (func eqref eqref) in
    let upper = open_type None (Func (func eqref eqref)) in
    let lower = open_type (Some 0) (Func (func eqref eqref)) in
    two_valid upper lower (search rules) (search rules) (record {
      enabled = search rules;
      values = search rules;
      declared = below_first upper lower refl
          (record {
            not_final = refl;
            matched = record {
              inner = record { params = AreBelow-refl types (eqref ∷ []); results = AreBelow-refl types (eqref ∷ []) };
              shared = refl;
            };
          });
      shareable = λ never. cc never;
    })

pub returns-clause-widened : goal.returns-clause-widened
returns-clause-widened c =
    let types = func_and_below (func eqref eqref) (func anyref eqref) in
    let upper = open_type None (Func (func eqref eqref)) in
    let lower = open_type (Some 0) (Func (func anyref eqref)) in
    two_valid upper lower (search rules) (search rules) (record {
      enabled = search rules;
      values = search rules;
      declared = below_first upper lower refl
          (record {
            not_final = refl;
            matched = record {
              inner = record { params = (eq_below_any types, tt); results = AreBelow-refl types (eqref ∷ []) };
              shared = refl;
            };
          });
      shareable = λ never. cc never;
    })
