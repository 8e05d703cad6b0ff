use Rattle.smith_check_branches.proofs.Common.{[], bare, Concrete, func_same, FuncType, held, IsFuncAt, nullable_to, one_in_range, refl}
use Rattle.smith_check_branches.proofs.Common.{subst, sym, To, tried_values, ◌++◌, ◌∷◌, ◌≡◌}
use Rattle.smith_instr.specs.declared.instr.Instr.TheVariants as instr
use Rattle.smith_check_branches.proofs.CallLemmas.{params_in_range, results_are_valid, reference_in_range}
use Rattle.smith_check_branches.proofs.calls.call_ref.Goals as goal

pub apply_below-requires-clause-expected : goal.apply_below-requires-clause-expected
apply_below-requires-clause-expected c =
    params_in_range (bare c.args.scope.now) c.types.result.now c.args.ty c.in-Some.function.now c.deref.result.now c.requires.scope
    c.types.ensures.value c.in-Some.ensures c.deref.ensures

pub apply_below-requires-clause-expected_top : goal.apply_below-requires-clause-expected_top
apply_below-requires-clause-expected_top c =
    one_in_range c.args.scope.now.types.now.types c.nullable_to-callee.result
    (reference_in_range (bare c.args.scope.now) c.types.result.now c.args.ty c.in-Some.function.now c.nullable_to-callee.result
    c.types.ensures.value c.in-Some.ensures c.nullable_to-callee.ensures)

pub apply_below-requires-clause-valid : goal.apply_below-requires-clause-valid
apply_below-requires-clause-valid c =
    results_are_valid (bare c.args.scope.now) c.types.result.now c.args.ty c.in-Some.function.now c.deref-2.result.now c.requires.scope
    c.types.ensures.value c.in-Some.ensures c.deref-2.ensures

pub returns-in_default-clause-ok : goal.returns-in_default-clause-ok
returns-in_default-clause-ok c = λ labels set before after covered s.
    let (these, those, has, is, also) = s.typed in
    let (function, there, fits) = has in
    c.in_default.ensures function (subst (λ ts. IsFuncAt ts c.args.ty function) (sym c.types.ensures.value) there)

pub returns-clause-ok : goal.returns-clause-ok
returns-clause-ok c = λ labels set.
    let types = c.args.scope.now.types.now.types in
    let function = c.in-Some.function.now in
    let callee = nullable_to (Concrete c.args.ty) in
    let there : IsFuncAt types c.args.ty function =
    subst (λ ts. IsFuncAt ts c.args.ty function) c.types.ensures.value c.in-Some.ensures in
    let operands : c.deref.result.now ++ c.nullable_to-callee.result ∷ [] ≡ function.params ++ callee ∷ [] =
    cc (c.deref.ensures, c.nullable_to-callee.ensures) in
    tried_values (bare c.args.scope.now) labels (instr.CallRef c.args.ty) set (function.params ++ callee ∷ []) function.results
    (c.deref.result.now ++ c.nullable_to-callee.result ∷ []) c.deref-2.result.now (held c.args.operands.now) _ c.apply_below.result
    (λ os rs t. t) (λ os rs t. t) (function, there, (refl, refl))
    (λ os rs t. let (other, at, fits) = t in
    subst (λ (f : FuncType). To os rs (f.params ++ callee ∷ []) f.results) (func_same types c.args.ty other function at there) fits)
    operands c.deref-2.ensures c.apply_below.ensures.ok
