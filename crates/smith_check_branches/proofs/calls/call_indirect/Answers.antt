use Rattle.smith_check_branches.proofs.Common.{[], address, bare, func_same, FuncType, held, IsFuncAt, one_in_range, refl, subst, sym, To}
use Rattle.smith_check_branches.proofs.Common.{tried_values, ◌++◌, ◌∷◌, ◌≡◌}
use Rattle.smith_instr.specs.declared.instr.Instr.TheVariants as instr
use Rattle.smith_check_branches.proofs.CallLemmas.{params_in_range, results_are_valid, address_in_range, function_table_at}
use Rattle.smith_check_branches.proofs.CallLemmas.{function_table_from, same_width}
use Rattle.smith_check_branches.proofs.calls.call_indirect.Goals as goal

pub apply_below-requires-clause-expected : goal.apply_below-requires-clause-expected
apply_below-requires-clause-expected c =
    params_in_range (bare c.args.scope.now) c.types.result.now c.args.ty c.in-Some-func_at.function.now c.deref.result.now c.requires.scope
    c.types.ensures.value c.in-Some-func_at.ensures c.deref.ensures

pub apply_below-requires-clause-expected_top : goal.apply_below-requires-clause-expected_top
apply_below-requires-clause-expected_top c =
    one_in_range c.args.scope.now.types.now.types c.address_type-place.result
    (address_in_range c.args.scope.now.types.now.types c.in-Some.wide c.address_type-place.result c.address_type-place.ensures)

pub apply_below-requires-clause-valid : goal.apply_below-requires-clause-valid
apply_below-requires-clause-valid c =
    results_are_valid (bare c.args.scope.now) c.types.result.now c.args.ty c.in-Some-func_at.function.now c.deref-2.result.now
    c.requires.scope c.types.ensures.value c.in-Some-func_at.ensures c.deref-2.ensures

pub returns-in_default-clause-ok : goal.returns-in_default-clause-ok
returns-in_default-clause-ok c = λ labels set before after covered s.
    let (these, those, has, is, also) = s.typed in
    let (function, wide, on, there, fits) = has in
    c.in_default.ensures wide (function_table_from (bare c.args.scope.now) labels c.args.table wide on)

pub returns-in_default-func_at-clause-ok : goal.returns-in_default-func_at-clause-ok
returns-in_default-func_at-clause-ok c = λ labels set before after covered s.
    let (these, those, has, is, also) = s.typed in
    let (function, wide, on, there, fits) = has in
    c.in_default-func_at.ensures function (subst (λ ts. IsFuncAt ts c.args.ty function) (sym c.types.ensures.value) there)

pub returns-clause-ok : goal.returns-clause-ok
returns-clause-ok c = λ labels set.
    let types = c.args.scope.now.types.now.types in
    let function = c.in-Some-func_at.function.now in
    let wide = c.in-Some.wide in
    let there : IsFuncAt types c.args.ty function =
    subst (λ ts. IsFuncAt ts c.args.ty function) c.types.ensures.value c.in-Some-func_at.ensures in
    let operands : c.deref.result.now ++ c.address_type-place.result ∷ [] ≡ function.params ++ address wide ∷ [] =
    cc (c.deref.ensures, c.address_type-place.ensures) in
    tried_values (bare c.args.scope.now) labels (instr.CallIndirect c.args.table c.args.ty) set (function.params ++ address wide ∷ [])
    function.results (c.deref.result.now ++ c.address_type-place.result ∷ []) c.deref-2.result.now (held c.args.operands.now) _
    c.apply_below.result (λ os rs t. t) (λ os rs t. t)
    (function, wide, function_table_at (bare c.args.scope.now) labels c.args.table wide c.in-Some.ensures, there, (refl, refl))
    (λ os rs t. let (other, w, on, at, fits) = t in
    subst (λ (f : FuncType). To os rs (f.params ++ address wide ∷ []) f.results) (func_same types c.args.ty other function at there)
    (subst (λ b. To os rs (other.params ++ address b ∷ []) other.results)
    (same_width (bare c.args.scope.now) labels c.args.table w wide on c.in-Some.ensures) fits))
    operands c.deref-2.ensures c.apply_below.ensures.ok
