use Rattle.smith_check_instr.proofs.Common.{All, all_in_range, AreValid, bare, held, IsValInRange, refl, some_same, subst, sym, To}
use Rattle.smith_check_instr.proofs.Common.{tried_values, ◌∙◌, ◌≡◌}
use Rattle.smith_types.specs.Syntax.composite_type.FuncType.{FuncType}
use Rattle.smith_instr.specs.declared.instr.Instr.TheVariants as instr
use Rattle.smith_types.specs.Entities.{IsFuncAt}
use Rattle.smith_check_operands.proofs.LookupLemmas.{func_same}
use Rattle.smith_check_instr.proofs.control.call.Goals as goal

pub apply-requires-clause-expected : goal.apply-requires-clause-expected
apply-requires-clause-expected c =
    subst (λ ts. All (IsValInRange c.args.scope.now.types.now.types) ts) (sym c.deref.ensures)
    (all_in_range (bare c.args.scope.now) c.in-Some-func_at.function.now.params
    (c.requires.scope.params_valid c.in-Some.ty c.in-Some-func_at.function.now
    (subst (λ ts. IsFuncAt ts c.in-Some.ty c.in-Some-func_at.function.now) c.types.ensures.value c.in-Some-func_at.ensures)))

pub apply-requires-clause-valid : goal.apply-requires-clause-valid
apply-requires-clause-valid c =
    subst (λ ts. AreValid (bare c.args.scope.now) ts) (sym c.deref-2.ensures)
    (c.requires.scope.results_valid c.in-Some.ty c.in-Some-func_at.function.now
    (subst (λ ts. IsFuncAt ts c.in-Some.ty c.in-Some-func_at.function.now) c.types.ensures.value c.in-Some-func_at.ensures))

pub returns-in_default-func_at-clause-ok : goal.returns-in_default-func_at-clause-ok
returns-in_default-func_at-clause-ok c = λ labels set before after covered s.
    let (these, those, has, is, also) = s.typed in
    let (function, named, fits) = has in
    let (ty, at, of) = named in
    let same : ty ≡ c.in-Some.ty = some_same ty c.in-Some.ty (sym at ∙ sym c.in-Some.ensures) in
    c.in_default-func_at.ensures function
    (subst (λ ts. IsFuncAt ts c.in-Some.ty function) (sym c.types.ensures.value)
    (subst (λ i. IsFuncAt c.args.scope.now.types.now.types i function) same of))

pub returns-clause-ok : goal.returns-clause-ok
returns-clause-ok c = λ labels set.
    let function = c.in-Some-func_at.function.now in
    let there : IsFuncAt c.args.scope.now.types.now.types c.in-Some.ty function =
    subst (λ ts. IsFuncAt ts c.in-Some.ty function) c.types.ensures.value c.in-Some-func_at.ensures in
    tried_values (bare c.args.scope.now) labels (instr.Call c.args.index) set function.params function.results c.deref.result.now
    c.deref-2.result.now (held c.args.operands.now) _ c.apply.result (λ os rs t. t) (λ os rs t. t)
    (function, (c.in-Some.ty, sym c.in-Some.ensures, there), (refl, refl))
    (λ os rs t. let (other, named, fits) = t in let (ty, at, of) = named in
    let same : ty ≡ c.in-Some.ty = some_same ty c.in-Some.ty (sym at ∙ sym c.in-Some.ensures) in
    let is : other ≡ function = func_same c.args.scope.now.types.now.types c.in-Some.ty other function
    (subst (λ i. IsFuncAt c.args.scope.now.types.now.types i other) same of) there in
    subst (λ (f : FuncType). To os rs f.params f.results) is fits)
    c.deref.ensures c.deref-2.ensures c.apply.ensures.ok
