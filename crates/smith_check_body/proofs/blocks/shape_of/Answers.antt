use Rattle.smith_check_body.proofs.Common.{AreValid, bare, IsBlockType, refl, subst, sym, ◌∙◌, ◌≡◌}
use Rattle.smith_types.specs.Entities.{IsFuncAt}
use Rattle.smith_check_body.proofs.blocks.shape_of.Goals as goal

pub returns-in_default-clause-ok : goal.returns-in_default-clause-ok
returns-in_default-clause-ok c = λ params results fits.
    let (function, there, a, b) = subst (λ ty. IsBlockType (bare c.args.scope.now) ty params results) c.in-Func.is fits in
    c.in_default.ensures function (subst (λ ts. IsFuncAt ts c.in-Func.index function) (sym c.types.ensures.value) there)

pub returns-in_ok-from_slice-in-Func-2-clause-ok : goal.returns-in_ok-from_slice-in-Func-2-clause-ok
returns-in_ok-from_slice-in-Func-2-clause-ok c =
    let function = c.in-Some.function.now in
    let there : IsFuncAt c.args.scope.now.types.now.types c.in-Func.index function = subst (λ ts. IsFuncAt ts c.in-Func.index function)
    c.types.ensures.value c.in-Some.ensures in
    let params : c.in_ok-from_slice-in-Func.field-0 ≡ function.params = c.in_ok-from_slice-in-Func.ensures.ok ∙ c.deref.ensures in
    let results : c.in_ok-from_slice-in-Func-2.field-0 ≡ function.results = c.in_ok-from_slice-in-Func-2.ensures.ok
    ∙ c.deref-in-Func.ensures in
    record {
      kind_is = refl;
      fits = subst (λ ty. IsBlockType (bare c.args.scope.now) ty c.in_ok-from_slice-in-Func.field-0 c.in_ok-from_slice-in-Func-2.field-0)
          (sym c.in-Func.is) (function, there, params, results);
      valid = record {
        params = subst (λ vs. AreValid (bare c.args.scope.now) vs) (sym params) (c.requires.params_valid c.in-Func.index function there);
        results = subst (λ vs. AreValid (bare c.args.scope.now) vs) (sym results) (c.requires.results_valid c.in-Func.index function there);
      };
    }
