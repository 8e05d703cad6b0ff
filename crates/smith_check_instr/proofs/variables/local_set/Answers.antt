use Rattle.smith_check_instr.proofs.Common.{[], all_at, bare, held, in_range, IsValid, one_in_range, refl, some_same, subst, sym, To}
use Rattle.smith_check_instr.proofs.Common.{tried_values, ◌∙◌, ◌∷◌}
use Rattle.smith_instr.specs.declared.instr.Instr.TheVariants as instr
use Rattle.smith_check_instr.proofs.variables.local_set.Goals as goal

pub apply-requires-clause-expected : goal.apply-requires-clause-expected
apply-requires-clause-expected c = one_in_range c.args.scope.now.types.now.types c.in-Some.value
    (in_range (bare c.args.scope.now) c.in-Some.value (all_at (IsValid (bare c.args.scope.now)) c.args.scope.now.locals.now c.args.index
    c.in-Some.value c.requires.scope.locals (sym c.in-Some.ensures)))

pub returns-in-Some-clause-ok : goal.returns-in-Some-clause-ok
returns-in-Some-clause-ok c = λ labels set.
    let value = c.in-Some.value in
    tried_values (bare c.args.scope.now) labels (instr.LocalSet c.args.index) set (value ∷ []) [] (value ∷ []) [] (held c.args.operands.now)
    _ c.apply.result (λ os rs t. t) (λ os rs t. t)
    (value, sym c.in-Some.ensures, (refl, refl))
    (λ os rs t. let (other, at, fits) = t in subst (λ v. To os rs (v ∷ []) []) (some_same other value (sym at ∙ sym c.in-Some.ensures))
    fits)
    refl refl c.apply.ensures.ok
