use Rattle.smith_check_instr.proofs.Common.{[], all_at, bare, held, IsValid, no_range, one_valid, refl, some_same, subst, sym, To}
use Rattle.smith_check_instr.proofs.Common.{tried_values, ◌∙◌, ◌∷◌}
use Rattle.smith_instr.specs.declared.instr.Instr.TheVariants as instr
use Rattle.smith_check_instr.proofs.variables.local_get.Goals as goal

pub apply-requires-clause-expected : goal.apply-requires-clause-expected
apply-requires-clause-expected c = no_range c.args.scope.now.types.now.types

pub apply-requires-clause-valid : goal.apply-requires-clause-valid
apply-requires-clause-valid c =
    one_valid (bare c.args.scope.now) c.in-Some.value (all_at (IsValid (bare c.args.scope.now)) c.args.scope.now.locals.now c.args.index
    c.in-Some.value c.requires.scope.locals (sym c.in-Some.ensures))

pub returns-clause-ok : goal.returns-clause-ok
returns-clause-ok c = λ labels.
    let value = c.in-Some.value in
    let set = c.args.log.now.items in
    tried_values (bare c.args.scope.now) labels (instr.LocalGet c.args.index) set [] (value ∷ []) [] (value ∷ []) (held c.args.operands.now)
    _ c.apply.result (λ os rs t. t) (λ os rs t. t)
    (value, (sym c.in-Some.ensures, c.is_set.ensures.0 c.if-not-is_set.false), (refl, refl))
    (λ os rs t. let (other, named, fits) = t in
    subst (λ v. To os rs [] (v ∷ [])) (some_same other value (sym named.0 ∙ sym c.in-Some.ensures)) fits)
    refl refl c.apply.ensures.ok
