use Rattle.smith_check_instr.proofs.Common.{[], all_at, bare, held, IsValid, no_range, one_valid, refl, some_same, subst, sym, To}
use Rattle.smith_check_instr.proofs.Common.{tried_values, ◌∙◌, ◌∷◌}
use Rattle.smith_types.specs.Syntax.entity_type.GlobalType.{GlobalType}
use Rattle.smith_instr.specs.declared.instr.Instr.TheVariants as instr
use Rattle.smith_check_instr.proofs.variables.global_get.Goals as goal

pub apply-requires-clause-expected : goal.apply-requires-clause-expected
apply-requires-clause-expected c = no_range c.args.scope.now.types.now.types

pub apply-requires-clause-valid : goal.apply-requires-clause-valid
apply-requires-clause-valid c = one_valid (bare c.args.scope.now) c.in-Some.global.val_type
    (all_at (λ (g : GlobalType). IsValid (bare c.args.scope.now) g.val_type) c.args.scope.now.globals.now c.args.index c.in-Some.global
    c.requires.scope.globals (sym c.in-Some.ensures))

pub returns-in-Some-clause-ok : goal.returns-in-Some-clause-ok
returns-in-Some-clause-ok c = λ labels set.
    let global = c.in-Some.global in
    tried_values (bare c.args.scope.now) labels (instr.GlobalGet c.args.index) set [] (global.val_type ∷ []) [] (global.val_type ∷ [])
    (held c.args.operands.now) _ c.apply.result (λ os rs t. t) (λ os rs t. t)
    (global, sym c.in-Some.ensures, (refl, refl))
    (λ os rs t. let (other, at, fits) = t in subst (λ (g : GlobalType). To os rs [] (g.val_type ∷ []))
    (some_same other global (sym at ∙ sym c.in-Some.ensures)) fits)
    refl refl c.apply.ensures.ok
