use Rattle.smith_check_instr.proofs.Common.{[], all_at, bare, held, in_range, IsValid, one_in_range, refl, some_same, subst, sym, To}
use Rattle.smith_check_instr.proofs.Common.{tried_values, ◌∙◌, ◌∷◌}
use Rattle.smith_types.specs.Syntax.entity_type.GlobalType.{GlobalType}
use Rattle.smith_instr.specs.declared.instr.Instr.TheVariants as instr
use Rattle.smith_instr.proofs.AmongLemmas.{true_from_not}
use Rattle.smith_check_instr.proofs.variables.global_set.Goals as goal

pub apply-requires-clause-expected : goal.apply-requires-clause-expected
apply-requires-clause-expected c = one_in_range c.args.scope.now.types.now.types c.in-Some.global.val_type
    (in_range (bare c.args.scope.now) c.in-Some.global.val_type (all_at (λ (g : GlobalType). IsValid (bare c.args.scope.now) g.val_type)
    c.args.scope.now.globals.now c.args.index c.in-Some.global c.requires.scope.globals (sym c.in-Some.ensures)))

pub returns-clause-ok : goal.returns-clause-ok
returns-clause-ok c = λ labels set.
    let global = c.in-Some.global in
    tried_values (bare c.args.scope.now) labels (instr.GlobalSet c.args.index) set (global.val_type ∷ []) [] (global.val_type ∷ []) []
    (held c.args.operands.now) _ c.apply.result (λ os rs t. t) (λ os rs t. t)
    (global, sym c.in-Some.ensures, true_from_not c.in-Some.global.mutable c.if-not-global.false, (refl, refl))
    (λ os rs t. let (other, at, mutable, fits) = t in subst (λ (g : GlobalType). To os rs (g.val_type ∷ []) [])
    (some_same other global (sym at ∙ sym c.in-Some.ensures)) fits)
    refl refl c.apply.ensures.ok
