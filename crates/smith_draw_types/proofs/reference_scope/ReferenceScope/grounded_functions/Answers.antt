use Rattle.smith_draw_types.proofs.Common.{ap, Concrete, Context, IfSome_then, map, subst, sym, ◌∙◌}
use Rattle.smith_draw_types.specs.KeptGrounds.{AreEarlyFamilies}
use Rattle.smith_draw_types.proofs.EarlyGroundLemmas.{early_record}
use Rattle.smith_draw_types.proofs.FunctionFamilyLemmas.{functions_listed}
use Rattle.smith_draw_types.proofs.reference_scope.ReferenceScope.grounded_functions.Goals as goal

pub returns-in-Some : goal.returns-in-Some
returns-in-Some c =
    let scope = c.args.self.now in
    let early : AreEarlyFamilies scope c.in-Some.families.now =
    subst (λ (context : Context). AreEarlyFamilies context c.in-Some.families.now) c.self.view_is (rw c.in-Some.is at c.self.invariant.1) in
    functions_listed scope early.grounds c.args.shared c.function_types.result.now c.orderly.ensures
    (early_record scope early.grounds early.early) (c.function_types.ensures scope.types early.grounds early.listed)

pub returns-in-None : goal.returns-in-None
returns-in-None c = IfSome_then c.none_grounded.result c.none_grounded.ensures (λ indices none. none.1 ∙ ap (map Concrete) (sym none.0))
