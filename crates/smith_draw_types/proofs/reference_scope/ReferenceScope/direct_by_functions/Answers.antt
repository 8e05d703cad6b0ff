use Rattle.smith_draw_types.proofs.Common.{ap, Context, subst, sym, ◌∙◌}
use Rattle.smith_draw_types.specs.KeptGrounds.{AreEarlyFamilies}
use Rattle.smith_draw_types.proofs.EarlyGroundLemmas.{early_record}
use Rattle.smith_draw_types.proofs.FunctionFamilyLemmas.{direct_listed}
use Rattle.smith_draw_types.proofs.reference_scope.ReferenceScope.direct_by_functions.Goals as goal

pub returns : goal.returns
returns c =
    let scope = c.args.self.now in
    let same = ap (λ (context : Context). context.types) c.self.view_is in
    let flag = ap (λ (context : Context). context.features.custom_descriptors) c.self.view_is in
    let early : AreEarlyFamilies scope c.in-Some.families.now =
    subst (λ (context : Context). AreEarlyFamilies context c.in-Some.families.now) c.self.view_is (rw c.in-Some.is at c.self.invariant.1) in
    record {
      stands = c.requires;
      direct =
          direct_listed scope early.grounds c.args.index c.direct_subtypes.result.now c.orderly.ensures
          (early_record scope early.grounds early.early)
          (λ structs.
          let on = c.is_grounded_by_structs.ensures.1 (rw (same, flag) structs) in
          cc (sym on ∙ c.if-is_grounded_by_structs.false))
          (c.direct_subtypes.ensures scope.types early.grounds early.listed);
    }
