use Rattle.smith_draw_types.proofs.Common.{refl, sym, ◌∙◌}
use Rattle.smith_draw_types.proofs.GroundedKindLemmas.{none_of_kind}
use Rattle.smith_draw_types.proofs.reference_scope.ReferenceScope.none_grounded.Goals as goal

pub returns : goal.returns
returns c = (
  refl,
  none_of_kind c.args.self.now c.args.shared c.args.kind c.orderly.ensures
      (sym c.is_grounded.ensures ∙ c.if-is_grounded.false),
)
