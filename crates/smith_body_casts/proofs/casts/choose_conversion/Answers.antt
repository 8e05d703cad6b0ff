use Rattle.smith_body_nodes.specs.Scopes.{where_stands}
use Rattle.smith_body_casts.specs.declared.casts.Conversion.TheVariants as conversion
use Rattle.smith_body_casts.proofs.CastLemmas.{conversion_by}
use Rattle.smith_body_nodes.proofs.ChosenLemmas.{ok_by}
use Rattle.smith_body_nodes.proofs.ResultLemmas.{ok_like}
use Rattle.smith_body_casts.proofs.casts.choose_conversion.Goals as goal

pub returns-in-I31-clause-exact : goal.returns-in-I31-clause-exact
returns-in-I31-clause-exact c = ok_like _ c.choose_i31.result (conversion_by (where_stands c.args.scope.now c.args.draft.now) c.args.to
    c.args.u.now _ c.conversions.result.now c.choose.result conversion.I31 c.conversions.ensures (c.choose.ensures.exact conversion.Cast)
    c.in-I31.is) c.choose_i31.ensures.exact

pub returns-in-Outside-clause-exact : goal.returns-in-Outside-clause-exact
returns-in-Outside-clause-exact c = ok_like _ c.choose_converted.result (conversion_by (where_stands c.args.scope.now c.args.draft.now)
    c.args.to c.args.u.now _ c.conversions.result.now c.choose.result conversion.Outside c.conversions.ensures
    (c.choose.ensures.exact conversion.Cast) c.in-Outside.is) c.choose_converted.ensures.exact

pub returns-in-Cast-clause-exact : goal.returns-in-Cast-clause-exact
returns-in-Cast-clause-exact c = ok_by c.cast_to.result _ _ _ (conversion_by (where_stands c.args.scope.now c.args.draft.now) c.args.to
    c.args.u.now _ c.conversions.result.now c.choose.result conversion.Cast c.conversions.ensures (c.choose.ensures.exact conversion.Cast)
    c.in-Cast.is) c.cast_to.ensures.exact

pub returns-in-NonNullCast-clause-exact : goal.returns-in-NonNullCast-clause-exact
returns-in-NonNullCast-clause-exact c = ok_by c.cast_to_non_null.result _ _ _
    (conversion_by (where_stands c.args.scope.now c.args.draft.now) c.args.to c.args.u.now _ c.conversions.result.now c.choose.result
    conversion.NonNullCast c.conversions.ensures (c.choose.ensures.exact conversion.Cast) c.in-NonNullCast.is)
    c.cast_to_non_null.ensures.exact
