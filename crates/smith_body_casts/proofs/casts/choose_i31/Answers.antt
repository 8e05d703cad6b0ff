use Rattle.std.proofs.Common.{sym, ◌∙◌}
use Rattle.smith_body_nodes.specs.Scopes.{bare, where_stands}
use Rattle.smith_body_casts.proofs.CastLemmas.{i31_first, i31_gives, i31_none, i31_second, i31_shared_gives}
use Rattle.smith_body_nodes.proofs.ResultLemmas.{ok_like}
use Rattle.smith_body_casts.proofs.casts.choose_i31.Goals as goal

pub returns-then-is_i31_below-clause-exact : goal.returns-then-is_i31_below-clause-exact
returns-then-is_i31_below-clause-exact c =
    ok_like _ c.conversion_node.result (i31_first (bare c.args.scope.now) c.args.to (sym c.is_i31_below.ensures ∙ c.if-is_i31_below.true))
    c.conversion_node.ensures.exact

pub returns-then-is_i31_below-clause-offer : goal.returns-then-is_i31_below-clause-offer
returns-then-is_i31_below-clause-offer c =
    ok_like _ c.conversion_node.result (i31_gives (where_stands c.args.scope.now c.args.draft.now) c.args.draft.now.set.items c.args.to
    c.requires.scope.orderly c.requires.to (sym c.is_i31_below.ensures ∙ c.if-is_i31_below.true)) c.conversion_node.ensures.exact

pub returns-then-is_i31_below-2-clause-exact : goal.returns-then-is_i31_below-2-clause-exact
returns-then-is_i31_below-2-clause-exact c =
    ok_like _ c.conversion_node-then-is_i31_below-2.result
    (i31_second (bare c.args.scope.now) c.args.to (sym c.is_i31_below.ensures ∙ c.if-is_i31_below.false)
    (sym c.is_i31_below-2.ensures ∙ c.if-is_i31_below-2.true)) c.conversion_node-then-is_i31_below-2.ensures.exact

pub returns-then-is_i31_below-2-clause-offer : goal.returns-then-is_i31_below-2-clause-offer
returns-then-is_i31_below-2-clause-offer c =
    ok_like _ c.conversion_node-then-is_i31_below-2.result (i31_shared_gives (where_stands c.args.scope.now c.args.draft.now)
    c.args.draft.now.set.items c.args.to c.requires.scope.orderly c.requires.to
    (sym c.is_i31_below-2.ensures ∙ c.if-is_i31_below-2.true)) c.conversion_node-then-is_i31_below-2.ensures.exact

pub returns-clause-exact : goal.returns-clause-exact
returns-clause-exact c = i31_none (bare c.args.scope.now) c.args.to (sym c.is_i31_below.ensures ∙ c.if-is_i31_below.false)
    (sym c.is_i31_below-2.ensures ∙ c.if-is_i31_below-2.false)
