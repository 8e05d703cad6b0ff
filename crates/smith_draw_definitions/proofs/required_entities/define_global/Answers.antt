use Rattle.smith_draw_definitions.proofs.Common.{AreKeptOffers, Context, IfOk-weaker, on_ok_weaker, passed_on, spaces_in, standing_in}
use Rattle.smith_draw_definitions.proofs.Common.{subst, sym, true}
use Rattle.smith_draw_definitions.proofs.RequiredEntityLemmas.{answered, refused_initial, refused_beside, global_lacking, global_made}
use Rattle.smith_draw_definitions.proofs.required_entities.define_global.Goals as goal

pub returns-in_err-initial-clause-exact : goal.returns-in_err-initial-clause-exact
returns-in_err-initial-clause-exact c =
    refused_initial _ c.from_residual.result c.args.config.now (standing_in c.args.config.now c.scope-spaces.result) c.args.global.val_type
    c.in_err-initial.field-0.0 _ c.from_residual.ensures.1 c.in_err-initial.ensures.refusal
    (λ empty. global_lacking c.args.config.now c.args.types.now.types (spaces_in c.args.spaces.now) c.args.definitions.now _ c.args.u.now
    c.args.global (c.scope-spaces.ensures.seen c.args.config.now true) (c.in_err-initial.ensures.none empty))

pub returns-in_err-initial-clause-refusal : goal.returns-in_err-initial-clause-refusal
returns-in_err-initial-clause-refusal c =
    passed_on _ c.from_residual.result c.in_err-initial.field-0.0 c.from_residual.ensures.1
    (refused_beside c.args.config.now c.args.types.now.types (spaces_in c.args.spaces.now) c.args.definitions.now c.scope-spaces.result true
    c.args.global.val_type _ (c.scope-spaces.ensures.seen c.args.config.now true) c.in_err-initial.ensures.refusal)

pub returns-clause-exact : goal.returns-clause-exact
returns-clause-exact c =
    answered _ c.push.result _ c.push.ensures.memory (IfOk-weaker c.push.result _ _
    (λ done longer. global_made c.args.config.now c.args.types.now.types (spaces_in c.args.spaces.now) c.args.definitions.now _ c.args.u.now
    c.args.global (c.scope-spaces.ensures.seen c.args.config.now true) _ _ _ _ c.len-index.ensures longer c.in_ok-initial.ensures.exact)
    c.push.ensures.ok)

pub draw_const_expr-requires-clause-kept : goal.draw_const_expr-requires-clause-kept
draw_const_expr-requires-clause-kept c = subst (λ (context : Context). AreKeptOffers context c.args.kept.now)
    (sym (c.scope-spaces.ensures.seen c.args.config.now true)) c.requires.kept

pub returns-clause-kept : goal.returns-clause-kept
returns-clause-kept c =
    on_ok_weaker c.push.result (λ longer. subst (λ (context : Context). AreKeptOffers context c.draw_const_expr.new.kept)
    (c.scope-spaces.ensures.seen c.args.config.now true) c.in_ok-initial.ensures.kept) c.push.ensures.ok
