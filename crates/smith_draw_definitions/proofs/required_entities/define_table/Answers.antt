use Rattle.smith_draw_definitions.proofs.Common.{AreKeptOffers, Context, false, IfOk-weaker, on_ok_weaker, passed_on, Ref, spaces_in}
use Rattle.smith_draw_definitions.proofs.Common.{standing_in, subst, sym}
use Rattle.smith_draw_definitions.proofs.RequiredEntityLemmas.{answered, refused_initial, refused_beside, table_lacking, table_made}
use Rattle.smith_draw_definitions.proofs.required_entities.define_table.Goals as goal

pub returns-in_err-initial-clause-exact : goal.returns-in_err-initial-clause-exact
returns-in_err-initial-clause-exact c =
    refused_initial _ c.from_residual.result c.args.config.now (standing_in c.args.config.now c.scope-spaces.result)
    (Ref c.args.table.element_type) c.in_err-initial.field-0.0 _ c.from_residual.ensures.1 c.in_err-initial.ensures.refusal
    (λ empty. table_lacking c.args.config.now c.args.types.now.types (spaces_in c.args.spaces.now) c.args.definitions.now _ c.args.u.now
    c.args.table (c.scope-spaces.ensures.seen c.args.config.now false) (c.in_err-initial.ensures.none empty))

pub returns-in_err-initial-clause-refusal : goal.returns-in_err-initial-clause-refusal
returns-in_err-initial-clause-refusal c =
    passed_on _ c.from_residual.result c.in_err-initial.field-0.0 c.from_residual.ensures.1
    (refused_beside c.args.config.now c.args.types.now.types (spaces_in c.args.spaces.now) c.args.definitions.now c.scope-spaces.result
    false (Ref c.args.table.element_type) _ (c.scope-spaces.ensures.seen c.args.config.now false) c.in_err-initial.ensures.refusal)

pub returns-clause-exact : goal.returns-clause-exact
returns-clause-exact c =
    answered _ c.push.result _ c.push.ensures.memory (IfOk-weaker c.push.result _ _
    (λ done longer. table_made c.args.config.now c.args.types.now.types (spaces_in c.args.spaces.now) c.args.definitions.now _ c.args.u.now
    c.args.table (c.scope-spaces.ensures.seen c.args.config.now false) _ _ _ longer c.in_ok-initial.ensures.exact)
    c.push.ensures.ok)

pub draw_table_init-requires-clause-kept : goal.draw_table_init-requires-clause-kept
draw_table_init-requires-clause-kept c = subst (λ (context : Context). AreKeptOffers context c.args.kept.now)
    (sym (c.scope-spaces.ensures.seen c.args.config.now false)) c.requires.kept

pub returns-clause-kept : goal.returns-clause-kept
returns-clause-kept c =
    on_ok_weaker c.push.result (λ longer. subst (λ (context : Context). AreKeptOffers context c.draw_table_init.new.kept)
    (c.scope-spaces.ensures.seen c.args.config.now false) c.in_ok-initial.ensures.kept) c.push.ensures.ok
