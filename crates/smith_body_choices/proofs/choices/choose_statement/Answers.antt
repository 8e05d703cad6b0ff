use Rattle.smith_body_choices.proofs.Common.{ok_by, sym, where_stands, ◌∙◌}
use Rattle.smith_body_choices.proofs.ChoiceLemmas.{chosen_once, chosen_twice}
use Rattle.smith_body_choices.proofs.choices.choose_statement.Goals as goal

pub returns-then-is_kept-clause-exact : goal.returns-then-is_kept-clause-exact
returns-then-is_kept-clause-exact c =
    let context = where_stands c.args.scope.now c.args.draft.now in
    let kept = sym c.is_kept.ensures ∙ c.if-is_kept.true in
    chosen_once c.args.scope.now.config.now context c.args.u.now _ _ c.in_ok-first.ensures.exact kept

pub returns-clause-exact : goal.returns-clause-exact
returns-clause-exact c =
    let context = where_stands c.args.scope.now c.args.draft.now in
    let refused = sym c.is_kept.ensures ∙ c.if-is_kept.false in
    ok_by c.choose_any_statement-2.result _ _ _
    (chosen_twice c.args.scope.now.config.now context c.args.u.now _ _ c.in_ok-first.ensures.exact refused)
    c.choose_any_statement-2.ensures.exact
