use Rattle.smith_body.proofs.Common.{sym, where_stands, ◌∙◌}
use Rattle.smith_body.proofs.RepeatLemmas.{local_counts, way_counted, way_forbidden, way_none}
use Rattle.smith_body.proofs.repeats.draw_way.Goals as goal

pub returns-in_default-clause-exact : goal.returns-in_default-clause-exact
returns-in_default-clause-exact c =
    way_none c.args.scope.now.config.now (where_stands c.args.scope.now c.args.draft.now) c.args.u.now _ c.in_default.ensures.exact

pub returns-then-not-is_counting_allowed-clause-exact : goal.returns-then-not-is_counting_allowed-clause-exact
returns-then-not-is_counting_allowed-clause-exact c =
    way_forbidden c.args.scope.now.config.now (where_stands c.args.scope.now c.args.draft.now) c.args.u.now _ c.in-Some.local
    c.in-Some.ensures.exact (sym c.is_counting_allowed.ensures.exact ∙ c.if-not-is_counting_allowed.true)

pub returns-clause-exact : goal.returns-clause-exact
returns-clause-exact c =
    way_counted c.args.scope.now.config.now (where_stands c.args.scope.now c.args.draft.now) c.args.u.now _ _ c.in-Some.local
    c.draw_times-times.result c.in-Some.ensures.exact (sym c.is_counting_allowed.ensures.exact ∙ c.if-not-is_counting_allowed.false)
    c.draw_times-times.ensures.exact

pub returns-clause-counts : goal.returns-clause-counts
returns-clause-counts c = record {
  typed = local_counts c.args.scope.now c.in-Some.local c.requires.scope.orderly c.in-Some.ensures.offered;
  constant = c.is_counting_allowed.ensures.constant c.if-not-is_counting_allowed.false;
  variable = c.is_counting_allowed.ensures.variable c.if-not-is_counting_allowed.false;
}
