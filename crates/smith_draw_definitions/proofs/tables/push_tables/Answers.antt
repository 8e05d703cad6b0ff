use Rattle.smith_draw_definitions.proofs.Common.{refused_with}
use Rattle.smith_draw_definitions.specs.Defined.{scope_of_spaces}
use Rattle.smith_draw_definitions.specs.Definitions.{Table}
use Rattle.smith_draw_definitions.proofs.DefinedTablesLoop.{tables_start, tables_go, tables_refused, tables_stop, tables_full}
use Rattle.smith_draw_definitions.proofs.tables.push_tables.Goals as goal

pub loop-made-init : goal.loop-made-init
loop-made-init c = record {
  defining = tables_start c.args.config.now (scope_of_spaces c.args.spaces.now) c.args.tables.now c.args.initials.now c.args.u.now;
  kept = c.requires.kept;
}

pub returns-then-not-goes_on-clause-exact : goal.returns-then-not-goes_on-clause-exact
returns-then-not-goes_on-clause-exact c =
    let count = c.len-before.ensures in
    tables_stop c.loop-made.invariant.defining (rw (c.saturating_sub-most.ensures, count) at c.loop-made-test.true)
    (rw (c.saturating_sub-least.ensures, count) at c.goes_on.ensures.exact) c.if-not-goes_on.true

pub loop-made-preserved : goal.loop-made-preserved
loop-made-preserved c =
    let count = c.len-before.ensures in
    record {
      defining =
          tables_go c.loop-made.invariant.defining (rw (c.saturating_sub-most.ensures, count) at c.loop-made-test.true)
          (rw (c.saturating_sub-least.ensures, count) at c.goes_on.ensures.exact) c.if-not-goes_on.false
          c.in_ok-table.ensures.exact c.in_ok-table.ensures.fit c.in_ok-push.ensures.ok c.in_ok-push-2.ensures.ok c.goes_on.ensures.left
          c.in_ok-table.ensures.left;
      kept = c.in_ok-table.ensures.kept;
    }

pub returns-clause-exact : goal.returns-clause-exact
returns-clause-exact c =
    let count = c.len-before.ensures in
    tables_full c.loop-made.invariant.defining (rw (c.saturating_sub-most.ensures, count) at c.loop-made-test.false)
    (rw count at c.discard_past_maximum.ensures.exact)

pub returns-in_err-push-clause-left : goal.returns-in_err-push-clause-left
returns-in_err-push-clause-left c = λ whole is. c.in_ok-table.ensures.left whole
    (c.goes_on.ensures.left whole (c.loop-made.invariant.defining.defining.trying.left whole is))

pub returns-in_err-table-clause-exact : goal.returns-in_err-table-clause-exact
returns-in_err-table-clause-exact c =
    let count = c.len-before.ensures in
    refused_with {X = Table} (λ drawn. (drawn, c.draw_initialised_table.new.u)) _ c.in_err-table.field-0.0 _ _ c.from_residual.result
    c.in_err-table.ensures.exact
    (λ refused. tables_refused c.loop-made.invariant.defining (rw (c.saturating_sub-most.ensures, count) at c.loop-made-test.true)
    (rw (c.saturating_sub-least.ensures, count) at c.goes_on.ensures.exact) c.if-not-goes_on.false refused)
    c.from_residual.ensures.1
