use Rattle.std.proofs.lemmas.List.Elements.{All-nil}
use Rattle.smith_body_control.proofs.Common.{context_of, IsCatch}
use Rattle.smith_body_control.specs.TryChoices.{clauses_at}
use Rattle.smith_body_nodes.proofs.RepeatLemmas.{no_turn}
use Rattle.smith_body_control.proofs.TryLemmas.{clause_added, clauses_all, clauses_by, clauses_more}
use Rattle.smith_body_control.proofs.try_tables.draw_clauses.Goals as goal

pub loop-init : goal.loop-init
loop-init c = record {
  drawn = rw c.new-clauses.ensures (no_turn (clauses_at (context_of c.args.scope.now c.args.labels.now)) c.int_in_range-count.result
      c.int_in_range-count.new.self);
  all = rw c.new-clauses.ensures (All-nil (IsCatch (context_of c.args.scope.now c.args.labels.now)));
  kept = λ whole h. c.int_in_range-count.ensures.left whole h;
}

pub loop-preserved : goal.loop-preserved
loop-preserved c =
    let context = context_of c.args.scope.now c.args.labels.now in
    record {
      drawn = rw c.in_ok-add_clause.ensures.added (clauses_more context _ c.loop.counter _ c.loop.u _ c.loop.clauses c.in_ok-clause.clause
          c.loop-test.true c.in_ok-clause.ensures.exact c.loop.invariant.drawn);
      all = rw c.in_ok-add_clause.ensures.added (clause_added context c.loop.clauses c.in_ok-clause.clause c.loop.invariant.all
          c.in_ok-clause.ensures.fits);
      kept = λ whole h. c.choose_clause.ensures.left whole (c.loop.invariant.kept whole h);
    }

pub returns-clause-exact : goal.returns-clause-exact
returns-clause-exact c =
    let context = context_of c.args.scope.now c.args.labels.now in
    clauses_by context c.args.u.now _ _ c.int_in_range-count.result c.loop.clauses
    (rw (c.new.ensures.start, c.new.ensures.end) at c.int_in_range-count.ensures.exact)
    (clauses_all context c.int_in_range-count.result c.loop.counter _ c.loop.u c.loop.clauses c.loop-test.false c.loop.invariant.drawn)
