use Rattle.smith_body_control.proofs.Common.{where_stands}
use Rattle.smith_body_control.proofs.TryLemmas.{try_by, value_try}
use Rattle.smith_body_control.proofs.try_tables.choose_try.Goals as goal

pub returns-clause-exact : goal.returns-clause-exact
returns-clause-exact c =
    rw c.in_ok-node.ensures.exact (try_by (where_stands c.args.scope.now c.args.draft.now) c.args.wanted c.args.u.now _
    c.in_ok-clauses.clauses (rw c.as_slice.ensures.value at c.in_ok-clauses.ensures.exact))

pub returns-clause-offer : goal.returns-clause-offer
returns-clause-offer c =
    rw c.in_ok-node.ensures.exact (value_try (where_stands c.args.scope.now c.args.draft.now) c.args.draft.now.set.items
    c.in_ok-clauses.clauses c.args.wanted (rw c.as_slice.ensures.value at c.in_ok-clauses.ensures.fit) c.requires.wanted)
