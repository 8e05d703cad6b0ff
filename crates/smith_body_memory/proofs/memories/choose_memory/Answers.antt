use Rattle.smith_body_memory.proofs.Common.{ok_like, where_stands}
use Rattle.smith_body_memory.proofs.MemoryChoiceLemmas.{memory_none, memory_there}
use Rattle.smith_body_memory.proofs.memories.choose_memory.Goals as goal

pub returns-in_default-clause-exact : goal.returns-in_default-clause-exact
returns-in_default-clause-exact c = memory_none (where_stands c.args.scope.now c.args.draft.now) c.args.wanted c.args.u.now _
    c.in_default.ensures.exact

pub returns-then-arbitrary-clause-exact : goal.returns-then-arbitrary-clause-exact
returns-then-arbitrary-clause-exact c =
    ok_like _ c.choose_growth.result (memory_there (where_stands c.args.scope.now c.args.draft.now) c.args.wanted c.args.u.now _ _
    c.in-Some.index _ c.in-Some.ensures.exact (rw c.if-arbitrary.true at c.arbitrary.ensures.exact)) c.choose_growth.ensures.exact

pub returns-clause-exact : goal.returns-clause-exact
returns-clause-exact c =
    ok_like _ c.choose_size.result (memory_there (where_stands c.args.scope.now c.args.draft.now) c.args.wanted c.args.u.now _ _
    c.in-Some.index _ c.in-Some.ensures.exact (rw c.if-arbitrary.false at c.arbitrary.ensures.exact)) c.choose_size.ensures.exact
