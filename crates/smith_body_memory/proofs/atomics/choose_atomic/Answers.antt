use Rattle.smith_body_memory.proofs.Common.{arith, length, None, Some, where_stands, ◌<◌}
use Rattle.smith_instr.specs.declared.atomic.AtomicAccess.TheVariants as atomic
use Rattle.smith_body_memory.proofs.AtomicNodeLemmas.{atomic_row}
use Rattle.smith_body_memory.proofs.AtomicChoiceLemmas.{atomic_none, atomic_drawn}
use Rattle.smith_body_memory.proofs.atomics.choose_atomic.Goals as goal

pub returns-clause-offer : goal.returns-clause-offer
returns-clause-offer c =
    let inside : c.int_in_range.result < length c.atomic_rows-rows.result.now =
    omega (arith, c.int_in_range.ensures.within, c.new.ensures.end, c.if-rows-eq0.false) in
    rw c.in_ok-node.ensures.exact
    (atomic_row (where_stands c.args.scope.now c.args.draft.now) c.args.draft.now.set.items c.atomic_rows-rows.result.now
    c.int_in_range.result _ c.args.wanted c.in-Some.access c.atomic_rows-rows.ensures inside c.in-Some.ensures.access)

pub returns-then-rows-eq0-clause-exact : goal.returns-then-rows-eq0-clause-exact
returns-then-rows-eq0-clause-exact c = atomic_none c.args.scope.now.config.now (where_stands c.args.scope.now c.args.draft.now)
    c.args.wanted c.args.u.now c.atomic_rows-rows.result.now c.atomic_rows-rows.ensures (omega (arith, c.if-rows-eq0.true))

pub returns-in_default-clause-exact : goal.returns-in_default-clause-exact
returns-in_default-clause-exact c =
    let inside : c.int_in_range.result < length c.atomic_rows-rows.result.now =
    omega (arith, c.int_in_range.ensures.within, c.new.ensures.end, c.if-rows-eq0.false) in
    let drawn = rw (c.new.ensures.start, c.new.ensures.end) at c.int_in_range.ensures.exact in
    atomic_drawn c.args.scope.now.config.now (where_stands c.args.scope.now c.args.draft.now) c.args.wanted c.args.u.now _ _
    c.atomic_rows-rows.result.now c.int_in_range.result atomic.Notify None c.atomic_rows-rows.ensures drawn inside
    c.in_default.ensures.exact

pub returns-clause-exact : goal.returns-clause-exact
returns-clause-exact c =
    let inside : c.int_in_range.result < length c.atomic_rows-rows.result.now =
    omega (arith, c.int_in_range.ensures.within, c.new.ensures.end, c.if-rows-eq0.false) in
    let drawn = rw (c.new.ensures.start, c.new.ensures.end) at c.int_in_range.ensures.exact in
    rw c.in_ok-node.ensures.exact
    (atomic_drawn c.args.scope.now.config.now (where_stands c.args.scope.now c.args.draft.now) c.args.wanted c.args.u.now _ _
    c.atomic_rows-rows.result.now c.int_in_range.result _ (Some c.in-Some.access) c.atomic_rows-rows.ensures drawn inside
    c.in-Some.ensures.exact)
