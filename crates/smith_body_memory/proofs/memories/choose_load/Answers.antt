use Rattle.smith_body_memory.proofs.Common.{arith, length, where_stands, ◌<◌}
use Rattle.smith_body_memory.proofs.MemoryNodeLemmas.{load_row}
use Rattle.smith_body_memory.proofs.MemoryChoiceLemmas.{load_none, load_without, load_there}
use Rattle.smith_body_memory.proofs.memories.choose_load.Goals as goal

pub returns-clause-offer : goal.returns-clause-offer
returns-clause-offer c =
    let inside : c.int_in_range.result < length c.loads_of-rows.result.now = omega (
      arith,
      c.int_in_range.ensures.within,
      c.new.ensures.end,
      c.if-rows-eq0.false,
    ) in
    let aligned = rw c.log2_bytes.ensures at c.in-Some.ensures.aligned in
    rw (c.in_ok-node.ensures.exact, c.address.ensures)
    (load_row c.loads_of-rows.result.now c.int_in_range.result _ c.args.wanted c.loads_of-rows.ensures inside
    (where_stands c.args.scope.now c.args.draft.now) c.args.draft.now.set.items
    c.in-Some.access.at c.in-Some.access.wide c.requires.wanted c.in-Some.ensures.access aligned)

pub returns-then-rows-eq0-clause-exact : goal.returns-then-rows-eq0-clause-exact
returns-then-rows-eq0-clause-exact c = load_none c.args.scope.now.config.now (where_stands c.args.scope.now c.args.draft.now) c.args.wanted
    c.args.u.now c.loads_of-rows.result.now c.loads_of-rows.ensures (omega (arith, c.if-rows-eq0.true))

pub returns-in_default-clause-exact : goal.returns-in_default-clause-exact
returns-in_default-clause-exact c =
    let inside : c.int_in_range.result < length c.loads_of-rows.result.now = omega (
      arith,
      c.int_in_range.ensures.within,
      c.new.ensures.end,
      c.if-rows-eq0.false,
    ) in
    let drawn = rw (c.new.ensures.start, c.new.ensures.end) at c.int_in_range.ensures.exact in
    let at = rw c.log2_bytes.ensures at c.in_default.ensures.exact in
    load_without c.args.scope.now.config.now (where_stands c.args.scope.now c.args.draft.now) c.args.wanted c.args.u.now _ _
    c.loads_of-rows.result.now c.int_in_range.result _ c.loads_of-rows.ensures drawn inside at

pub returns-clause-exact : goal.returns-clause-exact
returns-clause-exact c =
    let inside : c.int_in_range.result < length c.loads_of-rows.result.now = omega (
      arith,
      c.int_in_range.ensures.within,
      c.new.ensures.end,
      c.if-rows-eq0.false,
    ) in
    let drawn = rw (c.new.ensures.start, c.new.ensures.end) at c.int_in_range.ensures.exact in
    let at = rw c.log2_bytes.ensures at c.in-Some.ensures.exact in
    rw (c.in_ok-node.ensures.exact, c.address.ensures)
    (load_there c.args.scope.now.config.now (where_stands c.args.scope.now c.args.draft.now) c.args.wanted c.args.u.now _ _
    c.loads_of-rows.result.now c.int_in_range.result _ c.in-Some.access c.loads_of-rows.ensures drawn inside at)
