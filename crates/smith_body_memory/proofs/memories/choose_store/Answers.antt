use Rattle.smith_body_memory.proofs.Common.{ap, ok_by, where_stands}
use Rattle.smith_body_nodes.specs.Chosen.{or_nop, Chosen}
use Rattle.smith_body_memory.proofs.MemoryChoiceLemmas.{store_by}
use Rattle.smith_body_memory.proofs.memories.choose_store.Goals as goal

pub returns-clause-exact : goal.returns-clause-exact
returns-clause-exact c =
    let drawn = rw (c.new.ensures.start, c.new.ensures.end) at c.int_in_range.ensures.exact in
    ok_by c.store_of.result _ _ _
    (ap (λ (chosen : Chosen). or_nop chosen) (store_by c.args.scope.now.config.now (where_stands c.args.scope.now c.args.draft.now)
    c.args.u.now _ c.int_in_range.result c.stores-rows.result.now c.stores-rows.ensures drawn)) c.store_of.ensures.exact
