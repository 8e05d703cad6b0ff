use Rattle.smith_spell.proofs.Common.{abstract_heap_types, enabled, on_ok_weaker}
use Rattle.smith_spell.proofs.WrittenTypeLemmas.{place_within, place_written}
use Rattle.smith_spell.proofs.value_types.write_abstract.Goals as goal

pub write_number-requires : goal.write_number-requires
write_number-requires c =
    rw c.count_abstract.ensures (place_within (enabled (abstract_heap_types c.args.config.now)) c.abstract_place.result c.args.ty
    (c.abstract_place.ensures c.requires))

pub returns-clause-writes : goal.returns-clause-writes
returns-clause-writes c =
    on_ok_weaker c.write_number.result (place_written {items = enabled (abstract_heap_types c.args.config.now)} c.abstract_place.result
    (c.abstract_place.ensures c.requires)) (rw c.count_abstract.ensures at c.write_number.ensures.writes)
