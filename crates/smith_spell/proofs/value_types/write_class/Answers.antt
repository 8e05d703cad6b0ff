use Rattle.smith_spell.proofs.Common.{enabled, on_ok_weaker}
use Rattle.smith_draw_types.specs.ValueTypes.{value_classes}
use Rattle.smith_draw_types.specs.Spelling.{class_of}
use Rattle.smith_spell.proofs.WrittenTypeLemmas.{place_within, place_written}
use Rattle.smith_spell.proofs.value_types.write_class.Goals as goal

pub write_number-requires : goal.write_number-requires
write_number-requires c =
    rw c.count_classes.ensures (place_within (enabled (value_classes c.args.config.now)) c.class_place.result (class_of c.args.value)
    (c.class_place.ensures c.requires.types c.requires.holds))

pub returns-clause-writes : goal.returns-clause-writes
returns-clause-writes c =
    on_ok_weaker c.write_number.result (place_written {items = enabled (value_classes c.args.config.now)} c.class_place.result
    (c.class_place.ensures c.requires.types c.requires.holds)) (rw c.count_classes.ensures at c.write_number.ensures.writes)
