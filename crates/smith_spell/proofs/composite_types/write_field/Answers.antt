use Rattle.smith_spell.proofs.Common.{on_ok_weaker}
use Rattle.smith_spell.proofs.WrittenCompositeLemmas.{field_written}
use Rattle.smith_spell.proofs.composite_types.write_field.Goals as goal

pub returns-clause-writes : goal.returns-clause-writes
returns-clause-writes c =
    on_ok_weaker c.write_bool.result (field_written c.args.config.now c.args.limit c.args.field c.in_ok-write_storage.ensures.writes)
    c.write_bool.ensures.writes
