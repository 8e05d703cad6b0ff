use Rattle.smith_spell.proofs.Common.{on_ok_weaker}
use Rattle.smith_spell.proofs.WrittenCompositeLemmas.{struct_written}
use Rattle.smith_spell.proofs.composite_types.write_struct_type.Goals as goal

pub returns-clause-writes : goal.returns-clause-writes
returns-clause-writes c =
    on_ok_weaker c.write_fields.result (struct_written c.args.config.now c.args.limit c.args.structure.now
    (rw c.len.ensures at c.in_ok-write_number.ensures.writes))
    (rw c.as_slice.ensures at c.write_fields.ensures.writes)
