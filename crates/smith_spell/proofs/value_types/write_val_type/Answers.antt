use Rattle.smith_spell.proofs.Common.{on_ok_weaker}
use Rattle.smith_spell.proofs.WrittenTypeLemmas.{reference_written, number_written}
use Rattle.smith_spell.proofs.value_types.write_val_type.Goals as goal

pub returns-in-Ref-clause-writes : goal.returns-in-Ref-clause-writes
returns-in-Ref-clause-writes c =
    let class = rw c.in-Ref.is at c.in_ok-write_class.ensures.writes in
    rw c.in-Ref.is (on_ok_weaker c.write_ref_type.result (reference_written c.args.config.now c.args.limit c.in-Ref.reference class)
    c.write_ref_type.ensures.writes)

pub returns-in_default : goal.returns-in_default
returns-in_default c = record {
  writes = number_written c.args.config.now c.args.limit c.args.value c.in_default.not-Ref c.in_ok-write_class.ensures.writes;
  memory = tt;
}
