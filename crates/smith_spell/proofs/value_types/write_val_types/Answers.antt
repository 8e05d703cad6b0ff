use Rattle.smith_spell.proofs.Common.{arith, length, on_ok_weaker, refl, SpellsValType, ◌-◌, ◌≡◌}
use Rattle.smith_spell.proofs.WritingLoop.{leads_listed, listed_written}
use Rattle.smith_spell.proofs.value_types.write_val_types.Goals as goal

pub loop-value-preserved : goal.loop-value-preserved
loop-value-preserved c =
    leads_listed (SpellsValType c.args.config.now c.args.limit) c.args.most c.loop-value.value-index c.args.values.now _ _
    c.loop-value-test.true c.requires.few refl c.loop-value.invariant
    c.in_ok-write_bool.ensures.writes c.in_ok-write_val_type.ensures.writes

pub returns-clause-writes : goal.returns-clause-writes
returns-clause-writes c =
    let values = c.args.values.now in
    let left : c.args.most - length values ≡ c.args.most - c.loop-value.value-index =
    omega (arith, c.loop-value-test.false, c.loop-value.auto.value-index-end) in
    on_ok_weaker c.write_end.result
    (listed_written (SpellsValType c.args.config.now c.args.limit) c.args.most c.loop-value.value-index (c.args.most - length values) values
    c.loop-value-test.false left c.loop-value.invariant)
    c.write_end.ensures.writes
