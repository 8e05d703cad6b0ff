use Rattle.smith_spell.proofs.Common.{refl, SpellsField}
use Rattle.smith_spell.proofs.WritingLoop.{leads_each, each_written}
use Rattle.smith_spell.proofs.composite_types.write_fields.Goals as goal

pub loop-field-preserved : goal.loop-field-preserved
loop-field-preserved c =
    leads_each (SpellsField c.args.config.now c.args.limit) c.loop-field.field-index c.args.fields.now _ _ c.loop-field-test.true refl
    c.loop-field.invariant c.in_ok-write_field.ensures.writes

pub returns-clause-writes : goal.returns-clause-writes
returns-clause-writes c = each_written (SpellsField c.args.config.now c.args.limit) c.loop-field.field-index c.args.fields.now
    c.loop-field-test.false c.loop-field.invariant
