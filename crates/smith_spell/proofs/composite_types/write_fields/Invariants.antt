use Rattle.smith_spell.proofs.Common.{drop, Each, SpellsField}
use Rattle.smith_spell.proofs.WritingLoop.{Leads}
use Rattle.smith_spell.proofs.composite_types.write_fields.Given as goal

abbrev pub invariant-loop-field : goal.invariant-loop-field
invariant-loop-field l = Leads (Each (SpellsField l.config l.limit) (drop l.field-index l.fields))
    (Each (SpellsField l.config l.limit) l.fields) l.fn.bytes l.bytes
