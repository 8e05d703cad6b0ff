use Rattle.smith_spell.proofs.Common.{drop, Listed, SpellsValType, ◌-◌}
use Rattle.smith_spell.proofs.WritingLoop.{Leads}
use Rattle.smith_spell.proofs.value_types.write_val_types.Given as goal

abbrev pub invariant-loop-value : goal.invariant-loop-value
invariant-loop-value l = Leads (Listed (SpellsValType l.config l.limit) (l.most - l.value-index) (drop l.value-index l.values))
    (Listed (SpellsValType l.config l.limit) l.most l.values) l.fn.bytes l.bytes
