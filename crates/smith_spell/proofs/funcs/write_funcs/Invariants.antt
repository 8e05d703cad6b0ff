use Rattle.smith_spell.proofs.Common.{drop, func_types, Listed, SpellsFuncs, SpellsPlace, ◌-◌}
use Rattle.smith_spell.proofs.WritingLoop.{Leads}
use Rattle.smith_spell.proofs.funcs.write_funcs.Given as goal

abbrev pub invariant-loop-func : goal.invariant-loop-func
invariant-loop-func l = Leads (Listed (SpellsPlace (func_types l.types)) (l.config.max_funcs - l.func-index) (drop l.func-index l.funcs))
    (SpellsFuncs l.config l.types l.funcs) l.fn.bytes l.bytes
