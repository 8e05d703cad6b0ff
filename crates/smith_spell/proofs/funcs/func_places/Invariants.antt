use Rattle.smith_spell.proofs.Common.{drop, ◌++◌, ◌≡◌, ◌≤◌}
use Rattle.smith_draw_types.specs.TypeUses.{may_be_used}
use Rattle.smith_draw_types.specs.declared.type_use.TypeUse.TheVariants.{DefinedFunc}
use Rattle.smith_spell.proofs.FuncPlaceLemmas.{counts_from}
use Rattle.smith_spell.proofs.funcs.func_places.Given as goal

abbrev pub invariant-loop-t : goal.invariant-loop-t
invariant-loop-t l = record {
  few : l.count ≤ l.t-index;
  so_far : l.places ++ counts_from (may_be_used DefinedFunc) l.count (drop l.t-index l.types) ≡ counts_from (may_be_used DefinedFunc) 0
      l.types;
}
