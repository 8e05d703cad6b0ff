use Rattle.smith_draw_consts.proofs.Common.{Bool, length, List, SubType, ValType, ◌≡◌}
use Rattle.smith_draw_consts.specs.ConstScopes.{context_of}
use Rattle.smith_draw_consts.specs.KeptOffers.{AreClasses, AreFlags, readable}
use Rattle.smith_draw_consts.proofs.read_items.read_globals.Given as goal

abbrev pub invariant-loop-index : goal.invariant-loop-index
invariant-loop-index l = record {
  read : AreClasses (context_of l.scope).types (λ index global. readable global) (context_of l.scope).globals l.classes;
  flags : (types : List SubType) (wanted : ValType) (flags : List Bool) → AreFlags types wanted l.fn.classes.kinds flags
      → AreFlags types wanted l.classes.kinds flags;
  here : length l.classes.of ≡ l.index;
}
