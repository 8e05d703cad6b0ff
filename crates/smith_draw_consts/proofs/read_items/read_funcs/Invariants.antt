use Rattle.smith_draw_consts.proofs.Common.{Bool, function_reference, length, List, Some, SubType, ValType, ◌≡◌}
use Rattle.smith_draw_consts.specs.ConstScopes.{context_of}
use Rattle.smith_draw_consts.specs.KeptOffers.{AreClasses, AreFlags}
use Rattle.smith_draw_consts.proofs.read_items.read_funcs.Given as goal

abbrev pub invariant-loop-index : goal.invariant-loop-index
invariant-loop-index l = record {
  read : AreClasses (context_of l.scope).types (λ function index. Some (function_reference (context_of l.scope) function index))
      (context_of l.scope).funcs l.classes;
  flags : (types : List SubType) (wanted : ValType) (flags : List Bool) → AreFlags types wanted l.fn.classes.kinds flags
      → AreFlags types wanted l.classes.kinds flags;
  here : length l.classes.of ≡ l.index;
}
