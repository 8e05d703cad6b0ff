use Rattle.smith_spell.proofs.Common.{drop, List, SpellsSubTypes, SubType, take, ◌++◌, ◌+◌, ◌≡◌}
use Rattle.smith_spell.specs.Written.{IsSummary}
use Rattle.smith_spell.proofs.WritingLoop.{Leads}
use Rattle.smith_spell.proofs.sub_types.write_sub_types.Given as goal

abbrev pub invariant-loop-t : goal.invariant-loop-t
invariant-loop-t l = record {
  counted : l.before.count ≡ l.fn.before.count + l.t-index;
  summary : (others : List SubType) → IsSummary others l.fn.before → IsSummary (others ++ take l.t-index l.types) l.before;
  leads : (others : List SubType) → IsSummary others l.fn.before
      → Leads (SpellsSubTypes l.config (others ++ take l.t-index l.types) l.limit (drop l.t-index l.types))
      (SpellsSubTypes l.config others l.limit l.types) l.fn.bytes l.bytes;
}
