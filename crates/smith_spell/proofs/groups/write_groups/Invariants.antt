use Rattle.smith_spell.proofs.Common.{[], drop, false, space_of, SpellsGroups, take}
use Rattle.smith_spell.specs.Written.{IsSummary}
use Rattle.smith_spell.proofs.WritingLoop.{Leads}
use Rattle.smith_spell.proofs.groups.write_groups.Given as goal

abbrev pub invariant-loop-group : goal.invariant-loop-group
invariant-loop-group l = record {
  summary : IsSummary (space_of (take l.group-index l.groups)).types l.before;
  leads : Leads (SpellsGroups l.config (space_of (take l.group-index l.groups)).types l.stands (drop l.group-index l.groups))
      (SpellsGroups l.config [] false l.groups) l.fn.bytes l.bytes;
}
