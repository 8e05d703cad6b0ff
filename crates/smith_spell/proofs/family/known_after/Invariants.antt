use Rattle.smith_spell.proofs.Common.{drop, take, ◌++◌, ◌↔◌}
use Rattle.smith_spell.specs.Decided.{AreMembersAfter, IsKnown}
use Rattle.smith_spell.proofs.MemberLemmas.{all_types}
use Rattle.smith_spell.proofs.family.known_after.Given as goal

abbrev pub invariant-loop-place : goal.invariant-loop-place
invariant-loop-place l = record {
  known : IsKnown (all_types l.groups ++ take l.place l.group) l.known;
  same : AreMembersAfter l.config (all_types l.groups ++ take l.place l.group) (drop l.place l.group) ↔ AreMembersAfter l.config
      (all_types l.groups) l.group;
}
