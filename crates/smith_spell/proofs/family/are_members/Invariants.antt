use Rattle.smith_spell.proofs.Common.{[], drop, take, ◌↔◌}
use Rattle.smith_spell.specs.Decided.{AreMembersAfter, IsKnown}
use Rattle.smith_spell.proofs.MemberLemmas.{all_types}
use Rattle.smith_spell.proofs.family.are_members.Given as goal

abbrev pub invariant-loop-place : goal.invariant-loop-place
invariant-loop-place l = record {
  known : IsKnown (all_types (take l.place l.groups)) l.known;
  same : AreMembersAfter l.config (all_types (take l.place l.groups)) (all_types (drop l.place l.groups)) ↔ AreMembersAfter l.config []
      (all_types l.groups);
}
