use Rattle.smith_spell.proofs.Common.{drop, length, slice_get, ◌++◌, ◌<◌, ◌≡◌}
use Rattle.smith_spell.proofs.MemberLemmas.{all_types}
use Rattle.smith_spell.proofs.earlier.Earlier.is_ground_at.Given as goal

abbrev pub invariant-loop-group : goal.invariant-loop-group
invariant-loop-group l = record {
  inside : l.place < length (all_types (drop l.group-index l.group-items) ++ l.self-inside.group.now);
  same : slice_get (all_types (drop l.group-index l.group-items) ++ l.self-inside.group.now) l.place ≡ slice_get l.self l.index;
}
