use Rattle.smith_check.proofs.Common.{features_in, IsTypeSectionValid, length, take, ◌<◌, ◌≤◌}
use Rattle.std.proofs.Common.{◌-◌}
use Rattle.smith_check.proofs.groups.first_wrong_group.Given as goal

abbrev pub invariant-loop-wrong : goal.invariant-loop-wrong
invariant-loop-wrong l = record {
  order : l.valid < l.wrong;
  inside : l.wrong ≤ length l.groups;
  right : IsTypeSectionValid (features_in l.features) (take l.valid l.groups);
  refused : IsTypeSectionValid (features_in l.features) (take l.wrong l.groups) → ⊥;
}

abbrev pub decreases-loop-wrong : goal.decreases-loop-wrong
decreases-loop-wrong l = l.wrong - l.valid
