use Rattle.std.proofs.Common.{rules}
use Rattle.smith_types.specs.Syntax.FeatureBits.{features_in}
use Rattle.smith_check_types.proofs.CheckLemmas.{same_groups, few_types, none_valid, decided}
use Rattle.smith_check_types.proofs.check.check_types.Goals as goal

pub type_space_of-requires : goal.type_space_of-requires
type_space_of-requires c =
    record {
      few = few_types c.args.groups.now _ _ (same_groups _ _ _ _ _ c.in_ok-indices.ensures.canonical c.as_slice-places.ensures
          c.in_ok-canonical.ensures.ok c.as_slice.ensures) c.requires.few;
    }

pub returns-then-not-are_groups_in_scope-clause-decided : goal.returns-then-not-are_groups_in_scope-clause-decided
returns-then-not-are_groups_in_scope-clause-decided c =
    λ valid. let yes = c.are_groups_in_scope.ensures.1 valid.scope in let no = c.if-not-are_groups_in_scope.true in search rules

pub returns-in-None-clause-decided : goal.returns-in-None-clause-decided
returns-in-None-clause-decided c =
    none_valid (features_in c.args.features) c.args.groups.now _ _
    (same_groups _ _ _ _ _ c.in_ok-indices.ensures.canonical c.as_slice-places.ensures c.in_ok-canonical.ensures.ok c.as_slice.ensures)
    (rw c.in-None.is at c.in_ok-made.ensures.found)

pub returns-in-Some-clause-decided : goal.returns-in-Some-clause-decided
returns-in-Some-clause-decided c =
    decided (features_in c.args.features) c.args.groups.now _ _ _ _
    (same_groups _ _ _ _ _ c.in_ok-indices.ensures.canonical c.as_slice-places.ensures c.in_ok-canonical.ensures.ok c.as_slice.ensures)
    (let yes = c.if-not-are_groups_in_scope.false in c.are_groups_in_scope.ensures.0 (search rules))
    (rw c.in-Some.is at c.in_ok-made.ensures.found) c.checked_space.ensures
