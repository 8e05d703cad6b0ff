use Rattle.smith_check.proofs.Common.{arith, features_in, IsTypeSectionValid, length, subst, sym, take, ℕ, ◌+◌}
use Rattle.std.proofs.Common.{take_all, ◌-◌, ◌/◌}
use Rattle.smith_check.proofs.GroupLemmas.{checked_valid, few_in_first, none_valid, some_groups}
use Rattle.smith_check.proofs.groups.first_wrong_group.Goals as goal
use Rattle.smith_check.proofs.groups.first_wrong_group.Goals.{in-Some, in-None}

pub loop-wrong-init : goal.loop-wrong-init
loop-wrong-init c = record {
  order = some_groups (features_in c.args.features) c.args.groups.now c.requires.wrong;
  inside = omega arith;
  right = none_valid (features_in c.args.features);
  refused = λ valid. c.requires.wrong
      (subst (IsTypeSectionValid (features_in c.args.features))
      (take_all (length c.args.groups.now) c.args.groups.now (omega arith)) valid);
}

pub check_types-requires : goal.check_types-requires
check_types-requires c = record {
  few =
      let less = few_in_first c.args.groups.now (c.loop-wrong.valid + (c.loop-wrong.wrong - c.loop-wrong.valid) / 2) in
      let few = c.requires.few in
      omega (arith, less, few);
}

pub loop-wrong-preserved-after-found : goal.loop-wrong-preserved-after-found
loop-wrong-preserved-after-found c =
    let features = features_in c.args.features in
    let groups = c.args.groups.now in
    let middle = c.loop-wrong.valid + (c.loop-wrong.wrong - c.loop-wrong.valid) / 2 in
    let test = c.loop-wrong-test.true in
    let inside = c.loop-wrong.invariant.inside in
    elim c.match-found.branch [
      | in-Some w ↦ record {
        order = let v = w.valid-is in let n = w.wrong-is in omega (arith, v, n, test);
        inside = let n = w.wrong-is in omega (arith, n, inside);
        right = subst (λ (k : ℕ). IsTypeSectionValid features (take k groups)) (sym w.valid-is)
            (checked_valid features (take middle groups) c.in_ok-found.found _ c.in_ok-found.ensures.decided w.in-Some.is);
        refused = subst (λ (k : ℕ). IsTypeSectionValid features (take k groups) → ⊥) (sym w.wrong-is) c.loop-wrong.invariant.refused;
      }
      | in-None w ↦ record {
        order = let v = w.valid-is in let n = w.wrong-is in omega (arith, v, n, test);
        inside = let n = w.wrong-is in omega (arith, n, inside, test);
        right = subst (λ (k : ℕ). IsTypeSectionValid features (take k groups)) (sym w.valid-is) c.loop-wrong.invariant.right;
        refused = subst (λ (k : ℕ). IsTypeSectionValid features (take k groups) → ⊥) (sym w.wrong-is)
            (rw w.in-None.is at c.in_ok-found.ensures.decided);
      }
    ]
