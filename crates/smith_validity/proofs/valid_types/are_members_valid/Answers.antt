use Rattle.std.proofs.Common.{arith, rules, refl}
use Rattle.smith_validity.proofs.GroupTestLemmas.{members_turn, member_valid}
use Rattle.smith_validity.proofs.valid_types.are_members_valid.Goals as goal

pub returns-then-not-is_type_valid : goal.returns-then-not-is_type_valid
returns-then-not-is_type_valid c = (
  λ no. cc,
  λ valid.
      let yes = c.is_type_valid.ensures.1 (member_valid _ _ _ _ _ _ (omega arith) (rw c.types-types.ensures.value at c.index-types-i.is)
      (omega arith) (omega arith) valid) in
      let no = c.if-not-is_type_valid.true in search rules,
)

pub loop-i-preserved : goal.loop-i-preserved
loop-i-preserved c = members_turn _ _ _ _ _ _ (omega arith) (rw c.types-types.ensures.value at c.index-types-i.is) c.loop-i.invariant
    (c.is_type_valid.ensures.0 c.if-not-is_type_valid.false)

pub returns : goal.returns
returns c = (λ _. record { each = λ i t low high at. c.loop-i.invariant i t low (omega arith) at }, λ _. refl)
