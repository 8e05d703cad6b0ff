use Rattle.smith_types.proofs.Common.{ap, rules}
use Rattle.smith_types.proofs.GroupsAddedLemmas.{not_following}
use Rattle.smith_types.proofs.grouped_types.push_members.Goals as goal

pub returns-then-not-may_follow-clause-added : goal.returns-then-not-may_follow-clause-added
returns-then-not-may_follow-clause-added c =
    not_following _ _ _ _ _ _ c.loop-ty-test.true c.ty-item.is (ap (λ s. s.types) c.loop-ty.invariant) c.requires.few
    (λ may. let yes = c.may_follow.ensures.1 may in let no = c.if-not-may_follow.true in search rules)
