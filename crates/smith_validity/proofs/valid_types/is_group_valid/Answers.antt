use Rattle.smith_validity.proofs.valid_types.is_group_valid.Goals as goal

pub returns-then-are_members_valid : goal.returns-then-are_members_valid
returns-then-are_members_valid c = (
  λ yes. record { members = (c.are_members_valid.ensures.0 c.if-are_members_valid.true).each; single = c.is_size_enabled.ensures.0 yes },
  λ valid. c.is_size_enabled.ensures.1 valid.single,
)
