use Rattle.smith_validity.proofs.valid_entities.are_funcs_valid.Goals as goal

pub returns : goal.returns
returns c = (λ yes. record { each = c.all_hold.ensures.0 yes }, λ h. c.all_hold.ensures.1 h.each)
