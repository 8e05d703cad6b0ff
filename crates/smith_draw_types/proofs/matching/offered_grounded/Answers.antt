use Rattle.smith_draw_types.proofs.matching.offered_grounded.Goals as goal

pub offered_in_family-requires : goal.offered_in_family-requires
offered_in_family-requires c = record { family = rw c.in-Some.is at c.grounded_direct.ensures; inside = rw c.in-Concrete.is at c.requires }

pub returns-in-Some : goal.returns-in-Some
returns-in-Some c = rw c.in-Concrete.is c.offered_in_family.ensures
