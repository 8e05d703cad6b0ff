use Rattle.smith_draw_types.proofs.matching.count_grounded.Goals as goal

pub count_in_family-requires : goal.count_in_family-requires
count_in_family-requires c = rw c.in-Some.is at c.grounded_direct.ensures

pub returns-in-Some : goal.returns-in-Some
returns-in-Some c = rw c.in-Concrete.is c.count_in_family.ensures
