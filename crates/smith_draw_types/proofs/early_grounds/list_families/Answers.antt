use Rattle.smith_draw_types.proofs.early_grounds.list_families.Goals as goal

pub returns-in_ok-of-in-Some-clause-listed : goal.returns-in_ok-of-in-Some-clause-listed
returns-in_ok-of-in-Some-clause-listed c = λ context same recorded.
    let right = rw c.in-Some.is at recorded in
    (c.in-Some.grounds, right, c.in_ok-of-in-Some.ensures.listed context same right)
