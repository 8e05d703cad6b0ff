use Rattle.smith_body.proofs.Common.{arith, refl}
use Rattle.smith_body.proofs.DrawnLemmas.{drawn_none, drawn_within}
use Rattle.smith_body.proofs.repeats.write_count.Goals as goal

pub returns-in-Counted-clause-exact : goal.returns-in-Counted-clause-exact
returns-in-Counted-clause-exact c = λ scope bytes. rw c.in-Counted.is (c.write_start.ensures.exact scope bytes)

pub returns-in-Counted-clause-drawn : goal.returns-in-Counted-clause-drawn
returns-in-Counted-clause-drawn c = λ scope counts. c.write_start.ensures.drawn scope (rw c.in-Counted.is at counts)

pub returns-in-Tested-clause-exact : goal.returns-in-Tested-clause-exact
returns-in-Tested-clause-exact c = λ scope bytes. rw c.in-Tested.is refl

pub returns-in-Tested-clause-drawn : goal.returns-in-Tested-clause-drawn
returns-in-Tested-clause-drawn c = λ scope counts. drawn_within (omega arith) (drawn_none scope c.args.draft.now)
