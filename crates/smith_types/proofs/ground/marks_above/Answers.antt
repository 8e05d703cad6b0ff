use Rattle.smith_types.proofs.Common.{false, get_or, refl, same_Some, subst, sym, true, ◌∙◌, ◌≡◌}
use Rattle.smith_types.specs.declared.ground.Ground.{Ground}
use Rattle.smith_types.specs.Grounds.{below_at}
use Rattle.smith_types.proofs.MarkLemmas.{said_is, not_off}
use Rattle.smith_types.proofs.ground.marks_above.Goals as goal

pub returns-then-own : goal.returns-then-own
returns-then-own c = λ off on s is.
    let grounds = c.args.grounds.now in
    let same = same_Some c.in-Some.index s (sym c.in-Some.is ∙ is) in
    let inside = c.requires.stands c.in-Some.index c.in-Some.is in
    let d : Ground = record { own = false; below = false } in
    subst (λ m. below_at grounds m ≡ true) same (said_is (λ (ground : Ground). ground.below) grounds c.in-Some.index
    (get_or grounds c.in-Some.index d) d inside refl ∙ not_off (get_or grounds c.in-Some.index d).below off)
