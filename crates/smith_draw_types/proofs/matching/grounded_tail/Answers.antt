use Rattle.smith_draw_types.proofs.Common.{ap, filter, length, ◌∙◌}
use Rattle.smith_draw_types.specs.Grounding.{is_grounded}
use Rattle.smith_draw_types.proofs.GroundedKindLemmas.{kinds_follow, abstracts_some, abstracts_few, abstracts_within}
use Rattle.smith_draw_types.proofs.matching.grounded_tail.Goals as goal

pub returns-in-Some : goal.returns-in-Some
returns-in-Some c = λ config.
    let types = c.args.standing.now.types in
    let shared = c.in-Abstract.shared in
    let ty = c.in-Abstract.ty in
    rw (c.abstract_subtypes.ensures, c.in-Abstract.is) (record {
      some = abstracts_some ty;
      few = abstracts_few ty;
      within = abstracts_within config types shared ty;
      rest = ap (filter (is_grounded c.args.standing.now)) (kinds_follow config types shared ty)
          ∙ (rw c.in-Some.is at c.grounded_of_kinds.ensures);
    })
