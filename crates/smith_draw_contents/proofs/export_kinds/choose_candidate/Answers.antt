use Rattle.smith_draw_contents.proofs.Common.{arith, spaces_in}
use Rattle.smith_draw_contents.proofs.CandidateLemmas.{candidates_fit}
use Rattle.smith_draw_contents.proofs.export_kinds.choose_candidate.Goals as goal

pub returns-clause-candidate : goal.returns-clause-candidate
returns-clause-candidate c =
    rw c.candidate_at.ensures
    (candidates_fit c.args.types.now.types (spaces_in c.args.spaces.now) c.args.left c.args.kind c.int_in_range-place.result 0
    (omega (arith, c.requires.some, c.int_in_range-place.ensures.within, c.count_candidates-last.ensures)))
