use Rattle.smith_draw_contents.proofs.Common.{spaces_in}
use Rattle.smith_draw_contents.proofs.CandidateLemmas.{chosen_offered}
use Rattle.smith_draw_contents.proofs.export_kinds.choose_export_kind.Goals as goal

pub returns-clause-offered : goal.returns-clause-offered
returns-clause-offered c =
    chosen_offered c.args.types.now.types (spaces_in c.args.spaces.now) c.args.left _ _ _ c.requires.some
    (rw c.candidate_rows.ensures at c.choose_enabled.ensures.exact)
