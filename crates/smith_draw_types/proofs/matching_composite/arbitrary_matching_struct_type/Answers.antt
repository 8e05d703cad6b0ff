use Rattle.smith_draw_types.proofs.MatchingCompositeLemmas.{matching_struct_match, matching_struct_valid, matching_struct_shareable}
use Rattle.smith_draw_types.proofs.DrawingLemmas.{of_drawn}
use Rattle.smith_draw_types.proofs.Common.{All, IsGranted, Struct, StructType, values_of}
use Rattle.smith_draw_types.specs.Grounding.{standing_in}
use Rattle.smith_draw_types.proofs.GrantedLemmas.{matching_struct_granted}
use Rattle.smith_draw_types.proofs.matching_composite.arbitrary_matching_struct_type.Goals as goal

pub returns-clause-below : goal.returns-clause-below
returns-clause-below c = of_drawn _ (rw (c.scope-standing.ensures, c.in_ok-call.ensures.exact) at c.draw_matching_struct_type-drawn.ensures)
    (matching_struct_match _ _ _ _ _ _)

pub returns-clause-valid : goal.returns-clause-valid
returns-clause-valid c =
    λ room sharing old. of_drawn _ (rw (c.scope-standing.ensures, c.in_ok-call.ensures.exact) at c.draw_matching_struct_type-drawn.ensures)
    (matching_struct_valid _ _ _ _ _ _ c.requires.sanitized c.requires.may_share room sharing old)

pub returns-clause-shared : goal.returns-clause-shared
returns-clause-shared c =
    λ must old. of_drawn _ (rw (c.scope-standing.ensures, c.in_ok-call.ensures.exact) at c.draw_matching_struct_type-drawn.ensures)
    (matching_struct_shareable _ _ _ _ _ _ c.requires.sanitized c.requires.may_share c.orderly.ensures must old)

pub returns-clause-granted : goal.returns-clause-granted
returns-clause-granted c = λ granted.
    let context = standing_in c.args.config.now c.args.spaces.now in
    of_drawn (λ (drawn : StructType). All (IsGranted c.args.config.now context) (values_of (Struct drawn)))
    (rw (c.scope-standing.ensures, c.in_ok-call.ensures.exact) at c.draw_matching_struct_type-drawn.ensures)
    (matching_struct_granted c.args.config.now context c.orderly.ensures c.args.must_share c.args.limit c.args.structure.now c.args.u.now
    granted)
