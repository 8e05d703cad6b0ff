use Rattle.smith_draw_types.proofs.Common.{take}
use Rattle.smith_draw_types.specs.Grounding.{over}
use Rattle.smith_draw_types.proofs.EarlyGroundLemmas.{by_early}
use Rattle.smith_draw_types.proofs.reference_scope.ReferenceScope.is_recorded.Goals as goal

pub returns : goal.returns
returns c =
    let first = over c.args.self.now (take c.requires.kept.count c.args.self.now.types) in
    by_early c.args.self.now c.requires.orderly c.args.kept.now c.requires.kept c.args.ty c.are_grounding.result c.requires.stands
    (c.are_grounding.ensures.decided first c.requires.kept.right)
    (c.are_grounding.ensures.within first c.requires.kept.right)
