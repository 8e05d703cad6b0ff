use Rattle.smith_draw_contents.proofs.OfferedKindLemmas.{unnamed_found, named_found}
use Rattle.smith_draw_contents.proofs.offered_kinds.OfferedKinds.at.Goals as goal

pub returns-then-place-kept-2 : goal.returns-then-place-kept-2
returns-then-place-kept-2 c =
    let now = c.self.inside in
    rw (← c.self.view_is) (unnamed_found now.config.now now.tables.now now.offered.offered _ _ c.args.place c.count_kept-kept.ensures.kinds
    c.count_unnamed-unnamed.ensures.kinds _ c.self.invariant c.if-place-kept.false c.if-place-kept-2.true)

pub returns : goal.returns
returns c =
    let now = c.self.inside in
    rw (c.named_at.ensures, ← c.self.view_is)
    (named_found now.config.now now.tables.now now.offered.offered _ _ c.args.place c.count_kept-kept.ensures.kinds
    c.count_unnamed-unnamed.ensures.kinds c.if-place-kept-2.false (rw (← c.self.view_is) at c.requires))
