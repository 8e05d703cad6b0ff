use Rattle.smith_draw_contents.proofs.offset_globals.OffsetGlobals.len.Goals as goal

pub returns : goal.returns
returns c = rw (← c.self.view_is) c.self.invariant.counted
