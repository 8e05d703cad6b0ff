use Rattle.smith_draw_contents.proofs.offset_globals.OffsetGlobals.at.Goals as goal

pub returns : goal.returns
returns c = rw (← c.self.view_is) c.find_telling.ensures
