use Rattle.smith_decode.proofs.modules.keep_enabled.Goals as goal

pub returns-in-Ok : goal.returns-in-Ok
returns-in-Ok c = (c.args.m, c.requires, c.in-Some.place, c.in-Some.ensures, c.in-Ok.ensures)
