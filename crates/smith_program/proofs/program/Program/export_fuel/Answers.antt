use Rattle.smith_program.proofs.GlobalExportLemmas.{exporting_bodies}
use Rattle.smith_program.proofs.program.Program.export_fuel.Goals as goal

pub returns-clause-typed : goal.returns-clause-typed
returns-clause-typed c =
    rw (← c.self.view_is)
    (exporting_bodies c.args.index c.self.inside.«module» c.export_fuel.new.self c.export_fuel.result c.self.inside.bodies
    c.export_fuel.ensures.answer)
