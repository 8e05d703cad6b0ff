use Rattle.smith_program.proofs.GlobalExportLemmas.{sink_exporting_bodies}
use Rattle.smith_program.proofs.program.Program.export_sinks.Goals as goal

pub returns-clause-typed : goal.returns-clause-typed
returns-clause-typed c =
    rw (← c.self.view_is)
    (sink_exporting_bodies c.args.first c.self.inside.«module» c.export_sinks.new.self c.export_sinks.result c.self.inside.bodies
    c.export_sinks.ensures.answer)
