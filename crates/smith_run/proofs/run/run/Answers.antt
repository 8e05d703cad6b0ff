use Rattle.std.proofs.Common.{◌≡◌}
use Rattle.smith_run.proofs.AnswerLemmas.{answer_told, failed_writing}
use Rattle.smith_run.proofs.run.run.Goals as goal

pub returns-in-Ok-clause-line : goal.returns-in-Ok-clause-line
returns-in-Ok-clause-line g c =
    let same : c.deref.result.now ≡ c.in-Ok.input.items = c.deref.ensures.value in
    answer_told _ _ _ _ _ _ c.write_outcome.result (rw same c.in-Ok.ensures.whole) c.generate.ensures c.write_outcome.ensures.written
    c.write_outcome.ensures.told

pub returns-in-Ok-clause-write : goal.returns-in-Ok-clause-write
returns-in-Ok-clause-write g c = failed_writing _ _ c.write_outcome.result c.requires.sink c.write_outcome.ensures.fault
    c.write_outcome.ensures.failed
