use Rattle.smith_request.proofs.AdditionLemmas.{exporting_sinks, refused_sinks, sinks_next, sinks_there}
use Rattle.smith_request.proofs.additions.observe.Goals as goal

pub export_sinks-requires : goal.export_sinks-requires
export_sinks-requires c = record {
  there = sinks_there c.in_ok-first.first c.args.program.now c.observe.new.self c.in_ok-first.ensures.answer;
  room = sinks_next c.in_ok-first.first c.args.program.now c.observe.new.self c.in_ok-first.ensures.answer c.requires.room;
}

pub returns-clause-observed : goal.returns-clause-observed
returns-clause-observed c =
    exporting_sinks c.in_ok-first.first c.args.program.now c.observe.new.self c.export_sinks.new.self c.export_sinks.result
    c.in_ok-first.ensures.answer c.export_sinks.ensures.answer c.export_sinks.ensures.bodies

pub returns-clause-refused : goal.returns-clause-refused
returns-clause-refused c =
    refused_sinks c.in_ok-first.first c.args.program.now c.observe.new.self c.export_sinks.new.self c.export_sinks.result
    c.in_ok-first.ensures.answer c.export_sinks.ensures.answer
