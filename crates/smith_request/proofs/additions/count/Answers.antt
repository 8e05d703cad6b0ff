use Rattle.smith_request.specs.Additions.{IsCounted}
use Rattle.smith_request.proofs.AdditionLemmas.{exporting}
use Rattle.smith_request.proofs.additions.count.Goals as goal

pub returns-then-fuel-clause-counted : goal.returns-then-fuel-clause-counted
returns-then-fuel-clause-counted c =
    let has_counter : IsCounted c.args.fuel.amount c.args.program.now c.ensure_termination.new.self = record {
      index = c.in_ok-index.index;
      added = c.in_ok-index.ensures.answer;
      bodies = c.in_ok-index.ensures.bodies;
    } in
    exporting c.args.fuel c.args.program.now c.ensure_termination.new.self c.export_fuel.new.self c.export_fuel.result has_counter
    c.if-fuel.true c.export_fuel.ensures.answer c.export_fuel.ensures.bodies
