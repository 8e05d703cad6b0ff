use Rattle.std.proofs.Common.{sym, ◌∙◌}
use Rattle.std.proofs.lemmas.Result.{IfErr-weaker, on_ok_weaker}
use Rattle.smith_request.proofs.AdditionLemmas.{counter_room, none_before, sinks_room}
use Rattle.smith_request.proofs.additions.extend.Goals as goal

pub add_sinks-requires : goal.add_sinks-requires
add_sinks-requires c = record {
  valid = c.requires.valid;
  room = sinks_room c.args.additions.is_observed c.args.additions.fuel _ c.requires.room;
}

pub add_counter-requires : goal.add_counter-requires
add_counter-requires c = record {
  room = λ some is. counter_room c.args.additions.is_observed c.args.additions.fuel _ c.args.program.now c.add_sinks.new.program
      c.in_ok-add_sinks.ensures.sinks c.requires.room some (sym c.counted_fuel.ensures ∙ is);
}

pub returns-clause-extended : goal.returns-clause-extended
returns-clause-extended c =
    on_ok_weaker c.add_counter.result
    (λ counter. record { observed = c.add_sinks.new.program; sinks = c.in_ok-add_sinks.ensures.sinks; counter = counter })
    (rw c.counted_fuel.ensures at c.add_counter.ensures.counter)

pub returns-clause-refused : goal.returns-clause-refused
returns-clause-refused c =
    IfErr-weaker c.add_counter.result _ _
    (none_before c.args.additions.is_observed c.args.program.now c.add_sinks.new.program c.in_ok-add_sinks.ensures.sinks)
    c.add_counter.ensures.refused
