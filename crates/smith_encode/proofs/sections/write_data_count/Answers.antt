use Rattle.smith_encode.proofs.Common.{fault_weaker, name_data, sym, ◌∙◌}
use Rattle.std.specs.Prelude.{is_some}
use Rattle.std.proofs.lemmas.Bool.{or_parts}
use Rattle.smith_encode.proofs.SectionLemmas.{count_written, long_count, long_section}
use Rattle.smith_encode.proofs.sections.write_data_count.Goals as goal

pub returns-clause-writes : goal.returns-clause-writes
returns-clause-writes c =
    let m = c.args.module.now in
    count_written _ _ _ m c.states_count.result (λ next. (next.after, next.customs.now)) c.write_next.result
    (λ no. (or_parts (is_some m.data_count) (name_data m.bodies) (sym c.states_count.ensures ∙ no)).1)
    (rw c.len.ensures at c.write_next.ensures.writes)

pub returns-clause-fault : goal.returns-clause-fault
returns-clause-fault c =
    fault_weaker c.write_next.result (long_section (long_count c.args.module.now)) (rw c.len.ensures at c.write_next.ensures.fault)
