use Rattle.smith_encode.proofs.Common.{fault_weaker, syntax_of}
use Rattle.smith_encode.specs.Tails.{FromElements}
use Rattle.smith_encode.proofs.SectionLemmas.{start_written, no_start_written, long_index, long_section}
use Rattle.smith_encode.proofs.sections.write_start.Goals as goal

pub returns-in-Some-clause-writes : goal.returns-in-Some-clause-writes
returns-in-Some-clause-writes c =
    let m = c.args.module.now in
    start_written _ _ _ (λ next. (next.after, next.customs.now)) c.write_next.result (FromElements (syntax_of m)) m.start c.in-Some.index
    c.in-Some.is c.write_next.ensures.writes

pub returns-in-Some-clause-fault : goal.returns-in-Some-clause-fault
returns-in-Some-clause-fault c =
    fault_weaker c.write_next.result (long_section (long_index c.in-Some.index)) c.write_next.ensures.fault

pub returns-in-None-clause-writes : goal.returns-in-None-clause-writes
returns-in-None-clause-writes c =
    let m = c.args.module.now in
    no_start_written _ _ _ (λ next. (next.after, next.customs.now)) c.write_customs.result (FromElements (syntax_of m)) m.start c.in-None.is
    c.write_customs.ensures.writes
