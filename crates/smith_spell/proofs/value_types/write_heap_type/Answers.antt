use Rattle.smith_spell.proofs.Common.{arith, on_ok_weaker, ◌<◌}
use Rattle.smith_spell.proofs.WrittenTypeLemmas.{abstract_written, index_written}
use Rattle.smith_spell.proofs.value_types.write_heap_type.Goals as goal

pub write_abstract-requires : goal.write_abstract-requires
write_abstract-requires c = (rw c.in-Abstract.is at c.requires.holds).1

pub returns-in_ok-write_unshared-in-Abstract-clause-writes : goal.returns-in_ok-write_unshared-in-Abstract-clause-writes
returns-in_ok-write_unshared-in-Abstract-clause-writes c =
    let member = rw c.in-Abstract.is at c.requires.holds in
    rw c.in-Abstract.is (on_ok_weaker c.write_abstract.result (abstract_written c.args.config.now c.args.limit _ _ member.0
    c.in_ok-write_concrete-in-Abstract.ensures.writes c.in_ok-write_unshared-in-Abstract.ensures.writes)
    c.write_abstract.ensures.writes)

pub write_number-requires : goal.write_number-requires
write_number-requires c = omega (arith, (rw c.in-Concrete.is at c.requires.holds).1, c.requires.few)

pub returns-in_ok-write_concrete-in-Concrete-clause-writes : goal.returns-in_ok-write_concrete-in-Concrete-clause-writes
returns-in_ok-write_concrete-in-Concrete-clause-writes c =
    let member = rw c.in-Concrete.is at c.requires.holds in
    let inside : c.in-Concrete.index < c.args.limit = omega (arith, member.1, c.requires.few) in
    rw c.in-Concrete.is (on_ok_weaker c.write_number.result (index_written c.args.config.now c.args.limit _ member.0 inside
    c.in_ok-write_concrete-in-Concrete.ensures.writes) c.write_number.ensures.writes)

pub returns-in-Exact : goal.returns-in-Exact
returns-in-Exact c = absurd (rw c.in-Exact.is at c.requires.holds)
