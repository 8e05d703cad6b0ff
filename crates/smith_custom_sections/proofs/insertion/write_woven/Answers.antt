use Rattle.std.proofs.Common.{◌≡◌, ◌≢◌, length, ap, sym, arith}
use Rattle.std.proofs.lemmas.Result.{on_ok_weaker}
use Rattle.smith_custom_sections.proofs.WovenLemmas.{next_of, next_shorter, woven_start, woven_more, woven_end}
use Rattle.smith_custom_sections.proofs.insertion.write_woven.Goals as goal

pub loop-place-init : goal.loop-place-init
loop-place-init c =
    rw c.new-reader.ensures (omega arith, λ pieces h. woven_start c.args.customs.now pieces c.args.sections.now c.args.sink.now h)

pub read_section-requires : goal.read_section-requires
read_section-requires c =
    let some : length c.loop-place.reader ≢ 0 = λ none. omega (arith, none, c.left.ensures, c.if-left-eq0.false) in
    let so_far = c.loop-place.invariant.1 c.requires.plain.0 c.requires.plain.1 in
    let next = next_of _ _ so_far.plain some in
    record { some = (next.section, next.rest, next.starts) }

pub loop-place-preserved : goal.loop-place-preserved
loop-place-preserved c =
    let some : length c.loop-place.reader ≢ 0 = λ none. omega (arith, none, c.left.ensures, c.if-left-eq0.false) in
    let so_far = c.loop-place.invariant.1 c.requires.plain.0 c.requires.plain.1 in
    let next = next_of _ _ so_far.plain some in
    let read = c.in_ok-read_section.ensures.read next.section next.rest next.starts in (
      omega (arith, ap length read.1, next_shorter next.starts, c.loop-place.invariant.0),
      λ pieces h. woven_more c.in_ok-read_section.field-0.now c.read_section.new.reader (c.loop-place.invariant.1 pieces h) some
          c.in_ok-write_due.ensures.writes c.in_ok-read_section.ensures.read c.in_ok-write_bytes.ensures.writes,
    )

pub returns-then-left-eq0-clause-writes : goal.returns-then-left-eq0-clause-writes
returns-then-left-eq0-clause-writes c =
    let none : length c.loop-place.reader ≡ 0 = omega (arith, c.left.ensures, c.if-left-eq0.true) in
    λ pieces h. on_ok_weaker c.write_due.result (λ due. woven_end (c.loop-place.invariant.1 pieces h) none due) c.write_due.ensures.writes

pub returns-clause-writes : goal.returns-clause-writes
returns-clause-writes c =
    let last : c.loop-place.place ≡ length c.args.sections.now = omega (arith, c.loop-place-test.false, c.loop-place.auto.place-end) in
    let none : length c.loop-place.reader ≡ 0 = omega (arith, c.loop-place.invariant.0, last) in
    λ pieces h. on_ok_weaker c.write_due-2.result (λ due. woven_end (c.loop-place.invariant.1 pieces h) none due)
    (rw (sym last) at c.write_due-2.ensures.writes)
