use Rattle.smith_encode.proofs.Common.{arith, Custom, false, List, Option, subst, sym, ℕ, ◌<◌, ◌||◌, ◌∙◌, ◌≡◌}
use Rattle.smith_binary.specs.Spelling.Spelling.{any}
use Rattle.smith_encode.specs.Places.{WritesNext, is_due}
use Rattle.smith_encode.proofs.PlaceLemmas.{next_written, written_filled, written_due}
use Rattle.smith_encode.proofs.places.write_next.Goals as goal
use Rattle.smith_encode.proofs.places.write_next.Goals.{then-is_filled, else-is_filled}

pub returns-clause-writes : goal.returns-clause-writes
returns-clause-writes g c =
    let mid = c.in_ok-place.place in
    let low : c.args.id < 256 = omega arith in
    let is : c.if-is_filled.is_written ≡ (c.args.is_filled || is_due c.args.id mid.customs.now) = elim c.if-is_filled.branch [
      | then-is_filled w ↦ written_filled c.args.is_filled _ c.if-is_filled.is_written w.if-is_filled.true
          (w.is_written-is ∙ w.if-is_filled.true)
      | else-is_filled w ↦ written_due c.args.is_filled _ c.if-is_filled.is_written w.if-is_filled.false
          (w.is_written-is ∙ w.is_due-is_written.ensures)
    ] in
    subst
    (λ (next : Option ℕ × List Custom). WritesNext c.args.id (c.args.is_filled ≡ false) (g.C.Encode.spells any c.args.content.now)
    (c.args.place.after, c.args.place.customs.now) next c.args.sink.now c.write_section_if.new.sink) (sym c.past.ensures)
    (next_written (λ s. g.C.Encode.spells s c.args.content.now) c.args.is_filled c.if-is_filled.is_written c.args.id
    (mid.after, mid.customs.now) c.requires low c.in_ok-place.ensures.done is c.in_ok-place.ensures.writes
    c.in_ok-write_section_if.ensures.writes)
