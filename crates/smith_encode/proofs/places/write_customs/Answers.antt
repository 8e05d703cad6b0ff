use Rattle.smith_encode.proofs.Common.{sym, ◌∙◌}
use Rattle.smith_encode.proofs.PlaceLemmas.{none_yet, custom_written}
use Rattle.smith_encode.proofs.places.write_customs.Goals as goal

pub loop-custom-init : goal.loop-custom-init
loop-custom-init c = none_yet (c.args.place.after, c.args.place.customs.now) c.args.sink.now

pub loop-custom-preserved : goal.loop-custom-preserved
loop-custom-preserved c =
    custom_written c.args.place.after c.args.place.customs.now c.loop-custom.customs.now c.in-Some.more.now c.in-Some.custom.now
    c.in-Some.ensures.cases.0 (sym c.is_same_section.ensures ∙ c.if-not-is_same_section.false) c.loop-custom.invariant
    c.in_ok-write_custom.ensures.writes
