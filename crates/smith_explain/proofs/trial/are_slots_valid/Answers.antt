use Rattle.std.proofs.Common.{◌<◌, length, subst, arith}
use Rattle.std.proofs.lemmas.List.{take_all}
use Rattle.std.proofs.lemmas.List.Elements.{All-more}
use Rattle.smith_check_operands.specs.Scopes.{bare}
use Rattle.smith_check_rules.specs.Slots.{AreSlotsValid, IsSlotValid}
use Rattle.smith_explain.proofs.trial.are_slots_valid.Goals as goal

pub loop-slot-preserved : goal.loop-slot-preserved
loop-slot-preserved c =
    let within : c.loop-slot.slot-index < length c.args.slots.now = omega arith in
    All-more (IsSlotValid (bare c.args.scope.now)) c.args.slots.now c.loop-slot.slot-index _ within c.loop-slot.invariant
    (c.is_slot_valid.ensures c.if-not-is_slot_valid.false)

pub returns : goal.returns
returns c = λ told.
    subst (λ xs. AreSlotsValid (bare c.args.scope.now) xs) (take_all c.loop-slot.slot-index c.args.slots.now (omega arith))
    c.loop-slot.invariant
