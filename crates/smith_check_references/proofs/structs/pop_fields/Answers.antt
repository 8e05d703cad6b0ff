use Rattle.smith_check_references.proofs.Common.{AreFit, arith, bare, false≢true, field_values, length, subst, sym, ◌-◌, ◌∙◌}
use Rattle.smith_types.specs.Matching.{IsFieldInRange}
use Rattle.smith_check_operands.proofs.FitLemmas.{taken_enough, refused_enough, taken_beyond, refused_beyond, refused_short}
use Rattle.smith_check_operands.proofs.RangeLemmas.{slots_part, slots_whole}
use Rattle.smith_check_references.proofs.CopyLemmas.{last_fields, length_values, part_of}
use Rattle.smith_check_references.proofs.structs.pop_fields.Goals as goal

pub returns-then-not-fields_fit : goal.returns-then-not-fields_fit
returns-then-not-fields_fit c =
    refused_enough (bare c.args.scope.now) c.args.operands.now.known.items c.deref.result.now (field_values c.args.fields.now)
    (c.len-known.result - length c.args.fields.now) c.args.operands.now.dead c.deref.ensures.value
    (omega (arith, length_values c.args.fields.now)) (omega (arith, length_values c.args.fields.now))
    (λ fit. false≢true (sym c.if-not-fields_fit.true ∙ c.fields_fit.ensures.1 fit))

pub returns-then-wanted-known : goal.returns-then-wanted-known
returns-then-wanted-known c =
    let e = c.truncate.ensures.items in
    rw e (taken_enough (bare c.args.scope.now) c.args.operands.now.known.items c.deref.result.now (field_values c.args.fields.now)
    (c.len-known.result - length c.args.fields.now) c.args.operands.now.dead c.requires.known
    c.deref.ensures.value (c.fields_fit.ensures.0 c.if-not-fields_fit.false))

pub returns-then-not-operands : goal.returns-then-not-operands
returns-then-not-operands c =
    refused_short (bare c.args.scope.now) c.args.operands.now.known.items (field_values c.args.fields.now) c.args.operands.now.dead
    c.if-not-operands.true (omega (arith, length_values c.args.fields.now))

pub returns-then-not-fields_fit-2 : goal.returns-then-not-fields_fit-2
returns-then-not-fields_fit-2 c =
    refused_beyond (bare c.args.scope.now) c.args.operands.now.known.items c.deref-2.result.now (field_values c.args.fields.now)
    (length c.args.fields.now - c.len-known.result) c.args.operands.now.dead c.deref-2.ensures.value
    (omega (arith, length_values c.args.fields.now)) (omega (arith, length_values c.args.fields.now))
    (λ fit. false≢true (sym c.if-not-fields_fit-2.true ∙ c.fields_fit-2.ensures.1
    (subst (λ vs. AreFit c.args.scope.now.types.now.types c.deref-2.result.now vs)
    (sym (last_fields (length c.args.fields.now - c.len-known.result) c.args.fields.now)) fit)))

pub returns : goal.returns
returns c =
    taken_beyond (bare c.args.scope.now) c.args.operands.now.known.items c.deref-2.result.now (field_values c.args.fields.now)
    (length c.args.fields.now - c.len-known.result) c.args.operands.now.dead _ c.requires.known
    c.deref-2.ensures.value c.if-not-operands.false c.clear.ensures.items
    (subst (λ vs. AreFit c.args.scope.now.types.now.types c.deref-2.result.now vs)
    (last_fields (length c.args.fields.now - c.len-known.result) c.args.fields.now)
    (c.fields_fit-2.ensures.0 c.if-not-fields_fit-2.false))

pub fields_fit-requires-clause-lower : goal.fields_fit-requires-clause-lower
fields_fit-requires-clause-lower c = slots_part (bare c.args.scope.now) c.args.operands.now.known.items c.deref.result.now _ _
    c.deref.ensures.value c.requires.known

pub fields_fit-requires-2-clause-lower : goal.fields_fit-requires-2-clause-lower
fields_fit-requires-2-clause-lower c = slots_whole (bare c.args.scope.now) c.args.operands.now.known.items c.deref-2.result.now
    c.deref-2.ensures.value c.requires.known

pub fields_fit-requires-2-clause-upper : goal.fields_fit-requires-2-clause-upper
fields_fit-requires-2-clause-upper c = part_of (IsFieldInRange c.args.scope.now.types.now.types) c.args.fields.now _ _ c.requires.expected
