use Rattle.smith_draw_definitions.proofs.Common.{[], arith, Export, passed_on, spaces_in, ◌++◌, ◌∷◌}
use Rattle.smith_draw_definitions.specs.RequiredExports.{standing_with}
use Rattle.smith_draw_definitions.proofs.RequiredExportsLoop.{none_required, one_stands, room_for_one, required_more, required_refused}
use Rattle.smith_draw_definitions.proofs.RequiredExportsLoop.{required_full, all_required, refused_for, refused_by}
use Rattle.smith_draw_definitions.proofs.shape_exports.push_exports.Goals as goal

pub loop-one-init : goal.loop-one-init
loop-one-init c = record {
  requiring = rw c.in_ok-exports.ensures.ok (none_required c.args.own_types c.args.config.now c.args.shape.now c.args.types.now
      (spaces_in c.args.spaces.now) c.args.definitions.now c.args.u.now c.requires.shape c.requires.may);
  kept = c.requires.kept;
}

pub make_export-requires-clause-stands : goal.make_export-requires-clause-stands
make_export-requires-clause-stands c = one_stands c.loop-one.invariant.requiring c.one-item.result
    (rw c.as_slice-one-items.ensures at c.loop-one-test.true) (rw c.as_slice-one-items.ensures at c.one-item.is)

pub make_export-requires-clause-shape : goal.make_export-requires-clause-shape
make_export-requires-clause-shape c = c.loop-one.invariant.requiring.shape_may

pub make_export-requires-clause-may : goal.make_export-requires-clause-may
make_export-requires-clause-may c = room_for_one c.loop-one.invariant.requiring c.one-item.result
    (rw c.as_slice-one-items.ensures at c.loop-one-test.true) (rw c.as_slice-one-items.ensures at c.one-item.is)

pub make_export-requires-clause-room : goal.make_export-requires-clause-room
make_export-requires-clause-room c = let inside = rw c.as_slice-one-items.ensures at c.loop-one-test.true in
    omega (arith, c.loop-one.invariant.requiring.types_most, inside, c.requires.room)

pub returns-in_err-made-clause-exact : goal.returns-in_err-made-clause-exact
returns-in_err-made-clause-exact c =
    refused_by {X = Export}
    (λ made. (
      standing_with c.make_export.new.types (spaces_in c.make_export.new.spaces) c.make_export.new.definitions
          (c.loop-one.exports ++ made ∷ []),
      c.make_export.new.u,
    )) _
    c.in_err-made.field-0.0 _ _ c.from_residual-in_err-made.result (c.in_err-made.ensures.exact c.loop-one.exports)
    (λ e. required_refused c.loop-one.invariant.requiring c.one-item.result (rw c.as_slice-one-items.ensures at c.loop-one-test.true)
    (rw c.as_slice-one-items.ensures at c.one-item.is) e)
    c.from_residual-in_err-made.ensures.1

pub returns-in_err-made-clause-refusal : goal.returns-in_err-made-clause-refusal
returns-in_err-made-clause-refusal c =
    passed_on _ c.from_residual-in_err-made.result c.in_err-made.field-0.0 c.from_residual-in_err-made.ensures.1
    (refused_for c.loop-one.invariant.requiring c.one-item.result (rw c.as_slice-one-items.ensures at c.loop-one-test.true)
    (rw c.as_slice-one-items.ensures at c.one-item.is) c.in_err-made.field-0.0 c.in_err-made.ensures.refusal)

pub loop-one-preserved : goal.loop-one-preserved
loop-one-preserved c = record {
  requiring =
      required_more c.loop-one.invariant.requiring c.one-item.result (rw c.as_slice-one-items.ensures at c.loop-one-test.true)
      (rw c.as_slice-one-items.ensures at c.one-item.is) (c.in_ok-made.ensures.exact c.loop-one.exports) c.in_ok-made.ensures.required
      c.in_ok-push.ensures.ok c.make_export.ensures.left;
  kept = c.in_ok-made.ensures.kept;
}

pub returns-clause-exact : goal.returns-clause-exact
returns-clause-exact c = required_full c.loop-one.invariant.requiring (rw c.as_slice-one-items.ensures at c.loop-one-test.false)

pub returns-clause-required : goal.returns-clause-required
returns-clause-required c = all_required c.loop-one.invariant.requiring (rw c.as_slice-one-items.ensures at c.loop-one-test.false)
