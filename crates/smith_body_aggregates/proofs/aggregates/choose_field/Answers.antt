use Rattle.smith_body_aggregates.proofs.Common.{arith, bare, length, struct_fields, struct_there, ◌<◌}
use Rattle.smith_body_aggregates.proofs.AggregateLemmas.{field_is, field_none, field_some, field_usable, field_without}
use Rattle.smith_body_nodes.proofs.IndexedTypeLemmas.{field_valid}
use Rattle.smith_body_aggregates.proofs.aggregates.choose_field.Goals as goal

pub returns-in_err-ty-clause-exact : goal.returns-in_err-ty-clause-exact
returns-in_err-ty-clause-exact c =
    rw c.from_residual.ensures (field_none (bare c.args.scope.now) c.args.of c.args.u.now _ c.in_err-ty.ensures.exact)

pub choose_offered-requires : goal.choose_offered-requires
choose_offered-requires c =
    let context = bare c.args.scope.now in
    let structure = c.in_ok-structure.structure.now in
    rw c.as_slice-fields.ensures (
      c.requires.of,
      struct_fields context c.in_ok-ty.ty structure.fields c.requires.scope
          (struct_there context.types c.in_ok-ty.ty structure c.in_ok-structure.ensures),
    )

pub returns-in_err-index-clause-exact : goal.returns-in_err-index-clause-exact
returns-in_err-index-clause-exact c =
    rw c.from_residual-in_err-index.ensures
    (field_without (bare c.args.scope.now) c.args.of c.args.u.now _ _ c.in_ok-ty.ty c.in_ok-structure.structure.now c.in_ok-ty.ensures.exact
    c.in_ok-structure.ensures (rw c.as_slice-fields.ensures at c.in_err-index.ensures.exact))

pub returns-clause-exact : goal.returns-clause-exact
returns-clause-exact c =
    let structure = c.in_ok-structure.structure.now in
    let below = rw c.as_slice-fields.ensures at c.in_ok-index.ensures.below in
    let inside : c.in_ok-index.index < length structure.fields = omega (arith, below) in
    rw c.as_slice-fields.ensures
    (field_some (bare c.args.scope.now) c.args.of c.args.u.now _ _ c.in_ok-ty.ty c.in_ok-index.index structure _ c.in_ok-ty.ensures.exact
    c.in_ok-structure.ensures (rw c.as_slice-fields.ensures at c.in_ok-index.ensures.exact) inside)

pub returns-clause-there : goal.returns-clause-there
returns-clause-there c =
    let structure = c.in_ok-structure.structure.now in
    let below = rw c.as_slice-fields.ensures at c.in_ok-index.ensures.below in
    let inside : c.in_ok-index.index < length structure.fields = omega (arith, below) in
    rw c.as_slice-fields.ensures (field_is (bare c.args.scope.now) c.in_ok-ty.ty c.in_ok-index.index structure _ c.in_ok-structure.ensures
    inside)

pub returns-clause-valid : goal.returns-clause-valid
returns-clause-valid c =
    let context = bare c.args.scope.now in
    let structure = c.in_ok-structure.structure.now in
    let below = rw c.as_slice-fields.ensures at c.in_ok-index.ensures.below in
    let inside : c.in_ok-index.index < length structure.fields = omega (arith, below) in
    rw c.as_slice-fields.ensures
    (field_valid context structure.fields c.in_ok-index.index _ (struct_fields context c.in_ok-ty.ty structure.fields c.requires.scope
    (struct_there context.types c.in_ok-ty.ty structure c.in_ok-structure.ensures)) inside)

pub returns-clause-usable : goal.returns-clause-usable
returns-clause-usable c =
    let structure = c.in_ok-structure.structure.now in
    let below = rw c.as_slice-fields.ensures at c.in_ok-index.ensures.below in
    let inside : c.in_ok-index.index < length structure.fields = omega (arith, below) in
    rw c.as_slice-fields.ensures (field_usable (bare c.args.scope.now).types c.args.of structure.fields c.in_ok-index.index _ inside
    (rw c.as_slice-fields.ensures at c.in_ok-index.ensures.offered))
