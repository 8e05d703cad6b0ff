use Rattle.smith_body_nodes.specs.Scopes.{where_stands}
use Rattle.smith_body_casts.specs.declared.casts.Scalar.TheVariants as scalar
use Rattle.smith_body_casts.proofs.CastLemmas.{length_gives, scalar_by, signed_gives, unsigned_gives}
use Rattle.smith_body_nodes.proofs.ChosenLemmas.{ok_by}
use Rattle.smith_body_nodes.proofs.ResultLemmas.{ok_like}
use Rattle.smith_body_casts.proofs.casts.choose_scalar.Goals as goal

pub returns-in-Length-clause-exact : goal.returns-in-Length-clause-exact
returns-in-Length-clause-exact c = ok_like _ c.out_of.result (scalar_by (where_stands c.args.scope.now c.args.draft.now) c.args.u.now _
    c.scalars.result.now c.choose.result scalar.Length c.scalars.ensures (c.choose.ensures.exact scalar.Length) c.in-Length.is)
    c.out_of.ensures.exact

pub returns-in-Length-clause-offer : goal.returns-in-Length-clause-offer
returns-in-Length-clause-offer c =
    ok_like _ c.out_of.result (length_gives (where_stands c.args.scope.now c.args.draft.now) c.args.draft.now.set.items c.requires.named)
    c.out_of.ensures.exact

pub returns-in-Signed-clause-exact : goal.returns-in-Signed-clause-exact
returns-in-Signed-clause-exact c =
    ok_like _ c.out_of-in-Signed.result (scalar_by (where_stands c.args.scope.now c.args.draft.now) c.args.u.now _ c.scalars.result.now
    c.choose.result scalar.Signed c.scalars.ensures (c.choose.ensures.exact scalar.Length) c.in-Signed.is) c.out_of-in-Signed.ensures.exact

pub returns-in-Signed-clause-offer : goal.returns-in-Signed-clause-offer
returns-in-Signed-clause-offer c = ok_like _ c.out_of-in-Signed.result (signed_gives (where_stands c.args.scope.now c.args.draft.now)
    c.args.draft.now.set.items c.requires.named) c.out_of-in-Signed.ensures.exact

pub returns-in-Unsigned-clause-exact : goal.returns-in-Unsigned-clause-exact
returns-in-Unsigned-clause-exact c = ok_like _ c.out_of-in-Unsigned.result
    (scalar_by (where_stands c.args.scope.now c.args.draft.now) c.args.u.now _ c.scalars.result.now c.choose.result scalar.Unsigned
    c.scalars.ensures (c.choose.ensures.exact scalar.Length) c.in-Unsigned.is) c.out_of-in-Unsigned.ensures.exact

pub returns-in-Unsigned-clause-offer : goal.returns-in-Unsigned-clause-offer
returns-in-Unsigned-clause-offer c = ok_like _ c.out_of-in-Unsigned.result (unsigned_gives (where_stands c.args.scope.now c.args.draft.now)
    c.args.draft.now.set.items c.requires.named) c.out_of-in-Unsigned.ensures.exact

pub returns-in-Test-clause-exact : goal.returns-in-Test-clause-exact
returns-in-Test-clause-exact c = ok_by c.choose_type_test.result _ _ _
    (scalar_by (where_stands c.args.scope.now c.args.draft.now) c.args.u.now _ c.scalars.result.now c.choose.result scalar.Test
    c.scalars.ensures (c.choose.ensures.exact scalar.Length) c.in-Test.is) c.choose_type_test.ensures.exact

pub returns-in-NonNullTest-clause-exact : goal.returns-in-NonNullTest-clause-exact
returns-in-NonNullTest-clause-exact c = ok_by c.choose_non_null_test.result _ _ _
    (scalar_by (where_stands c.args.scope.now c.args.draft.now) c.args.u.now _ c.scalars.result.now c.choose.result scalar.NonNullTest
    c.scalars.ensures (c.choose.ensures.exact scalar.Length) c.in-NonNullTest.is) c.choose_non_null_test.ensures.exact
