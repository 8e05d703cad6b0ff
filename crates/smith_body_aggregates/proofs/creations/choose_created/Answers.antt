use Rattle.smith_types.specs.Syntax.value_type.ValType.TheVariants.{Ref}
use Rattle.smith_body_aggregates.proofs.Common.{ok_by, where_stands}
use Rattle.smith_body_aggregates.specs.declared.creations.Creation.TheVariants as creation
use Rattle.smith_body_aggregates.proofs.CreationLemmas.{created_by}
use Rattle.smith_body_aggregates.proofs.creations.choose_created.Goals as goal

pub returns-in-StructNew-clause-exact : goal.returns-in-StructNew-clause-exact
returns-in-StructNew-clause-exact c = ok_by c.choose_struct_new.result _ _ _ (created_by (where_stands c.args.scope.now c.args.draft.now)
    (Ref c.args.to) c.args.u.now _ c.creations.result.now c.choose.result creation.StructNew c.creations.ensures
    (c.choose.ensures.exact creation.StructNew) c.in-StructNew.is) c.choose_struct_new.ensures.exact

pub returns-in-StructDefault-clause-exact : goal.returns-in-StructDefault-clause-exact
returns-in-StructDefault-clause-exact c = ok_by c.choose_struct_default.result _ _ _
    (created_by (where_stands c.args.scope.now c.args.draft.now) (Ref c.args.to) c.args.u.now _ c.creations.result.now c.choose.result
    creation.StructDefault c.creations.ensures (c.choose.ensures.exact creation.StructNew) c.in-StructDefault.is)
    c.choose_struct_default.ensures.exact

pub returns-in-ArrayNew-clause-exact : goal.returns-in-ArrayNew-clause-exact
returns-in-ArrayNew-clause-exact c = ok_by c.choose_array_new.result _ _ _ (created_by (where_stands c.args.scope.now c.args.draft.now)
    (Ref c.args.to) c.args.u.now _ c.creations.result.now c.choose.result creation.ArrayNew c.creations.ensures
    (c.choose.ensures.exact creation.StructNew) c.in-ArrayNew.is) c.choose_array_new.ensures.exact

pub returns-in-ArrayDefault-clause-exact : goal.returns-in-ArrayDefault-clause-exact
returns-in-ArrayDefault-clause-exact c = ok_by c.choose_array_default.result _ _ _
    (created_by (where_stands c.args.scope.now c.args.draft.now) (Ref c.args.to) c.args.u.now _ c.creations.result.now c.choose.result
    creation.ArrayDefault c.creations.ensures (c.choose.ensures.exact creation.StructNew) c.in-ArrayDefault.is)
    c.choose_array_default.ensures.exact

pub returns-in-ArrayFixed-clause-exact : goal.returns-in-ArrayFixed-clause-exact
returns-in-ArrayFixed-clause-exact c = ok_by c.choose_array_fixed.result _ _ _ (created_by (where_stands c.args.scope.now c.args.draft.now)
    (Ref c.args.to) c.args.u.now _ c.creations.result.now c.choose.result creation.ArrayFixed c.creations.ensures
    (c.choose.ensures.exact creation.StructNew) c.in-ArrayFixed.is) c.choose_array_fixed.ensures.exact

pub returns-in-ArrayData-clause-exact : goal.returns-in-ArrayData-clause-exact
returns-in-ArrayData-clause-exact c = ok_by c.choose_array_data.result _ _ _ (created_by (where_stands c.args.scope.now c.args.draft.now)
    (Ref c.args.to) c.args.u.now _ c.creations.result.now c.choose.result creation.ArrayData c.creations.ensures
    (c.choose.ensures.exact creation.StructNew) c.in-ArrayData.is) c.choose_array_data.ensures.exact

pub returns-in-ArrayElem-clause-exact : goal.returns-in-ArrayElem-clause-exact
returns-in-ArrayElem-clause-exact c = ok_by c.choose_array_elem.result _ _ _ (created_by (where_stands c.args.scope.now c.args.draft.now)
    (Ref c.args.to) c.args.u.now _ c.creations.result.now c.choose.result creation.ArrayElem c.creations.ensures
    (c.choose.ensures.exact creation.StructNew) c.in-ArrayElem.is) c.choose_array_elem.ensures.exact
