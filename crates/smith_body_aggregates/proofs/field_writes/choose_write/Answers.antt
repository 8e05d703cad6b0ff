use Rattle.smith_body_aggregates.proofs.Common.{ok_by, where_stands}
use Rattle.smith_body_aggregates.specs.declared.field_writes.FieldWrite.TheVariants as write
use Rattle.smith_body_aggregates.proofs.FieldLemmas.{write_by}
use Rattle.smith_body_aggregates.proofs.field_writes.choose_write.Goals as goal

pub returns-in-StructSet-clause-exact : goal.returns-in-StructSet-clause-exact
returns-in-StructSet-clause-exact c = ok_by c.choose_struct_set.result _ _ _
    (write_by (where_stands c.args.scope.now c.args.draft.now) c.args.u.now _ c.field_writes.result.now c.choose.result write.StructSet
    c.field_writes.ensures (c.choose.ensures.exact write.StructSet) c.in-StructSet.is) c.choose_struct_set.ensures.exact

pub returns-in-ArraySet-clause-exact : goal.returns-in-ArraySet-clause-exact
returns-in-ArraySet-clause-exact c = ok_by c.choose_array_set.result _ _ _
    (write_by (where_stands c.args.scope.now c.args.draft.now) c.args.u.now _ c.field_writes.result.now c.choose.result write.ArraySet
    c.field_writes.ensures (c.choose.ensures.exact write.StructSet) c.in-ArraySet.is) c.choose_array_set.ensures.exact

pub returns-in-ArrayFill-clause-exact : goal.returns-in-ArrayFill-clause-exact
returns-in-ArrayFill-clause-exact c = ok_by c.choose_array_fill.result _ _ _
    (write_by (where_stands c.args.scope.now c.args.draft.now) c.args.u.now _ c.field_writes.result.now c.choose.result write.ArrayFill
    c.field_writes.ensures (c.choose.ensures.exact write.StructSet) c.in-ArrayFill.is) c.choose_array_fill.ensures.exact

pub returns-in-ArrayCopy-clause-exact : goal.returns-in-ArrayCopy-clause-exact
returns-in-ArrayCopy-clause-exact c = ok_by c.choose_array_copy.result _ _ _
    (write_by (where_stands c.args.scope.now c.args.draft.now) c.args.u.now _ c.field_writes.result.now c.choose.result write.ArrayCopy
    c.field_writes.ensures (c.choose.ensures.exact write.StructSet) c.in-ArrayCopy.is) c.choose_array_copy.ensures.exact

pub returns-in-InitData-clause-exact : goal.returns-in-InitData-clause-exact
returns-in-InitData-clause-exact c = ok_by c.choose_init_data.result _ _ _
    (write_by (where_stands c.args.scope.now c.args.draft.now) c.args.u.now _ c.field_writes.result.now c.choose.result write.InitData
    c.field_writes.ensures (c.choose.ensures.exact write.StructSet) c.in-InitData.is) c.choose_init_data.ensures.exact

pub returns-in-InitElem-clause-exact : goal.returns-in-InitElem-clause-exact
returns-in-InitElem-clause-exact c = ok_by c.choose_init_elem.result _ _ _
    (write_by (where_stands c.args.scope.now c.args.draft.now) c.args.u.now _ c.field_writes.result.now c.choose.result write.InitElem
    c.field_writes.ensures (c.choose.ensures.exact write.StructSet) c.in-InitElem.is) c.choose_init_elem.ensures.exact
