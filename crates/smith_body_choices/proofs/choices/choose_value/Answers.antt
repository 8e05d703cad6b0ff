use Rattle.smith_body_choices.proofs.Common.{ok_by, ok_like, where_stands}
use Rattle.smith_body_choices.specs.declared.families.ValueFamily.TheVariants as value
use Rattle.smith_body_choices.proofs.ChoiceLemmas.{value_by}
use Rattle.smith_body_choices.proofs.choices.choose_value.Goals as goal

pub returns-in-Leaf-clause-exact : goal.returns-in-Leaf-clause-exact
returns-in-Leaf-clause-exact c = value_by c.args.scope.now.config.now (where_stands c.args.scope.now c.args.draft.now) c.args.wanted
    c.args.u.now _ c.value_families.result.now c.choose.result value.Leaf c.value_families.ensures (c.choose.ensures.exact value.Leaf)
    c.in-Leaf.is

pub returns-in-Select-clause-exact : goal.returns-in-Select-clause-exact
returns-in-Select-clause-exact c =
    ok_like _ c.choose_select.result (value_by c.args.scope.now.config.now (where_stands c.args.scope.now c.args.draft.now) c.args.wanted
    c.args.u.now _ c.value_families.result.now c.choose.result value.Select c.value_families.ensures (c.choose.ensures.exact value.Leaf)
    c.in-Select.is) c.choose_select.ensures.exact

pub returns-in-Numeric-clause-exact : goal.returns-in-Numeric-clause-exact
returns-in-Numeric-clause-exact c =
    ok_by c.choose_numeric.result _ _ _ (value_by c.args.scope.now.config.now (where_stands c.args.scope.now c.args.draft.now) c.args.wanted
    c.args.u.now _ c.value_families.result.now c.choose.result value.Numeric c.value_families.ensures (c.choose.ensures.exact value.Leaf)
    c.in-Numeric.is) c.choose_numeric.ensures.exact

pub returns-in-Tee-clause-exact : goal.returns-in-Tee-clause-exact
returns-in-Tee-clause-exact c =
    ok_by c.choose_tee.result _ _ _ (value_by c.args.scope.now.config.now (where_stands c.args.scope.now c.args.draft.now) c.args.wanted
    c.args.u.now _ c.value_families.result.now c.choose.result value.Tee c.value_families.ensures (c.choose.ensures.exact value.Leaf)
    c.in-Tee.is) c.choose_tee.ensures.exact

pub returns-in-Call-clause-exact : goal.returns-in-Call-clause-exact
returns-in-Call-clause-exact c =
    ok_by c.choose_call.result _ _ _ (value_by c.args.scope.now.config.now (where_stands c.args.scope.now c.args.draft.now) c.args.wanted
    c.args.u.now _ c.value_families.result.now c.choose.result value.Call c.value_families.ensures (c.choose.ensures.exact value.Leaf)
    c.in-Call.is) c.choose_call.ensures.exact

pub returns-in-Block-clause-exact : goal.returns-in-Block-clause-exact
returns-in-Block-clause-exact c =
    ok_by c.choose_block.result _ _ _ (value_by c.args.scope.now.config.now (where_stands c.args.scope.now c.args.draft.now) c.args.wanted
    c.args.u.now _ c.value_families.result.now c.choose.result value.Block c.value_families.ensures (c.choose.ensures.exact value.Leaf)
    c.in-Block.is) c.choose_block.ensures.exact

pub returns-in-Ending-clause-exact : goal.returns-in-Ending-clause-exact
returns-in-Ending-clause-exact c = ok_by c.choose_ending_value.result _ _ _
    (value_by c.args.scope.now.config.now (where_stands c.args.scope.now c.args.draft.now) c.args.wanted c.args.u.now _
    c.value_families.result.now c.choose.result value.Ending c.value_families.ensures (c.choose.ensures.exact value.Leaf) c.in-Ending.is)
    c.choose_ending_value.ensures.exact

pub returns-in-Load-clause-exact : goal.returns-in-Load-clause-exact
returns-in-Load-clause-exact c =
    ok_by c.choose_load.result _ _ _ (value_by c.args.scope.now.config.now (where_stands c.args.scope.now c.args.draft.now) c.args.wanted
    c.args.u.now _ c.value_families.result.now c.choose.result value.Load c.value_families.ensures (c.choose.ensures.exact value.Leaf)
    c.in-Load.is) c.choose_load.ensures.exact

pub returns-in-Memory-clause-exact : goal.returns-in-Memory-clause-exact
returns-in-Memory-clause-exact c =
    ok_by c.choose_memory.result _ _ _ (value_by c.args.scope.now.config.now (where_stands c.args.scope.now c.args.draft.now) c.args.wanted
    c.args.u.now _ c.value_families.result.now c.choose.result value.Memory c.value_families.ensures (c.choose.ensures.exact value.Leaf)
    c.in-Memory.is) c.choose_memory.ensures.exact

pub returns-in-Table-clause-exact : goal.returns-in-Table-clause-exact
returns-in-Table-clause-exact c = ok_by c.choose_table_value.result _ _ _
    (value_by c.args.scope.now.config.now (where_stands c.args.scope.now c.args.draft.now) c.args.wanted c.args.u.now _
    c.value_families.result.now c.choose.result value.Table c.value_families.ensures (c.choose.ensures.exact value.Leaf) c.in-Table.is)
    c.choose_table_value.ensures.exact

pub returns-in-SelectTyped-clause-exact : goal.returns-in-SelectTyped-clause-exact
returns-in-SelectTyped-clause-exact c = ok_like _ c.choose_select_typed.result
    (value_by c.args.scope.now.config.now (where_stands c.args.scope.now c.args.draft.now) c.args.wanted c.args.u.now _
    c.value_families.result.now c.choose.result value.SelectTyped c.value_families.ensures (c.choose.ensures.exact value.Leaf)
    c.in-SelectTyped.is) c.choose_select_typed.ensures.exact

pub returns-in-Reference-clause-exact : goal.returns-in-Reference-clause-exact
returns-in-Reference-clause-exact c = ok_by c.choose_reference_value.result _ _ _
    (value_by c.args.scope.now.config.now (where_stands c.args.scope.now c.args.draft.now) c.args.wanted c.args.u.now _
    c.value_families.result.now c.choose.result value.Reference c.value_families.ensures (c.choose.ensures.exact value.Leaf)
    c.in-Reference.is) c.choose_reference_value.ensures.exact

pub returns-in-CallIndirect-clause-exact : goal.returns-in-CallIndirect-clause-exact
returns-in-CallIndirect-clause-exact c = ok_by c.choose_indirect.result _ _ _
    (value_by c.args.scope.now.config.now (where_stands c.args.scope.now c.args.draft.now) c.args.wanted c.args.u.now _
    c.value_families.result.now c.choose.result value.CallIndirect c.value_families.ensures (c.choose.ensures.exact value.Leaf)
    c.in-CallIndirect.is) c.choose_indirect.ensures.exact

pub returns-in-CallRef-clause-exact : goal.returns-in-CallRef-clause-exact
returns-in-CallRef-clause-exact c = ok_by c.choose_by_reference.result _ _ _
    (value_by c.args.scope.now.config.now (where_stands c.args.scope.now c.args.draft.now) c.args.wanted c.args.u.now _
    c.value_families.result.now c.choose.result value.CallRef c.value_families.ensures (c.choose.ensures.exact value.Leaf) c.in-CallRef.is)
    c.choose_by_reference.ensures.exact

pub returns-in-NullBranch-clause-exact : goal.returns-in-NullBranch-clause-exact
returns-in-NullBranch-clause-exact c =
    ok_by c.choose_kept.result _ _ _ (value_by c.args.scope.now.config.now (where_stands c.args.scope.now c.args.draft.now) c.args.wanted
    c.args.u.now _ c.value_families.result.now c.choose.result value.NullBranch c.value_families.ensures (c.choose.ensures.exact value.Leaf)
    c.in-NullBranch.is) c.choose_kept.ensures.exact

pub returns-in-Vector-clause-exact : goal.returns-in-Vector-clause-exact
returns-in-Vector-clause-exact c =
    ok_by c.choose_vector.result _ _ _ (value_by c.args.scope.now.config.now (where_stands c.args.scope.now c.args.draft.now) c.args.wanted
    c.args.u.now _ c.value_families.result.now c.choose.result value.Vector c.value_families.ensures (c.choose.ensures.exact value.Leaf)
    c.in-Vector.is) c.choose_vector.ensures.exact

pub returns-in-Atomic-clause-exact : goal.returns-in-Atomic-clause-exact
returns-in-Atomic-clause-exact c =
    ok_by c.choose_atomic.result _ _ _ (value_by c.args.scope.now.config.now (where_stands c.args.scope.now c.args.draft.now) c.args.wanted
    c.args.u.now _ c.value_families.result.now c.choose.result value.Atomic c.value_families.ensures (c.choose.ensures.exact value.Leaf)
    c.in-Atomic.is) c.choose_atomic.ensures.exact

pub returns-in-Creation-clause-exact : goal.returns-in-Creation-clause-exact
returns-in-Creation-clause-exact c = ok_by c.choose_creation.result _ _ _
    (value_by c.args.scope.now.config.now (where_stands c.args.scope.now c.args.draft.now) c.args.wanted c.args.u.now _
    c.value_families.result.now c.choose.result value.Creation c.value_families.ensures (c.choose.ensures.exact value.Leaf)
    c.in-Creation.is) c.choose_creation.ensures.exact

pub returns-in-FieldRead-clause-exact : goal.returns-in-FieldRead-clause-exact
returns-in-FieldRead-clause-exact c = ok_by c.choose_field_read.result _ _ _
    (value_by c.args.scope.now.config.now (where_stands c.args.scope.now c.args.draft.now) c.args.wanted c.args.u.now _
    c.value_families.result.now c.choose.result value.FieldRead c.value_families.ensures (c.choose.ensures.exact value.Leaf)
    c.in-FieldRead.is) c.choose_field_read.ensures.exact

pub returns-in-Cast-clause-exact : goal.returns-in-Cast-clause-exact
returns-in-Cast-clause-exact c =
    ok_by c.choose_cast.result _ _ _ (value_by c.args.scope.now.config.now (where_stands c.args.scope.now c.args.draft.now) c.args.wanted
    c.args.u.now _ c.value_families.result.now c.choose.result value.Cast c.value_families.ensures (c.choose.ensures.exact value.Leaf)
    c.in-Cast.is) c.choose_cast.ensures.exact

pub returns-in-CastBranch-clause-exact : goal.returns-in-CastBranch-clause-exact
returns-in-CastBranch-clause-exact c = ok_by c.choose_kept_cast.result _ _ _
    (value_by c.args.scope.now.config.now (where_stands c.args.scope.now c.args.draft.now) c.args.wanted c.args.u.now _
    c.value_families.result.now c.choose.result value.CastBranch c.value_families.ensures (c.choose.ensures.exact value.Leaf)
    c.in-CastBranch.is) c.choose_kept_cast.ensures.exact

pub returns-in-Try-clause-exact : goal.returns-in-Try-clause-exact
returns-in-Try-clause-exact c =
    ok_by c.choose_try.result _ _ _ (value_by c.args.scope.now.config.now (where_stands c.args.scope.now c.args.draft.now) c.args.wanted
    c.args.u.now _ c.value_families.result.now c.choose.result value.Try c.value_families.ensures (c.choose.ensures.exact value.Leaf)
    c.in-Try.is) c.choose_try.ensures.exact
