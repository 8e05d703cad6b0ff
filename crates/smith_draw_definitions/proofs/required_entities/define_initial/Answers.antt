use Rattle.smith_draw_definitions.proofs.Common.{[], All-head, false, features_of, IfErr-weaker, IsGlobalValid, IsTableValid, on_ok_weaker}
use Rattle.smith_draw_definitions.proofs.Common.{spaces_in, true}
use Rattle.smith_draw_definitions.specs.Defined.{drawn_beside}
use Rattle.smith_draw_definitions.proofs.KeptOfferLemmas.{kept_alike}
use Rattle.smith_draw_definitions.proofs.RequiredEntityLemmas.{tag_counted, func_counted, table_refused, global_refused}
use Rattle.smith_draw_definitions.proofs.required_entities.define_initial.Goals as goal

pub define_table-requires-clause-valid : goal.define_table-requires-clause-valid
define_table-requires-clause-valid c =
    All-head (IsTableValid (features_of c.args.config.now) c.args.types.now.types) c.in-Table.table []
    (rw c.in-Table.is at c.requires.valid.tables)

pub define_table-requires-clause-kept : goal.define_table-requires-clause-kept
define_table-requires-clause-kept c = kept_alike c.args.config.now c.args.types.now.types (spaces_in c.args.spaces.now)
    c.args.definitions.now true false _ c.requires.kept

pub returns-in-Table-clause-kept : goal.returns-in-Table-clause-kept
returns-in-Table-clause-kept c = on_ok_weaker c.define_table.result (kept_alike c.args.config.now c.args.types.now.types
    (spaces_in c.args.spaces.now) c.args.definitions.now false true _) c.define_table.ensures.kept

pub define_global-requires-clause-valid : goal.define_global-requires-clause-valid
define_global-requires-clause-valid c =
    All-head (IsGlobalValid (features_of c.args.config.now) c.args.types.now.types) c.in-Global.global []
    (rw c.in-Global.is at c.requires.valid.globals)

pub returns-in-Table-clause-refusal : goal.returns-in-Table-clause-refusal
returns-in-Table-clause-refusal c = IfErr-weaker c.define_table.result _ _
    (λ e. table_refused c.args.config.now (drawn_beside c.args.config.now c.args.types.now.types (spaces_in c.args.spaces.now)
    c.args.definitions.now) c.in-Table.table c.args.added e c.in-Table.is) c.define_table.ensures.refusal

pub returns-in-Global-clause-refusal : goal.returns-in-Global-clause-refusal
returns-in-Global-clause-refusal c = IfErr-weaker c.define_global.result _ _
    (λ e. global_refused c.args.config.now (drawn_beside c.args.config.now c.args.types.now.types (spaces_in c.args.spaces.now)
    c.args.definitions.now) c.in-Global.global c.args.added e c.in-Global.is) c.define_global.ensures.refusal

pub returns-in-Tag-clause-exact : goal.returns-in-Tag-clause-exact
returns-in-Tag-clause-exact c = tag_counted c.args.config.now c.args.types.now.types (spaces_in c.args.spaces.now) c.args.definitions.now
    c.args.added c.in-Tag.field-0 c.args.u.now c.in-Tag.is

pub returns-in-Func-clause-exact : goal.returns-in-Func-clause-exact
returns-in-Func-clause-exact c = func_counted c.args.config.now c.args.types.now.types (spaces_in c.args.spaces.now) c.args.definitions.now
    c.args.added c.in-Func.field-0 c.args.u.now c.in-Func.is
