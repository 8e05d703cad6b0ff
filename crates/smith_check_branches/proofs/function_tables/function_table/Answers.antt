use Rattle.smith_check_branches.proofs.Common.{false≢true, none_not_some, refl, slice_get, some_same, subst, sym, ◌∙◌}
use Rattle.smith_types.specs.Syntax.entity_type.TableType.{TableType}
use Rattle.smith_check_branches.specs.Tables.{AreFunctions}
use Rattle.smith_check_branches.proofs.function_tables.function_table.Goals as goal

pub returns-in_default : goal.returns-in_default
returns-in_default c = λ wide t.
    none_not_some t.table (slice_get c.args.scope.now.tables.now c.args.index) (sym c.in_default.ensures) t.there

pub returns-then-are_functions : goal.returns-then-are_functions
returns-then-are_functions c =
    let (shared, below) = c.are_functions.ensures.0 c.if-are_functions.true in
    record { table = c.in-Some.table; there = sym c.in-Some.ensures; addressed = refl; shared = shared; of_functions = below }

pub returns-else-are_functions : goal.returns-else-are_functions
returns-else-are_functions c = λ wide t.
    false≢true (sym c.if-are_functions.false ∙ c.are_functions.ensures.1
    (subst (λ (ty : TableType). AreFunctions c.args.scope.now.types.now.types ty.element_type)
    (some_same t.table c.in-Some.table (sym t.there ∙ sym c.in-Some.ensures)) (t.shared, t.of_functions)))
