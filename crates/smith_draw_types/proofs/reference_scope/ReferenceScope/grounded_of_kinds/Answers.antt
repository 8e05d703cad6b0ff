use Rattle.smith_draw_types.proofs.Common.{ap, Concrete, IfSome_then, map, sym, ◌∙◌}
use Rattle.smith_draw_types.proofs.reference_scope.ReferenceScope.grounded_of_kinds.Goals as goal

pub returns-in-Any : goal.returns-in-Any
returns-in-Any c = rw c.in-Any.is c.grounded_aggregates.ensures

pub returns-in-Eq : goal.returns-in-Eq
returns-in-Eq c = rw c.in-Eq.is c.grounded_aggregates-in-Eq.ensures

pub returns-in-Struct : goal.returns-in-Struct
returns-in-Struct c = rw c.in-Struct.is c.grounded_structs.ensures

pub returns-in-Array : goal.returns-in-Array
returns-in-Array c = rw c.in-Array.is (IfSome_then c.none_grounded.result c.none_grounded.ensures
    (λ indices none. none.1 ∙ ap (map Concrete) (sym none.0)))

pub returns-in-Func : goal.returns-in-Func
returns-in-Func c = rw c.in-Func.is c.grounded_functions.ensures
