-- Drawn calls through tables and references, and drawn tail calls. The choices, their order and
-- their weights are rules of this project.
use Rattle.std.specs.Prelude.{◌≡◌, ℕ, ◌-◌, ◌==◌, ◌&&◌, ◌||◌, Bool, true, false, if◌then◌else◌, List, [], ◌∷◌, ◌++◌, length, take, All}
use Rattle.std.specs.Prelude.{Option, Some, None, option_and_then, option_map, slice_get}
use Rattle.std.specs.Cmp.Lexicographic.{pointwise}
use Rattle.smith_body_control.specs.Common.{BodyContext, Chosen, Features, func_in, FuncType, indexed, Node, node_of, nullable_to, range_at}
use Rattle.smith_body_control.specs.Common.{ValType}
use Rattle.smith_types.specs.ValidTypes.{IsValTypeValid}
use Rattle.smith_types.specs.Syntax.value_type.AbstractHeapType.TheVariants as abstract
use Rattle.smith_types.specs.Syntax.value_type.HeapType.TheVariants.{Abstract, Concrete}
use Rattle.smith_types.specs.Syntax.value_type.RefType.{RefType}
use Rattle.smith_syntax.specs.contracts.value_type.ValTypePartialEq.TheImpl.{ghosts as val_same}
use Rattle.smith_types.specs.Syntax.value_type.ValType.TheVariants.{Ref}
use Rattle.smith_types.specs.Syntax.composite_type.SubType.{SubType}
use Rattle.smith_types.specs.Syntax.entity_type.TableType.{TableType}
use Rattle.smith_draw_types.specs.Below.{is_val_below}
use Rattle.smith_instr.specs.Contexts.{address}
use Rattle.smith_instr.specs.declared.instr.Instr.{Instr}
use Rattle.smith_instr.specs.declared.instr.Instr.TheVariants as instr
use Rattle.smith_body_nodes.specs.Chosen.{giving}
use Rattle.smith_body_nodes.specs.Offered.{are_below, chunk_at, function_at, function_in, is_first_below}
use Rattle.smith_body_control.specs.declared.outcomes.Outcome.{Outcome}
use Rattle.smith_body_control.specs.declared.outcomes.Outcome.TheVariants as outcome

-- the wanted type of a call is valid
abbrev pub IsOutcomeOver : Features → List SubType → Outcome → Type 0
IsOutcomeOver features types (outcome.Wanted value) = IsValTypeValid features (length types) value
IsOutcomeOver features types _ = Unit {0}

abbrev pub IsOutcome : BodyContext → Outcome → Type 0
IsOutcome context outcome = IsOutcomeOver context.features context.types outcome

-- the results of a call; after a tail call, any valid values
abbrev pub IsLeftOver : Features → List SubType → Outcome → List ValType → Type 0
IsLeftOver features types (outcome.Wanted value) values = values ≡ value ∷ []
IsLeftOver features types outcome.Dropped values = values ≡ []
IsLeftOver features types outcome.Returned values = All (IsValTypeValid features (length types)) values

abbrev pub IsLeft : BodyContext → Outcome → List ValType → Type 0
IsLeft context outcome values = IsLeftOver context.features context.types outcome values

-- whether the results of a function may have this outcome, if the body's function returns values of
-- these types
abbrev pub is_fit : List SubType → List ValType → Outcome → FuncType → Bool
is_fit types returned (outcome.Wanted value) function = is_first_below types value function.results
is_fit types returned outcome.Dropped function = true
is_fit types returned outcome.Returned function = are_below types function.results returned

abbrev pub is_fit_in : List SubType → List ValType → Outcome → Option FuncType → Bool
is_fit_in types returned outcome (Some function) = is_fit types returned outcome function
is_fit_in types returned outcome None = false

-- whether the type at an index is a function type whose results may have this outcome
abbrev pub is_fit_type : BodyContext → Outcome → ℕ → Bool
is_fit_type context outcome index = is_fit_in context.types context.results outcome (func_in (slice_get context.types index))

-- whether the body's function may return the results of a function
abbrev pub is_returnable : BodyContext → ℕ → Bool
is_returnable context index = is_fit_in context.types context.results outcome.Returned (function_at context index)

-- whether a reference type matches the type of shared, or of unshared, function references
-- (Validation, Control Instructions, call_indirect)
abbrev pub is_below_func : List SubType → RefType → Bool → Bool
is_below_func types element shared = is_val_below types (Ref element) (nullable_to (Abstract shared abstract.Func))

-- whether a reference type matches one of these two types
abbrev pub holds_functions : List SubType → RefType → Bool
holds_functions types element = is_below_func types element false || is_below_func types element true

-- whether a table has function references as elements (Validation, Control Instructions,
-- call_indirect)
abbrev pub is_function_table_at : List SubType → Option TableType → Bool
is_function_table_at types (Some table) = holds_functions types table.element_type
is_function_table_at types None = false

abbrev pub is_function_table : BodyContext → ℕ → Bool
is_function_table context index = is_function_table_at context.types (slice_get context.tables index)

-- the number of results that are dropped
abbrev pub dropped_of : Outcome → FuncType → ℕ
dropped_of (outcome.Wanted value) function = length function.results - 1
dropped_of outcome.Dropped function = length function.results
dropped_of outcome.Returned function = 0

-- a call through a table: a tail call if its results are returned
abbrev pub indirect_instr : Outcome → ℕ → ℕ → Instr
indirect_instr outcome.Returned table ty = instr.ReturnCallIndirect table ty
indirect_instr _ table ty = instr.CallIndirect table ty

abbrev pub indirect_node : Outcome → ℕ → ℕ → Option FuncType → Option TableType → Option Node
indirect_node outcome ty table (Some function) (Some of) =
    Some (node_of (function.params ++ address of.table64 ∷ []) (indirect_instr outcome table ty) (dropped_of outcome function))
indirect_node outcome ty table _ _ = None

abbrev pub indirect_by : BodyContext → Outcome → Option ℕ → List ℕ → Chosen
indirect_by context outcome None bytes = (None, bytes)
indirect_by context outcome (Some ty) bytes =
    giving (λ table. indirect_node outcome ty table (func_in (slice_get context.types ty)) (slice_get context.tables table))
    (chunk_at (is_function_table context) (indexed (length context.tables)) bytes)

-- a drawn function type whose results may have this outcome
abbrev pub fit_type_at : BodyContext → Outcome → List ℕ → Option ℕ × List ℕ
fit_type_at context outcome bytes = chunk_at (is_fit_type context outcome) (indexed (length context.types)) bytes

-- a call through a table, with a type whose results may have this outcome
unfoldable pub indirect_at : BodyContext → Outcome → List ℕ → Chosen
indirect_at context outcome bytes = let ty = fit_type_at context outcome bytes in indirect_by context outcome ty.0 ty.1

-- a call through a reference: a tail call if its results are returned
abbrev pub by_reference_instr : Outcome → ℕ → Instr
by_reference_instr outcome.Returned ty = instr.ReturnCallRef ty
by_reference_instr _ ty = instr.CallRef ty

abbrev pub by_reference_node : BodyContext → Outcome → ℕ → Option Node
by_reference_node context outcome ty =
    option_map (λ (function : FuncType). node_of (function.params ++ nullable_to (Concrete ty) ∷ []) (by_reference_instr outcome ty)
    (dropped_of outcome function))
    (func_in (slice_get context.types ty))

-- the type of a function that `ref.func` may name, by its position among these functions
abbrev pub named_type : BodyContext → ℕ → Option ℕ
named_type context place = option_and_then (slice_get context.funcs) (slice_get context.references place)

-- whether `ref.func` may name a function whose results may have this outcome
abbrev pub is_fit_named : BodyContext → Outcome → ℕ → Bool
is_fit_named context outcome place =
    is_fit_in context.types context.results outcome (function_in context.types (named_type context place))

-- the type of such a function
abbrev pub named_type_at : BodyContext → Outcome → List ℕ → Option ℕ × List ℕ
named_type_at context outcome bytes =
    giving (named_type context) (chunk_at (is_fit_named context outcome) (length context.references) bytes)

-- the type of a call through a reference: mostly that of a function that `ref.func` may name,
-- because there is a reference to it; one of 16 times any function type
abbrev pub referred_type_at : BodyContext → Outcome → List ℕ → Option ℕ × List ℕ
referred_type_at context outcome bytes =
    let number = range_at 0 15 bytes in
    if number.0 == 15 then fit_type_at context outcome number.1 else named_type_at context outcome number.1

-- a call through a reference, with a type whose results may have this outcome, if a reference type
-- may have a type index
unfoldable pub by_reference_at : BodyContext → Outcome → List ℕ → Chosen
by_reference_at context outcome bytes =
    if context.features.reference_types && context.features.gc
    then giving (by_reference_node context outcome) (referred_type_at context outcome bytes)
    else (None, bytes)

-- whether a function type is that of the body's function
abbrev pub is_own_type : BodyContext → FuncType → Bool
is_own_type context function =
    pointwise val_same.eq function.params (take context.params context.locals)
    && pointwise val_same.eq function.results context.results

-- whether a drawn function may be the body's own function: it has the same type
abbrev pub may_be_own_in : BodyContext → Option FuncType → Bool
may_be_own_in context (Some function) = is_own_type context function
may_be_own_in context None = false

abbrev pub may_be_own : BodyContext → Option ℕ → Bool
may_be_own context (Some index) = may_be_own_in context (function_at context index)
may_be_own context None = false

-- a drawn function, drawn once more if it may be the body's own, so that few functions call
-- themselves
abbrev pub called_at : BodyContext → (List ℕ → Option ℕ × List ℕ) → List ℕ → Option ℕ × List ℕ
called_at context draw bytes =
    let first = draw bytes in
    if may_be_own context first.0 then draw first.1 else first

-- a tail call of a function
abbrev pub return_call_node : BodyContext → ℕ → Option Node
return_call_node context index =
    option_map (λ (function : FuncType). node_of function.params (instr.ReturnCall index) 0) (function_at context index)

unfoldable pub return_call_at : BodyContext → List ℕ → Chosen
return_call_at context bytes = giving (return_call_node context) (chunk_at (is_returnable context) (indexed (length context.funcs)) bytes)

-- a tail call of one of the three kinds
unfoldable pub tail_call_at : BodyContext → List ℕ → Chosen
tail_call_at context bytes =
    let kind = range_at 0 2 bytes in
    if kind.0 == 0 then return_call_at context kind.1
    else if kind.0 == 1 then indirect_at context outcome.Returned kind.1
    else by_reference_at context outcome.Returned kind.1
