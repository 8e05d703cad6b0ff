-- Calls through tables and references, and tail calls.
use Rattle.std.proofs.Common.{◌≡◌, inl, inr, ℕ, ◌+◌, ◌-◌, ◌<◌, ◌≤◌, Bool, true, false, List, [], ◌∷◌, ◌++◌, Option, Some, None, length}
use Rattle.std.proofs.Common.{length-append, get_or, drop, refl, sym, subst, ap, ◌∙◌, arith}
use Rattle.std.specs.Prelude.{IfSome, slice_get, IsTrue, if◌then◌else◌, option_map, ◌&&◌}
use Rattle.std.proofs.lemmas.Bool.{ne_eqb}
use Rattle.std.proofs.lemmas.List.{append-nil}
use Rattle.std.proofs.lemmas.List.Elements.{All-push, All-drop}
use Rattle.std.proofs.lemmas.Option.{same_Some, slice_get-get_or, slice_get_within}
use Rattle.smith_bytes.specs.Draws.{range_at}
use Rattle.smith_types.specs.Entities.{IsFuncAt}
use Rattle.smith_types.specs.Subtyping.{IsRefBelow}
use Rattle.smith_types.specs.Types.{IsOrderly}
use Rattle.smith_types.specs.Syntax.value_type.AbstractHeapType.TheVariants as abstract
use Rattle.smith_types.specs.Syntax.value_type.HeapType.TheVariants.{Abstract, Concrete}
use Rattle.smith_types.specs.Syntax.value_type.RefType.{RefType}
use Rattle.smith_types.specs.Syntax.value_type.ValType.{ValType}
use Rattle.smith_types.specs.Syntax.value_type.ValType.TheVariants.{Ref}
use Rattle.smith_types.specs.Syntax.composite_type.FuncType.{FuncType}
use Rattle.smith_types.specs.Syntax.entity_type.TableType.{TableType}
use Rattle.smith_instr.specs.Contexts.{BodyContext, IsValid, AreValid, address, nullable_to}
use Rattle.smith_instr.specs.InstrTypes.{HasInstrType, IsFunctionTable, sets}
use Rattle.smith_instr.specs.declared.instr.Instr.{Instr}
use Rattle.smith_instr.specs.declared.instr.Instr.TheVariants as instr
use Rattle.smith_instr.proofs.SequenceLemmas.{below_themselves}
use Rattle.smith_body_control.specs.CallChoices.{IsLeft, IsOutcome, by_reference_at, by_reference_instr, by_reference_node, dropped_of}
use Rattle.smith_body_control.specs.CallChoices.{called_at, may_be_own, named_type, named_type_at, referred_type_at}
use Rattle.smith_body_control.specs.CallChoices.{fit_type_at, holds_functions, indirect_at, indirect_by, indirect_instr, indirect_node}
use Rattle.smith_body_control.specs.CallChoices.{is_below_func, is_fit, is_fit_in, is_fit_named, is_fit_type, is_function_table}
use Rattle.smith_body_control.specs.CallChoices.{is_function_table_at, is_returnable, return_call_at, return_call_node, tail_call_at}
use Rattle.smith_body_nodes.specs.Chosen.{giving}
use Rattle.smith_body_nodes.specs.Nodes.{IsNode, node_of}
use Rattle.smith_body_nodes.specs.Offered.{chunk_at, func_in, function_at, function_in}
use Rattle.smith_body_nodes.specs.Scopes.{indexed, widest}
use Rattle.smith_body_control.specs.declared.outcomes.Outcome.{Outcome}
use Rattle.smith_body_control.specs.declared.outcomes.Outcome.TheVariants as outcome
use Rattle.smith_body_nodes.proofs.ItemLemmas.{given_none, given_some}
use Rattle.smith_body_nodes.proofs.NodeLemmas.{address_valid, first_below, func_wide, no_valid, one_valid, zip_length}
use Rattle.smith_body_nodes.proofs.OfferLemmas.{all_below, either, func_there, function_there, tested}

-- a call leaves the results of the function; a tail call leaves any valid values
abbrev pub Gives : BodyContext → Outcome → FuncType → List ValType → Type 0
Gives context outcome.Returned function results = AreValid context results
Gives context _ function results = results ≡ function.results

-- a call whose results have an outcome
pub outcome_gives : (context : BodyContext) (set : List ℕ) (outcome : Outcome) (function : FuncType) (operands values : List ValType)
    (instruction : Instr) → IsOrderly context.types → IsOutcome context outcome → AreValid context function.results
    → is_fit context.types context.results outcome function ≡ true → IsLeft context outcome values
    → ((more : List ℕ) (results : List ValType) → Gives context outcome function results
    → HasInstrType context (set ++ more) instruction operands results)
    → sets instruction ≡ [] → length function.params + length function.results ≤ widest context.types
    → length operands ≤ length function.params + 1 → AreValid context operands
    → IsNode context set values (node_of operands instruction (dropped_of outcome function))
outcome_gives context set (outcome.Wanted value) function operands values instruction orderly valid results fit left typed none wide few
    operands_valid =
    let zip = first_below context.types orderly value function.results fit in
    let same : length function.results ≡ length (value ∷ drop 1 function.results) =
    zip_length _ function.results (value ∷ drop 1 function.results) zip in
    let less : length (drop 1 function.results) ≡ length function.results - 1 = omega arith in
    rw left (record {
      results = function.results;
      dropped = drop 1 function.results;
      typed = λ more. typed more function.results refl;
      below = zip;
      given = one_valid context value valid;
      spare = All-drop (IsValid context) 1 function.results results;
      drops = less;
      sets_local = none;
      few = omega arith;
      valid = operands_valid;
      inside = tt;
    })
outcome_gives context set outcome.Dropped function operands values instruction orderly valid results fit left typed none wide few
    operands_valid =
    rw left (record {
      results = function.results;
      dropped = function.results;
      typed = λ more. typed more function.results refl;
      below = below_themselves context.types function.results;
      given = no_valid context;
      spare = results;
      drops = refl;
      sets_local = none;
      few = omega arith;
      valid = operands_valid;
      inside = tt;
    })
outcome_gives context set outcome.Returned function operands values instruction orderly valid results fit left typed none wide few
    operands_valid = record {
      results = values;
      dropped = [];
      typed = λ more. typed more values left;
      below = rw append-nil (below_themselves context.types values);
      given = left;
      spare = no_valid context;
      drops = refl;
      sets_local = none;
      few = omega arith;
      valid = operands_valid;
      inside = tt;
    }

-- a table of functions
below_func : (context : BodyContext) (element : RefType) → IsOrderly context.types → holds_functions context.types element ≡ true
    → (shared : Bool) × IsRefBelow context.types element (record { nullable = true; heap_type = Abstract shared abstract.Func })
below_func context element orderly is = elim (either (is_below_func context.types element false) (is_below_func context.types element true)
    is) [
      | inl below ↦ (false, tested context.types orderly (Ref element) (nullable_to (Abstract false abstract.Func)) below)
      | inr below ↦ (true, tested context.types orderly (Ref element) (nullable_to (Abstract true abstract.Func)) below)
    ]

function_table_at : (context : BodyContext) (index : ℕ) (o : Option TableType) → IsOrderly context.types → slice_get context.tables index
    ≡ o → is_function_table_at context.types o ≡ true
    → (table : TableType) × (slice_get context.tables index ≡ Some table) × IsFunctionTable context index table.table64
function_table_at context index (Some table) orderly at is =
    let (shared, below) = below_func context table.element_type orderly is in
    (table, at, record { table = table; there = at; addressed = refl; shared = shared; of_functions = below })
function_table_at context index None orderly at is = cc

pub function_table : (context : BodyContext) (index : ℕ) (d : TableType) → IsOrderly context.types → is_function_table context index ≡ true
    → IsFunctionTable context index (get_or context.tables index d).table64
function_table context index d orderly is =
    let (table, at, of) = function_table_at context index (slice_get context.tables index) orderly refl is in
    let here : slice_get context.tables index ≡ Some (get_or context.tables index d) = slice_get-get_or context.tables index d
    (slice_get_within context.tables index table at) in
    let same : table ≡ get_or context.tables index d = same_Some table (get_or context.tables index d) (sym at ∙ here) in
    subst (λ (t : TableType). IsFunctionTable context index t.table64) same of

-- a function type whose results may have an outcome
pub fit_type : (context : BodyContext) (outcome : Outcome) (index : ℕ) (function : FuncType) → is_fit_type context outcome index ≡ true
    → func_in (slice_get context.types index) ≡ Some function → is_fit context.types context.results outcome function ≡ true
fit_type context outcome index function is at = subst (λ (o : Option FuncType). is_fit_in context.types context.results outcome o ≡ true) at
    is

-- the types of the calls
indirect_typed : (context : BodyContext) (set : List ℕ) (outcome : Outcome) (function : FuncType) (table ty : ℕ) (wide : Bool)
    (results : List ValType) → IsOrderly context.types → is_fit context.types context.results outcome function ≡ true
    → IsFunctionTable context table wide → IsFuncAt context.types ty function → Gives context outcome function results
    → HasInstrType context set (indirect_instr outcome table ty) (function.params ++ address wide ∷ []) results
indirect_typed context set (outcome.Wanted value) function table ty wide results orderly fit of there gives =
    (function, wide, of, there, (refl, gives))
indirect_typed context set outcome.Dropped function table ty wide results orderly fit of there gives =
    (function, wide, of, there, (refl, gives))
indirect_typed context set outcome.Returned function table ty wide results orderly fit of there gives =
    (function, wide, of, there, all_below context.types orderly function.results context.results fit, ([], refl, gives))

by_reference_typed : (context : BodyContext) (set : List ℕ) (outcome : Outcome) (function : FuncType) (ty : ℕ) (results : List ValType)
    → IsOrderly context.types → is_fit context.types context.results outcome function ≡ true
    → IsFuncAt context.types ty function → Gives context outcome function results → HasInstrType context set (by_reference_instr outcome ty)
    (function.params ++ nullable_to (Concrete ty) ∷ []) results
by_reference_typed context set (outcome.Wanted value) function ty results orderly fit there gives = (function, there, (refl, gives))
by_reference_typed context set outcome.Dropped function ty results orderly fit there gives = (function, there, (refl, gives))
by_reference_typed context set outcome.Returned function ty results orderly fit there gives =
    (function, there, all_below context.types orderly function.results context.results fit, ([], refl, gives))

indirect_sets : (outcome : Outcome) (table ty : ℕ) → sets (indirect_instr outcome table ty) ≡ []
indirect_sets (outcome.Wanted value) table ty = refl
indirect_sets outcome.Dropped table ty = refl
indirect_sets outcome.Returned table ty = refl

by_reference_sets : (outcome : Outcome) (ty : ℕ) → sets (by_reference_instr outcome ty) ≡ []
by_reference_sets (outcome.Wanted value) ty = refl
by_reference_sets outcome.Dropped ty = refl
by_reference_sets outcome.Returned ty = refl

-- parameters with one more operand
topped_few : (params : List ValType) (top : ValType) → length (params ++ top ∷ []) ≤ length params + 1
topped_few params top = simp length-append (omega arith)

pub indirect_gives : (context : BodyContext) (set : List ℕ) (outcome : Outcome) (function : FuncType) (values : List ValType) (table ty : ℕ)
    (d : TableType) → IsOrderly context.types → IsOutcome context outcome → AreValid context function.params
    → AreValid context function.results
    → is_fit_type context outcome ty ≡ true → is_function_table context table ≡ true → func_in (slice_get context.types ty) ≡ Some function
    → IsLeft context outcome values
    → IsNode context set values (node_of (function.params ++ address (get_or context.tables table d).table64 ∷ [])
    (indirect_instr outcome table ty) (dropped_of outcome function))
indirect_gives context set outcome function values table ty d orderly valid params results fit is at left =
    let wide = (get_or context.tables table d).table64 in
    let there = func_there context.types ty function at in
    let fit' = fit_type context outcome ty function fit at in
    let of = function_table context table d orderly is in
    outcome_gives context set outcome function (function.params ++ address wide ∷ []) values (indirect_instr outcome table ty) orderly valid
    results fit' left
    (λ more given gives. indirect_typed context (set ++ more) outcome function table ty wide given orderly fit' of there gives)
    (indirect_sets outcome table ty)
    (func_wide context.types ty function there) (topped_few function.params (address wide))
    (All-push (IsValid context) function.params (address wide) params (address_valid context wide))

pub by_reference_gives : (context : BodyContext) (set : List ℕ) (outcome : Outcome) (function : FuncType) (values : List ValType) (ty : ℕ)
    → IsOrderly context.types → IsOutcome context outcome → AreValid context function.params → AreValid context function.results
    → IsTrue context.features.reference_types → IsTrue context.features.gc → is_fit_type context outcome ty ≡ true
    → func_in (slice_get context.types ty) ≡ Some function → IsLeft context outcome values
    → IsNode context set values (node_of (function.params ++ nullable_to (Concrete ty) ∷ []) (by_reference_instr outcome ty)
    (dropped_of outcome function))
by_reference_gives context set outcome function values ty orderly valid params results on gc fit at left =
    let (t, type_at, is) = func_there context.types ty function at in
    let fit' = fit_type context outcome ty function fit at in
    let operand : IsValid context (nullable_to (Concrete ty)) =
    (on, record { heap_type = (gc, slice_get_within context.types ty t type_at); nullable = λ h. cc }) in
    outcome_gives context set outcome function (function.params ++ nullable_to (Concrete ty) ∷ []) values (by_reference_instr outcome ty)
    orderly valid results fit' left
    (λ more given gives. by_reference_typed context (set ++ more) outcome function ty given orderly fit' (t, type_at, is) gives)
    (by_reference_sets outcome ty)
    (func_wide context.types ty function (t, type_at, is)) (topped_few function.params (nullable_to (Concrete ty)))
    (All-push (IsValid context) function.params (nullable_to (Concrete ty)) params operand)

pub return_call_gives : (context : BodyContext) (set : List ℕ) (function : FuncType) (values : List ValType) (index : ℕ)
    → IsOrderly context.types → AreValid context function.params → AreValid context function.results
    → is_returnable context index ≡ true → function_at context index ≡ Some function → AreValid context values
    → IsNode context set values (node_of function.params (instr.ReturnCall index) 0)
return_call_gives context set function values index orderly params results is at left =
    let (ty, type_at, there) = function_there context index function at in
    let fit : is_fit context.types context.results outcome.Returned function ≡ true =
    subst (λ (o : Option FuncType). is_fit_in context.types context.results outcome.Returned o ≡ true) at is in
    outcome_gives context set outcome.Returned function function.params values (instr.ReturnCall index) orderly tt results fit left
    (λ more given gives. (
      function,
      (ty, type_at, there),
      all_below context.types orderly function.results context.results fit,
      ([], refl, gives),
    )) refl
    (func_wide context.types ty function there) (omega arith) params

-- the type of a function that may be named
named_tested : (context : BodyContext) (outcome : Outcome) (place ty : ℕ) → named_type context place ≡ Some ty
    → is_fit_type context outcome ty ≡ is_fit_named context outcome place
named_tested context outcome place ty is =
    sym (ap (λ (o : Option ℕ). is_fit_in context.types context.results outcome (function_in context.types o)) is)

pub named_fits : (context : BodyContext) (outcome : Outcome) (place : ℕ) (ty : Option ℕ) → is_fit_named context outcome place ≡ true
    → ty ≡ named_type context place → IfSome ty (λ index. is_fit_type context outcome index ≡ true)
named_fits context outcome place (Some ty) fit is = named_tested context outcome place ty (sym is) ∙ fit
named_fits context outcome place None fit is = tt

-- the type of a function that is called by a reference
pub named_none : (context : BodyContext) (outcome : Outcome) (bytes left : List ℕ)
    → chunk_at (is_fit_named context outcome) (length context.references) bytes ≡ (None, left)
    → named_type_at context outcome bytes ≡ (None, left)
named_none context outcome bytes left drawn = given_none (named_type context) _ left drawn

pub named_there : (context : BodyContext) (outcome : Outcome) (bytes left : List ℕ) (place : ℕ) (ty : Option ℕ)
    → chunk_at (is_fit_named context outcome) (length context.references) bytes ≡ (Some place, left) → ty ≡ named_type context place
    → named_type_at context outcome bytes ≡ (ty, left)
named_there context outcome bytes left place ty drawn is = given_some (named_type context) _ left place ty drawn (sym is)

pub referred_named : (context : BodyContext) (outcome : Outcome) (bytes left : List ℕ) (number : ℕ)
    → range_at 0 15 bytes ≡ (number, left) → number < 15
    → referred_type_at context outcome bytes ≡ named_type_at context outcome left
referred_named context outcome bytes left number drawn less = rw (drawn, ne_eqb number 15 (λ same. absurd (omega arith))) refl

pub referred_any : (context : BodyContext) (outcome : Outcome) (bytes left : List ℕ) → range_at 0 15 bytes ≡ (15, left)
    → referred_type_at context outcome bytes ≡ fit_type_at context outcome left
referred_any context outcome bytes left drawn = rw drawn refl

-- a function that is drawn once or twice
called_by : (context : BodyContext) (draw : List ℕ → Option ℕ × List ℕ) (bytes left : List ℕ) (first : Option ℕ) (own : Bool)
    → draw bytes ≡ (first, left) → own ≡ may_be_own context first
    → called_at context draw bytes ≡ (if own then draw left else (first, left))
called_by context draw bytes left first own drawn is =
    ap (λ (r : Option ℕ × List ℕ). if may_be_own context r.0 then draw r.1 else r) drawn
    ∙ ap (λ (b : Bool). if b then draw left else (first, left)) (sym is)

pub called_once : (context : BodyContext) (draw : List ℕ → Option ℕ × List ℕ) (bytes left : List ℕ) (first : Option ℕ) (own : Bool)
    → draw bytes ≡ (first, left) → own ≡ may_be_own context first → own ≡ false
    → called_at context draw bytes ≡ (first, left)
called_once context draw bytes left first own drawn is other =
    called_by context draw bytes left first own drawn is
    ∙ ap (λ (b : Bool). if b then draw left else (first, left)) other

pub called_again : (context : BodyContext) (draw : List ℕ → Option ℕ × List ℕ) (bytes left : List ℕ) (first : Option ℕ) (own : Bool)
    → draw bytes ≡ (first, left) → own ≡ may_be_own context first → own ≡ true
    → called_at context draw bytes ≡ draw left
called_again context draw bytes left first own drawn is again =
    called_by context draw bytes left first own drawn is
    ∙ ap (λ (b : Bool). if b then draw left else (first, left)) again

-- the chosen call
pub indirect_none : (context : BodyContext) (outcome : Outcome) (bytes left : List ℕ) → fit_type_at context outcome bytes ≡ (None, left)
    → indirect_at context outcome bytes ≡ (None, left)
unfolding indirect_at
indirect_none context outcome bytes left drawn = ap (λ (ty : Option ℕ × List ℕ). indirect_by context outcome ty.0 ty.1) drawn

pub indirect_without : (context : BodyContext) (outcome : Outcome) (bytes middle left : List ℕ) (ty : ℕ) → fit_type_at context outcome bytes
    ≡ (Some ty, middle) → chunk_at (is_function_table context) (indexed (length context.tables)) middle ≡ (None, left)
    → indirect_at context outcome bytes ≡ (None, left)
unfolding indirect_at
indirect_without context outcome bytes middle left ty drawn drawn' =
    ap (λ (ty : Option ℕ × List ℕ). indirect_by context outcome ty.0 ty.1) drawn
    ∙ ap (λ (table : Option ℕ × List ℕ). giving (λ table. indirect_node outcome ty table (func_in (slice_get context.types ty))
    (slice_get context.tables table)) table) drawn'

pub indirect_there : (context : BodyContext) (outcome : Outcome) (bytes middle left : List ℕ) (ty table : ℕ) (function : FuncType)
    (d : TableType) → fit_type_at context outcome bytes ≡ (Some ty, middle)
    → chunk_at (is_function_table context) (indexed (length context.tables)) middle ≡ (Some table, left) → table < length context.tables
    → func_in (slice_get context.types ty) ≡ Some function
    → indirect_at context outcome bytes
    ≡ (
      Some (node_of (function.params ++ address (get_or context.tables table d).table64 ∷ []) (indirect_instr outcome table ty)
          (dropped_of outcome function)),
      left,
    )
unfolding indirect_at
indirect_there context outcome bytes middle left ty table function d drawn drawn' inside at =
    ap (λ (ty : Option ℕ × List ℕ). indirect_by context outcome ty.0 ty.1) drawn
    ∙ (ap (λ (table : Option ℕ × List ℕ). giving (λ table. indirect_node outcome ty table (func_in (slice_get context.types ty))
    (slice_get context.tables table)) table) drawn'
    ∙ (ap (λ (o : Option FuncType). (indirect_node outcome ty table o (slice_get context.tables table), left)) at
    ∙ ap (λ (o : Option TableType). (indirect_node outcome ty table (Some function) o, left))
    (slice_get-get_or context.tables table d inside)))

pub by_reference_off : (context : BodyContext) (outcome : Outcome) (bytes : List ℕ)
    → (context.features.reference_types && context.features.gc) ≡ false → by_reference_at context outcome bytes ≡ (None, bytes)
unfolding by_reference_at
by_reference_off context outcome bytes off = rw off refl

pub by_reference_none : (context : BodyContext) (outcome : Outcome) (bytes left : List ℕ)
    → (context.features.reference_types && context.features.gc) ≡ true → referred_type_at context outcome bytes ≡ (None, left)
    → by_reference_at context outcome bytes ≡ (None, left)
unfolding by_reference_at
by_reference_none context outcome bytes left on drawn =
    rw on (ap (λ (ty : Option ℕ × List ℕ). giving (by_reference_node context outcome) ty) drawn)

pub by_reference_there : (context : BodyContext) (outcome : Outcome) (bytes left : List ℕ) (ty : ℕ) (function : FuncType)
    → (context.features.reference_types && context.features.gc) ≡ true → referred_type_at context outcome bytes ≡ (Some ty, left)
    → func_in (slice_get context.types ty) ≡ Some function
    → by_reference_at context outcome bytes
    ≡ (
      Some (node_of (function.params ++ nullable_to (Concrete ty) ∷ []) (by_reference_instr outcome ty) (dropped_of outcome function)),
      left,
    )
unfolding by_reference_at
by_reference_there context outcome bytes left ty function on drawn at =
    rw on (ap (λ (ty : Option ℕ × List ℕ). giving (by_reference_node context outcome) ty) drawn
    ∙ ap (λ (o : Option FuncType). (
      option_map (λ (function : FuncType). node_of (function.params ++ nullable_to (Concrete ty) ∷ [])
          (by_reference_instr outcome ty) (dropped_of outcome function)) o,
      left,
    )) at)

pub return_call_none : (context : BodyContext) (bytes left : List ℕ) → chunk_at (is_returnable context) (indexed (length context.funcs))
    bytes ≡ (None, left) → return_call_at context bytes ≡ (None, left)
unfolding return_call_at
return_call_none context bytes left drawn = ap (λ (index : Option ℕ × List ℕ). giving (return_call_node context) index) drawn

pub return_call_there : (context : BodyContext) (bytes left : List ℕ) (index : ℕ) (function : FuncType)
    → chunk_at (is_returnable context) (indexed (length context.funcs)) bytes ≡ (Some index, left) → function_at context index
    ≡ Some function
    → return_call_at context bytes ≡ (Some (node_of function.params (instr.ReturnCall index) 0), left)
unfolding return_call_at
return_call_there context bytes left index function drawn at =
    ap (λ (index : Option ℕ × List ℕ). giving (return_call_node context) index) drawn
    ∙ ap (λ (o : Option FuncType). (option_map (λ (function : FuncType). node_of function.params (instr.ReturnCall index) 0) o, left)) at

pub tail_call_direct : (context : BodyContext) (bytes middle : List ℕ) → range_at 0 2 bytes ≡ (0, middle) → tail_call_at context bytes
    ≡ return_call_at context middle
unfolding tail_call_at
tail_call_direct context bytes middle drawn = rw drawn refl

pub tail_call_indirect : (context : BodyContext) (bytes middle : List ℕ) → range_at 0 2 bytes ≡ (1, middle) → tail_call_at context bytes
    ≡ indirect_at context outcome.Returned middle
unfolding tail_call_at
tail_call_indirect context bytes middle drawn = rw drawn refl

pub tail_call_by_reference : (context : BodyContext) (bytes middle : List ℕ) → range_at 0 2 bytes ≡ (2, middle) → tail_call_at context bytes
    ≡ by_reference_at context outcome.Returned middle
unfolding tail_call_at
tail_call_by_reference context bytes middle drawn = rw drawn refl
