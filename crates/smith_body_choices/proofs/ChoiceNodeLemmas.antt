-- Calls, drops, and instructions on locals and globals leave the values of their definitions.
use Rattle.std.specs.Prelude.{slice_get, All}
use Rattle.smith_body_choices.proofs.Common.{ap, arith, function_there, Some, sym, ◌∙◌, ◌≡◌}
use Rattle.std.proofs.Common.{[], drop, get_or, length, List, Option, refl, subst, true, ℕ, ◌++◌, ◌-◌, ◌<◌, ◌∷◌, ◌≤◌}
use Rattle.std.proofs.lemmas.List.{append-nil}
use Rattle.std.proofs.lemmas.List.Elements.{All-drop}
use Rattle.std.proofs.lemmas.Option.{same_Some, slice_get-get_or, slice_get_within}
use Rattle.smith_types.specs.Subtyping.{IsValBelow}
use Rattle.smith_types.specs.Types.{IsOrderly}
use Rattle.smith_types.specs.Syntax.value_type.ValType.{ValType}
use Rattle.smith_types.specs.Syntax.composite_type.FuncType.{FuncType}
use Rattle.smith_types.specs.Syntax.entity_type.GlobalType.{GlobalType}
use Rattle.smith_instr.specs.Contexts.{BodyContext, IsValid, AreValid, AreBelow, IsFunction}
use Rattle.smith_instr.specs.declared.instr.Instr.TheVariants as instr
use Rattle.smith_instr.proofs.SequenceLemmas.{below_themselves}
use Rattle.smith_body_nodes.specs.Nodes.{IsNode, node_of, setting}
use Rattle.smith_body_nodes.specs.Offered.{is_callable, is_callable_at, function_at, IsLocalBelow, IsGlobalMutable}
use Rattle.smith_body_nodes.proofs.NodeLemmas.{AreParamsValid, first_below, func_wide, no_valid, one_valid, three_wide, zip_length}

pub tee_node : (context : BodyContext) (set : List ℕ) (wanted : ValType) (index : ℕ) (d : ValType) → IsValid context wanted
    → AreValid context context.locals → IsLocalBelow context wanted index
    → IsNode context set (wanted ∷ []) (setting index (get_or context.locals index d) (instr.LocalTee index))
tee_node context set wanted index d wanted_valid valid (value, at, below) =
    let inside : index < length context.locals = slice_get_within context.locals index value at in
    let here : slice_get context.locals index ≡ Some (get_or context.locals index d) = slice_get-get_or context.locals index d inside in
    let same : value ≡ get_or context.locals index d = same_Some value (get_or context.locals index d) (sym at ∙ here) in
    record {
      results = get_or context.locals index d ∷ [];
      dropped = [];
      typed = λ more. (get_or context.locals index d, here, (refl, refl));
      below = (subst (λ (v : ValType). IsValBelow context.types v wanted) same below, tt);
      given = one_valid context wanted wanted_valid;
      spare = no_valid context;
      drops = refl;
      sets_local = refl;
      few = let wide = three_wide context.types in omega arith;
      valid = one_valid context (get_or context.locals index d) (valid index d inside);
      inside = tt;
    }

pub set_node : (context : BodyContext) (set : List ℕ) (index : ℕ) (d : ValType) → AreValid context context.locals
    → index < length context.locals
    → IsNode context set [] (setting index (get_or context.locals index d) (instr.LocalSet index))
set_node context set index d valid inside = record {
  results = [];
  dropped = [];
  typed = λ more. (get_or context.locals index d, slice_get-get_or context.locals index d inside, (refl, refl));
  below = tt;
  given = no_valid context;
  spare = no_valid context;
  drops = refl;
  sets_local = refl;
  few = let wide = three_wide context.types in omega arith;
  valid = one_valid context (get_or context.locals index d) (valid index d inside);
  inside = tt;
}

pub drop_node : (context : BodyContext) (set : List ℕ) (value : ValType) → IsValid context value
    → IsNode context set [] (node_of (value ∷ []) instr.Drop 0)
drop_node context set value valid = record {
  results = [];
  dropped = [];
  typed = λ more. (value, (refl, refl));
  below = tt;
  given = no_valid context;
  spare = no_valid context;
  drops = refl;
  sets_local = refl;
  few = let wide = three_wide context.types in omega arith;
  valid = one_valid context value valid;
  inside = tt;
}

pub global_set_node : (context : BodyContext) (set : List ℕ) (index : ℕ) (d : GlobalType)
    → All (λ (global : GlobalType). IsValid context global.val_type) context.globals → IsGlobalMutable context index
    → IsNode context set [] (node_of ((get_or context.globals index d).val_type ∷ []) (instr.GlobalSet index) 0)
global_set_node context set index d valid (global, at, mutable) =
    let inside : index < length context.globals = slice_get_within context.globals index global at in
    let here : slice_get context.globals index ≡ Some (get_or context.globals index d) = slice_get-get_or context.globals index d inside in
    let same : global ≡ get_or context.globals index d = same_Some global (get_or context.globals index d) (sym at ∙ here) in
    record {
      results = [];
      dropped = [];
      typed = λ more. (get_or context.globals index d, here, sym (ap (λ (g : GlobalType). g.mutable) same) ∙ mutable, (refl, refl));
      below = tt;
      given = no_valid context;
      spare = no_valid context;
      drops = refl;
      sets_local = refl;
      few = let wide = three_wide context.types in omega arith;
      valid = one_valid context (get_or context.globals index d).val_type (valid index d inside);
      inside = tt;
    }

call_node : (context : BodyContext) (set : List ℕ) (values dropped : List ValType) (index : ℕ) (function : FuncType)
    → AreParamsValid context → AreValid context values → AreValid context dropped → IsFunction context index function
    → AreBelow context function.results (values ++ dropped) → length dropped ≤ length function.results
    → IsNode context set values (node_of function.params (instr.Call index) (length dropped))
call_node context set values dropped index function scope given spare (ty, at, there) below less = record {
  results = function.results;
  dropped = dropped;
  typed = λ more. (function, (ty, at, there), (refl, refl));
  below = below;
  given = given;
  spare = spare;
  drops = refl;
  sets_local = refl;
  few = let wide = func_wide context.types ty function there in omega arith;
  valid = scope ty function there;
  inside = tt;
}

-- a function whose results are dropped
pub any_call_node : (context : BodyContext) (set : List ℕ) (index : ℕ) (function : FuncType) → AreParamsValid context
    → AreValid context function.results → IsFunction context index function
    → IsNode context set [] (node_of function.params (instr.Call index) (length function.results))
any_call_node context set index function scope results there =
    call_node context set [] function.results index function scope (no_valid context) results there
    (below_themselves context.types function.results) (omega arith)

-- a function whose first result matches the wanted type
pub call_for : (context : BodyContext) (set : List ℕ) (wanted : ValType) (index : ℕ) (function : FuncType) → IsOrderly context.types
    → AreParamsValid context → AreValid context function.results → IsValid context wanted
    → is_callable context wanted index ≡ true → function_at context index ≡ Some function
    → IsNode context set (wanted ∷ []) (node_of function.params (instr.Call index) (length function.results - 1))
call_for context set wanted index function orderly params results valid callable at =
    let callable' : is_callable_at context.types wanted (Some function) ≡ true =
    subst (λ (o : Option FuncType). is_callable_at context.types wanted o ≡ true) at callable in
    let zip = first_below context.types orderly wanted function.results callable' in
    let same : length function.results ≡ length (wanted ∷ drop 1 function.results) =
    zip_length _ function.results (wanted ∷ drop 1 function.results) zip in
    let less : length (drop 1 function.results) ≡ length function.results - 1 = omega arith in
    rw (← less) (call_node context set (wanted ∷ []) (drop 1 function.results) index function params (one_valid context wanted valid)
    (All-drop (IsValid context) 1 function.results results) (function_there context index function at) zip (omega arith))

-- `unreachable` in place of any values
pub stop_node : (context : BodyContext) (set : List ℕ) (values : List ValType) → AreValid context values
    → IsNode context set values (node_of [] instr.Unreachable 0)
stop_node context set values valid = record {
  results = values;
  dropped = [];
  typed = λ more. ([], refl, valid);
  below = rw append-nil (below_themselves context.types values);
  given = valid;
  spare = no_valid context;
  drops = refl;
  sets_local = refl;
  few = let wide = three_wide context.types in omega arith;
  valid = no_valid context;
  inside = tt;
}
