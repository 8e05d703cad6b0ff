-- Offered items have the wanted property.
use Rattle.smith_body_nodes.proofs.Common.{[], ap, arith, BodyContext, Bool, F32, F64, false, I32, I64, is_val_below, IsOrderly, IsValBelow}
use Rattle.smith_body_nodes.proofs.Common.{List, None, Option, option_map, Ref, refl, RefType, same_Some, slice_get, Some, SubType, suc}
use Rattle.smith_body_nodes.proofs.Common.{true, V128, ValType, ℕ, ◌&&◌, ◌<◌, ◌||◌, ◌∷◌, ◌≡◌}
use Rattle.std.proofs.Common.{inl, inr, ◌⊎◌}
use Rattle.std.specs.Prelude.{nat_lt, ◌==◌}
use Rattle.std.specs.List.{AllZip, Contains}
use Rattle.std.specs.Cmp.{unsigned_Decides}
use Rattle.std.proofs.lemmas.Bool.{ltb-true}
use Rattle.smith_types.specs.Entities.{IsFuncAt}
use Rattle.smith_types.specs.Expressions.{IsDefaultable}
use Rattle.smith_types.specs.Syntax.composite_type.CompositeInnerType.{CompositeInnerType}
use Rattle.smith_types.specs.Syntax.composite_type.CompositeInnerType.TheVariants.{Array, Func, Struct}
use Rattle.smith_types.specs.Syntax.composite_type.FuncType.{FuncType}
use Rattle.smith_types.specs.Syntax.entity_type.GlobalType.{GlobalType}
use Rattle.smith_types.specs.Syntax.entity_type.MemoryType.{MemoryType}
use Rattle.smith_draw_types.proofs.BelowLemmas.{val_decides}
use Rattle.smith_instr.specs.Contexts.{address, IsFunction}
use Rattle.smith_instr.specs.SetLocals.{is_among}
use Rattle.smith_instr.proofs.AmongLemmas.{among}
use Rattle.smith_instr.specs.InstrTypes.{IsTaken}
use Rattle.smith_body_nodes.specs.Scopes.{context_of, bare}
use Rattle.smith_body_nodes.specs.Offered.{is_below_at, is_local_below, has_default, is_readable_at, is_readable}
use Rattle.smith_body_nodes.specs.Offered.{is_global_below_at, is_global_below, is_mutable_at, is_mutable, func_of, func_in, function_in}
use Rattle.smith_body_nodes.specs.Offered.{function_at, are_below, is_target_at, is_target, is_address, is_addressed_at, is_addressed}
use Rattle.smith_body_nodes.specs.Offered.{IsLocalBelow, IsReadable, IsGlobalBelow, IsGlobalMutable}
use Rattle.smith_body_nodes.specs.declared.scope.Scope.{Scope}

pub both : (a b : Bool) → (a && b) ≡ true → (a ≡ true) × (b ≡ true)
both true b e = (refl, e)
both false b e = cc

pub either : (a b : Bool) → (a || b) ≡ true → (a ≡ true) ⊎ (b ≡ true)
either true b e = inl refl
either false b e = inr e

pub tested : (types : List SubType) → IsOrderly types → (value wanted : ValType) → is_val_below types value wanted ≡ true
    → IsValBelow types value wanted
tested types orderly value wanted is = (val_decides types orderly value wanted).0 is

local_below_at : (context : BodyContext) (wanted : ValType) (index : ℕ) (o : Option ValType) → IsOrderly context.types
    → slice_get context.locals index ≡ o
    → is_below_at context.types wanted o ≡ true → IsLocalBelow context wanted index
local_below_at context wanted index (Some value) orderly at is = (value, at, tested context.types orderly value wanted is)
local_below_at context wanted index None orderly at is = cc

pub local_below : (context : BodyContext) (wanted : ValType) (index : ℕ) → IsOrderly context.types → is_local_below context wanted index
    ≡ true → IsLocalBelow context wanted index
local_below context wanted index orderly is = local_below_at context wanted index (slice_get context.locals index) orderly refl is

-- an element segment whose type matches the wanted type
pub segment_below_at : (context : BodyContext) (wanted : ValType) (segment : ℕ) (o : Option RefType) → IsOrderly context.types
    → slice_get context.elems segment ≡ o → is_below_at context.types wanted (option_map Ref o) ≡ true
    → (element : RefType) × (slice_get context.elems segment ≡ Some element) × IsValBelow context.types (Ref element) wanted
segment_below_at context wanted segment (Some element) orderly at is = (element, at, tested context.types orderly (Ref element) wanted is)
segment_below_at context wanted segment None orderly at is = cc

defaultable : (value : ValType) → has_default value ≡ true → IsDefaultable value
defaultable I32 is = tt
defaultable I64 is = tt
defaultable F32 is = tt
defaultable F64 is = tt
defaultable V128 is = tt
defaultable (Ref reference) is = is

readable_at : (context : BodyContext) (set : List ℕ) (wanted : ValType) (index : ℕ) (o : Option ValType) → IsOrderly context.types
    → slice_get context.locals index ≡ o
    → is_readable_at context set wanted index o ≡ true → IsReadable context set wanted index
readable_at context set wanted index None orderly at is = cc
readable_at context set wanted index (Some value) orderly at is =
    let (ready, below) = both ((nat_lt index context.params || has_default value) || is_among index set)
    (is_val_below context.types value wanted) is in
    let set_there : (index < context.params) ⊎ (IsDefaultable value ⊎ Contains set index) =
    elim (either (nat_lt index context.params || has_default value) (is_among index set) ready) [
      | inr contained ↦ inr (inr (among index set contained))
      | inl always ↦ elim (either (nat_lt index context.params) (has_default value) always) [
        | inl early ↦ inl (ltb-true index context.params early)
        | inr has ↦ inr (inl (defaultable value has))
      ]
    ] in
    (value, (at, set_there), tested context.types orderly value wanted below)

pub readable : (context : BodyContext) (set : List ℕ) (wanted : ValType) (index : ℕ) → IsOrderly context.types
    → is_readable context set wanted index ≡ true → IsReadable context set wanted index
readable context set wanted index orderly is = readable_at context set wanted index (slice_get context.locals index) orderly refl is

global_below_at : (context : BodyContext) (wanted : ValType) (index : ℕ) (o : Option GlobalType) → IsOrderly context.types
    → slice_get context.globals index ≡ o
    → is_global_below_at context.types wanted o ≡ true → IsGlobalBelow context wanted index
global_below_at context wanted index (Some global) orderly at is = (global, at, tested context.types orderly global.val_type wanted is)
global_below_at context wanted index None orderly at is = cc

pub global_below : (context : BodyContext) (wanted : ValType) (index : ℕ) → IsOrderly context.types → is_global_below context wanted index
    ≡ true → IsGlobalBelow context wanted index
global_below context wanted index orderly is = global_below_at context wanted index (slice_get context.globals index) orderly refl is

mutable_at : (context : BodyContext) (index : ℕ) (o : Option GlobalType) → slice_get context.globals index ≡ o → is_mutable_at o ≡ true
    → IsGlobalMutable context index
mutable_at context index (Some global) at is = (global, at, is)
mutable_at context index None at is = cc

pub mutable_there : (context : BodyContext) (index : ℕ) → is_mutable context index ≡ true → IsGlobalMutable context index
mutable_there context index is = mutable_at context index (slice_get context.globals index) refl is

inner_func : (x : CompositeInnerType) (function : FuncType) → func_of x ≡ Some function → x ≡ Func function
inner_func (Func f) function is = ap Func (same_Some f function is)
inner_func (Array array) function is = cc
inner_func (Struct structure) function is = cc

func_at_option : (types : List SubType) (index : ℕ) (function : FuncType) (o : Option SubType) → slice_get types index ≡ o
    → func_in o ≡ Some function → IsFuncAt types index function
func_at_option types index function (Some t) at is = (t, at, inner_func t.composite_type.inner function is)
func_at_option types index function None at is = cc

pub func_there : (types : List SubType) (index : ℕ) (function : FuncType) → func_in (slice_get types index) ≡ Some function
    → IsFuncAt types index function
func_there types index function is = func_at_option types index function (slice_get types index) refl is

function_option : (context : BodyContext) (index : ℕ) (function : FuncType) (o : Option ℕ) → slice_get context.funcs index ≡ o
    → function_in context.types o ≡ Some function → IsFunction context index function
function_option context index function (Some ty) at is = (ty, at, func_there context.types ty function is)
function_option context index function None at is = cc

pub function_there : (context : BodyContext) (index : ℕ) (function : FuncType) → function_at context index ≡ Some function
    → IsFunction context index function
function_there context index function is = function_option context index function (slice_get context.funcs index) refl is

pub all_below : (types : List SubType) → IsOrderly types → (values wanted : List ValType) → are_below types values wanted ≡ true
    → AllZip (IsValBelow types) values wanted
all_below types orderly [] [] is = tt
all_below types orderly [] (w ∷ wanted) is = cc
all_below types orderly (v ∷ values) [] is = cc
all_below types orderly (v ∷ values) (w ∷ wanted) is =
    let (first, more) = both (is_val_below types v w) (are_below types values wanted) is in
    (tested types orderly v w first, all_below types orderly values wanted more)

target_at : (scope : Scope) (labels : List (List ValType)) (taken : List ValType) (index : ℕ) (o : Option (List ValType))
    → IsOrderly (bare scope).types → slice_get labels index ≡ o
    → is_target_at (bare scope).types taken o ≡ true → IsTaken (context_of scope labels) taken index
target_at scope labels taken index (Some label) orderly at is = (label, at, all_below (bare scope).types orderly taken label is)
target_at scope labels taken index None orderly at is = cc

pub target_there : (scope : Scope) (labels : List (List ValType)) (taken : List ValType) (index : ℕ) → IsOrderly (bare scope).types
    → is_target (bare scope).types labels taken index ≡ true → IsTaken (context_of scope labels) taken index
target_there scope labels taken index orderly is = target_at scope labels taken index (slice_get labels index) orderly refl is

pub is_this_address : (wanted : ValType) (wide : Bool) → is_address wanted wide ≡ true → wanted ≡ address wide
is_this_address I32 true is = cc
is_this_address I32 false is = refl
is_this_address I64 true is = refl
is_this_address I64 false is = cc
is_this_address F32 wide is = cc
is_this_address F64 wide is = cc
is_this_address V128 wide is = cc
is_this_address (Ref reference) wide is = cc

addressed_at : (context : BodyContext) (wanted : ValType) (index : ℕ) (o : Option MemoryType) → slice_get context.memories index ≡ o
    → is_addressed_at wanted o ≡ true
    → (memory : MemoryType) × (slice_get context.memories index ≡ Some memory) × (wanted ≡ address memory.memory64)
addressed_at context wanted index (Some memory) at is = (memory, at, is_this_address wanted memory.memory64 is)
addressed_at context wanted index None at is = cc

-- a memory whose addresses have the wanted type
pub addressed : (context : BodyContext) (wanted : ValType) (index : ℕ) → is_addressed context wanted index ≡ true
    → (memory : MemoryType) × (slice_get context.memories index ≡ Some memory) × (wanted ≡ address memory.memory64)
addressed context wanted index is = addressed_at context wanted index (slice_get context.memories index) refl is
