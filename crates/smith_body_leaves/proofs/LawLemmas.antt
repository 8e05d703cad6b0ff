-- Where `unreachable` is drawn for a value, no other instructions that take no budget produce one.
use Rattle.smith_body_leaves.proofs.Common.{[], Abstract, ap, arith, BodyContext, Bool, both, CompositeInnerType, Config, created_reference}
use Rattle.smith_body_leaves.proofs.Common.{external, F32, F64, false, field_values, FieldType, HeapType, I32, I64, IfSome, if◌then◌else◌}
use Rattle.smith_body_leaves.proofs.Common.{Instr, internal, is_created_below, is_created_struct, is_global_below, is_named, is_permitted}
use Rattle.smith_body_leaves.proofs.Common.{is_readable, is_reference, is_some, is_val_below, IsOrderly, IsValBelow, length, List, None}
use Rattle.smith_body_leaves.proofs.Common.{offered, Option, option_map, pos, Ref, reference_to_function, refl, slice_get, slice_get-get_or}
use Rattle.smith_body_leaves.proofs.Common.{Some, struct_in, subst, SubType, suc, sym, true, unpacked, V128, ValType, zero, ℕ, ◌&&◌, ◌++◌}
use Rattle.smith_body_leaves.proofs.Common.{◌<◌, ◌∙◌, ◌∷◌, ◌≡◌}
use Rattle.std.specs.Prelude.{Any, IsTrue, option_and_then, unwrap_or}
use Rattle.std.proofs.lemmas.Option.{get_or_from_slice_get, slice_get_within}
use Rattle.smith_bytes.specs.Draws.{choose_at}
use Rattle.smith_types.specs.Expressions.{IsStructAt}
use Rattle.smith_types.specs.Syntax.Features.{Features}
use Rattle.smith_types.specs.Syntax.composite_type.StructType.{StructType}
use Rattle.smith_types.specs.Syntax.value_type.AbstractHeapType.TheVariants as abstract
use Rattle.smith_instr.specs.Contexts.{nullable_to}
use Rattle.smith_instr.specs.Enabled.{is_enabled}
use Rattle.smith_instr.specs.InstrTypes.{IsNumberOrVector}
use Rattle.smith_instr.specs.declared.aggregate.AggregateInstr.TheVariants as aggregate
use Rattle.smith_instr.specs.declared.instr.Instr.TheVariants as instr
use Rattle.smith_instr.specs.declared.reference.ReferenceInstr.TheVariants as reference
use Rattle.smith_body_leaves.specs.Laws.{HasNoOther, HasNoSingle, HasNoValue, IsConversion, IsI31Creation, IsIndex, IsNumber, IsOther}
use Rattle.smith_body_leaves.specs.Laws.{IsOtherOver, IsOtherTaking, IsTried}
use Rattle.smith_body_leaves.specs.Leaves.{constant_instr_at, conversion_over, conversion_to, conversion_to_type, created_at, created_from}
use Rattle.smith_body_leaves.specs.Leaves.{created_type, creation_of, creation_over, default_struct, empty_array, fields_at, fields_in}
use Rattle.smith_body_leaves.specs.Leaves.{first_constant, first_leaf, first_of, first_single, first_tried, have_singles, i31_by}
use Rattle.smith_body_leaves.specs.Leaves.{i31_creation, i31_leaf, i31_number, i31_of, i31_type, i31_with, if_permitted, instructions_of}
use Rattle.smith_body_leaves.specs.Leaves.{is_created, is_created_in, leaf_of, leaf_within, may_create, named_at, named_type, only}
use Rattle.smith_body_leaves.specs.Leaves.{searches_on, singles, created_over, unary_permitted, value_over, with_last}
use Rattle.smith_body_leaves.specs.declared.leaf.Leaf.{Leaf}
use Rattle.smith_body_leaves.specs.declared.unary.Unary.{Unary}
use Rattle.smith_body_leaves.specs.declared.families.LeafFamily.TheVariants as leaf
use Rattle.smith_body_leaves.specs.FirstCreated.{first_created_array, first_created_struct, is_created_empty}
use Rattle.smith_body_nodes.specs.IndexedTypes.{struct_of}
use Rattle.smith_body_leaves.proofs.FirstLemmas.{chosen_first, none_offered}
use Rattle.smith_body_nodes.specs.Scopes.{indexed}
use Rattle.smith_body_nodes.specs.declared.offer.Reach.TheVariants as reach
use Rattle.smith_body_nodes.proofs.StopLemmas.{stop_forbidden}
use Rattle.smith_body_leaves.proofs.OtherLemmas.{any_top, array_is, below_is, extern_top, first_passes, global_is, readable_is}
use Rattle.smith_body_leaves.proofs.OtherLemmas.{reference_is, struct_is}
use Rattle.smith_body_leaves.proofs.SearchLemmas.{none_both, none_tried, or_some, tried_each}

-- what holds of the value holds of what is made of it
pub mapped_some : {A B : Type 0} (P : B → Type 0) (f : A → B) (o : Option A) → IfSome o (λ x. P (f x)) → IfSome (option_map f o) P
mapped_some P f None some = tt
mapped_some P f (Some x) some = some

-- an instruction that is found is permitted
abbrev pub IsFound : Config → BodyContext → Instr → Type 0
IsFound config context instruction = is_permitted context.features config instruction ≡ true

found_by : (config : Config) (context : BodyContext) (instruction : Instr) (permitted : Bool)
    → is_permitted context.features config instruction ≡ permitted → IfSome (if permitted then Some instruction else None)
    (IsFound config context)
found_by config context instruction true is = is
found_by config context instruction false is = tt

pub found : (config : Config) (context : BodyContext) (o : Option Instr) → IfSome (if_permitted config context o) (IsFound config context)
found config context None = tt
found config context (Some instruction) = found_by config context instruction (is_permitted context.features config instruction) refl

pub single_found : (config : Config) (context : BodyContext) (set : List ℕ) (wanted : ValType)
    → IfSome (first_single config context set wanted) (IsFound config context)
unfolding first_single
single_found config context set wanted =
    let local = found config context (leaf_of context set reach.Whole wanted leaf.Local []).0 in
    let global = found config context (leaf_of context set reach.Whole wanted leaf.Global []).0 in
    let function = found config context (leaf_of context set reach.Whole wanted leaf.Reference []).0 in
    let constant = found config context (Some (constant_instr_at wanted []).0) in
    let struct = found config context (option_map (λ ty. instr.Aggregate (aggregate.StructNewDefault ty))
    (first_created_struct context wanted)) in
    let array = found config context (option_map (λ ty. instr.Aggregate (aggregate.ArrayNewFixed ty 0))
    (first_created_array context wanted)) in
    or_some (IsFound config context) _ _ local
    (or_some (IsFound config context) _ _ global
    (or_some (IsFound config context) _ _ function
    (or_some (IsFound config context) _ _ constant (or_some (IsFound config context) _ _ struct array))))

-- so are those of a value
pub record IsLeafFound (config : Config) (context : BodyContext) (leaf : Leaf) : Type 0 where
  pub value : IsFound config context leaf.value
  pub next : IfSome leaf.next (IsFound config context)
  pub last : IfSome leaf.last (IsFound config context)

pub only_found : (config : Config) (context : BodyContext) (o : Option Instr) → IfSome o (IsFound config context)
    → IfSome (option_map only o) (IsLeafFound config context)
only_found config context None found = tt
only_found config context (Some instruction) found = record { value = found; next = tt; last = tt }

last_found : (config : Config) (context : BodyContext) (instruction : Instr) (o : Option Leaf) → IsFound config context instruction
    → IfSome o (IsLeafFound config context) → IfSome (option_map (with_last instruction) o) (IsLeafFound config context)
last_found config context instruction None is found = tt
last_found config context instruction (Some leaf) is found = record { value = found.value; next = found.last; last = is }

over_found : (config : Config) (context : BodyContext) (operand : ValType → Option Leaf) (o : Option Unary)
    → IfSome o (λ unary. IsFound config context unary.instruction)
    → ((wanted : ValType) → IfSome (operand wanted) (IsLeafFound config context))
    → IfSome (value_over operand o) (IsLeafFound config context)
over_found config context operand None found below = tt
over_found config context operand (Some unary) found below = last_found config context unary.instruction (operand unary.operand) found
    (below unary.operand)

-- an i31
by_found : (config : Config) (context : BodyContext) (wanted : ValType) (shared below : Bool)
    → is_val_below context.types (i31_type shared) wanted ≡ below
    → IfSome (if below then if_permitted config context (Some (i31_of shared)) else None) (IsFound config context)
by_found config context wanted shared true is = found config context (Some (i31_of shared))
by_found config context wanted shared false is = tt

with_found : (config : Config) (context : BodyContext) (creation number : Option Instr) → IfSome creation (IsFound config context)
    → IfSome number (IsFound config context) → IfSome (option_and_then (i31_with number) creation) (IsLeafFound config context)
with_found config context None number is found = tt
with_found config context (Some creation) None is found = tt
with_found config context (Some creation) (Some number) is found = record { value = found; next = tt; last = is }

i31_found : (config : Config) (context : BodyContext) (set : List ℕ) (wanted : ValType) → IfSome (i31_leaf config context set wanted)
    (IsLeafFound config context)
unfolding i31_leaf
i31_found config context set wanted =
    with_found config context (i31_creation config context wanted) (i31_number config context set)
    (or_some (IsFound config context) (i31_by config context wanted false) (i31_by config context wanted true)
    (by_found config context wanted false (is_val_below context.types (i31_type false) wanted) refl)
    (by_found config context wanted true (is_val_below context.types (i31_type true) wanted) refl))
    (or_some (IsFound config context) (if_permitted config context (Some (instr.I32Const (pos 0)))) (first_single config context set I32)
    (found config context (Some (instr.I32Const (pos 0)))) (single_found config context set I32))

-- a conversion, and the creation of a struct of one field
unary_found : (config : Config) (context : BodyContext) (unary : Unary) (permitted : Bool)
    → is_permitted context.features config unary.instruction ≡ permitted → IfSome (if permitted then Some unary else None)
    (λ unary. IsFound config context unary.instruction)
unary_found config context unary true is = is
unary_found config context unary false is = tt

permitted_found : (config : Config) (context : BodyContext) (o : Option Unary) → IfSome (unary_permitted config context o)
    (λ unary. IsFound config context unary.instruction)
permitted_found config context None = tt
permitted_found config context (Some unary) = unary_found config context unary (is_permitted context.features config unary.instruction) refl

creation_found_by : (config : Config) (context : BodyContext) (wanted : ValType) (ty : ℕ) (unary : Unary) (may : Bool)
    → unary.instruction ≡ instr.Aggregate (aggregate.StructNew ty) → may_create config context wanted ty ≡ may
    → IfSome (if may then Some unary else None) (λ unary. IsFound config context unary.instruction)
creation_found_by config context wanted ty unary true same is =
    let (below, permitted) = both (is_created_below context wanted ty)
    (is_permitted context.features config (instr.Aggregate (aggregate.StructNew ty))) is in
    subst (IsFound config context) (sym same) permitted
creation_found_by config context wanted ty unary false same is = tt

creation_found : (config : Config) (context : BodyContext) (wanted : ValType) (ty : ℕ) (fields : List FieldType)
    → IfSome (creation_over config context wanted ty fields) (λ unary. IsFound config context unary.instruction)
creation_found config context wanted ty [] = tt
creation_found config context wanted ty (field ∷ []) =
    creation_found_by config context wanted ty
    (record { instruction = instr.Aggregate (aggregate.StructNew ty); operand = unpacked field.element_type })
    (may_create config context wanted ty) refl refl
creation_found config context wanted ty (field ∷ other ∷ fields) = tt

pub within_found : (config : Config) (context : BodyContext) (set : List ℕ) (more : ℕ) (search : Bool) (wanted : ValType)
    → IfSome (leaf_within config context set more search wanted) (IsLeafFound config context)
unfolding leaf_within
within_found config context set zero search wanted = only_found config context (first_single config context set wanted)
    (single_found config context set wanted)
within_found config context set (suc more) search wanted =
    or_some (IsLeafFound config context) (option_map only (first_single config context set wanted)) _
    (only_found config context (first_single config context set wanted) (single_found config context set wanted))
    (or_some (IsLeafFound config context) (i31_leaf config context set wanted) _ (i31_found config context set wanted)
    (or_some (IsLeafFound config context) (value_over (leaf_within config context set more search) (conversion_to config context wanted)) _
    (over_found config context (leaf_within config context set more search) (conversion_to config context wanted)
    (permitted_found config context (conversion_to_type wanted)) (within_found config context set more search))
    (let below = leaf_within config context set more (searches_on search (named_type wanted)) in
    tried_each (IsLeafFound config context) context search (named_type wanted) (created_over config context below wanted)
    (λ ty. over_found config context below (creation_of config context wanted ty)
    (creation_found config context wanted ty (fields_at context.types ty))
    (within_found config context set more (searches_on search (named_type wanted)))))))

-- a value that is found does not begin with `unreachable`
pub heads : (x y : Instr) (xs ys : List Instr) → x ∷ xs ≡ y ∷ ys → x ≡ y
heads x y xs ys is = cc

pub apart : (config : Config) (context : BodyContext) (o : Option Leaf) (rest : List Instr) → config.disallow_traps ≡ true
    → IfSome o (IsLeafFound config context) → unwrap_or (option_map instructions_of o) rest ≡ instr.Unreachable ∷ []
    → (o ≡ None) × (rest ≡ instr.Unreachable ∷ [])
apart config context None rest trapless all stop = (refl, stop)
apart config context (Some leaf) rest trapless all stop =
    let first : leaf.value ≡ instr.Unreachable = heads leaf.value instr.Unreachable _ _ stop in
    absurd (stop_forbidden context.features config trapless (subst (λ (i : Instr). is_permitted context.features config i ≡ true) first
    all.value))

-- a created value does not end with `unreachable`
not_alone : (xs : List Instr) (last : Instr) → ¬ (last ≡ instr.Unreachable) → xs ++ last ∷ [] ≡ instr.Unreachable ∷ [] → ⊥
not_alone [] last other is = other (heads last instr.Unreachable [] [] is)
not_alone (x ∷ []) last other is = cc
not_alone (x ∷ y ∷ xs) last other is = cc

uncreated : (config : Config) (context : BodyContext) (set : List ℕ) (o : Option ℕ)
    → unwrap_or (option_map (created_from config context set) o) (instr.Unreachable ∷ []) ≡ instr.Unreachable ∷ [] → o ≡ None
uncreated config context set None stop = refl
uncreated config context set (Some ty) stop = absurd (not_alone (singles config context set (field_values (fields_at context.types ty)))
    (instr.Aggregate (aggregate.StructNew ty)) (λ is. cc) stop)

-- no value of few instructions, and no created value
pub both_none : (config : Config) (context : BodyContext) (set : List ℕ) (wanted : ValType) → config.disallow_traps ≡ true
    → first_leaf config context set wanted ≡ instr.Unreachable ∷ [] → (leaf_within config context set 2 true wanted ≡ None)
    × (created_type config context set wanted ≡ None)
unfolding first_leaf
both_none config context set wanted trapless stop =
    let (brief, stop') = apart config context (leaf_within config context set 2 true wanted) _ trapless
    (within_found config context set 2 true wanted) stop in
    (brief, uncreated config context set (created_type config context set wanted) stop')

unmapped : {A B : Type 0} (f : A → B) (o : Option A) → option_map f o ≡ None → o ≡ None
unmapped f None none = refl
unmapped f (Some x) none = cc

-- none of the instructions that are tried in turn
record IsNone (config : Config) (context : BodyContext) (set : List ℕ) (wanted : ValType) : Type 0 where
  local : first_of config context set wanted leaf.Local ≡ None
  global : first_of config context set wanted leaf.Global ≡ None
  function : first_of config context set wanted leaf.Reference ≡ None
  constant : first_constant config context wanted ≡ None
  struct : default_struct config context wanted ≡ None
  array : empty_array config context wanted ≡ None

all_tried : (config : Config) (context : BodyContext) (set : List ℕ) (wanted : ValType) → first_single config context set wanted ≡ None
    → IsNone config context set wanted
unfolding first_single
all_tried config context set wanted none =
    let (local, none) = none_both (first_of config context set wanted leaf.Local) _ none in
    let (global, none) = none_both (first_of config context set wanted leaf.Global) _ none in
    let (function, none) = none_both (first_of config context set wanted leaf.Reference) _ none in
    let (constant, none) = none_both (first_constant config context wanted) _ none in
    let (struct, array) = none_both (default_struct config context wanted) (empty_array config context wanted) none in
    record { local = local; global = global; function = function; constant = constant; struct = struct; array = array }

-- an instruction that is permitted is not left out
forbidden : (config : Config) (context : BodyContext) (instruction : Instr) → if_permitted config context (Some instruction) ≡ None
    → is_permitted context.features config instruction ≡ true → ⊥
forbidden config context instruction none is =
    let never : Some instruction ≡ None = subst (λ (b : Bool). (if b then Some instruction else None) ≡ None) is none in
    cc

not_made : (config : Config) (context : BodyContext) (make : ℕ → Instr) (o : Option ℕ) → if_permitted config context (option_map make o)
    ≡ None → ((other : ℕ) → is_permitted context.features config (make other) ≡ true) → o ≡ None
not_made config context make None none permitted = refl
not_made config context make (Some other) none permitted = absurd (forbidden config context (make other) none (permitted other))

pub first_item : (items : List ℕ) → (choose_at items []).0 ≡ slice_get items 0
first_item items = chosen_first items [] (choose_at items []).1 (choose_at items []).0 refl refl

-- whether an instruction is permitted does not depend on its index
local_permitted : (features : Features) (config : Config) (index other : ℕ) → is_permitted features config (instr.LocalGet index) ≡ true
    → is_permitted features config (instr.LocalGet other) ≡ true
unfolding is_permitted is_enabled
local_permitted features config index other is = is

global_permitted : (features : Features) (config : Config) (index other : ℕ) → is_permitted features config (instr.GlobalGet index) ≡ true
    → is_permitted features config (instr.GlobalGet other) ≡ true
unfolding is_permitted is_enabled
global_permitted features config index other is = is

function_permitted : (features : Features) (config : Config) (function other : ℕ)
    → is_permitted features config (instr.Reference (reference.Func function)) ≡ true
    → is_permitted features config (instr.Reference (reference.Func other)) ≡ true
unfolding is_permitted is_enabled
function_permitted features config function other is = is

null_permitted : (features : Features) (config : Config) (heap_type other : HeapType)
    → is_permitted features config (instr.Reference (reference.Null heap_type)) ≡ true
    → is_permitted features config (instr.Reference (reference.Null other)) ≡ true
unfolding is_permitted is_enabled
null_permitted features config heap_type other is = is

struct_permitted : (features : Features) (config : Config) (ty other : ℕ)
    → is_permitted features config (instr.Aggregate (aggregate.StructNewDefault ty)) ≡ true
    → is_permitted features config (instr.Aggregate (aggregate.StructNewDefault other)) ≡ true
unfolding is_permitted is_enabled
struct_permitted features config ty other is = is

array_permitted : (features : Features) (config : Config) (ty other : ℕ)
    → is_permitted features config (instr.Aggregate (aggregate.ArrayNewFixed ty 0)) ≡ true
    → is_permitted features config (instr.Aggregate (aggregate.ArrayNewFixed other 0)) ≡ true
unfolding is_permitted is_enabled
array_permitted features config ty other is = is

-- the value of an instruction that has one type
typed_below : (types : List SubType) (result value wanted : ValType) → result ∷ [] ≡ value ∷ [] → IsValBelow types result wanted
    → IsValBelow types value wanted
typed_below types result value wanted is below =
    let same : result ≡ value = cc in
    subst (λ (v : ValType). IsValBelow types v wanted) same below

no_local : (config : Config) (context : BodyContext) (set : List ℕ) (wanted : ValType) → IsOrderly context.types
    → first_of config context set wanted leaf.Local ≡ None → (index : ℕ) → IsIndex index → ¬ IsOther config context set wanted
    (instr.LocalGet index)
no_local config context set wanted orderly none index few (is, leaf) =
    let (value, there, (_, results)) = leaf.typed in
    let items = offered (is_readable context set wanted) (indexed (length context.locals)) in
    let unmade = not_made config context (λ index. instr.LocalGet index) (choose_at items []).0 none
    (λ other. local_permitted context.features config index other is) in
    let inside : index < length context.locals = slice_get_within context.locals index value there.0 in
    let below = typed_below context.types leaf.value value wanted results leaf.below in
    none_offered (is_readable context set wanted) (indexed (length context.locals)) index (sym (first_item items) ∙ unmade)
    (omega (arith, inside, few)) (readable_is context set wanted index value orderly there below)

no_global : (config : Config) (context : BodyContext) (set : List ℕ) (wanted : ValType) → IsOrderly context.types
    → first_of config context set wanted leaf.Global ≡ None → (index : ℕ) → IsIndex index → ¬ IsOther config context set wanted
    (instr.GlobalGet index)
no_global config context set wanted orderly none index few (is, leaf) =
    let (global, there, (_, results)) = leaf.typed in
    let items = offered (is_global_below context wanted) (indexed (length context.globals)) in
    let unmade = not_made config context (λ index. instr.GlobalGet index) (choose_at items []).0 none
    (λ other. global_permitted context.features config index other is) in
    let inside : index < length context.globals = slice_get_within context.globals index global there in
    let below = typed_below context.types leaf.value global.val_type wanted results leaf.below in
    none_offered (is_global_below context wanted) (indexed (length context.globals)) index (sym (first_item items) ∙ unmade)
    (omega (arith, inside, few)) (global_is context wanted index global orderly there below)

unnamed : (context : BodyContext) (wanted : ValType) (o : Option ℕ)
    → slice_get (offered (is_reference context wanted) (length context.references)) 0 ≡ o → option_and_then (slice_get context.references) o
    ≡ None → o ≡ None
unnamed context wanted None first none = refl
unnamed context wanted (Some place) first none =
    let passes : is_named context wanted (slice_get context.references place) ≡ true = first_passes (is_reference context wanted)
    (length context.references) place first in
    let never : is_named context wanted None ≡ true = subst (λ (o : Option ℕ). is_named context wanted o ≡ true) none passes in
    cc

no_function : (config : Config) (context : BodyContext) (set : List ℕ) (wanted : ValType) → IsOrderly context.types
    → first_of config context set wanted leaf.Reference ≡ None → (function : ℕ) → ¬ IsOther config context set wanted
    (instr.Reference (reference.Func function))
unfolding named_at
no_function config context set wanted orderly none function (is, leaf) =
    let (index, there, (place, inside, at), (_, results)) = leaf.typed in
    let items = offered (is_reference context wanted) (length context.references) in
    let drawn : (choose_at items []).0 ≡ slice_get items 0 = first_item items in
    let unmade : option_and_then (slice_get context.references) (choose_at items []).0 ≡ None =
    not_made config context (λ function. instr.Reference (reference.Func function))
    (option_and_then (slice_get context.references) (choose_at items []).0) none
    (λ other. function_permitted context.features config function other is) in
    let unnamed' : slice_get items 0 ≡ None = unnamed context wanted (slice_get items 0) refl
    (subst (λ (o : Option ℕ). option_and_then (slice_get context.references) o ≡ None) drawn unmade) in
    let named : slice_get context.references place ≡ Some function = slice_get-get_or context.references place function inside
    ∙ ap (λ (n : ℕ). Some n) at in
    let below = typed_below context.types leaf.value (reference_to_function context function index) wanted results leaf.below in
    none_offered (is_reference context wanted) (length context.references) place unnamed' inside
    (reference_is context wanted place function index orderly named there below)

-- a constant
number_alone : (types : List SubType) (value wanted : ValType) → IsNumberOrVector value → IsValBelow types value wanted → wanted ≡ value
number_alone types I32 I32 numeric below = refl
number_alone types I64 I64 numeric below = refl
number_alone types F32 F32 numeric below = refl
number_alone types F64 F64 numeric below = refl
number_alone types V128 V128 numeric below = refl
number_alone types (Ref reference) wanted numeric below = absurd numeric
number_alone types value wanted numeric below = absurd below

no_constant : (config : Config) (context : BodyContext) (wanted value result : ValType) → IsNumberOrVector value
    → first_constant config context wanted ≡ None → result ∷ [] ≡ value ∷ [] → IsValBelow context.types result wanted
    → is_permitted context.features config (constant_instr_at value []).0 ≡ true → ⊥
no_constant config context wanted value result numeric none results below is =
    let same : wanted ≡ value = number_alone context.types value wanted numeric
    (typed_below context.types result value wanted results below) in
    let none' : first_constant config context value ≡ None = subst (λ (v : ValType). first_constant config context v ≡ None) same none in
    forbidden config context (constant_instr_at value []).0 none' is

no_number : (config : Config) (context : BodyContext) (set : List ℕ) (wanted : ValType) → first_constant config context wanted ≡ None
    → (instruction : Instr) → IsNumber instruction → ¬ IsOther config context set wanted instruction
unfolding is_permitted is_enabled constant_instr_at
no_number config context set wanted none (instr.I32Const value) number (is, leaf) = no_constant config context wanted I32 leaf.value tt none
    leaf.typed.1 leaf.below is
no_number config context set wanted none (instr.I64Const value) number (is, leaf) = no_constant config context wanted I64 leaf.value tt none
    leaf.typed.1 leaf.below is
no_number config context set wanted none (instr.F32Const bits) number (is, leaf) = no_constant config context wanted F32 leaf.value tt none
    leaf.typed.1 leaf.below is
no_number config context set wanted none (instr.F64Const bits) number (is, leaf) = no_constant config context wanted F64 leaf.value tt none
    leaf.typed.1 leaf.below is
no_number config context set wanted none (instr.V128Const bits) number (is, leaf) = no_constant config context wanted V128 leaf.value tt
    none leaf.typed.1 leaf.below is
no_number config context set wanted none instruction number other = absurd number

-- null
null_below : (config : Config) (context : BodyContext) (wanted : ValType) (heap_type : HeapType) → first_constant config context wanted
    ≡ None → is_permitted context.features config (instr.Reference (reference.Null heap_type)) ≡ true
    → IsValBelow context.types (nullable_to heap_type) wanted → ⊥
unfolding constant_instr_at
null_below config context (Ref to) heap_type none is below =
    let none' : if_permitted config context (Some (instr.Reference (reference.Null to.heap_type))) ≡ None =
    subst (λ (b : Bool). if_permitted config context (Some (if b then instr.Reference (reference.Null to.heap_type) else instr.Unreachable))
    ≡ None) (below.nullable refl) none in
    forbidden config context (instr.Reference (reference.Null to.heap_type)) none'
    (null_permitted context.features config heap_type to.heap_type is)
null_below config context I32 heap_type none is below = absurd below
null_below config context I64 heap_type none is below = absurd below
null_below config context F32 heap_type none is below = absurd below
null_below config context F64 heap_type none is below = absurd below
null_below config context V128 heap_type none is below = absurd below

no_null : (config : Config) (context : BodyContext) (set : List ℕ) (wanted : ValType) → first_constant config context wanted ≡ None
    → (heap_type : HeapType) → ¬ IsOther config context set wanted (instr.Reference (reference.Null heap_type))
no_null config context set wanted none heap_type (is, leaf) =
    let (_, (_, results)) = leaf.typed in
    null_below config context wanted heap_type none is (typed_below context.types leaf.value (nullable_to heap_type) wanted results
    leaf.below)

-- a struct of default values, and an array without elements
no_struct : (config : Config) (context : BodyContext) (set : List ℕ) (wanted : ValType) → IsOrderly context.types
    → default_struct config context wanted ≡ None → (ty : ℕ) → IsIndex ty → ¬ IsOther config context set wanted
    (instr.Aggregate (aggregate.StructNewDefault ty))
no_struct config context set wanted orderly none ty few (is, leaf) =
    let (fields, there, defaults, (_, results)) = leaf.typed in
    let unmade = not_made config context (λ ty. instr.Aggregate (aggregate.StructNewDefault ty)) (first_created_struct context wanted) none
    (λ other. struct_permitted context.features config ty other is) in
    let inside : ty < length context.types = slice_get_within context.types ty there.0 there.1 in
    let below = typed_below context.types leaf.value (created_reference context ty) wanted results leaf.below in
    none_offered (is_created_struct context wanted true) (indexed (length context.types)) ty unmade (omega (arith, inside, few))
    (struct_is context wanted ty fields orderly there defaults below)

no_array : (config : Config) (context : BodyContext) (set : List ℕ) (wanted : ValType) → IsOrderly context.types
    → empty_array config context wanted ≡ None → (ty : ℕ) → IsIndex ty → ¬ IsOther config context set wanted
    (instr.Aggregate (aggregate.ArrayNewFixed ty 0))
no_array config context set wanted orderly none ty few (is, leaf) =
    let (element, there, (_, results)) = leaf.typed in
    let unmade = not_made config context (λ ty. instr.Aggregate (aggregate.ArrayNewFixed ty 0)) (first_created_array context wanted) none
    (λ other. array_permitted context.features config ty other is) in
    let inside : ty < length context.types = slice_get_within context.types ty there.0 there.1 in
    let below = typed_below context.types leaf.value (created_reference context ty) wanted results leaf.below in
    none_offered (is_created_empty context wanted) (indexed (length context.types)) ty unmade (omega (arith, inside, few))
    (array_is context wanted ty element orderly there below)

-- no value of one instruction
none_single : (config : Config) (context : BodyContext) (set : List ℕ) (wanted : ValType) → IsOrderly context.types
    → first_single config context set wanted ≡ None → HasNoSingle config context set wanted
none_single config context set wanted orderly single =
    let none = all_tried config context set wanted single in
    record {
      no_local = no_local config context set wanted orderly none.local;
      no_global = no_global config context set wanted orderly none.global;
      no_function = no_function config context set wanted orderly none.function;
      no_number = no_number config context set wanted none.constant;
      no_null = no_null config context set wanted none.constant;
      no_struct = no_struct config context set wanted orderly none.struct;
      no_array = no_array config context set wanted orderly none.array;
    }

-- an i31
if_none : {A : Type 0} (on : Bool) (o : Option A) → on ≡ true → (if on then o else None) ≡ None → o ≡ None
if_none true o is none = none
if_none false o is none = cc

no_creation : (config : Config) (context : BodyContext) (set : List ℕ) (wanted value : ValType) (shared : Bool) → IsOrderly context.types
    → i31_by config context wanted shared ≡ None → value ∷ [] ≡ i31_type shared ∷ [] → IsValBelow context.types value wanted
    → is_permitted context.features config (i31_of shared) ≡ true → ⊥
no_creation config context set wanted value shared orderly none results below is =
    let below' = below_is context.types (i31_type shared) wanted orderly (typed_below context.types value (i31_type shared) wanted results
    below) in
    forbidden config context (i31_of shared) (if_none (is_val_below context.types (i31_type shared) wanted)
    (if_permitted config context (Some (i31_of shared))) below' none) is

-- so the creation has no number
no_number_of : (creation number : Option Instr) → ¬ (creation ≡ None) → option_and_then (i31_with number) creation ≡ None → number ≡ None
no_number_of None number some none = absurd (some refl)
no_number_of (Some creation) number some none = unmapped (λ number. with_last creation (only number)) number none

neither : (config : Config) (context : BodyContext) (set : List ℕ) (wanted : ValType) → IsOrderly context.types
    → i31_by config context wanted false ≡ None → i31_by config context wanted true ≡ None → (creation : Instr) → IsI31Creation creation
    → ¬ IsOtherOver config context set I32 wanted creation
neither config context set wanted orderly first second (instr.Aggregate aggregate.RefI31) creates (is, over) =
    no_creation config context set wanted over.value false orderly first over.typed.1 over.below is
neither config context set wanted orderly first second (instr.Aggregate aggregate.RefI31Shared) creates (is, over) =
    no_creation config context set wanted over.value true orderly second over.typed.1 over.below is
neither config context set wanted orderly first second creation creates other = absurd creates

no_i31 : (config : Config) (context : BodyContext) (set : List ℕ) (wanted : ValType) → IsOrderly context.types
    → i31_leaf config context set wanted ≡ None → (creation : Instr) → IsI31Creation creation
    → IsOtherOver config context set I32 wanted creation → HasNoSingle config context set I32
unfolding i31_leaf
no_i31 config context set wanted orderly none creation is_creation over =
    let some : ¬ (i31_creation config context wanted ≡ None) =
    λ none. let (first, second) = none_both (i31_by config context wanted false) (i31_by config context wanted true) none in
    neither config context set wanted orderly first second creation is_creation over in
    let number : i31_number config context set ≡ None = no_number_of (i31_creation config context wanted) (i31_number config context set)
    some none in
    let (_, single) = none_both (if_permitted config context (Some (instr.I32Const (pos 0)))) (first_single config context set I32)
    number in
    none_single config context set I32 orderly single

-- nor one for a reference that is null less often
raised : (types : List SubType) (value : ValType) (nullable more : Bool) (heap_type : HeapType) → (IsTrue nullable → IsTrue more)
    → IsValBelow types value (Ref (record { nullable = nullable; heap_type = heap_type }))
    → IsValBelow types value (Ref (record { nullable = more; heap_type = heap_type }))
raised types (Ref reference) nullable more heap_type up below = record { heap = below.heap; nullable = λ h. up (below.nullable h) }
raised types I32 nullable more heap_type up below = absurd below
raised types I64 nullable more heap_type up below = absurd below
raised types F32 nullable more heap_type up below = absurd below
raised types F64 nullable more heap_type up below = absurd below
raised types V128 nullable more heap_type up below = absurd below

single_stricter : (config : Config) (context : BodyContext) (set : List ℕ) (nullable more : Bool) (heap_type : HeapType)
    → (IsTrue nullable → IsTrue more) → HasNoSingle config context set (Ref (record { nullable = more; heap_type = heap_type }))
    → HasNoSingle config context set (Ref (record { nullable = nullable; heap_type = heap_type }))
single_stricter config context set nullable more heap_type up none =
    let wanted = Ref (record { nullable = nullable; heap_type = heap_type }) in
    let wider = Ref (record { nullable = more; heap_type = heap_type }) in
    let other : (i : Instr) → IsOther config context set wanted i → IsOther config context set wider i =
    λ i (is, leaf). (
      is,
      record {
        value = leaf.value;
        typed = leaf.typed;
        below = raised context.types leaf.value nullable more heap_type up
            leaf.below;
        sets_none = leaf.sets_none;
      },
    ) in
    record {
      no_local = λ index few is. none.no_local index few (other _ is);
      no_global = λ index few is. none.no_global index few (other _ is);
      no_function = λ function is. none.no_function function (other _ is);
      no_number = λ instruction number is. none.no_number instruction number (other _ is);
      no_null = λ heap_type is. none.no_null heap_type (other _ is);
      no_struct = λ ty few is. none.no_struct ty few (other _ is);
      no_array = λ ty few is. none.no_array ty few (other _ is);
    }

over_wider : (config : Config) (context : BodyContext) (set : List ℕ) (nullable more : Bool) (heap_type : HeapType) (operand : ValType)
    (i : Instr) → (IsTrue nullable → IsTrue more) → IsOtherOver config context set operand
    (Ref (record { nullable = nullable; heap_type = heap_type })) i
    → IsOtherOver config context set operand (Ref (record { nullable = more; heap_type = heap_type })) i
over_wider config context set nullable more heap_type operand i up (is, over) = (
  is,
  record {
    value = over.value;
    typed = over.typed;
    below = raised context.types over.value nullable more heap_type up over.below;
    sets_none = over.sets_none;
  },
)

none_stricter : (config : Config) (context : BodyContext) (set : List ℕ) (steps : ℕ) (search nullable more : Bool) (heap_type : HeapType)
    → (IsTrue nullable → IsTrue more) → HasNoValue config context set steps search (Ref (record { nullable = more; heap_type = heap_type }))
    → HasNoValue config context set steps search (Ref (record { nullable = nullable; heap_type = heap_type }))
none_stricter config context set zero search nullable more heap_type up none = single_stricter config context set nullable more heap_type up
    none
none_stricter config context set (suc steps) search nullable more heap_type up (single, unary) = (
  single_stricter config context set nullable more heap_type up single,
  record {
    no_i31 = λ creation is over. unary.no_i31 creation is (over_wider config context set nullable more heap_type I32 creation up over);
    no_conversion = λ operand conversion is over. unary.no_conversion operand conversion is
        (over_wider config context set nullable more heap_type operand conversion up over);
    no_struct = λ ty operand tried over. unary.no_struct ty operand tried (over_wider config context set nullable more heap_type operand
        (instr.Aggregate (aggregate.StructNew ty)) up over);
  },
)

-- the operand of an instruction that is permitted has no value
over_none : (operand : ValType → Option Leaf) (unary : Unary) (on : Bool) → on ≡ true → value_over operand (if on then Some unary else None)
    ≡ None → operand unary.operand ≡ None
over_none operand unary true is none = unmapped (with_last unary.instruction) (operand unary.operand) none
over_none operand unary false is none = cc

abbrev NoneWithin : Config → BodyContext → List ℕ → ℕ → Bool → Type 0
NoneWithin config context set steps search = (wanted : ValType) → leaf_within config context set steps search wanted ≡ None
    → HasNoValue config context set steps search wanted

-- a conversion
none_inside : (config : Config) (context : BodyContext) (set : List ℕ) (steps : ℕ) (search : Bool) (wanted : ValType)
    (shared nullable : Bool) → NoneWithin config context set steps search → value_over (leaf_within config context set steps search)
    (conversion_to config context wanted) ≡ None
    → IsValBelow context.types (internal shared nullable) wanted → is_permitted context.features config
    (instr.Aggregate aggregate.AnyConvertExtern) ≡ true → HasNoValue config context set steps search (external shared nullable)
none_inside config context set steps search (Ref to) shared nullable within none below is =
    let top : to.heap_type ≡ Abstract shared abstract.Any = any_top context.types shared to.heap_type below.heap in
    let none' : value_over (leaf_within config context set steps search)
    (unary_permitted config context (conversion_over to.nullable (Abstract shared abstract.Any))) ≡ None =
    subst (λ (h : HeapType). value_over (leaf_within config context set steps search)
    (unary_permitted config context (conversion_over to.nullable h)) ≡ None) top none in
    let unary : Unary = record { instruction = instr.Aggregate aggregate.AnyConvertExtern; operand = external shared to.nullable } in
    none_stricter config context set steps search nullable to.nullable (Abstract shared abstract.Extern) below.nullable
    (within (external shared to.nullable) (over_none (leaf_within config context set steps search) unary
    (is_permitted context.features config (instr.Aggregate aggregate.AnyConvertExtern)) is none'))
none_inside config context set steps search I32 shared nullable within none below is = absurd below
none_inside config context set steps search I64 shared nullable within none below is = absurd below
none_inside config context set steps search F32 shared nullable within none below is = absurd below
none_inside config context set steps search F64 shared nullable within none below is = absurd below
none_inside config context set steps search V128 shared nullable within none below is = absurd below

none_outside : (config : Config) (context : BodyContext) (set : List ℕ) (steps : ℕ) (search : Bool) (wanted : ValType)
    (shared nullable : Bool) → NoneWithin config context set steps search → value_over (leaf_within config context set steps search)
    (conversion_to config context wanted) ≡ None
    → IsValBelow context.types (external shared nullable) wanted → is_permitted context.features config
    (instr.Aggregate aggregate.ExternConvertAny) ≡ true → HasNoValue config context set steps search (internal shared nullable)
none_outside config context set steps search (Ref to) shared nullable within none below is =
    let top : to.heap_type ≡ Abstract shared abstract.Extern = extern_top context.types shared to.heap_type below.heap in
    let none' : value_over (leaf_within config context set steps search)
    (unary_permitted config context (conversion_over to.nullable (Abstract shared abstract.Extern))) ≡ None =
    subst (λ (h : HeapType). value_over (leaf_within config context set steps search)
    (unary_permitted config context (conversion_over to.nullable h)) ≡ None) top none in
    let unary : Unary = record { instruction = instr.Aggregate aggregate.ExternConvertAny; operand = internal shared to.nullable } in
    none_stricter config context set steps search nullable to.nullable (Abstract shared abstract.Any) below.nullable
    (within (internal shared to.nullable) (over_none (leaf_within config context set steps search) unary
    (is_permitted context.features config (instr.Aggregate aggregate.ExternConvertAny)) is none'))
none_outside config context set steps search I32 shared nullable within none below is = absurd below
none_outside config context set steps search I64 shared nullable within none below is = absurd below
none_outside config context set steps search F32 shared nullable within none below is = absurd below
none_outside config context set steps search F64 shared nullable within none below is = absurd below
none_outside config context set steps search V128 shared nullable within none below is = absurd below

only_operand : (operand same : ValType) → operand ∷ [] ≡ same ∷ [] → operand ≡ same
only_operand operand same is = cc

none_converted : (config : Config) (context : BodyContext) (set : List ℕ) (steps : ℕ) (search : Bool) (wanted : ValType)
    → NoneWithin config context set steps search → value_over (leaf_within config context set steps search)
    (conversion_to config context wanted) ≡ None
    → (operand : ValType) (conversion : Instr) → IsConversion conversion → IsOtherOver config context set operand wanted conversion
    → HasNoValue config context set steps search operand
none_converted config context set steps search wanted within none operand (instr.Aggregate aggregate.AnyConvertExtern) converts (is, over) =
    let (shared, (nullable, (operands, results))) = over.typed in
    subst (HasNoValue config context set steps search) (sym (only_operand operand (external shared nullable) operands))
    (none_inside config context set steps search wanted shared nullable within none
    (typed_below context.types over.value (internal shared nullable) wanted results over.below) is)
none_converted config context set steps search wanted within none operand (instr.Aggregate aggregate.ExternConvertAny) converts (is, over) =
    let (shared, (nullable, (operands, results))) = over.typed in
    subst (HasNoValue config context set steps search) (sym (only_operand operand (internal shared nullable) operands))
    (none_outside config context set steps search wanted shared nullable within none
    (typed_below context.types over.value (external shared nullable) wanted results over.below) is)
none_converted config context set steps search wanted within none operand conversion converts other = absurd converts

-- the creation of a struct that is permitted
both_true : (a b : Bool) → a ≡ true → b ≡ true → (a && b) ≡ true
both_true true b first second = second
both_true false b first second = cc

may_be : (config : Config) (context : BodyContext) (set : List ℕ) (wanted : ValType) (ty : ℕ) (operands : List ValType)
    → IsOrderly context.types → IsOtherTaking config context set operands wanted (instr.Aggregate (aggregate.StructNew ty))
    → may_create config context wanted ty ≡ true
may_be config context set wanted ty operands orderly (is, taking) =
    let (fields, there, (same, results)) = taking.typed in
    let created = created_reference context ty in
    both_true (is_created_below context wanted ty) (is_permitted context.features config (instr.Aggregate (aggregate.StructNew ty)))
    (below_is context.types created wanted orderly (typed_below context.types taking.value created wanted results taking.below)) is

struct_is_in : (types : List SubType) (ty : ℕ) (fields : List FieldType) → IsStructAt types ty fields → struct_in (slice_get types ty)
    ≡ Some (record { fields = fields })
struct_is_in types ty fields (t, at, is) = ap (λ (o : Option SubType). struct_in o) at ∙ ap (λ (x : CompositeInnerType). struct_of x) is

-- a struct of one field
none_of_field : (config : Config) (context : BodyContext) (set : List ℕ) (steps : ℕ) (search : Bool) (wanted operand : ValType) (ty : ℕ)
    (fields : List FieldType) → NoneWithin config context set steps search → may_create config context wanted ty ≡ true
    → value_over (leaf_within config context set steps search) (creation_over config context wanted ty fields) ≡ None
    → operand ∷ [] ≡ field_values fields → HasNoValue config context set steps search operand
none_of_field config context set steps search wanted operand ty [] within may none same = cc
none_of_field config context set steps search wanted operand ty (field ∷ []) within may none same =
    let unary : Unary = record { instruction = instr.Aggregate (aggregate.StructNew ty); operand = unpacked field.element_type } in
    subst (HasNoValue config context set steps search) (sym (only_operand operand (unpacked field.element_type) same))
    (within (unpacked field.element_type) (over_none (leaf_within config context set steps search) unary
    (may_create config context wanted ty) may none))
none_of_field config context set steps search wanted operand ty (field ∷ other ∷ fields) within may none same = cc

none_struct : (config : Config) (context : BodyContext) (set : List ℕ) (steps : ℕ) (search on : Bool) (wanted : ValType)
    → IsOrderly context.types → NoneWithin config context set steps on → first_tried context search (named_type wanted)
    (created_over config context (leaf_within config context set steps on) wanted) ≡ None
    → (ty : ℕ) (operand : ValType) → IsTried search wanted ty → IsOtherOver config context set operand wanted
    (instr.Aggregate (aggregate.StructNew ty)) → HasNoValue config context set steps on operand
none_struct config context set steps search on wanted orderly within none ty operand tried (is, over) =
    let (fields, there, (same, results)) = over.typed in
    let inside : ty < length context.types = slice_get_within context.types ty there.0 there.1 in
    let none' = none_tried context search (named_type wanted) (created_over config context (leaf_within config context set steps on) wanted)
    ty none tried inside in
    let are : fields_at context.types ty ≡ fields = ap (λ (o : Option StructType). fields_in o)
    (struct_is_in context.types ty fields there) in
    none_of_field config context set steps on wanted operand ty fields within (may_be config context set wanted ty (operand ∷ []) orderly
    (is, over))
    (subst (λ (fields : List FieldType). value_over (leaf_within config context set steps on)
    (creation_over config context wanted ty fields) ≡ None) are none') same

-- no value is found
none_within : (config : Config) (context : BodyContext) (set : List ℕ) (steps : ℕ) (search : Bool) → IsOrderly context.types
    → NoneWithin config context set steps search
unfolding leaf_within
none_within config context set zero search orderly wanted none = none_single config context set wanted orderly
    (unmapped only (first_single config context set wanted) none)
none_within config context set (suc steps) search orderly wanted none =
    let (single, unary) = none_both (option_map only (first_single config context set wanted)) _ none in
    let (i31, rest) = none_both (i31_leaf config context set wanted) _ unary in
    let (converted, created) = none_both (value_over (leaf_within config context set steps search) (conversion_to config context wanted)) _
    rest in (
      none_single config context set wanted orderly (unmapped only (first_single config context set wanted) single),
      record {
        no_i31 = no_i31 config context set wanted orderly i31;
        no_conversion = none_converted config context set steps search wanted (none_within config context set steps search orderly)
            converted;
        no_struct = none_struct config context set steps search (searches_on search (named_type wanted)) wanted orderly
            (none_within config context set steps (searches_on search (named_type wanted)) orderly) created;
      },
    )

-- a struct of values of one instruction
abbrev Lacks : Config → BodyContext → List ℕ → List ValType → Type 0
Lacks config context set values = (place : ℕ) × (value : ValType) × (slice_get values place ≡ Some value)
    × (first_single config context set value ≡ None)

lacking_first : (config : Config) (context : BodyContext) (set : List ℕ) (value : ValType) (more : List ValType) (rest : Bool)
    (o : Option Instr) → first_single config context set value ≡ o → (rest ≡ false → Lacks config context set more)
    → (is_some o && rest) ≡ false
    → Lacks config context set (value ∷ more)
lacking_first config context set value more rest None is later none = (0, value, refl, is)
lacking_first config context set value more rest (Some single) is later none = let (place, other, at, lacks) = later none in
    (suc place, other, at, lacks)

lacking : (config : Config) (context : BodyContext) (set : List ℕ) (values : List ValType) → have_singles config context set values ≡ false
    → Lacks config context set values
lacking config context set [] none = cc
lacking config context set (value ∷ more) none =
    lacking_first config context set value more (have_singles config context set more) (first_single config context set value) refl
    (λ rest. lacking config context set more rest) none

last_false : (a b : Bool) → a ≡ true → (a && b) ≡ false → b ≡ false
last_false true b first is = is
last_false false b first is = cc

not_kept : (test : Bool) (ty : ℕ) → (if test then Some ty else None) ≡ None → test ≡ false
not_kept true ty is = cc
not_kept false ty is = refl

none_created : (config : Config) (context : BodyContext) (set : List ℕ) (wanted : ValType) → IsOrderly context.types
    → created_type config context set wanted ≡ None → (ty : ℕ) (operands : List ValType) → IsTried true wanted ty
    → IsOtherTaking config context set operands wanted (instr.Aggregate (aggregate.StructNew ty))
    → Any (HasNoSingle config context set) operands
unfolding created_type
none_created config context set wanted orderly none ty operands tried (is, taking) =
    let (fields, there, (same, results)) = taking.typed in
    let values = field_values fields in
    let inside : ty < length context.types = slice_get_within context.types ty there.0 there.1 in
    let none' : created_at config context set wanted ty ≡ None = none_tried context true (named_type wanted)
    (created_at config context set wanted) ty none tried inside in
    let tested : is_created_in config context set wanted ty (Some (record { fields = fields })) ≡ false =
    subst (λ (o : Option StructType). is_created_in config context set wanted ty o ≡ false) (struct_is_in context.types ty fields there)
    (not_kept (is_created config context set wanted ty) ty none') in
    let (place, value, at, lacks) =
    lacking config context set values (last_false (may_create config context wanted ty) (have_singles config context set values)
    (may_be config context set wanted ty operands orderly (is, taking)) tested) in
    subst (Any (HasNoSingle config context set)) (sym same) (
      place,
      value,
      slice_get_within values place value at,
      get_or_from_slice_get values place value value at,
      none_single config context set value orderly lacks,
    )

pub none_other : (config : Config) (context : BodyContext) (set : List ℕ) (wanted : ValType) → IsOrderly context.types
    → leaf_within config context set 2 true wanted ≡ None → created_type config context set wanted ≡ None
    → HasNoOther config context set wanted
none_other config context set wanted orderly brief created = record {
  none = none_within config context set 2 true orderly wanted brief;
  none_created = none_created config context set wanted orderly created;
}
