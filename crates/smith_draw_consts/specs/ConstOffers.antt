-- The choices for a constant expression of a type, in order. Rules of this project.
use Rattle.std.specs.Prelude.{ℕ, zero, suc, Result, Ok, Err, ◌+◌, Bool, true, false, not, ◌&&◌, ◌||◌, ◌==◌, nat_lt, List, [], ◌∷◌, ◌++◌}
use Rattle.std.specs.Prelude.{length, take, if◌then◌else◌}
use Rattle.smith_types.specs.Syntax.value_type.AbstractHeapType.TheVariants as heap
use Rattle.smith_types.specs.Syntax.value_type.HeapType.{HeapType}
use Rattle.smith_types.specs.Syntax.value_type.HeapType.TheVariants.{Abstract}
use Rattle.smith_types.specs.Syntax.value_type.RefType.{RefType}
use Rattle.smith_draw_consts.specs.Common.{CompositeInnerType, Config, Context, FieldType, GlobalType, I32, I64, Ref, SubType, ValType}
use Rattle.smith_types.specs.Syntax.composite_type.CompositeInnerType.TheVariants as inner
use Rattle.smith_types.specs.Expressions.{created, function_reference, reference_to, unpacked}
use Rattle.smith_types.specs.Grounded.{is_defaultable, are_defaultable}
use Rattle.smith_draw_types.specs.Below.{is_val_below}
use Rattle.smith_draw_consts.specs.declared.node_choice.Choice.{Choice}
use Rattle.smith_draw_consts.specs.declared.node_choice.Choice.TheVariants as choice

-- the choices for each item of a list, given its index, concatenated
abbrev pub each_from : {A B : Type 0} → (ℕ → A → List B) → ℕ → List A → List B
each_from offer start [] = []
each_from offer start (x ∷ xs) = offer start x ++ each_from offer (start + 1) xs

-- a list of an item, if it is offered, or else an empty list
abbrev pub offered_if : {B : Type 0} → Bool → B → List B
offered_if offered x = if offered then x ∷ [] else []

-- whether a value type is a 32-bit or 64-bit integer
abbrev pub is_integer : ValType → Bool
is_integer I32 = true
is_integer I64 = true
is_integer _ = false

-- the choice of a visible global, if it is immutable and its type is a subtype of the wanted type
abbrev pub global_offers : Context → ValType → ℕ → GlobalType → List Choice
global_offers context wanted index global = offered_if (not global.mutable && is_val_below context.types global.val_type wanted)
    (choice.Global index)

-- the choice of a function, if its reference is a subtype of the wanted type
abbrev pub function_offers : Context → ValType → ℕ → ℕ → List Choice
function_offers context wanted function index = offered_if (is_val_below context.types (function_reference context function index) wanted)
    (choice.Function function)

-- the choices that create a struct with these fields, given the fuel left
abbrev pub struct_ways : ℕ → ℕ → List FieldType → List Choice
struct_ways fuel index fields = offered_if (nat_lt 0 fuel || (length fields == 0)) (choice.Struct index) ++ offered_if
    (are_defaultable fields) (choice.StructDefault index)

-- the choices that create an array with this element
abbrev pub array_ways : ℕ → FieldType → List Choice
array_ways index element = choice.Array index ∷ choice.FixedArray index ∷ offered_if (is_defaultable (unpacked element.element_type))
    (choice.ArrayDefault index)

-- the choices that create a value of a type, if its reference is a subtype of the wanted type: a
-- struct, or with fuel an array
abbrev pub type_offers : Context → ValType → ℕ → Bool → ℕ → CompositeInnerType → List Choice
type_offers context wanted fuel false index (inner.Struct structure) = if is_val_below context.types (created context index) wanted then
    struct_ways fuel index structure.fields else []
type_offers context wanted fuel true index (inner.Array array) = if nat_lt 0 fuel && is_val_below context.types (created context index)
    wanted then array_ways index array.0 else []
type_offers context wanted fuel arrays index _ = []

-- the choices that create a value of the type `t` at `index`, if its reference is a subtype of the
-- wanted type
abbrev pub ways_by : Context → ValType → ℕ → Bool → ℕ → SubType → List Choice
ways_by context wanted fuel arrays index t = type_offers context wanted fuel arrays index t.composite_type.inner

-- the choices that create a value of each type, of structs or of arrays
abbrev pub types_offers : Context → ValType → ℕ → Bool → List Choice
types_offers context wanted fuel arrays = each_from (ways_by context wanted fuel arrays) 0 context.types

-- conversions to a heap type
abbrev pub conversions_to : HeapType → List Choice
conversions_to (Abstract shared heap.Any) = choice.FromExtern ∷ []
conversions_to (Abstract shared heap.Extern) = choice.FromAny ∷ []
conversions_to _ = []

-- conversions to a reference type; with `non_nullable_enabled`, only to a nullable one
abbrev pub conversions : Config → RefType → List Choice
conversions config wanted = if wanted.nullable || not config.non_nullable_enabled then conversions_to wanted.heap_type else []

-- with fuel left: the choices of i31 references and conversions
abbrev pub other_offers : Config → Context → RefType → ℕ → List Choice
other_offers config context wanted fuel =
    if nat_lt 0 fuel then
    offered_if (is_val_below context.types (reference_to (Abstract false heap.I31)) (Ref wanted)) choice.I31
    ++ (offered_if (context.features.shared_everything_threads && is_val_below context.types (reference_to (Abstract true heap.I31))
    (Ref wanted)) choice.SharedI31
    ++ conversions config wanted)
    else []

-- with garbage collection: the choices of structs, of arrays and the others
abbrev pub created_offers : Config → Context → RefType → ℕ → List Choice
created_offers config context wanted fuel =
    types_offers context (Ref wanted) fuel false ++ (types_offers context (Ref wanted) fuel true ++ other_offers config context wanted fuel)

-- for a reference: the choices of functions, and of values that can be created
abbrev pub reference_offers : Config → Context → ValType → ℕ → List Choice
reference_offers config context (Ref wanted) fuel =
    each_from (function_offers context (Ref wanted)) 0 context.funcs ++ (if context.features.gc then created_offers config context wanted
    fuel else [])
reference_offers config context _ fuel = []

-- the choices of a constant, or null if permitted, and of an extended constant if enabled
abbrev pub constant_offers : Context → ValType → List Choice
constant_offers context wanted =
    offered_if (is_defaultable wanted) choice.Constant ++ offered_if (is_integer wanted && context.features.extended_const) choice.Extended

-- all choices
unfoldable pub offers : Config → Context → ValType → ℕ → List Choice
offers config context wanted fuel =
    each_from (global_offers context wanted) 0 (take context.visible context.globals) ++
    (constant_offers context wanted ++ reference_offers config context wanted fuel)

-- the indices of the visible immutable globals whose type is a subtype of the wanted type
abbrev pub readable_globals : Context → ValType → List ℕ
readable_globals context wanted =
    each_from (λ index (global : GlobalType). offered_if (not global.mutable && is_val_below context.types global.val_type wanted) index) 0
    (take context.visible context.globals)

-- the item at a position of a list as an `Err`, or, past the end, `Ok` with the position counted
-- from the end
unfoldable pub past : {B : Type 0} → List B → ℕ → Result ℕ B
past [] place = Ok place
past (x ∷ xs) zero = Err x
past (x ∷ xs) (suc place) = past xs place
