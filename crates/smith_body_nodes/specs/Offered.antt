-- The items that may be drawn for an instruction.
use Rattle.std.specs.Prelude.{◌≡◌, ℕ, zero, suc, ◌+◌, ◌-◌, ◌*◌, ◌/◌, Bool, true, false, ◌&&◌, ◌||◌, not, nat_lt, ◌==◌, Option, Some, None}
use Rattle.std.specs.Prelude.{option_map, List, [], ◌∷◌, ◌++◌, length, min, slice_get, if◌then◌else◌}
use Rattle.std.specs.List.{Contains}
use Rattle.smith_body_nodes.specs.Common.{BodyContext, choose_at, CompositeInnerType, I32, is_val_below, Ref, SubType, ValType}
use Rattle.smith_bytes.specs.Draws.{range_at}
use Rattle.smith_types.specs.Subtyping.{IsValBelow}
use Rattle.smith_types.specs.Syntax.value_type.ValType.TheVariants.{I64}
use Rattle.smith_types.specs.Syntax.composite_type.CompositeInnerType.TheVariants as inner
use Rattle.smith_types.specs.Syntax.composite_type.FuncType.{FuncType}
use Rattle.smith_types.specs.Syntax.entity_type.GlobalType.{GlobalType}
use Rattle.smith_types.specs.Syntax.entity_type.MemoryType.{MemoryType}
use Rattle.smith_instr.specs.Contexts.{IsFunction, IsLocalSet, reference_to_function}
use Rattle.smith_instr.specs.SetLocals.{is_among}
use Rattle.smith_body_nodes.specs.declared.offer.Reach.{Reach}
use Rattle.smith_body_nodes.specs.declared.offer.Reach.TheVariants as reach

-- the indices below an end that pass a test, in order
unfoldable pub offered : (ℕ → Bool) → ℕ → List ℕ
offered test zero = []
offered test (suc n) = offered test n ++ (if test n then n ∷ [] else [])

-- an offered item of a drawn chunk; a chunk has 256 items
unfoldable pub chunk_at : (ℕ → Bool) → ℕ → List ℕ → Option ℕ × List ℕ
chunk_at test size bytes =
    let chunk = range_at 0 ((size - 1) / 256) bytes in
    let start = 256 * chunk.0 in
    let drawn = choose_at (offered (λ index. test (start + index)) (min (size - start) 256)) chunk.1 in
    (option_map (λ index. start + index) drawn.0, drawn.1)

-- an offered item, of a drawn chunk or of all items
abbrev pub within_at : Reach → (ℕ → Bool) → ℕ → List ℕ → Option ℕ × List ℕ
within_at reach.Chunk test size bytes = chunk_at test size bytes
within_at reach.Whole test size bytes = choose_at (offered test size) bytes

-- the number of labels that may be drawn: the 64 innermost ones
abbrev pub label_count : BodyContext → ℕ
label_count context = min (length context.labels) 64

-- a value type exists and matches the wanted type
abbrev pub is_below_at : List SubType → ValType → Option ValType → Bool
is_below_at types wanted (Some value) = is_val_below types value wanted
is_below_at types wanted None = false

-- a local whose type matches the wanted type
abbrev pub is_local_below : BodyContext → ValType → ℕ → Bool
is_local_below context wanted index = is_below_at context.types wanted (slice_get context.locals index)

-- an element segment whose type matches the wanted type
abbrev pub is_elem_below : BodyContext → ValType → ℕ → Bool
is_elem_below context wanted index = is_below_at context.types wanted (option_map Ref (slice_get context.elems index))

-- a value type that has a default
abbrev pub has_default : ValType → Bool
has_default (Ref reference) = reference.nullable
has_default _ = true

-- a local exists, is set, and its type matches the wanted type
abbrev pub is_readable_at : BodyContext → List ℕ → ValType → ℕ → Option ValType → Bool
is_readable_at context set wanted index (Some value) =
    ((nat_lt index context.params || has_default value) || is_among index set) && is_val_below context.types value wanted
is_readable_at context set wanted index None = false

-- a local that is set and whose type matches the wanted type
abbrev pub is_readable : BodyContext → List ℕ → ValType → ℕ → Bool
is_readable context set wanted index = is_readable_at context set wanted index (slice_get context.locals index)

-- a global whose type matches the wanted type
abbrev pub is_global_below_at : List SubType → ValType → Option GlobalType → Bool
is_global_below_at types wanted (Some global) = is_val_below types global.val_type wanted
is_global_below_at types wanted None = false

abbrev pub is_global_below : BodyContext → ValType → ℕ → Bool
is_global_below context wanted index = is_global_below_at context.types wanted (slice_get context.globals index)

-- a global that is mutable
abbrev pub is_mutable_at : Option GlobalType → Bool
is_mutable_at (Some global) = global.mutable
is_mutable_at None = false

abbrev pub is_mutable : BodyContext → ℕ → Bool
is_mutable context index = is_mutable_at (slice_get context.globals index)

-- the function type of a composite type, if it is one
abbrev pub func_of : CompositeInnerType → Option FuncType
func_of (inner.Func function) = Some function
func_of _ = None

abbrev pub func_in : Option SubType → Option FuncType
func_in (Some t) = func_of t.composite_type.inner
func_in None = None

-- the type of a function
abbrev pub function_in : List SubType → Option ℕ → Option FuncType
function_in types (Some index) = func_in (slice_get types index)
function_in types None = None

abbrev pub function_at : BodyContext → ℕ → Option FuncType
function_at context index = function_in context.types (slice_get context.funcs index)

-- the first of these types matches the wanted type
abbrev pub is_first_below : List SubType → ValType → List ValType → Bool
is_first_below types wanted [] = false
is_first_below types wanted (value ∷ more) = is_val_below types value wanted

-- a function whose first result matches the wanted type
abbrev pub is_callable_at : List SubType → ValType → Option FuncType → Bool
is_callable_at types wanted (Some function) = is_first_below types wanted function.results
is_callable_at types wanted None = false

abbrev pub is_callable : BodyContext → ValType → ℕ → Bool
is_callable context wanted index = is_callable_at context.types wanted (function_at context index)

-- whether each type matches the wanted type at its position
abbrev pub are_below : List SubType → List ValType → List ValType → Bool
are_below types [] [] = true
are_below types (value ∷ values) (wanted ∷ more) = is_val_below types value wanted && are_below types values more
are_below types _ _ = false

-- a branch with operands of these types may target a label
abbrev pub is_target_at : List SubType → List ValType → Option (List ValType) → Bool
is_target_at types taken (Some label) = are_below types taken label
is_target_at types taken None = false

abbrev pub is_target : List SubType → List (List ValType) → List ValType → ℕ → Bool
is_target types labels taken index = is_target_at types taken (slice_get labels index)

-- the type of an address, of 64 bits or of 32
abbrev pub is_address : ValType → Bool → Bool
is_address I32 wide = not wide
is_address I64 wide = wide
is_address _ wide = false

-- a memory whose addresses have the wanted type
abbrev pub is_addressed_at : ValType → Option MemoryType → Bool
is_addressed_at wanted (Some memory) = is_address wanted memory.memory64
is_addressed_at wanted None = false

abbrev pub is_addressed : BodyContext → ValType → ℕ → Bool
is_addressed context wanted index = is_addressed_at wanted (slice_get context.memories index)

-- a function that may be named and whose reference type matches the wanted type
abbrev pub is_reference_at : BodyContext → ValType → ℕ → Option ℕ → Bool
is_reference_at context wanted function (Some index) = is_val_below context.types (reference_to_function context function index) wanted
is_reference_at context wanted function None = false

abbrev pub is_named : BodyContext → ValType → Option ℕ → Bool
is_named context wanted (Some function) = is_reference_at context wanted function (slice_get context.funcs function)
is_named context wanted None = false

abbrev pub is_reference : BodyContext → ValType → ℕ → Bool
is_reference context wanted place = is_named context wanted (slice_get context.references place)

-- a function that may be named and whose reference type matches the wanted type
abbrev pub IsReferenceTo : BodyContext → ValType → ℕ → Type 0
IsReferenceTo context wanted function =
    (index : ℕ) × (slice_get context.funcs function ≡ Some index) × Contains context.references function
    × IsValBelow context.types (reference_to_function context function index) wanted

-- a local that is set and whose type matches the wanted type
abbrev pub IsReadable : BodyContext → List ℕ → ValType → ℕ → Type 0
IsReadable context set wanted index = (value : ValType) × IsLocalSet context set index value × IsValBelow context.types value wanted

-- a local whose type matches the wanted type
abbrev pub IsLocalBelow : BodyContext → ValType → ℕ → Type 0
IsLocalBelow context wanted index = (value : ValType) × (slice_get context.locals index ≡ Some value)
    × IsValBelow context.types value wanted

-- a global whose type matches the wanted type
abbrev pub IsGlobalBelow : BodyContext → ValType → ℕ → Type 0
IsGlobalBelow context wanted index = (global : GlobalType) × (slice_get context.globals index ≡ Some global)
    × IsValBelow context.types global.val_type wanted

-- a global that is mutable
abbrev pub IsGlobalMutable : BodyContext → ℕ → Type 0
IsGlobalMutable context index = (global : GlobalType) × (slice_get context.globals index ≡ Some global) × (global.mutable ≡ true)

-- a function whose first result matches the wanted type
abbrev pub IsCallable : BodyContext → ValType → ℕ → Type 0
IsCallable context wanted index =
    (function : FuncType) × IsFunction context index function × (value : ValType) × (rest : List ValType)
    × (function.results ≡ value ∷ rest)
    × IsValBelow context.types value wanted
