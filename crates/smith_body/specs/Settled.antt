-- Settling: the use of a value that no other instruction takes. Rules of this project.
use Rattle.std.specs.Prelude.{◌≡◌, ℕ, ◌+◌, ◌-◌, Bool, true, false, ◌&&◌, nat_lt, Option, Some, None, List, [], ◌∷◌}
use Rattle.std.specs.Prelude.{length, min, slice_get, unwrap_or, if◌then◌else◌}
use Rattle.smith_bytes.specs.Draws.{choose_at}
use Rattle.smith_types.specs.Syntax.Features.{Features}
use Rattle.smith_syntax.specs.contracts.value_type.ValTypePartialEq.TheImpl.{ghosts as val_same}
use Rattle.smith_body.specs.Common.{BodyContext, Config, I32, Instr, is_permitted, IsAllowedIn, Scope, ValType}
use Rattle.smith_types.specs.Syntax.value_type.ValType.TheVariants.{F32, F64, I64, Ref, V128}
use Rattle.smith_types.specs.Syntax.entity_type.GlobalType.{GlobalType}
use Rattle.smith_instr.specs.InstrTypes.{HasInstrType, sets}
use Rattle.smith_instr.specs.declared.instr.Instr.TheVariants as instr
use Rattle.smith_instr.specs.declared.numeric.NumericInstr.TheVariants as numeric
use Rattle.smith_instr.specs.declared.numeric.SaturatingConversion.TheVariants as saturating
use Rattle.smith_instr.specs.declared.reference.ReferenceInstr.TheVariants as reference
use Rattle.smith_instr.specs.declared.vector.IntShape.TheVariants as shape
use Rattle.smith_instr.specs.declared.vector.VectorInstr.TheVariants as vector
use Rattle.smith_body.specs.declared.settled.Settling.{Settling}
use Rattle.smith_body.specs.declared.settled.Settling.TheVariants as settlings
use Rattle.smith_body_nodes.specs.Chosen.{giving}
use Rattle.smith_body_nodes.specs.Offered.{chunk_at, offered}
use Rattle.smith_body_nodes.specs.Scopes.{context_of, indexed}
use Rattle.smith_body_nodes.specs.Traps.{IsNoStop}

-- the instructions that settle a value
abbrev pub instructions_of : Settling → List Instr
instructions_of (settlings.Local index) = instr.LocalSet index ∷ []
instructions_of (settlings.Global index) = instr.GlobalSet index ∷ []
instructions_of (settlings.Tested test label) = test ∷ instr.BrIf label ∷ []
instructions_of settlings.Dropped = instr.Drop ∷ []

-- the local that these instructions set, if any
abbrev pub set_by : Settling → List ℕ
set_by (settlings.Local index) = index ∷ []
set_by _ = []

-- a local, or a mutable global, of exactly this type
abbrev pub is_local_of : ValType → Option ValType → Bool
is_local_of value (Some other) = val_same.eq other value
is_local_of value None = false

abbrev pub is_global_of : ValType → Option GlobalType → Bool
is_global_of value (Some global) = global.mutable && val_same.eq global.val_type value
is_global_of value None = false

-- the numbers of locals and of places; a place is a local or, after these, a global
abbrev pub local_count : BodyContext → ℕ
local_count context = indexed (length context.locals)

abbrev pub place_count : BodyContext → ℕ
place_count context = local_count context + indexed (length context.globals)

abbrev pub is_place_of : BodyContext → ValType → ℕ → Bool
is_place_of context value place =
    if nat_lt place (local_count context) then is_local_of value (slice_get context.locals place)
    else is_global_of value (slice_get context.globals (place - local_count context))

-- the settling that stores a value at a place, if it is permitted
abbrev pub storing : Config → BodyContext → ℕ → Option Settling
storing config context place =
    let local = place in
    let global = place - local_count context in
    if nat_lt place (local_count context)
    then (if is_permitted context.features config (instr.LocalSet local) then Some (settlings.Local local) else None)
    else (if is_permitted context.features config (instr.GlobalSet global) then Some (settlings.Global global) else None)

abbrev pub place_at : Config → BodyContext → ValType → List ℕ → Option Settling × List ℕ
place_at config context value bytes = giving (storing config context) (chunk_at (is_place_of context value) (place_count context) bytes)

-- the instruction that gives a number for a value, which is often 0
abbrev pub test_of : ValType → Option Instr
test_of I32 = Some (instr.Numeric numeric.I32Eqz)
test_of I64 = Some (instr.Numeric numeric.I64Eqz)
test_of F32 = Some (instr.Numeric (numeric.Saturate saturating.I32TruncSatF32U))
test_of F64 = Some (instr.Numeric (numeric.Saturate saturating.I32TruncSatF64U))
test_of V128 = Some (instr.Vector (vector.AllTrue shape.I8x16))
test_of (Ref wanted) = if wanted.nullable then Some (instr.Reference reference.IsNull) else None

-- a conditional branch to a label, if it and the test are permitted
abbrev pub testing : Features → Config → Option Instr → ℕ → Option Settling
testing features config None label = None
testing features config (Some test) label =
    if is_permitted features config test && is_permitted features config (instr.BrIf label) then Some (settlings.Tested test label) else
    None

-- whether a label takes no values
abbrev pub is_bare : Option (List ValType) → Bool
is_bare (Some []) = true
is_bare _ = false

abbrev pub is_bare_label : List (List ValType) → ℕ → Bool
is_bare_label labels label = is_bare (slice_get labels label)

-- one of the 64 innermost labels without values
abbrev pub label_at : List (List ValType) → List ℕ → Option ℕ × List ℕ
label_at labels bytes = choose_at (offered (is_bare_label labels) (min (length labels) 64)) bytes

-- a conditional branch to such a label
abbrev pub test_at : Config → BodyContext → ValType → List ℕ → Option Settling × List ℕ
test_at config context value bytes = giving (testing context.features config (test_of value)) (label_at context.labels bytes)

-- the settling of a value: it is stored if possible, else tested if possible, else dropped
abbrev pub else_tested : Config → BodyContext → ValType → Option Settling → List ℕ → Settling × List ℕ
else_tested config context value (Some stored) bytes = (stored, bytes)
else_tested config context value None bytes =
    let test = test_at config context value bytes in
    (unwrap_or test.0 settlings.Dropped, test.1)

unfoldable pub settling_at : Config → BodyContext → ValType → List ℕ → Settling × List ℕ
settling_at config context value bytes = let place = place_at config context value bytes in else_tested config context value place.0 place.1

-- an instruction has this type, sets no local, lets control continue, and is permitted
pub record IsSettler (scope : Scope) (labels : List (List ValType)) (operands results : List ValType) (instruction : Instr) : Type 0 where
  pub typed : (set : List ℕ) → HasInstrType (context_of scope labels) set instruction operands results
  pub goes_on : IsNoStop scope.config.now instruction
  pub allowed : IsAllowedIn scope instruction

-- the instructions take exactly a value of this type, and are permitted
abbrev pub Settles : Scope → List (List ValType) → ValType → Settling → Type 0
Settles scope labels value (settlings.Local index) = IsSettler scope labels (value ∷ []) [] (instr.LocalSet index)
Settles scope labels value (settlings.Global index) = IsSettler scope labels (value ∷ []) [] (instr.GlobalSet index)
Settles scope labels value (settlings.Tested test label) =
    IsSettler scope labels (value ∷ []) (I32 ∷ []) test × (sets test ≡ []) × IsSettler scope labels (I32 ∷ []) [] (instr.BrIf label)
Settles scope labels value settlings.Dropped = Unit {0}
