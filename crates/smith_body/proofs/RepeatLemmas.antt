-- Loops that a local counts down.
use Rattle.smith_body.proofs.Common.{[], ap, AreBelow, AreValid, arith, bare, block_cost, BlockType, BodyContext, Bool, both, choose_at}
use Rattle.smith_body.proofs.Common.{Config, Draft, F32, F64, false, false≢true, HasInstrType, I32, I64, Instr, IsAllowedIn, IsNoStop}
use Rattle.smith_body.proofs.Common.{IsOrderly, IsValBelow-refl, length, List, no_valid, None, not_zero, one_valid, Opening, option_to_list}
use Rattle.smith_body.proofs.Common.{Ref, refl, Scope, sets, slice_get, Some, subst, SubType, suc, true, V128, ValType, where_stands}
use Rattle.smith_body.proofs.Common.{widest, zero, ℕ, ◌++◌, ◌+◌, ◌-◌, ◌<◌, ◌∙◌, ◌∷◌, ◌≡◌, ◌≤◌}
use Rattle.std.proofs.Common.{inl, inr}
use Rattle.std.specs.Prelude.{Option, pos, ℤ}
use Rattle.std.specs.Int.{cast_signed, w32}
use Rattle.smith_bytes.specs.Draws.{range_at}
use Rattle.smith_types.specs.Subtyping.{IsValBelow}
use Rattle.smith_types.specs.Syntax.FeatureBits.{features_in}
use Rattle.smith_instr.specs.Contexts.{IsBlockType}
use Rattle.smith_instr.specs.Enabled.{has_features, is_enabled, is_kind_enabled}
use Rattle.smith_instr.specs.declared.instr.Instr.TheVariants as instr
use Rattle.smith_instr.specs.declared.numeric.IntBinary.TheVariants.{Sub}
use Rattle.smith_instr.specs.declared.numeric.NumericInstr.TheVariants as numeric
use Rattle.smith_body_nodes.specs.Nodes.{taken_by}
use Rattle.smith_body_nodes.specs.Offered.{is_local_below, offered}
use Rattle.smith_body_nodes.specs.Scopes.{indexed, kinds_of_bodies}
use Rattle.smith_body_nodes.specs.declared.node.Opening.TheVariants as openings
use Rattle.smith_body_nodes.proofs.NodeLemmas.{three_wide}
use Rattle.smith_body_nodes.proofs.OfferLemmas.{local_below}
use Rattle.smith_body.specs.Bodies.{Drawing, State, count_set, counted_down, in_block}
use Rattle.smith_body.specs.Bodies.{repeated_at, repeated_inside, setting_local, tested_at, values_at, written}
use Rattle.smith_body.specs.DraftSteps.{IsDrawn, IsEnded, IsOpened, IsWritten, state_of}
use Rattle.smith_body.specs.Repeats.{IsCounter, is_counting_permitted, may_repeat, repeat_at, times_at, way_at}
use Rattle.smith_body.specs.declared.repeats.Repeat.{Repeat}
use Rattle.smith_body.specs.declared.repeats.Repeat.TheVariants as repeats
use Rattle.smith_body.proofs.DrawnLemmas.{around_costing, drawn_more, drawn_then, drawn_within, enclosed, paid_for, written_drawn}
use Rattle.smith_body.proofs.ExactLemmas.{block_exact, state_is}
use Rattle.smith_body.proofs.OperandLemmas.{written_state}

-- a block that may be repeated
pub may_loop : (opening : Opening) (params : List ValType) (budget : ℕ) → may_repeat opening params budget ≡ true
    → (opening ≡ openings.Loop) × (params ≡ []) × (0 < budget)
may_loop openings.Loop [] zero is = absurd (false≢true is)
may_loop openings.Loop [] (suc budget) is = (refl, refl, omega arith)
may_loop openings.Loop (value ∷ params) budget is =
    let test = not_zero (length (value ∷ params)) (omega arith) in
    absurd (false≢true (rw test at is))
may_loop openings.Block params budget is = absurd (false≢true is)
may_loop openings.IfAlone params budget is = absurd (false≢true is)

-- whether a block is repeated, and how
pub repeat_barred : (config : Config) (context : BodyContext) (opening : Opening) (params : List ValType) (budget : ℕ) (bytes : List ℕ)
    → may_repeat opening params budget ≡ false → repeat_at config context opening params budget bytes ≡ (None, bytes)
unfolding repeat_at
repeat_barred config context opening params budget bytes barred = rw barred refl

pub repeat_no : (config : Config) (context : BodyContext) (opening : Opening) (params : List ValType) (budget : ℕ) (bytes left : List ℕ)
    → may_repeat opening params budget ≡ true → range_at 0 7 bytes ≡ (0, left)
    → repeat_at config context opening params budget bytes ≡ (None, left)
unfolding repeat_at
repeat_no config context opening params budget bytes left may drawn = rw (may, drawn) refl

pub repeat_yes : (config : Config) (context : BodyContext) (opening : Opening) (params : List ValType) (budget number : ℕ) (bytes left
    rest :
    List ℕ) (way : Repeat) → may_repeat opening params budget ≡ true → range_at 0 7 bytes ≡ (number, left) → 0 < number
    → way_at config context left ≡ (way, rest) → repeat_at config context opening params budget bytes ≡ (Some way, rest)
unfolding repeat_at
repeat_yes config context opening params budget number bytes left rest way may drawn some is = rw (may, drawn, not_zero number some, is)
    refl

pub way_none : (config : Config) (context : BodyContext) (bytes left : List ℕ)
    → choose_at (offered (is_local_below context I32) (indexed (length context.locals))) bytes ≡ (None, left)
    → way_at config context bytes ≡ (repeats.Tested, left)
unfolding way_at
way_none config context bytes left drawn = rw drawn refl

pub way_forbidden : (config : Config) (context : BodyContext) (bytes left : List ℕ) (local : ℕ)
    → choose_at (offered (is_local_below context I32) (indexed (length context.locals))) bytes ≡ (Some local, left)
    → is_counting_permitted context.features config local ≡ false → way_at config context bytes ≡ (repeats.Tested, left)
unfolding way_at
way_forbidden config context bytes left local drawn forbidden = rw (drawn, forbidden) refl

pub way_counted : (config : Config) (context : BodyContext) (bytes left rest : List ℕ) (local times : ℕ)
    → choose_at (offered (is_local_below context I32) (indexed (length context.locals))) bytes ≡ (Some local, left)
    → is_counting_permitted context.features config local ≡ true → times_at (length context.labels) left ≡ (times, rest)
    → way_at config context bytes ≡ (repeats.Counted local times, rest)
unfolding way_at
way_counted config context bytes left rest local times drawn allowed is = rw (drawn, allowed, is) refl

-- a local whose type matches i32 has that type
number_below : (types : List SubType) (value : ValType) → IsValBelow types value I32 → value ≡ I32
number_below types I32 below = refl
number_below types I64 below = absurd below
number_below types F32 below = absurd below
number_below types F64 below = absurd below
number_below types V128 below = absurd below
number_below types (Ref reference) below = absurd below

pub local_counts : (scope : Scope) (local : ℕ) → IsOrderly (bare scope).types → is_local_below (bare scope) I32 local ≡ true
    → slice_get scope.locals.now local ≡ Some I32
local_counts scope local orderly is =
    let (value, at, below) = local_below (bare scope) I32 local orderly is in
    at ∙ ap (λ (value : ValType). Some value) (number_below (bare scope).types value below)

-- the instructions of a loop that is repeated are of kinds that are allowed
number_allowed : (scope : Scope) (number : ℤ) → IsAllowedIn scope (instr.I32Const (pos 1)) → IsAllowedIn scope (instr.I32Const number)
unfolding is_enabled
number_allowed scope number allowed = record { enabled = allowed.enabled; trapless = λ disallowed traps. absurd (false≢true traps) }

less_allowed : (scope : Scope) → IsAllowedIn scope (instr.I32Const (pos 1)) → IsAllowedIn scope (instr.Numeric (numeric.I32Binary Sub))
unfolding is_enabled
less_allowed scope allowed = record { enabled = allowed.enabled; trapless = λ disallowed traps. absurd (false≢true traps) }

set_allowed : (scope : Scope) (local : ℕ) → IsAllowedIn scope (instr.LocalGet local) → IsAllowedIn scope (instr.LocalSet local)
unfolding is_enabled
set_allowed scope local allowed = record { enabled = allowed.enabled; trapless = λ disallowed traps. absurd (false≢true traps) }

tee_allowed : (scope : Scope) (local : ℕ) → IsAllowedIn scope (instr.LocalGet local) → IsAllowedIn scope (instr.LocalTee local)
unfolding is_enabled
tee_allowed scope local allowed = record { enabled = allowed.enabled; trapless = λ disallowed traps. absurd (false≢true traps) }

branch_allowed : (scope : Scope) (ty : BlockType) → IsAllowedIn scope (instr.Loop ty) → IsAllowedIn scope (instr.BrIf 0)
unfolding is_enabled
branch_allowed scope ty allowed =
    let (featured, enabled) = both (has_features (features_in scope.features) (instr.Loop ty))
    (is_kind_enabled (kinds_of_bodies scope.config.now) (instr.Loop ty)) allowed.enabled in
    record { enabled = enabled; trapless = λ disallowed traps. absurd (false≢true traps) }

-- an instruction that leaves a number
number_drawn : {scope : Scope} {old new : Draft} (instruction : Instr) (operands : List ValType) (set : Option ℕ)
    → HasInstrType (where_stands scope old) old.set.items instruction operands (I32 ∷ []) → IsAllowedIn scope instruction
    → IsNoStop scope.config.now instruction → sets instruction ≡ option_to_list set → IsWritten instruction set old new
    → IsDrawn scope operands (I32 ∷ []) 1 old new
number_drawn {scope = scope} {old = old} instruction operands set typed allowed goes_on local done =
    written_drawn instruction operands (I32 ∷ []) (I32 ∷ []) set typed (IsValBelow-refl (bare scope).types I32, tt)
    (one_valid (where_stands scope old) I32 tt) allowed goes_on local done

-- one that takes a number
taken_drawn : {scope : Scope} {old new : Draft} (instruction : Instr) (set : Option ℕ)
    → HasInstrType (where_stands scope old) old.set.items instruction (I32 ∷ []) [] → IsAllowedIn scope instruction
    → IsNoStop scope.config.now instruction → sets instruction ≡ option_to_list set → IsWritten instruction set old new
    → IsDrawn scope (I32 ∷ []) [] 1 old new
taken_drawn {scope = scope} {old = old} instruction set typed allowed goes_on local done =
    written_drawn instruction (I32 ∷ []) [] [] set typed tt (no_valid (where_stands scope old)) allowed goes_on local done

constant_drawn : {scope : Scope} {old new : Draft} (number : ℤ) → IsAllowedIn scope (instr.I32Const (pos 1))
    → IsWritten (instr.I32Const number) None old new → IsDrawn scope [] (I32 ∷ []) 1 old new
constant_drawn {scope = scope} number allowed done =
    number_drawn (instr.I32Const number) [] None (refl, refl) (number_allowed scope number allowed) (λ disallowed is. cc) refl done

-- the local is set before the loop
pub count_drawn : {scope : Scope} {old middle new : Draft} (local : ℕ) (number : ℤ) → IsCounter scope local
    → IsWritten (instr.I32Const number) None old middle → IsWritten (instr.LocalSet local) (Some local) middle new
    → IsDrawn scope [] [] 2 old new
count_drawn {scope = scope} local number counts first second =
    drawn_then (constant_drawn number counts.constant first)
    (taken_drawn (instr.LocalSet local) (Some local) (I32, counts.typed, (refl, refl)) (set_allowed scope local counts.variable)
    (λ disallowed is. cc) refl second)

-- the local is counted down
pub down_drawn : {scope : Scope} {old a b c new : Draft} (local : ℕ) → IsCounter scope local
    → IsWritten (instr.LocalGet local) None old a → IsWritten (instr.I32Const (pos 1)) None a b
    → IsWritten (instr.Numeric (numeric.I32Binary Sub)) None b c → IsWritten (instr.LocalTee local) (Some local) c new
    → IsDrawn scope [] (I32 ∷ []) 4 old new
down_drawn {scope = scope} local counts get one less tee =
    let read = number_drawn (instr.LocalGet local) [] None (I32, (counts.typed, inr (inl tt)), (refl, refl)) counts.variable
    (λ disallowed is. cc) refl get in
    let both = drawn_more (one_valid (bare scope) I32 tt) read (constant_drawn (pos 1) counts.constant one) in
    let lower = drawn_then both (number_drawn _ (I32 ∷ I32 ∷ []) None (refl, refl) (less_allowed scope counts.constant)
    (λ disallowed is. cc) refl less) in
    drawn_then lower (number_drawn (instr.LocalTee local) (I32 ∷ []) (Some local) (I32, counts.typed, (refl, refl))
    (tee_allowed scope local counts.variable) (λ disallowed is. cc) refl tee)

-- the branch to the start of the innermost block, a loop without parameters
branch_drawn : {scope : Scope} {old new : Draft} (ty : BlockType) (labels : List (List ValType)) → IsAllowedIn scope (instr.Loop ty)
    → old.labels.items ≡ [] ∷ labels → IsWritten (instr.BrIf 0) None old new → IsDrawn scope (I32 ∷ []) [] 1 old new
branch_drawn {scope = scope} {old = old} ty labels allowed inside done =
    let innermost : slice_get old.labels.items 0 ≡ Some [] = rw inside refl in
    taken_drawn (instr.BrIf 0) None ([], innermost, (refl, refl)) (branch_allowed scope ty allowed) (λ disallowed is. cc) refl done

-- what is inside a loop that is repeated
pub inside_drawn : {scope : Scope} {entered after tested back inside : Draft} (ty : BlockType) (labels : List (List ValType))
    (results : List ValType) → IsAllowedIn scope (instr.Loop ty) → entered.labels.items ≡ [] ∷ labels
    → IsDrawn scope [] [] 0 entered after → IsDrawn scope [] (I32 ∷ []) 4 after tested → IsWritten (instr.BrIf 0) None tested back
    → IsDrawn scope [] results (length results) back inside → IsDrawn scope [] results (5 + length results) entered inside
inside_drawn ty labels results allowed opened statements number branch values =
    let test = drawn_then statements number in
    drawn_then (drawn_then test (branch_drawn ty labels allowed (test.same ∙ opened) branch)) values

-- a block that is a loop without parameters
pub without_params : (context : BodyContext) (ty : BlockType) (params results : List ValType) → params ≡ []
    → IsBlockType context ty params results
    → IsBlockType context ty [] results
without_params context ty params results none fits = subst (λ (params : List ValType). IsBlockType context ty params results) none fits

pub opened_drawn : {scope : Scope} {old new : Draft} (opening : Opening) (params values : List ValType) → opening ≡ openings.Loop
    → params ≡ [] → IsDrawn scope [] values 0 old new
    → IsDrawn scope (taken_by opening params) values (block_cost scope.types.now.types) old new
opened_drawn opening params values loop none drawn = rw (loop, none) (drawn_within (omega arith) drawn)

-- a loop that is repeated: the instructions before it, and those in it
pub repeated_drawn : {scope : Scope} {old set entered inside new : Draft} (ty : BlockType) (results values : List ValType)
    → IsBlockType (bare scope) ty [] results → AreValid (bare scope) results → AreBelow (bare scope) results values
    → AreValid (bare scope) values → IsAllowedIn scope (instr.Loop ty) → length results ≤ widest scope.types.now.types → 0 < old.budget
    → IsDrawn scope [] [] 2 (record old { budget = old.budget - 1 }) set → IsOpened (instr.Loop ty) [] set entered
    → IsDrawn scope [] results (5 + length results) entered inside
    → (height : ℕ) → height ≡ length set.set.items → IsEnded instr.End height inside new → new.labels.items ≡ set.labels.items
    → IsDrawn scope [] values 0 old new
repeated_drawn {scope = scope} {set = set} ty results values fits given below valid allowed few paid count start drawn height high ended
    labels =
    let wide = three_wide scope.types.now.types in
    let around = around_costing (instr.Loop ty) [] [] results [] values
    (λ body base set' inner after under left typed.
    enclosed scope.config.now openings.Loop (where_stands scope set) ty body [] results values base set' inner after fits tt given
    below valid under left typed) allowed start drawn height high ended labels in
    paid_for {n = 2 + ((5 + length results) + 2)} (omega arith) paid (drawn_then count around)

pub budget_less : {scope : Scope} {a b c d : List ValType} {m n height : ℕ} {opening : Instr} {label : List ValType} {old set entered inside
    new : Draft} → IsDrawn scope a b m (record old { budget = old.budget - 1 }) set → IsOpened opening label set entered
    → IsDrawn scope c d n entered inside → IsEnded instr.End height inside new → new.budget ≤ old.budget
budget_less count start drawn end =
    let counted = count.spent in
    let opened = start.budget in
    let spent = drawn.spent in
    let ended = end.budget in
    omega arith

-- an instruction that sets a local
set_state : (scope : Scope) (instruction : Instr) (local : ℕ) (old new : Draft) (bytes : List ℕ)
    → IsWritten instruction (Some local) old new
    → setting_local instruction local (state_of scope old bytes) ≡ state_of scope new bytes
set_state scope instruction local old new bytes done =
    state_is scope new old.labels.items (old.out ++ instruction ∷ []) (old.set.items ++ local ∷ []) old.budget bytes done.same done.out
    done.set_more done.budget

pub count_exact : (scope : Scope) (local times : ℕ) (old middle new : Draft) (bytes : List ℕ)
    → IsWritten (instr.I32Const (cast_signed w32 times)) None old middle → IsWritten (instr.LocalSet local) (Some local) middle new
    → count_set (repeats.Counted local times) (state_of scope old bytes) ≡ state_of scope new bytes
count_exact scope local times old middle new bytes first second =
    ap (λ (s : State). setting_local (instr.LocalSet local) local s) (written_state scope _ old middle bytes first)
    ∙ set_state scope (instr.LocalSet local) local middle new bytes second

pub down_exact : (scope : Scope) (local : ℕ) (old a b c new : Draft) (bytes : List ℕ)
    → IsWritten (instr.LocalGet local) None old a → IsWritten (instr.I32Const (pos 1)) None a b
    → IsWritten (instr.Numeric (numeric.I32Binary Sub)) None b c → IsWritten (instr.LocalTee local) (Some local) c new
    → counted_down local (state_of scope old bytes) ≡ state_of scope new bytes
down_exact scope local old a b c new bytes get one less tee =
    ap (λ (s : State). setting_local (instr.LocalTee local) local (written (instr.Numeric (numeric.I32Binary Sub)) (written (instr.I32Const
    (pos 1)) s))) (written_state scope _ old a bytes get)
    ∙ (ap (λ (s : State). setting_local (instr.LocalTee local) local (written (instr.Numeric (numeric.I32Binary Sub)) s)) (written_state
    scope _ a b bytes one)
    ∙ (ap (λ (s : State). setting_local (instr.LocalTee local) local s) (written_state scope _ b c bytes less)
    ∙ set_state scope (instr.LocalTee local) local c new bytes tee))

pub repeated_exact : {a b : List ValType} {n : ℕ} (scope : Scope) (draw : Drawing) (repeat : Repeat) (ty : BlockType) (results : List
    ValType) (old set entered after tested back inside new : Draft) (bytes middle last left : List ℕ) (ends : Bool) (height : ℕ)
    → IsDrawn scope [] [] 2 (record old { budget = old.budget - 1 }) set → IsDrawn scope [] [] 0 entered after
    → count_set repeat (state_of scope (record old { budget = old.budget - 1 }) bytes) ≡ state_of scope set bytes
    → IsOpened (instr.Loop ty) [] set entered → draw.statements (state_of scope entered bytes) ≡ (ends, state_of scope after middle)
    → tested_at draw repeat (state_of scope after middle) ≡ state_of scope tested last → IsWritten (instr.BrIf 0) None tested back
    → values_at draw results (state_of scope back last) ≡ state_of scope inside left → IsDrawn scope a b n entered inside
    → height ≡ length set.set.items → IsEnded instr.End height inside new → new.labels.items ≡ set.labels.items
    → repeated_at draw repeat ty results (state_of scope old bytes) ≡ state_of scope new left
unfolding repeated_at
repeated_exact scope draw repeat ty results old set entered after tested back inside new bytes middle last left ends height count stated
    counted start statements number branch values drawn high end labels =
    let within : repeated_inside draw repeat results (state_of scope entered bytes) ≡ state_of scope inside left =
    ap (λ (drawn : Bool × State). values_at draw results (written (instr.BrIf 0) (tested_at draw repeat drawn.1))) statements
    ∙ (ap (λ (s : State). values_at draw results (written (instr.BrIf 0) s)) number
    ∙ (ap (λ (s : State). values_at draw results s) (written_state scope (instr.BrIf 0) tested back last branch) ∙ values)) in
    ap (λ (s : State). written instr.End (in_block (repeated_inside draw repeat results) [] (written (instr.Loop ty) s))) counted
    ∙ block_exact scope (repeated_inside draw repeat results) (instr.Loop ty) [] set entered inside new bytes left height start within drawn
    high end labels
