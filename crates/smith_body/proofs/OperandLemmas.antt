-- Operands for which there are limits: constants, and values whose upper bits are cleared.
use Rattle.smith_body.proofs.Common.{[], ap, append-nil, arith, bare, Bool, Config, Draft, drop, drop-cons, false, get_or, Head, I32, I64}
use Rattle.smith_body.proofs.Common.{Instr, is_permitted, IsAllowedIn, IsValBelow-refl, length, List, None, not_zero, one_valid, Option}
use Rattle.smith_body.proofs.Common.{refl, Scope, suc, true, ValType, where_stands, ℕ, ◌++◌, ◌+◌, ◌-◌, ◌<◌, ◌∙◌, ◌∷◌, ◌≡◌}
use Rattle.std.specs.Prelude.{◌==◌}
use Rattle.std.proofs.lemmas.List.{length-drop}
use Rattle.smith_draw_types.specs.Choices.{chosen_at}
use Rattle.smith_instr.specs.Contexts.{address}
use Rattle.smith_body_nodes.proofs.ChosenLemmas.{chosen_by}
use Rattle.smith_body_nodes.proofs.NodeLemmas.{address_valid}
use Rattle.smith_body.specs.Bodies.{Drawing, State, limited_at, limited_by, masked_at, near_at, operand_at, operands_at, written}
use Rattle.smith_body.specs.DraftSteps.{IsDrawn, IsWritten, state_of}
use Rattle.smith_body.specs.Limits.{limit_at}
use Rattle.smith_body.specs.Operands.{address_constant, mask_of, masking, number_at, operand_ways}
use Rattle.smith_body.specs.declared.operands.OperandWay.{OperandWay}
use Rattle.smith_body.specs.declared.operands.OperandWay.TheVariants as way
use Rattle.smith_body.specs.declared.operands.Place.{Place}
use Rattle.smith_body.specs.declared.operands.Place.TheVariants as place
use Rattle.smith_body.proofs.DrawnLemmas.{drawn_more, drawn_then, drawn_within, paid_for, written_drawn}
use Rattle.smith_body.proofs.ExactLemmas.{state_is}

-- operands, one after another
pub next_operand : (config : Config) (draw : Drawing) (head : Head) (wanted : List ValType) (n : ℕ) (d : ValType) (s t : State) (limit :
    Option ℕ) (above : ℕ) → n < length wanted
    → operand_at config draw limit (get_or wanted n d) s ≡ t → limit ≡ limit_at s.context.tables s.context.memories head above → above ≡
    length wanted - 1 - n
    → operands_at config draw head (drop n wanted) s ≡ operands_at config draw head (drop (n + 1) wanted) t
next_operand config draw head wanted n d s t limit above inside is same count =
    let first : drop n wanted ≡ get_or wanted n d ∷ drop (suc n) wanted = drop-cons wanted n d inside in
    let next : n + 1 ≡ suc n = omega arith in
    let left : above ≡ length (drop (suc n) wanted) = simp length-drop (omega arith) in
    let is' : operand_at config draw (limit_at s.context.tables s.context.memories head (length (drop (suc n) wanted))) (get_or wanted n
    d) s ≡ t = rw (same, left) at is in
    rw (first, next) (ap (λ (s : State). operands_at config draw head (drop (suc n) wanted) s) is')

-- the way that is drawn
pub by_way : (config : Config) (draw : Drawing) (wide : Bool) (limit : ℕ) (s : State) (left : List ℕ) (rows : List OperandWay) (drawn
    kind : OperandWay) → rows ≡ operand_ways → ((other : OperandWay) → chosen_at other rows s.bytes ≡ (drawn, left)) → drawn ≡ kind
    → limited_at config draw wide limit s ≡ limited_by config draw wide limit kind (record s { bytes = left })
unfolding limited_at
by_way config draw wide limit s left rows drawn kind are is same =
    chosen_by (λ (kind : OperandWay) (left : List ℕ). limited_by config draw wide limit kind (record s { bytes = left })) (way.Constant
    place.Start) operand_ways rows s.bytes left drawn kind are (is (way.Constant place.Start)) same

-- a constant, if it is allowed
pub near_value : (config : Config) (draw : Drawing) (wide : Bool) (at : Place) (limit number : ℕ) (s : State) (left : List ℕ)
    → number_at at limit s.bytes ≡ (number, left)
    → is_permitted s.context.features config (address_constant wide number) ≡ false → near_at config draw wide at limit s ≡ draw.value
    (address wide) (record s { bytes = left })
unfolding near_at
near_value config draw wide at limit number s left drawn forbidden = rw (drawn, forbidden) refl

pub near_constant : (config : Config) (draw : Drawing) (wide : Bool) (at : Place) (limit number : ℕ) (s : State) (left : List ℕ)
    → number_at at limit s.bytes ≡ (number, left)
    → is_permitted s.context.features config (address_constant wide number) ≡ true → near_at config draw wide at limit s ≡ written
    (address_constant wide number) (record s { bytes = left })
unfolding near_at
near_constant config draw wide at limit number s left drawn allowed = rw (drawn, allowed) refl

-- a value whose upper bits are cleared, if there is a budget and the instructions are allowed
pub unpaid_masked : (config : Config) (draw : Drawing) (wide : Bool) (limit : ℕ) (s : State) → s.budget ≡ 0
    → masked_at config draw wide limit s ≡ draw.value (address wide) s
unfolding masked_at
unpaid_masked config draw wide limit s none = let test : (s.budget == 0) ≡ true = ap (λ (n : ℕ). n == 0) none in rw test refl

pub no_mask : (config : Config) (draw : Drawing) (wide : Bool) (limit : ℕ) (s : State) → 0 < s.budget
    → is_permitted s.context.features config (address_constant wide (mask_of limit)) ≡ false
    → masked_at config draw wide limit s ≡ draw.value (address wide) s
unfolding masked_at
no_mask config draw wide limit s paid forbidden = rw (not_zero s.budget paid, forbidden) refl

pub no_masking : (config : Config) (draw : Drawing) (wide : Bool) (limit : ℕ) (s : State) → 0 < s.budget
    → is_permitted s.context.features config (address_constant wide (mask_of limit)) ≡ true
    → is_permitted s.context.features config (masking wide) ≡ false
    → masked_at config draw wide limit s ≡ draw.value (address wide) s
unfolding masked_at
no_masking config draw wide limit s paid allowed forbidden = rw (not_zero s.budget paid, allowed, forbidden) refl

pub masked_value : (config : Config) (draw : Drawing) (wide : Bool) (limit : ℕ) (s t : State) → 0 < s.budget
    → is_permitted s.context.features config (address_constant wide (mask_of limit)) ≡ true
    → is_permitted s.context.features config (masking wide) ≡ true
    → draw.value (address wide) (record s { budget = s.budget - 1 }) ≡ t → masked_at config draw wide limit s ≡ written (masking wide)
    (written (address_constant wide (mask_of limit)) t)
unfolding masked_at
masked_value config draw wide limit s t paid allowed allowed' is = rw (not_zero s.budget paid, allowed, allowed') (ap (λ (t : State).
    written (masking wide) (written (address_constant wide (mask_of limit)) t)) is)

pub written_state : (scope : Scope) (instruction : Instr) (old new : Draft) (bytes : List ℕ) → IsWritten instruction None old new
    → written instruction (state_of scope old bytes) ≡ state_of scope new bytes
written_state scope instruction old new bytes done =
    state_is scope new old.labels.items (old.out ++ instruction ∷ []) old.set.items old.budget bytes done.same done.out (done.set_more ∙
    append-nil old.set.items) done.budget

pub masks_written : (scope : Scope) (first second : Instr) (old middle new : Draft) (bytes : List ℕ)
    → IsWritten first None old middle → IsWritten second None middle new
    → written second (written first (state_of scope old bytes)) ≡ state_of scope new bytes
masks_written scope first second old middle new bytes done done' = ap (λ (s : State). written second s) (written_state scope first old
    middle bytes done) ∙ written_state scope second middle new bytes done'

-- a constant of an address
pub constant_drawn : {scope : Scope} {old new : Draft} (wide : Bool) (number : ℕ) → IsAllowedIn scope (address_constant wide number)
    → IsWritten (address_constant wide number) None old new → IsDrawn scope [] (address wide ∷ []) 1 old new
constant_drawn {scope = scope} {old = old} true number allowed done =
    written_drawn _ [] (I64 ∷ []) (I64 ∷ []) None (refl, refl) (IsValBelow-refl (bare scope).types I64, tt) (one_valid (where_stands
    scope old) I64 tt) allowed (λ disallowed is. cc) refl done
constant_drawn {scope = scope} {old = old} false number allowed done =
    written_drawn _ [] (I32 ∷ []) (I32 ∷ []) None (refl, refl) (IsValBelow-refl (bare scope).types I32, tt) (one_valid (where_stands
    scope old) I32 tt) allowed (λ disallowed is. cc) refl done

masking_drawn : {scope : Scope} {old new : Draft} (wide : Bool) → IsAllowedIn scope (masking wide)
    → IsWritten (masking wide) None old new → IsDrawn scope (address wide ∷ address wide ∷ []) (address wide ∷ []) 1 old new
masking_drawn {scope = scope} {old = old} true allowed done =
    written_drawn _ (I64 ∷ I64 ∷ []) (I64 ∷ []) (I64 ∷ []) None (refl, refl) (IsValBelow-refl (bare scope).types I64, tt) (one_valid
    (where_stands scope old) I64 tt) allowed (λ disallowed is. cc) refl done
masking_drawn {scope = scope} {old = old} false allowed done =
    written_drawn _ (I32 ∷ I32 ∷ []) (I32 ∷ []) (I32 ∷ []) None (refl, refl) (IsValBelow-refl (bare scope).types I32, tt) (one_valid
    (where_stands scope old) I32 tt) allowed (λ disallowed is. cc) refl done

-- a value, a constant and their `and`
pub masked_drawn : {scope : Scope} {old middle after new : Draft} (wide : Bool) (number : ℕ)
    → IsAllowedIn scope (address_constant wide number) → IsAllowedIn scope (masking wide) → 0 < old.budget
    → IsDrawn scope [] (address wide ∷ []) 1 (record old { budget = old.budget - 1 }) middle → IsWritten (address_constant wide number)
    None middle after → IsWritten (masking wide) None after new → IsDrawn scope [] (address wide ∷ []) 1 old new
masked_drawn {scope = scope} wide number allowed allowed' paid value first second =
    drawn_within (omega arith) (paid_for {n = 3} (omega arith) paid
    (drawn_then (drawn_more (one_valid (bare scope) (address wide) (address_valid (bare scope) wide)) value (constant_drawn wide number
    allowed first)) (masking_drawn wide allowed' second)))
