-- Operands that are popped one by one, the last first.
use Rattle.smith_check_operands.proofs.Common.{[], All-nil, ap, append-nil, AreSlotsValid, arith, BodyContext, Bool, drop, false, IsBelow}
use Rattle.smith_check_operands.proofs.Common.{IsSlotValid, length, List, MatchBool, refl, Slot, Some, subst, suc, sym, take, true, ValType}
use Rattle.smith_check_operands.proofs.Common.{Value, values, ℕ, ◌++◌, ◌-◌, ◌<◌, ◌∙◌, ◌∷◌, ◌≡◌, ◌≤◌}
use Rattle.std.proofs.Common.{get_or, ◌+◌}
use Rattle.std.proofs.Math.Seq.{drop-cons}
use Rattle.std.proofs.lemmas.List.{drop_all, take-append-drop, take_all, take_more}
use Rattle.std.proofs.lemmas.Option.{get_or_from_slice_get, slice_get-get_or, slice_get_within}
use Rattle.std.specs.Prelude.{None, slice_get}
use Rattle.smith_check_operands.specs.Covers.{Held, holding, Pops, PopsNothing}
use Rattle.smith_check_operands.specs.Fits.{IsSlotInRange}
use Rattle.smith_check_operands.proofs.RangeLemmas.{slot_in_range}
use Rattle.smith_check_operands.proofs.CoverLemmas.{pop_enough, pop_beyond, pop_apart, pop_short}
use Rattle.smith_check_operands.proofs.LookupLemmas.{none_not_some}
use Rattle.smith_check_operands.proofs.PushLemmas.{valid_last}
use Rattle.smith_check_operands.proofs.ApplyLemmas.{pops_then, nothing_below}
use Rattle.smith_check_operands.proofs.StepLemmas.{nothing_above_values}

-- the value on top, as a slice is read
on_top : (old whole : List Slot) (top : Slot) → whole ≡ old → Some top ≡ slice_get whole (length whole - 1)
    → old ≡ take (length old - 1) old ++ top ∷ []
on_top old whole top same at =
    let n = length old - 1 in
    let there : slice_get old n ≡ Some top = sym (subst (λ xs. Some top ≡ slice_get xs (length xs - 1)) same at) in
    let within : n < length old = slice_get_within old n top there in
    let all : take (n + 1) old ≡ old = take_all (n + 1) old (omega (arith, within)) in
    sym all ∙ take_more old n top within ∙ ap (λ x. take n old ++ x ∷ []) (get_or_from_slice_get old n top top there)

none_on_top : (known : List Slot) → None ≡ slice_get known (length known - 1) → known ≡ []
none_on_top [] at = refl
none_on_top (x ∷ xs) at =
    let n = length (x ∷ xs) - 1 in
    let within : n < length (x ∷ xs) = omega arith in
    absurd (none_not_some (get_or (x ∷ xs) n x) (slice_get (x ∷ xs) n) (sym at) (slice_get-get_or (x ∷ xs) n x within))

-- the value on top fits, and is popped
pub popped_one : (context : BodyContext) (old whole new : List Slot) (top : Slot) (expected : ValType) (n : ℕ) (dead : Bool)
    → AreSlotsValid context old → whole ≡ old → Some top ≡ slice_get whole (length whole - 1)
    → IsBelow context.types top (Value expected) → n ≡ length old → new ≡ take (n - 1) old
    → Pops context (Value expected ∷ []) (holding old dead) (holding new dead)
popped_one context old whole new top expected n dead valid same at fits count rest =
    let is : old ≡ new ++ top ∷ [] = on_top old whole top same at
    ∙ ap (λ xs. xs ++ top ∷ []) (ap (λ k. take (k - 1) old) (sym count) ∙ sym rest) in
    subst (λ xs. Pops context (Value expected ∷ []) (holding xs dead) (holding new dead)) (sym is)
    (pop_enough context new (top ∷ []) (Value expected ∷ []) dead (subst (λ xs. AreSlotsValid context xs) is valid) (fits, tt))

-- the value on top doesn't fit
pub refused_one : (context : BodyContext) (old whole : List Slot) (top : Slot) (expected : ValType) (dead : Bool)
    → whole ≡ old → Some top ≡ slice_get whole (length whole - 1) → (IsBelow context.types top (Value expected) → ⊥)
    → PopsNothing context (Value expected ∷ []) (holding old dead)
refused_one context old whole top expected dead same at apart =
    subst (λ xs. PopsNothing context (Value expected ∷ []) (holding xs dead)) (sym (on_top old whole top same at))
    (pop_apart context (take (length old - 1) old) (top ∷ []) (Value expected ∷ []) dead refl (λ below. apart below.0))

-- no value is known
pub popped_absent : (context : BodyContext) (old whole : List Slot) (expected : ValType) (dead : Bool)
    → whole ≡ old → None ≡ slice_get whole (length whole - 1)
    → MatchBool dead (Pops context (Value expected ∷ []) (holding old dead) (holding old dead))
    (PopsNothing context (Value expected ∷ []) (holding old dead))
popped_absent context old whole expected true same at =
    subst (λ xs. Pops context (Value expected ∷ []) (holding xs true) (holding xs true)) (sym (sym same ∙ none_on_top whole at))
    (pop_beyond context [] (Value expected ∷ []) [] (All-nil (IsSlotValid context)) tt)
popped_absent context old whole expected false same at =
    let short : length old < 1 = omega (arith, ap (λ xs. length xs) (sym same ∙ none_on_top whole at)) in
    pop_short context old (Value expected ∷ []) short

-- the type of the value on top refers only to types that exist
pub top_in_range : (context : BodyContext) (old whole : List Slot) (top : Slot) → AreSlotsValid context old → whole ≡ old
    → Some top ≡ slice_get whole (length whole - 1) → IsSlotInRange context.types top
top_in_range context old whole top valid same at =
    slot_in_range context top (valid_last context (take (length old - 1) old) top
    (subst (λ xs. AreSlotsValid context xs) (on_top old whole top same at) valid))

pops_none : (context : BodyContext) (known : List Slot) (dead : Bool) → AreSlotsValid context known
    → Pops context [] (holding known dead) (holding known dead)
pops_none context known dead valid =
    subst (λ xs. Pops context [] (holding xs dead) (holding known dead)) (append-nil known)
    (pop_enough context known [] [] dead (subst (λ xs. AreSlotsValid context xs) (sym (append-nil known)) valid) tt)

-- none of the operands is popped yet
pub none_popped : (context : BodyContext) (expected : List ValType) (n : ℕ) (known : List Slot) (dead : Bool) → n ≡ length expected
    → AreSlotsValid context known → Pops context (values (drop n expected)) (holding known dead) (holding known dead)
none_popped context expected n known dead whole valid =
    let none : drop n expected ≡ [] = drop_all n expected (omega (arith, whole)) in
    subst (λ es. Pops context (values es) (holding known dead) (holding known dead)) (sym none) (pops_none context known dead valid)

at_front : (expected : List ValType) (i n : ℕ) (d : ValType) → i + 1 ≡ n → n ≤ length expected
    → drop i expected ≡ get_or expected i d ∷ drop n expected
at_front expected i n d next within = let after : suc i ≡ n = omega arith in rw (← after) (drop-cons expected i d (omega arith))

-- one more operand is popped
pub one_more_popped : (context : BodyContext) (expected : List ValType) (i n : ℕ) (d : ValType) (old middle new : Held) → i + 1 ≡ n
    → n ≤ length expected → Pops context (values (drop n expected)) old middle
    → Pops context (Value (get_or expected i d) ∷ []) middle new → Pops context (values (drop i expected)) old new
one_more_popped context expected i n d old middle new next within first second =
    subst (λ es. Pops context (values es) old new) (sym (at_front expected i n d next within))
    (pops_then context (Value (get_or expected i d) ∷ []) (values (drop n expected)) old middle new first second)

-- one more operand is not there
pub one_more_refused : (context : BodyContext) (expected : List ValType) (i n : ℕ) (d : ValType) (old middle : Held) → i + 1 ≡ n
    → n ≤ length expected → Pops context (values (drop n expected)) old middle
    → PopsNothing context (Value (get_or expected i d) ∷ []) middle → PopsNothing context (values expected) old
one_more_refused context expected i n d old middle next within first never =
    let rest : PopsNothing context (values (drop i expected)) old =
    subst (λ es. PopsNothing context (values es) old) (sym (at_front expected i n d next within))
    (nothing_below context (Value (get_or expected i d) ∷ []) (values (drop n expected)) old middle first never) in
    subst (λ es. PopsNothing context (values es) old) (take-append-drop i expected)
    (nothing_above_values context (take i expected) (drop i expected) old rest)
