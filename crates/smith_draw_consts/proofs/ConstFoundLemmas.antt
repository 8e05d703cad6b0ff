-- Searching and counting in lists of choices.
use Rattle.smith_draw_consts.proofs.Common.{[], Abstract, ap, arith, Bool, choose_at, CompositeInnerType, cond, Config, Context, drop, Err}
use Rattle.smith_draw_consts.proofs.Common.{F32, F64, false, function_reference, get_or, HeapType, I32, I64, is_val_below, IsErrAnd, length}
use Rattle.smith_draw_consts.proofs.Common.{length-append, List, nat_lt, not, Ok, range_at, Ref, refl, Result, slice_get, SubType, suc, sym}
use Rattle.smith_draw_consts.proofs.Common.{take, true, V128, ValType, zero, ℕ, ◌&&◌, ◌*◌, ◌++◌, ◌+◌, ◌-◌, ◌<◌, ◌||◌, ◌∙◌, ◌∷◌, ◌≡◌, ◌≤◌}
use Rattle.std.proofs.Common.{rules, Some, ◌^◌}
use Rattle.std.proofs.lemmas.List.{drop_more}
use Rattle.std.specs.Result.{result_unwrap_or}
use Rattle.smith_types.specs.Expressions.{reference_to}
use Rattle.smith_types.specs.Syntax.value_type.AbstractHeapType.TheVariants as heap
use Rattle.smith_types.specs.Syntax.value_type.RefType.{RefType}
use Rattle.smith_draw_consts.specs.ConstScopes.{IsScope}
use Rattle.smith_draw_consts.specs.ConstOffers.{past, each_from, offered_if, is_integer, global_offers, function_offers, type_offers}
use Rattle.smith_draw_consts.specs.ConstOffers.{types_offers, conversions_to, conversions, other_offers, created_offers, reference_offers}
use Rattle.smith_draw_consts.specs.ConstOffers.{offers}
use Rattle.smith_types.specs.Grounded.{is_defaultable}
use Rattle.smith_draw_consts.specs.declared.node_choice.Choice.{Choice}
use Rattle.smith_draw_consts.specs.declared.node_choice.Choice.TheVariants as choice

-- a search through one list and then another
pub past_append : {B : Type 0} (xs ys : List B) (place rest : ℕ) → past xs place ≡ Ok rest → past (xs ++ ys) place ≡ past ys rest
unfolding past
past_append [] ys place rest e = cc
past_append (x ∷ xs) ys zero rest e = cc
past_append (x ∷ xs) ys (suc place) rest e = past_append xs ys place rest e

-- an item found in the first list is found in both together
pub past_front : {B : Type 0} (xs ys : List B) (place : ℕ) (x : B) → past xs place ≡ Err x → past (xs ++ ys) place ≡ Err x
unfolding past
past_front [] ys place x e = cc
past_front (y ∷ xs) ys zero x e = e
past_front (y ∷ xs) ys (suc place) x e = past_front xs ys place x e

-- as above, for an item found by the code
pub found_here : {B : Type 0} (xs : List B) (place : ℕ) (x : B) (r : Result ℕ B) → Err x ≡ past xs place → IsErrAnd r (λ y. y ≡ x)
    → r ≡ past xs place
found_here xs place x (Ok n) e h = absurd h
found_here xs place x (Err y) e h = ap (λ z. Err z) h ∙ e

pub found_first : {B : Type 0} (xs ys : List B) (place : ℕ) (x : B) (r : Result ℕ B) → Err x ≡ past xs place → IsErrAnd r (λ y. y ≡ x)
    → r ≡ past (xs ++ ys) place
found_first xs ys place x r e h = found_here (xs ++ ys) place x r (sym (past_front xs ys place x (sym e))) h

pub found_next : {B : Type 0} (xs ys : List B) (place rest : ℕ) (r : Result ℕ B) → Ok rest ≡ past xs place → r ≡ past ys rest
    → r ≡ past (xs ++ ys) place
found_next xs ys place rest r e next = next ∙ sym (past_append xs ys place rest (sym e))

-- one turn of a loop over the items that offer choices
pub turn_on : {A B : Type 0} (offer : ℕ → A → List B) (xs : List A) (index : ℕ) (d : A) (place rest : ℕ) (total : Result ℕ B)
    → index < length xs → past (each_from offer index (drop index xs)) place ≡ total → Ok rest ≡ past (offer index (get_or xs index d))
    place
    → past (each_from offer (index + 1) (drop (index + 1) xs)) rest ≡ total
turn_on offer xs index d place rest total inside now e =
    sym (past_append (offer index (get_or xs index d)) (each_from offer (index + 1) (drop (index + 1) xs)) place rest (sym e))
    ∙ ap (λ (ys : List _). past (each_from offer index ys) place) (sym (drop_more xs index d inside)) ∙ now

pub turn_found : {A B : Type 0} (offer : ℕ → A → List B) (xs : List A) (index : ℕ) (d : A) (place : ℕ) (x : B) (r total : Result ℕ B)
    → index < length xs → past (each_from offer index (drop index xs)) place ≡ total → Err x ≡ past (offer index (get_or xs index d)) place
    → IsErrAnd r (λ y. y ≡ x)
    → r ≡ total
turn_found offer xs index d place x r total inside now e h =
    found_first (offer index (get_or xs index d)) (each_from offer (index + 1) (drop (index + 1) xs)) place x r e h
    ∙ ap (λ (ys : List _). past (each_from offer index ys) place) (sym (drop_more xs index d inside)) ∙ now

-- a position past the end
pub past_end : {B : Type 0} (xs : List B) (place : ℕ) → length xs ≤ place → past xs place ≡ Ok (place - length xs)
unfolding past
past_end [] place le = ap (λ (n : ℕ). Ok n) (omega arith)
past_end (x ∷ xs) zero le = absurd (omega arith)
past_end (x ∷ xs) (suc place) le = past_end xs place (omega arith) ∙ ap (λ (n : ℕ). Ok n) (omega arith)

-- a position within the list
pub past_within : {B : Type 0} (xs : List B) (place : ℕ) (x : B) → past xs place ≡ Err x → slice_get xs place ≡ Some x
unfolding past
past_within [] place x e = cc
past_within (y ∷ xs) zero x e = ap (λ (z : _). Some z) (cc)
past_within (y ∷ xs) (suc place) x e = past_within xs place x e

pub past_inside : {B : Type 0} (xs : List B) (place rest : ℕ) → past xs place ≡ Ok rest → length xs ≤ place
unfolding past
past_inside [] place rest e = omega arith
past_inside (x ∷ xs) zero rest e = cc
past_inside (x ∷ xs) (suc place) rest e = let more = past_inside xs place rest e in omega arith

-- the maximum number of choices
pub few_if : {B : Type 0} (b : Bool) (x : B) → length (offered_if b x) ≤ 1
few_if true x = omega arith
few_if false x = omega arith

few_cond : {B : Type 0} (b : Bool) (xs : List B) (n : ℕ) → length xs ≤ n → length (cond b xs []) ≤ n
few_cond true xs n h = h
few_cond false xs n h = omega arith

pub few_each : {A B : Type 0} (offer : ℕ → A → List B) (n : ℕ) → ((i : ℕ) (x : A) → length (offer i x) ≤ n) → (start : ℕ) (xs : List A)
    → length (each_from offer start xs) ≤ n * length xs
few_each offer n each start [] = omega arith
few_each offer n each start (x ∷ xs) =
    let one = each start x in
    let more = few_each offer n each (start + 1) xs in
    simp length-append (omega arith)

few_join : {B : Type 0} (xs ys : List B) (n m k : ℕ) → length xs ≤ n → length ys ≤ m → n + m ≤ k → length (xs ++ ys) ≤ k
few_join xs ys n m k h g le = simp length-append (omega arith)

few_taken : {A : Type 0} (n : ℕ) (xs : List A) → length (take n xs) ≤ length xs
few_taken zero xs = omega arith
few_taken (suc n) [] = omega arith
few_taken (suc n) (x ∷ xs) = let more = few_taken n xs in omega arith

pub few_type : (context : Context) (wanted : ValType) (fuel : ℕ) (arrays : Bool) (index : ℕ) (i : CompositeInnerType)
    → length (type_offers context wanted fuel arrays index i) ≤ 3
few_type context wanted fuel arrays index i = search rules

few_types : (context : Context) (wanted : ValType) (fuel : ℕ) (arrays : Bool) → length (types_offers context wanted fuel arrays)
    ≤ 3 * length context.types
few_types context wanted fuel arrays = few_each (λ index (t : SubType). type_offers context wanted fuel arrays index t.composite_type.inner)
    3 (λ i t. few_type context wanted fuel arrays i t.composite_type.inner) 0 context.types

few_conversions_to : (h : HeapType) → length (conversions_to h) ≤ 1
few_conversions_to h = search rules

few_conversions : (config : Config) (r : RefType) → length (conversions config r) ≤ 1
few_conversions config r = few_cond (r.nullable || not config.non_nullable_enabled) (conversions_to r.heap_type) 1
    (few_conversions_to r.heap_type)

few_others : (config : Config) (context : Context) (r : RefType) (fuel : ℕ) → length (other_offers config context r fuel) ≤ 3
few_others config context r fuel =
    few_cond (nat_lt 0 fuel) (offered_if (is_val_below context.types (reference_to (Abstract false heap.I31)) (Ref r)) choice.I31
    ++ (offered_if (context.features.shared_everything_threads && is_val_below context.types (reference_to (Abstract true heap.I31))
    (Ref r)) choice.SharedI31 ++ conversions config r)) 3
    (few_join (offered_if (is_val_below context.types (reference_to (Abstract false heap.I31)) (Ref r)) choice.I31)
    (offered_if (context.features.shared_everything_threads && is_val_below context.types (reference_to (Abstract true heap.I31)) (Ref r))
    choice.SharedI31 ++ conversions config r) 1 2 3
    (few_if (is_val_below context.types (reference_to (Abstract false heap.I31)) (Ref r)) choice.I31)
    (few_join (offered_if (context.features.shared_everything_threads && is_val_below context.types (reference_to (Abstract true heap.I31))
    (Ref r)) choice.SharedI31) (conversions config r) 1 1 2
    (few_if (context.features.shared_everything_threads && is_val_below context.types (reference_to (Abstract true heap.I31)) (Ref r))
    choice.SharedI31) (few_conversions config r) (omega arith)) (omega arith))

few_references : (config : Config) (context : Context) (wanted : ValType) (fuel : ℕ) → length (reference_offers config context wanted fuel)
    ≤ length context.funcs + 6 * length context.types + 3
few_references config context I32 fuel = omega arith
few_references config context I64 fuel = omega arith
few_references config context F32 fuel = omega arith
few_references config context F64 fuel = omega arith
few_references config context V128 fuel = omega arith
few_references config context (Ref r) fuel =
    let structs = few_types context (Ref r) fuel false in
    let arrays = few_types context (Ref r) fuel true in
    let functions = few_each (function_offers context (Ref r)) 1
    (λ i index. few_if (is_val_below context.types (function_reference context i index) (Ref r)) (choice.Function i)) 0 context.funcs in
    let others = few_others config context r fuel in
    let created : length (created_offers config context r fuel) ≤ 6 * length context.types + 3 = simp length-append (omega arith) in
    few_join (each_from (function_offers context (Ref r)) 0 context.funcs) (cond context.features.gc (created_offers config context r fuel)
    []) (length context.funcs) (6 * length context.types + 3) (length context.funcs + 6 * length context.types + 3)
    (omega arith) (few_cond context.features.gc (created_offers config context r fuel) (6 * length context.types + 3) created) (omega arith)

pub offers_few : (config : Config) (context : Context) (wanted : ValType) (fuel : ℕ) → IsScope context
    → length (offers config context wanted fuel) < 2 ^ 64
unfolding offers
offers_few config context wanted fuel scope =
    let globals = few_each (global_offers context wanted) 1 (λ i g. few_if (not g.mutable && is_val_below context.types g.val_type wanted)
    (choice.Global i)) 0 (take context.visible context.globals) in
    let fewer = few_taken context.visible context.globals in
    let first = few_if (is_defaultable wanted) choice.Constant in
    let second = few_if (is_integer wanted && context.features.extended_const) choice.Extended in
    let references = few_references config context wanted fuel in
    let few_types = scope.few_types in
    let few_funcs = scope.few_funcs in
    let few_globals = scope.few_globals in
    simp length-append (omega arith)

-- the choice at a drawn position
pub found_chosen : (items : List Choice) (place : ℕ) (bytes after : List ℕ) (x : Choice) → range_at 0 (length items - 1) bytes
    ≡ (place, after) → past items place ≡ Err x → choose_at items bytes ≡ (Some x, after)
unfolding choose_at
found_chosen items place bytes after x drawn found = rw (drawn, past_within items place x found) refl

-- counting by a search from a position past the end
pub counted : {B : Type 0} (xs : List B) (m rest : ℕ) → length xs ≤ m → past xs m ≡ Ok rest → m - rest ≡ length xs
counted {B = B} xs m rest le e =
    let same : rest ≡ m - length xs = ap (λ (r : Result ℕ B). result_unwrap_or r 0) (sym e ∙ past_end xs m le) in
    omega arith

pub not_found : {B : Type 0} (xs : List B) (m : ℕ) (x : B) → length xs ≤ m → past xs m ≡ Err x → ⊥
not_found xs m x le e = let far = past_end xs m le in cc
