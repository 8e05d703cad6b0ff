-- The record of globals and functions that are offered, as they are read in turn.
use Rattle.smith_draw_consts.proofs.Common.{[], All, All-set, ap, append-nil, arith, Bool, cond, Context, drop, eqb_tells, false}
use Rattle.smith_draw_consts.proofs.Common.{function_reference, get_or, get_or_from_slice_get, inl, inr, is_val_below, length}
use Rattle.smith_draw_consts.proofs.Common.{length-take-le, List, not, Ok, refl, set, slice_get, slice_get-get_or, slice_get_within, Some}
use Rattle.smith_draw_consts.proofs.Common.{subst, suc, sym, take, true, ValType, zero, ℕ, ◌&&◌, ◌++◌, ◌+◌, ◌<◌, ◌∙◌, ◌∷◌, ◌≡◌, ◌≤◌}
use Rattle.std.proofs.lemmas.List.{append_assoc, get_or-set_other, get_or-set_same, length-append, length-set}
use Rattle.std.proofs.lemmas.List.{take-append-drop, take-take}
use Rattle.smith_draw_consts.specs.ConstOffers.{each_from, offered_if, past, global_offers, function_offers}
use Rattle.smith_draw_consts.specs.KeptOffers.{IsEntry, IsFor, IsKeptAt, IsKeptOffer, IsWhole, IsWholeAt, offered_before}
use Rattle.smith_draw_consts.specs.declared.kept_offers.KeptOffer.{KeptOffer}
use Rattle.smith_draw_consts.specs.declared.node_choice.Choice.{Choice}
use Rattle.smith_draw_consts.specs.declared.read_items.ReadItems.{ReadItems}
use Rattle.smith_draw_consts.specs.declared.node_choice.Choice.TheVariants as choice
use Rattle.smith_draw_consts.proofs.ConstFoundLemmas.{few_each, few_if, past_append, past_end}

-- the choices of the items of two lists
each_split : {A B : Type 0} (offer : ℕ → A → List B) (start : ℕ) (xs ys : List A) → each_from offer start (xs ++ ys)
    ≡ each_from offer start xs ++ each_from offer (start + length xs) ys
each_split offer start [] ys = let same : start ≡ start + 0 = omega arith in ap (λ (n : ℕ). each_from offer n ys) same
each_split offer start (x ∷ xs) ys =
    let same : start + 1 + length xs ≡ start + suc (length xs) = omega arith in
    ap (λ zs. offer start x ++ zs) (each_split offer (start + 1) xs ys)
    ∙ sym (append_assoc (offer start x) (each_from offer (start + 1) xs) (each_from offer (start + 1 + length xs) ys))
    ∙ ap (λ (n : ℕ). offer start x ++ each_from offer (start + 1) xs ++ each_from offer n ys) same

-- the choices of the items before one, and of this one
each_more : {A B : Type 0} (offer : ℕ → A → List B) (start : ℕ) (xs : List A) (k : ℕ) (d : A) → k < length xs
    → each_from offer start (take (suc k) xs) ≡ each_from offer start (take k xs) ++ offer (start + k) (get_or xs k d)
each_more offer start [] k d inside = absurd (omega arith)
each_more offer start (x ∷ xs) zero d inside = append-nil (offer start x) ∙ ap (λ (n : ℕ). offer n x) (omega arith)
each_more offer start (x ∷ xs) (suc k) d inside =
    let more = each_more offer (start + 1) xs k d (omega arith) in
    let same : start + 1 + k ≡ start + suc k = omega arith in
    ap (λ ys. offer start x ++ ys) (more ∙ ap (λ (n : ℕ). each_from offer (start + 1) (take k xs) ++ offer n (get_or xs k d)) same)
    ∙ sym (append_assoc (offer start x) (each_from offer (start + 1) (take k xs)) (offer (start + suc k) (get_or xs k d)))

-- one more item adds what it offers
pub offered_more : {A : Type 0} (offer : ℕ → A → List Choice) (xs : List A) (k : ℕ) (d : A) → k < length xs
    → offered_before offer xs (k + 1) ≡ offered_before offer xs k + length (offer k (get_or xs k d))
offered_more offer xs k d inside =
    let next : k + 1 ≡ suc k = omega arith in
    let start : 0 + k ≡ k = omega arith in
    ap (λ (n : ℕ). length (each_from offer 0 (take n xs))) next
    ∙ ap length (each_more offer 0 xs k d inside)
    ∙ length-append (each_from offer 0 (take k xs)) (offer (0 + k) (get_or xs k d))
    ∙ ap (λ (n : ℕ). length (each_from offer 0 (take k xs)) + length (offer n (get_or xs k d))) start

-- more items offer no less
pub offered_rising : {A : Type 0} (offer : ℕ → A → List Choice) (xs : List A) (m n : ℕ) → m ≤ n
    → offered_before offer xs m ≤ offered_before offer xs n
offered_rising {A} offer xs m n le =
    let parts : take n xs ≡ take m xs ++ drop m (take n xs) = sym (take-append-drop m (take n xs))
    ∙ ap (λ (ys : List A). ys ++ drop m (take n xs)) (take-take m n xs le) in
    let split = ap (λ (ys : List A). length (each_from offer 0 ys)) parts ∙ ap length (each_split offer 0 (take m xs) (drop m (take n xs)))
    ∙ length-append (each_from offer 0 (take m xs)) (each_from offer (0 + length (take m xs)) (drop m (take n xs))) in
    omega (arith, split)

-- the number of choices of an item
pub length_if : {B : Type 0} (offered : Bool) (x : B) → length (offered_if offered x) ≡ cond offered 1 0
length_if true x = refl
length_if false x = refl

-- each global and each function offers at most one choice
few_before : {A : Type 0} (offer : ℕ → A → List Choice) (xs : List A) (n : ℕ) → ((i : ℕ) (x : A) → length (offer i x) ≤ 1) → n ≤ length xs
    → offered_before offer xs n ≤ n
few_before offer xs n each inside = let few = few_each offer 1 each 0 (take n xs) in omega (arith, few, length-take-le n xs inside)

pub few_globals : (context : Context) (wanted : ValType) (n : ℕ) → n ≤ length context.globals
    → offered_before (global_offers context wanted) context.globals n ≤ n
few_globals context wanted n = few_before (global_offers context wanted) context.globals n
    (λ i global. few_if (not global.mutable && is_val_below context.types global.val_type wanted) (choice.Global i))

pub few_functions : (context : Context) (wanted : ValType) (n : ℕ) → n ≤ length context.funcs
    → offered_before (function_offers context wanted) context.funcs n ≤ n
few_functions context wanted n = few_before (function_offers context wanted) context.funcs n
    (λ i index. few_if (is_val_below context.types (function_reference context i index) wanted) (choice.Function i))

-- a search that begins at an item, with the place counted from there
pub past_from : {A : Type 0} (offer : ℕ → A → List Choice) (xs : List A) (first place rest : ℕ) → first ≤ length xs
    → offered_before offer xs first + rest ≡ place → past (each_from offer first (drop first xs)) rest ≡ past (each_from offer 0 xs) place
past_from {A} offer xs first place rest inside is =
    let front : List Choice = each_from offer 0 (take first xs) in
    let at : 0 + length (take first xs) ≡ first = omega (arith, length-take-le first xs inside) in
    let whole : each_from offer 0 xs ≡ front ++ each_from offer first (drop first xs) =
    ap (each_from offer 0) (sym (take-append-drop first xs)) ∙ each_split offer 0 (take first xs) (drop first xs)
    ∙ ap (λ (n : ℕ). front ++ each_from offer n (drop first xs)) at in
    let after : past front place ≡ Ok rest = past_end front place (omega (arith, is)) ∙ ap (λ (n : ℕ). Ok n) (omega (arith, is)) in
    sym (past_append front (each_from offer first (drop first xs)) place rest after) ∙ ap (λ (ys : List Choice). past ys place) (sym whole)

-- the first of the first items are the first of all
pub offered_within : {A : Type 0} (offer : ℕ → A → List Choice) (xs : List A) (first seen : ℕ) → first ≤ seen
    → offered_before offer (take seen xs) first ≡ offered_before offer xs first
offered_within {A} offer xs first seen le = ap (λ (ys : List A). length (each_from offer 0 ys)) (take-take first seen xs le)

-- the entry at a position is recorded
pub kept_there : (kept : List KeptOffer) (place : ℕ) (d one : KeptOffer) (wanted : ValType) (visible : ℕ) → place < length kept
    → one ≡ get_or kept place d → IsFor wanted visible one → IsKeptAt kept place wanted visible
kept_there kept place d one wanted visible inside is for =
    (one, slice_get-get_or kept place d inside ∙ ap (λ (each : KeptOffer). Some each) (sym is), for)

-- the position of an entry is within the list
pub kept_within : (kept : List KeptOffer) (place : ℕ) (wanted : ValType) (visible : ℕ) → IsKeptAt kept place wanted visible
    → place < length kept
kept_within kept place wanted visible (offer, at, for) = slice_get_within kept place offer at

-- the entry at a position is for its type
pub for_there : (kept : List KeptOffer) (place : ℕ) (d one : KeptOffer) (wanted : ValType) (visible : ℕ)
    → IsKeptAt kept place wanted visible → one ≡ get_or kept place d → IsFor wanted visible one
for_there kept place d one wanted visible (offer, at, for) is =
    subst (IsFor wanted visible) (sym (is ∙ get_or_from_slice_get kept place offer d at)) for

-- the entry lists the globals and functions that are offered
pub offer_there : (context : Context) (items : ReadItems) (kept : List KeptOffer) (place : ℕ) (d one : KeptOffer) (wanted : ValType)
    (visible : ℕ) → IsKeptAt kept place wanted visible → one ≡ get_or kept place d → All (IsEntry context items) kept
    → IsEntry context items one
offer_there context items kept place d one wanted visible (offer, at, for) is all = subst (IsEntry context items) (sym is)
    (all place d (slice_get_within kept place offer at))

-- a replacement of the entry is recorded
replaced_there : (kept : List KeptOffer) (place : ℕ) (new : KeptOffer) → place < length kept → slice_get (set kept place new) place
    ≡ Some new
replaced_there kept place new inside = slice_get-get_or (set kept place new) place new (rw (length-set kept place new) inside)
    ∙ ap (λ (each : KeptOffer). Some each) (get_or-set_same kept place new new inside)

-- a replacement for the same type leaves each entry for its type
kept_still : (kept : List KeptOffer) (at place : ℕ) (wanted : ValType) (visible : ℕ) (d old new : KeptOffer)
    → IsKeptAt kept at wanted visible → old ≡ get_or kept place d → IsFor old.wanted visible new
    → IsKeptAt (set kept place new) at wanted visible
kept_still kept at place wanted visible d old new there is still =
    let inside : at < length kept = kept_within kept at wanted visible there in
    elim (eqb_tells at place) [
      | inl (test, same) ↦
          let for : IsFor wanted visible old = for_there kept at d old wanted visible there
          (is ∙ ap (λ (n : ℕ). get_or kept n d) (sym same)) in
          (new, ap (λ (n : ℕ). slice_get (set kept n new) at) (sym same) ∙ replaced_there kept at new inside, (still.0 ∙ for.0, still.1))
      | inr (test, other) ↦ (
        there.0,
        slice_get-get_or (set kept place new) at there.0 (rw (length-set kept place new) inside)
            ∙ ap (λ (each : KeptOffer). Some each) (get_or-set_other kept place at new there.0 other ∙ get_or_from_slice_get kept at
            there.0 there.0 there.1),
        there.2,
      )
    ]

-- an entry that has read all visible globals and all functions counts them for its type
pub whole_for : (context : Context) (wanted : ValType) (offer : KeptOffer) → IsKeptOffer context offer → offer.wanted ≡ wanted
    → offer.globals.seen ≡ context.visible → offer.funcs.seen ≡ length context.funcs → IsWhole context wanted offer
whole_for context wanted offer kept is globals funcs = subst (λ (w : ValType). IsWhole context w offer) is
    (record { globals_seen = globals; globals = kept.globals; funcs_seen = funcs; funcs = kept.funcs })

-- a replacement that counts all
pub whole_again : (context : Context) (kept : List KeptOffer) (place : ℕ) (wanted : ValType) (new : KeptOffer) → place < length kept
    → IsWhole context wanted new → IsWholeAt context (set kept place new) place wanted
whole_again context kept place wanted new inside whole = (new, replaced_there kept place new inside, whole)

-- the entry at a position counts all
pub whole_there : (context : Context) (kept : List KeptOffer) (place : ℕ) (wanted : ValType) (d one : KeptOffer)
    → IsWholeAt context kept place wanted → one ≡ get_or kept place d → IsWhole context wanted one
whole_there context kept place wanted d one (offer, at, whole) is =
    subst (IsWhole context wanted) (sym (is ∙ get_or_from_slice_get kept place offer d at)) whole

-- correct entries, one of them for a type and one for a wider type
pub record HasEntries (context : Context) (items : ReadItems) (kept : List KeptOffer) (source : ℕ) (wider : ValType) (place : ℕ)
    (wanted : ValType) : Type 0 where
  pub all : All (IsEntry context items) kept
  pub at_source : IsKeptAt kept source wider context.visible
  pub at_place : IsKeptAt kept place wanted context.visible

pub entry_replaced : (context : Context) (items : ReadItems) (kept : List KeptOffer) (source : ℕ) (wider : ValType) (place : ℕ)
    (wanted : ValType) (at : ℕ) (d old new : KeptOffer) → HasEntries context items kept source wider place wanted → old ≡ get_or kept at d
    → IsFor old.wanted context.visible new → IsEntry context items new
    → HasEntries context items (set kept at new) source wider place wanted
entry_replaced context items kept source wider place wanted at d old new has is still correct = record {
  all = All-set (IsEntry context items) kept at new correct has.all;
  at_source = kept_still kept source at wider context.visible d old new has.at_source is still;
  at_place = kept_still kept place at wanted context.visible d old new has.at_place is still;
}
