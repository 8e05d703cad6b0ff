-- The ways to create values, counted by the types that are read in turn.
use Rattle.smith_draw_consts.proofs.Common.{[], ap, arith, Bool, CompositeInnerType, Context, created, false, get_or, get_or_from_slice_get}
use Rattle.smith_draw_consts.proofs.Common.{if◌then◌else◌, is_val_below, length, length-take-le, List, nat_lt, refl, set, slice_get}
use Rattle.smith_draw_consts.proofs.Common.{slice_get-get_or, slice_get_within, Some, subst, sym, take, true, ValType, ℕ, ◌&&◌, ◌*◌, ◌++◌}
use Rattle.smith_draw_consts.proofs.Common.{◌+◌, ◌<◌, ◌==◌, ◌||◌, ◌∙◌, ◌∷◌, ◌≡◌, ◌≤◌}
use Rattle.std.proofs.lemmas.Bool.{lt-ltb}
use Rattle.std.proofs.lemmas.List.{get_or-set_same, length-set}
use Rattle.smith_types.specs.Grounded.{are_defaultable}
use Rattle.smith_types.specs.Syntax.composite_type.CompositeInnerType.TheVariants as inner
use Rattle.smith_draw_consts.specs.ConstOffers.{array_ways, each_from, offered_if, type_offers, types_offers, ways_by}
use Rattle.smith_draw_consts.specs.KeptOffers.{AreAllCounted, AreWaysFor, HasReadAll, IsFewWhole, offered_before}
use Rattle.smith_draw_consts.specs.declared.block_counts.BlockCounts.{BlockCounts}
use Rattle.smith_draw_consts.specs.declared.kept_offers.KeptOffers.{KeptOffers}
use Rattle.smith_draw_consts.specs.declared.kept_ways.KeptWays.{KeptWays}
use Rattle.smith_draw_consts.specs.declared.node_choice.Choice.TheVariants as choice
use Rattle.smith_draw_consts.proofs.BlockCountLemmas.{counted_alike}
use Rattle.smith_draw_consts.proofs.ConstFoundLemmas.{few_each, few_type}

-- if no item offers a choice, all together offer none
each_none : {A B : Type 0} (offer : ℕ → A → List B) → ((i : ℕ) (x : A) → offer i x ≡ []) → (start : ℕ) (xs : List A)
    → each_from offer start xs ≡ []
each_none offer none start [] = refl
each_none offer none start (x ∷ xs) = rw (none start x, each_none offer none (start + 1) xs) refl

-- if each item offers the same, so do all together
pub each_near : {A B : Type 0} (bound : ℕ) (f g : ℕ → A → List B) → ((i : ℕ) (x : A) → i < bound → f i x ≡ g i x)
    → (start : ℕ) (xs : List A) → start + length xs ≤ bound → each_from f start xs ≡ each_from g start xs
each_near bound f g same start [] near = refl
each_near bound f g same start (x ∷ xs) near =
    ap (λ ys. ys ++ each_from f (start + 1) xs) (same start x (omega (arith, near))) ∙ ap (λ ys. g start x ++ ys)
    (each_near bound f g same (start + 1) xs (omega (arith, near)))

-- without fuel no array is created
no_array : (context : Context) (wanted : ValType) (index : ℕ) (i : CompositeInnerType) → type_offers context wanted 0 true index i ≡ []
no_array context wanted index (inner.Struct structure) = refl
no_array context wanted index (inner.Array array) = refl
no_array context wanted index (inner.Func function) = refl

pub no_arrays : (context : Context) (wanted : ValType) → types_offers context wanted 0 true ≡ []
no_arrays context wanted = each_none (ways_by context wanted 0 true) (λ i t. no_array context wanted i t.composite_type.inner) 0
    context.types

-- with any fuel the same values are created
fuel_alike : (context : Context) (wanted : ValType) (arrays : Bool) (fuel index : ℕ) (i : CompositeInnerType) → nat_lt 0 fuel ≡ true
    → type_offers context wanted 1 arrays index i ≡ type_offers context wanted fuel arrays index i
fuel_alike context wanted false fuel index (inner.Struct structure) some =
    let below = is_val_below context.types (created context index) wanted in
    let fields = structure.fields in
    ap (λ (more : Bool). if below then offered_if (more || (length fields == 0)) (choice.Struct index) ++ offered_if
    (are_defaultable fields) (choice.StructDefault index) else []) (sym some)
fuel_alike context wanted false fuel index (inner.Array array) some = refl
fuel_alike context wanted false fuel index (inner.Func function) some = refl
fuel_alike context wanted true fuel index (inner.Struct structure) some = refl
fuel_alike context wanted true fuel index (inner.Array array) some =
    ap (λ (more : Bool). if more && is_val_below context.types (created context index) wanted then array_ways index array.0 else [])
    (sym some)
fuel_alike context wanted true fuel index (inner.Func function) some = refl

-- the counts with fuel are those with this fuel
pub fuelled : (context : Context) (wanted : ValType) (arrays : Bool) (fuel : ℕ) (counts : BlockCounts) → 0 < fuel
    → AreAllCounted context wanted 1 arrays counts → AreAllCounted context wanted fuel arrays counts
fuelled context wanted arrays fuel counts some all = record {
  seen = all.seen;
  counted = counted_alike (offered_before (ways_by context wanted 1 arrays) context.types)
      (offered_before (ways_by context wanted fuel arrays) context.types) counts
      (λ n read.
      ap length (each_near (length (take n context.types)) (ways_by context wanted 1 arrays) (ways_by context wanted fuel arrays)
      (λ i t inside. fuel_alike context wanted arrays fuel i t.composite_type.inner (lt-ltb 0 fuel some)) 0 (take n context.types)
      (omega arith)))
      all.counted;
}

-- each type offers three ways at most
pub few_ways : (context : Context) (wanted : ValType) (fuel : ℕ) (arrays : Bool) (n : ℕ) → n ≤ length context.types
    → offered_before (ways_by context wanted fuel arrays) context.types n ≤ 3 * n
few_ways context wanted fuel arrays n inside =
    let few = few_each (ways_by context wanted fuel arrays) 3 (λ i t. few_type context wanted fuel arrays i t.composite_type.inner) 0
    (take n context.types) in
    omega (arith, few, length-take-le n context.types inside)

-- a replaced element
pub set_there : {A : Type 0} (xs : List A) (place : ℕ) (new : A) → place < length xs → slice_get (set xs place new) place ≡ Some new
set_there {A} xs place new inside = slice_get-get_or (set xs place new) place new (rw (length-set xs place new) inside)
    ∙ ap (λ (each : A). Some each) (get_or-set_same xs place new new inside)

-- the entry at a position is for its type
pub ways_within : (kept : List KeptWays) (place : ℕ) (wanted : ValType) → AreWaysFor kept place wanted → place < length kept
ways_within kept place wanted (ways, at, for) = slice_get_within kept place ways at

pub ways_for : (kept : List KeptWays) (place : ℕ) (d one : KeptWays) (wanted : ValType) → AreWaysFor kept place wanted
    → one ≡ get_or kept place d → one.wanted ≡ wanted
ways_for kept place d one wanted (ways, at, for) is = ap (λ (each : KeptWays). each.wanted)
    (is ∙ get_or_from_slice_get kept place ways d at) ∙ for

-- what has been read of globals and functions stays read
pub read_still : (context : Context) (wanted : ValType) (place : ℕ) (old new : KeptOffers) → new.few ≡ old.few → new.many ≡ old.many
    → HasReadAll context wanted place old → HasReadAll context wanted place new
read_still context wanted place old new few many has = record {
  few = λ none. subst (IsFewWhole context) (sym few) (has.few (sym many ∙ none));
  many = rw many has.many;
  counted = rw many has.counted;
}
