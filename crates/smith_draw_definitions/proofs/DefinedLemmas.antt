-- Properties of items that are defined after imported ones, and the bytes that they take, for every
-- draw.
use Rattle.smith_draw_definitions.proofs.Common.{[], All, All-append, All-nil, All-push, All-weaker, ap, append-nil, append_assoc, arith}
use Rattle.smith_draw_definitions.proofs.Common.{Bool, bool_at, Error, false, following_so, IfOk, length, length-append, length-map, List}
use Rattle.smith_draw_definitions.proofs.Common.{Listed, lt-ltb, map, nat_le, nat_lt, Ok, refl, Result, SpellsNone, suc, true, try_grow_at}
use Rattle.smith_draw_definitions.proofs.Common.{zero, ℕ, ◌&&◌, ◌++◌, ◌+◌, ◌-◌, ◌<◌, ◌∙◌, ◌∷◌, ◌≡◌, ◌≤◌}
use Rattle.std.proofs.Common.{max}
use Rattle.smith_bytes.specs.Growth.{grow_at}
use Rattle.smith_bytes.specs.ReadLaws.{ReadsEach}
use Rattle.smith_bytes.proofs.GrownLemmas.{cond_both, grow_most, grow_least, grow_all}
use Rattle.smith_bytes.proofs.SpelledLemmas.{listed_read}
use Rattle.smith_draw_definitions.specs.Defined.{IsFilled, AreAdded}
use Rattle.smith_draw_consts.proofs.TriedListLemmas.{try_grow_most, try_grow_least, try_grow_none}
use Rattle.smith_draw_consts.proofs.TriedStepLemmas.{both_ok, then_ok}
use Rattle.smith_draw_definitions.specs.Definitions.{items_defined_at, items_tried_at, past_maximum_at}

defined_items : {A : Type 0} (draw : List A → List ℕ → A × List ℕ) (least most imported : ℕ) (bytes : List ℕ)
    → (items_defined_at draw least most imported bytes).0 ≡ (grow_at draw (least - imported) (most - imported) [] bytes).0
unfolding items_defined_at
defined_items {A = A} draw least most imported bytes =
    let grown = grow_at draw (least - imported) (most - imported) [] bytes in
    cond_both (λ (r : List A × List ℕ). r.0 ≡ grown.0) ((nat_lt 0 imported && nat_lt 0 most) && nat_le most (imported + length grown.0))
    (grown.0, (bool_at grown.1).1) grown refl refl

pub defined_most : {A : Type 0} (draw : List A → List ℕ → A × List ℕ) (least most imported : ℕ) (bytes : List ℕ)
    → imported + length (items_defined_at draw least most imported bytes).0 ≤ max most imported
defined_most draw least most imported bytes =
    let added = grow_most draw (least - imported) (most - imported) (most - imported) [] bytes (omega arith) in
    rw (defined_items draw least most imported bytes) (omega (arith, added))

pub defined_least : {A : Type 0} (draw : List A → List ℕ → A × List ℕ) (least most imported : ℕ) (bytes : List ℕ) → least ≤ most
    → least ≤ imported + length (items_defined_at draw least most imported bytes).0
defined_least draw least most imported bytes le =
    let added = grow_least draw (least - imported) (most - imported) [] bytes (omega arith) in
    rw (defined_items draw least most imported bytes) (omega (arith, added))

-- a property of each drawn item holds for all defined items
pub defined_all : {A : Type 0} (P : A → Type 0) (draw : List A → List ℕ → A × List ℕ)
    → ((made : List A) (bytes : List ℕ) → P (draw made bytes).0) → (least most imported : ℕ) (bytes : List ℕ)
    → All P (items_defined_at draw least most imported bytes).0
defined_all P draw each least most imported bytes =
    rw (defined_items draw least most imported bytes) (grow_all P draw each (least - imported) (most - imported) [] bytes (All-nil P))

filled : {A : Type 0} (least most : ℕ) (imported more : List A) → least ≤ length imported + length more
    → length imported + length more ≤ max most (length imported) → IsFilled least most imported (imported ++ more)
filled least most imported more enough within = record {
  extends = record { more = more; parts = refl };
  enough = rw length-append enough;
  within = rw length-append within;
}

pub defined_filled : {A : Type 0} (draw : List A → List ℕ → A × List ℕ) (least most : ℕ) (imported : List A) (bytes : List ℕ) → least ≤ most
    → IsFilled least most imported (imported ++ (items_defined_at draw least most (length imported) bytes).0)
defined_filled draw least most imported bytes le =
    filled least most imported (items_defined_at draw least most (length imported) bytes).0
    (defined_least draw least most (length imported) bytes le) (defined_most draw least most (length imported) bytes)

-- the bool that is drawn at the maximum adds no item
past_items : {A : Type 0} (most before : ℕ) (grown : List A × List ℕ) → (past_maximum_at most before grown).0 ≡ grown.0
past_items {A = A} most before grown =
    cond_both (λ (r : List A × List ℕ). r.0 ≡ grown.0) ((nat_lt 0 before && nat_lt 0 most) && nat_le most (before + length grown.0))
    (grown.0, (bool_at grown.1).1) grown refl refl

-- the same for a part of each item, where a draw may be refused
pub parts_filled : {A B : Type 0} (part : B → A) (draw : List B → List ℕ → Result (B × List ℕ) Error) (least most : ℕ) (imported : List A)
    (bytes : List ℕ) → least ≤ most
    → IfOk (items_tried_at draw least most (length imported) bytes) (λ drawn. IsFilled least most imported (imported ++ map part drawn.0))
unfolding items_tried_at
parts_filled {B = B} part draw least most imported bytes le =
    let before = length imported in
    let Enough = λ (grown : List B × List ℕ). least - before ≤ length grown.0 in
    let Within = λ (grown : List B × List ℕ). length grown.0 ≤ most - before in
    let grown = try_grow_at draw (least - before) (most - before) [] bytes in
    following_so (λ one. Enough one × Within one) (λ (drawn : List B × List ℕ). IsFilled least most imported (imported ++ map part drawn.0))
    grown _
    (both_ok Enough Within grown (try_grow_least draw (least - before) (most - before) [] bytes (omega arith))
    (try_grow_most draw (least - before) (most - before) (most - before) [] bytes (omega arith)))
    (λ one bounds.
    let as_many = length-map one.0 part in
    rw (past_items most before one) (filled least most imported (map part one.0) (omega (arith, as_many, bounds.0))
    (omega (arith, as_many, bounds.1))))

-- there are several only if several are allowed
pub several_so : (on : Bool) (most before n : ℕ) → (on ≡ false → most ≤ 1) → n ≤ max most before → (1 < before → on ≡ true) → 1 < n
    → on ≡ true
several_so true most before n one within stood several = refl
several_so false most before n one within stood several = stood (omega (arith, one refl))

-- a property of the items before and of the added ones holds for all
pub all_after : {A : Type 0} (Holds : A → Type 0) {before space : List A} → All Holds before → AreAdded Holds before space → All Holds space
all_after Holds {before = before} stood added = rw added.parts (All-append Holds before added.more stood added.each)

pub added_weaker : {A : Type 0} (Holds Others : A → Type 0) {before space : List A} → ((x : A) → Holds x → Others x)
    → AreAdded Holds before space → AreAdded Others before space
added_weaker Holds Others each added =
    record { more = added.more; parts = added.parts; each = All-weaker Holds Others each added.more added.each }

pub none_added : {A : Type 0} (Holds : A → Type 0) (before : List A) → AreAdded Holds before before
none_added Holds before = record { more = []; parts = rw append-nil refl; each = All-nil Holds }

pub one_added : {A : Type 0} (Holds : A → Type 0) {before space longer : List A} (x : A) → AreAdded Holds before space
    → longer ≡ space ++ x ∷ [] → Holds x → AreAdded Holds before longer
one_added Holds {before = before} x added longer holds = record {
  more = added.more ++ x ∷ [];
  parts = longer ∙ (ap (λ (xs : List _). xs ++ x ∷ []) added.parts ∙ append_assoc before added.more (x ∷ []));
  each = All-push Holds added.more x added.each holds;
}

-- a piece that ends a loop before its first iteration spells the empty list
pub none_listed : {A : Type 0} (Item : A → List ℕ → Type 0) (most : ℕ) (piece : List ℕ) → SpellsNone most piece → Listed Item most [] piece
unfolding Listed
none_listed Item zero piece h = h
none_listed Item (suc most) piece h = rw (lt-ltb 0 (suc most) (omega arith)) at h

-- without imported items and a minimum, a list grows alone
pub defined_alone : {A : Type 0} (draw : List A → List ℕ → A × List ℕ) (least most imported : ℕ) (bytes : List ℕ) → least ≡ 0 → imported ≡ 0
    → items_defined_at draw least most imported bytes ≡ grow_at draw 0 most [] bytes
unfolding items_defined_at
defined_alone draw least most imported bytes no_least no_import = let all : most - 0 ≡ most = omega arith in
    rw (no_least, no_import, all) refl

-- spelled items are defined if none is imported
pub defined_read : {A : Type 0} (Item : A → List ℕ → Type 0) (draw : List A → List ℕ → A × List ℕ) (least most imported : ℕ)
    (items : List A) (piece after : List ℕ) → least ≡ 0 → imported ≡ 0 → ReadsEach Item draw → Listed Item most items piece
    → items_defined_at draw least most imported (piece ++ after) ≡ (items, after)
defined_read Item draw least most imported items piece after no_least no_import each h =
    defined_alone draw least most imported (piece ++ after) no_least no_import ∙ listed_read Item draw most [] items piece after each h

pub defined_none : {A : Type 0} (draw : List A → List ℕ → A × List ℕ) (least most imported : ℕ) (piece after : List ℕ) → least ≡ 0
    → imported ≡ 0 → SpellsNone most piece → items_defined_at draw least most imported (piece ++ after) ≡ ([], after)
defined_none {A = A} draw least most imported piece after no_least no_import h =
    let Never = λ (x : A) (one : List ℕ). ⊥ in
    defined_read Never draw least most imported [] piece after no_least no_import (λ made x one rest never. absurd never)
    (none_listed Never most piece h)

-- the same, where a draw may be refused
pub tried_alone : {A : Type 0} (draw : List A → List ℕ → Result (A × List ℕ) Error) (least most imported : ℕ) (bytes : List ℕ) → least ≡ 0
    → imported ≡ 0 → items_tried_at draw least most imported bytes ≡ try_grow_at draw 0 most [] bytes
unfolding items_tried_at
tried_alone draw least most imported bytes no_least no_import = let all : most - 0 ≡ most = omega arith in
    rw (no_least, no_import, all) (then_ok (try_grow_at draw 0 most [] bytes))

pub tried_none : {A : Type 0} (draw : List A → List ℕ → Result (A × List ℕ) Error) (least most imported : ℕ) (piece after : List ℕ)
    → least ≡ 0 → imported ≡ 0 → SpellsNone most piece → items_tried_at draw least most imported (piece ++ after) ≡ Ok ([], after)
tried_none draw least most imported piece after no_least no_import h = tried_alone draw least most imported (piece ++ after) no_least
    no_import ∙ try_grow_none draw most piece after h
