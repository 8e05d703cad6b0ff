-- A record of functions that was made over fewer types: no function grounds a type that was added,
-- and each earlier heap type is grounded as before.
use Rattle.smith_draw_types.proofs.Common.{[], Abstract, ap, append_assoc, AreFuncGrounds, arith, Bool, by_cases_from_below, Concrete}
use Rattle.smith_draw_types.proofs.Common.{Context, drop, Exact, Extends, false, FuncGrounds, function_reference, get_or_from_slice_get}
use Rattle.smith_draw_types.proofs.Common.{HeapType, IfSome_then, if◌then◌else◌, IsBelow, IsGroundedByFuncs, IsInRange, IsOrderly}
use Rattle.smith_draw_types.proofs.Common.{IsValBelow, length, length-append, List, nat_le, reference_to, slice_get, slice_get-get_or, Some}
use Rattle.smith_draw_types.proofs.Common.{subst, SubType, sym, take, true, ValType, ℕ, ◌++◌, ◌<◌, ◌↔◌, ◌∙◌, ◌∷◌, ◌≡◌, ◌≤◌}
use Rattle.std.proofs.Common.{IsTrue}
use Rattle.std.proofs.Common.{append-nil}
use Rattle.std.proofs.lemmas.List.{length-take-le, take-append-drop, take-append-le, get_or-take, take_all}
use Rattle.smith_types.proofs.GrowthLemmas.{IsValBelow-grown}
use Rattle.smith_types.proofs.WalkLemmas.{below_from_by_cases, here, Reaches, up}
use Rattle.smith_draw_types.specs.Grounding.{any_from, function_grounds, over}
use Rattle.smith_draw_types.specs.FunctionFamilies.{AreFunctionFamilies}
use Rattle.smith_draw_types.specs.KeptGrounds.{IsRecordOver, IsEarlyRecord, AreEarlyFamilies, AreEarlyGrounds}
use Rattle.smith_draw_types.specs.declared.early_grounds.EarlyGrounds.{EarlyGrounds}
use Rattle.smith_draw_types.specs.declared.function_families.FunctionFamilies.{FunctionFamilies}
use Rattle.smith_draw_types.proofs.FunctionListLemmas.{families_grown}
use Rattle.smith_draw_types.proofs.GroundingLemmas.{by_kept, reference_within}
use Rattle.smith_draw_types.proofs.StandingLemmas.{val_stands}

-- types of which only the first n are taken
module _ (types : List SubType) (orderly : IsOrderly types) (n : ℕ) (within : n ≤ length types) where
  taken_at : (i : ℕ) (t : SubType) → slice_get types i ≡ Some t → i < n → slice_get (take n types) i ≡ Some t
  taken_at i t at before =
      let long : length (take n types) ≡ n = length-take-le n types within in
      let read = slice_get-get_or (take n types) i t (omega (arith, before, long)) in
      read ∙ ap Some (get_or-take n types i t before ∙ get_or_from_slice_get types i t t at)

  -- a walk along supertypes stays among the types before its start
  walk_before : {i j : ℕ} → Reaches types i j → i < n → Reaches (take n types) i j × (j < n)
  walk_before here before = (here, before)
  walk_before (up {i = i} {s = s} {t = t} at sup reach) before =
      let (less, alike) = orderly.under i s t at sup in
      let (rest, inside) = walk_before reach (omega (arith, less, before)) in
      (up {t = t} (taken_at i t at before) sup rest, inside)

  below_before : (i : ℕ) (exact : Bool) (ty : HeapType) → i < n → IsBelow types (if exact then Exact i else Concrete i) ty
      → IsBelow (take n types) (if exact then Exact i else Concrete i) ty × IsInRange (take n types) ty
  below_before i true (Abstract s b) before below =
      let (t, at, shares, under) = by_cases_from_below types orderly (Exact i) (Abstract s b) below in
      (below_from_by_cases (take n types) (Exact i) (Abstract s b) (t, taken_at i t at before, shares, under), tt)
  below_before i false (Abstract s b) before below =
      let (t, at, shares, under) = by_cases_from_below types orderly (Concrete i) (Abstract s b) below in
      (below_from_by_cases (take n types) (Concrete i) (Abstract s b) (t, taken_at i t at before, shares, under), tt)
  below_before i true (Concrete j) before below =
      let (reach, inside) = walk_before (by_cases_from_below types orderly (Exact i) (Concrete j) below) before in
      (below_from_by_cases (take n types) (Exact i) (Concrete j) reach, rw (length-take-le n types within) inside)
  below_before i false (Concrete j) before below =
      let (reach, inside) = walk_before (by_cases_from_below types orderly (Concrete i) (Concrete j) below) before in
      (below_from_by_cases (take n types) (Concrete i) (Concrete j) reach, rw (length-take-le n types within) inside)
  below_before i true (Exact j) before below =
      let same : i ≡ j = by_cases_from_below types orderly (Exact i) (Exact j) below in
      (below_from_by_cases (take n types) (Exact i) (Exact j) same, rw (length-take-le n types within, ← same) before)
  below_before i false (Exact j) before below = absurd (by_cases_from_below types orderly (Concrete i) (Exact j) below)

  reference_before : (i : ℕ) (defined descriptors : Bool) (ty : HeapType) → i < n
      → IsValBelow types (if defined then reference_to (if descriptors then Exact i else Concrete i) else reference_to (Concrete i))
      (reference_to ty)
      → IsValBelow (take n types) (if defined then reference_to (if descriptors then Exact i else Concrete i) else reference_to
      (Concrete i)) (reference_to ty) × IsInRange (take n types) ty
  reference_before i true descriptors ty before below =
      let (heap, inside) = below_before i descriptors ty before below.heap in (record { heap = heap; nullable = below.nullable }, inside)
  reference_before i false descriptors ty before below =
      let (heap, inside) = below_before i false ty before below.heap in (record { heap = heap; nullable = below.nullable }, inside)

  after : (a b : ValType) → IsValBelow (take n types) a b → IsValBelow types a b
  after a b below = subst (λ xs. IsValBelow xs a b) (take-append-drop n types) (IsValBelow-grown (take n types) (drop n types) a b below)

-- the functions of a context ground the same of its first types, and no others
module _ (context : Context) (orderly : IsOrderly context.types) (grounds : FuncGrounds) (record_over : IsRecordOver context grounds) where
  abbrev first : Context
  first = over context (take record_over.count context.types)

  grounded_first : (ty : HeapType) → IsInRange context.types ty → IsGroundedByFuncs context ty → IsGroundedByFuncs first ty
      × IsInRange first.types ty
  grounded_first ty stands (function, index, at, below) =
      let reference = function_reference context function index in
      let there = reference_within context.types index (nat_le context.imported_funcs function) context.features.custom_descriptors
      (val_stands context.types reference (reference_to ty) below stands) in
      let named : index < record_over.count = record_over.named function index at there in
      let (before, inside) = reference_before context.types orderly record_over.count record_over.within index
      (nat_le context.imported_funcs function) context.features.custom_descriptors ty named below in
      ((function, index, at, before), inside)

  first_grounded : (ty : HeapType) → IsGroundedByFuncs first ty → IsGroundedByFuncs context ty
  first_grounded ty (function, index, at, below) = (
    function,
    index,
    at,
    after context.types orderly record_over.count record_over.within
        (function_reference context function index) (reference_to ty) below,
  )

  -- the record decides for the types that there were, and grounds none that was added
  pub by_early : (ty : HeapType) (r : Bool) → IsInRange context.types ty
      → (IsInRange first.types ty → IsTrue r ↔ IsGroundedByFuncs first ty) → (IsTrue r → IsInRange first.types ty)
      → r ≡ any_from (function_grounds context ty) 0 context.funcs
  by_early ty r stands decides within =
      by_kept context ty r orderly stands (
        λ on. first_grounded ty ((decides (within on)).0 on),
        λ by. let (before, inside) = grounded_first
            ty stands by in (decides inside).1 before,
      )

-- a record over all types
over_all : (context : Context) (grounds : FuncGrounds) → AreFuncGrounds context grounds
    → AreFuncGrounds (over context (take (length context.types) context.types)) grounds
over_all context grounds right = subst (λ (xs : List SubType). AreFuncGrounds (over context xs) grounds)
    (sym (take_all (length context.types) context.types (omega arith))) right

pub whole_record : (context : Context) (grounds : FuncGrounds) → AreFuncGrounds context grounds → IsRecordOver context grounds
whole_record context grounds right = record {
  count = length context.types;
  within = omega arith;
  right = over_all context grounds right;
  named = λ function index at there. there;
}

-- an early record is such a record
pub early_record : (context : Context) (grounds : FuncGrounds) → IsEarlyRecord context grounds → IsRecordOver context grounds
early_record context grounds early = record {
  count = early.count;
  within = early.within;
  right = early.right;
  named = λ function index at there. early.named function index at;
}

-- an early record is correct at first, and stays so as types are added
pub record_begun : (context : Context) (grounds : FuncGrounds) → AreFuncGrounds context grounds
    → ((function index : ℕ) → slice_get context.funcs function ≡ Some index → index < length context.types) → IsEarlyRecord context grounds
record_begun context grounds right named = record {
  count = length context.types;
  within = omega arith;
  right = over_all context grounds right;
  named = named;
}

record_grown : (context : Context) (types : List SubType) (grounds : FuncGrounds) → Extends context.types types
    → IsEarlyRecord context grounds → IsEarlyRecord (over context types) grounds
record_grown context types grounds grown early =
    let long = length-append context.types grown.more in
    let same = ap length grown.parts in
    let before : take early.count types ≡ take early.count context.types = ap (take early.count) grown.parts ∙ take-append-le early.count
    context.types grown.more early.within in
    record {
      count = early.count;
      within = let least = early.within in omega (arith, long, same, least);
      right = subst (λ (xs : List SubType). AreFuncGrounds (over context xs) grounds) (sym before) early.right;
      named = early.named;
    }

-- the lists begin with their record, and stay right with it
pub families_begun : (context : Context) (grounds : FuncGrounds) (families : FunctionFamilies)
    → ((function index : ℕ) → slice_get context.funcs function ≡ Some index → index < length context.types)
    → AreFuncGrounds context grounds → AreFunctionFamilies context.types grounds (length context.types) families
    → AreEarlyFamilies context families
families_begun context grounds families named right listed = record {
  grounds = grounds;
  early = record_begun context grounds right named;
  listed = listed;
}

early_families_grown : (context : Context) (types : List SubType) (families : FunctionFamilies) → Extends context.types types
    → AreEarlyFamilies context families → AreEarlyFamilies (over context types) families
early_families_grown context types families grown h =
    let early = h.early in
    let first = length-take-le early.count context.types early.within in
    record {
      grounds = h.grounds;
      early = record_grown context types h.grounds grown early;
      listed = families_grown context.types types h.grounds families (omega (arith, first, early.right.long, early.within)) grown h.listed;
    }

pub early_grown : (context : Context) (old new : List SubType) (grounds : EarlyGrounds) → Extends old new
    → AreEarlyGrounds (over context old) grounds → AreEarlyGrounds (over context new) grounds
early_grown context old new grounds grown early = record {
  kept = IfSome_then grounds.kept early.kept (λ kept. record_grown (over context old) new kept grown);
  families = IfSome_then grounds.families early.families (λ families. early_families_grown (over context old) new families grown);
}

-- lists that grow at their ends
pub extends_self : {A : Type 0} (xs : List A) → Extends xs xs
extends_self xs = record { more = []; parts = sym (append-nil xs) }

pub extends_both : {A : Type 0} {xs ys zs : List A} → Extends xs ys → Extends ys zs → Extends xs zs
extends_both {xs = xs} one two =
    record { more = one.more ++ two.more; parts = rw (two.parts, one.parts) (append_assoc xs one.more two.more) }

pub extends_one : {A : Type 0} {xs ys zs : List A} (x : A) → Extends xs ys → zs ≡ ys ++ x ∷ [] → Extends xs zs
extends_one x one same = extends_both one (record { more = x ∷ []; parts = same })
