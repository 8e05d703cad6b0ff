-- Tables and element segments of a valid context.
use Rattle.smith_check_references.proofs.Common.{[], address_in_range, All, All-cons, All-nil, all_at, BodyContext, Bool, false}
use Rattle.smith_check_references.proofs.Common.{heap_in_range, IsRefValid, IsValInRange, List, RefType, slice_get, Some, subst, SubType}
use Rattle.smith_check_references.proofs.Common.{sym, TableType, true, ValType, ℕ, ◌∷◌, ◌≡◌}
use Rattle.smith_types.specs.Subtyping.{IsInRange}
use Rattle.smith_instr.specs.ReferenceTypes.{IsTable, narrower}

-- each type of a list that is written out is in range
abbrev pub AreEachInRange : List SubType → List ValType → Type 0
AreEachInRange types [] = Unit {0}
AreEachInRange types (x ∷ xs) = IsValInRange types x × AreEachInRange types xs

pub each_in_range : (types : List SubType) (xs : List ValType) → AreEachInRange types xs → All (IsValInRange types) xs
each_in_range types [] each = All-nil (IsValInRange types)
each_in_range types (x ∷ xs) (first, each) = All-cons (IsValInRange types) x xs first (each_in_range types xs each)

pub ranges_as : (types : List SubType) (xs ys : List ValType) → xs ≡ ys → AreEachInRange types ys → All (IsValInRange types) xs
ranges_as types xs ys same each = subst (λ zs. All (IsValInRange types) zs) (sym same) (each_in_range types ys each)

-- the references in a table are of a valid type
pub element_valid : (context : BodyContext) (index : ℕ) (table : TableType)
    → All (λ (t : TableType). IsRefValid context t.element_type) context.tables → IsTable context index table
    → IsRefValid context table.element_type
element_valid context index table valid at =
    all_at (λ (t : TableType). IsRefValid context t.element_type) context.tables index table valid at

pub element_in_range : (context : BodyContext) (index : ℕ) (table : TableType)
    → All (λ (t : TableType). IsRefValid context t.element_type) context.tables → IsTable context index table
    → IsInRange context.types table.element_type.heap_type
element_in_range context index table valid at =
    heap_in_range context table.element_type.heap_type (element_valid context index table valid at).heap_type

-- the heap type of the references in an element segment is in range
pub held_in_range : (context : BodyContext) (segment : ℕ) (reference : RefType)
    → All (λ (elem : RefType). IsInRange context.types elem.heap_type) context.elems
    → slice_get context.elems segment ≡ Some reference → IsInRange context.types reference.heap_type
held_in_range context segment reference valid at =
    all_at (λ (elem : RefType). IsInRange context.types elem.heap_type) context.elems segment reference valid at

pub narrower_in_range : (types : List SubType) (one other : Bool) → IsValInRange types (narrower one other)
narrower_in_range types true other = address_in_range types other
narrower_in_range types false other = tt
