-- Subtyping and validity over the types of the managed context.
use Rattle.smith_instr_examples.proofs.Common.{◌≡◌, ℕ, zero, suc, Bool, true, false, List, [], ◌∷◌, ◌++◌, Some, None, IsTrue, refl, sym}
use Rattle.smith_instr_examples.proofs.Common.{subst, ap, ◌∙◌, arith, slice_get, map, same_Some, is_abstract_below, IsRefBelow, itself}
use Rattle.smith_instr_examples.proofs.Common.{IsOrderly, constant, variable, struct, taking, final_type, plain, funcref, AbstractHeapType}
use Rattle.smith_instr_examples.proofs.Common.{Concrete, RefType, ValType, I32, I64, Ref, CompositeInnerType, Array, Func, I8, Val, SubType}
use Rattle.smith_instr_examples.proofs.Common.{IsBelow-trans, below_abstract, below_kind, by_cases_from_below, kind, IsFuncAt, IsStructAt}
use Rattle.smith_instr_examples.proofs.Common.{IsArrayAt, FuncType, IsRefValid, IsFunctionTable, IsElemOf, IsRefBelow-refl, functions}
use Rattle.smith_instr_examples.proofs.Common.{some_func, managed, managed_types, narrows, anything, something, wide_functions}
use Rattle.smith_types.specs.Syntax.value_type.AbstractHeapType.TheVariants as heap

none_above : (inners : List CompositeInnerType) (i : ℕ) (t : SubType) → slice_get (map final_type inners) i ≡ Some t → t.supertype ≡ None
none_above [] i t at = cc
none_above (x ∷ inners) zero t at = ap (λ (u : SubType). u.supertype) (sym (same_Some (final_type x) t at))
none_above (x ∷ inners) (suc i) t at = none_above inners i t at

all_orderly : (inners : List CompositeInnerType) → IsOrderly (map final_type inners)
all_orderly inners = record { under = λ i s t at is. let never : None ≡ Some s = sym (none_above inners i t at) ∙ is in cc }

pub orderly : IsOrderly managed_types
orderly = all_orderly (struct (constant I8 ∷ variable (Val I64) ∷ []) ∷ struct (constant (Val some_func) ∷ []) ∷ Array
    (record { 0 = variable (Val I32) }) ∷ Array (record { 0 = constant I8 }) ∷ Array (record { 0 = variable (Val (Ref funcref)) }) ∷ Array
    (record { 0 = constant (Val some_func) }) ∷ Func narrows ∷ taking (I32 ∷ []) ∷ [])

-- the struct type of any_struct
abbrev pub first_struct : SubType
first_struct = final_type (struct (constant I8 ∷ variable (Val I64) ∷ []))

-- structs are internal references
pub struct_below : (from to : Bool) → (IsTrue from → IsTrue to)
    → IsRefBelow managed_types (record { nullable = from; heap_type = Concrete 0 }) (record { nullable = to; heap_type = plain heap.Any })
struct_below from to both = record {
  heap = IsBelow-trans managed_types (below_kind managed_types 0 first_struct refl)
      (below_abstract managed_types false heap.Struct heap.Any refl);
  nullable = both;
}

pub something_below : IsRefBelow managed_types something anything
something_below = record { heap = itself; nullable = λ on. refl }

-- structs are not below the abstract types that are not above all structs
pub struct_apart : (from to : Bool) (other : AbstractHeapType) → (IsTrue (is_abstract_below heap.Struct other) → ⊥)
    → IsRefBelow managed_types (record { nullable = from; heap_type = Concrete 0 }) (record { nullable = to; heap_type = plain other }) → ⊥
struct_apart from to other apart below =
    let (t, at, shares, under) = by_cases_from_below managed_types orderly (Concrete 0) (plain other) below.heap in
    apart (subst (λ (v : SubType). IsTrue (is_abstract_below (kind v) other)) (sym (same_Some first_struct t at)) under)

-- valid references
pub struct_valid : (labels : List (List ValType)) (results : List ValType) (nullable : Bool) → IsRefValid (managed labels results)
    (record { nullable = nullable; heap_type = Concrete 0 })
struct_valid labels results nullable = record { heap_type = (refl, omega arith); nullable = λ never. refl }

pub any_valid : (labels : List (List ValType)) (results : List ValType) → IsRefValid (managed labels results) anything
any_valid labels results = record { heap_type = (refl, λ never. cc); nullable = λ never. cc }

-- the last of the values of a label that takes one reference
pub only : (others : List ValType) (held wanted : RefType) → Some (Ref held ∷ []) ≡ Some (others ++ Ref wanted ∷ []) → wanted ≡ held
only [] held wanted is = cc
only (x ∷ []) held wanted is = cc
only (x ∷ y ∷ others) held wanted is = cc

-- the function types
pub narrows_there : IsFuncAt managed_types 6 narrows
narrows_there = (final_type (Func narrows), refl, refl)

pub takes_there : IsFuncAt managed_types 7 (record { params = I32 ∷ []; results = [] })
takes_there = (final_type (taking (I32 ∷ [])), refl, refl)

-- there is one function type at an index
pub func_alone : (types : List SubType) (index : ℕ) (one other : FuncType) → IsFuncAt types index one → IsFuncAt types index other
    → other ≡ one
func_alone types index one other (t, at, inner) (u, there, within) =
    let same : t ≡ u = same_Some t u (sym at ∙ there) in
    let is : Func one ≡ Func other = sym inner ∙ (ap (λ (v : SubType). v.composite_type.inner) same ∙ within) in
    cc

pub narrows_alone : (function : FuncType) → IsFuncAt managed_types 6 function → function ≡ narrows
narrows_alone function there = func_alone managed_types 6 narrows function narrows_there there

-- the tables of functions
pub narrow_table : (labels : List (List ValType)) (results : List ValType) → IsFunctionTable (managed labels results) 0 false
narrow_table labels results = record {
  table = functions;
  there = refl;
  addressed = refl;
  shared = false;
  of_functions = IsRefBelow-refl managed_types funcref;
}

pub wide_table : (labels : List (List ValType)) (results : List ValType) → IsFunctionTable (managed labels results) 2 true
wide_table labels results = record {
  table = wide_functions;
  there = refl;
  addressed = refl;
  shared = false;
  of_functions = IsRefBelow-refl managed_types funcref;
}

-- the struct and array types
pub struct_there : IsStructAt managed_types 0 (constant I8 ∷ variable (Val I64) ∷ [])
struct_there = (first_struct, refl, refl)

pub numbers_there : IsArrayAt managed_types 2 (variable (Val I32))
numbers_there = (final_type (Array (record { 0 = variable (Val I32) })), refl, refl)

pub bytes_there : IsArrayAt managed_types 3 (constant I8)
bytes_there = (final_type (Array (record { 0 = constant I8 })), refl, refl)

pub references_there : IsArrayAt managed_types 4 (variable (Val (Ref funcref)))
references_there = (final_type (Array (record { 0 = variable (Val (Ref funcref)) })), refl, refl)

pub functions_there : IsArrayAt managed_types 5 (constant (Val some_func))
functions_there = (final_type (Array (record { 0 = constant (Val some_func) })), refl, refl)

pub element_segment : (labels : List (List ValType)) (results : List ValType) → IsElemOf (managed labels results) 0
    (variable (Val (Ref funcref)))
element_segment labels results = record {
  held = funcref;
  there = refl;
  reference = funcref;
  of_references = refl;
  below = IsRefBelow-refl managed_types funcref;
}
