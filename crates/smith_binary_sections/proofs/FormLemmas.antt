-- Segments in the forms in which they are written.
use Rattle.smith_binary_sections.proofs.Common.{[], ap, Bool, ConstInstr, IsUnsignedIn, Joined, joined_written, length, List, Output, refl}
use Rattle.smith_binary_sections.proofs.Common.{subst, sym, true, Writes, written_as, ℕ, ◌∷◌, ◌≡◌}
use Rattle.std.proofs.Common.{cond, eqb, false, None, Option, Some, ◌&&◌}
use Rattle.std.proofs.lemmas.Bool.{eqb-true, ne_eqb}
use Rattle.smith_binary.specs.Spelling.Spelling.{written}
use Rattle.smith_binary.specs.Pieces.{IsByte, IsListIn}
use Rattle.smith_types.specs.Syntax.value_type.AbstractHeapType.{AbstractHeapType}
use Rattle.smith_types.specs.Syntax.value_type.AbstractHeapType.TheVariants as abstract
use Rattle.smith_types.specs.Syntax.value_type.HeapType.{HeapType}
use Rattle.smith_types.specs.Syntax.value_type.HeapType.TheVariants.{Abstract, Concrete, Exact}
use Rattle.smith_types.specs.Syntax.value_type.RefType.{RefType}
use Rattle.smith_types.specs.Syntax.composite_type.SubType.{SubType}
use Rattle.smith_binary_sections.specs.Types.{abstract_byte, null_byte, short_ref, IsAbstractAlone, IsHeapTypeIn, IsRefType, IsRefTypeAs}
use Rattle.smith_binary_sections.specs.Types.{IsRefTypeIn, IsRecGroupWrittenIn, IsSubTypeWrittenIn}
use Rattle.smith_binary_sections.specs.Instructions.{IsExpressionIn, IsIndexIn}
use Rattle.smith_binary_sections.specs.Elements.{Form, form_number, Elem, Mode, func_ref, func_items, is_func, is_func_ref}
use Rattle.smith_binary_sections.specs.Elements.{active_funcs_form, active_items_form, IsElemFormIn, IsFuncsIn, IsInFormIn, IsItemsIn}
use Rattle.smith_binary_sections.specs.Elements.{IsKindFuncsIn}
use Rattle.smith_binary_sections.specs.Elements.Mode.{passive, declared, active}
use Rattle.smith_binary_sections.specs.Elements.Form.{first_funcs, passive_funcs, table_funcs, declared_funcs, first_items, passive_items}
use Rattle.smith_binary_sections.specs.Elements.Form.{table_items, declared_items}
use Rattle.smith_binary_sections.specs.Data.{Data, DataMode, DataForm, data_number, active_data_form, IsDataFormIn, IsInDataFormIn}
use Rattle.smith_binary_sections.specs.Data.DataForm.{first_memory, no_memory, named_memory}

-- a type that is written as an abstract heap type alone is nullable
short_is : (nullable : Bool) (heap : HeapType) (ty : AbstractHeapType) → short_ref nullable heap ≡ Some ty → (nullable ≡ true)
    × (heap ≡ Abstract false ty)
short_is true (Abstract false other) ty is = let same : other ≡ ty = cc in (refl, ap (λ (one : AbstractHeapType). Abstract false one) same)
short_is true (Abstract true other) ty is = absurd cc
short_is true (Concrete index) ty is = absurd cc
short_is true (Exact index) ty is = absurd cc
short_is false (Abstract shared other) ty is = absurd cc
short_is false (Concrete index) ty is = absurd cc
short_is false (Exact index) ty is = absurd cc

pub short_ref_written : {old new : Output} (reference : RefType) (ty : AbstractHeapType)
    → Some ty ≡ short_ref reference.nullable reference.heap_type → Writes (λ _. IsByte (abstract_byte ty)) old new
    → Writes (λ s. IsRefTypeIn s reference) old new
short_ref_written {old = old} reference ty is one =
    let (nullable, alone) = short_is reference.nullable reference.heap_type ty (sym is) in
    record {
      piece = one.piece;
      spelled = IsRefType.short nullable (subst (λ (heap : HeapType). IsAbstractAlone heap one.piece) (sym alone) one.spelled);
      kept = subst (λ (short : Option AbstractHeapType). IsRefTypeAs (written old.least) reference short one.piece) is one.kept;
      whole = one.whole;
      same = one.same;
    }

pub full_ref_written : {old new : Output} (reference : RefType) → None ≡ short_ref reference.nullable reference.heap_type
    → Writes (λ s. Joined (IsByte (null_byte reference.nullable)) (IsHeapTypeIn s reference.heap_type)) old new
    → Writes (λ s. IsRefTypeIn s reference) old new
full_ref_written {old = old} reference is one = record {
  piece = one.piece;
  spelled = IsRefType.full one.spelled;
  kept = subst (λ (short : Option AbstractHeapType). IsRefTypeAs (written old.least) reference short one.piece) is one.kept;
  whole = one.whole;
  same = one.same;
}

-- a group that doesn't have one type alone
pub group_written : {old new : Output} (group : List SubType) → (length group ≡ 1 → ⊥)
    → Writes (λ s. Joined (IsByte 0x4E) (IsListIn s (IsSubTypeWrittenIn s) group)) old new
    → Writes (λ s. IsRecGroupWrittenIn s group) old new
group_written [] other h = h
group_written (t ∷ []) other h = absurd (other refl)
group_written (t ∷ u ∷ group) other h = h

-- a segment of functions, and of expressions
abbrev pub of_funcs : List ℕ → Mode → Elem
of_funcs funcs mode = record { ty = func_ref false; items = func_items funcs; mode = mode }

abbrev pub of_items : RefType → List (List ConstInstr) → Mode → Elem
of_items ty items mode = record { ty = ty; items = items; mode = mode }

-- an element segment in a form, after the number of the form
form_written : {old mid new : Output} (form : Form) (e : Elem) → Writes (λ s. IsUnsignedIn s 32 (form_number form)) old mid
    → Writes (λ s. IsInFormIn s form e) mid new → Writes (λ s. IsElemFormIn s form e) old new
form_written form e number rest = joined_written number rest

-- a segment in a form that is the right one
in_form : {old new : Output} {form other : Form} (e : Elem) → form ≡ other → Writes (λ s. IsElemFormIn s other e) old new
    → Writes (λ s. IsElemFormIn s form e) old new
in_form {old = old} {new = new} e same one = subst (λ (f : Form). Writes (λ s. IsElemFormIn s f e) old new) (sym same) one

-- a number that is not 0
not_first : {A : Type 0} (n : ℕ) (x y : A) → (n ≡ 0 → ⊥) → cond (eqb n 0) x y ≡ y
not_first n x y other = ap (λ (b : Bool). cond b x y) (ne_eqb n 0 other)

-- a type that is that of nullable references to functions
func_is : (heap_type : HeapType) → is_func heap_type ≡ true → heap_type ≡ Abstract false abstract.Func
func_is (Abstract false abstract.Func) on = refl
func_is (Abstract true abstract.Func) on = cc
func_is (Abstract shared _) on = cc
func_is (Concrete index) on = cc
func_is (Exact index) on = cc

func_ref_is : (nullable : Bool) (heap_type : HeapType) → (nullable && is_func heap_type) ≡ true
    → record { nullable = nullable; heap_type = heap_type } ≡ func_ref true
func_ref_is true heap_type on = ap (λ (one : HeapType). record { nullable = true; heap_type = one }) (func_is heap_type on)
func_ref_is false heap_type on = cc

first_of : (b c : Bool) → (b && c) ≡ true → b ≡ true
first_of true c on = refl
first_of false c on = on

second_of : (b c : Bool) → (b && c) ≡ true → c ≡ true
second_of true c on = on
second_of false c on = cc

pub first_funcs_written : {a b c d : Output} (table : ℕ) (offset : List ConstInstr) (funcs : List ℕ) → table ≡ 0
    → Writes (λ s. IsUnsignedIn s 32 0) a b → Writes (λ s. IsExpressionIn s offset) b c → Writes (λ s. IsFuncsIn s funcs) c d
    → Writes (λ s. IsElemFormIn s (active_funcs_form table) (of_funcs funcs (active table offset))) a d
first_funcs_written table offset funcs zero number at items =
    in_form (of_funcs funcs (active table offset)) (ap active_funcs_form zero)
    (form_written first_funcs (of_funcs funcs (active table offset)) number
    (written_as (λ s piece h. (offset, funcs, ap (λ (t : ℕ). of_funcs funcs (active t offset)) zero, h)) (joined_written at items)))

pub passive_funcs_written : {a b c : Output} (funcs : List ℕ) → Writes (λ s. IsUnsignedIn s 32 1) a b
    → Writes (λ s. IsKindFuncsIn s funcs) b c → Writes (λ s. IsElemFormIn s passive_funcs (of_funcs funcs passive)) a c
passive_funcs_written funcs number items = form_written passive_funcs (of_funcs funcs passive) number
    (written_as (λ s piece h. (funcs, refl, h)) items)

pub table_funcs_written : {a b c d e : Output} (table : ℕ) (offset : List ConstInstr) (funcs : List ℕ) → (table ≡ 0 → ⊥)
    → Writes (λ s. IsUnsignedIn s 32 2) a b → Writes (λ s. IsIndexIn s table) b c → Writes (λ s. IsExpressionIn s offset) c d
    → Writes (λ s. IsKindFuncsIn s funcs) d e
    → Writes (λ s. IsElemFormIn s (active_funcs_form table) (of_funcs funcs (active table offset))) a e
table_funcs_written table offset funcs other number index at items =
    in_form (of_funcs funcs (active table offset)) (not_first table first_funcs table_funcs other)
    (form_written table_funcs (of_funcs funcs (active table offset)) number (written_as (λ s piece h. (table, offset, funcs, refl, h))
    (joined_written index (joined_written at items))))

pub declared_funcs_written : {a b c : Output} (funcs : List ℕ) → Writes (λ s. IsUnsignedIn s 32 3) a b
    → Writes (λ s. IsKindFuncsIn s funcs) b c → Writes (λ s. IsElemFormIn s declared_funcs (of_funcs funcs declared)) a c
declared_funcs_written funcs number items = form_written declared_funcs (of_funcs funcs declared) number
    (written_as (λ s piece h. (funcs, refl, h)) items)

pub first_items_written : {a b c d : Output} (table : ℕ) (offset : List ConstInstr) (ty : RefType) (items : List (List ConstInstr))
    → (eqb table 0 && is_func_ref ty) ≡ true → Writes (λ s. IsUnsignedIn s 32 4) a b → Writes (λ s. IsExpressionIn s offset) b c
    → Writes (λ s. IsItemsIn s items) c d
    → Writes (λ s. IsElemFormIn s (active_items_form table ty) (of_items ty items (active table offset))) a d
first_items_written table offset ty items short number at rest =
    let zero : table ≡ 0 = eqb-true table 0 (first_of (eqb table 0) (is_func_ref ty) short) in
    let same : ty ≡ func_ref true = func_ref_is ty.nullable ty.heap_type (second_of (eqb table 0) (is_func_ref ty) short) in
    in_form (of_items ty items (active table offset)) (ap (λ (b : Bool). cond b first_items table_items) short)
    (form_written first_items (of_items ty items (active table offset)) number
    (written_as
    (λ s piece h. (offset, items, rw same (ap (λ (t : ℕ). of_items (func_ref true) items (active t offset)) zero), h))
    (joined_written at rest)))

pub passive_items_written : {a b c d : Output} (ty : RefType) (items : List (List ConstInstr)) → Writes (λ s. IsUnsignedIn s 32 5) a b
    → Writes (λ s. IsRefTypeIn s ty) b c → Writes (λ s. IsItemsIn s items) c d
    → Writes (λ s. IsElemFormIn s passive_items (of_items ty items passive)) a d
passive_items_written ty items number kind rest = form_written passive_items (of_items ty items passive) number
    (written_as (λ s piece h. (ty, items, refl, h)) (joined_written kind rest))

pub table_items_written : {a b c d e f : Output} (table : ℕ) (offset : List ConstInstr) (ty : RefType) (items : List (List ConstInstr))
    → (eqb table 0 && is_func_ref ty) ≡ false → Writes (λ s. IsUnsignedIn s 32 6) a b → Writes (λ s. IsIndexIn s table) b c
    → Writes (λ s. IsExpressionIn s offset) c d
    → Writes (λ s. IsRefTypeIn s ty) d e → Writes (λ s. IsItemsIn s items) e f
    → Writes (λ s. IsElemFormIn s (active_items_form table ty) (of_items ty items (active table offset))) a f
table_items_written table offset ty items long number index at kind rest =
    in_form (of_items ty items (active table offset)) (ap (λ (b : Bool). cond b first_items table_items) long)
    (form_written table_items (of_items ty items (active table offset)) number
    (written_as (λ s piece h. (table, offset, ty, items, refl, h)) (joined_written index (joined_written at (joined_written kind rest)))))

pub declared_items_written : {a b c d : Output} (ty : RefType) (items : List (List ConstInstr)) → Writes (λ s. IsUnsignedIn s 32 7) a b
    → Writes (λ s. IsRefTypeIn s ty) b c → Writes (λ s. IsItemsIn s items) c d
    → Writes (λ s. IsElemFormIn s declared_items (of_items ty items declared)) a d
declared_items_written ty items number kind rest = form_written declared_items (of_items ty items declared) number
    (written_as (λ s piece h. (ty, items, refl, h)) (joined_written kind rest))

-- a data segment in a form, after the number of the form
data_written : {old mid new : Output} (form : DataForm) (d : Data) → Writes (λ s. IsUnsignedIn s 32 (data_number form)) old mid
    → Writes (λ s. IsInDataFormIn s form d) mid new → Writes (λ s. IsDataFormIn s form d) old new
data_written form d number rest = joined_written number rest

data_in_form : {old new : Output} {form other : DataForm} (d : Data) → form ≡ other → Writes (λ s. IsDataFormIn s other d) old new
    → Writes (λ s. IsDataFormIn s form d) old new
data_in_form {old = old} {new = new} d same one = subst (λ (f : DataForm). Writes (λ s. IsDataFormIn s f d) old new) (sym same) one

pub first_memory_written : {a b c d : Output} (memory : ℕ) (offset : List ConstInstr) (bytes : List ℕ) → memory ≡ 0
    → Writes (λ s. IsUnsignedIn s 32 0) a b → Writes (λ s. IsExpressionIn s offset) b c → Writes (λ s. IsListIn s IsByte bytes) c d
    → Writes (λ s. IsDataFormIn s (active_data_form memory) (record { bytes = bytes; mode = DataMode.active memory offset })) a d
first_memory_written memory offset bytes zero number at rest =
    data_in_form (record { bytes = bytes; mode = DataMode.active memory offset }) (ap active_data_form zero)
    (data_written first_memory (record { bytes = bytes; mode = DataMode.active memory offset }) number
    (written_as (λ s piece h. (offset, ap (λ (m : ℕ). DataMode.active m offset) zero, h)) (joined_written at rest)))

pub no_memory_written : {a b c : Output} (bytes : List ℕ) → Writes (λ s. IsUnsignedIn s 32 1) a b
    → Writes (λ s. IsListIn s IsByte bytes) b c → Writes (λ s. IsDataFormIn s no_memory (record { bytes = bytes; mode = DataMode.passive }))
    a c
no_memory_written bytes number rest = data_written no_memory (record { bytes = bytes; mode = DataMode.passive }) number
    (written_as (λ s piece h. (refl, h)) rest)

pub named_memory_written : {a b c d e : Output} (memory : ℕ) (offset : List ConstInstr) (bytes : List ℕ) → (memory ≡ 0 → ⊥)
    → Writes (λ s. IsUnsignedIn s 32 2) a b → Writes (λ s. IsIndexIn s memory) b c → Writes (λ s. IsExpressionIn s offset) c d
    → Writes (λ s. IsListIn s IsByte bytes) d e
    → Writes (λ s. IsDataFormIn s (active_data_form memory) (record { bytes = bytes; mode = DataMode.active memory offset })) a e
named_memory_written memory offset bytes other number index at rest =
    data_in_form (record { bytes = bytes; mode = DataMode.active memory offset }) (not_first memory first_memory named_memory other)
    (data_written named_memory (record { bytes = bytes; mode = DataMode.active memory offset }) number
    (written_as (λ s piece h. (memory, offset, refl, h)) (joined_written index (joined_written at rest))))
