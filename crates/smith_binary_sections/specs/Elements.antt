-- Element segments: the section Binary Format, Modules, Element Section, of the WebAssembly Core
-- Specification 3.0.
use Rattle.std.specs.Prelude.{◌≡◌, ◌==◌, ℕ, Bool, true, false, not, ◌&&◌, List, [], ◌∷◌, map, unwrap_or, if◌then◌else◌}
use Rattle.smith_binary_sections.specs.Common.{any, ConstInstr, IsByte, IsListIn, IsUnsignedIn, Joined, RefType, Spelling}
use Rattle.smith_types.specs.Syntax.value_type.AbstractHeapType.TheVariants as abstract
use Rattle.smith_types.specs.Syntax.value_type.HeapType.{HeapType}
use Rattle.smith_types.specs.Syntax.value_type.HeapType.TheVariants.{Abstract}
use Rattle.smith_types.specs.Syntax.const_instr.ConstInstr.TheVariants.{RefFunc}
use Rattle.smith_types.specs.Syntax.segments.ElementSegment.{ElementSegment}
use Rattle.smith_types.specs.Syntax.segments.ElementKind.{ElementKind}
use Rattle.smith_types.specs.Syntax.segments.ElementKind.TheVariants.{Passive, Declared, Active}
use Rattle.smith_types.specs.Syntax.segments.Elements.{Elements}
use Rattle.smith_types.specs.Syntax.segments.Elements.TheVariants.{Functions, Expressions}
use Rattle.smith_binary_sections.specs.Types.{IsRefTypeIn}
use Rattle.smith_binary_sections.specs.Instructions.{offset_of, IsExpressionIn, IsIndexIn}

-- the mode of an element segment (Structure, Element Segments)
pub data Mode : Type 0 where
  passive : Mode
  declared : Mode
  active : ℕ → List ConstInstr → Mode

-- an element segment in the abstract syntax, where function indices are expressions too (Structure,
-- Element Segments)
pub record Elem : Type 0 where
  pub ty : RefType
  pub items : List (List ConstInstr)
  pub mode : Mode

-- the type of a reference to an unshared function, nullable or not (Element Section)
abbrev pub func_ref : Bool → RefType
func_ref nullable = record { nullable = nullable; heap_type = Abstract false abstract.Func }

-- function indices as expressions (Element Section)
abbrev pub func_items : List ℕ → List (List ConstInstr)
func_items funcs = map (λ (index : ℕ). RefFunc index ∷ []) funcs

-- the eight forms of an element segment (Element Section)
pub data Form : Type 0 where
  first_funcs : Form
  passive_funcs : Form
  table_funcs : Form
  declared_funcs : Form
  first_items : Form
  passive_items : Form
  table_items : Form
  declared_items : Form

-- the number of a form of an element segment (Element Section)
abbrev pub form_number : Form → ℕ
form_number first_funcs = 0
form_number passive_funcs = 1
form_number table_funcs = 2
form_number declared_funcs = 3
form_number first_items = 4
form_number passive_items = 5
form_number table_items = 6
form_number declared_items = 7

-- a list of function indices (Element Section)
abbrev pub IsFuncsIn : Spelling → List ℕ → List ℕ → Type 0
IsFuncsIn spelling = IsListIn spelling (IsIndexIn spelling)

-- a list of function indices in any spelling (Element Section)
abbrev pub IsFuncs : List ℕ → List ℕ → Type 0
IsFuncs = IsFuncsIn any

-- a list of expressions (Element Section)
abbrev pub IsItemsIn : Spelling → List (List ConstInstr) → List ℕ → Type 0
IsItemsIn spelling = IsListIn spelling (IsExpressionIn spelling)

abbrev pub IsItems : List (List ConstInstr) → List ℕ → Type 0
IsItems = IsItemsIn any

-- the element kind, a byte, then function indices (Element Section)
abbrev pub IsKindFuncsIn : Spelling → List ℕ → List ℕ → Type 0
IsKindFuncsIn spelling funcs = Joined (IsByte 0x00) (IsFuncsIn spelling funcs)

-- the element kind, then function indices, in any spelling (Element Section)
abbrev pub IsKindFuncs : List ℕ → List ℕ → Type 0
IsKindFuncs = IsKindFuncsIn any

-- an element segment in a form, after the number of the form (Element Section)
abbrev pub IsInFormIn : Spelling → Form → Elem → List ℕ → Type 0
IsInFormIn spelling first_funcs e piece = (offset : List ConstInstr) × (funcs : List ℕ)
    × (e ≡ record { ty = func_ref false; items = func_items funcs; mode = active 0 offset }) × Joined (IsExpressionIn spelling offset)
    (IsFuncsIn spelling funcs) piece
IsInFormIn spelling passive_funcs e piece = (funcs : List ℕ)
    × (e ≡ record { ty = func_ref false; items = func_items funcs; mode = passive }) × IsKindFuncsIn spelling funcs piece
IsInFormIn spelling table_funcs e piece = (table : ℕ) × (offset : List ConstInstr) × (funcs : List ℕ)
    × (e ≡ record { ty = func_ref false; items = func_items funcs; mode = active table offset }) × Joined (IsIndexIn spelling table)
    (Joined (IsExpressionIn spelling offset) (IsKindFuncsIn spelling funcs)) piece
IsInFormIn spelling declared_funcs e piece = (funcs : List ℕ)
    × (e ≡ record { ty = func_ref false; items = func_items funcs; mode = declared }) × IsKindFuncsIn spelling funcs piece
IsInFormIn spelling first_items e piece = (offset : List ConstInstr) × (items : List (List ConstInstr))
    × (e ≡ record { ty = func_ref true; items = items; mode = active 0 offset }) × Joined (IsExpressionIn spelling offset)
    (IsItemsIn spelling items) piece
IsInFormIn spelling passive_items e piece = (ty : RefType) × (items : List (List ConstInstr))
    × (e ≡ record { ty = ty; items = items; mode = passive }) × Joined (IsRefTypeIn spelling ty) (IsItemsIn spelling items) piece
IsInFormIn spelling table_items e piece = (table : ℕ) × (offset : List ConstInstr) × (ty : RefType) × (items : List (List ConstInstr))
    × (e ≡ record { ty = ty; items = items; mode = active table offset }) × Joined (IsIndexIn spelling table)
    (Joined (IsExpressionIn spelling offset) (Joined (IsRefTypeIn spelling ty) (IsItemsIn spelling items))) piece
IsInFormIn spelling declared_items e piece = (ty : RefType) × (items : List (List ConstInstr))
    × (e ≡ record { ty = ty; items = items; mode = declared }) × Joined (IsRefTypeIn spelling ty) (IsItemsIn spelling items) piece

abbrev pub IsInForm : Form → Elem → List ℕ → Type 0
IsInForm = IsInFormIn any

-- the number of a form, then an element segment in that form (Element Section)
abbrev pub IsElemFormIn : Spelling → Form → Elem → List ℕ → Type 0
IsElemFormIn spelling form e = Joined (IsUnsignedIn spelling 32 (form_number form)) (IsInFormIn spelling form e)

-- the number of a form, then an element segment in that form, in any spelling (Element Section)
abbrev pub IsElemIn : Form → Elem → List ℕ → Type 0
IsElemIn = IsElemFormIn any

-- an element segment: the number of a form, then the segment in that form (Element Section)
pub record IsElem (e : Elem) (piece : List ℕ) : Type 0 where
  pub form : Form
  pub spelled : IsElemIn form e piece

-- the type of an element segment in the abstract syntax: function indices have the type `(ref
-- func)` (Element Section)
abbrev pub elem_type : Elements → RefType → RefType
elem_type (Functions funcs) ty = func_ref false
elem_type (Expressions items) ty = ty

-- the items of an element segment in the abstract syntax, where function indices are expressions
-- (Element Section)
abbrev pub elem_items : Elements → List (List ConstInstr)
elem_items (Functions funcs) = func_items funcs
elem_items (Expressions items) = items

-- the mode of an element segment in the abstract syntax: a segment that names no table is for table
-- 0 (Element Section)
abbrev pub elem_mode : ElementKind → Mode
elem_mode Passive = passive
elem_mode Declared = declared
elem_mode (Active table offset) = active (unwrap_or table 0) (offset_of offset)

-- an element segment in the abstract syntax (Structure, Element Segments)
abbrev pub elem_of : ElementSegment → Elem
elem_of segment = record {
  ty = elem_type segment.items segment.ty;
  items = elem_items segment.items;
  mode = elem_mode segment.kind;
}

-- whether a heap type is the type of unshared functions (own rule)
abbrev pub is_func : HeapType → Bool
is_func (Abstract shared abstract.Func) = not shared
is_func _ = false

-- whether a reference type is funcref (Reference Types)
abbrev pub is_func_ref : RefType → Bool
is_func_ref ty = ty.nullable && is_func ty.heap_type

-- the written form of an active segment of function indices: it does not name table 0 (own rule)
abbrev pub active_funcs_form : ℕ → Form
active_funcs_form table = if table == 0 then first_funcs else table_funcs

-- the written form of an active segment of expressions: without a table index if the table is 0 and
-- the type is funcref (Element Section)
abbrev pub active_items_form : ℕ → RefType → Form
active_items_form table ty = if (table == 0) && is_func_ref ty then first_items else table_items

-- the written form of a segment of function indices (own rule)
abbrev pub funcs_form : ElementKind → Form
funcs_form Passive = passive_funcs
funcs_form Declared = declared_funcs
funcs_form (Active table offset) = active_funcs_form (unwrap_or table 0)

-- the written form of a segment of expressions (Element Section)
abbrev pub items_form : RefType → ElementKind → Form
items_form ty Passive = passive_items
items_form ty Declared = declared_items
items_form ty (Active table offset) = active_items_form (unwrap_or table 0) ty

-- the written form of an element segment (Element Section)
abbrev pub elem_form : Elements → RefType → ElementKind → Form
elem_form (Functions funcs) ty kind = funcs_form kind
elem_form (Expressions items) ty kind = items_form ty kind

-- an element segment as it is written (own rule)
abbrev pub IsElemWrittenIn : Spelling → ElementSegment → List ℕ → Type 0
IsElemWrittenIn spelling segment = IsElemFormIn spelling (elem_form segment.items segment.ty segment.kind) (elem_of segment)

abbrev pub IsElemWritten : ElementSegment → List ℕ → Type 0
IsElemWritten = IsElemWrittenIn any
