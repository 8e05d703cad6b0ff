-- Element segments whose offset and items are any expressions: the section Binary Format, Modules,
-- Element Section, of the WebAssembly Core Specification 3.0.
use Rattle.std.specs.Prelude.{◌≡◌, ℕ, false, true, List, [], ◌∷◌, map}
use Rattle.smith_decode.specs.Common.{Instr, IsIndex, IsList, IsNestedExpr, IsUnsigned, Joined, RefType}
use Rattle.smith_binary_sections.specs.Types.{IsRefType}
use Rattle.smith_binary_sections.specs.Elements.{func_ref, Form, form_number, IsFuncs, IsKindFuncs}
use Rattle.smith_binary_sections.specs.Elements.Form.{first_funcs, passive_funcs, table_funcs, declared_funcs}
use Rattle.smith_binary_sections.specs.Elements.Form.{first_items, passive_items, table_items, declared_items}
use Rattle.smith_instr.specs.declared.instr.Instr.TheVariants.{Reference}
use Rattle.smith_instr.specs.declared.reference.ReferenceInstr.TheVariants.{Func}

-- the mode of an element segment (Structure, Element Segments)
pub data Mode : Type 0 where
  passive : Mode
  declared : Mode
  active : ℕ → List Instr → Mode

-- an element segment in the abstract syntax, where function indices are expressions too (Structure,
-- Element Segments)
pub record Elem : Type 0 where
  pub ty : RefType
  pub items : List (List Instr)
  pub mode : Mode

-- an element segment of this type, these items and this mode (Structure, Element Segments)
abbrev pub elem : RefType → List (List Instr) → Mode → Elem
elem ty items mode = record { ty = ty; items = items; mode = mode }

-- function indices as expressions (Element Section)
abbrev pub func_items : List ℕ → List (List Instr)
func_items funcs = map (λ (index : ℕ). Reference (Func index) ∷ []) funcs

-- a list of expressions (Element Section)
abbrev pub IsItems : List (List Instr) → List ℕ → Type 0
IsItems items = IsList IsNestedExpr items

-- an offset, then function indices (Element Section)
abbrev pub IsFirstFuncs : List Instr → List ℕ → List ℕ → Type 0
IsFirstFuncs offset funcs = Joined (IsNestedExpr offset) (IsFuncs funcs)

-- a table index, an offset, the element kind, then function indices (Element Section)
abbrev pub IsTableFuncs : ℕ → List Instr → List ℕ → List ℕ → Type 0
IsTableFuncs table offset funcs = Joined (IsIndex table) (Joined (IsNestedExpr offset) (IsKindFuncs funcs))

-- an offset, then expressions (Element Section)
abbrev pub IsFirstItems : List Instr → List (List Instr) → List ℕ → Type 0
IsFirstItems offset items = Joined (IsNestedExpr offset) (IsItems items)

-- a reference type, then expressions (Element Section)
abbrev pub IsTypedItems : RefType → List (List Instr) → List ℕ → Type 0
IsTypedItems ty items = Joined (IsRefType ty) (IsItems items)

-- a table index, an offset, a reference type, then expressions (Element Section)
abbrev pub IsTableItems : ℕ → List Instr → RefType → List (List Instr) → List ℕ → Type 0
IsTableItems table offset ty items = Joined (IsIndex table) (Joined (IsNestedExpr offset) (IsTypedItems ty items))

-- an element segment in one of the eight forms, after the number of the form (Element Section)
abbrev pub IsInForm : Form → Elem → List ℕ → Type 0
IsInForm first_funcs e piece =
    (offset : List Instr) × (funcs : List ℕ) × (e ≡ elem (func_ref false) (func_items funcs) (active 0 offset))
    × IsFirstFuncs offset funcs piece
IsInForm passive_funcs e piece = (funcs : List ℕ) × (e ≡ elem (func_ref false) (func_items funcs) passive) × IsKindFuncs funcs piece
IsInForm table_funcs e piece =
    (table : ℕ) × (offset : List Instr) × (funcs : List ℕ) × (e ≡ elem (func_ref false) (func_items funcs) (active table offset))
    × IsTableFuncs table offset funcs piece
IsInForm declared_funcs e piece = (funcs : List ℕ) × (e ≡ elem (func_ref false) (func_items funcs) declared) × IsKindFuncs funcs piece
IsInForm first_items e piece =
    (offset : List Instr) × (items : List (List Instr)) × (e ≡ elem (func_ref true) items (active 0 offset))
    × IsFirstItems offset items piece
IsInForm passive_items e piece =
    (ty : RefType) × (items : List (List Instr)) × (e ≡ elem ty items passive) × IsTypedItems ty items piece
IsInForm table_items e piece =
    (table : ℕ) × (offset : List Instr) × (ty : RefType) × (items : List (List Instr)) × (e ≡ elem ty items (active table offset))
    × IsTableItems table offset ty items piece
IsInForm declared_items e piece =
    (ty : RefType) × (items : List (List Instr)) × (e ≡ elem ty items declared) × IsTypedItems ty items piece

-- the number of a form, then an element segment in that form (Element Section)
abbrev pub IsElemIn : Form → Elem → List ℕ → Type 0
IsElemIn form e = Joined (IsUnsigned 32 (form_number form)) (IsInForm form e)

-- an element segment (Element Section)
pub record IsElem (e : Elem) (piece : List ℕ) : Type 0 where
  pub form : Form
  pub spelled : IsElemIn form e piece
