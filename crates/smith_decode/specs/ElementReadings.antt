-- Element segments in their eight forms, and their readings: the section Binary Format, Modules,
-- Element Section, of the WebAssembly Core Specification 3.0.
use Rattle.std.specs.Prelude.{◌≡◌, ℕ, ◌==◌, if◌then◌else◌, false, true, List}
use Rattle.smith_decode.specs.Common.{byte_at, expr_at, fault_at, Instr, IsUnsigned, Joined, joined_at, list_at, mapped_at, Reading}
use Rattle.smith_decode.specs.Common.{RefType, UnknownByte, unsigned_at, ◌>>=◌}
use Rattle.smith_binary_read.specs.TypeReadings.{ref_type_at}
use Rattle.smith_binary_sections.specs.Elements.{func_ref, IsKindFuncs}
use Rattle.smith_decode.specs.declared.elements.ElementItems.{ElementItems}
use Rattle.smith_decode.specs.declared.elements.ElementItems.TheVariants.{Functions, Expressions}
use Rattle.smith_decode.specs.declared.elements.ElementMode.{ElementMode}
use Rattle.smith_decode.specs.declared.elements.ElementMode.TheVariants.{Passive, Declared, Active}
use Rattle.smith_decode.specs.declared.elements.ElementSegment.{ElementSegment}
use Rattle.smith_decode.specs.Elements.{Elem, Mode, elem, func_items, IsFirstFuncs, IsTableFuncs, IsFirstItems, IsTypedItems, IsTableItems}
use Rattle.smith_decode.specs.Elements.Mode.{passive, declared, active}

abbrev pub element : RefType → ElementItems → ElementMode → ElementSegment
element ty items mode = record { ty = ty; items = items; mode = mode }

-- an element segment of function indices, and one of expressions of type funcref (Element Section)
abbrev pub of_funcs : List ℕ → ElementMode → ElementSegment
of_funcs funcs mode = element (func_ref false) (Functions funcs) mode

abbrev pub of_items : List (List Instr) → ElementMode → ElementSegment
of_items items mode = element (func_ref true) (Expressions items) mode

-- the mode of an element segment in the abstract syntax (Structure, Element Segments)
abbrev pub mode_view : ElementMode → Mode
mode_view Passive = passive
mode_view Declared = declared
mode_view (Active table offset) = active table offset

-- the items of an element segment in the abstract syntax, where function indices are expressions
-- (Structure, Element Segments)
abbrev pub items_view : ElementItems → List (List Instr)
items_view (Functions funcs) = func_items funcs
items_view (Expressions items) = items

-- an element segment in the abstract syntax (Structure, Element Segments)
abbrev pub element_view : ElementSegment → Elem
element_view s = elem s.ty (items_view s.items) (mode_view s.mode)

-- an element segment in one of the eight forms (Element Section)
pub data IsElementSegment (s : ElementSegment) (piece : List ℕ) : Type 0 where
  form_0 : (offset : List Instr) (funcs : List ℕ)
      → s ≡ of_funcs funcs (Active 0 offset) → Joined (IsUnsigned 32 0) (IsFirstFuncs offset funcs) piece → IsElementSegment s piece
  form_1 : (funcs : List ℕ)
      → s ≡ of_funcs funcs Passive → Joined (IsUnsigned 32 1) (IsKindFuncs funcs) piece → IsElementSegment s piece
  form_2 : (table : ℕ) (offset : List Instr) (funcs : List ℕ)
      → s ≡ of_funcs funcs (Active table offset) → Joined (IsUnsigned 32 2) (IsTableFuncs table offset funcs) piece
      → IsElementSegment s piece
  form_3 : (funcs : List ℕ)
      → s ≡ of_funcs funcs Declared → Joined (IsUnsigned 32 3) (IsKindFuncs funcs) piece → IsElementSegment s piece
  form_4 : (offset : List Instr) (items : List (List Instr))
      → s ≡ of_items items (Active 0 offset) → Joined (IsUnsigned 32 4) (IsFirstItems offset items) piece → IsElementSegment s piece
  form_5 : (ty : RefType) (items : List (List Instr))
      → s ≡ element ty (Expressions items) Passive → Joined (IsUnsigned 32 5) (IsTypedItems ty items) piece → IsElementSegment s piece
  form_6 : (table : ℕ) (offset : List Instr) (ty : RefType) (items : List (List Instr))
      → s ≡ element ty (Expressions items) (Active table offset)
      → Joined (IsUnsigned 32 6) (IsTableItems table offset ty items) piece → IsElementSegment s piece
  form_7 : (ty : RefType) (items : List (List Instr))
      → s ≡ element ty (Expressions items) Declared → Joined (IsUnsigned 32 7) (IsTypedItems ty items) piece → IsElementSegment s piece

-- reads two items
abbrev pub pair_at : {A B : Type 0} → (List ℕ → Reading A) → (List ℕ → Reading B) → List ℕ → Reading (A × B)
pair_at first second = joined_at (λ x y. (x, y)) first second

-- reads function indices (Element Section)
abbrev pub funcs_at : List ℕ → Reading (List ℕ)
funcs_at = list_at (unsigned_at 32)

-- reads the element kind, a byte, then function indices (Element Section)
unfoldable pub kind_funcs_at : List ℕ → Reading (List ℕ)
kind_funcs_at bytes = byte_at bytes >>= (λ byte. if byte.0 == 0 then funcs_at byte.1 else fault_at UnknownByte bytes)

-- reads expressions (Element Section)
abbrev pub items_at : List ℕ → Reading (List (List Instr))
items_at = list_at expr_at

-- reads a reference type, then expressions (Element Section)
unfoldable pub typed_items_at : List ℕ → Reading (RefType × List (List Instr))
typed_items_at bytes = pair_at ref_type_at items_at bytes

-- reads an active segment, after the number of its form (Element Section)
abbrev pub first_funcs_at : List ℕ → Reading ElementSegment
first_funcs_at = mapped_at (λ x. of_funcs x.1 (Active 0 x.0)) (pair_at expr_at funcs_at)

abbrev pub table_funcs_at : List ℕ → Reading ElementSegment
table_funcs_at = mapped_at (λ x. of_funcs x.1.1 (Active x.0 x.1.0)) (pair_at (unsigned_at 32) (pair_at expr_at kind_funcs_at))

abbrev pub first_items_at : List ℕ → Reading ElementSegment
first_items_at = mapped_at (λ x. of_items x.1 (Active 0 x.0)) (pair_at expr_at items_at)

abbrev pub table_items_at : List ℕ → Reading ElementSegment
table_items_at =
    mapped_at (λ x. element x.1.1.0 (Expressions x.1.1.1) (Active x.0 x.1.0))
    (pair_at (unsigned_at 32) (pair_at expr_at typed_items_at))

-- reads the number of a form, then an element segment in that form (Element Section)
unfoldable pub segment_at : List ℕ → Reading ElementSegment
segment_at bytes = unsigned_at 32 bytes >>= (λ form.
    if form.0 == 0 then first_funcs_at form.1
    else (if form.0 == 1 then mapped_at (λ funcs. of_funcs funcs Passive) kind_funcs_at form.1
    else (if form.0 == 2 then table_funcs_at form.1
    else (if form.0 == 3 then mapped_at (λ funcs. of_funcs funcs Declared) kind_funcs_at form.1
    else (if form.0 == 4 then first_items_at form.1
    else (if form.0 == 5 then mapped_at (λ x. element x.0 (Expressions x.1) Passive) typed_items_at form.1
    else (if form.0 == 6 then table_items_at form.1
    else (if form.0 == 7 then mapped_at (λ x. element x.0 (Expressions x.1) Declared) typed_items_at form.1
    else fault_at UnknownByte bytes))))))))
