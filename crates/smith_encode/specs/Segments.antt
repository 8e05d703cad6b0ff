-- Element segments in the abstract syntax: the section Structure, Element Segments, of the WebAssembly
-- Core Specification 3.0.
use Rattle.std.specs.Prelude.{ℕ, false, List}
use Rattle.smith_binary_sections.specs.Elements.{func_ref}
use Rattle.smith_decode.specs.declared.elements.ElementSegment.{ElementSegment}
use Rattle.smith_decode.specs.ElementReadings.{element_view}
use Rattle.smith_decode.specs.Elements.{Elem, Mode, elem, func_items, IsElem}

-- an element segment of function indices
abbrev pub functions_elem : List ℕ → Mode → Elem
functions_elem functions mode = elem (func_ref false) (func_items functions) mode

-- the piece spells the abstract segment of a decoded element segment
abbrev pub IsSeenElem : ElementSegment → List ℕ → Type 0
IsSeenElem segment = IsElem (element_view segment)
