-- A type, a table or a segment that is written in one form is spelled by the grammar.
use Rattle.smith_binary_sections.proofs.Common.{[], Bool, ConstInstr, IsList, Joined, List, refl, true, ℕ, ◌∷◌, ◌≡◌}
use Rattle.std.proofs.Common.{false, None, Option, Some}
use Rattle.smith_binary.specs.Pieces.{IsByte}
use Rattle.smith_types.specs.Syntax.composite_type.SubType.{SubType}
use Rattle.smith_types.specs.Syntax.entity_type.TableType.{TableType}
use Rattle.smith_types.specs.Syntax.segments.DataSegment.{DataSegment}
use Rattle.smith_types.specs.Syntax.segments.ElementSegment.{ElementSegment}
use Rattle.smith_binary_sections.specs.Data.{IsData, IsDataWritten, data_form, data_of}
use Rattle.smith_binary_sections.specs.Definitions.{IsTable, IsTableAs, IsTableWritten, initialised_table}
use Rattle.smith_binary_sections.specs.Elements.{IsElem, IsElemWritten, elem_form, elem_of}
use Rattle.smith_binary_sections.specs.Types.{is_alone, IsRecGroup, IsRecGroupWritten, IsSubType, IsSubTypeAs, IsSubTypeWritten}
use Rattle.smith_binary_sections.proofs.ListLemmas.{list_as}

-- a sub type that is written alone is final and has no supertype
pub alone_is : (supertype : Option ℕ) (is_final : Bool) → is_alone supertype is_final ≡ true → (is_final ≡ true) × (supertype ≡ None)
alone_is None is_final on = (on, refl)
alone_is (Some index) is_final on = absurd cc

sub_as : (alone : Bool) (t : SubType) (piece : List ℕ) → (alone ≡ true → (t.is_final ≡ true) × (t.supertype ≡ None))
    → IsSubTypeAs alone t piece → IsSubType t piece
sub_as true t piece is h = let (final, none) = is refl in IsSubType.short final none h
sub_as false t piece is h = IsSubType.full h

sub_spelled : (t : SubType) (piece : List ℕ) → IsSubTypeWritten t piece → IsSubType t piece
sub_spelled t piece h = sub_as (is_alone t.supertype t.is_final) t piece (alone_is t.supertype t.is_final) h

listed : (group : List SubType) (piece : List ℕ) → Joined (IsByte 0x4E) (IsList IsSubTypeWritten group) piece → IsRecGroup group piece
listed group piece h = IsRecGroup.full (record {
  first = h.first;
  second = h.second;
  is_first = h.is_first;
  is_second = list_as IsSubTypeWritten IsSubType sub_spelled group h.second h.is_second;
  whole = h.whole;
})

pub group_spelled : (group : List SubType) (piece : List ℕ) → IsRecGroupWritten group piece → IsRecGroup group piece
group_spelled [] piece h = listed [] piece h
group_spelled (t ∷ []) piece h = IsRecGroup.short t refl (sub_spelled t piece h)
group_spelled (t ∷ u ∷ group) piece h = listed (t ∷ u ∷ group) piece h

pub elem_spelled : (segment : ElementSegment) (piece : List ℕ) → IsElemWritten segment piece → IsElem (elem_of segment) piece
elem_spelled segment piece h = record { form = elem_form segment.items segment.ty segment.kind; spelled = h }

pub data_spelled : (segment : DataSegment) (piece : List ℕ) → IsDataWritten segment piece → IsData (data_of segment) piece
data_spelled segment piece h = record { form = data_form segment.kind; spelled = h }

spelled_as : (ty : TableType) (initial : Option (List ConstInstr)) (piece : List ℕ) → IsTableAs ty initial piece
    → IsTable (initialised_table (ty, initial)) piece
spelled_as ty None piece h = IsTable.null refl h
spelled_as ty (Some expression) piece h = IsTable.initialised h

pub table_spelled : (table : TableType × Option (List ConstInstr)) (piece : List ℕ) → IsTableWritten table piece
    → IsTable (initialised_table table) piece
table_spelled table piece h = spelled_as table.0 table.1 piece h
