-- The numbers of families; no number is ever given to another family (own rule).
use Rattle.std.specs.Prelude.{◌≡◌, ℕ, List, [], ◌∷◌, Option, nat_eq}
use Rattle.std.specs.List.{find}
use Rattle.smith_wrong_bytes.specs.declared.family.BytesFamily.{BytesFamily}
use Rattle.smith_wrong_bytes.specs.declared.family.BytesFamily.TheVariants as bytes
use Rattle.smith_wrong_module.specs.declared.family.ModuleFamily.{ModuleFamily}
use Rattle.smith_wrong_module.specs.declared.family.ModuleFamily.TheVariants as item
use Rattle.smith_wrong.specs.declared.families.Family.{Family}
use Rattle.smith_wrong.specs.declared.families.Family.TheVariants as family

-- the number of a family of changes of items
abbrev pub item_number : ModuleFamily → ℕ
item_number item.OperandType = 1
item_number item.MissingOperand = 2
item_number item.ExtraOperand = 3
item_number item.BlockType = 4
item_number item.FunctionResult = 5
item_number item.IndexPastEnd = 6
item_number item.OtherEntity = 7
item_number item.ReferenceType = 8
item_number item.Label = 9
item_number item.CastHierarchy = 10
item_number item.TailCall = 11
item_number item.DeadCode = 12
item_number item.UnsetLocal = 13
item_number item.ImmutableGlobal = 14
item_number item.ImmutableField = 15
item_number item.PackedField = 16
item_number item.UndeclaredFunction = 17
item_number item.Alignment = 18
item_number item.Offset = 19
item_number item.Lane = 20
item_number item.Supertype = 21
item_number item.FinalType = 22
item_number item.ForwardReference = 23
item_number item.Limits = 24
item_number item.DuplicateExport = 25
item_number item.ExportIndex = 26
item_number item.StartFunction = 27
item_number item.ConstantType = 28
item_number item.NonConstant = 29
item_number item.LaterGlobal = 30
item_number item.FunctionType = 31
item_number item.TagType = 32
item_number item.ImportType = 33
item_number item.ElementSegment = 34
item_number item.DataSegment = 35

-- the number of a family of changes of bytes
abbrev pub bytes_number : BytesFamily → ℕ
bytes_number bytes.LongInteger = 36
bytes_number bytes.UnusedBits = 37
bytes_number bytes.SectionSize = 38
bytes_number bytes.BodySize = 39
bytes_number bytes.ListCount = 40
bytes_number bytes.FunctionCount = 41
bytes_number bytes.DataCount = 42
bytes_number bytes.SectionOrder = 43
bytes_number bytes.SectionTwice = 44
bytes_number bytes.UnknownSection = 45
bytes_number bytes.LeftOverByte = 46
bytes_number bytes.NotUtf8 = 47
bytes_number bytes.UnknownFlag = 48
bytes_number bytes.UnknownType = 49
bytes_number bytes.UnknownOpcode = 50
bytes_number bytes.MissingEnd = 51
bytes_number bytes.SecondEnd = 52
bytes_number bytes.Preamble = 53
bytes_number bytes.CutFile = 54
bytes_number bytes.DataCountMissing = 55

-- the number of a family
abbrev pub family_number : Family → ℕ
family_number (family.Module one) = item_number one
family_number (family.Bytes one) = bytes_number one

-- the first of some families with this number
abbrev pub numbered : ℕ → List Family → Option Family
numbered number = find (λ one. nat_eq (family_number one) number)

-- each family
abbrev pub families : List Family
families =
    family.Module item.OperandType ∷ family.Module item.MissingOperand ∷ family.Module item.ExtraOperand ∷ family.Module item.BlockType ∷
    family.Module item.FunctionResult ∷ family.Module item.IndexPastEnd ∷ family.Module item.OtherEntity ∷
    family.Module item.ReferenceType ∷ family.Module item.Label ∷ family.Module item.CastHierarchy ∷ family.Module item.TailCall ∷
    family.Module item.DeadCode ∷ family.Module item.UnsetLocal ∷ family.Module item.ImmutableGlobal ∷ family.Module item.ImmutableField ∷
    family.Module item.PackedField ∷ family.Module item.UndeclaredFunction ∷ family.Module item.Alignment ∷ family.Module item.Offset ∷
    family.Module item.Lane ∷ family.Module item.Supertype ∷ family.Module item.FinalType ∷ family.Module item.ForwardReference ∷
    family.Module item.Limits ∷ family.Module item.DuplicateExport ∷ family.Module item.ExportIndex ∷ family.Module item.StartFunction ∷
    family.Module item.ConstantType ∷ family.Module item.NonConstant ∷ family.Module item.LaterGlobal ∷ family.Module item.FunctionType ∷
    family.Module item.TagType ∷ family.Module item.ImportType ∷ family.Module item.ElementSegment ∷ family.Module item.DataSegment ∷
    family.Bytes bytes.LongInteger ∷ family.Bytes bytes.UnusedBits ∷ family.Bytes bytes.SectionSize ∷ family.Bytes bytes.BodySize ∷
    family.Bytes bytes.ListCount ∷ family.Bytes bytes.FunctionCount ∷ family.Bytes bytes.DataCount ∷ family.Bytes bytes.DataCountMissing ∷
    family.Bytes bytes.SectionOrder ∷ family.Bytes bytes.SectionTwice ∷ family.Bytes bytes.UnknownSection ∷
    family.Bytes bytes.LeftOverByte ∷ family.Bytes bytes.NotUtf8 ∷ family.Bytes bytes.UnknownFlag ∷ family.Bytes bytes.UnknownType ∷
    family.Bytes bytes.UnknownOpcode ∷ family.Bytes bytes.MissingEnd ∷ family.Bytes bytes.SecondEnd ∷ family.Bytes bytes.Preamble ∷
    family.Bytes bytes.CutFile ∷ []

-- the family with this number
unfoldable pub family_numbered : ℕ → Option Family
family_numbered number = numbered number families
