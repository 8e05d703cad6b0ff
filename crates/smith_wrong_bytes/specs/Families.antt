-- The names of families of changes: rules of this project.
use Rattle.std.specs.Prelude.{ℕ, List, codes}
use Rattle.smith_wrong_bytes.specs.declared.family.BytesFamily.{BytesFamily}
use Rattle.smith_wrong_bytes.specs.declared.family.BytesFamily.TheVariants as family

-- the name of a family
abbrev pub family_name : BytesFamily → List ℕ
family_name family.LongInteger = codes "long-integer"
family_name family.UnusedBits = codes "unused-bits"
family_name family.SectionSize = codes "section-size"
family_name family.BodySize = codes "body-size"
family_name family.ListCount = codes "list-count"
family_name family.FunctionCount = codes "function-count"
family_name family.DataCount = codes "data-count"
family_name family.DataCountMissing = codes "data-count-missing"
family_name family.SectionOrder = codes "section-order"
family_name family.SectionTwice = codes "section-twice"
family_name family.UnknownSection = codes "unknown-section"
family_name family.LeftOverByte = codes "left-over-byte"
family_name family.NotUtf8 = codes "not-utf8"
family_name family.UnknownFlag = codes "unknown-flag"
family_name family.UnknownType = codes "unknown-type"
family_name family.UnknownOpcode = codes "unknown-opcode"
family_name family.MissingEnd = codes "missing-end"
family_name family.SecondEnd = codes "second-end"
family_name family.Preamble = codes "preamble"
family_name family.CutFile = codes "cut-file"
