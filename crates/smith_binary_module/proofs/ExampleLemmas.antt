-- The modules of examples have few bytes.
use Rattle.std.proofs.Common.{inl, inr, [], ◌∷◌, arith}
use Rattle.smith_types.specs.ExampleTypes.{final_type, plain_func}
use Rattle.smith_types.specs.Syntax.code.Instructions.TheVariants.{Unreachable}
use Rattle.smith_types.specs.Syntax.composite_type.SubType.{SubType}
use Rattle.smith_binary_sections.specs.Types.{IsCompositeType, IsRecGroupWritten, IsValType}
use Rattle.smith_binary_sections.specs.Instructions.{IsIndex}
use Rattle.smith_binary_sections.specs.Entities.{IsMemoryType, IsTagType}
use Rattle.smith_binary_sections.specs.Imports.{IsImportGroup}
use Rattle.smith_binary_sections.specs.Definitions.{IsTable, IsGlobal}
use Rattle.smith_binary_sections.specs.Exports.{IsExport}
use Rattle.smith_binary_sections.specs.Elements.{IsElem}
use Rattle.smith_binary_sections.specs.Codes.{IsBodyWritten, IsRun}
use Rattle.smith_binary_sections.specs.Data.{IsData}
use Rattle.smith_binary_sections.specs.Long.{IsNeverLong, IsLongBody, IsLongData, IsLongElem, IsLongExport, IsLongGroup, IsLongImportGroup}
use Rattle.smith_binary_sections.specs.Long.{IsLongSubType}
use Rattle.smith_binary_sections.proofs.SizeLemmas.{AtMost, bytes_within, joined_within, none_within, not_long, no_long_items}
use Rattle.smith_binary_sections.proofs.SizeLemmas.{no_long_section, number_within, one_long_item, one_long_section, sized_within}
use Rattle.smith_binary_module.specs.ExampleModules.{one_function}
use Rattle.smith_binary_module.specs.TooLong.{IsTooLong}

-- the type of the function
abbrev plain : SubType
plain = final_type plain_func

composite_within : AtMost 11 (IsCompositeType plain.composite_type)
composite_within = joined_within 0 11 (bytes_within [])
    (joined_within 1 10 (bytes_within (0x60 ∷ [])) (joined_within 5 5 (none_within IsValType) (none_within IsValType)))

group_within : AtMost 11 (IsRecGroupWritten (plain ∷ []))
group_within = composite_within

type_short : IsLongSubType plain → ⊥
type_short (inl params) = no_long_items IsNeverLong params
type_short (inr results) = no_long_items IsNeverLong results

body_within : AtMost 12 (IsBodyWritten ([], 0x00 ∷ 0x0B ∷ []))
body_within = sized_within 7 (joined_within 5 2 (none_within (λ local. IsRun (1, local))) (bytes_within (0x00 ∷ 0x0B ∷ [])))

body_short : IsLongBody ([], 0x00 ∷ 0x0B ∷ []) → ⊥
body_short (inl long) = no_long_items IsNeverLong long
body_short (inr long) = not_long 7 (omega arith) (joined_within 5 2 (none_within (λ local. IsRun (1, local)))
    (bytes_within (0x00 ∷ 0x0B ∷ []))) long

-- neither the module nor its body has many bytes
pub one_function_short : IsTooLong (one_function (record { locals = []; instructions = Unreachable })) → ⊥
one_function_short (IsTooLong.types long) = one_long_section IsRecGroupWritten IsLongGroup (plain ∷ []) 11 (omega arith) group_within
    (one_long_item IsLongSubType plain type_short) long
one_function_short (IsTooLong.imports long) = no_long_section IsImportGroup IsLongImportGroup long
one_function_short (IsTooLong.functions long) = one_long_section IsIndex IsNeverLong 0 5 (omega arith) (number_within 0) (λ never. never)
    long
one_function_short (IsTooLong.tables long) = no_long_section IsTable IsNeverLong long
one_function_short (IsTooLong.memories long) = no_long_section IsMemoryType IsNeverLong long
one_function_short (IsTooLong.tags long) = no_long_section IsTagType IsNeverLong long
one_function_short (IsTooLong.globals long) = no_long_section IsGlobal IsNeverLong long
one_function_short (IsTooLong.exports long) = no_long_section IsExport IsLongExport long
one_function_short (IsTooLong.elems long) = no_long_section IsElem IsLongElem long
one_function_short (IsTooLong.bodies long) = one_long_section IsBodyWritten IsLongBody ([], 0x00 ∷ 0x0B ∷ []) 12 (omega arith) body_within
    body_short long
one_function_short (IsTooLong.datas long) = no_long_section IsData IsLongData long
