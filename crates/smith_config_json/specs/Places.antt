-- The fields by their names in the code.
use Rattle.std.specs.Prelude.{ℕ, ◌-◌, ◌^◌, Bool, List, map}
use Rattle.std.specs.Borrow.{Bor, MutBor, Fml, Lends, usize, u32, u64, bool}
use Rattle.smith_config.specs.contracts.config.Config.{the_row}
use Rattle.smith_config.specs.declared.config.Config.{Config}
use Rattle.smith_config_json.specs.declared.place.Place.{Place}
use Rattle.smith_config_json.specs.declared.place.Size.{Size}
use Rattle.smith_config_json.specs.declared.place.Word.{Word}
use Rattle.smith_config_json.specs.declared.place.Long.{Long}
use Rattle.smith_config_json.specs.declared.place.Flag.{Flag}
use Rattle.smith_config_json.specs.declared.place.Number.{Number}
use Rattle.smith_config_json.specs.declared.place.Place.TheVariants as place
use Rattle.smith_config_json.specs.declared.place.Number.TheVariants as number
use Rattle.smith_config_json.specs.declared.place.Size.TheVariants.{MinTypes, MaxTypes, MinImports, MaxImports, MinTags, MaxTags, MinFuncs}
use Rattle.smith_config_json.specs.declared.place.Size.TheVariants.{MaxFuncs, MinGlobals, MaxGlobals, MinExports, MaxExports}
use Rattle.smith_config_json.specs.declared.place.Size.TheVariants.{MinElementSegments, MaxElementSegments, MinElements, MaxElements}
use Rattle.smith_config_json.specs.declared.place.Size.TheVariants.{MinDataSegments, MaxDataSegments, MaxMemories, MaxTables}
use Rattle.smith_config_json.specs.declared.place.Size.TheVariants.{MaxInstructions, MaxAliases, MaxComponents, MaxInstances, MaxModules}
use Rattle.smith_config_json.specs.declared.place.Size.TheVariants.{MaxNestingDepth, MaxValues}
use Rattle.smith_config_json.specs.declared.place.Word.TheVariants.{MinMemories, MinTables, MaxTypeSize, ConstExprFuel}
use Rattle.smith_config_json.specs.declared.place.Long.TheVariants.{MaxMemory32Bytes, MaxTableElements}
use Rattle.smith_config_json.specs.declared.place.Flag.TheVariants.{MemoryMaxSizeRequired, TableMaxSizeRequired, LimitArraysInConstExprs}
use Rattle.smith_config_json.specs.declared.place.Flag.TheVariants.{AllowStartExport, ExportEverything, AllowFloats, DisallowTraps}
use Rattle.smith_config_json.specs.declared.place.Flag.TheVariants.{AllowInvalidFuncs, ReferenceTypesEnabled, GcEnabled}
use Rattle.smith_config_json.specs.declared.place.Flag.TheVariants.{CustomDescriptorsEnabled, MultiValueEnabled, BulkMemoryEnabled}
use Rattle.smith_config_json.specs.declared.place.Flag.TheVariants.{SimdEnabled, ExceptionsEnabled, ThreadsEnabled}
use Rattle.smith_config_json.specs.declared.place.Flag.TheVariants.{SharedEverythingThreadsEnabled, Memory64Enabled, CustomPageSizesEnabled}
use Rattle.smith_config_json.specs.declared.place.Flag.TheVariants.{ExtendedConstEnabled, CompactImportsEnabled, RelaxedSimdEnabled}
use Rattle.smith_config_json.specs.declared.place.Flag.TheVariants.{SaturatingFloatToIntEnabled, SignExtensionOpsEnabled, TailCallEnabled}
use Rattle.smith_config_json.specs.declared.place.Flag.TheVariants.{WideArithmeticEnabled, AcquireReleaseAtomicsEnabled}
use Rattle.smith_config_json.specs.declared.place.Flag.TheVariants.{MultibyteArrayAccessEnabled, NonNullableEnabled, CanonicalizeNans}
use Rattle.smith_config_json.specs.declared.place.Flag.TheVariants.{GenerateCustomSections}
use Rattle.smith_config_json.specs.Fields.{Setter, Table, Field, whole, truth, kinds, choices, file, preset}

-- a configuration with a number of type `usize` set
abbrev pub with_size : Size → Setter ℕ
with_size MinTypes config n = record config { min_types = n }
with_size MaxTypes config n = record config { max_types = n }
with_size MinImports config n = record config { min_imports = n }
with_size MaxImports config n = record config { max_imports = n }
with_size MinTags config n = record config { min_tags = n }
with_size MaxTags config n = record config { max_tags = n }
with_size MinFuncs config n = record config { min_funcs = n }
with_size MaxFuncs config n = record config { max_funcs = n }
with_size MinGlobals config n = record config { min_globals = n }
with_size MaxGlobals config n = record config { max_globals = n }
with_size MinExports config n = record config { min_exports = n }
with_size MaxExports config n = record config { max_exports = n }
with_size MinElementSegments config n = record config { min_element_segments = n }
with_size MaxElementSegments config n = record config { max_element_segments = n }
with_size MinElements config n = record config { min_elements = n }
with_size MaxElements config n = record config { max_elements = n }
with_size MinDataSegments config n = record config { min_data_segments = n }
with_size MaxDataSegments config n = record config { max_data_segments = n }
with_size MaxMemories config n = record config { max_memories = n }
with_size MaxTables config n = record config { max_tables = n }
with_size MaxInstructions config n = record config { max_instructions = n }
with_size MaxAliases config n = record config { max_aliases = n }
with_size MaxComponents config n = record config { max_components = n }
with_size MaxInstances config n = record config { max_instances = n }
with_size MaxModules config n = record config { max_modules = n }
with_size MaxNestingDepth config n = record config { max_nesting_depth = n }
with_size MaxValues config n = record config { max_values = n }

-- a configuration with a number of type `u32` set
abbrev pub with_word : Word → Setter ℕ
with_word MinMemories config n = record config { min_memories = n }
with_word MinTables config n = record config { min_tables = n }
with_word MaxTypeSize config n = record config { max_type_size = n }
with_word ConstExprFuel config n = record config { const_expr_fuel = n }

-- a configuration with a number of type `u64` set
abbrev pub with_long : Long → Setter ℕ
with_long MaxMemory32Bytes config n = record config { max_memory32_bytes = n }
with_long MaxTableElements config n = record config { max_table_elements = n }

-- a configuration with a flag set
abbrev pub with_flag : Flag → Setter Bool
with_flag MemoryMaxSizeRequired config b = record config { memory_max_size_required = b }
with_flag TableMaxSizeRequired config b = record config { table_max_size_required = b }
with_flag LimitArraysInConstExprs config b = record config { limit_arrays_in_const_exprs = b }
with_flag AllowStartExport config b = record config { allow_start_export = b }
with_flag ExportEverything config b = record config { export_everything = b }
with_flag AllowFloats config b = record config { allow_floats = b }
with_flag DisallowTraps config b = record config { disallow_traps = b }
with_flag AllowInvalidFuncs config b = record config { allow_invalid_funcs = b }
with_flag ReferenceTypesEnabled config b = record config { reference_types_enabled = b }
with_flag GcEnabled config b = record config { gc_enabled = b }
with_flag CustomDescriptorsEnabled config b = record config { custom_descriptors_enabled = b }
with_flag MultiValueEnabled config b = record config { multi_value_enabled = b }
with_flag BulkMemoryEnabled config b = record config { bulk_memory_enabled = b }
with_flag SimdEnabled config b = record config { simd_enabled = b }
with_flag ExceptionsEnabled config b = record config { exceptions_enabled = b }
with_flag ThreadsEnabled config b = record config { threads_enabled = b }
with_flag SharedEverythingThreadsEnabled config b = record config { shared_everything_threads_enabled = b }
with_flag Memory64Enabled config b = record config { memory64_enabled = b }
with_flag CustomPageSizesEnabled config b = record config { custom_page_sizes_enabled = b }
with_flag ExtendedConstEnabled config b = record config { extended_const_enabled = b }
with_flag CompactImportsEnabled config b = record config { compact_imports_enabled = b }
with_flag RelaxedSimdEnabled config b = record config { relaxed_simd_enabled = b }
with_flag SaturatingFloatToIntEnabled config b = record config { saturating_float_to_int_enabled = b }
with_flag SignExtensionOpsEnabled config b = record config { sign_extension_ops_enabled = b }
with_flag TailCallEnabled config b = record config { tail_call_enabled = b }
with_flag WideArithmeticEnabled config b = record config { wide_arithmetic_enabled = b }
with_flag AcquireReleaseAtomicsEnabled config b = record config { acquire_release_atomics_enabled = b }
with_flag MultibyteArrayAccessEnabled config b = record config { multibyte_array_access_enabled = b }
with_flag NonNullableEnabled config b = record config { non_nullable_enabled = b }
with_flag CanonicalizeNans config b = record config { canonicalize_nans = b }
with_flag GenerateCustomSections config b = record config { generate_custom_sections = b }

-- when the borrow ends, the field of type `usize` has the last value of the reference
abbrev pub LendsSize : MutBor Config → Size → MutBor ℕ → Fml
LendsSize config s r = Lends the_row usize config r (with_size s config.now)

-- when the borrow ends, the field of type `u32` has the last value of the reference
abbrev pub LendsWord : MutBor Config → Word → MutBor ℕ → Fml
LendsWord config w r = Lends the_row u32 config r (with_word w config.now)

-- when the borrow ends, the field of type `u64` has the last value of the reference
abbrev pub LendsLong : MutBor Config → Long → MutBor ℕ → Fml
LendsLong config l r = Lends the_row u64 config r (with_long l config.now)

-- when the borrow ends, the flag has the last value of the reference
abbrev pub LendsFlag : MutBor Config → Flag → MutBor Bool → Fml
LendsFlag config f r = Lends the_row bool config r (with_flag f config.now)

-- a configuration with a whole number set
abbrev pub with_number : Number → Setter ℕ
with_number (number.Size s) = with_size s
with_number (number.Word w) = with_word w
with_number (number.Long l) = with_long l
with_number number.MinUlebSize = λ config n. record config { min_uleb_size = n }
with_number number.MaxMemory64Bytes = λ config n. record config { max_memory64_bytes = n }
with_number number.Fuel = λ config n. config

-- the greatest value of a field
abbrev pub most_of : Number → ℕ
most_of (number.Size s) = 2 ^ 64 - 1
most_of (number.Word w) = 2 ^ 32 - 1
most_of (number.Long l) = 2 ^ 64 - 1
most_of number.MinUlebSize = 2 ^ 8 - 1
most_of number.MaxMemory64Bytes = 2 ^ 128 - 1
most_of number.Fuel = 2 ^ 32 - 1

-- the field at a place
abbrev pub field_of : Place → Field
field_of (place.Number n) = whole (most_of n) (with_number n)
field_of (place.Flag f) = truth (with_flag f)
field_of place.AllowedInstructions = kinds (λ config k. record config { allowed_instructions = k })
field_of place.MemoryOffsetChoices = choices (λ config c. record config { memory_offset_choices = c })
field_of place.File = file
field_of place.Preset = preset
field_of place.Addition = truth (λ config b. config)

-- the fields of a table in the code
abbrev pub fields_in : List (Bor (List ℕ) × Place) → Table Field
fields_in table = map (λ entry. (entry.0.now, field_of entry.1)) table
