-- Fields and composite types, written by their parts.
use Rattle.smith_spell.proofs.Common.{Config, Each, length, List, Listed, SpellsBool, SpellsField, SpellsNumber, SpellsValType, ℕ}
use Rattle.smith_types.specs.Syntax.composite_type.FieldType.{FieldType}
use Rattle.smith_types.specs.Syntax.composite_type.FuncType.{FuncType}
use Rattle.smith_types.specs.Syntax.composite_type.StructType.{StructType}
use Rattle.smith_draw_types.specs.CompositeTypes.{most_results}
use Rattle.smith_draw_types.specs.Spelling.{SpellsFuncType, SpellsStorage, SpellsStructType}
use Rattle.smith_spell.specs.Written.{Writes}
use Rattle.smith_spell.proofs.WrittenLemmas.{joined_written}

-- the storage type, then whether it is mutable
pub field_written : (config : Config) (limit : ℕ) (field : FieldType) {old between new : List ℕ}
    → Writes (SpellsStorage config limit field.element_type) old between
    → Writes (SpellsBool field.mutable) between new → Writes (SpellsField config limit field) old new
unfolding SpellsField
field_written config limit field storage mutable = joined_written storage mutable

-- the number of fields, then the fields
pub struct_written : (config : Config) (limit : ℕ) (structure : StructType) {old between new : List ℕ}
    → Writes (SpellsNumber (length structure.fields) 0 20) old between
    → Writes (Each (SpellsField config limit) structure.fields) between new → Writes (SpellsStructType config limit structure) old new
unfolding SpellsStructType
struct_written config limit structure size fields = joined_written size fields

-- parameters, then results
pub function_written : (config : Config) (limit : ℕ) (function : FuncType) {old between new : List ℕ}
    → Writes (Listed (SpellsValType config limit) 20 function.params) old between
    → Writes (Listed (SpellsValType config limit) (most_results config) function.results) between new
    → Writes (SpellsFuncType config limit function) old new
unfolding SpellsFuncType
function_written config limit function params results = joined_written params results
