-- Where the items of a module are in its file, and their indices: the sections Binary Format,
-- Modules, and Structure, Indices, of the WebAssembly Core Specification 3.0. Imports come first in
-- each index space.
use Rattle.std.specs.Prelude.{◌≡◌, ℕ, ◌+◌, ◌-◌, ◌^◌, ◌≤◌, ◌<◌, List, take, min}
use Rattle.smith_types.specs.Syntax.entity_type.ExportKind.{ExportKind}
use Rattle.smith_types.specs.Syntax.entity_type.ExportKind.TheVariants as kind
use Rattle.smith_types.specs.Syntax.imports.Imports.{Imports}
use Rattle.smith_types.specs.Imports.{flattened, imported_spaces}
use Rattle.smith_validity.specs.Decided.{count_at}
use Rattle.smith_decode.specs.declared.locations.Place.{Place}
use Rattle.smith_decode.specs.declared.locations.Place.TheVariants as place
use Rattle.smith_check_module.specs.declared.faults.Part.{Part}
use Rattle.smith_check_module.specs.declared.faults.Part.TheVariants as part
use Rattle.smith_check.specs.declared.judgement.Fault.{Fault}
use Rattle.smith_check.specs.declared.judgement.Fault.TheVariants as fault
use Rattle.smith_check.specs.declared.judgement.Unjudged.{Unjudged}
use Rattle.smith_check.specs.declared.judgement.Unjudged.TheVariants as unjudged
use Rattle.smith_judge.specs.declared.origins.Origin.{Origin}
use Rattle.smith_judge.specs.declared.origins.Origin.TheVariants as origin

-- the number of imported entities of a kind
abbrev pub imported_count : ExportKind → List Imports → ℕ
imported_count one groups = count_at (imported_spaces (flattened groups)) one

-- an entity of an index space comes from a group of imports or from a definition; an imported
-- entity is in the first group up to which more entities than its index are imported
pub data IsOrigin (groups : List Imports) (one : ExportKind) (index : ℕ) (where_is : Origin) : Type 0 where
  imported : (at : ℕ) → imported_count one (take at groups) ≤ index → index < imported_count one (take (at + 1) groups)
      → where_is ≡ origin.Imported at → IsOrigin groups one index where_is
  defined : (at : ℕ) → index ≡ imported_count one groups + at → where_is ≡ origin.Defined at → IsOrigin groups one index where_is

-- the place of a definition in a file
abbrev pub definition_place : ExportKind → ℕ → Place
definition_place kind.Func index = place.Function index
definition_place kind.Table index = place.Table index
definition_place kind.Memory index = place.Memory index
definition_place kind.Global index = place.Global index
definition_place kind.Tag index = place.Tag index

abbrev pub origin_place : ExportKind → Origin → Place
origin_place one (origin.Imported group) = place.Imports group
origin_place one (origin.Defined index) = definition_place one index

pub record IsEntityPlace (groups : List Imports) (one : ExportKind) (index : ℕ) (at : Place) : Type 0 where
  pub where_is : Origin
  pub found : IsOrigin groups one index where_is
  pub same : at ≡ origin_place one where_is

-- `at` is the place of the item at `index` of a part of a module
abbrev pub IsItemPlace : List Imports → Part → ℕ → Place → Type 0
IsItemPlace groups part.Tags index at = IsEntityPlace groups kind.Tag index at
IsItemPlace groups part.Functions index at = IsEntityPlace groups kind.Func index at
IsItemPlace groups part.Tables index at = IsEntityPlace groups kind.Table index at
IsItemPlace groups part.Memories index at = IsEntityPlace groups kind.Memory index at
IsItemPlace groups part.Globals index at = IsEntityPlace groups kind.Global index at
IsItemPlace groups part.TableInitials index at = at ≡ place.Table index
IsItemPlace groups part.GlobalInitials index at = at ≡ place.GlobalInitial index
IsItemPlace groups part.Exports index at = at ≡ place.Export index
IsItemPlace groups part.Start index at = at ≡ place.Start
IsItemPlace groups part.Elements index at = at ≡ place.Element index
IsItemPlace groups part.Datas index at = at ≡ place.Data index

-- `at` is the place of a fault; a run of locals has the place of its body
abbrev pub IsFaultPlace : List Imports → Fault → Place → Type 0
IsFaultPlace groups (fault.Types group) at = at ≡ place.Types group
IsFaultPlace groups (fault.Section item) at = IsItemPlace groups item.part item.index at
IsFaultPlace groups (fault.Local body run) at = at ≡ place.Body body
IsFaultPlace groups (fault.Body body instruction) at = at ≡ place.Instruction body instruction

-- the index of the definition at this position of its section, at most the greatest 64-bit number,
-- which no file reaches
abbrev pub index_after : ExportKind → List Imports → ℕ → ℕ
index_after one groups at = min (imported_count one groups + at) (2 ^ 64 - 1)

-- the index of an item of a part
abbrev pub item_index : List Imports → Part → ℕ → ℕ
item_index groups part.TableInitials at = index_after kind.Table groups at
item_index groups part.GlobalInitials at = index_after kind.Global groups at
item_index groups _ at = at

-- the index of the faulty item
abbrev pub fault_index : List Imports → Fault → ℕ
fault_index groups (fault.Types group) = group
fault_index groups (fault.Section item) = item_index groups item.part item.index
fault_index groups (fault.Local body run) = index_after kind.Func groups body
fault_index groups (fault.Body body instruction) = index_after kind.Func groups body

-- the place of the item that is not judged
abbrev pub gap_place : Unjudged → Place
gap_place unjudged.Types = place.Types 0
gap_place (unjudged.Locals body) = place.Body body

-- the index of the item that is not judged
abbrev pub gap_index : List Imports → Unjudged → ℕ
gap_index groups unjudged.Types = 0
gap_index groups (unjudged.Locals body) = index_after kind.Func groups body
