-- A single change of a file.
use Rattle.std.specs.Prelude.{◌≡◌, ℕ, List}
use Rattle.smith_decode.specs.Modules.{IsModuleBinary, syntax_of}
use Rattle.smith_decode.specs.declared.locations.Place.{Place}
use Rattle.smith_decode.specs.declared.modules.Module.{Module}
use Rattle.smith_judge.specs.Files.{IsModuleFile}
use Rattle.smith_wrong_bytes.specs.Splices.{spliced}
use Rattle.smith_wrong_module.specs.Changes.{IsChangedAt}
use Rattle.smith_wrong.specs.declared.changes.Change.{Change}
use Rattle.smith_wrong.specs.declared.changes.Change.TheVariants as change
use Rattle.smith_wrong.specs.declared.families.Family.{Family}
use Rattle.smith_wrong.specs.declared.families.Family.TheVariants as family

-- the file spells a module that differs from the twin's module at one place (Binary Format,
-- Modules)
pub record HasChangedItem (at : Place) (twin file : List ℕ) : Type 0 where
  pub m : Module
  pub read : IsModuleFile twin m
  pub n : Module
  pub differs : IsChangedAt at m n
  pub spelled : IsModuleBinary (syntax_of n) file

-- the file is its twin with this one change (own rule)
abbrev pub IsChangeOf : Change → List ℕ → List ℕ → Type 0
IsChangeOf (change.Item one at) twin file = HasChangedItem at twin file
IsChangeOf (change.Bytes one splice) twin file = file ≡ spliced twin splice

-- the family of a change
abbrev pub family_of : Change → Family
family_of (change.Item one at) = family.Module one
family_of (change.Bytes one splice) = family.Bytes one
