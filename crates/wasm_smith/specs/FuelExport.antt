-- The export of a global that counts fuel. Rules of this project.
use Rattle.std.specs.Prelude.{◌≡◌, ℕ, List, Result, Ok, Err, codes}
use Rattle.wasm_smith.specs.Common.{Error, Export, Memory, ModuleParts}
use Rattle.wasm_smith.specs.GlobalExport.{unused_name, with_global}

-- the name of the export: `fuel`, made unused
abbrev pub fuel_name : List Export → List ℕ
fuel_name exports = unused_name (codes "fuel") exports

-- a module with one more export, of the global at `index`
abbrev pub with_fuel_export : ℕ → ModuleParts → ModuleParts
with_fuel_export index m = record m { exports = with_global (codes "fuel") index m.exports }

-- the result: the export is added; or memory runs out, and the module is unchanged
abbrev pub AnswersFuelExport : ℕ → ModuleParts → ModuleParts → Result (Unit {0}) Error → Type 0
AnswersFuelExport index old new (Ok u) = new ≡ with_fuel_export index old
AnswersFuelExport index old new (Err error) = (error ≡ Memory) × (new ≡ old)
