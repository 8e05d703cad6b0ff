-- The export of a counter of fuel has a new name, and a valid module stays valid with it.
use Rattle.wasm_smith.proofs.Common.{arith, codes, Err, Error, Export, false, is_exported, IsValid, length, List, ModuleParts, Ok, Result}
use Rattle.wasm_smith.proofs.Common.{subst, sym, ℕ, ◌<◌, ◌≡◌}
use Rattle.wasm_smith.specs.FuelExport.{AnswersFuelExport, fuel_name}
use Rattle.wasm_smith.proofs.GlobalExportLemmas.{exporting_valid, unused_is_new}

pub fuel_is_new : (exports : List Export) → is_exported exports (fuel_name exports) ≡ false
fuel_is_new exports = unused_is_new (codes "fuel") exports (omega arith)

-- a valid module stays valid, whatever the result
pub exported_valid : (index : ℕ) (old new : ModuleParts) (result : Result (Unit {0}) Error) → AnswersFuelExport index old new result
    → index < length old.globals → IsValid old → IsValid new
exported_valid index old new (Ok u) added within valid =
    subst IsValid (sym added) (exporting_valid (codes "fuel") index old (omega arith) within valid)
exported_valid index old new (Err error) (memory, kept) within valid = subst IsValid (sym kept) valid
