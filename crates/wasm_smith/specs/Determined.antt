-- Two modules for the same configuration and the same bytes. A rule of this project.
use Rattle.std.specs.Prelude.{◌≡◌, ℕ, Bool, List, Ok}
use Rattle.wasm_smith.specs.Common.{Config, ModuleParts}
use Rattle.wasm_smith.specs.Generated.{IsGenerated}

-- a configuration and bytes determine the module and the bytes left
abbrev pub ModulesAreDetermined : Type 0
ModulesAreDetermined =
    (distinct : Bool) (given : Config) (bytes left rest : List ℕ) (one other : ModuleParts)
    → IsGenerated distinct given bytes (Ok one) left → IsGenerated distinct given bytes (Ok other) rest → (one ≡ other) × (left ≡ rest)
