-- The bodies of a module: the section Structure, Functions, of the WebAssembly Core Specification 3.0.
use Rattle.std.specs.Prelude.{◌≡◌, ℕ, ◌≤◌, List, length}
use Rattle.wasm_smith.specs.Common.{Code}

-- each of the last `defined` functions has a body with a valid type (Functions)
pub record HasBodies (defined : ℕ) (funcs : List ℕ) (code : List Code) : Type 0 where
  pub each : length code ≡ defined
  pub among : defined ≤ length funcs
