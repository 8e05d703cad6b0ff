-- Lemmas for the examples of sources that begin with spelled lists.
use Rattle.wasm_smith_examples.proofs.Common.{List, ℕ, [], ◌∷◌, ◌++◌, refl, digit_count, default_config, one_function_type, function_bytes}
use Rattle.wasm_smith_examples.proofs.Common.{function_spellable, one_function_spelled, BeginsWithMember}

pub function_first : (remaining : List ℕ) → BeginsWithMember default_config one_function_type (0 ∷ []) (function_bytes ++ remaining)
    remaining
unfolding digit_count
function_first remaining = record {
  spellable = function_spellable;
  piece = function_bytes;
  spelled = one_function_spelled 1 1 1 1 0 0 0 0 0 0 1 0 refl (record { digits = refl; read = refl }) refl
      (record { digits = refl; read = refl }) refl refl refl refl refl refl refl;
  parts = refl;
}
