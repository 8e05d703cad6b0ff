-- Accesses to the memories and globals of the contexts of the examples, for any operands and results.
use Rattle.smith_instr_examples.proofs.Common.{◌≡◌, ◌<◌, true, false, List, [], ◌∷◌, Some, refl, arith, ValType, MemArg, GlobalType}
use Rattle.smith_instr_examples.proofs.Common.{IsAccess, To, narrow_memory, wide_memory}

pub narrow_access : (at : MemArg) → at.memory ≡ 0 → at.offset < 4294967296 → IsAccess (narrow_memory ∷ wide_memory ∷ []) at false
narrow_access at is low = record { memory = narrow_memory; there = rw is refl; addressed = refl; offset = omega arith }

pub wide_access : (at : MemArg) → at.memory ≡ 1 → at.offset < 18446744073709551616 → IsAccess (narrow_memory ∷ wide_memory ∷ []) at true
wide_access at is low = record { memory = wide_memory; there = rw is refl; addressed = refl; offset = omega arith }

module _ (operands results : List ValType) (g : GlobalType) where
  pub global_read : To operands results [] (g.val_type ∷ []) → (global : GlobalType) × (Some g ≡ Some global) × To operands results []
      (global.val_type ∷ [])
  global_read is = (g, refl, is)

  pub global_written : g.mutable ≡ true → To operands results (g.val_type ∷ []) [] → (global : GlobalType) × (Some g ≡ Some global)
      × (global.mutable ≡ true) × To operands results (global.val_type ∷ []) []
  global_written mutable is = (g, refl, mutable, is)

pub ruleset accesses = (narrow_access, wide_access, global_read, global_written)
