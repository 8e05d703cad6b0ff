-- Places of accesses that are read: the readings are sound and complete.
use Rattle.smith_binary_read_instr.proofs.Common.{ap, arith, branch, Decodes, first_read, Front, front_as, front_joined, front_same}
use Rattle.smith_binary_read_instr.proofs.Common.{IsMemArg, IsUnsigned, Joined, le-ltb, List, ltb-false, ltb-true, MemArg, Ok, refl, step}
use Rattle.smith_binary_read_instr.proofs.Common.{subst, sym, test_passed, unsigned_decodes, ℕ, ◌++◌, ◌+◌, ◌-◌, ◌<◌, ◌≡◌, ◌≤◌}
use Rattle.std.proofs.Common.{◌^◌}
use Rattle.std.proofs.lemmas.Bool.{lt-ltb}
use Rattle.smith_binary_read_instr.specs.MemoryReadings.{mem_arg, mem_arg_at}

named : (flags index offset : ℕ) (piece : List ℕ) → 64 ≤ flags → flags < 128
    → Joined (IsUnsigned 32 flags) (Joined (IsUnsigned 32 index) (IsUnsigned 64 offset)) piece
    → IsMemArg (mem_arg (flags - 64) index offset) piece
named flags index offset piece low high h =
    let same : flags ≡ flags - 64 + 2 ^ 6 = omega arith in
    IsMemArg.named_memory (omega arith)
    (subst (λ (n : ℕ). Joined (IsUnsigned 32 n) (Joined (IsUnsigned 32 index) (IsUnsigned 64 offset)) piece) same h)

mem_arg_sound : (bytes : List ℕ) (x : MemArg) (rest : List ℕ) → mem_arg_at bytes ≡ Ok (x, rest) → Front (IsMemArg x) bytes rest
unfolding mem_arg_at
mem_arg_sound bytes x rest e = step _ _ _ e (λ flags first e.
    branch _ _ _ _ e (λ low e. step _ _ _ e (λ offset second e.
    front_same IsMemArg (mem_arg flags.0 0 offset.0) x offset.1 rest e
    (front_as (λ piece h. IsMemArg.first_memory refl (ltb-true flags.0 64 low) h)
    (front_joined ((unsigned_decodes 32).sound bytes flags.0 flags.1 first)
    ((unsigned_decodes 64).sound flags.1 offset.0 offset.1 second)))))
    (λ not_low e. test_passed _ _ _ _ e (λ high e. step _ _ _ e (λ index second e. step _ _ _ e (λ offset third e.
    front_same IsMemArg (mem_arg (flags.0 - 64) index.0 offset.0) x offset.1 rest e
    (front_as (λ piece h. named flags.0 index.0 offset.0 piece (ltb-false flags.0 64 not_low) (ltb-true flags.0 128 high) h)
    (front_joined ((unsigned_decodes 32).sound bytes flags.0 flags.1 first)
    (front_joined ((unsigned_decodes 32).sound flags.1 index.0 index.1 second)
    ((unsigned_decodes 64).sound index.1 offset.0 offset.1 third)))))))))

mem_arg_complete : (x : MemArg) (piece rest : List ℕ) → IsMemArg x piece → mem_arg_at (piece ++ rest) ≡ Ok (x, rest)
unfolding mem_arg_at
mem_arg_complete x piece rest (IsMemArg.first_memory m a h) =
    rw (
      first_read x.align rest (unsigned_decodes 32) h,
      lt-ltb x.align 64 a,
      (unsigned_decodes 64).complete x.offset h.second rest h.is_second,
    ) (ap (λ (index : ℕ). Ok (mem_arg x.align index x.offset, rest)) (sym m))
mem_arg_complete x piece rest (IsMemArg.named_memory a h) =
    let same : x.align + 64 - 64 ≡ x.align = omega arith in
    rw (
      first_read (x.align + 64) rest (unsigned_decodes 32) h,
      le-ltb (x.align + 64) 64 (omega arith),
      lt-ltb (x.align + 64) 128 (omega arith),
      first_read x.memory rest (unsigned_decodes 32) h.is_second,
      (unsigned_decodes 64).complete x.offset h.is_second.second rest h.is_second.is_second,
    ) (ap (λ (align : ℕ). Ok (mem_arg align x.memory x.offset, rest)) same)

pub mem_arg_decodes : Decodes IsMemArg mem_arg_at
mem_arg_decodes = record { sound = mem_arg_sound; complete = mem_arg_complete }
