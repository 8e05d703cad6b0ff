-- Custom sections gathered one after the other, as a loop does.
use Rattle.smith_decode.proofs.Common.{arith, eqb, Err, Fails, false, Fault, length, List, Ok, Option, ReadError, refl, Result, suc, sym}
use Rattle.smith_decode.proofs.Common.{true, ℕ, ◌+◌, ◌-◌, ◌<◌, ◌∙◌, ◌≡◌, ◌≤◌}
use Rattle.smith_binary_read.specs.declared.error.ReadError.TheVariants as error
use Rattle.smith_binary_read.specs.Readings.{at_end}
use Rattle.smith_decode.specs.declared.customs.Custom.{Custom}
use Rattle.smith_decode.specs.CustomReadings.{next_section_at, gathered_at}

pub gather_goes_on : (most i : ℕ) (after : Option ℕ) (customs : List Custom) (bytes : List ℕ) (next : Option ℕ) (more : List Custom)
    (rest : List ℕ) (total : Result (List Custom) Fault) → i < most → eqb (length bytes) 0 ≡ false
    → next_section_at after customs bytes ≡ Ok ((next, more), rest) → gathered_at (most - i) after customs bytes ≡ total
    → gathered_at (most - (i + 1)) next more rest ≡ total
unfolding gathered_at
gather_goes_on most i after customs bytes next more rest total below some read so_far =
    let k : most - i ≡ suc (most - (i + 1)) = omega arith in
    let one : gathered_at (most - i) after customs bytes ≡ gathered_at (most - (i + 1)) next more rest = rw (k, some, read) refl in
    sym one ∙ so_far

pub gather_stops : (most i : ℕ) (after : Option ℕ) (customs : List Custom) (bytes : List ℕ) (total : Result (List Custom) Fault) → i < most
    → eqb (length bytes) 0 ≡ true → gathered_at (most - i) after customs bytes ≡ total → total ≡ Ok customs
unfolding gathered_at
gather_stops most i after customs bytes total below none so_far =
    let k : most - i ≡ suc (most - (i + 1)) = omega arith in
    let one : gathered_at (most - i) after customs bytes ≡ Ok customs = rw (k, none) refl in
    sym so_far ∙ one

pub gather_ends : (e : ReadError) (most i : ℕ) (after : Option ℕ) (customs : List Custom) (bytes : List ℕ)
    (total : Result (List Custom) Fault) → i < most → eqb (length bytes) 0 ≡ false → Fails e (next_section_at after customs bytes)
    → gathered_at (most - i) after customs bytes ≡ total → Fails e total
unfolding gathered_at
gather_ends error.Memory most i after customs bytes total below some read so_far = tt
gather_ends (error.Malformed fault) most i after customs bytes total below some read so_far =
    let k : most - i ≡ suc (most - (i + 1)) = omega arith in
    let one : gathered_at (most - i) after customs bytes ≡ Err fault = rw (k, some, read) refl in
    sym so_far ∙ one

pub gather_done : (most i : ℕ) (after : Option ℕ) (customs : List Custom) (bytes : List ℕ) (total : Result (List Custom) Fault)
    → most ≤ i → gathered_at (most - i) after customs bytes ≡ total → total ≡ at_end customs bytes
unfolding gathered_at
gather_done most i after customs bytes total past so_far =
    let k : most - i ≡ 0 = omega arith in
    let one : gathered_at (most - i) after customs bytes ≡ at_end customs bytes = rw k refl in
    sym so_far ∙ one
