-- Custom sections skipped one after the other, as a loop does.
use Rattle.smith_decode.proofs.Common.{arith, drop, Err, Fails, false, Fault, List, Ok, ReadError, refl, Result, sized_at, suc, sym, true}
use Rattle.smith_decode.proofs.Common.{ℕ, ◌+◌, ◌-◌, ◌<◌, ◌∙◌, ◌≡◌, ◌≤◌}
use Rattle.smith_binary_read.specs.declared.error.ReadError.TheVariants as error
use Rattle.smith_binary_read.specs.Readings.{starts_with}
use Rattle.smith_decode.specs.CustomReadings.{custom_whole, skip_customs}

pub skip_goes_on : (most i : ℕ) (bytes : List ℕ) (custom : Unit {0}) (after : List ℕ) (total : Result (List ℕ) Fault) → i < most
    → starts_with 0 bytes ≡ true → sized_at custom_whole (drop 1 bytes) ≡ Ok (custom, after)
    → skip_customs (most - i) bytes ≡ total → skip_customs (most - (i + 1)) after ≡ total
unfolding skip_customs
skip_goes_on most i bytes custom after total below is read so_far =
    let k : most - i ≡ suc (most - (i + 1)) = omega arith in
    let one : skip_customs (most - i) bytes ≡ skip_customs (most - (i + 1)) after = rw (k, is, read) refl in
    sym one ∙ so_far

pub skip_stops : (most i : ℕ) (bytes : List ℕ) (total : Result (List ℕ) Fault) → i < most → starts_with 0 bytes ≡ false
    → skip_customs (most - i) bytes ≡ total → total ≡ Ok bytes
unfolding skip_customs
skip_stops most i bytes total below is so_far =
    let k : most - i ≡ suc (most - (i + 1)) = omega arith in
    let one : skip_customs (most - i) bytes ≡ Ok bytes = rw (k, is) refl in
    sym so_far ∙ one

pub skip_ends : (e : ReadError) (most i : ℕ) (bytes : List ℕ) (total : Result (List ℕ) Fault) → i < most → starts_with 0 bytes ≡ true
    → Fails e (sized_at custom_whole (drop 1 bytes)) → skip_customs (most - i) bytes ≡ total → Fails e total
unfolding skip_customs
skip_ends error.Memory most i bytes total below is read so_far = tt
skip_ends (error.Malformed fault) most i bytes total below is read so_far =
    let k : most - i ≡ suc (most - (i + 1)) = omega arith in
    let one : skip_customs (most - i) bytes ≡ Err fault = rw (k, is, read) refl in
    sym so_far ∙ one

pub skip_done : (most i : ℕ) (bytes : List ℕ) (total : Result (List ℕ) Fault) → most ≤ i → skip_customs (most - i) bytes ≡ total
    → total ≡ Ok bytes
unfolding skip_customs
skip_done most i bytes total past so_far =
    let k : most - i ≡ 0 = omega arith in
    let one : skip_customs (most - i) bytes ≡ Ok bytes = rw k refl in
    sym so_far ∙ one
