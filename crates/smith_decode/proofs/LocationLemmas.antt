-- Items and sections passed one after the other, as a loop does.
use Rattle.smith_decode.proofs.Common.{arith, content_at, Err, Fails, false, Fault, List, Ok, ReadError, Reading, refl, Result, suc, sym}
use Rattle.smith_decode.proofs.Common.{true, ℕ, ◌+◌, ◌-◌, ◌<◌, ◌∙◌, ◌≡◌, ◌≤◌}
use Rattle.std.proofs.Common.{◌==◌}
use Rattle.smith_binary_read.specs.declared.error.ReadError.TheVariants as error
use Rattle.smith_binary_read.specs.declared.error.Reason.TheVariants.{UnexpectedEnd}
use Rattle.smith_binary_read.specs.Readings.{byte_at, fault_at}
use Rattle.smith_decode.specs.Locations.{after_each_at, section_content_at}

-- items
pub pass_goes_on : {A : Type 0} (read : List ℕ → Reading A) (count i : ℕ) (bytes : List ℕ) (x : A) (after : List ℕ)
    (total : Result (List ℕ) Fault) → i < count → read bytes ≡ Ok (x, after)
    → after_each_at read (count - i) bytes ≡ total → after_each_at read (count - (i + 1)) after ≡ total
unfolding after_each_at
pass_goes_on read count i bytes x after total below is so_far =
    let k : count - i ≡ suc (count - (i + 1)) = omega arith in
    let one : after_each_at read (count - i) bytes ≡ after_each_at read (count - (i + 1)) after = rw (k, is) refl in
    sym one ∙ so_far

pub pass_ends : {A : Type 0} (read : List ℕ → Reading A) (e : ReadError) (count i : ℕ) (bytes : List ℕ) (total : Result (List ℕ) Fault)
    → i < count → Fails e (read bytes) → after_each_at read (count - i) bytes ≡ total → Fails e total
unfolding after_each_at
pass_ends read error.Memory count i bytes total below is so_far = tt
pass_ends read (error.Malformed fault) count i bytes total below is so_far =
    let k : count - i ≡ suc (count - (i + 1)) = omega arith in
    let one : after_each_at read (count - i) bytes ≡ Err fault = rw (k, is) refl in
    sym so_far ∙ one

pub pass_done : {A : Type 0} (read : List ℕ → Reading A) (count i : ℕ) (bytes : List ℕ) (total : Result (List ℕ) Fault) → count ≤ i
    → after_each_at read (count - i) bytes ≡ total → total ≡ Ok bytes
unfolding after_each_at
pass_done read count i bytes total past so_far =
    let k : count - i ≡ 0 = omega arith in
    let one : after_each_at read (count - i) bytes ≡ Ok bytes = rw k refl in
    sym so_far ∙ one

-- sections
pub find_goes_on : (most i id : ℕ) (bytes : List ℕ) (front : ℕ) (after content rest : List ℕ) (total : Result (List ℕ × List ℕ) Fault)
    → i < most → byte_at bytes ≡ Ok (front, after) → content_at after ≡ Ok (content, rest) → (front == id) ≡ false
    → section_content_at (most - i) id bytes ≡ total → section_content_at (most - (i + 1)) id rest ≡ total
unfolding section_content_at
find_goes_on most i id bytes front after content rest total below first second other so_far =
    let k : most - i ≡ suc (most - (i + 1)) = omega arith in
    let one : section_content_at (most - i) id bytes ≡ section_content_at (most - (i + 1)) id rest = rw (k, first, second, other) refl in
    sym one ∙ so_far

pub find_stops : (most i id : ℕ) (bytes : List ℕ) (front : ℕ) (after content rest : List ℕ) (total : Result (List ℕ × List ℕ) Fault)
    → i < most → byte_at bytes ≡ Ok (front, after) → content_at after ≡ Ok (content, rest) → (front == id) ≡ true
    → section_content_at (most - i) id bytes ≡ total → total ≡ Ok (content, rest)
unfolding section_content_at
find_stops most i id bytes front after content rest total below first second same so_far =
    let k : most - i ≡ suc (most - (i + 1)) = omega arith in
    let one : section_content_at (most - i) id bytes ≡ Ok (content, rest) = rw (k, first, second, same) refl in
    sym so_far ∙ one

pub find_fails : (e : ReadError) (most i id : ℕ) (bytes : List ℕ) (total : Result (List ℕ × List ℕ) Fault)
    → i < most → Fails e (byte_at bytes) → section_content_at (most - i) id bytes ≡ total → Fails e total
unfolding section_content_at
find_fails error.Memory most i id bytes total below is so_far = tt
find_fails (error.Malformed fault) most i id bytes total below is so_far =
    let k : most - i ≡ suc (most - (i + 1)) = omega arith in
    let one : section_content_at (most - i) id bytes ≡ Err fault = rw (k, is) refl in
    sym so_far ∙ one

pub find_ends : (e : ReadError) (most i id : ℕ) (bytes : List ℕ) (front : ℕ) (after : List ℕ) (total : Result (List ℕ × List ℕ) Fault)
    → i < most → byte_at bytes ≡ Ok (front, after) → Fails e (content_at after)
    → section_content_at (most - i) id bytes ≡ total → Fails e total
unfolding section_content_at
find_ends error.Memory most i id bytes front after total below first is so_far = tt
find_ends (error.Malformed fault) most i id bytes front after total below first is so_far =
    let k : most - i ≡ suc (most - (i + 1)) = omega arith in
    let one : section_content_at (most - i) id bytes ≡ Err fault = rw (k, first, is) refl in
    sym so_far ∙ one

pub find_done : (most i id : ℕ) (bytes : List ℕ) (total : Result (List ℕ × List ℕ) Fault) → most ≤ i
    → section_content_at (most - i) id bytes ≡ total → total ≡ fault_at UnexpectedEnd bytes
unfolding section_content_at
find_done most i id bytes total past so_far =
    let k : most - i ≡ 0 = omega arith in
    let one : section_content_at (most - i) id bytes ≡ fault_at UnexpectedEnd bytes = rw k refl in
    sym so_far ∙ one
