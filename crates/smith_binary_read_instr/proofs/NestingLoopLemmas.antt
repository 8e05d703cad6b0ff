-- Nested instructions read one after the other, as a loop does.
use Rattle.smith_binary_read_instr.proofs.Common.{[], ap, arith, Bool, false, Instr, List, Ok, Reading, refl, reverse, suc, sym, true}
use Rattle.smith_binary_read_instr.proofs.Common.{with_front, ℕ, ◌++◌, ◌+◌, ◌-◌, ◌<◌, ◌∙◌, ◌∷◌, ◌≡◌, ◌≤◌}
use Rattle.std.proofs.Common.{drop, Err}
use Rattle.std.proofs.Common.{append-nil, length}
use Rattle.std.specs.Prelude.{MatchOption, None, Option, option_to_list, Some}
use Rattle.std.proofs.lemmas.List.{length-reverse, reverse-append, nil_from_length}
use Rattle.smith_binary_read.specs.declared.error.Reason.TheVariants.{UnexpectedEnd}
use Rattle.smith_binary_read.specs.declared.error.ReadError.{ReadError}
use Rattle.smith_binary_read.specs.declared.error.ReadError.TheVariants as error
use Rattle.smith_binary_read.specs.Readings.{Fails, fault_at}
use Rattle.smith_binary_read.proofs.LoopLemmas.{regroup}
use Rattle.smith_binary_read_instr.specs.ExpressionReadings.{is_over, nested_instr_at, nested_at}

-- the innermost block is the last of the list
pub closed : (P : Type 0) (Q : Bool → Type 0) (last : Option Bool) (old new : List Bool) → old ≡ new ++ option_to_list last
    → MatchOption last P Q → (P → length old ≡ 0) → MatchOption last (reverse old ≡ []) (λ has_else. reverse old ≡ has_else ∷ reverse new)
closed P Q None old new is cases none = ap reverse (nil_from_length old (none cases))
closed P Q (Some has_else) old new is cases none = ap reverse is ∙ reverse-append new (has_else ∷ [])

-- an expression ends in open blocks in either order
some_open : (blocks : List Bool) (bytes : List ℕ) → 0 < length blocks → is_over blocks bytes ≡ false
unfolding is_over
some_open [] bytes some = absurd (omega arith)
some_open (block ∷ blocks) bytes some = refl

over_reversed : (blocks : List Bool) (bytes : List ℕ) → is_over (reverse blocks) bytes ≡ is_over blocks bytes
over_reversed [] bytes = refl
over_reversed (block ∷ blocks) bytes =
    some_open (reverse (block ∷ blocks)) bytes (omega (arith, length-reverse (block ∷ blocks)))
    ∙ sym (some_open (block ∷ blocks) bytes (omega arith))

pub over_listed : (blocks slice : List Bool) (bytes : List ℕ) → slice ≡ blocks → is_over (reverse blocks) bytes ≡ is_over slice bytes
over_listed blocks slice bytes same = over_reversed blocks bytes ∙ ap (λ (xs : List Bool). is_over xs bytes) (sym same)

pub nested_go_on : (front : List Instr) (most i : ℕ) (blocks : List Bool) (bytes : List ℕ) (x : Instr) (next : List Bool) (after : List ℕ)
    (total : Reading (List Instr)) → i < most → is_over blocks bytes ≡ false → nested_instr_at blocks bytes ≡ Ok ((x, next), after)
    → with_front front (nested_at (most - i) blocks bytes) ≡ total
    → with_front (front ++ x ∷ []) (nested_at (most - (i + 1)) next after) ≡ total
unfolding nested_at
nested_go_on front most i blocks bytes x next after total below is h so_far =
    let k : most - i ≡ suc (most - (i + 1)) = omega arith in
    let one : with_front front (nested_at (most - i) blocks bytes) ≡ with_front (front ++ x ∷ []) (nested_at (most - (i + 1)) next after) =
    rw (k, is, h) (regroup front x (nested_at (most - (i + 1)) next after)) in
    sym one ∙ so_far

pub nested_stop : (front : List Instr) (most i : ℕ) (blocks : List Bool) (bytes : List ℕ) (total : Reading (List Instr)) → i < most
    → is_over blocks bytes ≡ true → with_front front (nested_at (most - i) blocks bytes) ≡ total → total ≡ Ok (front, drop 1 bytes)
unfolding nested_at
nested_stop front most i blocks bytes total below is so_far =
    let k : most - i ≡ suc (most - (i + 1)) = omega arith in
    let one : with_front front (nested_at (most - i) blocks bytes) ≡ Ok (front, drop 1 bytes) = rw (k, is)
    (ap (λ (all : List Instr). Ok (all, drop 1 bytes)) (append-nil front)) in
    sym so_far ∙ one

pub nested_end : (e : ReadError) (front : List Instr) (most i : ℕ) (blocks : List Bool) (bytes : List ℕ) (total : Reading (List Instr))
    → i < most → is_over blocks bytes ≡ false → Fails e (nested_instr_at blocks bytes)
    → with_front front (nested_at (most - i) blocks bytes) ≡ total → Fails e total
unfolding nested_at
nested_end error.Memory front most i blocks bytes total below is h so_far = tt
nested_end (error.Malformed fault) front most i blocks bytes total below is h so_far =
    let k : most - i ≡ suc (most - (i + 1)) = omega arith in
    let one : with_front front (nested_at (most - i) blocks bytes) ≡ Err fault = rw (k, is, h) refl in
    sym so_far ∙ one

pub nested_past : (front : List Instr) (most i : ℕ) (blocks : List Bool) (bytes : List ℕ) (total : Reading (List Instr)) → most ≤ i
    → with_front front (nested_at (most - i) blocks bytes) ≡ total → total ≡ fault_at UnexpectedEnd bytes
unfolding nested_at
nested_past front most i blocks bytes total past so_far =
    let k : most - i ≡ 0 = omega arith in
    let one : with_front front (nested_at (most - i) blocks bytes) ≡ fault_at UnexpectedEnd bytes = rw k refl in
    sym so_far ∙ one
