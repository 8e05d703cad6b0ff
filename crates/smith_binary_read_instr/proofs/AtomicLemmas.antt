-- Atomic instructions that are read: the readings are sound and complete.
use Rattle.smith_binary_read_instr.proofs.Common.{ap, arith, Bool, branch, eqb, eqb-true, first_read, Front, front_as, front_same, Instr}
use Rattle.smith_binary_read_instr.proofs.Common.{IsByte, IsInstr, IsMemArg, IsPrefixed, Joined, le-ltb, List, mapped_at, MemArg, ne_eqb}
use Rattle.smith_binary_read_instr.proofs.Common.{None, Ok, Option, prefix_apart, Reading, refl, Some, step, subst, sym, tag_front}
use Rattle.smith_binary_read_instr.proofs.Common.{tagged_read, test_passed, true, unsigned_decodes, ℕ, ◌++◌, ◌+◌, ◌<◌, ◌∙◌, ◌∷◌, ◌≡◌, ◌≤◌}
use Rattle.smith_instr.specs.declared.aggregate.AggregateInstr.TheVariants as aggregate
use Rattle.smith_instr.specs.declared.atomic.AtomicAccess.{AtomicAccess}
use Rattle.smith_instr.specs.declared.atomic.AtomicAccess.TheVariants as atomic
use Rattle.smith_instr.specs.declared.atomic.AtomicUpdate.{AtomicUpdate}
use Rattle.smith_instr.specs.declared.atomic.AtomicUpdate.TheVariants as update
use Rattle.smith_instr.specs.declared.atomic.AtomicWidth.{AtomicWidth}
use Rattle.smith_instr.specs.declared.atomic.AtomicWidth.TheVariants as width
use Rattle.smith_instr.specs.declared.instr.Instr.TheVariants as instr
use Rattle.smith_binary_instr.specs.Atomic.{atomic_number, update_number, width_number}
use Rattle.smith_binary_read_instr.specs.AtomicReadings.{width_of, update_of, access_of, atomic_of, atomic_or, fence_at, atomic_at}
use Rattle.smith_binary_read_instr.specs.InstrReadings.{prefixed_at, instr_at}
use Rattle.smith_binary_read_instr.specs.MemoryReadings.{mem_arg_at}
use Rattle.smith_binary_read_instr.proofs.MemArgLemmas.{mem_arg_decodes}
use Rattle.smith_binary_read_instr.proofs.RowLemmas.{at_least, in_range, After, number_front, after_mapped, after_nothing, number_before}
use Rattle.smith_binary_read_instr.proofs.RowLemmas.{numbered_complete}

-- the access of a number, if there is one
access_test : Option AtomicAccess → ℕ → Bool
access_test None number = true
access_test (Some access) number = eqb number (atomic_number access)

low_tested : (number : ℕ) → number < 0x4F → access_test (atomic_of number) number ≡ true
unfolding access_test atomic_of access_of update_of width_of
low_tested number high = in_range (λ n. access_test (atomic_of n) n) 0x4F 0 number refl (omega arith) (omega arith)

none_high : (number : ℕ) → 0x4F ≤ number → atomic_of number ≡ None
unfolding atomic_of access_of
none_high number low = rw (
  ne_eqb number 0 (λ e. omega arith),
  ne_eqb number 1 (λ e. omega arith),
  ne_eqb number 2 (λ e. omega arith),
  le-ltb number 0x10 (omega arith),
  le-ltb number 0x17 (omega arith),
  le-ltb number 0x1E (omega arith),
  le-ltb number 0x48 (omega arith),
  le-ltb number 0x4F low,
) refl

atomic_is : (number : ℕ) (access : AtomicAccess) → atomic_of number ≡ Some access → eqb number (atomic_number access) ≡ true
unfolding access_test
atomic_is number access is = at_least number 0x4F _ refl
    (λ high. absurd (let never = sym (none_high number high) ∙ is in cc))
    (λ low. ap (λ o. access_test o number) (sym is) ∙ low_tested number (omega arith))

atomic_branch : {G : Type 0} (o : Option AtomicAccess) (bytes : List ℕ) (other : Reading Instr) (x : Instr) (after : List ℕ)
    → atomic_or o bytes other ≡ Ok (x, after)
    → ((access : AtomicAccess) → o ≡ Some access → mapped_at (instr.Atomic access) mem_arg_at bytes ≡ Ok (x, after) → G)
    → (other ≡ Ok (x, after) → G) → G
atomic_branch (Some access) bytes other x after e if_some if_none = if_some access refl e
atomic_branch None bytes other x after e if_some if_none = if_none e

fence_sound : (number : ℕ) (bytes : List ℕ) (x : Instr) (rest : List ℕ) → eqb number 3 ≡ true → fence_at bytes ≡ Ok (x, rest)
    → Front (After 0xFE number (IsInstr x)) bytes rest
unfolding fence_at
fence_sound number bytes x rest is e =
    let same : number ≡ 3 = eqb-true number 3 is in
    step _ _ _ e (λ byte first e. test_passed _ _ _ _ e (λ zero e.
    front_same (λ z. After 0xFE number (IsInstr z)) instr.AtomicFence x byte.1 rest e
    (front_as (λ piece h front one. subst (λ n. Joined (IsPrefixed 0xFE n) (IsByte 0) (0xFE ∷ (front ++ piece))) same
    (number_before 0xFE number front piece one h)) (tag_front 0 bytes byte first zero))))

pub atomic_sound : (bytes : List ℕ) (x : Instr) (rest : List ℕ) → atomic_at bytes ≡ Ok (x, rest)
    → Front (λ piece. IsInstr x (0xFE ∷ piece)) bytes rest
unfolding atomic_at
atomic_sound bytes x rest e = step _ _ _ e (λ number first e.
    let front = (unsigned_decodes 32).sound bytes number.0 number.1 first in
    number_front (IsInstr x) 0xFE number.0 front (atomic_branch _ _ _ _ _ e
    (λ access is e. after_mapped IsInstr (instr.Atomic access) 0xFE (atomic_number access) number.0 mem_arg_decodes
    (λ y piece h. h) (atomic_is number.0 access is) number.1 x rest e) (λ e.
    branch _ _ _ _ e (λ is e. fence_sound number.0 number.1 x rest is e) (λ no_fence e.
    test_passed _ _ _ _ e (λ is e. after_nothing IsInstr 0xFE number.0 (instr.Aggregate aggregate.RefI31Shared) number.1 x rest
    (λ piece h. subst (λ n. IsPrefixed 0xFE n piece) (eqb-true number.0 114 is) h) e)))))

-- what is spelled is read
load_again : (size : AtomicWidth) → atomic_of (0x10 + width_number size) ≡ Some (atomic.Load size)
unfolding atomic_of access_of width_of
load_again width.I32 = refl
load_again size = refl

store_again : (size : AtomicWidth) → atomic_of (0x17 + width_number size) ≡ Some (atomic.Store size)
unfolding atomic_of access_of width_of
store_again width.I32 = refl
store_again size = refl

exchange_again : (size : AtomicWidth) → atomic_of (0x48 + width_number size) ≡ Some (atomic.CompareExchange size)
unfolding atomic_of access_of width_of
exchange_again width.I32 = refl
exchange_again size = refl

update_again : (kind : AtomicUpdate) (size : AtomicWidth)
    → atomic_of (update_number kind + width_number size) ≡ Some (atomic.Update kind size)
unfolding atomic_of access_of update_of width_of
update_again update.Add width.I32 = refl
update_again update.Add size = refl
update_again update.Sub width.I32 = refl
update_again update.Sub size = refl
update_again update.And width.I32 = refl
update_again update.And size = refl
update_again update.Or width.I32 = refl
update_again update.Or size = refl
update_again update.Xor width.I32 = refl
update_again update.Xor size = refl
update_again update.Exchange width.I32 = refl
update_again update.Exchange size = refl

access_again : (access : AtomicAccess) → atomic_of (atomic_number access) ≡ Some access
unfolding atomic_of
access_again atomic.Notify = refl
access_again atomic.Wait32 = refl
access_again atomic.Wait64 = refl
access_again (atomic.Load size) = load_again size
access_again (atomic.Store size) = store_again size
access_again (atomic.Update kind size) = update_again kind size
access_again (atomic.CompareExchange size) = exchange_again size

pub atomic_complete : (access : AtomicAccess) (at : MemArg) (piece rest : List ℕ)
    → Joined (IsPrefixed 0xFE (atomic_number access)) (IsMemArg at) piece → instr_at (piece ++ rest) ≡ Ok (instr.Atomic access at, rest)
unfolding instr_at prefixed_at atomic_at
atomic_complete access at piece rest h =
    numbered_complete 0xFE (atomic_number access) (instr.Atomic access) mem_arg_decodes
    (λ bytes more after y number part. rw (number, access_again access, part) refl) at piece rest h

pub fence_complete : (piece rest : List ℕ) → Joined (IsPrefixed 0xFE 3) (IsByte 0x00) piece
    → instr_at (piece ++ rest) ≡ Ok (instr.AtomicFence, rest)
unfolding instr_at prefixed_at atomic_at atomic_of access_of fence_at
fence_complete piece rest h =
    let g = prefix_apart 0xFE 3 h in
    let zero : g.is_second.second ++ rest ≡ 0 ∷ rest = ap (λ (bytes : List ℕ). bytes ++ rest) g.is_second.is_second in
    ap instr_at (tagged_read 0xFE rest g) ∙ rw (first_read 3 rest (unsigned_decodes 32) g.is_second, zero) refl
