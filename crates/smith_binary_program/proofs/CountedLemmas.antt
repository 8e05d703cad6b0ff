-- Instructions with the checks of counters, as they are written.
use Rattle.smith_binary_program.proofs.Common.{[], All-from_recursion, Any, ap, BlockType, check_of, checked_after, checks_of, drop, Each}
use Rattle.smith_binary_program.proofs.Common.{flat_map, get_or, Instr, IsInstrsWrittenIn, Joined, joined_written, Leads, length, List}
use Rattle.smith_binary_program.proofs.Common.{refl, subst, sym, ℕ, ◌++◌, ◌+◌, ◌<◌, ◌∙◌, ◌∷◌, ◌≡◌, ◌≤◌}
use Rattle.std.proofs.Common.{Err, Ok, Result}
use Rattle.std.proofs.Common.{add-one, append_assoc, append-nil, drop-cons}
use Rattle.std.specs.Prelude.{IfErr}
use Rattle.std.specs.List.{AllByRecursion}
use Rattle.std.proofs.Math.ListN.{drop_of_length-le}
use Rattle.std.proofs.lemmas.List.{nil_from_length}
use Rattle.smith_binary.specs.Spelling.{Spelling}
use Rattle.smith_binary.specs.declared.error.EncodeError.{EncodeError}
use Rattle.smith_binary.specs.declared.error.EncodeError.TheVariants.{Memory, TooLong}
use Rattle.smith_binary.specs.Faults.{IsFault}
use Rattle.smith_binary.specs.Pieces.{Output, Writes}
use Rattle.smith_binary.proofs.WrittenLemmas.{nothing_written, written_as}
use Rattle.smith_instr.specs.declared.instr.Instr.TheVariants as instr
use Rattle.smith_binary_instr.specs.Instructions.{IsInstrWrittenIn}
use Rattle.smith_binary_instr.specs.Long.{IsLongInstr}

-- items in order, then others
pub each_joined : {A : Type 0} (Item : A → List ℕ → Type 0) (xs ys : List A) (piece : List ℕ) → Joined (Each Item xs) (Each Item ys) piece
    → Each Item (xs ++ ys) piece
unfolding Each
each_joined Item [] ys piece h = subst (Each Item ys) (sym (h.whole ∙ ap (λ (bytes : List ℕ). bytes ++ h.second) h.is_first)) h.is_second
each_joined Item (x ∷ xs) ys piece h = record {
  first = h.is_first.first;
  second = h.is_first.second ++ h.second;
  is_first = h.is_first.is_first;
  is_second = each_joined Item xs ys (h.is_first.second ++ h.second)
      (record { first = h.is_first.second; second = h.second; is_first = h.is_first.is_second; is_second = h.is_second; whole = refl });
  whole = h.whole ∙ ap (λ (bytes : List ℕ). bytes ++ h.second) h.is_first.whole ∙ append_assoc h.is_first.first h.is_first.second h.second;
}

-- one item
pub each_one : {A : Type 0} (Item : A → List ℕ → Type 0) (x : A) (piece : List ℕ) → Item x piece → Each Item (x ∷ []) piece
unfolding Each
each_one Item x piece h = record { first = piece; second = []; is_first = h; is_second = refl; whole = sym (append-nil piece) }

-- instructions, then others
pub instrs_written : {old between new : Output} (xs ys : List Instr) → Writes (λ s. IsInstrsWrittenIn s xs) old between
    → Writes (λ s. IsInstrsWrittenIn s ys) between new → Writes (λ s. IsInstrsWrittenIn s (xs ++ ys)) old new
instrs_written xs ys one other = written_as (λ s. each_joined (IsInstrWrittenIn s) xs ys) (joined_written one other)

pub one_instr : {old new : Output} (x : Instr) → Writes (λ s. IsInstrWrittenIn s x) old new → Writes (λ s. IsInstrsWrittenIn s (x ∷ [])) old
    new
one_instr x one = written_as (λ s. each_one (IsInstrWrittenIn s) x) one

-- no instruction of a check is too long
none_long : (xs : List Instr) → AllByRecursion (λ (x : Instr). IsLongInstr x → ⊥) xs → Any IsLongInstr xs → ⊥
none_long xs none (k, x, inside, is, long) = All-from_recursion (λ (x : Instr). IsLongInstr x → ⊥) xs none k x inside
    (subst IsLongInstr (sym is) long)

check_short : (counter : ℕ) → Any IsLongInstr (check_of counter) → ⊥
check_short counter =
    none_long (check_of counter) (λ h. h, (λ h. h, (λ h. h, (λ h. h, (λ h. h, (λ h. h, (λ h. h, (λ h. h, (λ h. h, tt)))))))))

is_memory : {P : Type 0} (e : EncodeError) → (P → ⊥) → IsFault P e → e ≡ Memory
is_memory Memory none h = refl
is_memory TooLong none h = absurd (none h)

memory_alone : {A P : Type 0} (r : Result A EncodeError) → (P → ⊥) → IfErr r (IsFault P) → IfErr r (λ (e : EncodeError). e ≡ Memory)
memory_alone (Ok x) none h = tt
memory_alone (Err e) none h = is_memory e none h

pub check_memory : {A : Type 0} (counter : ℕ) (r : Result A EncodeError) → IfErr r (IsFault (Any IsLongInstr (check_of counter)))
    → IfErr r (λ (e : EncodeError). e ≡ Memory)
check_memory counter r h = memory_alone r (check_short counter) h

-- the last counter's check comes first
checks_last : (counters : List ℕ) (last : ℕ) → check_of last ++ checks_of counters ≡ checks_of (counters ++ last ∷ [])
checks_last [] last = append-nil (check_of last)
checks_last (counter ∷ counters) last =
    sym (append_assoc (check_of last) (checks_of counters) (check_of counter)) ∙ ap (λ (xs : List Instr). xs ++ check_of counter)
    (checks_last counters last)

-- one more check
pub checks_step : {Whole : Spelling → List ℕ → Type 0} {start now later : Output} (counters before : List ℕ) (last : ℕ)
    → counters ≡ before ++ last ∷ [] → Leads (λ s. IsInstrsWrittenIn s (checks_of counters)) Whole start now
    → Writes (λ s. IsInstrsWrittenIn s (check_of last)) now later → Leads (λ s. IsInstrsWrittenIn s (checks_of before)) Whole start later
checks_step {now = now} counters before last split so_far one =
    let all : check_of last ++ checks_of before ≡ checks_of counters = checks_last before last ∙ ap (λ (cs : List ℕ). checks_of cs)
    (sym split) in
    record {
      to = λ final more. so_far.to final (subst (λ (xs : List Instr). Writes (λ s. IsInstrsWrittenIn s xs) now final) all
          (instrs_written (check_of last) (checks_of before) one more));
    }

-- no check is left
pub checks_end : {Whole : Spelling → List ℕ → Type 0} {start now : Output} (counters : List ℕ) → length counters ≡ 0
    → Leads (λ s. IsInstrsWrittenIn s (checks_of counters)) Whole start now → Writes Whole start now
unfolding Each
checks_end {now = now} counters none so_far = so_far.to now (nothing_written (λ s. rw (nil_from_length counters none) refl))

-- an instruction that starts no loop
pub no_loop : (counters : List ℕ) (instruction : Instr) → ((ty : BlockType) → instruction ≡ instr.Loop ty → ⊥)
    → checked_after counters instruction ≡ instruction ∷ []
no_loop counters (instr.Loop ty) none = absurd (none ty refl)
no_loop counters _ none = refl

-- one more instruction, with its checks
pub checked_step : {Whole : Spelling → List ℕ → Type 0} {start now later : Output} (counters : List ℕ) (i : ℕ) (xs : List Instr)
    (x d : Instr) → i < length xs → x ≡ get_or xs i d
    → Leads (λ s. IsInstrsWrittenIn s (flat_map (checked_after counters) (drop i xs))) Whole start now
    → Writes (λ s. IsInstrsWrittenIn s (checked_after counters x)) now later
    → Leads (λ s. IsInstrsWrittenIn s (flat_map (checked_after counters) (drop (i + 1) xs))) Whole start later
checked_step counters i xs x d inside read so_far one =
    let f = checked_after counters in
    let next : drop i xs ≡ x ∷ drop (i + 1) xs = rw (read, add-one) (drop-cons xs i d inside) in
    record { to = λ final more. so_far.to final (rw next (instrs_written (f x) (flat_map f (drop (i + 1) xs)) one more)) }

-- no instruction is left
pub checked_end : {Whole : Spelling → List ℕ → Type 0} {start now : Output} (counters : List ℕ) (i : ℕ) (xs : List Instr) → length xs ≤ i
    → Leads (λ s. IsInstrsWrittenIn s (flat_map (checked_after counters) (drop i xs))) Whole start now → Writes Whole start now
unfolding Each
checked_end {now = now} counters i xs past so_far =
    let none : drop i xs ≡ [] = drop_of_length-le xs past in
    so_far.to now (nothing_written (λ s. rw none refl))
