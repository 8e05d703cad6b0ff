-- Readings of rows of instructions: tests of each number in a range, bytes in a range, and what is after a prefix and a number.
use Rattle.smith_binary_read_instr.proofs.Common.{[], ap, arith, Bool, Decodes, eqb, eqb-true, false, first_read, Front, front_as}
use Rattle.smith_binary_read_instr.proofs.Common.{front_joined, front_same, Instr, IsByte, IsInstr, IsPrefixed, IsUnsigned, item_holds}
use Rattle.smith_binary_read_instr.proofs.Common.{Joined, List, ltb-false, ltb-true, mapped_at, Ok, prefix_alone, prefix_apart, Reading}
use Rattle.smith_binary_read_instr.proofs.Common.{refl, Some, step, subst, suc, sym, tagged_read, true, unsigned_at, unsigned_decodes, zero}
use Rattle.smith_binary_read_instr.proofs.Common.{ℕ, ◌++◌, ◌+◌, ◌<◌, ◌∙◌, ◌∷◌, ◌≡◌, ◌≤◌}
use Rattle.std.proofs.Common.{ltb, ◌&&◌}
use Rattle.std.proofs.Common.{append-nil, append_assoc}
use Rattle.std.specs.List.{AllByRecursion}
use Rattle.std.proofs.lemmas.Bool.{and_parts, eq-eqb, eqb-false}
use Rattle.smith_binary_read.specs.Readings.{byte_at, joined_at}
use Rattle.smith_binary_read.specs.Choices.{item_of}
use Rattle.smith_binary_read.proofs.ReadLemmas.{byte_sound, item_and_rest}
use Rattle.smith_binary_read_instr.specs.InstrReadings.{instr_at}

-- whether each number from `first` on passes a test
abbrev pub all_from : ℕ → ℕ → (ℕ → Bool) → Bool
all_from first zero test = true
all_from first (suc count) test = test first && all_from (first + 1) count test

-- two ways to be at least a number
pub at_least : {G : Type 0} (k n : ℕ) (b : Bool) → ltb k n ≡ b → (n ≤ k → G) → (k + 1 ≤ n → G) → G
at_least k n true e same later = later (let below : k < n = ltb-true k n e in omega arith)
at_least k n false e same later = same (ltb-false k n e)

pub in_range : (test : ℕ → Bool) (count first n : ℕ) → all_from first count test ≡ true → first ≤ n → n < first + count → test n ≡ true
in_range test zero first n all low high = absurd (omega arith)
in_range test (suc count) first n all low high =
    let both = and_parts (test first) (all_from (first + 1) count test) all in
    at_least first n _ refl
    (λ above. let same : first ≡ n = omega arith in subst (λ (k : ℕ). test k ≡ true) same both.0)
    (λ later. in_range test count (first + 1) n both.1 later (omega arith))

-- what holds of each number from `first` on
abbrev pub AllFrom : (ℕ → Type 0) → ℕ → ℕ → Type 0
AllFrom P first zero = Unit {0}
AllFrom P first (suc count) = P first × AllFrom P (first + 1) count

pub each_in_range : (P : ℕ → Type 0) (count first n : ℕ) → AllFrom P first count → first ≤ n → n < first + count → P n
each_in_range P zero first n all low high = absurd (omega arith)
each_in_range P (suc count) first n all low high = at_least first n _ refl
    (λ above. let same : first ≡ n = omega arith in subst P same all.0)
    (λ later. each_in_range P count (first + 1) n all.1 later (omega arith))

-- a number that is at least another one and is not it, and one below the next
pub above : (n k : ℕ) → k ≤ n → eqb n k ≡ false → k + 1 ≤ n
above n k low apart = at_least k n _ refl
    (λ high. let same : n ≡ k = omega arith in absurd (eqb-false n k apart same))
    (λ later. later)

pub exactly : (n k : ℕ) → k ≤ n → n < k + 1 → eqb n k ≡ true
exactly n k low high = eq-eqb n k (omega arith)

-- the byte at the front of bytes is in a range
abbrev pub Within : ℕ → ℕ → List ℕ → Type 0
Within low high bytes = (byte : ℕ × List ℕ) → byte_at bytes ≡ Ok byte → (low ≤ byte.0) × (byte.0 < high)

pub within : (low high : ℕ) (bytes : List ℕ) (byte : ℕ × List ℕ) → byte_at bytes ≡ Ok byte → low ≤ byte.0 → byte.0 < high
    → Within low high bytes
within low high bytes byte first least below other again =
    let same : byte ≡ other = let e = sym first ∙ again in cc in
    (subst (λ (b : ℕ × List ℕ). low ≤ b.0) same least, subst (λ (b : ℕ × List ℕ). b.0 < high) same below)

-- an instruction of a byte, in a table
pub row_front : (rows : List (ℕ × Instr)) → AllByRecursion (λ (row : ℕ × Instr). IsInstr row.1 (row.0 ∷ [])) rows
    → (bytes : List ℕ) (byte : ℕ × List ℕ) (x : Instr) (rest : List ℕ) → byte_at bytes ≡ Ok byte → item_of rows byte.0 ≡ Some x
    → byte.1 ≡ rest → Front (IsInstr x) bytes rest
row_front rows all bytes byte x rest first is after =
    let form : IsInstr x (byte.0 ∷ []) = item_holds (λ b x. IsInstr x (b ∷ [])) rows all byte.0 x is in
    subst (Front (IsInstr x) bytes) after (front_as (λ piece h. subst (IsInstr x) (sym h) form) (byte_sound bytes byte.0 byte.1 first).0)

-- a byte, then a piece
pub tag_before : {P : List ℕ → Type 0} (tag : ℕ) (piece : List ℕ) → P piece → Joined (IsByte tag) P (tag ∷ piece)
tag_before tag piece h = record { first = tag ∷ []; second = piece; is_first = refl; is_second = h; whole = refl }

-- two parts of an instruction
pub joined_sound : {A B C : Type 0} {P : A → List ℕ → Type 0} {Q : B → List ℕ → Type 0} {p : List ℕ → Reading A} {q : List ℕ → Reading B}
    (R : C → List ℕ → Type 0) (make : A → B → C) → Decodes P p → Decodes Q q
    → ((y : A) (z : B) (piece : List ℕ) → Joined (P y) (Q z) piece → R (make y z) piece)
    → (bytes : List ℕ) (x : C) (rest : List ℕ) → joined_at make p q bytes ≡ Ok (x, rest) → Front (R x) bytes rest
joined_sound R make p_reads q_reads form bytes x rest e = step _ _ _ e (λ y first e. step _ _ _ e (λ z second e.
    front_same R (make y.0 z.0) x z.1 rest e (front_as (form y.0 z.0)
    (front_joined (p_reads.sound bytes y.0 y.1 first) (q_reads.sound y.1 z.0 z.1 second)))))

-- an item of another that is read
pub mapped_front : {A B : Type 0} (P : A → List ℕ → Type 0) (Q : B → List ℕ → Type 0) (make : A → B) (read : List ℕ → Reading A)
    (bytes : List ℕ) → ((y : A) (rest : List ℕ) → read bytes ≡ Ok (y, rest) → Front (P y) bytes rest)
    → ((y : A) (piece : List ℕ) → P y piece → Q (make y) piece)
    → (x : B) (rest : List ℕ) → mapped_at make read bytes ≡ Ok (x, rest) → Front (Q x) bytes rest
mapped_front P Q make read bytes sound form x rest e = step _ _ _ e (λ y first e.
    front_same Q (make y.0) x y.1 rest e (front_as (form y.0) (sound y.0 y.1 first)))

-- a piece after a prefix and a number
abbrev pub After : ℕ → ℕ → (List ℕ → Type 0) → List ℕ → Type 0
After prefix number Spells piece = (front : List ℕ) → IsUnsigned 32 number front → Spells (prefix ∷ (front ++ piece))

pub number_front : (P : List ℕ → Type 0) {bytes between rest : List ℕ} (prefix number : ℕ) → Front (IsUnsigned 32 number) bytes between
    → Front (After prefix number P) between rest → Front (λ piece. P (prefix ∷ piece)) bytes rest
number_front P {rest = rest} prefix number one two = record {
  piece = one.piece ++ two.piece;
  spelled = two.spelled one.piece one.spelled;
  whole = one.whole ∙ ap (λ (more : List ℕ). one.piece ++ more) two.whole ∙ sym (append_assoc one.piece two.piece rest);
}

-- a prefix and a number, then a piece
pub number_before : {P : List ℕ → Type 0} (prefix number : ℕ) (front piece : List ℕ) → IsUnsigned 32 number front → P piece
    → Joined (IsPrefixed prefix number) P (prefix ∷ (front ++ piece))
number_before prefix number front piece one h = record {
  first = prefix ∷ front;
  second = piece;
  is_first = prefix_alone prefix number front one;
  is_second = h;
  whole = refl;
}

pub after_mapped : {A B : Type 0} {P : A → List ℕ → Type 0} {p : List ℕ → Reading A} (Q : B → List ℕ → Type 0) (make : A → B)
    (prefix k number : ℕ) → Decodes P p → ((y : A) (piece : List ℕ) → Joined (IsPrefixed prefix k) (P y) piece → Q (make y) piece)
    → eqb number k ≡ true → (bytes : List ℕ) (x : B) (rest : List ℕ) → mapped_at make p bytes ≡ Ok (x, rest)
    → Front (After prefix number (Q x)) bytes rest
after_mapped {P = P} Q make prefix k number p_reads form is bytes x rest e =
    let same : number ≡ k = eqb-true number k is in
    step _ _ _ e (λ y first e. front_same (λ z. After prefix number (Q z)) (make y.0) x y.1 rest e
    (front_as (λ piece h front one. form y.0 (prefix ∷ (front ++ piece))
    (number_before prefix k front piece (subst (λ (n : ℕ). IsUnsigned 32 n front) same one) h)) (p_reads.sound bytes y.0 y.1 first)))

-- no more after a number
pub after_nothing : {A : Type 0} (Q : A → List ℕ → Type 0) (prefix number : ℕ) (y : A) (bytes : List ℕ) (x : A) (rest : List ℕ)
    → ((piece : List ℕ) → IsPrefixed prefix number piece → Q y piece) → item_and_rest y bytes ≡ item_and_rest x rest
    → Front (After prefix number (Q x)) bytes rest
after_nothing Q prefix number y bytes x rest form e = front_same (λ z. After prefix number (Q z)) y x bytes rest e (record {
  piece = [];
  spelled = λ front one.
      let h = form (prefix ∷ front) (prefix_alone prefix number front one) in
      subst (λ (more : List ℕ). Q y (prefix ∷ more)) (sym (append-nil front)) h;
  whole = refl;
})

-- what is spelled is read: an instruction of a byte and a part
pub tagged_complete : {A : Type 0} {P : A → List ℕ → Type 0} {p : List ℕ → Reading A} (tag : ℕ) (make : A → Instr) → Decodes P p
    → ((bytes : List ℕ) → instr_at (tag ∷ bytes) ≡ mapped_at make p bytes) → (y : A) (piece rest : List ℕ)
    → Joined (IsByte tag) (P y) piece → instr_at (piece ++ rest) ≡ Ok (make y, rest)
tagged_complete tag make p_reads at y piece rest h =
    ap instr_at (tagged_read tag rest h) ∙ at (h.second ++ rest) ∙ rw (p_reads.complete y h.second rest h.is_second) refl

-- of a byte and two parts
pub joined_complete : {A B : Type 0} {P : A → List ℕ → Type 0} {Q : B → List ℕ → Type 0} {p : List ℕ → Reading A} {q : List ℕ → Reading B}
    (tag : ℕ) (make : A → B → Instr) → Decodes P p → Decodes Q q
    → ((bytes : List ℕ) → instr_at (tag ∷ bytes) ≡ joined_at make p q bytes) → (y : A) (z : B) (piece rest : List ℕ)
    → Joined (IsByte tag) (Joined (P y) (Q z)) piece → instr_at (piece ++ rest) ≡ Ok (make y z, rest)
joined_complete tag make p_reads q_reads at y z piece rest h =
    ap instr_at (tagged_read tag rest h) ∙ at (h.second ++ rest)
    ∙ rw (first_read y rest p_reads h.is_second, q_reads.complete z h.is_second.second rest h.is_second.is_second) refl

-- of a prefix and a number
pub number_complete : (prefix number : ℕ) (x : Instr)
    → ((bytes more : List ℕ) → unsigned_at 32 bytes ≡ Ok (number, more) → instr_at (prefix ∷ bytes) ≡ Ok (x, more))
    → (piece rest : List ℕ) → IsPrefixed prefix number piece → instr_at (piece ++ rest) ≡ Ok (x, rest)
number_complete prefix number x at piece rest h =
    ap instr_at (tagged_read prefix rest h)
    ∙ at (h.second ++ rest) rest ((unsigned_decodes 32).complete number h.second rest h.is_second)

-- of a prefix, a number and a part
pub numbered_complete : {A : Type 0} {P : A → List ℕ → Type 0} {p : List ℕ → Reading A} (prefix number : ℕ) (make : A → Instr) → Decodes P p
    → ((bytes more after : List ℕ) (y : A) → unsigned_at 32 bytes ≡ Ok (number, more) → p more ≡ Ok (y, after)
    → instr_at (prefix ∷ bytes) ≡ Ok (make y, after))
    → (y : A) (piece rest : List ℕ) → Joined (IsPrefixed prefix number) (P y) piece → instr_at (piece ++ rest) ≡ Ok (make y, rest)
numbered_complete prefix number make p_reads at y piece rest h =
    let g = prefix_apart prefix number h in
    ap instr_at (tagged_read prefix rest g)
    ∙ at (g.second ++ rest) (g.is_second.second ++ rest) rest y (first_read number rest (unsigned_decodes 32) g.is_second)
    (p_reads.complete y g.is_second.second rest g.is_second.is_second)
