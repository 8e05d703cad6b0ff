-- Loops that write: each iteration writes one piece and leads to the rest.
use Rattle.smith_spell.proofs.Common.{[], add-one, arith, drop, drop-cons, drop_of_length-le, Each, false, get_or, Joined, length, List}
use Rattle.smith_spell.proofs.Common.{Listed, lt-ltb, nat_lt, refl, SpellsBool, suc, true, Where, zero, ℕ, ◌+◌, ◌-◌, ◌<◌, ◌∷◌, ◌≡◌, ◌≤◌}
use Rattle.smith_spell.specs.Written.{Writes}
use Rattle.smith_spell.proofs.WrittenLemmas.{nothing_written, joined_written, written_as}

-- writing more after the bytes so far is writing the whole after those at the start
pub record Leads (More Whole : List ℕ → Type 0) (start now : List ℕ) : Type 0 where
  pub to : (final : List ℕ) → Writes More now final → Writes Whole start final

-- one piece is written
pub leads_over : {One More Whole : List ℕ → Type 0} {start now later : List ℕ} → Leads (Joined One More) Whole start now
    → Writes One now later → Leads More Whole start later
leads_over so_far one = record { to = λ final rest. so_far.to final (joined_written one rest) }

-- the rest, restated
pub leads_as : {More Other Whole : List ℕ → Type 0} {start now : List ℕ} → ((piece : List ℕ) → Other piece → More piece)
    → Leads More Whole start now → Leads Other Whole start now
leads_as weaker so_far = record { to = λ final rest. so_far.to final (written_as weaker rest) }

-- one more item of a list whose loop may stop
pub leads_listed : {A : Type 0} (Item : A → List ℕ → Type 0) {Whole : List ℕ → Type 0} {start now asked later : List ℕ} (most i : ℕ)
    (xs : List A) (x d : A) → i < length xs → length xs ≤ most → x ≡ get_or xs i d
    → Leads (Listed Item (most - i) (drop i xs)) Whole start now → Writes (SpellsBool true) now asked → Writes (Item x) asked later
    → Leads (Listed Item (most - (i + 1)) (drop (i + 1) xs)) Whole start later
unfolding Listed
leads_listed Item most i xs x d inside few read so_far go item =
    let room : most - i ≡ suc (most - (i + 1)) = omega arith in
    let next : drop i xs ≡ x ∷ drop (i + 1) xs = rw (read, add-one) (drop-cons xs i d inside) in
    leads_over (leads_over (leads_as (λ piece h. rw (room, next) h) so_far) go) item

-- the end of such a list
pub listed_end : {A : Type 0} (Item : A → List ℕ → Type 0) (room : ℕ) (piece : List ℕ) → Where (nat_lt 0 room) (SpellsBool false) piece
    → Listed Item room [] piece
unfolding Listed
listed_end Item zero piece h = h
listed_end Item (suc room) piece h = rw (lt-ltb 0 (suc room) (omega arith)) at h

-- one more item of a list
pub leads_each : {A : Type 0} (Item : A → List ℕ → Type 0) {Whole : List ℕ → Type 0} {start now later : List ℕ} (i : ℕ) (xs : List A)
    (x d : A) → i < length xs → x ≡ get_or xs i d
    → Leads (Each Item (drop i xs)) Whole start now → Writes (Item x) now later → Leads (Each Item (drop (i + 1) xs)) Whole start later
unfolding Each
leads_each Item i xs x d inside read so_far item =
    let next : drop i xs ≡ x ∷ drop (i + 1) xs = rw (read, add-one) (drop-cons xs i d inside) in
    leads_over (leads_as (λ piece h. rw next h) so_far) item

-- the end of such a list, after its last item
pub listed_written : {A : Type 0} (Item : A → List ℕ → Type 0) {Whole : List ℕ → Type 0} {start now later : List ℕ} (most i room : ℕ)
    (xs : List A) → length xs ≤ i → room ≡ most - i → Leads (Listed Item (most - i) (drop i xs)) Whole start now
    → Writes (Where (nat_lt 0 room) (SpellsBool false)) now later → Writes Whole start later
listed_written Item most i room xs past is so_far last =
    let none : drop i xs ≡ [] = drop_of_length-le xs past in
    so_far.to _ (rw (← is, none) (written_as (listed_end Item room) last))

-- the end of a list
pub each_written : {A : Type 0} (Item : A → List ℕ → Type 0) {Whole : List ℕ → Type 0} {start now : List ℕ} (i : ℕ) (xs : List A)
    → length xs ≤ i → Leads (Each Item (drop i xs)) Whole start now → Writes Whole start now
unfolding Each
each_written Item i xs past so_far =
    let none : drop i xs ≡ [] = drop_of_length-le xs past in
    so_far.to _ (rw none (nothing_written refl))
