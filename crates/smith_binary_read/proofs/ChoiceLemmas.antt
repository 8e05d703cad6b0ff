-- Readings by a first byte that are sound and complete.
use Rattle.std.proofs.Common.{◌≡◌, ℕ, ◌<◌, Bool, true, false, cond, ltb, leb, eqb, ◌||◌, List, [], ◌∷◌, ◌++◌, drop, Option}
use Rattle.std.proofs.Common.{Some, None, Ok, refl, sym, ap, subst, ◌∙◌, arith, inl, inr}
use Rattle.std.specs.Prelude.{ℤ, pos, negsuc}
use Rattle.std.specs.List.{AllByRecursion}
use Rattle.std.proofs.lemmas.Int.{ints}
use Rattle.std.proofs.lemmas.Bool.{eqb-true, ne_eqb, or_left, or_right, lt-ltb, le-leb}
use Rattle.smith_binary.specs.Numbers.{IsSigned, IsUnsigned}
use Rattle.smith_binary.specs.Pieces.{IsByte, Joined}
use Rattle.smith_binary_read.specs.Readings.{Reading, byte_at, mapped_at, starts_with}
use Rattle.smith_binary_read.specs.Numbers.{unsigned_at}
use Rattle.smith_binary_read.specs.Decodes.{Front, Decodes}
use Rattle.smith_binary_read.proofs.ReadLemmas.{step, item_is, front_as, front_same, front_joined, byte_sound}
use Rattle.smith_binary_read.proofs.IntegerLemmas.{signed_decodes, unsigned_decodes}
use Rattle.smith_binary_read.specs.Choices.{item_of, or_at, coded_at, positive_at, type_index_at}

-- a piece begins with a byte that passes a test
pub record Begins (Test : ℕ → Type 0) (piece : List ℕ) : Type 0 where
  pub head : ℕ
  pub tail : List ℕ
  pub whole : piece ≡ head ∷ tail
  pub test : Test head

pub byte_begins : (Test : ℕ → Type 0) (byte : ℕ) (piece : List ℕ) → Test byte → IsByte byte piece → Begins Test piece
byte_begins Test byte piece test h = record { head = byte; tail = []; whole = h; test = test }

pub joined_begins : (Test : ℕ → Type 0) (First Second : List ℕ → Type 0) (piece : List ℕ)
    → ((first : List ℕ) → First first → Begins Test first) → Joined First Second piece → Begins Test piece
joined_begins Test First Second piece begins h =
    let front = begins h.first h.is_first in
    record {
      head = front.head;
      tail = front.tail ++ h.second;
      whole = h.whole
          ∙ ap (λ (bytes : List ℕ). bytes ++ h.second) front.whole;
      test = front.test;
    }

pub tag_begins : (Test : ℕ → Type 0) (tag : ℕ) (Second : List ℕ → Type 0) (piece : List ℕ) → Test tag → Joined (IsByte tag) Second piece
    → Begins Test piece
tag_begins Test tag Second piece test h = joined_begins Test (IsByte tag) Second piece (λ first one. byte_begins Test tag first test one) h

pub begins_as : (Test Other : ℕ → Type 0) (piece : List ℕ) → ((byte : ℕ) → Test byte → Other byte) → Begins Test piece → Begins Other piece
begins_as Test Other piece weaker h = record { head = h.head; tail = h.tail; whole = h.whole; test = weaker h.head h.test }

-- bytes that begin with a tag
pub tagged_read : {Second : List ℕ → Type 0} {piece : List ℕ} (tag : ℕ) (rest : List ℕ) → (h : Joined (IsByte tag) Second piece) → piece
    ++ rest ≡ tag ∷ (h.second ++ rest)
tagged_read tag rest h = ap (λ (bytes : List ℕ). bytes ++ rest) (h.whole ∙ ap (λ (front : List ℕ). front ++ h.second) h.is_first)

-- an alternative without a tag
pub mapped_sound : {A B : Type 0} {P : A → List ℕ → Type 0} {p : List ℕ → Reading A} (Q : B → List ℕ → Type 0) (make : A → B) → Decodes P p
    → ((y : A) (piece : List ℕ) → P y piece → Q (make y) piece)
    → (bytes : List ℕ) (x : B) (rest : List ℕ) → mapped_at make p bytes ≡ Ok (x, rest) → Front (Q x) bytes rest
mapped_sound Q make p_reads form bytes x rest e =
    step _ _ _ e (λ y first e. front_same Q (make y.0) x y.1 rest e (front_as (form y.0) (p_reads.sound bytes y.0 y.1 first)))

-- an alternative after a tag
pub tag_front : (tag : ℕ) (bytes : List ℕ) (byte : ℕ × List ℕ) → byte_at bytes ≡ Ok byte → eqb byte.0 tag ≡ true
    → Front (IsByte tag) bytes byte.1
tag_front tag bytes byte first is =
    let one = byte_sound bytes byte.0 byte.1 first in
    let same : byte.0 ≡ tag = eqb-true byte.0 tag is in
    front_as (λ piece h. subst (λ (t : ℕ). IsByte t piece) same h) one.0

pub tagged_sound : {A B : Type 0} {P : A → List ℕ → Type 0} {p : List ℕ → Reading A} (Q : B → List ℕ → Type 0) (make : A → B) (tag : ℕ)
    → Decodes P p → ((y : A) (piece : List ℕ) → Joined (IsByte tag) (P y) piece → Q (make y) piece)
    → (bytes : List ℕ) (byte : ℕ × List ℕ) (x : B) (rest : List ℕ) → byte_at bytes ≡ Ok byte → eqb byte.0 tag ≡ true
    → mapped_at make p byte.1 ≡ Ok (x, rest) → Front (Q x) bytes rest
tagged_sound Q make tag p_reads form bytes byte x rest first is e = step _ _ _ e (λ y second e.
    front_same Q (make y.0) x y.1 rest e (front_as (form y.0)
    (front_joined (tag_front tag bytes byte first is) (p_reads.sound byte.1 y.0 y.1 second))))

-- an item that was item_and_rest in a table, or not
pub or_branch : {A G : Type 0} (o : Option A) (rest : List ℕ) (other : Reading A) (x : A) (after : List ℕ)
    → or_at o rest other ≡ Ok (x, after) → (o ≡ Some x → rest ≡ after → G) → (o ≡ None → other ≡ Ok (x, after) → G) → G
or_branch (Some y) rest other x after e if_some if_none = let same = item_is y x rest after e in if_some (ap Some same.0) same.1
or_branch None rest other x after e if_some if_none = if_none refl e

some_branch : {A G : Type 0} (b : Bool) (y : A) (o : Option A) (x : A) → cond b (Some y) o ≡ Some x → (b ≡ true → y ≡ x → G)
    → (b ≡ false → o ≡ Some x → G) → G
some_branch true y o x e if_true if_false = if_true refl cc
some_branch false y o x e if_true if_false = if_false refl e

-- what holds of each row of a table holds of what is item_and_rest there
pub item_holds : {A : Type 0} (Q : ℕ → A → Type 0) (rows : List (ℕ × A)) → AllByRecursion (λ (row : ℕ × A). Q row.0 row.1) rows
    → (byte : ℕ) (x : A) → item_of rows byte ≡ Some x → Q byte x
item_holds Q [] all byte x e = absurd cc
item_holds {A = A} Q (row ∷ rows) all byte x e = some_branch _ _ _ _ e
    (λ is same. let one : byte ≡ row.0 = eqb-true byte row.0 is in
    subst (λ (b : ℕ). Q b x) (sym one) (subst (λ (y : A). Q row.0 y) same all.0))
    (λ is_not e. item_holds Q rows all.1 byte x e)

-- no row of a table has a byte
pub item_none : {A : Type 0} (rows : List (ℕ × A)) (byte : ℕ) → AllByRecursion (λ (row : ℕ × A). byte ≡ row.0 → ⊥) rows
    → item_of rows byte ≡ None
item_none [] byte never = refl
item_none (row ∷ rows) byte never = rw (ne_eqb byte row.0 never.0) (item_none rows byte never.1)

-- items of a byte each
coded_sound : {A : Type 0} (code : A → ℕ) (rows : List (ℕ × A)) → AllByRecursion (λ (row : ℕ × A). row.0 ≡ code row.1) rows
    → (bytes : List ℕ) (x : A) (rest : List ℕ) → coded_at rows bytes ≡ Ok (x, rest) → Front (IsByte (code x)) bytes rest
coded_sound code rows codes bytes x rest e = step _ _ _ e (λ byte first e. or_branch _ _ _ _ _ e
    (λ is after.
    let one : byte.0 ≡ code x = item_holds (λ b x. b ≡ code x) rows codes byte.0 x is in
    subst (Front (IsByte (code x)) bytes) after
    (front_as (λ piece h. subst (λ (t : ℕ). IsByte t piece) one h) (byte_sound bytes byte.0 byte.1 first).0))
    (λ is_not e. absurd cc))

pub coded_decodes : {A : Type 0} (code : A → ℕ) (rows : List (ℕ × A)) → AllByRecursion (λ (row : ℕ × A). row.0 ≡ code row.1) rows
    → ((x : A) (rest : List ℕ) → coded_at rows (code x ∷ rest) ≡ Ok (x, rest)) → Decodes (λ (x : A). IsByte (code x)) (coded_at rows)
coded_decodes code rows codes all = record {
  sound = coded_sound code rows codes;
  complete = λ x piece rest h. ap (λ (bytes : List ℕ). coded_at rows (bytes ++ rest)) h ∙ all x rest;
}

-- the index of a type
positive_is : (z : ℤ) (rest bytes : List ℕ) (n : ℕ) (after : List ℕ) → positive_at z rest bytes ≡ Ok (n, after) → (z ≡ pos n)
    × (rest ≡ after)
positive_is (pos m) rest bytes n after e = let same = item_is m n rest after e in (ap pos same.0, same.1)
positive_is (negsuc m) rest bytes n after e = absurd cc

index_sound : (bytes : List ℕ) (n : ℕ) (rest : List ℕ) → type_index_at bytes ≡ Ok (n, rest) → Front (IsSigned 33 (pos n)) bytes rest
unfolding type_index_at
index_sound bytes n rest e = step _ _ _ e (λ z first e.
    let same = positive_is z.0 z.1 bytes n rest e in
    subst (Front (IsSigned 33 (pos n)) bytes) same.1
    (front_as (λ piece h. subst (λ (y : ℤ). IsSigned 33 y piece) same.0 h) ((signed_decodes 33).sound bytes z.0 z.1 first)))

index_complete : (n : ℕ) (piece rest : List ℕ) → IsSigned 33 (pos n) piece → type_index_at (piece ++ rest) ≡ Ok (n, rest)
unfolding type_index_at
index_complete n piece rest h = rw ((signed_decodes 33).complete (pos n) piece rest h) refl

pub type_index_decodes : Decodes (λ (n : ℕ). IsSigned 33 (pos n)) type_index_at
type_index_decodes = record { sound = index_sound; complete = index_complete }

-- the first byte of an integer that is not negative
pub positive_begins : (bits n : ℕ) (piece : List ℕ) → IsSigned bits (pos n) piece
    → Begins (λ (b : ℕ). (b < 256) × ((ltb b 64 || leb 128 b) ≡ true)) piece
unfolding IsSigned
positive_begins bits n [] h = absurd h
positive_begins bits n (byte ∷ []) (inl h) =
    record {
      head = byte;
      tail = [];
      whole = refl;
      test =
          (omega (arith, h.low), or_left (ltb byte 64) (leb 128 byte) (lt-ltb byte 64 h.low));
    }
positive_begins bits n (byte ∷ []) (inr h) = absurd (omega (arith, ints, h.value, h.low))
positive_begins bits n (byte ∷ next ∷ piece) h =
    record { head = byte; tail = next ∷ piece; whole = refl; test = (h.4, or_right (ltb byte 64) (leb 128 byte) (le-leb 128 byte h.3)) }

-- a number that is this one
pub count_front : (count : ℕ) (bytes : List ℕ) (read : ℕ × List ℕ) → unsigned_at 32 bytes ≡ Ok read → eqb read.0 count ≡ true
    → Front (IsUnsigned 32 count) bytes read.1
count_front count bytes read first is =
    let same : read.0 ≡ count = eqb-true read.0 count is in
    front_as (λ piece h. subst (λ (n : ℕ). IsUnsigned 32 n piece) same h) ((unsigned_decodes 32).sound bytes read.0 read.1 first)

-- an alternative after its number
pub counted_sound : {A B : Type 0} {P : A → List ℕ → Type 0} {p : List ℕ → Reading A} (Q : B → List ℕ → Type 0) (make : A → B) (number : ℕ)
    → Decodes P p → ((y : A) (piece : List ℕ) → Joined (IsUnsigned 32 number) (P y) piece → Q (make y) piece)
    → (bytes : List ℕ) (read : ℕ × List ℕ) (x : B) (rest : List ℕ) → unsigned_at 32 bytes ≡ Ok read → eqb read.0 number ≡ true
    → mapped_at make p read.1 ≡ Ok (x, rest) → Front (Q x) bytes rest
counted_sound Q make number p_reads form bytes read x rest first is e = step _ _ _ e (λ y second e.
    front_same Q (make y.0) x y.1 rest e (front_as (form y.0)
    (front_joined (count_front number bytes read first is) (p_reads.sound read.1 y.0 y.1 second))))

-- what begins with a byte
pub starts_is : (id : ℕ) (bytes : List ℕ) → starts_with id bytes ≡ true → bytes ≡ id ∷ drop 1 bytes
starts_is id [] e = absurd cc
starts_is id (byte ∷ bytes) e = let same : byte ≡ id = eqb-true byte id e in ap (λ (b : ℕ). b ∷ bytes) same
