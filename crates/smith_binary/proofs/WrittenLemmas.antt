-- Pieces that are written in order.
use Rattle.std.proofs.Common.{◌≡◌, ℕ, ◌+◌, ◌<◌, ◌≤◌, List, [], ◌∷◌, ◌++◌, length, drop, get_or, refl, sym, subst, ap, ◌∙◌, add-one}
use Rattle.std.proofs.Common.{append_assoc, append-nil, drop-cons}
use Rattle.std.specs.Prelude.{Result, OnOk, IsUtf8, ℤ}
use Rattle.std.proofs.Math.ListN.{drop_of_length-le}
use Rattle.std.proofs.lemmas.Result.{on_ok_weaker}
use Rattle.smith_binary.specs.Numbers.{FitsBits, IsSigned}
use Rattle.smith_binary.specs.Spelling.{Spelling, Shortest, IsSignedIn, IsUnsignedIn}
use Rattle.smith_binary.specs.Spelling.Spelling.{any, written}
use Rattle.smith_binary.specs.Pieces.{Is, IsByte, Joined, Each, IsListIn, IsNameIn, IsSizedIn, Output, Writes}

-- no bytes are written if no bytes spell the item
pub nothing_written : {Spells : Spelling → List ℕ → Type 0} {old : Output} → ((s : Spelling) → Spells s []) → Writes Spells old old
nothing_written {old = old} spelled = record {
  piece = [];
  spelled = spelled any;
  kept = spelled (written old.least);
  whole = sym (append-nil old.bytes);
  same = refl;
}

-- these bytes
pub piece_written : {Spells : Spelling → List ℕ → Type 0} {old new : Output} (piece : List ℕ) → ((s : Spelling) → Spells s piece)
    → new ≡ record old { bytes = old.bytes ++ piece } → Writes Spells old new
piece_written {old = old} piece spelled pushed = record {
  piece = piece;
  spelled = spelled any;
  kept = spelled (written old.least);
  whole = ap (λ (o : Output). o.bytes) pushed;
  same = ap (λ (o : Output). o.least) pushed;
}

-- one piece, then another
pub joined_written : {First Second : Spelling → List ℕ → Type 0} {old between new : Output} → Writes First old between
    → Writes Second between new → Writes (λ s. Joined (First s) (Second s)) old new
joined_written {Second = Second} {old = old} one other = record {
  piece = one.piece ++ other.piece;
  spelled = record { first = one.piece; second = other.piece; is_first = one.spelled; is_second = other.spelled; whole = refl };
  kept = record {
    first = one.piece;
    second = other.piece;
    is_first = one.kept;
    is_second = subst (λ (least : ℕ). Second (written least) other.piece) one.same other.kept;
    whole = refl;
  };
  whole = other.whole ∙ ap (λ (bytes : List ℕ). bytes ++ other.piece) one.whole ∙ append_assoc old.bytes one.piece other.piece;
  same = other.same ∙ one.same;
}

-- a piece with one property that implies another
pub written_as : {Spells Other : Spelling → List ℕ → Type 0} {old new : Output} → ((s : Spelling) (piece : List ℕ) → Spells s piece
    → Other s piece) → Writes Spells old new → Writes Other old new
written_as {old = old} weaker one = record {
  piece = one.piece;
  spelled = weaker any one.piece one.spelled;
  kept = weaker (written old.least) one.piece one.kept;
  whole = one.whole;
  same = one.same;
}

-- a piece with a property that does not name the spelling
pub written_plain : {Spells : Spelling → List ℕ → Type 0} {Other : List ℕ → Type 0} {old new : Output}
    → ((piece : List ℕ) → Spells any piece → Other piece) → Writes Spells old new → Writes (λ _. Other) old new
written_plain weaker one =
    let plain = weaker one.piece one.spelled in
    record { piece = one.piece; spelled = plain; kept = plain; whole = one.whole; same = one.same }

-- one piece, then another if that is written
pub then_written : {E : Type 0} {First : Spelling → List ℕ → Type 0} {old between : Output} (Second : Spelling → List ℕ → Type 0)
    (new : Output) (r : Result (Unit {0}) E) → Writes First old between → OnOk r (Writes Second between new)
    → OnOk r (Writes (λ s. Joined (First s) (Second s)) old new)
then_written Second new r one other = on_ok_weaker r (joined_written one) other

-- a signed integer in as few bytes as possible
pub signed_written : {old new : Output} (bits : ℕ) (z number : ℤ) → number ≡ z → FitsBits bits z
    → ((bits : ℕ) → FitsBits bits number → Writes (λ _. Shortest (IsSigned bits number)) old new)
    → Writes (λ s. IsSignedIn s bits z) old new
signed_written {old = old} {new = new} bits z number is fits after =
    let one : Writes (λ _. Shortest (IsSigned bits z)) old new =
    subst (λ (k : ℤ). Writes (λ _. Shortest (IsSigned bits k)) old new) is (after bits (subst (FitsBits bits) (sym is) fits)) in
    record { piece = one.piece; spelled = one.spelled.spelled; kept = one.kept; whole = one.whole; same = one.same }

-- a content after its size
pub sized_written : {old new : Output} (content : List ℕ) → Writes (λ s. Joined (IsUnsignedIn s 32 (length content)) (Is content)) old new
    → Writes (λ s. IsSizedIn s (Is content)) old new
sized_written content one = written_as (λ s piece h. record { content = content; is_content = refl; form = h }) one

-- writing more after the bytes so far is writing the whole after those at the start
pub record Leads (More Whole : Spelling → List ℕ → Type 0) (start now : Output) : Type 0 where
  pub to : (final : Output) → Writes More now final → Writes Whole start final

-- one more item
pub leads_each : {A : Type 0} (Item : Spelling → A → List ℕ → Type 0) {Whole : Spelling → List ℕ → Type 0} {start now later : Output}
    (i : ℕ) (xs : List A) (x d : A) → i < length xs → x ≡ get_or xs i d
    → Leads (λ s. Each (Item s) (drop i xs)) Whole start now → Writes (λ s. Item s x) now later
    → Leads (λ s. Each (Item s) (drop (i + 1) xs)) Whole start later
unfolding Each
leads_each Item i xs x d inside read so_far item =
    let next : drop i xs ≡ x ∷ drop (i + 1) xs = rw (read, add-one) (drop-cons xs i d inside) in
    record { to = λ final rest. so_far.to final (written_as (λ s piece h. rw next h) (joined_written item rest)) }

-- no item is left
pub each_written : {A : Type 0} (Item : Spelling → A → List ℕ → Type 0) {Whole : Spelling → List ℕ → Type 0} {start now : Output} (i : ℕ)
    (xs : List A) → length xs ≤ i → Leads (λ s. Each (Item s) (drop i xs)) Whole start now → Writes Whole start now
unfolding Each
each_written Item {now = now} i xs past so_far =
    let none : drop i xs ≡ [] = drop_of_length-le xs past in
    so_far.to now (nothing_written (λ s. rw none refl))

-- bytes spell themselves
pub each_byte : (bytes : List ℕ) → Each IsByte bytes bytes
unfolding Each
each_byte [] = refl
each_byte (byte ∷ bytes) = record { first = byte ∷ []; second = bytes; is_first = refl; is_second = each_byte bytes; whole = refl }

-- bytes after their number, as a list
pub bytes_written : {old between new : Output} (bytes : List ℕ) → Writes (λ s. IsUnsignedIn s 32 (length bytes)) old between
    → Writes (λ _. Is bytes) between new → Writes (λ s. IsListIn s IsByte bytes) old new
bytes_written bytes count rest = joined_written count (written_as (λ s piece h. subst (Each IsByte bytes) (sym h) (each_byte bytes)) rest)

-- these bytes, then others
pub is_joined : {a b : List ℕ} {old between new : Output} → Writes (λ _. Is a) old between → Writes (λ _. Is b) between new
    → Writes (λ _. Is (a ++ b)) old new
is_joined {a = a} {b = b} one other =
    written_as (λ s piece h. h.whole ∙ ap (λ (bytes : List ℕ). bytes ++ h.second) h.is_first ∙ ap (λ (bytes : List ℕ). a ++ bytes)
    h.is_second) (joined_written one other)

-- a text after its length
pub name_written : {old between new : Output} (name : List ℕ) → IsUtf8 name → Writes (λ s. IsUnsignedIn s 32 (length name)) old between
    → Writes (λ _. Is name) between new → Writes (λ s. IsNameIn s name) old new
name_written name text count bytes = written_as (λ s piece h. record { text = text; form = h }) (bytes_written name count bytes)

-- an empty list
pub none_written : {A : Type 0} (Item : Spelling → A → List ℕ → Type 0) {old new : Output} → Writes (λ s. IsUnsignedIn s 32 0) old new
    → Writes (λ s. IsListIn s (Item s) []) old new
unfolding Each
none_written Item count =
    written_as (λ s piece h. record { first = piece; second = []; is_first = h; is_second = refl; whole = sym (append-nil piece) }) count

-- a list of one item
pub one_written : {A : Type 0} (Item : Spelling → A → List ℕ → Type 0) (x : A) {old between new : Output}
    → Writes (λ s. IsUnsignedIn s 32 1) old between → Writes (λ s. Item s x) between new → Writes (λ s. IsListIn s (Item s) (x ∷ [])) old
    new
unfolding Each
one_written Item x count item =
    joined_written count (written_as (λ s piece h. record {
      first = piece;
      second = [];
      is_first = h;
      is_second = refl;
      whole = sym (append-nil piece);
    }) item)

-- the bytes written after none
pub written_whole : {Spells : Spelling → List ℕ → Type 0} {old new : Output} → old.bytes ≡ [] → Writes Spells old new → Spells any new.bytes
written_whole {Spells = Spells} none one = subst (Spells any) (sym (one.whole ∙ ap (λ (bytes : List ℕ). bytes ++ one.piece) none))
    one.spelled

pub kept_whole : {Spells : Spelling → List ℕ → Type 0} {old new : Output} → old.bytes ≡ [] → Writes Spells old new
    → Spells (written old.least) new.bytes
kept_whole {Spells = Spells} {old = old} none one =
    subst (Spells (written old.least)) (sym (one.whole ∙ ap (λ (bytes : List ℕ). bytes ++ one.piece) none)) one.kept

-- a content that was written by itself
pub content_whole : {Content : Spelling → List ℕ → Type 0} {empty inner : Output} (least : ℕ) → empty ≡ record { bytes = []; least = least }
    → Writes Content empty inner → Content any inner.bytes × Content (written least) inner.bytes
content_whole {Content = Content} {inner = inner} least is one = (
  written_whole (ap (λ (o : Output). o.bytes) is) one,
  subst (λ (k : ℕ). Content (written k) inner.bytes) (ap (λ (o : Output). o.least) is) (kept_whole (ap (λ (o : Output). o.bytes) is) one),
)

filled : {spelling : Spelling} {Content : List ℕ → Type 0} {bytes piece : List ℕ} → Content bytes → IsSizedIn spelling (Is bytes) piece
    → IsSizedIn spelling Content piece
filled {Content = Content} content h = record { content = h.content; is_content = subst Content (sym h.is_content) content; form = h.form }

-- such a content after its size
pub content_written : {Content : Spelling → List ℕ → Type 0} {old new empty inner : Output}
    → empty ≡ record { bytes = []; least = old.least } → Writes Content empty inner → Writes (λ s. IsSizedIn s (Is inner.bytes)) old new
    → Writes (λ s. IsSizedIn s (Content s)) old new
content_written {Content = Content} {old = old} is one sized =
    let (content, kept) = content_whole old.least is one in
    record {
      piece = sized.piece;
      spelled = filled {Content = Content any} content sized.spelled;
      kept = filled {Content = Content (written old.least)} kept sized.kept;
      whole = sized.whole;
      same = sized.same;
    }
