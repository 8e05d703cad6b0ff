-- From a source that starts with a piece, a draw returns the value that the piece spells and leaves
-- the bytes after it.
use Rattle.std.proofs.Common.{◌≡◌, ℕ, zero, suc, ◌+◌, ◌-◌, ◌<◌, Bool, true, false, List, [], ◌∷◌, ◌++◌, length, take, drop, refl, sym, ap}
use Rattle.std.proofs.Common.{◌∙◌, arith, append_assoc, length-append}
use Rattle.std.specs.List.{AllByRecursion as ByRecursion}
use Rattle.std.proofs.lemmas.Bool.{le-ltb, lt-ltb, lt-leb}
use Rattle.std.proofs.lemmas.List.{append-nil}
use Rattle.std.proofs.Math.Seq.{take-append_seam}
use Rattle.smith_bytes.specs.Draws.{bool_at, range_at, ratio_at, digit_count}
use Rattle.smith_bytes.specs.Growth.{grow_at}
use Rattle.smith_bytes.specs.Spelling.{SpellsBool, SpellsNumber, SpellsRefusal, Joined, Each, Listed}
use Rattle.smith_bytes.specs.ReadLaws.{ReadsEach}
use Rattle.smith_bytes.specs.Takes.{Takes, SpellsSuch}

-- the bytes after a joined piece, by its parts
pub joined_parts : {First Second : List ℕ → Type 0} {piece : List ℕ} (h : Joined First Second piece) (after : List ℕ)
    → piece ++ after ≡ h.first ++ (h.second ++ after)
joined_parts h after = rw h.whole (append_assoc h.first h.second after)

pub bool_read : (value : Bool) (piece after : List ℕ) → SpellsBool value piece → bool_at (piece ++ after) ≡ (value, after)
unfolding bool_at
bool_read true piece after h = rw (h.whole, h.lowest) refl
bool_read false piece after h = rw (h.whole, h.lowest) refl

drop_seam : (piece after : List ℕ) → drop (length piece) (piece ++ after) ≡ after
drop_seam [] after = refl
drop_seam (b ∷ piece) after = drop_seam piece after

take_piece : (n : ℕ) (piece after : List ℕ) → length piece ≡ n → take n (piece ++ after) ≡ piece
take_piece n piece after e = rw (← e) (take-append_seam piece after)

drop_piece : (n : ℕ) (piece after : List ℕ) → length piece ≡ n → drop n (piece ++ after) ≡ after
drop_piece n piece after e = rw (← e) (drop_seam piece after)

pub number_read : (value lo hi : ℕ) (piece after : List ℕ) → SpellsNumber value lo hi piece → range_at lo hi (piece ++ after)
    ≡ (value, after)
unfolding range_at
number_read value lo hi piece after h =
    let n = digit_count (hi - lo) in
    rw (take_piece n piece after h.digits, drop_piece n piece after h.digits, h.read) refl

pub refusal_read : (chances : ℕ) (piece after : List ℕ) → SpellsRefusal chances piece → ratio_at 1 chances (piece ++ after) ≡ (false, after)
unfolding ratio_at
refusal_read chances piece after h = rw (number_read h.drawn 1 chances piece after h.number, lt-leb h.drawn 1 h.later) refl

pub listed_read : {A : Type 0} (Item : A → List ℕ → Type 0) (draw : List A → List ℕ → A × List ℕ) (most : ℕ) (made xs : List A)
    (piece after : List ℕ)
    → ReadsEach Item draw → Listed Item most xs piece → grow_at draw 0 most made (piece ++ after) ≡ (made ++ xs, after)
unfolding grow_at Listed
listed_read Item draw zero made [] piece after each h = rw (h, append-nil) refl
listed_read Item draw zero made (x ∷ xs) piece after each h = absurd h
listed_read Item draw (suc most) made [] piece after each h = rw (
  le-ltb (length made) 0 (omega arith),
  bool_read false piece after h,
  append-nil,
) refl
listed_read Item draw (suc most) made (x ∷ xs) piece after each h =
    let item = h.is_second in
    let later = item.second ++ after in
    let again = listed_read Item draw most (made ++ x ∷ []) xs item.second after each item.is_second in
    rw (
      joined_parts h after,
      joined_parts item after,
      le-ltb (length made) 0 (omega arith),
      bool_read true h.first (item.first ++ later)
          h.is_first,
      each made x item.first later item.is_first,
    )
    (again ∙ ap (λ (l : List _). (l, after)) (append_assoc made (x ∷ []) xs))

pub each_read : {A : Type 0} (Item : A → List ℕ → Type 0) (draw : List A → List ℕ → A × List ℕ) (least : ℕ) (made xs : List A)
    (piece after : List ℕ)
    → ReadsEach Item draw → least ≡ length made + length xs → Each Item xs piece → grow_at draw least (length xs) made (piece ++ after)
    ≡ (made ++ xs, after)
unfolding grow_at Each
each_read Item draw least made [] piece after each enough h = rw (h, append-nil) refl
each_read Item draw least made (x ∷ xs) piece after each enough h =
    let few : length made < least = omega arith in
    let more : least ≡ length (made ++ x ∷ []) + length xs = omega (arith, length-append made (x ∷ [])) in
    let again = each_read Item draw least (made ++ x ∷ []) xs h.second after each more h.is_second in
    rw (joined_parts h after, lt-ltb (length made) least few, each made x h.first (h.second ++ after) h.is_first)
    (again ∙ ap (λ (l : List _). (l, after)) (append_assoc made (x ∷ []) xs))

-- each item of a spelled list is spelled and satisfies Holds
pub listed_such : {A : Type 0} (Holds : A → Type 0) (Item : A → List ℕ → Type 0) (most : ℕ) (xs : List A) (piece : List ℕ)
    → ByRecursion Holds xs → Listed Item most xs piece → Listed (SpellsSuch Holds Item) most xs piece
unfolding Listed
listed_such Holds Item zero [] piece all h = h
listed_such Holds Item zero (x ∷ xs) piece all h = absurd h
listed_such Holds Item (suc most) [] piece all h = h
listed_such Holds Item (suc most) (x ∷ xs) piece all h =
    let item = h.is_second in
    let such : SpellsSuch Holds Item x item.first = record { holds = all.0; spelled = item.is_first } in
    let more = listed_such Holds Item most xs item.second all.1 item.is_second in
    record {
      first = h.first;
      second = h.second;
      is_first = h.is_first;
      whole = h.whole;
      is_second = record { first = item.first; second = item.second; is_first = such; is_second = more; whole = item.whole };
    }

pub each_such : {A : Type 0} (Holds : A → Type 0) (Item : A → List ℕ → Type 0) (xs : List A) (piece : List ℕ) → ByRecursion Holds xs
    → Each Item xs piece → Each (SpellsSuch Holds Item) xs piece
unfolding Each
each_such Holds Item [] piece all h = h
each_such Holds Item (x ∷ xs) piece all h =
    record {
      first = h.first;
      second = h.second;
      whole = h.whole;
      is_first = record { holds = all.0; spelled = h.is_first };
      is_second = each_such Holds Item xs h.second all.1 h.is_second;
    }

-- a draw that reads each spelling takes it
pub takes_by : {A : Type 0} {Spelled : A → List ℕ → Type 0} {old new : List ℕ} {drawn : A} (draw : List ℕ → A × List ℕ)
    → ((value : A) (piece after : List ℕ) → Spelled value piece → draw (piece ++ after) ≡ (value, after))
    → draw old ≡ (drawn, new) → Takes Spelled old drawn new
takes_by {A = A} {Spelled = Spelled} {old = old} draw reads made =
    let same = λ (value : A) (piece after : List ℕ) (h : Spelled value piece) (starts : old ≡ piece ++ after). sym made
    ∙ (ap draw starts ∙ reads value piece after h) in
    record {
      made = λ value piece after h starts. ap (λ (r : A × List ℕ). r.0) (same value piece after h starts);
      left = λ value piece after h starts. ap (λ (r : A × List ℕ). r.1) (same value piece after h starts);
    }
