-- The iterations of a loop that defines items after imported ones, for every draw.
use Rattle.smith_draw_definitions.proofs.Common.{[], and_right, ap, append-nil, append_assoc, arith, Bool, bool_at, cond, Err, Error, false}
use Rattle.smith_draw_definitions.proofs.Common.{goes_at, IfOk, if◌then◌else◌, KeepsPieces, length, List, nat_le, nat_lt, Ok, refl, Result}
use Rattle.smith_draw_definitions.proofs.Common.{subst, true, try_grow_at, ℕ, ◌&&◌, ◌++◌, ◌+◌, ◌-◌, ◌<◌, ◌∙◌, ◌∷◌, ◌≡◌, ◌≤◌}
use Rattle.std.proofs.lemmas.Bool.{le-leb, lt-leb}
use Rattle.smith_bytes.specs.Growth.{grow_at}
use Rattle.smith_bytes.proofs.GrowingLoop.{IsGrowing, grow_go, grow_stop, grow_full}
use Rattle.smith_bytes.proofs.GrownLemmas.{grow_most}
use Rattle.smith_draw_consts.proofs.TriedListLemmas.{try_grow_most}
use Rattle.smith_draw_consts.proofs.TriedLoop.{IsTrying, try_start, try_go, try_refused, try_stop, try_full}
use Rattle.smith_draw_definitions.specs.Definitions.{items_defined_at, items_tried_at, appended_to}

-- the items that are defined so far, after a number of imported ones
pub record IsDefining {A : Type 0} (draw : List A → List ℕ → A × List ℕ) (least most imported n : ℕ) (made : List A)
    (start bytes : List ℕ) : Type 0 where
  pub growing : IsGrowing draw (least - imported) (most - imported) n made start bytes
      (grow_at draw (least - imported) (most - imported) [] start)

-- none is defined yet
pub defined_start : {A : Type 0} (draw : List A → List ℕ → A × List ℕ) (least most imported : ℕ) (start : List ℕ)
    → IsDefining draw least most imported 0 [] start start
defined_start draw least most imported start =
    let all : most - imported - 0 ≡ most - imported = omega arith in
    record { growing = record { len = refl; so_far = rw all refl; left = λ whole h. h } }

-- one more was defined
pub defined_go : {A : Type 0} {draw : List A → List ℕ → A × List ℕ} {least most imported n : ℕ} {made more : List A}
    {start bytes mid : List ℕ} {b : Bool} {x : A} {after : List ℕ}
    → IsDefining draw least most imported n made start bytes → n < most - imported → goes_at (nat_lt n (least - imported)) bytes ≡ (b, mid)
    → b ≡ true → draw made mid ≡ (x, after) → more ≡ made ++ x ∷ [] → KeepsPieces bytes mid → KeepsPieces mid after
    → IsDefining draw least most imported (n + 1) more start after
defined_go now lt go odd drawn longer p q = record { growing = grow_go now.growing lt go odd drawn longer p q }

-- the drawn bool ends the items, though more are allowed
pub defined_stop : {A : Type 0} {draw : List A → List ℕ → A × List ℕ} {least most imported n : ℕ} {made : List A} {start bytes : List ℕ}
    {b : Bool} {after : List ℕ}
    → IsDefining draw least most imported n made start bytes → n < most - imported → goes_at (nat_lt n (least - imported)) bytes
    ≡ (b, after) → b ≡ false
    → items_defined_at draw least most imported start ≡ (made, after)
unfolding items_defined_at
defined_stop {least = least} {most = most} {imported = imported} {made = made} now lt go even =
    let grown = grow_stop now.growing lt go even in
    let len = now.growing.len in
    let room : nat_le most (imported + length made) ≡ false = lt-leb most (imported + length made) (omega arith) in
    rw (grown, and_right (nat_lt 0 imported && nat_lt 0 most) (nat_le most (imported + length made)) room) refl

full_turn : {A : Type 0} (b : Bool) (made : List A) (bytes after : List ℕ) → after ≡ cond b (bool_at bytes).1 bytes
    → cond {A = List A × List ℕ} (b && true) (made, (bool_at bytes).1) (made, bytes) ≡ (made, after)
full_turn true made bytes after is = rw is refl
full_turn false made bytes after is = rw is refl

-- no more are allowed: after items that existed before, the bool is drawn once more
pub defined_full : {A : Type 0} {draw : List A → List ℕ → A × List ℕ} {least most imported n : ℕ} {made : List A}
    {start bytes after : List ℕ}
    → IsDefining draw least most imported n made start bytes → most - imported ≤ n
    → after ≡ (if nat_lt 0 imported && nat_lt 0 most then (bool_at bytes).1 else bytes)
    → items_defined_at draw least most imported start ≡ (made, after)
unfolding items_defined_at
defined_full {draw = draw} {least = least} {most = most} {imported = imported} {made = made} {start = start} {bytes = bytes} {after = after}
    now le is =
    let grown = grow_full now.growing le in
    let len = now.growing.len in
    let few : length made ≤ most - imported =
    subst (λ (r : List _ × List ℕ). length r.0 ≤ most - imported) grown (grow_most draw (least - imported) (most - imported)
    (most - imported) [] start (omega arith)) in
    let full : nat_le most (imported + length made) ≡ true = le-leb most (imported + length made) (omega arith) in
    rw (grown, full) (full_turn (nat_lt 0 imported && nat_lt 0 most) made bytes after is)

-- the items that are defined so far by draws that may be refused, after a number of imported ones
pub record IsTried {A : Type 0} (draw : List A → List ℕ → Result (A × List ℕ) Error) (least most imported n : ℕ) (made : List A)
    (start bytes : List ℕ) : Type 0 where
  pub trying : IsTrying draw (least - imported) (most - imported) n made start bytes
      (try_grow_at draw (least - imported) (most - imported) [] start)

pub tried_start : {A : Type 0} (draw : List A → List ℕ → Result (A × List ℕ) Error) (least most imported : ℕ) (start : List ℕ)
    → IsTried draw least most imported 0 [] start start
tried_start draw least most imported start = record { trying = try_start draw (least - imported) (most - imported) start }

module _ {A : Type 0} {draw : List A → List ℕ → Result (A × List ℕ) Error} {least most imported n : ℕ} {made : List A}
    {start bytes mid : List ℕ} {b : Bool} where
  pub tried_go : {more : List A} {x : A} {after : List ℕ}
      → IsTried draw least most imported n made start bytes → n < most - imported → goes_at (nat_lt n (least - imported)) bytes ≡ (b, mid)
      → b ≡ true → draw made mid ≡ Ok (x, after) → more ≡ made ++ x ∷ [] → KeepsPieces bytes mid → KeepsPieces mid after
      → IsTried draw least most imported (n + 1) more start after
  tried_go now lt go on drawn longer p q = record { trying = try_go now.trying lt go on drawn longer p q }

  -- an item was refused
  pub tried_refused : {e : Error}
      → IsTried draw least most imported n made start bytes → n < most - imported → goes_at (nat_lt n (least - imported)) bytes ≡ (b, mid)
      → b ≡ true → draw made mid ≡ Err e
      → items_tried_at draw least most imported start ≡ Err e
  unfolding items_tried_at
  tried_refused now lt go on refused = rw (try_refused now.trying lt go on refused) refl

  pub tried_stop :
      IsTried draw least most imported n made start bytes → n < most - imported → goes_at (nat_lt n (least - imported)) bytes ≡ (b, mid)
      → b ≡ false
      → items_tried_at draw least most imported start ≡ Ok (made, mid)
  unfolding items_tried_at
  tried_stop now lt go off =
      let grown = try_stop now.trying lt go off in
      let len = now.trying.len in
      let room : nat_le most (imported + length made) ≡ false = lt-leb most (imported + length made) (omega arith) in
      rw (grown, and_right (nat_lt 0 imported && nat_lt 0 most) (nat_le most (imported + length made)) room) refl

pub tried_full : {A : Type 0} {draw : List A → List ℕ → Result (A × List ℕ) Error} {least most imported n : ℕ} {made : List A}
    {start bytes after : List ℕ}
    → IsTried draw least most imported n made start bytes → most - imported ≤ n
    → after ≡ (if nat_lt 0 imported && nat_lt 0 most then (bool_at bytes).1 else bytes)
    → items_tried_at draw least most imported start ≡ Ok (made, after)
unfolding items_tried_at
tried_full {A = A} {draw = draw} {least = least} {most = most} {imported = imported} {made = made} {start = start} {bytes = bytes}
    {after = after} now le is =
    let grown = try_full now.trying le in
    let len = now.trying.len in
    let few : length made ≤ most - imported =
    subst (λ (r : Result (List A × List ℕ) Error). IfOk r (λ (one : List A × List ℕ). length one.0 ≤ most - imported)) grown
    (try_grow_most draw (least - imported) (most - imported) (most - imported) [] start (omega arith)) in
    let full : nat_le most (imported + length made) ≡ true = le-leb most (imported + length made) (omega arith) in
    rw (grown, full) (ap (λ (one : List A × List ℕ). Ok one) (full_turn (nat_lt 0 imported && nat_lt 0 most) made bytes after is))

-- the items that are defined so far follow the imported ones
pub record IsAfter {A : Type 0} (draw : List A → List ℕ → A × List ℕ) (least most : ℕ) (imported space : List A) (n : ℕ)
    (start bytes : List ℕ) : Type 0 where
  pub made : List A
  pub parts : space ≡ imported ++ made
  pub defining : IsDefining draw least most (length imported) n made start bytes

pub after_start : {A : Type 0} (draw : List A → List ℕ → A × List ℕ) (least most : ℕ) (imported : List A) (start : List ℕ)
    → IsAfter draw least most imported imported 0 start start
after_start draw least most imported start = record {
  made = [];
  parts = rw append-nil refl;
  defining = defined_start draw least most
      (length imported) start;
}

pub after_go : {A : Type 0} {draw : List A → List ℕ → A × List ℕ} {least most n : ℕ} {imported space more : List A}
    {start bytes mid : List ℕ} {b : Bool} {x : A} {after : List ℕ}
    → (now : IsAfter draw least most imported space n start bytes) → n < most - length imported
    → goes_at (nat_lt n (least - length imported)) bytes ≡ (b, mid) → b ≡ true → draw now.made mid ≡ (x, after) → more ≡ space ++ x ∷ []
    → KeepsPieces bytes mid → KeepsPieces mid after
    → IsAfter draw least most imported more (n + 1) start after
after_go {imported = imported} {x = x} now lt go odd drawn longer p q = record {
  made = now.made ++ x ∷ [];
  parts = longer ∙ (ap (λ (xs : List _). xs ++ x ∷ []) now.parts ∙ append_assoc imported now.made (x ∷ []));
  defining = defined_go now.defining lt go odd drawn refl p q;
}

pub after_stop : {A : Type 0} {draw : List A → List ℕ → A × List ℕ} {least most n : ℕ} {imported space : List A} {start bytes : List ℕ}
    {b : Bool} {after : List ℕ}
    → IsAfter draw least most imported space n start bytes → n < most - length imported → goes_at (nat_lt n (least - length imported)) bytes
    ≡ (b, after) → b ≡ false
    → appended_to imported (items_defined_at draw least most (length imported) start) ≡ (space, after)
after_stop now lt go even = rw (defined_stop now.defining lt go even, now.parts) refl

pub after_full : {A : Type 0} {draw : List A → List ℕ → A × List ℕ} {least most n : ℕ} {imported space : List A}
    {start bytes after : List ℕ}
    → IsAfter draw least most imported space n start bytes → most - length imported ≤ n
    → after ≡ (if nat_lt 0 (length imported) && nat_lt 0 most then (bool_at bytes).1 else bytes)
    → appended_to imported (items_defined_at draw least most (length imported) start) ≡ (space, after)
after_full now le is = rw (defined_full now.defining le is, now.parts) refl
