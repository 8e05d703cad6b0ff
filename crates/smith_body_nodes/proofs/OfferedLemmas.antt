-- The places of offered items.
use Rattle.smith_body_nodes.proofs.Common.{[], ap, append-nil, arith, Bool, choose_at, false, length, List, None, Option, option_map}
use Rattle.smith_body_nodes.proofs.Common.{range_at, refl, slice_get, slice_get-get_or, Some, suc, sym, true, zero, ℕ, ◌++◌, ◌+◌, ◌-◌, ◌<◌}
use Rattle.smith_body_nodes.proofs.Common.{◌∙◌, ◌∷◌, ◌≡◌}
use Rattle.std.proofs.Common.{◌*◌, ◌/◌}
use Rattle.std.proofs.Common.{length-append}
use Rattle.std.specs.Prelude.{if◌then◌else◌, min}
use Rattle.std.proofs.Math.ListN.{get_or-append}
use Rattle.std.proofs.Math.Seq.{get_or-append_seam}
use Rattle.std.proofs.lemmas.Option.{slice_get_past}
use Rattle.smith_body_nodes.specs.Offered.{chunk_at, offered}

pub offered_more : (test : ℕ → Bool) (n : ℕ) → test n ≡ true → offered test (n + 1) ≡ offered test n ++ n ∷ []
unfolding offered
offered_more test n is =
    let next : n + 1 ≡ suc n = omega arith in
    let opened : offered test (suc n) ≡ offered test n ++ n ∷ [] = rw is refl in
    rw next opened

pub offered_less : (test : ℕ → Bool) (n : ℕ) → test n ≡ false → offered test (n + 1) ≡ offered test n
unfolding offered
offered_less test n is =
    let next : n + 1 ≡ suc n = omega arith in
    let opened : offered test (suc n) ≡ offered test n = rw (is, append-nil) refl in
    rw next opened

pub offered_none : (test : ℕ → Bool) → offered test 0 ≡ []
unfolding offered
offered_none test = refl

slice_get_left : (xs ys : List ℕ) (k : ℕ) → k < length xs → slice_get (xs ++ ys) k ≡ slice_get xs k
slice_get_left xs ys k inside =
    let long : k < length (xs ++ ys) = simp length-append (omega arith) in
    slice_get-get_or (xs ++ ys) k 0 long ∙ (ap (λ (n : ℕ). Some n) (get_or-append xs ys 0 k inside) ∙ sym (slice_get-get_or xs k 0 inside))

one_more : (test : ℕ → Bool) (n k : ℕ) → k < length (offered test n) → (k < length (offered test (suc n)))
    × (slice_get (offered test (suc n)) k ≡ slice_get (offered test n) k)
unfolding offered
one_more test n k inside =
    let more = if test n then n ∷ [] else [] in
    let long : k < length (offered test n ++ more) = simp length-append (omega arith) in
    (long, slice_get_left (offered test n) more k inside)

many_more : (test : ℕ → Bool) (more n k : ℕ) → k < length (offered test n) → (k < length (offered test (n + more)))
    × (slice_get (offered test (n + more)) k ≡ slice_get (offered test n) k)
many_more test zero n k inside =
    let same : n + 0 ≡ n = omega arith in
    rw same (inside, refl)
many_more test (suc more) n k inside =
    let (long, is) = many_more test more n k inside in
    let (longer, is') = one_more test (n + more) k long in
    let next : n + suc more ≡ suc (n + more) = omega arith in
    rw next (longer, is' ∙ is)

-- the place of an offered item is the number of offered items before it
pub offered_place : (test : ℕ → Bool) (size index : ℕ) → index < size → test index ≡ true
    → slice_get (offered test size) (length (offered test index)) ≡ Some index
offered_place test size index inside is =
    let xs = offered test index in
    let more = offered_more test index is in
    let long : length xs < length (xs ++ index ∷ []) = simp length-append (omega arith) in
    let here : slice_get (xs ++ index ∷ []) (length xs) ≡ Some index =
    slice_get-get_or (xs ++ index ∷ []) (length xs) 0 long ∙ ap (λ (n : ℕ). Some n) (get_or-append_seam xs index [] 0) in
    let long' : length xs < length (offered test (index + 1)) = rw more long in
    let here' : slice_get (offered test (index + 1)) (length xs) ≡ Some index = rw more here in
    let (_, kept) = many_more test (size - (index + 1)) (index + 1) (length xs) long' in
    let all : index + 1 + (size - (index + 1)) ≡ size = omega arith in
    (rw all at kept) ∙ here'

-- the number of offered items, item by item
pub counted_none : (test : ℕ → Bool) → 0 ≡ length (offered test 0)
counted_none test = sym (ap (λ (xs : List ℕ). length xs) (offered_none test))

pub counted_more : (test : ℕ → Bool) (n count next : ℕ) → test n ≡ true → count ≡ length (offered test n) → next ≡ count + 1
    → next ≡ length (offered test (n + 1))
counted_more test n count next is counted next_is =
    let more = offered_more test n is in
    let long : length (offered test n ++ n ∷ []) ≡ length (offered test n) + 1 = simp length-append refl in
    rw (next_is, counted, more, long) refl

pub counted_same : (test : ℕ → Bool) (n count next : ℕ) → test n ≡ false → count ≡ length (offered test n) → next ≡ count
    → next ≡ length (offered test (n + 1))
counted_same test n count next is counted next_is = rw (next_is, counted, offered_less test n is) refl

-- the rest of a place after some items
pub placed_none : (test : ℕ → Bool) (place : ℕ) → place + length (offered test 0) ≡ place
placed_none test place = let none = counted_none test in omega arith

pub placed_more : (test : ℕ → Bool) (n rest next place : ℕ) → test n ≡ true → rest + length (offered test n) ≡ place → 0 < rest
    → next ≡ rest - 1 → next + length (offered test (n + 1)) ≡ place
placed_more test n rest next place is placed some next_is =
    let count : length (offered test n) + 1 ≡ length (offered test (n + 1)) = counted_more test n (length (offered test n))
    (length (offered test n) + 1) is refl refl in
    omega arith

pub placed_same : (test : ℕ → Bool) (n rest next place : ℕ) → test n ≡ false → rest + length (offered test n) ≡ place → next ≡ rest
    → next + length (offered test (n + 1)) ≡ place
placed_same test n rest next place is placed next_is =
    let count : length (offered test n) ≡ length (offered test (n + 1)) = counted_same test n (length (offered test n))
    (length (offered test n)) is refl refl in
    omega arith

pub placed_here : (test : ℕ → Bool) (size n rest place : ℕ) → test n ≡ true → n < size → rest + length (offered test n) ≡ place → rest ≡ 0
    → Some n ≡ slice_get (offered test size) place
placed_here test size n rest place is inside placed none =
    let at : length (offered test n) ≡ place = omega arith in
    sym (rw at at (offered_place test size n inside is))

pub placed_past : (test : ℕ → Bool) (size n rest place : ℕ) → n ≡ size → rest + length (offered test n) ≡ place
    → None ≡ slice_get (offered test size) place
placed_past test size n rest place all placed =
    let placed' : rest + length (offered test size) ≡ place = rw all at placed in
    sym (slice_get_past (offered test size) place (omega arith))

-- a choice by the drawn place
pub chosen_at_place : {A : Type 0} (items : List A) (bytes left : List ℕ) (place : ℕ) (o : Option A) → range_at 0 (length items - 1) bytes
    ≡ (place, left) → o ≡ slice_get items place → choose_at items bytes ≡ (o, left)
unfolding choose_at
chosen_at_place items bytes left place o drawn is = rw (drawn, is) refl

-- a choice in the drawn chunk
pub chosen_in_chunk : (test : ℕ → Bool) (size : ℕ) (bytes middle left : List ℕ) (chunk count : ℕ) (o : Option ℕ)
    → range_at 0 ((size - 1) / 256) bytes ≡ (chunk, middle) → count ≡ min (size - 256 * chunk) 256
    → choose_at (offered (λ (index : ℕ). test (256 * chunk + index)) count) middle ≡ (o, left) → chunk_at test size bytes
    ≡ (option_map (λ (index : ℕ). 256 * chunk + index) o, left)
unfolding chunk_at
chosen_in_chunk test size bytes middle left chunk count o drawn is chosen = rw (drawn, sym is, chosen) refl
