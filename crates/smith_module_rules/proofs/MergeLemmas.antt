-- Numbers that are inserted one by one into a list in ascending order.
use Rattle.std.proofs.Common.{arith, ◌≡◌, ◌⊎◌, inl, inr, ℕ, zero, suc, ◌+◌, ◌-◌, ◌<◌, ◌≤◌, List, [], ◌∷◌, ◌++◌, length, get_or, refl, sym}
use Rattle.std.proofs.Common.{subst, ap, ◌∙◌}
use Rattle.std.specs.Prelude.{take, drop, Ok, Err}
use Rattle.std.specs.List.{All, AllPairs, Contains}
use Rattle.std.specs.List.Sorted.{IsBinarySearchResult, IsStrictlyIncreasing}
use Rattle.std.specs.Ordering.{nat_cmp}
use Rattle.std.proofs.lemmas.Bool.{cases_eq}
use Rattle.std.proofs.lemmas.List.Sorted.{searched}
use Rattle.std.proofs.lemmas.List.{append_assoc, append-nil, take_all, take_more, length-drop, length-take-le, get_or-take, get_or-drop}
use Rattle.std.proofs.lemmas.List.{get_or_default, take-append-drop, drop-drop}
use Rattle.std.proofs.lemmas.List.Elements.{All-nil, All-cons, All-append, All-weaker, All-contains, All-contains_itself}
use Rattle.std.proofs.lemmas.List.Elements.{Contains-append_left, Contains-append_right, Contains-append_cases, Contains-push_cases}
use Rattle.std.proofs.lemmas.List.Kept.{AllPairs-cons, AllPairs-from_increasing}
use Rattle.smith_module_rules.specs.CollectedValues.{IsSortedSet, IsPlaceOf, IsInserted}

-- each number is below all later ones
abbrev pub Rises : List ℕ → Type 0
Rises numbers = AllPairs (λ x y. x < y) numbers

-- each of some numbers is below each of others
abbrev AreBelow : List ℕ → List ℕ → Type 0
AreBelow xs ys = (x y : ℕ) → Contains xs x → Contains ys y → x < y

increasing : (numbers : List ℕ) → Rises numbers → IsStrictlyIncreasing numbers
increasing numbers rises k within = rises k (k + 1) 0 (omega arith) within

pub rises_from : (numbers : List ℕ) → IsStrictlyIncreasing numbers → Rises numbers
rises_from numbers ascending = AllPairs-from_increasing numbers ascending

rises_tail : (x : ℕ) (xs : List ℕ) → Rises (x ∷ xs) → Rises xs
rises_tail x xs rises i j d before within = rises (suc i) (suc j) d (omega arith) (omega arith)

first_below : (x : ℕ) (xs : List ℕ) → Rises (x ∷ xs) → All (λ y. x < y) xs
first_below x xs rises k d within = rises zero (suc k) d (omega arith) (omega arith)

all_of : (P : ℕ → Type 0) (xs : List ℕ) → ((x : ℕ) → Contains xs x → P x) → All P xs
all_of P xs each = All-weaker (Contains xs) P each xs (All-contains_itself xs)

here : (x : ℕ) (xs : List ℕ) → Contains (x ∷ xs) x
here x xs = (zero, omega arith, refl)

later : (x : ℕ) (xs : List ℕ) (y : ℕ) → Contains xs y → Contains (x ∷ xs) y
later x xs y inside = Contains-append_right (x ∷ []) xs y inside

one_of : (x : ℕ) (xs : List ℕ) (y : ℕ) → Contains (x ∷ xs) y → (x ≡ y) ⊎ Contains xs y
one_of x xs y inside = elim (Contains-append_cases (x ∷ []) xs y inside) [
  | inl alone ↦ elim (Contains-push_cases [] x y alone) [
    | inl none ↦ absurd (omega (arith, none.1))
    | inr same ↦ inl same
  ]
  | inr more ↦ inr more
]

rises_left : (xs ys : List ℕ) → Rises (xs ++ ys) → Rises xs
rises_left [] ys rises = λ i j d before within. absurd (omega arith)
rises_left (x ∷ xs) ys rises =
    AllPairs-cons (λ a b. a < b) x xs
    (all_of (λ y. x < y) xs (λ y inside. All-contains (λ y. x < y) (xs ++ ys) y (first_below x (xs ++ ys) rises)
    (Contains-append_left xs ys y inside)))
    (rises_left xs ys (rises_tail x (xs ++ ys) rises))

rises_right : (xs ys : List ℕ) → Rises (xs ++ ys) → Rises ys
rises_right [] ys rises = rises
rises_right (x ∷ xs) ys rises = rises_right xs ys (rises_tail x (xs ++ ys) rises)

rises_across : (xs ys : List ℕ) → Rises (xs ++ ys) → AreBelow xs ys
rises_across [] ys rises = λ x y inside other. absurd (omega (arith, inside.1))
rises_across (x ∷ xs) ys rises = λ a b inside other. elim (one_of x xs a inside) [
  | inl same ↦ subst (λ n. n < b) same (All-contains (λ y. x < y) (xs ++ ys) b (first_below x (xs ++ ys) rises)
      (Contains-append_right xs ys b other))
  | inr more ↦ rises_across xs ys (rises_tail x (xs ++ ys) rises) a b more other
]

rises_joined : (xs ys : List ℕ) → Rises xs → Rises ys → AreBelow xs ys → Rises (xs ++ ys)
rises_joined [] ys left right across = right
rises_joined (x ∷ xs) ys left right across =
    AllPairs-cons (λ a b. a < b) x (xs ++ ys)
    (All-append (λ y. x < y) xs ys (first_below x xs left) (all_of (λ y. x < y) ys (λ y inside. across x y (here x xs) inside)))
    (rises_joined xs ys (rises_tail x xs left) right (λ a b inside other. across a b (later x xs a inside) other))

all_at : (P : ℕ → Type 0) (xs : List ℕ) → ((k : ℕ) → k < length xs → P (get_or xs k 0)) → All P xs
all_at P xs each k d within = subst P (get_or_default xs k 0 d within) (each k within)

not_falling : (numbers : List ℕ) → IsStrictlyIncreasing numbers → (i j : ℕ) → i ≤ j → j < length numbers
    → get_or numbers i 0 ≤ get_or numbers j 0
not_falling numbers ascending i j before within = elim (cases_eq i j) [
  | inl same ↦ omega (arith, ap (λ k. get_or numbers k 0) same)
  | inr apart ↦ let less = rises_from numbers ascending i j 0 (omega arith) within in omega arith
]

-- the result of a binary search
pub place_found : (numbers : List ℕ) (number at : ℕ) → IsStrictlyIncreasing numbers → IsBinarySearchResult (λ y. nat_cmp y number) numbers
    (Ok at)
    → IsPlaceOf numbers number at (at + 1)
place_found numbers number at ascending found =
    let (inside, same) = searched numbers number (Ok at) found (not_falling numbers ascending) in record {
      ordered = omega arith;
      fits = omega arith;
      below = λ k before. subst (λ n. get_or numbers k 0 < n) same (rises_from numbers ascending k at 0 before inside);
      same = λ k from to. ap (λ i. get_or numbers i 0) (omega arith) ∙ same;
      above = λ k from within. subst (λ n. n < get_or numbers k 0) same (rises_from numbers ascending at k 0 (omega arith) within);
    }

pub place_missing : (numbers : List ℕ) (number at : ℕ) → IsStrictlyIncreasing numbers → IsBinarySearchResult (λ y. nat_cmp y number) numbers
    (Err at)
    → IsPlaceOf numbers number at at
place_missing numbers number at ascending found =
    let (fits, below, above) = searched numbers number (Err at) found (not_falling numbers ascending) in record {
      ordered = omega arith;
      fits = fits;
      below = below;
      same = λ k from to. absurd (omega arith);
      above = above;
    }

-- a place in a list divides it
pub put : (made rest : List ℕ) (number before after : ℕ) (new left : List ℕ) → IsPlaceOf rest number before after → left ≡ drop after rest
    → new ≡ (made ++ take before rest) ++ number ∷ [] → IsInserted made rest number new left
put made rest number before after new left place is_left is_new = record {
  front = take before rest;
  same = middle;
  parts = sym (take-append-drop before rest) ∙ ap (λ xs. take before rest ++ xs) (sym (take-append-drop (after - before) (drop before rest))
      ∙ ap (λ xs. middle ++ xs) onward);
  below = all_at (λ x. x < number) (take before rest) (λ k within.
      let inside : k < before = omega (arith, length-take-le before rest fits) in
      subst (λ n. n < number) (sym (get_or-take before rest k 0 inside)) (place.below k inside));
  is = all_at (λ x. x ≡ number) middle (λ k within.
      let inside : k < after - before = omega (arith, length-take-le (after - before) (drop before rest) long) in
      get_or-take (after - before) (drop before rest) k 0 inside ∙ get_or-drop before rest k 0 ∙ place.same (before + k) (omega arith)
      (omega arith));
  above = subst (All (λ x. number < x)) (sym is_left) (all_at (λ x. number < x) (drop after rest) (λ k within.
      subst (λ n. number < n) (sym (get_or-drop after rest k 0))
      (place.above (after + k) (omega arith) (omega (arith, length-drop after rest)))));
  longer = is_new ∙ append_assoc made (take before rest) (number ∷ []);
}
  where
    middle : List ℕ
    middle = take (after - before) (drop before rest)

    fits : before ≤ length rest
    fits = let ordered = place.ordered in let within = place.fits in omega arith

    long : after - before ≤ length (drop before rest)
    long = let within = place.fits in omega (arith, length-drop before rest)

    onward : drop (after - before) (drop before rest) ≡ left
    onward = let ordered = place.ordered in drop-drop (after - before) before rest ∙ ap (λ n. drop n rest) (omega arith) ∙ sym is_left

-- the made list and the rest are, in ascending order, the constants and the numbers so far, and the
-- made list is below all others
pub record IsMerging (constants near : List ℕ) (k : ℕ) (made rest : List ℕ) : Type 0 where
  pub rises : Rises (made ++ rest)
  pub keeps : (n : ℕ) → Contains (constants ++ take k near) n → Contains (made ++ rest) n
  pub adds_none : (n : ℕ) → Contains (made ++ rest) n → Contains (constants ++ take k near) n
  pub below : (j : ℕ) → k ≤ j → j < length near → All (λ x. x < get_or near j 0) made

pub merging_begins : (constants near : List ℕ) → IsStrictlyIncreasing constants → IsMerging constants near 0 [] constants
merging_begins constants near ascending = record {
  rises = rises_from constants ascending;
  keeps = λ n inside. subst (λ xs. Contains xs n) (append-nil constants) inside;
  adds_none = λ n inside. subst (λ xs. Contains xs n) (sym (append-nil constants)) inside;
  below = λ j from within. All-nil (λ x. x < get_or near j 0);
}

pub rest_rises : (constants near : List ℕ) (k : ℕ) (made rest : List ℕ) → IsMerging constants near k made rest → IsStrictlyIncreasing rest
rest_rises constants near k made rest merging = increasing rest (rises_right made rest merging.rises)

pub merging_goes_on : (constants near : List ℕ) (k : ℕ) (made rest new left : List ℕ) → IsStrictlyIncreasing near → k < length near
    → IsMerging constants near k made rest → IsInserted made rest (get_or near k 0) new left → IsMerging constants near (k + 1) new left
merging_goes_on constants near k made rest new left near_rises inside merging put = record {
  rises = subst Rises (sym whole) (rises_joined made (front ++ number ∷ left) (rises_left made tail rises)
      (rises_joined front (number ∷ left) (rises_left front (put.same ++ left) tail_rises)
      (AllPairs-cons (λ a b. a < b) number left put.above (rises_right put.same left (rises_right front (put.same ++ left) tail_rises)))
      front_below) made_below);
  keeps = λ n there. subst (λ xs. Contains xs n) (sym whole) (keeps n there);
  adds_none = λ n there. adds_none n (subst (λ xs. Contains xs n) whole there);
  below = λ j from within. subst (All (λ x. x < get_or near j 0)) (sym put.longer)
      (All-append (λ x. x < get_or near j 0) made (front ++ number ∷ []) (merging.below j (omega arith) within)
      (All-append (λ x. x < get_or near j 0) front (number ∷ [])
      (All-weaker (λ x. x < number) (λ x. x < get_or near j 0) (λ x small. let next = ahead j from within in omega arith) front put.below)
      (All-cons (λ x. x < get_or near j 0) number [] (ahead j from within) (All-nil (λ x. x < get_or near j 0)))));
}
  where
    number : ℕ
    number = get_or near k 0

    front : List ℕ
    front = put.front

    tail : List ℕ
    tail = front ++ (put.same ++ left)

    whole : new ++ left ≡ made ++ (front ++ number ∷ left)
    whole = ap (λ xs. xs ++ left) put.longer ∙ append_assoc made (front ++ number ∷ []) left ∙ ap (λ xs. made ++ xs)
        (append_assoc front (number ∷ []) left)

    rises : Rises (made ++ tail)
    rises = subst (λ xs. Rises (made ++ xs)) put.parts merging.rises

    tail_rises : Rises tail
    tail_rises = rises_right made tail rises

    ahead : (j : ℕ) → k + 1 ≤ j → j < length near → number < get_or near j 0
    ahead j from within = rises_from near near_rises k j 0 (omega arith) within

    front_below : AreBelow front (number ∷ left)
    front_below x y first second = elim (one_of number left y second) [
      | inl same ↦ subst (λ n. x < n) same (All-contains (λ a. a < number) front x put.below first)
      | inr more ↦ rises_across front (put.same ++ left) tail_rises x y first (Contains-append_right put.same left y more)
    ]

    made_below : AreBelow made (front ++ number ∷ left)
    made_below x y first second = elim (Contains-append_cases front (number ∷ left) y second) [
      | inl early ↦ rises_across made tail rises x y first (Contains-append_left front (put.same ++ left) y early)
      | inr late ↦ elim (one_of number left y late) [
        | inl same ↦ subst (λ n. x < n) same (All-contains (λ a. a < number) made x (merging.below k (omega arith) inside) first)
        | inr more ↦ rises_across made tail rises x y first (Contains-append_right front (put.same ++ left) y
            (Contains-append_right put.same left y more))
      ]
    ]

    more_near : take (k + 1) near ≡ take k near ++ number ∷ []
    more_near = take_more near k 0 inside

    placed : (n : ℕ) → Contains (front ++ number ∷ left) n → Contains (made ++ (front ++ number ∷ left)) n
    placed n there = Contains-append_right made (front ++ number ∷ left) n there

    kept : (n : ℕ) → Contains (made ++ tail) n → Contains (made ++ (front ++ number ∷ left)) n
    kept n there = elim (Contains-append_cases made tail n there) [
      | inl first ↦ Contains-append_left made (front ++ number ∷ left) n first
      | inr second ↦ elim (Contains-append_cases front (put.same ++ left) n second) [
        | inl early ↦ placed n (Contains-append_left front (number ∷ left) n early)
        | inr late ↦ elim (Contains-append_cases put.same left n late) [
          | inl same ↦ placed n
              (Contains-append_right front (number ∷ left) n
              (subst (Contains (number ∷ left)) (sym (All-contains (λ x. x ≡ number) put.same n put.is same)) (here number left)))
          | inr more ↦ placed n (Contains-append_right front (number ∷ left) n (later number left n more))
        ]
      ]
    ]

    keeps : (n : ℕ) → Contains (constants ++ take (k + 1) near) n → Contains (made ++ (front ++ number ∷ left)) n
    keeps n there = elim (Contains-push_cases (constants ++ take k near) number n
        (subst (λ xs. Contains xs n) (ap (λ xs. constants ++ xs) more_near ∙ sym (append_assoc constants (take k near) (number ∷ [])))
        there)) [
          | inl before ↦ kept n (subst (λ xs. Contains (made ++ xs) n) put.parts (merging.keeps n before))
          | inr same ↦ placed n (Contains-append_right front (number ∷ left) n (subst (Contains (number ∷ left)) same (here number left)))
        ]

    known : (n : ℕ) → Contains (made ++ tail) n → Contains (constants ++ take (k + 1) near) n
    known n there =
        let before = merging.adds_none n (subst (λ xs. Contains (made ++ xs) n) (sym put.parts) there) in
        subst (λ xs. Contains xs n) (append_assoc constants (take k near) (number ∷ []) ∙ ap (λ xs. constants ++ xs) (sym more_near))
        (Contains-append_left (constants ++ take k near) (number ∷ []) n before)

    added : Contains (constants ++ take (k + 1) near) number
    added = Contains-append_right constants (take (k + 1) near) number (subst (λ xs. Contains xs number) (sym more_near)
        (Contains-append_right (take k near) (number ∷ []) number (here number [])))

    adds_none : (n : ℕ) → Contains (made ++ (front ++ number ∷ left)) n → Contains (constants ++ take (k + 1) near) n
    adds_none n there = elim (Contains-append_cases made (front ++ number ∷ left) n there) [
      | inl first ↦ known n (Contains-append_left made tail n first)
      | inr second ↦ elim (Contains-append_cases front (number ∷ left) n second) [
        | inl early ↦ known n (Contains-append_right made tail n (Contains-append_left front (put.same ++ left) n early))
        | inr late ↦ elim (one_of number left n late) [
          | inl same ↦ subst (Contains (constants ++ take (k + 1) near)) same added
          | inr more ↦ known n (Contains-append_right made tail n (Contains-append_right front (put.same ++ left) n
              (Contains-append_right put.same left n more)))
        ]
      ]
    ]

-- no number is left to insert
pub merging_ends : (constants near : List ℕ) (k : ℕ) (made rest : List ℕ) → length near ≤ k → IsMerging constants near k made rest
    → IsSortedSet (constants ++ near) (made ++ rest)
merging_ends constants near k made rest ended merging = record {
  ascending = increasing (made ++ rest) merging.rises;
  keeps = λ n there. merging.keeps n (subst (λ xs. Contains (constants ++ xs) n) (sym (take_all k near ended)) there);
  adds_none = λ n there. subst (λ xs. Contains (constants ++ xs) n) (take_all k near ended) (merging.adds_none n there);
}

-- numbers in ascending order, then merged with others
pub order_after : (others numbers ordered made : List ℕ) → IsSortedSet numbers ordered → IsSortedSet (others ++ ordered) made
    → IsSortedSet (others ++ numbers) made
order_after others numbers ordered made first second = record {
  ascending = second.ascending;
  keeps = λ n there. second.keeps n (elim (Contains-append_cases others numbers n there) [
    | inl other ↦ Contains-append_left others ordered n other
    | inr number ↦ Contains-append_right others ordered n (first.keeps n number)
  ]);
  adds_none = λ n there. elim (Contains-append_cases others ordered n (second.adds_none n there)) [
    | inl other ↦ Contains-append_left others numbers n other
    | inr number ↦ Contains-append_right others numbers n (first.adds_none n number)
  ];
}
