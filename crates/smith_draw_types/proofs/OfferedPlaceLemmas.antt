-- The number of heap types offered in place of one, and the type at a position among them.
use Rattle.smith_draw_types.proofs.Common.{[], Abstract, AbstractHeapType, ap, arith, below_declared, Bool, bottom, CompositeInnerType}
use Rattle.smith_draw_types.proofs.Common.{Concrete, drop, false, flat_map-cons, get_or, HeapType, if◌then◌else◌, is_directly_below}
use Rattle.smith_draw_types.proofs.Common.{IsBelow, IsOrderly, length, length-map, List, lit<, map, None, not, Option, option_map, refl}
use Rattle.smith_draw_types.proofs.Common.{rules, shared, slice_get, slice_get-grown, slice_get-map, Some, subst, SubType, suc, sym, true}
use Rattle.smith_draw_types.proofs.Common.{zero, ℕ, ◌&&◌, ◌++◌, ◌+◌, ◌-◌, ◌<◌, ◌∙◌, ◌∷◌, ◌≡◌, ◌≤◌}
use Rattle.std.proofs.Common.{drop-cons}
use Rattle.std.proofs.lemmas.List.{length-append}
use Rattle.smith_types.specs.GroupedTypes.{HasDepth, root, deeper}
use Rattle.smith_types.specs.KindCounts.{is_inner_of_kind, indices_from, indices_of_kind}
use Rattle.smith_types.specs.KindCounts as kinds
use Rattle.smith_types.specs.Families as families
use Rattle.smith_types.proofs.SpaceLemmas.{depth_alone, depth_some}
use Rattle.smith_types.proofs.WalkLemmas.{below_level, below_above}
use Rattle.smith_draw_types.specs.Offered.{is_of_kind, is_kind, offered_direct_subtypes, picked_from, of_kinds, supertype_of, ancestors}
use Rattle.smith_draw_types.specs.Offered.{supertypes_of_inner, kinds_at, of_standing, bottom_at, gc_supertypes}
use Rattle.smith_draw_types.proofs.AncestorLemmas.{ancestors_up, ancestors_none}

-- an item of the second of two lists comes after the first in their concatenation
pub slice_get-after : {A : Type 0} (xs ys : List A) (n k : ℕ) (x : A) → n ≡ length xs + k → slice_get ys k ≡ Some x → slice_get (xs ++ ys) n
    ≡ Some x
slice_get-after [] ys n k x is at = let same : n ≡ k = omega (arith, is) in rw same at
slice_get-after (y ∷ xs) ys zero k x is at = absurd (omega (arith, is))
slice_get-after (y ∷ xs) ys (suc n) k x is at = slice_get-after xs ys n k x (omega (arith, is)) at

-- the two tests of a kind agree
same_shared : (kind : AbstractHeapType) (is_shared : Bool) (inner : CompositeInnerType) → (is_shared && is_of_kind kind inner)
    ≡ is_inner_of_kind true kind is_shared inner
same_shared kind is_shared inner = search rules

same_unshared : (kind : AbstractHeapType) (is_shared : Bool) (inner : CompositeInnerType) → (not is_shared && is_of_kind kind inner)
    ≡ is_inner_of_kind false kind is_shared inner
same_unshared kind is_shared inner = search rules

same_kind : (s : Bool) (kind : AbstractHeapType) (t : SubType) → is_kind s kind t ≡ kinds.is_of_kind s kind t
same_kind true kind t = same_shared kind (shared t) t.composite_type.inner
same_kind false kind t = same_unshared kind (shared t) t.composite_type.inner

pick_turn : (b c : Bool) (start : ℕ) (xs : List HeapType) (ys : List ℕ) → b ≡ c → xs ≡ map Concrete ys
    → (if b then Concrete start ∷ xs else xs) ≡ map Concrete (if c then start ∷ ys else ys)
pick_turn true true start xs ys e same = ap (λ (l : List HeapType). Concrete start ∷ l) same
pick_turn false false start xs ys e same = same
pick_turn true false start xs ys e same = cc
pick_turn false true start xs ys e same = cc

-- the types that satisfy a test, by their indices
picked_indices : (f g : SubType → Bool) → ((t : SubType) → f t ≡ g t) → (start : ℕ) (types : List SubType) → picked_from f start types
    ≡ map Concrete (indices_from g start types)
picked_indices f g one start [] = refl
picked_indices f g one start (t ∷ types) = pick_turn (f t) (g t) start _ _ (one t) (picked_indices f g one (start + 1) types)

kind_indices : (types : List SubType) (s : Bool) (kind : AbstractHeapType) → picked_from (is_kind s kind) 0 types ≡ map Concrete
    (indices_of_kind types s kind)
kind_indices types s kind = picked_indices (is_kind s kind) (kinds.is_of_kind s kind) (same_kind s kind) 0 types

-- one more kind
kinds_turn : (types : List SubType) (s : Bool) (ks : List AbstractHeapType) (i : ℕ) (d : AbstractHeapType) → i < length ks
    → of_kinds types s (drop i ks) ≡ map Concrete (indices_of_kind types s (get_or ks i d)) ++ of_kinds types s (drop (i + 1) ks)
kinds_turn types s ks i d inside =
    let next : suc i ≡ i + 1 = omega arith in
    ap (of_kinds types s) (drop-cons ks i d inside)
    ∙ flat_map-cons (λ kind. picked_from (is_kind s kind) 0 types) (get_or ks i d) (drop (suc i) ks)
    ∙ ap (λ (l : List HeapType). l ++ of_kinds types s (drop (suc i) ks)) (kind_indices types s (get_or ks i d))
    ∙ ap (λ (n : ℕ). map Concrete (indices_of_kind types s (get_or ks i d)) ++ of_kinds types s (drop n ks)) next

pub kinds_counted : (types : List SubType) (s : Bool) (ks : List AbstractHeapType) (i n : ℕ) (kind d : AbstractHeapType) → i < length ks
    → kind ≡ get_or ks i d → n ≡ length (indices_of_kind types s kind) → length (of_kinds types s (drop i ks)) ≡ n + length
    (of_kinds types s (drop (i + 1) ks))
kinds_counted types s ks i n kind d inside is count =
    ap length (kinds_turn types s ks i d inside)
    ∙ length-append (map Concrete (indices_of_kind types s (get_or ks i d))) (of_kinds types s (drop (i + 1) ks))
    ∙ ap (λ (m : ℕ). m + length (of_kinds types s (drop (i + 1) ks))) (length-map (indices_of_kind types s (get_or ks i d)) Concrete
    ∙ ap (λ k. length (indices_of_kind types s k)) (sym is) ∙ sym count)

-- one kind, and two
pub one_kind : (types : List SubType) (s : Bool) (kind : AbstractHeapType) → length (of_kinds types s (kind ∷ []))
    ≡ length (indices_of_kind types s kind)
one_kind types s kind = let counted = kinds_counted types s (kind ∷ []) 0 (length (indices_of_kind types s kind)) kind kind (lit< tt) refl
    refl in omega (arith, counted)

pub two_kinds : (types : List SubType) (s : Bool) (a b : AbstractHeapType) → length (of_kinds types s (a ∷ b ∷ []))
    ≡ length (of_kinds types s (a ∷ [])) + length (of_kinds types s (b ∷ []))
two_kinds types s a b =
    let both = kinds_counted types s (a ∷ b ∷ []) 0 (length (indices_of_kind types s a)) a a (lit< tt) refl refl in
    let first = one_kind types s a in
    omega (arith, both, first)

-- the position is within the next kind
pub kinds_here : (types : List SubType) (s : Bool) (ks : List AbstractHeapType) (i place found : ℕ) (kind d : AbstractHeapType)
    → i < length ks → kind ≡ get_or ks i d → slice_get (indices_of_kind types s kind) place ≡ Some found
    → slice_get (of_kinds types s (drop i ks)) place ≡ Some (Concrete found)
kinds_here types s ks i place found kind d inside is at =
    let here : slice_get (indices_of_kind types s (get_or ks i d)) place ≡ Some found =
    ap (λ k. slice_get (indices_of_kind types s k) place) (sym is) ∙ at in
    rw (kinds_turn types s ks i d inside)
    (slice_get-grown (map Concrete (indices_of_kind types s (get_or ks i d))) (of_kinds types s (drop (i + 1) ks)) place (Concrete found)
    (slice_get-map Concrete (indices_of_kind types s (get_or ks i d)) place ∙ ap (λ o. option_map Concrete o) here))

-- the position is after it
pub kinds_later : (types : List SubType) (s : Bool) (ks : List AbstractHeapType) (i n place : ℕ) (kind d : AbstractHeapType) (x : HeapType)
    → i < length ks → kind ≡ get_or ks i d → n ≡ length (indices_of_kind types s kind) → n ≤ place
    → slice_get (of_kinds types s (drop (i + 1) ks)) (place - n) ≡ Some x → slice_get (of_kinds types s (drop i ks)) place ≡ Some x
kinds_later types s ks i n place kind d x inside is count past at =
    let long : length (map Concrete (indices_of_kind types s (get_or ks i d))) ≡ n = length-map (indices_of_kind types s (get_or ks i d))
    Concrete ∙ ap (λ k. length (indices_of_kind types s k)) (sym is) ∙ sym count in
    rw (kinds_turn types s ks i d inside)
    (slice_get-after (map Concrete (indices_of_kind types s (get_or ks i d))) (of_kinds types s (drop (i + 1) ks)) place (place - n) x
    (omega (arith, long, past)) at)

-- the proper supertypes: one for each smaller depth
pub ancestors_long : (types : List SubType) → IsOrderly types → {i d : ℕ} → HasDepth types i d → length (ancestors types i) + 1 ≡ d
ancestors_long types o (root {i = i} {t = t} at none) = rw (ancestors_none types i (ap supertype_of at ∙ none)) refl
ancestors_long types o (deeper {i = i} {s = s} {d = d} {t = t} at up above) =
    let rest = ancestors_long types o above in
    rw (ancestors_up types o i s (ap supertype_of at ∙ up)) (omega (arith, rest))

-- each is at the position given by its depth
pub ancestor_at : (types : List SubType) → IsOrderly types → (i d k a e : ℕ) → HasDepth types i d → HasDepth types a e
    → IsBelow types (Concrete i) (Concrete a) → e + suc k ≡ d → slice_get (ancestors types i) k ≡ Some (Concrete a)
ancestor_at types o i d k a e (root at none) high below far = let some : 1 ≤ e = depth_some types high in absurd (omega (arith, some, far))
ancestor_at types o i d zero a e (deeper {s = s} {d = f} {t = t} at up above) high below far =
    let level : e ≡ f = omega (arith, far) in
    let same : a ≡ s = below_level types o i a s f below (below_declared types i s t at up) (subst (λ n. HasDepth types a n) level high)
    above in
    rw (ancestors_up types o i s (ap supertype_of at ∙ up)) (ap (λ n. Some (Concrete n)) (sym same))
ancestor_at types o i d (suc k) a e (deeper {s = s} {d = f} {t = t} at up above) high below far =
    let other = λ (same : i ≡ a). let one = depth_alone types (deeper {t = t} at up above)
    (subst (λ n. HasDepth types n e) (sym same) high) in absurd {A = ⊥} (omega (arith, one, far)) in
    rw (ancestors_up types o i s (ap supertype_of at ∙ up))
    (ancestor_at types o s f k a e above high (below_above types o i s a t at up other below) (omega (arith, far)))

kinds_long : (types : List SubType) (i : ℕ) (t : SubType) → slice_get types i ≡ Some t → length (kinds_at types i)
    ≡ length (supertypes_of_inner t.composite_type.inner)
kinds_long types i t at =
    ap (λ o. length (of_standing (λ (u : SubType). map (Abstract (shared u)) (supertypes_of_inner u.composite_type.inner)) o)) at
    ∙ length-map (supertypes_of_inner t.composite_type.inner) (Abstract (shared t))

-- the number of offered supertypes of a concrete type
pub supertypes_long : (types : List SubType) → IsOrderly types → (i d : ℕ) (t : SubType) (ks : List AbstractHeapType)
    → slice_get types i ≡ Some t → HasDepth types i d → ks ≡ supertypes_of_inner t.composite_type.inner
    → length ks + d ≡ length (gc_supertypes types (Concrete i))
supertypes_long types o i d t ks at deep is =
    let kinds = kinds_long types i t at in
    let up = ancestors_long types o deep in
    let both = length-append (kinds_at types i) (ancestors types i) in
    let same : length ks ≡ length (supertypes_of_inner t.composite_type.inner) = ap length is in
    omega (arith, kinds, up, both, same)

pub supertypes_alone : (types : List SubType) (i : ℕ) → slice_get types i ≡ None → 1 ≡ length (gc_supertypes types (Concrete i))
supertypes_alone types i gone =
    let none = ap length (ancestors_none types i (ap supertype_of gone)) in
    let kinds : length (kinds_at types i) ≡ 0 =
    ap (λ o. length (of_standing (λ (u : SubType). map (Abstract (shared u)) (supertypes_of_inner u.composite_type.inner)) o)) gone in
    let both = length-append (kinds_at types i) (ancestors types i) in
    omega (arith, none, kinds, both)

-- a position among the proper supertypes
pub record IsUp (types : List SubType) (i d n place : ℕ) : Type 0 where
  pub kinds : length (kinds_at types i) ≡ n
  pub near : place - n + 2 ≤ d

pub is_up : (types : List SubType) → IsOrderly types → (i d place : ℕ) (t : SubType) (ks : List AbstractHeapType)
    → slice_get types i ≡ Some t → HasDepth types i d → ks ≡ supertypes_of_inner t.composite_type.inner
    → place < length (kinds_at types i ++ ancestors types i) → length ks ≤ place → IsUp types i d (length ks) place
is_up types o i d place t ks at deep is inside past =
    let kinds = kinds_long types i t at in
    let up = ancestors_long types o deep in
    let both = length-append (kinds_at types i) (ancestors types i) in
    let same : length ks ≡ length (supertypes_of_inner t.composite_type.inner) = ap length is in
    record { kinds = omega (arith, kinds, same); near = omega (arith, kinds, up, both, same, inside, past) }

pub up_found : (types : List SubType) → IsOrderly types → (i d n place a : ℕ) → HasDepth types i d → IsUp types i d n place → n ≤ place
    → HasDepth types a (d - 1 - (place - n)) → IsBelow types (Concrete i) (Concrete a)
    → slice_get (kinds_at types i ++ ancestors types i) place ≡ Some (Concrete a)
up_found types o i d n place a deep up past high below =
    let kinds : length (kinds_at types i) ≡ n = up.kinds in
    let near : place - n + 2 ≤ d = up.near in
    slice_get-after (kinds_at types i) (ancestors types i) place (place - n) (Concrete a) (omega (arith, kinds, past))
    (ancestor_at types o i d (place - n) a (d - 1 - (place - n)) deep high below (omega (arith, near)))

-- the direct subtypes of a type, by their indices
direct_indices : (types : List SubType) (i : ℕ) → offered_direct_subtypes types i ≡ map Concrete (families.direct_subtypes types i)
direct_indices types i = picked_indices (is_directly_below i) (is_directly_below i) (λ t. refl) 0 types

pub direct_counted : (types : List SubType) (i n : ℕ) → n ≡ length (families.direct_subtypes types i)
    → n ≡ length (offered_direct_subtypes types i)
direct_counted types i n count = count ∙ sym (length-map (families.direct_subtypes types i) Concrete)
    ∙ ap length (sym (direct_indices types i))

pub direct_inside : (types : List SubType) (i place : ℕ) → place < length (offered_direct_subtypes types i)
    → place < length (families.direct_subtypes types i)
direct_inside types i place inside = omega (arith, inside, direct_counted types i (length (families.direct_subtypes types i)) refl)

pub direct_found : (types : List SubType) (i place found : ℕ) → slice_get (families.direct_subtypes types i) place ≡ Some found
    → slice_get (offered_direct_subtypes types i) place ≡ Some (Concrete found)
direct_found types i place found at =
    ap (λ (l : List HeapType). slice_get l place) (direct_indices types i)
    ∙ slice_get-map Concrete (families.direct_subtypes types i) place
    ∙ ap (λ (o : Option ℕ). option_map Concrete o) at

-- a position after the type itself and its direct subtypes
pub after_direct : (own : HeapType) (direct more : List HeapType) (place n : ℕ) (x : HeapType) → n ≡ length direct → n < place
    → slice_get more (place - 1 - n) ≡ Some x → slice_get (own ∷ direct ++ more) place ≡ Some x
after_direct own direct more place n x count past at = slice_get-after (own ∷ direct) more place (place - 1 - n) x
    (omega (arith, count, past)) at

pub exact_most : (b : Bool) (n : ℕ) → (if b then 1 + n else 0) ≤ 1 + n
exact_most true n = omega arith
exact_most false n = omega arith

pub bottom_most : (types : List SubType) (i : ℕ) → length (bottom_at types i) ≤ 1
bottom_most types i = at_most (slice_get types i)
  where
    at_most : (o : Option SubType) → length (of_standing (λ t. Abstract (shared t) (bottom t) ∷ []) o) ≤ 1
    at_most None = omega arith
    at_most (Some t) = omega arith
