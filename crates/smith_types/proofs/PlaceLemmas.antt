-- The places of types, as types are added, and the supertypes that they lead to.
use Rattle.smith_types.proofs.Common.{[], add-one, ap, arith, Bool, Concrete, false, get_or, inl, inr, IsTrue, length, length-append, List}
use Rattle.smith_types.proofs.Common.{None, refl, shared, slice_get-get_or, slice_get_within, Some, subst, SubType, suc, sym, take}
use Rattle.smith_types.proofs.Common.{take_all, ℕ, ◌++◌, ◌+◌, ◌-◌, ◌<◌, ◌^◌, ◌↔◌, ◌∙◌, ◌∷◌, ◌≡◌, ◌≤◌}
use Rattle.std.specs.Prelude.{nat_eq}
use Rattle.std.proofs.lemmas.Bool.{eqb-true, eq-eqb}
use Rattle.std.proofs.lemmas.List.{get_or-map, length-map, length-take-le, take-append-le}
use Rattle.smith_types.specs.declared.place.Place.{Place}
use Rattle.smith_types.specs.Types.{IsOrderly}
use Rattle.smith_types.specs.GroupedTypes.{MayFollow, HasDepth, root, deeper, AreDepths}
use Rattle.smith_types.specs.declared.kind_counts.KindCounts.{KindCounts}
use Rattle.smith_types.specs.declared.kind_counts.TypeSet.{TypeSet}
use Rattle.smith_types.specs.KindCounts.{is_in, indices_in, count_where, count_in, counts_with, AreCounts}
use Rattle.smith_types.proofs.KindCountLemmas.{AreCounts-push, AreCounts-none, count_most, length_indices}
use Rattle.smith_types.specs.Places.{last_counts_from, last_counts, IsAncestor, IsLink, IsPlace, ArePlaces, IsClimb, depths_in}
use Rattle.smith_types.specs.Subtyping.{IsBelow, itself}
use Rattle.smith_types.proofs.GrowthLemmas.{IsBelow-grown, IsBelow-trans}
use Rattle.smith_types.proofs.ListLemmas.{slice_get-last, slice_get-push}
use Rattle.smith_types.proofs.PathLemmas.{below_declared}
use Rattle.smith_types.proofs.SpaceLemmas.{HasDepth-grown, HasDepth-le, depth_alone}
use Rattle.smith_types.proofs.WalkLemmas.{below_depth, below_level}

abbrev pub no_place : Place
no_place = record {
  supertype = 0;
  jump = 0;
  depth = 0;
  counts = record {
    arrays = 0;
    funcs = 0;
    structs = 0;
    shared_arrays = 0;
    shared_funcs = 0;
    shared_structs = 0;
    without_results = 0;
  };
}

-- a place, in the form of the code
pub place_read : (types : List SubType) (places : List Place) (i : ℕ) (place d : Place) → ArePlaces types places → i < length types
    → place ≡ get_or places i d → IsPlace types i place
place_read types places i place d known inside read =
    known.each i place (slice_get-get_or places i d (omega (arith, known.long)) ∙ ap Some (sym read))

pub place_at : (types : List SubType) (places : List Place) (i : ℕ) → ArePlaces types places → i < length types
    → IsPlace types i (get_or places i no_place)
place_at types places i known inside = place_read types places i (get_or places i no_place) no_place known inside refl

-- the number of types in a set up to a type, in the form of the code
pub count_read : (types now : List SubType) (places : List Place) (i n : ℕ) (place d : Place) (set : TypeSet) → types ≡ now
    → ArePlaces types places → i < length now → place ≡ get_or places i d → n ≡ count_in place.counts set
    → n ≡ count_where (is_in set) (take (suc i) now)
count_read types now places i n place d set view known inside read is =
    subst (λ xs. n ≡ count_where (is_in set) (take (suc i) xs)) view
    (is ∙ (place_read types places i place d known (rw view inside) read).counts.each set)

-- the depths of the places are those of the types
pub depths_known : (types : List SubType) (places : List Place) → ArePlaces types places → AreDepths types (depths_in places)
depths_known types places known = record {
  long = length-map places (λ (p : Place). p.depth) ∙ known.long;
  each = λ i inside.
      let d : Place = no_place in
      let within : i < length places = omega (arith, known.long) in
      subst (λ n. HasDepth types i n) (sym (get_or-map (λ (p : Place). p.depth) places i d 0 within))
      (known.each i (get_or places i d) (slice_get-get_or places i d within)).depth;
}

-- the supertype of the depth of another type is that type exactly if the other is a supertype
pub ancestor_decides : (types : List SubType) (i j depth found : ℕ) → IsOrderly types → IsAncestor types i depth found
    → HasDepth types j depth → IsTrue (nat_eq found j) ↔ IsBelow types (Concrete i) (Concrete j)
ancestor_decides types i j depth found orderly ancestor deep = (
  λ same. subst (λ n. IsBelow types (Concrete i) (Concrete n)) (eqb-true found j same) ancestor.above,
  λ below. eq-eqb found j (below_level types orderly i found j depth ancestor.above below ancestor.depth_is deep),
)

-- no deeper type is a supertype
pub none_deeper_above : (types : List SubType) (i j d e : ℕ) → IsOrderly types → HasDepth types i d → HasDepth types j e → d < e
    → IsTrue false ↔ IsBelow types (Concrete i) (Concrete j)
none_deeper_above types i j d e orderly deep end less = (
  λ no. cc,
  λ below.
      let most : e ≤ d = below_depth types orderly i j d e below deep end in
      absurd (omega (arith, less, most)),
)

-- a link leads on from the end of another
pub IsLink-trans : (types : List SubType) (i j k : ℕ) → IsLink types i j → IsLink types j k → IsLink types i k
IsLink-trans types i j k one next = record {
  above = IsBelow-trans types one.above next.above;
  upto = omega (arith, one.upto, next.upto);
}

pub IsLink-itself : (types : List SubType) (i : ℕ) → IsLink types i i
IsLink-itself types i = record { above = itself; upto = omega arith }

-- two jumps from a type, given the places on the way
pub record AreJumps (types : List SubType) (i : ℕ) (first second third : Place) : Type 0 where
  pub inside : first.jump < length types
  pub next_inside : second.jump < length types
  pub less : second.depth ≤ first.depth
  pub next_less : third.depth ≤ second.depth
  pub link : IsLink types i second.jump

pub jumps_known : (types : List SubType) (places : List Place) (i : ℕ) → IsOrderly types → ArePlaces types places → i < length types
    → AreJumps types i (get_or places i no_place) (get_or places (get_or places i no_place).jump no_place)
    (get_or places (get_or places (get_or places i no_place).jump no_place).jump no_place)
jumps_known types places i orderly known inside =
    let first = place_at types places i known inside in
    let end : ℕ = (get_or places i no_place).jump in
    let upto : end ≤ i = first.jump.upto in
    let end_inside : end < length types = omega (arith, inside, upto) in
    let second = place_at types places end known end_inside in
    let next : ℕ = (get_or places end no_place).jump in
    let next_upto : next ≤ end = second.jump.upto in
    let next_end_inside : next < length types = omega (arith, end_inside, next_upto) in
    let third = place_at types places next known next_end_inside in record {
      inside = end_inside;
      next_inside = next_end_inside;
      less = below_depth types orderly i end _ _ first.jump.above first.depth second.depth;
      next_less = below_depth types orderly end next _ _ second.jump.above second.depth third.depth;
      link = IsLink-trans types i end next first.jump second.jump;
    }

-- a type that is deeper than wanted has a supertype
deep_enough : (types : List SubType) (i depth own : ℕ) → 0 < depth → ((n : ℕ) → HasDepth types i n → depth < n) → HasDepth types i own
    → 1 < own
deep_enough types i depth own some all deep =
    let less : depth < own = all own deep in
    omega (arith, some, less)

-- the declared supertype of a type that is deeper than wanted is deep enough
pub climb_declared : (types : List SubType) (places : List Place) (i depth : ℕ) → ArePlaces types places → i < length types → 0 < depth
    → ((n : ℕ) → HasDepth types i n → depth < n) → IsClimb types i depth (get_or places i no_place).supertype
climb_declared types places i depth known inside some all =
    let place : Place = get_or places i no_place in
    let is = place_at types places i known inside in
    let less : depth < place.depth = all place.depth is.depth in
    let enough : 1 < place.depth = deep_enough types i depth place.depth some all is.depth in
    let declared = is.declared enough in record {
      above = declared.above;
      before = is.before enough;
      deep = λ own has.
          let same : own ≡ place.depth - 1 = depth_alone types has declared.depth_is in
          omega (arith, same, less);
    }

-- the end of a jump is deep enough if its depth is at least the wanted one
pub climb_jumped : (types : List SubType) (places : List Place) (i depth : ℕ) → ArePlaces types places → i < length types → 0 < depth
    → ((n : ℕ) → HasDepth types i n → depth < n) → depth ≤ (get_or places (get_or places i no_place).jump no_place).depth
    → IsClimb types i depth (get_or places i no_place).jump
climb_jumped types places i depth known inside some all least =
    let place : Place = get_or places i no_place in
    let is = place_at types places i known inside in
    let enough : 1 < place.depth = deep_enough types i depth place.depth some all is.depth in
    let before : place.jump < i = is.jumps enough in
    let end = place_at types places place.jump known (omega (arith, before, inside)) in record {
      above = is.jump.above;
      before = before;
      deep = λ own has.
          let same : own ≡ (get_or places place.jump no_place).depth = depth_alone types has end.depth in
          omega (arith, same, least);
    }

-- a supertype is unchanged as the list grows
IsAncestor-grown : (types more : List SubType) (i depth ancestor : ℕ) → IsAncestor types i depth ancestor
    → IsAncestor (types ++ more) i depth ancestor
IsAncestor-grown types more i depth ancestor h = record {
  depth_is = HasDepth-grown types more h.depth_is;
  above = IsBelow-grown types more h.above;
}

IsLink-grown : (types more : List SubType) (i j : ℕ) → IsLink types i j → IsLink (types ++ more) i j
IsLink-grown types more i j h = record { above = IsBelow-grown types more h.above; upto = h.upto }

-- a place is unchanged as the list grows
IsPlace-grown : (types more : List SubType) (i : ℕ) (place : Place) → i < length types → IsPlace types i place
    → IsPlace (types ++ more) i place
IsPlace-grown types more i place inside h = record {
  depth = HasDepth-grown types more h.depth;
  counts = rw (take-append-le (suc i) types more (omega (arith, inside))) h.counts;
  declared = λ enough. IsAncestor-grown types more i (place.depth - 1) place.supertype (h.declared enough);
  before = h.before;
  jump = IsLink-grown types more i place.jump h.jump;
  jumps = h.jumps;
}

pub ArePlaces-push : (types : List SubType) (t : SubType) (places : List Place) (place : Place) → ArePlaces types places
    → IsPlace (types ++ t ∷ []) (length types) place → ArePlaces (types ++ t ∷ []) (places ++ place ∷ [])
ArePlaces-push types t places place before last = record {
  long = simp length-append (ap (λ n. n + 1) before.long);
  each = λ i p at. elim (slice_get-push places place i p at) [
    | inl old ↦
        let inside : i < length places = slice_get_within places i p old in
        IsPlace-grown types (t ∷ []) i p (omega (arith, inside, before.long)) (before.each i p old)
    | inr (is, same) ↦
        subst (λ n. IsPlace (types ++ t ∷ []) n p) (sym (is ∙ before.long))
        (subst (λ q. IsPlace (types ++ t ∷ []) (length types) q) same last)
  ];
}

all_taken : (types : List SubType) (t : SubType) → take (suc (length types)) (types ++ t ∷ []) ≡ types ++ t ∷ []
all_taken types t = take_all (suc (length types)) (types ++ t ∷ []) (simp length-append (omega arith))

-- the counts up to the last place, in the form of the code
pub last_counts-last : (counts : KindCounts) (places : List Place) (d : Place) → 1 ≤ length places
    → (get_or places (length places - 1) d).counts ≡ last_counts_from counts places
last_counts-last counts [] d some = absurd (omega arith)
last_counts-last counts (p ∷ []) d some = refl
last_counts-last counts (p ∷ q ∷ places) d some =
    let fewer : length (p ∷ q ∷ places) - 1 ≡ suc (length (q ∷ places) - 1) = omega arith in
    rw fewer (last_counts-last p.counts (q ∷ places) d (omega arith))

-- the counts up to the last place are those of all types
pub counts_known : (types : List SubType) (places : List Place) → ArePlaces types places → AreCounts types (last_counts places)
counts_known [] [] known = AreCounts-none
counts_known (t ∷ types) [] known = let long : 0 ≡ length (t ∷ types) = known.long in absurd (omega (arith, long))
counts_known types (p ∷ places) known =
    let last : ℕ = length (p ∷ places) - 1 in
    let end : suc last ≡ length types = omega (arith, known.long) in
    let place = known.each last (get_or (p ∷ places) last p) (slice_get-get_or (p ∷ places) last p (omega arith)) in
    let all : take (suc last) types ≡ types = take_all (suc last) types (omega (arith, end)) in
    subst (λ c. AreCounts types c) (last_counts-last no_place.counts (p ∷ places) p (omega arith)) (rw all at place.counts)

-- the number of types in a set, in the form of the code
pub count_of_all : (types now : List SubType) (places : List Place) (set : TypeSet) (n : ℕ) → types ≡ now → ArePlaces types places
    → n ≡ count_in (last_counts places) set → n ≡ length (indices_in now set)
count_of_all types now places set n view known is =
    subst (λ xs. n ≡ length (indices_in xs set)) view
    (is ∙ (counts_known types places known).each set ∙ sym (length_indices (is_in set) 0 types))

-- a count of all types, or of those up to one of them, is an index
pub count_fits : (types : List SubType) (places : List Place) (set : TypeSet) → ArePlaces types places → length types < 2 ^ 32
    → count_in (last_counts places) set < 2 ^ 32
count_fits types places set known few =
    let is = (counts_known types places known).each set in
    let most = count_most (is_in set) types in
    omega (arith, is, most, few)

pub count_up_to_fits : (types now : List SubType) (places : List Place) (i : ℕ) (place d : Place) (set : TypeSet) → types ≡ now
    → ArePlaces types places → length types < 2 ^ 32 → i < length now → place ≡ get_or places i d → count_in place.counts set < 2 ^ 32
count_up_to_fits types now places i place d set view known few inside read =
    let is = count_read types now places i (count_in place.counts set) place d set view known inside read refl in
    let most = count_most (is_in set) (take (suc i) now) in
    let long : length (take (suc i) now) ≡ suc i = length-take-le (suc i) now (omega (arith, inside)) in
    let same : length types ≡ length now = ap (λ xs. length xs) view in
    omega (arith, is, most, long, same, inside, few)

-- the counts with one more type
pub counts_more : (types : List SubType) (places : List Place) (t : SubType) → ArePlaces types places
    → AreCounts (types ++ t ∷ []) (counts_with (shared t) t.composite_type.inner (last_counts places))
counts_more types places t known = AreCounts-push types t (last_counts places) (counts_known types places known)

-- no count is at its limit
pub counts_room : (types : List SubType) (places : List Place) (t : SubType) → ArePlaces types places → MayFollow types t → (set : TypeSet)
    → count_in (last_counts places) set + 1 < 2 ^ 32
counts_room types places t known follows set =
    let is = (counts_known types places known).each set in
    let most = count_most (is_in set) types in
    let few : length types + 1 < 2 ^ 32 = follows.room in
    omega (arith, is, most, few)

-- the place of the supertype of a type to be added
pub record IsStanding (types : List SubType) (i : ℕ) (place : Place) : Type 0 where
  pub inside : i < length types
  pub known : IsPlace types i place
  pub shallow : place.depth + 1 < 2 ^ 32

pub place_above : (types : List SubType) (places : List Place) (t : SubType) (s : ℕ) → IsOrderly types → ArePlaces types places
    → MayFollow types t → t.supertype ≡ Some s
    → IsStanding types s (get_or places s no_place)
place_above types places t s orderly known follows up =
    let (u, at, alike) = follows.below s up in
    let inside : s < length types = slice_get_within types s u at in
    let few : length types + 1 < 2 ^ 32 = follows.room in
    let place = place_at types places s known inside in
    let least : (get_or places s no_place).depth ≤ s + 1 = HasDepth-le types orderly place.depth in
    record { inside = inside; known = place; shallow = omega (arith, few, inside, least) }

-- the place of a type added below a supertype
pub place_below : (types : List SubType) (t : SubType) (s jump : ℕ) (above : Place) (counts : KindCounts)
    → AreCounts (types ++ t ∷ []) counts → IsStanding types s above → t.supertype ≡ Some s → IsLink types s jump
    → IsPlace (types ++ t ∷ []) (length types) (record { supertype = s; jump = jump; depth = above.depth + 1; counts = counts })
place_below types t s jump above counts count standing up link =
    let known = standing.known in
    let inside : s < length types = standing.inside in
    let more : List SubType = types ++ t ∷ [] in
    let deep : HasDepth more (length types) (suc above.depth) = deeper {t = t} (slice_get-last types t) up
    (HasDepth-grown types (t ∷ []) known.depth) in
    let one_up = below_declared more (length types) s t (slice_get-last types t) up in
    let upto : jump ≤ s = link.upto in
    let level : above.depth + 1 - 1 ≡ above.depth = omega arith in record {
      depth = rw add-one deep;
      counts = rw (all_taken types t) count;
      declared = λ enough. record {
        depth_is = subst (λ n. HasDepth more s n) (sym level) (HasDepth-grown types (t ∷ []) known.depth);
        above = one_up;
      };
      before = λ enough. inside;
      jump = record {
        above = IsBelow-trans more one_up (IsBelow-grown types (t ∷ []) link.above);
        upto = omega (arith, upto, inside);
      };
      jumps = λ enough. omega (arith, upto, inside);
    }

-- the place of a type added without a supertype
pub place_alone : (types : List SubType) (t : SubType) (jump : ℕ) (counts : KindCounts) → AreCounts (types ++ t ∷ []) counts
    → t.supertype ≡ None → jump ≡ length types → IsPlace (types ++ t ∷ []) (length types)
    (record { supertype = 0; jump = jump; depth = 1; counts = counts })
place_alone types t jump counts count none own = record {
  depth = root {t = t} (slice_get-last types t) none;
  counts = rw (all_taken types t) count;
  declared = λ enough. absurd (omega (arith, enough));
  before = λ enough. absurd (omega (arith, enough));
  jump = subst (λ n. IsLink (types ++ t ∷ []) (length types) n) (sym own) (IsLink-itself (types ++ t ∷ []) (length types));
  jumps = λ enough. absurd (omega (arith, enough));
}
