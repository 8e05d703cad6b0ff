-- Types added to a space group by group.
use Rattle.smith_types.proofs.Common.{[], add-one, ap, arith, drop, Features, flat_map, get_or, length, List, Range, refl, slice_get_within}
use Rattle.smith_types.proofs.Common.{subst, SubType, suc, sym, take, ℕ, ◌++◌, ◌+◌, ◌<◌, ◌^◌, ◌∙◌, ◌∷◌, ◌≡◌}
use Rattle.std.proofs.Common.{append-nil, length-append}
use Rattle.std.proofs.Math.Seq.{split_at, take-suc}
use Rattle.std.proofs.lemmas.Grind.{flat_map-append}
use Rattle.smith_types.specs.GroupedTypes.{GroupedTypes, MayFollow}
use Rattle.smith_types.specs.Types.{next_group, end_from}
use Rattle.smith_types.specs.ValidTypes.{AreTypesValid}
use Rattle.smith_types.specs.Groups.{ranges_from, space_of, AreFollowing}
use Rattle.smith_types.proofs.ListLemmas.{slice_get-grown, slice_get-front, slice_get-last}
use Rattle.smith_types.proofs.GroupGrowthLemmas.{AreTypesOpen-at, AreTypesOpen-start}

-- a prefix of types that follow one another does so too
pub front_follows : (types more : List SubType) → AreFollowing (types ++ more) → AreFollowing types
front_follows types more h = record {
  under = λ i s t at up.
      let (before, (u, there, alike)) = h.under i s t (slice_get-grown types more i t at) up in
      let inside : i < length types = slice_get_within types i t at in
      (before, (u, slice_get-front types more s u (omega arith) there, alike));
}

joined_again : (xs ys zs : List SubType) → xs ++ (ys ++ zs) ≡ (xs ++ ys) ++ zs
joined_again [] ys zs = refl
joined_again (x ∷ xs) ys zs = ap (λ (more : List SubType). x ∷ more) (joined_again xs ys zs)

-- a type that may not follow the types before it
pub not_following : (types before members : List SubType) (i : ℕ) (t d : SubType) → i < length members → t ≡ get_or members i d
    → types ≡ before ++ take i members → length before + length members + 1 < 2 ^ 32
    → (MayFollow types t → ⊥) → AreFollowing (before ++ members) → ⊥
not_following types before members i t d inside read is few refused following =
    let rest = drop (suc i) members in
    let front = take i members in
    let cut : before ++ members ≡ (types ++ t ∷ []) ++ rest =
    ap (λ (m : List SubType). before ++ m) (split_at members i d inside)
    ∙ joined_again before front (get_or members i d ∷ rest)
    ∙ ap (λ (x : List SubType). x ++ (get_or members i d ∷ rest)) (sym is)
    ∙ ap (λ (x : SubType). types ++ (x ∷ rest)) (sym read)
    ∙ joined_again types (t ∷ []) rest in
    let follows = front_follows (types ++ t ∷ []) rest (subst AreFollowing cut following) in
    refused (record {
      below = λ s up.
          let (lt, (u, there, alike)) = follows.under (length types) s t (slice_get-last types t) up in
          (u, slice_get-front types (t ∷ []) s u lt there, alike);
      room =
          let size : length (before ++ members) ≡ length ((types ++ t ∷ []) ++ rest) = ap length cut in
          let left : length before + length members ≡ length (before ++ members) = sym (length-append {A = SubType} before members) in
          let right : length ((types ++ t ∷ []) ++ rest) ≡ (length types + 1) + length rest = simp length-append refl in
          omega (arith, size, left, right, few);
    })

-- the space with one more group
abbrev pub with_group : GroupedTypes → List SubType → GroupedTypes
with_group space group = record {
  types = space.types ++ group;
  groups = space.groups ++ next_group (space.types ++ group) space.groups
      ∷ [];
}

ranges_end : (start : ℕ) (groups : List (List SubType)) → end_from start (ranges_from start groups) ≡ start + length
    (flat_map (λ (group : List SubType). group) groups)
ranges_end start [] = omega arith
ranges_end start (group ∷ groups) =
    let later = ranges_end (start + length group) groups in
    let longer : length (group ++ flat_map (λ (group : List SubType). group) groups) ≡ length group + length
    (flat_map (λ (group : List SubType). group) groups) = length-append group (flat_map (λ (group : List SubType). group) groups) in
    omega (arith, later, longer)

ranges_push : (start : ℕ) (groups : List (List SubType)) (group : List SubType) → ranges_from start (groups ++ group ∷ [])
    ≡ ranges_from start groups ++ record {
      start = end_from start (ranges_from start groups);
      end = end_from start (ranges_from start groups) + length group;
    } ∷ []
ranges_push start [] group = refl
ranges_push start (g ∷ groups) group = ap (λ (more : List (Range ℕ)). record { start = start; end = start + length g } ∷ more)
    (ranges_push (start + length g) groups group)

pub space_of_push : (groups : List (List SubType)) (group : List SubType) → space_of (groups ++ group ∷ []) ≡ with_group (space_of groups)
    group
space_of_push groups group =
    let types = flat_map (λ (group : List SubType). group) groups in
    let flat : flat_map (λ (group : List SubType). group) (groups ++ group ∷ []) ≡ types ++ group =
    flat_map-append (λ (group : List SubType). group) groups (group ∷ []) ∙ ap (λ (more : List SubType). types ++ more)
    (append-nil group) in
    let ends = ranges_end 0 groups in
    let end : end_from 0 (ranges_from 0 groups) + length group ≡ length (types ++ group) = omega (arith, ends, length-append types group) in
    let ranges : ranges_from 0 (groups ++ group ∷ []) ≡ ranges_from 0 groups ++ next_group (types ++ group) (ranges_from 0 groups) ∷ [] =
    ranges_push 0 groups group ∙ ap (λ (n : ℕ). ranges_from 0 groups ++ record { start = end_from 0 (ranges_from 0 groups); end = n } ∷ [])
    end in
    λ i. record { types = flat i; groups = ranges i }

-- the types of the groups so far and of the current group are a prefix of the types of all groups
pub groups_cut : (groups : List (List SubType)) (i : ℕ) (group d : List SubType) → i < length groups → group ≡ get_or groups i d
    → (space_of groups).types ≡ ((space_of (take i groups)).types ++ group) ++ flat_map (λ (group : List SubType). group)
    (drop (suc i) groups)
groups_cut groups i group d inside read =
    let all : List (List SubType) → List SubType = flat_map (λ (group : List SubType). group) in
    ap (flat_map (λ (group : List SubType). group)) (split_at groups i d inside)
    ∙ flat_map-append (λ (group : List SubType). group) (take i groups) (get_or groups i d ∷ drop (suc i) groups)
    ∙ ap (λ (g : List SubType). all (take i groups) ++ (g ++ all (drop (suc i) groups))) (sym read)
    ∙ joined_again (all (take i groups)) group (all (drop (suc i) groups))

pub groups_room : (groups : List (List SubType)) (i : ℕ) (space : GroupedTypes) (group d : List SubType) → i < length groups
    → group ≡ get_or groups i d → space ≡ space_of (take i groups)
    → length (space_of groups).types + 1 < 2 ^ 32 → length space.types + length group + 1 < 2 ^ 32
groups_room groups i space group d inside read is few =
    let types = (space_of (take i groups)).types in
    let rest = flat_map (λ (group : List SubType). group) (drop (suc i) groups) in
    let whole : length (space_of groups).types ≡ length ((types ++ group) ++ rest) = ap length (groups_cut groups i group d inside read) in
    let parts : length ((types ++ group) ++ rest) ≡ (length types + length group) + length rest = simp length-append refl in
    let same : length space.types ≡ length types = ap (λ (s : GroupedTypes). length s.types) is in
    omega (arith, whole, parts, same, few)

pub groups_refused : (groups : List (List SubType)) (i : ℕ) (space : GroupedTypes) (group d : List SubType) → i < length groups
    → group ≡ get_or groups i d → space ≡ space_of (take i groups)
    → (AreFollowing (space.types ++ group) → ⊥) → AreFollowing (space_of groups).types → ⊥
groups_refused groups i space group d inside read is refused following =
    let types = (space_of (take i groups)).types in
    let same : types ++ group ≡ space.types ++ group = ap (λ (s : GroupedTypes). s.types ++ group) (sym is) in
    refused (subst AreFollowing same (front_follows (types ++ group) (flat_map (λ (group : List SubType). group) (drop (suc i) groups))
    (subst AreFollowing (groups_cut groups i group d inside read) following)))

pub groups_turn : (groups : List (List SubType)) (i : ℕ) (before now later : GroupedTypes) (group d : List SubType) → i < length groups
    → group ≡ get_or groups i d → before ≡ space_of (take i groups)
    → now ≡ record before { types = before.types ++ group }
    → later ≡ record now { groups = now.groups ++ next_group now.types now.groups ∷ [] } → later ≡ space_of (take (i + 1) groups)
groups_turn groups i before now later group d inside read is added closed =
    closed
    ∙ ap (λ (s : GroupedTypes). record { types = s.types; groups = s.groups ++ next_group s.types s.groups ∷ [] }) added
    ∙ ap (λ (s : GroupedTypes). with_group s group) is
    ∙ sym (space_of_push (take i groups) group)
    ∙ ap space_of (ap (λ (g : List SubType). take i groups ++ g ∷ []) read ∙ sym (take-suc groups i d inside)
    ∙ ap (λ (n : ℕ). take n groups) (sym (add-one i)))

-- valid types follow one another
pub valid_following : (features : Features) (space : GroupedTypes) → AreTypesValid features space → AreFollowing space.types
valid_following features space valid = record {
  under = λ i s t at up.
      let h = AreTypesOpen-at features (length space.types) space (AreTypesOpen-start features (length space.types) space (omega arith)
      valid) i t at in
      let (u, there, above) = h.declared s up in
      let (before, alike) = valid.orderly.under i s t at up in
      (before, (u, there, alike u there));
}
