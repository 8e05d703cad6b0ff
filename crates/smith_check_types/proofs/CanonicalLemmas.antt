-- Canonical indices of one more group.
use Rattle.std.proofs.Common.{◌≡◌, ℕ, zero, suc, ◌+◌, ◌-◌, ◌^◌, ◌<◌, ◌≤◌, ◌⊎◌, Bool, true, false, List, [], ◌∷◌, ◌++◌, Option, Some, None}
use Rattle.std.proofs.Common.{cond, length, get_or, take, map, refl, sym, ap, subst, ◌∙◌, arith, inl, inr, append-nil, append_assoc}
use Rattle.std.proofs.Common.{length-append, add-one, zero-add}
use Rattle.std.specs.Prelude.{nat_lt, slice_get, slice_index, bytes_eq, unwrap_or, if◌then◌else◌}
use Rattle.std.proofs.lemmas.Option.{slice_get_within}
use Rattle.std.proofs.lemmas.Bool.{ltb-true}
use Rattle.std.proofs.lemmas.List.{take_all}
use Rattle.std.proofs.lemmas.List.Folds.{length-flat_map-take}
use Rattle.std.proofs.Math.ListN.{get_or-append}
use Rattle.std.proofs.Math.Seq.{take-suc}
use Rattle.std.specs.List.{flat_map}
use Rattle.std.specs.Global.{Vec}
use Rattle.std.specs.BTreeMap.{BTreeMap}
use Rattle.std.specs.Map.{lookup}
use Rattle.std.specs.Cmp.Lexicographic.{slice_cmp}
use Rattle.std.specs.Ordering.{nat_cmp, is_eq}
use Rattle.smith_types.proofs.ListLemmas.{slice_get-grown, slice_get-front, slice_get-after}
use Rattle.smith_types.specs.Syntax.composite_type.SubType.{SubType}
use Rattle.smith_check_types.specs.Renamed.{renamed}
use Rattle.smith_check_types.specs.Canonical.{rec_index, rolled_index, rolled, DefinedType, defined_in, defined_from, defined_types}
use Rattle.smith_check_types.specs.Canonical.{IsFirstEqual, AreCanonical}
use Rattle.smith_check_types.specs.Codes.{group_codes}
use Rattle.smith_check_types.specs.FirstGroups.{numbers_from, codes_after, known_start}
use Rattle.smith_check_types.proofs.CodeLemmas.{group_codes_apart}
use Rattle.smith_check_types.proofs.FirstGroupLemmas.{same_bytes, bytes_itself}

abbrev pub defined : List SubType → ℕ → DefinedType
defined group place = record { group = group; place = place }

-- more canonical indices change no reference to earlier types
index_stays : (indices more : List ℕ) (start index : ℕ) → start ≤ length indices → rolled_index (indices ++ more) start index
    ≡ rolled_index indices start index
index_stays indices more start index within =
    elim (nat_lt index start) as (λ b. nat_lt index start ≡ b
    → cond b (slice_index (indices ++ more) index) (rec_index (index - start)) ≡ cond b (slice_index indices index)
    (rec_index (index - start))) [
      | true ↦ λ h. let low : index < start = ltb-true index start h in get_or-append indices more 0 index (omega (arith, low, within))
      | false ↦ λ h. refl
    ] refl

pub rolled-stays : (indices more : List ℕ) (start : ℕ) (group : List SubType) → start ≤ length indices
    → rolled (indices ++ more) start group ≡ rolled indices start group
rolled-stays indices more start group within = λ i. map (renamed (λ index. index_stays indices more start index within i)) group

pub length-defined_in : (form : List SubType) (place : ℕ) (group : List SubType) → length (defined_in form place group) ≡ length group
length-defined_in form place [] = refl
length-defined_in form place (t ∷ group) = ap suc (length-defined_in form (place + 1) group)

-- a type of a group, by its place
defined_at : (form : List SubType) (from : ℕ) (group : List SubType) (place : ℕ) → place < length group
    → slice_get (defined_in form from group) place ≡ Some (defined form (from + place))
defined_at form from [] place inside = absurd (omega arith)
defined_at form from (t ∷ group) zero inside = let none : from + 0 ≡ from = omega arith in rw none refl
defined_at form from (t ∷ group) (suc place) inside =
    let later : from + suc place ≡ (from + 1) + place = omega arith in
    rw later (defined_at form (from + 1) group place (omega arith))

-- types of groups, with one more group at the end
defined-stays : (indices more : List ℕ) (start : ℕ) (groups : List (List SubType)) → start + length (defined_from indices start groups)
    ≤ length indices
    → defined_from (indices ++ more) start groups ≡ defined_from indices start groups
defined-stays indices more start [] within = refl
defined-stays indices more start (group ∷ groups) within =
    let form = rolled indices start group in
    let count : length (defined_in form 0 group) ≡ length group = length-defined_in form 0 group in
    let all : length (defined_in form 0 group ++ defined_from indices (start + length group) groups) ≡ length (defined_in form 0 group) +
    length (defined_from indices (start + length group) groups) =
    length-append (defined_in form 0 group) (defined_from indices (start + length group) groups) in
    let first = ap (λ (f : List SubType). defined_in f 0 group) (rolled-stays indices more start group (omega (arith, within, count, all)))
    in
    let others = defined-stays indices more (start + length group) groups (omega (arith, within, count, all)) in
    ap (λ (l : List DefinedType). l ++ defined_from (indices ++ more) (start + length group) groups) first
    ∙ ap (λ (l : List DefinedType). defined_in form 0 group ++ l) others

defined-last : (indices : List ℕ) (start : ℕ) (groups : List (List SubType)) (group : List SubType) (end : ℕ)
    → end ≡ start + length (defined_from indices start groups)
    → defined_from indices start (groups ++ group ∷ []) ≡ defined_from indices start groups ++ defined_in (rolled indices end group) 0 group
defined-last indices start [] group end is =
    let at : start ≡ end = omega (arith, is) in
    rw at (append-nil (defined_in (rolled indices end group) 0 group))
defined-last indices start (first ∷ groups) group end is =
    let form = rolled indices start first in
    let count : length (defined_in form 0 first) ≡ length first = length-defined_in form 0 first in
    let all : length (defined_in form 0 first ++ defined_from indices (start + length first) groups) ≡ length (defined_in form 0 first) +
    length (defined_from indices (start + length first) groups) =
    length-append (defined_in form 0 first) (defined_from indices (start + length first) groups) in
    ap (λ (l : List DefinedType). defined_in form 0 first ++ l) (defined-last indices (start + length first) groups group end
    (omega (arith, is, count, all)))
    ∙ sym (append_assoc (defined_in form 0 first) (defined_from indices (start + length first) groups)
    (defined_in (rolled indices end group) 0 group))

pub types_after : (indices more : List ℕ) (groups : List (List SubType)) (group : List SubType)
    → length indices ≡ length (defined_types indices groups)
    → defined_types (indices ++ more) (groups ++ group ∷ []) ≡ defined_types indices groups ++ defined_in
    (rolled indices (length indices) group) 0 group
types_after indices more groups group long =
    let same = defined-stays indices more 0 groups (omega (arith, long)) in
    let end : length indices ≡ 0 + length (defined_types (indices ++ more) groups) = omega (arith, long, ap length same) in
    defined-last (indices ++ more) 0 groups group (length indices) end
    ∙ ap (λ (l : List DefinedType). l ++ defined_in (rolled (indices ++ more) (length indices) group) 0 group) same
    ∙ ap (λ (f : List SubType). defined_types indices groups ++ defined_in f 0 group) (rolled-stays indices more (length indices) group
    (omega arith))

-- an item of two lists is in the first or in the second
pub in_either : {A : Type 0} (xs ys : List A) (i : ℕ) (x : A) → slice_get (xs ++ ys) i ≡ Some x
    → ((i < length xs) × (slice_get xs i ≡ Some x)) ⊎ ((k : ℕ) × (i ≡ length xs + k) × (slice_get ys k ≡ Some x))
in_either [] ys i x at = inr (i, omega arith, at)
in_either (y ∷ xs) ys zero x at = inl (omega arith, at)
in_either (y ∷ xs) ys (suc i) x at =
    elim (in_either xs ys i x at) [
      | inl (inside, there) ↦ inl (omega (arith, inside), there)
      | inr (k, is, there) ↦ inr
          (k, omega (arith, is), there)
    ]

number_at : (start count k c : ℕ) → slice_get (numbers_from start count) k ≡ Some c → (c ≡ start + k) × (k < count)
number_at start zero k c at = absurd cc
number_at start (suc count) zero c at = (let same : start ≡ c = cc in omega (arith, same), omega arith)
number_at start (suc count) (suc k) c at = let (is, inside) = number_at (start + 1) count k c at in
    (omega (arith, is), omega (arith, inside))

pub length-numbers_from : (start count : ℕ) → length (numbers_from start count) ≡ count
length-numbers_from start zero = refl
length-numbers_from start (suc count) = ap suc (length-numbers_from (start + 1) count)

-- a type among those of one more group
one_of : (form group : List SubType) (k : ℕ) (d : DefinedType) → slice_get (defined_in form 0 group) k ≡ Some d → (k < length group)
    × (d ≡ defined form k)
one_of form group k d at =
    let inside : k < length group = omega (arith, slice_get_within (defined_in form 0 group) k d at, length-defined_in form 0 group) in
    let none : 0 + k ≡ k = omega arith in
    let there : slice_get (defined_in form 0 group) k ≡ Some (defined form (0 + k)) = defined_at form 0 group k inside in (
      inside,
      let e : Some d ≡ Some (defined form (0 + k)) = sym at ∙ there in let same : d ≡ defined form (0 + k) = cc e in
          same ∙ ap (defined form) none,
    )

-- where the first group that is equal to a group starts
pub record IsStart (types : List DefinedType) (group : List SubType) (first : ℕ) : Type 0 where
  pub inside : first + length group ≤ length types
  pub within : (place : ℕ) → place < length group → slice_get types (first + place) ≡ Some (defined group place)
  pub least : (i place : ℕ) → slice_get types i ≡ Some (defined group place) → first + place ≤ i

-- a map from numbers has the starts of the groups of these types
pub record AreStarts (starts : List ℕ → Option ℕ) (types : List DefinedType) : Type 0 where
  pub found : (group : List SubType) (first : ℕ) → starts (group_codes group) ≡ Some first → IsStart types group first
  pub missed : (group : List SubType) → starts (group_codes group) ≡ None → (i place : ℕ) → slice_get types i ≡ Some (defined group place)
      → ⊥

length-rolled : (indices : List ℕ) (start : ℕ) (group : List SubType) → length (rolled indices start group) ≡ length group
length-rolled indices start [] = refl
length-rolled indices start (t ∷ group) = ap suc (length-rolled indices start group)

-- a start that is known among types stays it with one more group
stays_start : (types : List DefinedType) (form group other : List SubType) (first : ℕ) → IsStart types other first
    → (form ≡ other → length group ≡ length other)
    → IsStart (types ++ defined_in form 0 group) other first
stays_start types form group other first start long = record {
  inside =
      let all : length (types ++ defined_in form 0 group) ≡ length types + length (defined_in form 0 group) =
      length-append types (defined_in form 0 group) in
      omega (arith, all, start.inside);
  within = λ place inside. slice_get-grown types _ (first + place) (defined other place) (start.within place inside);
  least = λ i place at.
      elim (in_either types (defined_in form 0 group) i (defined other place) at) [
        | inl (inside, there) ↦ start.least i place there
        | inr (k, is, there) ↦
            let (low, same) = one_of form group k (defined other place) there in
            let forms : other ≡ form = ap (λ (d : DefinedType). d.group) same in
            let places : place ≡ k = ap (λ (d : DefinedType). d.place) same in
            let fits = long (sym forms) in
            omega (arith, is, low, places, fits, start.inside)
      ];
}

-- the start of a group that no group is equal to is its own
own_start : (types : List DefinedType) (form group : List SubType) → length form ≡ length group
    → ((i place : ℕ) → slice_get types i ≡ Some (defined form place) → ⊥)
    → IsStart (types ++ defined_in form 0 group) form (length types)
own_start types form group long missed = record {
  inside =
      let all : length (types ++ defined_in form 0 group) ≡ length types + length (defined_in form 0 group) =
      length-append types (defined_in form 0 group) in
      omega (arith, all, long, length-defined_in form 0 group);
  within = λ place inside.
      slice_get-after types (defined_in form 0 group) place ∙ defined_at form 0 group place (omega (arith, inside, long))
      ∙ ap (λ p. Some (defined form p)) (zero-add place);
  least = λ i place at.
      elim (in_either types (defined_in form 0 group) i (defined form place) at) [
        | inl (inside, there) ↦ absurd (missed i place there)
        | inr (k, is, there) ↦
            let (low, same) = one_of form group k (defined form place) there in
            let places : place ≡ k = ap (λ (d : DefinedType). d.place) same in
            omega (arith, is, places)
      ];
}

-- the start of a group, by the map, whether a group before it is equal to it or none
pub start_here : (starts : List ℕ → Option ℕ) (types : List DefinedType) (form group : List SubType) → length form ≡ length group
    → AreStarts starts types
    → IsStart (types ++ defined_in form 0 group) form (unwrap_or (starts (group_codes form)) (length types))
start_here starts types form group long known =
    elim (starts (group_codes form)) as (λ o. starts (group_codes form) ≡ o → IsStart (types ++ defined_in form 0 group) form
    (unwrap_or o (length types))) [
      | Some first ↦ λ h. stays_start types form group form first (known.found form first h) (λ e. sym long)
      | None ↦ λ h. own_start types form group long (known.missed form h)
    ] refl

-- the starts with one more group
pub starts_after : (old new : List ℕ → Option ℕ) (types : List DefinedType) (form group : List SubType) (start : ℕ) → AreStarts old types
    → length form ≡ length group
    → IsStart (types ++ defined_in form 0 group) form start
    → ((other : List ℕ) → new other ≡ cond (bytes_eq (group_codes form) other) (Some start) (old other))
    → AreStarts new (types ++ defined_in form 0 group)
starts_after old new types form group start known long here is = record {
  found = λ other first at.
      elim (bytes_eq (group_codes form) (group_codes other)) as (λ b. bytes_eq (group_codes form) (group_codes other) ≡ b
      → cond b (Some start) (old (group_codes other)) ≡ Some first → IsStart (types ++ defined_in form 0 group) other first) [
        | true ↦ λ h e.
            let same : form ≡ other = group_codes_apart form other (same_bytes _ _ h) in
            let first_is : start ≡ first = cc e in
            subst (λ n. IsStart (types ++ defined_in form 0 group) other n) first_is
            (subst (λ (g : List SubType). IsStart (types ++ defined_in form 0 group) g start) same here)
        | false ↦ λ h e. stays_start types form group other first (known.found other first e)
            (λ same. absurd (let yes : bytes_eq (group_codes form) (group_codes other)
            ≡ true = ap (λ g. bytes_eq (group_codes form) (group_codes g)) (sym same) ∙ bytes_itself (group_codes form) in cc (yes, h)))
      ] refl (sym (is (group_codes other)) ∙ at);
  missed = λ other at i place there.
      elim (bytes_eq (group_codes form) (group_codes other)) as (λ b. bytes_eq (group_codes form) (group_codes other) ≡ b
      → cond b (Some start) (old (group_codes other)) ≡ None → ⊥) [
        | true ↦ λ h e. cc e
        | false ↦ λ h e.
            elim (in_either types (defined_in form 0 group) i (defined other place) there) [
              | inl (inside, before) ↦ known.missed other e i place before
              | inr (k, is, after) ↦
                  let (low, same) = one_of form group k (defined other place) after in
                  let forms : other ≡ form = ap (λ (d : DefinedType). d.group) same in
                  let yes : bytes_eq (group_codes form) (group_codes other) ≡ true = ap (λ g. bytes_eq (group_codes form) (group_codes g))
                  forms ∙ bytes_itself (group_codes form) in
                  cc (yes, h)
            ]
      ] refl (sym (is (group_codes other)) ∙ at);
}

-- an item at an index within a list
pub some_at : {A : Type 0} (xs : List A) (i : ℕ) → i < length xs → (x : A) × (slice_get xs i ≡ Some x)
some_at [] i inside = absurd (omega arith)
some_at (x ∷ xs) zero inside = (x, refl)
some_at (x ∷ xs) (suc i) inside = some_at xs i (omega arith)

-- a canonical index among earlier types stays it
old_equal : (types more : List DefinedType) (index first : ℕ) → index < length types → IsFirstEqual types index first
    → IsFirstEqual (types ++ more) index first
old_equal types more index first inside old =
    let low : first ≤ index = old.least index refl in
    let there = some_at types index inside in
    let (d, at) = there in
    record {
      equal = slice_get-grown types more first d (old.equal ∙ at) ∙ sym (slice_get-grown types more index d at);
      least = λ other same.
          elim (in_either types more other d (same ∙ slice_get-grown types more index d at)) [
            | inl (before, here) ↦ old.least other (here ∙ sym at)
            | inr (k, is, here) ↦ omega (arith, is, low, inside)
          ];
    }

-- a type of one more group has its canonical index by the start of that group
new_equal : (types : List DefinedType) (form group : List SubType) (start k : ℕ) → length form ≡ length group → k < length group
    → IsStart (types ++ defined_in form 0 group) form start
    → IsFirstEqual (types ++ defined_in form 0 group) (length types + k) (start + k)
new_equal types form group start k long inside here =
    let none : 0 + k ≡ k = omega arith in
    let own : slice_get (types ++ defined_in form 0 group) (length types + k) ≡ Some (defined form k) =
    slice_get-after types (defined_in form 0 group) k ∙ defined_at form 0 group k inside ∙ ap (λ p. Some (defined form p)) none in
    record {
      equal = here.within k (omega (arith, inside, long)) ∙ sym own;
      least = λ other same. here.least other k (same ∙ own);
    }

-- the canonical indices of one more group
pub canonical_after : (indices : List ℕ) (groups : List (List SubType)) (group : List SubType) (start : ℕ) → AreCanonical groups indices
    → IsStart (defined_types indices groups ++ defined_in (rolled indices (length indices) group) 0 group)
    (rolled indices (length indices) group) start
    → AreCanonical (groups ++ group ∷ []) (indices ++ numbers_from start (length group))
canonical_after indices groups group start canonical here =
    let more = numbers_from start (length group) in
    let form = rolled indices (length indices) group in
    let old = defined_types indices groups in
    let types : defined_types (indices ++ more) (groups ++ group ∷ []) ≡ old ++ defined_in form 0 group =
    types_after indices more groups group canonical.long in
    let long : length form ≡ length group = length-rolled indices (length indices) group in
    record {
      long =
          let left : length (indices ++ more) ≡ length indices + length more = length-append indices more in
          let right : length (old ++ defined_in form 0 group) ≡ length old + length (defined_in form 0 group) =
          length-append old (defined_in form 0 group) in
          omega (
            arith,
            left,
            right,
            ap length types,
            length-numbers_from start (length group),
            length-defined_in form 0 group,
            canonical.long,
          );
      each = λ index first at.
          subst (λ (l : List DefinedType). IsFirstEqual l index first) (sym types)
          (elim (in_either indices more index first at) [
            | inl (inside, there) ↦ old_equal old (defined_in form 0 group) index first (omega (arith, inside, canonical.long))
                (canonical.each index first there)
            | inr (k, is, there) ↦
                let (first_is, low) = number_at start (length group) k first there in
                let at_end : length old + k ≡ index = omega (arith, is, canonical.long) in
                subst (λ n. IsFirstEqual (old ++ defined_in form 0 group) index n) (sym first_is)
                (subst (λ n. IsFirstEqual (old ++ defined_in form 0 group) n (start + k)) at_end
                (new_equal old form group start k long low here))
          ]);
    }

-- what is known of the groups so far
pub record Known (groups : List (List SubType)) (indices : List ℕ) (starts : List ℕ → Option ℕ) : Type 0 where
  pub canonical : AreCanonical groups indices
  pub held : AreStarts starts (defined_types indices groups)

pub none_known : (starts : List ℕ → Option ℕ) → ((codes : List ℕ) → starts codes ≡ None) → Known [] [] starts
none_known starts empty = record {
  canonical = record { long = refl; each = λ index first at. absurd cc };
  held = record {
    found = λ group first at. let never = empty (group_codes group) in absurd (cc (at, never));
    missed = λ group at i place there. cc;
  };
}

pub length-defined_from : (indices : List ℕ) (start : ℕ) (groups : List (List SubType)) → length (defined_from indices start groups)
    ≡ length (flat_map (λ (group : List SubType). group) groups)
length-defined_from indices start [] = refl
length-defined_from indices start (group ∷ groups) =
    let form = rolled indices start group in
    let all : length (defined_in form 0 group ++ defined_from indices (start + length group) groups) ≡ length (defined_in form 0 group) +
    length (defined_from indices (start + length group) groups) =
    length-append (defined_in form 0 group) (defined_from indices (start + length group) groups) in
    let both : length (group ++ flat_map (λ (g : List SubType). g) groups) ≡ length group + length
    (flat_map (λ (g : List SubType). g) groups) = length-append group (flat_map (λ (g : List SubType). g) groups) in
    omega (arith, all, both, length-defined_in form 0 group, length-defined_from indices (start + length group) groups)

-- there is room for the next group
pub room_here : (groups : List (List SubType)) (i : ℕ) (group d : List SubType) (indices : List ℕ) (starts : List ℕ → Option ℕ)
    → i < length groups → group ≡ get_or groups i d
    → Known (take i groups) indices starts → length (flat_map (λ (g : List SubType). g) groups) < 2 ^ 32
    → length indices + length group < 2 ^ 32
room_here groups i group d indices starts inside read known few =
    let all : length (flat_map (λ (g : List SubType). g) (take i groups)) + length (get_or groups i d) ≤ length
    (flat_map (λ (g : List SubType). g) groups) = length-flat_map-take (λ (g : List SubType). g) groups i d inside in
    omega (arith, all, few, ap length read, known.canonical.long, length-defined_from indices 0 (take i groups))

-- the start of the next group
pub start_of_next : (groups : List (List SubType)) (group : List SubType) (indices : List ℕ) (starts : List ℕ → Option ℕ)
    → Known groups indices starts
    → IsStart (defined_types indices groups ++ defined_in (rolled indices (length indices) group) 0 group)
    (rolled indices (length indices) group) (unwrap_or (starts (codes_after indices group)) (length indices))
start_of_next groups group indices starts known =
    let form = rolled indices (length indices) group in
    subst (λ n. IsStart (defined_types indices groups ++ defined_in form 0 group) form (unwrap_or (starts (codes_after indices group)) n))
    (sym known.canonical.long)
    (start_here starts (defined_types indices groups) form group (length-rolled indices (length indices) group) known.held)

pub start_fits : (groups : List (List SubType)) (group : List SubType) (indices : List ℕ) (starts : List ℕ → Option ℕ)
    → Known groups indices starts
    → length indices + length group < 2 ^ 32 → unwrap_or (starts (codes_after indices group)) (length indices) + length group < 2 ^ 32
start_fits groups group indices starts known few =
    let form = rolled indices (length indices) group in
    let old = defined_types indices groups in
    let start = start_of_next groups group indices starts known in
    let all : length (old ++ defined_in form 0 group) ≡ length old + length (defined_in form 0 group) =
    length-append old (defined_in form 0 group) in
    omega (
      arith,
      start.inside,
      all,
      few,
      known.canonical.long,
      length-defined_in form 0 group,
      length-rolled indices (length indices)
          group,
    )

-- one more group
pub known_after : (groups : List (List SubType)) (group : List SubType) (indices : List ℕ) (old new : List ℕ → Option ℕ)
    → Known groups indices old
    → ((other : List ℕ) → new other ≡ cond (bytes_eq (codes_after indices group) other)
    (Some (unwrap_or (old (codes_after indices group)) (length indices))) (old other))
    → Known (groups ++ group ∷ []) (indices ++ numbers_from (unwrap_or (old (codes_after indices group)) (length indices)) (length group))
    new
known_after groups group indices old new known is =
    let form = rolled indices (length indices) group in
    let start = unwrap_or (old (codes_after indices group)) (length indices) in
    let here = start_of_next groups group indices old known in
    record {
      canonical = canonical_after indices groups group start known.canonical here;
      held = subst (AreStarts new) (sym (types_after indices (numbers_from start (length group)) groups group known.canonical.long))
          (starts_after old new (defined_types indices groups) form group start known.held (length-rolled indices (length indices) group)
          here is);
    }

pub canonical_turn : (groups : List (List SubType)) (i : ℕ) (group d : List SubType) (indices all : List ℕ) (old new : List ℕ → Option ℕ)
    → i < length groups → group ≡ get_or groups i d
    → Known (take i groups) indices old
    → all ≡ indices ++ numbers_from (unwrap_or (old (codes_after indices group)) (length indices)) (length group)
    → ((other : List ℕ) → new other ≡ cond (bytes_eq (codes_after indices group) other)
    (Some (unwrap_or (old (codes_after indices group)) (length indices))) (old other))
    → Known (take (i + 1) groups) all new
canonical_turn groups i group d indices all old new inside read known is starts =
    let one : take i groups ++ group ∷ [] ≡ take (i + 1) groups =
    ap (λ (g : List SubType). take i groups ++ g ∷ []) read ∙ sym (take-suc groups i d inside) ∙ ap (λ n. take n groups)
    (sym (add-one i)) in
    subst (λ (gs : List (List SubType)). Known gs all new) one
    (subst (λ l. Known (take i groups ++ group ∷ []) l new) (sym is) (known_after (take i groups) group indices old new known starts))

pub canonical_whole : (groups : List (List SubType)) (i : ℕ) (indices made : List ℕ) (starts : List ℕ → Option ℕ) → length groups ≤ i
    → made ≡ indices → Known (take i groups) indices starts → AreCanonical groups made
canonical_whole groups i indices made starts past is known =
    subst (λ (gs : List (List SubType)). AreCanonical gs made) (take_all i groups past)
    (subst (λ l. AreCanonical (take i groups) l) (sym is) known.canonical)

-- no group is known at first
pub start_known : (indices : List ℕ) (starts : BTreeMap (Vec ℕ) ℕ) → indices ≡ [] → starts.entries ≡ []
    → Known [] indices (known_start starts)
start_known indices starts none empty =
    subst (λ (l : List ℕ). Known [] l (known_start starts)) (sym none)
    (none_known (known_start starts) (λ codes. ap (lookup (λ (key : Vec ℕ). is_eq (slice_cmp nat_cmp codes key.items))) empty))

-- the start of a group, by the calls that look it up
pub start_is : (starts : List ℕ → Option ℕ) (codes wanted : List ℕ) (start next count : ℕ) → codes ≡ wanted
    → start ≡ unwrap_or (starts codes) next → next ≡ count → start ≡ unwrap_or (starts wanted) count
start_is starts codes wanted start next count same is end = is ∙ ap (λ c. unwrap_or (starts c) next) same ∙ ap (unwrap_or (starts wanted))
    end
