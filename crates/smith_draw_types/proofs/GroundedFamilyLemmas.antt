-- The grounded types among the subtypes offered for a concrete type, by its direct subtypes.
use Rattle.smith_draw_types.proofs.Common.{[], ap, arith, below_declared, Bool, Concrete, Config, Context, directly_read, Exact, false}
use Rattle.smith_draw_types.proofs.Common.{filter, filter-append, HeapType, if◌then◌else◌, indices_where, inl, inr, is_directly_below}
use Rattle.smith_draw_types.proofs.Common.{is_directly_below_at, IsGroundedByFuncs, IsOrderly, length, length-map, List, map, Option}
use Rattle.smith_draw_types.proofs.Common.{option_map, refl, slice_get, slice_get-grown, slice_get-map, Some, stands, SubType, suc, sym}
use Rattle.smith_draw_types.proofs.Common.{true, zero, ℕ, ◌&&◌, ◌++◌, ◌+◌, ◌-◌, ◌<◌, ◌∙◌, ◌∷◌, ◌≡◌, ◌≤◌}
use Rattle.std.proofs.lemmas.List.{length-append}
use Rattle.smith_types.specs.MarkedFamilies.{DecidesGroundedBelow}
use Rattle.smith_draw_types.specs.Grounding.{is_grounded}
use Rattle.smith_draw_types.specs.Offered.{offered_direct_subtypes, exact_subtypes, bottom_at}
use Rattle.smith_draw_types.proofs.GroundedKindLemmas.{both, both_are, picks, functions_above}
use Rattle.smith_draw_types.proofs.GroundingLemmas.{grounded_if, by_structs}
use Rattle.smith_draw_types.proofs.OfferedLemmas.{supertype_is}
use Rattle.smith_draw_types.proofs.OfferedPlaceLemmas.{slice_get-after}

-- the indices of the direct subtypes that structs ground are those of the grounded ones, if no
-- function grounds the type
pub family_listed : (context : Context) (index : ℕ) (indices : List ℕ) → IsOrderly context.types
    → (IsGroundedByFuncs context (Concrete index) → ⊥)
    → ((test : ℕ → Bool) → DecidesGroundedBelow context.types context.features.custom_descriptors index test
    → indices ≡ indices_where test 0 (length context.types))
    → filter (is_grounded context) (offered_direct_subtypes context.types index) ≡ map Concrete indices
family_listed context index indices orderly no_function listed =
    let g = is_grounded context in
    let types = context.types in
    let test : ℕ → Bool = λ j. is_directly_below_at types index j && g (Concrete j) in
    let decides : DecidesGroundedBelow types context.features.custom_descriptors index test = λ j inside.
    let (t, at) = stands types j inside in
    let read : is_directly_below_at types index j ≡ is_directly_below index t = directly_read types index j t at in (
      λ on.
          let (direct, grounded) = both (is_directly_below_at types index j) (g (Concrete j)) on in
          elim (grounded_if context (Concrete j) orderly grounded) [
            | inl structs ↦ (structs, direct)
            | inr functions ↦ absurd
                (no_function (functions_above context (Concrete j) (Concrete index)
                (below_declared types j index t at (supertype_is index t.supertype (sym read ∙ direct))) functions))
          ],
      λ (structs, direct). both_are (is_directly_below_at types index j) (g (Concrete j)) direct
          (sym (by_structs context (Concrete j) orderly structs)),
    ) in
    picks g (is_directly_below index) test types (λ k t at. ap (λ (b : Bool). b && g (Concrete k)) (sym (directly_read types index k t at)))
    ∙ ap (map Concrete) (sym (listed test decides))

-- a type that exists has a bottom
pub bottom_some : (types : List SubType) (i : ℕ) → i < length types → 0 < length (bottom_at types i)
bottom_some types i inside = let (t, at) = stands types i inside in rw at (omega arith)

pub one_most : (b : Bool) → (if b then 1 else 0) ≤ 1
one_most true = omega arith
one_most false = omega arith

-- an item that may be first
first_long : (g : HeapType → Bool) (x : HeapType) (more : List HeapType) (b : Bool) → g x ≡ b → length (filter g (x ∷ more))
    ≡ (if b then 1 else 0) + length (filter g more)
first_long g x more true on = rw on (omega arith)
first_long g x more false off = rw off (omega arith)

first_at : (g : HeapType → Bool) (x : HeapType) (more : List HeapType) (place : ℕ) (b : Bool) → g x ≡ b → place < (if b then 1 else 0)
    → slice_get (filter g (x ∷ more)) place ≡ Some x
first_at g x more zero true on inside = rw on refl
first_at g x more (suc place) true on inside = absurd (omega (arith, inside))
first_at g x more place false off inside = absurd (omega (arith, inside))

first_past : (g : HeapType → Bool) (x y : HeapType) (more : List HeapType) (place : ℕ) (b : Bool) → g x ≡ b → (if b then 1 else 0) ≤ place
    → slice_get (filter g more) (place - (if b then 1 else 0)) ≡ Some y → slice_get (filter g (x ∷ more)) place ≡ Some y
first_past g x y more zero true on least at = absurd (omega (arith, least))
first_past g x y more (suc place) true on least at = let same : suc place - 1 ≡ place = omega arith in rw on (rw same at at)
first_past g x y more place false off least at = let same : place - 0 ≡ place = omega arith in rw off (rw same at at)

-- the only item
alone_long : (g : HeapType → Bool) (x : HeapType) → length (filter g (x ∷ [])) ≡ (if g x then 1 else 0)
alone_long g x = let long = first_long g x [] (g x) refl in omega (arith, long)

alone_at : (g : HeapType → Bool) (x : HeapType) (place : ℕ) → place < length (filter g (x ∷ [])) → slice_get (filter g (x ∷ [])) place
    ≡ Some x
alone_at g x place inside = let long = alone_long g x in first_at g x [] place (g x) refl (omega (arith, long, inside))

module _ (g : HeapType → Bool) (direct : List HeapType) (indices : List ℕ) (known : filter g direct ≡ map Concrete indices) where
  parts : (more : List HeapType) → filter g (direct ++ more) ≡ map Concrete indices ++ filter g more
  parts more = filter-append g direct more ∙ ap (λ (l : List HeapType). l ++ filter g more) known

  -- the direct subtypes, and others
  pub joined_long : (more : List HeapType) → length (filter g (direct ++ more)) ≡ length indices + length (filter g more)
  joined_long more = ap (λ (l : List HeapType). length l) (parts more) ∙ length-append (map Concrete indices) (filter g more)
      ∙ ap (λ (n : ℕ). n + length (filter g more)) (length-map indices Concrete)

  pub joined_at : (more : List HeapType) (place found : ℕ) → slice_get indices place ≡ Some found
      → slice_get (filter g (direct ++ more)) place ≡ Some (Concrete found)
  joined_at more place found at =
      ap (λ (l : List HeapType). slice_get l place) (parts more)
      ∙ slice_get-grown (map Concrete indices) (filter g more) place (Concrete found) (slice_get-map Concrete indices place
      ∙ ap (λ (o : Option ℕ). option_map Concrete o) at)

  pub joined_past : (more : List HeapType) (place : ℕ) (x : HeapType) → length indices ≤ place
      → slice_get (filter g more) (place - length indices) ≡ Some x → slice_get (filter g (direct ++ more)) place ≡ Some x
  joined_past more place x least at =
      let long : length (map Concrete indices) ≡ length indices = length-map indices Concrete in
      ap (λ (l : List HeapType). slice_get l place) (parts more) ∙ slice_get-after (map Concrete indices) (filter g more) place
      (place - length indices) x (omega (arith, long, least)) at

-- those after the direct subtypes, without custom descriptors
module _ (g : HeapType → Bool) (config : Config) (types : List SubType) (i : ℕ) (bottom : HeapType)
    (is : bottom_at types i ≡ bottom ∷ []) where
  without : config.custom_descriptors_enabled ≡ false → exact_subtypes config types i ++ bottom_at types i ≡ bottom ∷ []
  without off = rw (off, is) refl

  pub bottom_counted : (last : ℕ) → config.custom_descriptors_enabled ≡ false → last ≡ (if g bottom then 1 else 0)
      → last ≡ length (filter g (exact_subtypes config types i ++ bottom_at types i))
  bottom_counted last off count = count ∙ sym (alone_long g bottom) ∙ ap (λ (l : List HeapType). length (filter g l)) (sym (without off))

  pub bottom_found : (place : ℕ) → config.custom_descriptors_enabled ≡ false
      → place < length (filter g (exact_subtypes config types i ++ bottom_at types i))
      → slice_get (filter g (exact_subtypes config types i ++ bottom_at types i)) place ≡ Some bottom
  bottom_found place off inside =
      let long = ap (λ (l : List HeapType). length (filter g l)) (without off) in
      ap (λ (l : List HeapType). slice_get (filter g l) place) (without off) ∙ alone_at g bottom place (omega (arith, long, inside))

  -- the same with custom descriptors
  module _ (indices : List ℕ) (known : filter g (offered_direct_subtypes types i) ≡ map Concrete indices)
      (on : config.custom_descriptors_enabled ≡ true) (first : ℕ) (counted : first ≡ (if g (Exact i) then 1 else 0)) where
    with_exact : exact_subtypes config types i ++ bottom_at types i ≡ Exact i ∷ (offered_direct_subtypes types i ++ bottom ∷ [])
    with_exact = rw (on, is) refl

    all_long : length (filter g (exact_subtypes config types i ++ bottom_at types i))
        ≡ first + (length indices + (if g bottom then 1 else 0))
    all_long =
        let a = ap (λ (l : List HeapType). length (filter g l)) with_exact in
        let b = first_long g (Exact i) (offered_direct_subtypes types i ++ bottom ∷ []) (g (Exact i)) refl in
        let c = joined_long g (offered_direct_subtypes types i) indices known (bottom ∷ []) in
        let d = alone_long g bottom in
        omega (arith, a, b, c, d, counted)

    pub all_counted : (last count : ℕ) → last ≡ (if g bottom then 1 else 0) → count ≡ first + (length indices + last)
        → count ≡ length (filter g (exact_subtypes config types i ++ bottom_at types i))
    all_counted last count one sum = omega (arith, all_long, one, sum)

    pub exact_found : (place : ℕ) → place < first → slice_get (filter g (exact_subtypes config types i ++ bottom_at types i)) place
        ≡ Some (Exact i)
    exact_found place inside =
        ap (λ (l : List HeapType). slice_get (filter g l) place) with_exact ∙ first_at g (Exact i)
        (offered_direct_subtypes types i ++ bottom ∷ []) place (g (Exact i)) refl (omega (arith, counted, inside))

    later : (place : ℕ) (x : HeapType) → first ≤ place → slice_get (filter g (offered_direct_subtypes types i ++ bottom ∷ []))
        (place - first) ≡ Some x → slice_get (filter g (exact_subtypes config types i ++ bottom_at types i)) place ≡ Some x
    later place x least at =
        ap (λ (l : List HeapType). slice_get (filter g l) place) with_exact
        ∙ first_past g (Exact i) x (offered_direct_subtypes types i ++ bottom ∷ []) place (g (Exact i)) refl
        (omega (arith, counted, least))
        (rw counted at at)

    pub again_found : (place found : ℕ) → first ≤ place → slice_get indices (place - first) ≡ Some found
        → slice_get (filter g (exact_subtypes config types i ++ bottom_at types i)) place ≡ Some (Concrete found)
    again_found place found least at = later place (Concrete found) least (joined_at g (offered_direct_subtypes types i) indices known
        (bottom ∷ []) (place - first) found at)

    pub last_found : (place : ℕ) → first ≤ place → length indices ≤ place - first
        → place < length (filter g (exact_subtypes config types i ++ bottom_at types i))
        → slice_get (filter g (exact_subtypes config types i ++ bottom_at types i)) place ≡ Some bottom
    last_found place least past inside =
        let d = alone_long g bottom in
        later place bottom least (joined_past g (offered_direct_subtypes types i) indices known (bottom ∷ []) (place - first) bottom past
        (alone_at g bottom (place - first - length indices) (omega (arith, all_long, inside, least, past, d))))
