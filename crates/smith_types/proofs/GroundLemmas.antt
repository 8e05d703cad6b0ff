-- The marks of grounding struct types in a type space, as types are added.
use Rattle.smith_types.proofs.Common.{[], ap, arith, Bool, cases_eq, Concrete, false, if◌then◌else◌, inl, inr, IsTrue, length}
use Rattle.smith_types.proofs.Common.{length-append, List, None, none-some, Option, refl, slice_get, slice_get_within, Some, subst, SubType}
use Rattle.smith_types.proofs.Common.{sym, true, ℕ, ◌++◌, ◌+◌, ◌<◌, ◌∙◌, ◌∷◌, ◌≡◌}
use Rattle.std.proofs.lemmas.Bool.{cases_lt}
use Rattle.std.proofs.lemmas.Bool.Decides.{same_from_decides}
use Rattle.smith_types.specs.declared.ground.Ground.{Ground}
use Rattle.smith_types.specs.Types.{IsOrderly}
use Rattle.smith_types.specs.GroupedTypes.{MayFollow}
use Rattle.smith_types.specs.Subtyping.{IsBelow, itself}
use Rattle.smith_types.specs.Grounds.{is_ground, IsGroundBelow, own_at, below_at, AreGrounds, AreClosed, AreMarked}
use Rattle.smith_types.proofs.ListLemmas.{slice_get-grown, slice_get-last, slice_get-push, slice_get-front}
use Rattle.smith_types.proofs.GrowthLemmas.{IsBelow-grown, IsBelow-trans}
use Rattle.smith_types.proofs.PathLemmas.{below_declared}
use Rattle.smith_types.proofs.RangeLemmas.{above_stands}
use Rattle.smith_types.proofs.SpaceLemmas.{IsOrderly-push}
use Rattle.smith_types.proofs.WalkLemmas.{Reaches, here, up, by_cases_from_below, path_along}
use Rattle.smith_types.proofs.MarkLemmas.{said_inside, said_front, said_last, above_other}

-- a type reached from a type that existed before was reached before
reaches_front : (types : List SubType) (t : SubType) (i j : ℕ) → IsOrderly types → i < length types → Reaches (types ++ t ∷ []) i j
    → Reaches types i j
reaches_front types t i j o inside here = here
reaches_front types t i j o inside (up {s = s} {t = u} at sup reach) =
    let old = slice_get-front types (t ∷ []) i u inside at in
    let less : s < i = (o.under i s u old sup).0 in
    up {t = u} old sup (reaches_front types t s j o (omega (arith, less, inside)) reach)

-- a supertype of a grounded type is grounded
pub grounds_closed : (types : List SubType) (grounds : List Ground) → AreGrounds types grounds → AreClosed types grounds
grounds_closed types grounds h = record {
  up = λ i j below marks. let (k, g) = (h.below i).0 marks in
      (h.below j).1 (k, record { ground = g.ground; at = g.at; is = g.is; below = IsBelow-trans types g.below below });
}

-- the first type to be marked
from_if : (b : Bool) (o from : Option ℕ) (s : ℕ) → from ≡ (if b then o else None) → from ≡ Some s → (b ≡ true) × (o ≡ Some s)
from_if true o from s is some = (refl, sym is ∙ some)
from_if false o from s is some = absurd (none-some s (sym is ∙ some))

from_on : (b : Bool) (o from : Option ℕ) → from ≡ (if b then o else None) → b ≡ true → from ≡ o
from_on true o from is on = is
from_on false o from is on = cc

-- one more type, and the marks of its supertypes
module _ (types : List SubType) (t : SubType) (orderly : IsOrderly types) (follows : MayFollow types t) (grounds marked : List Ground)
    (own : Bool) (from : Option ℕ) (is_own : own ≡ is_ground t) (is_from : from ≡ (if own then t.supertype else None))
    (h : AreGrounds types grounds) (marks : AreMarked types from grounds marked) where
  long : length marked ≡ length types
  long = marks.long ∙ h.long

  last : slice_get (types ++ t ∷ []) (length types) ≡ Some t
  last = slice_get-last types t

  orderly_more : IsOrderly (types ++ t ∷ [])
  orderly_more = IsOrderly-push types t orderly follows.below

  below_front : (i j : ℕ) → i < length types → IsBelow (types ++ t ∷ []) (Concrete i) (Concrete j) → IsBelow types (Concrete i) (Concrete j)
  below_front i j inside below =
      path_along types (reaches_front types t i j orderly inside (by_cases_from_below (types ++ t ∷ []) orderly_more (Concrete i)
      (Concrete j) below))

  owns : (i : ℕ) (u : SubType) → slice_get (types ++ t ∷ []) i ≡ Some u → own_at (marked ++ record { own = own; below = own } ∷ []) i
      ≡ is_ground u
  owns i u at = elim (slice_get-push types t i u at) [
    | inl before ↦
        let inside : i < length types = slice_get_within types i u before in
        said_front (λ (ground : Ground). ground.own) marked (record { own = own; below = own }) i (omega (arith, inside, long))
        ∙ marks.own i ∙ h.own i u before
    | inr (is, same) ↦ said_last (λ (ground : Ground). ground.own) marked (record { own = own; below = own }) i (long ∙ sym is) ∙ is_own
        ∙ ap is_ground same
  ]

  -- a type before the last is marked exactly if it has to be
  front_grounded : (j : ℕ) → IsTrue (below_at marked j) → (i : ℕ) × IsGroundBelow (types ++ t ∷ []) i j
  front_grounded j now = elim ((marks.below j).0 now) [
    | inl before ↦
        let (i, g) = (h.below j).0 before in (
          i,
          record {
            ground = g.ground;
            at = slice_get-grown types (t ∷ []) i g.ground g.at;
            is = g.is;
            below = IsBelow-grown types
                (t ∷ []) g.below;
          },
        )
    | inr (s, is, below) ↦
        let (on, is_up) = from_if own t.supertype from s is_from is in (
          length types,
          record {
            ground = t;
            at = last;
            is = sym is_own ∙ on;
            below = IsBelow-trans (types ++ t ∷ [])
                (below_declared (types ++ t ∷ []) (length types) s t last is_up) (IsBelow-grown types (t ∷ []) below);
          },
        )
  ]

  marked_front : (j : ℕ) → j < length types → IsTrue (below_at marked j)
      → IsTrue (below_at (marked ++ record { own = own; below = own } ∷ []) j)
  marked_front j inside now = said_front (λ (ground : Ground). ground.below) marked (record { own = own; below = own }) j
      (omega (arith, inside, long)) ∙ now

  marked_last : (j : ℕ) → length types ≡ j → own ≡ true → IsTrue (below_at (marked ++ record { own = own; below = own } ∷ []) j)
  marked_last j end on = said_last (λ (ground : Ground). ground.below) marked (record { own = own; below = own }) j (long ∙ end) ∙ on

  grounded : (j : ℕ) → IsTrue (below_at (marked ++ record { own = own; below = own } ∷ []) j)
      → (i : ℕ) × IsGroundBelow (types ++ t ∷ []) i j
  grounded j now = elim (cases_eq (length marked) j) [
    | inl end ↦
        let on : is_ground t ≡ true =
        sym is_own ∙ sym (said_last (λ (ground : Ground). ground.below) marked (record { own = own; below = own }) j end) ∙ now in
        let is : length types ≡ j = sym long ∙ end in (
          length types,
          subst (λ (m : ℕ). IsGroundBelow (types ++ t ∷ []) (length types) m) is
              (record { ground = t; at = last; is = on; below = itself }),
        )
    | inr other ↦
        let within : j < length (marked ++ record { own = own; below = own } ∷ []) = said_inside (λ (ground : Ground). ground.below)
        (marked ++ record { own = own; below = own } ∷ []) j now in
        let most : j < length marked + 1 = simp length-append at within in
        let inside : j < length marked =
        elim (cases_lt j (length marked)) [ inl less ↦ less | inr least ↦ absurd (other (omega (arith, most, least))) ] in
        front_grounded j (sym (said_front (λ (ground : Ground). ground.below) marked (record { own = own; below = own }) j inside) ∙ now)
  ]

  -- a type grounded by a type that existed before is marked as before
  marked_before : (i j : ℕ) (g : IsGroundBelow (types ++ t ∷ []) i j) → slice_get types i ≡ Some g.ground
      → IsTrue (below_at (marked ++ record { own = own; below = own } ∷ []) j)
  marked_before i j g before =
      let below = below_front i j (slice_get_within types i g.ground before) g.below in
      marked_front j (above_stands types orderly (Concrete i) (Concrete j) below (slice_get_within types i g.ground before))
      ((marks.below j).1 (inl ((h.below j).1 (i, record { ground = g.ground; at = before; is = g.is; below = below }))))

  -- a type grounded by the last type is marked
  marked_above : (j : ℕ) → own ≡ true → IsBelow (types ++ t ∷ []) (Concrete (length types)) (Concrete j)
      → IsTrue (below_at (marked ++ record { own = own; below = own } ∷ []) j)
  marked_above j on below = elim (cases_eq (length types) j) [
    | inl end ↦ marked_last j end on
    | inr other ↦
        let (s, is_up, on_up) = above_other (types ++ t ∷ []) (length types) j t last other
        (by_cases_from_below (types ++ t ∷ []) orderly_more (Concrete (length types)) (Concrete j) below) in
        let (u, at, alike) = follows.below s is_up in
        let path = below_front s j (slice_get_within types s u at) on_up in
        marked_front j (above_stands types orderly (Concrete s) (Concrete j) path (slice_get_within types s u at))
        ((marks.below j).1 (inr (s, from_on own t.supertype from is_from on ∙ is_up, path)))
  ]

  pub grounds_more : AreGrounds (types ++ t ∷ []) (marked ++ record { own = own; below = own } ∷ [])
  grounds_more = record {
    long = simp length-append (ap (λ (n : ℕ). n + 1) long);
    own = owns;
    below = λ j. (
      grounded j,
      λ (i, g). elim (slice_get-push types t i g.ground g.at) [
        | inl before ↦ marked_before i j g before
        | inr (is, same) ↦ marked_above j (is_own ∙ ap is_ground same ∙ g.is)
            (subst (λ (m : ℕ). IsBelow (types ++ t ∷ []) (Concrete m) (Concrete j)) is g.below)
      ],
    );
  }

-- the marks of the types before the last, if its supertype was marked before
module _ (types : List SubType) (t : SubType) (orderly : IsOrderly types) (follows : MayFollow types t) (old new : List Ground)
    (before : AreGrounds types old) (after : AreGrounds (types ++ t ∷ []) new) (kept : is_ground t ≡ true → (s : ℕ) → t.supertype ≡ Some s
    → IsTrue (below_at old s)) where
  still_grounded : (j : ℕ) → IsTrue (below_at old j) → IsTrue (below_at new j)
  still_grounded j now =
      let (i, g) = (before.below j).0 now in
      (after.below j).1 (
        i,
        record {
          ground = g.ground;
          at = slice_get-grown types (t ∷ []) i g.ground g.at;
          is = g.is;
          below = IsBelow-grown types (t ∷ []) g.below;
        },
      )

  all_orderly : IsOrderly (types ++ t ∷ [])
  all_orderly = IsOrderly-push types t orderly follows.below

  before_last : (i j : ℕ) → i < length types → IsBelow (types ++ t ∷ []) (Concrete i) (Concrete j) → IsBelow types (Concrete i) (Concrete j)
  before_last i j inside below =
      path_along types (reaches_front types t i j orderly inside (by_cases_from_below (types ++ t ∷ []) all_orderly (Concrete i)
      (Concrete j) below))

  above_last : (j : ℕ) → j < length types → is_ground t ≡ true → IsBelow (types ++ t ∷ []) (Concrete (length types)) (Concrete j)
      → IsTrue (below_at old j)
  above_last j inside on below =
      let reach = by_cases_from_below (types ++ t ∷ []) all_orderly (Concrete (length types)) (Concrete j) below in
      let (s, is_up, on_up) = above_other (types ++ t ∷ []) (length types) j t (slice_get-last types t) (λ end. omega (arith, end, inside))
      reach in
      let (u, at, alike) = follows.below s is_up in
      (grounds_closed types old before).up s j (before_last s j (slice_get_within types s u at) on_up) (kept on s is_up)

  grounded_before : (j : ℕ) → j < length types → IsTrue (below_at new j) → IsTrue (below_at old j)
  grounded_before j inside now =
      let (i, g) = (after.below j).0 now in
      elim (slice_get-push types t i g.ground g.at) [
        | inl at ↦ (before.below j).1
            (i, record { ground = g.ground; at = at; is = g.is; below = before_last i j (slice_get_within types i g.ground at) g.below })
        | inr (is, same) ↦ above_last j inside (ap is_ground same ∙ g.is)
            (subst (λ (m : ℕ). IsBelow (types ++ t ∷ []) (Concrete m) (Concrete j)) is g.below)
      ]

  pub marks_unchanged : (j : ℕ) → j < length types → below_at new j ≡ below_at old j
  marks_unchanged j inside = same_from_decides {P = IsTrue (below_at old j)} (below_at new j) (below_at old j) (
    grounded_before j inside,
    still_grounded j,
  ) ((λ now. now), (λ now. now))
