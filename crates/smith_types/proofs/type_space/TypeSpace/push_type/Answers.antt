use Rattle.smith_types.proofs.Common.{[], ap, arith, length-append, List, SubType, ◌++◌, ◌∙◌, ◌∷◌, ◌≡◌}
use Rattle.smith_types.specs.declared.place.Place.{Place}
use Rattle.smith_types.specs.GroupedTypes.{MayFollow}
use Rattle.smith_types.proofs.ListLemmas.{slice_get-last}
use Rattle.smith_types.proofs.SpaceLemmas.{IsSound-type}
use Rattle.smith_types.proofs.MarkedLemmas.{marked_moved}
use Rattle.smith_types.proofs.PlaceLemmas.{ArePlaces-push}
use Rattle.smith_types.proofs.type_space.TypeSpace.push_type.Goals as goal

pub invariant_of-self-in_err-place : goal.invariant_of-self-in_err-place
invariant_of-self-in_err-place c =
    let room = c.make_room.ensures in (
      rw room.types c.self.invariant.0,
      rw (room.types, room.places) c.self.invariant.1,
      rw (room.types, room.places, c.in_err-place.ensures.err) c.self.invariant.2,
      rw c.as_slice-types.ensures.value at c.make_place.ensures.families,
      λ kept. rw (room.types, c.make_ground_room.ensures.grounds) (c.self.invariant.4 kept),
      λ kept. rw room.types (c.self.invariant.5 kept),
      room.beside,
      λ kept. marked_moved _ _ _ c.self.inside.marked _ c.make_index_room.ensures.plain c.make_index_room.ensures.shared
          (rw (room.types, c.make_ground_room.ensures.grounds) (c.self.invariant.7 kept)),
      λ kept. c.make_family_room.ensures.kept _ _ (rw (room.types, c.make_ground_room.ensures.grounds) (c.self.invariant.8 kept)),
    )

pub invariant_of-self-2 : goal.invariant_of-self-2
invariant_of-self-2 c =
    let room = c.make_room.ensures in
    let types = c.self.inside.types.items in
    let added = c.args.added in
    let seen : c.as_slice-types.result.now ≡ types = c.as_slice-types.ensures.value ∙ room.types in
    let follows : MayFollow types added = rw (ap (λ s. s.types) c.self.view_is) c.requires in
    let all : c.push_reserved-2.new.self.items ≡ types ++ added ∷ [] = c.push_reserved-2.ensures.items
    ∙ ap (λ (xs : List SubType). xs ++ added ∷ []) room.types in
    let placed : c.push_reserved.new.self.items ≡ c.self.inside.places.items ++ c.in_ok-place.place ∷ [] = c.push_reserved.ensures.items
    ∙ ap (λ (xs : List Place). xs ++ c.in_ok-place.place ∷ []) room.places in
    let beside = room.beside in (
      rw all (IsSound-type _ _ _ c.self.invariant.0 follows),
      rw (all, placed) (ArePlaces-push types added _ _ c.self.invariant.1 (rw seen at c.in_ok-place.ensures.place)),
      rw (all, placed) (rw (seen, c.as_slice.ensures.value, room.places) at c.in_ok-place.ensures.extensible),
      rw all (rw seen at c.join_family.ensures),
      λ kept. rw all (rw seen at c.note_ground.ensures.grounds kept),
      λ kept. rw all (rw seen at c.note_ground.ensures.kinds kept),
      record {
        long = omega (arith, c.push_reserved.ensures.len, c.push_reserved-2.ensures.len, beside.long);
        room = omega (arith, c.push_reserved.ensures.capacity, c.push_reserved-2.ensures.capacity, beside.room);
      },
      λ kept. rw (all, length-append types (added ∷ [])) (rw seen at c.note_ground.ensures.marked kept),
      λ kept. rw all (rw seen at c.note_ground.ensures.families kept),
    )

pub returns-clause-stands : goal.returns-clause-stands
returns-clause-stands c = rw (c.push_reserved-2.ensures.items, c.as_slice-types.ensures.value)
    (slice_get-last c.make_room.new.types.items c.args.added)
