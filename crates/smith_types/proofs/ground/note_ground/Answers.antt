use Rattle.smith_types.proofs.Common.{[], ap, arith, length, length-append, refl, slice_get_within, sym, ◌++◌, ◌+◌, ◌∙◌, ◌∷◌, ◌≡◌}
use Rattle.smith_types.proofs.GroundLemmas.{marks_unchanged}
use Rattle.smith_types.proofs.MarkedLemmas.{marked_unchanged}
use Rattle.smith_types.proofs.ground.note_ground.Goals as goal

pub marks_above-changed-requires : goal.marks_above-changed-requires
marks_above-changed-requires c = record {
  stands = λ s is.
      let (u, at, alike) = c.requires.follows.below s is in
      let inside = slice_get_within c.args.types.now s u at in
      let long = (c.requires.grounds c.if-not-kept.false).long in
      rw c.as_slice.ensures.value (omega (arith, inside, long));
}

pub note-requires : goal.note-requires
note-requires c =
    let kept = c.if-not-kept.false in
    let types = c.args.types.now in
    let added = c.args.added.now in
    let after = c.join_grounds.ensures.grounds in
    let long : length c.join_grounds.new.grounds.items ≡ length (types ++ added ∷ []) = after.long in
    let more : length (types ++ added ∷ []) ≡ length types + 1 = length-append types (added ∷ []) in
    record {
      few = omega (arith, c.requires.follows.room);
      long = rw c.as_slice-2.ensures.value (omega (arith, long, more));
      own = rw c.as_slice-2.ensures.value c.join_grounds.ensures.last;
      room = c.requires.index_room kept;
      marked = λ same. rw c.as_slice-2.ensures.value (marked_unchanged types c.args.grounds.now.items c.join_grounds.new.grounds.items
          c.args.marked.now
          (marks_unchanged types added c.requires.orderly c.requires.follows c.args.grounds.now.items c.join_grounds.new.grounds.items
          (c.requires.grounds kept) after
          (λ on s is. rw c.as_slice.ensures.value at (c.marks_above-changed.ensures same (c.is_ground-own.ensures ∙ on) s is)))
          (c.requires.marked kept));
    }

pub returns-clause-marked : goal.returns-clause-marked
returns-clause-marked c = λ kept. rw c.as_slice-2.ensures.value at c.note.ensures

pub note-requires-2 : goal.note-requires-2
note-requires-2 c = record { room = c.requires.family_room c.if-not-kept.false }

pub returns-clause-families : goal.returns-clause-families
returns-clause-families c = λ kept.
    let types = c.args.types.now in
    let added = c.args.added.now in
    c.note-2.ensures types added c.args.grounds.now.items c.join_grounds.new.grounds.items refl refl
    (λ same. marks_unchanged types added c.requires.orderly c.requires.follows c.args.grounds.now.items c.join_grounds.new.grounds.items
    (c.requires.grounds kept) c.join_grounds.ensures.grounds
    (λ on s is. rw c.as_slice.ensures.value at (c.marks_above-changed.ensures same (c.is_ground-own.ensures ∙ on) s is)))
    c.join_grounds.ensures.last (c.requires.families kept)
