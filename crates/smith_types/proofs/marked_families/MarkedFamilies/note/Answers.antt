use Rattle.smith_types.proofs.Common.{[], ap, arith, same_Some, slice_get-get_or, slice_get_within, Some, sym, ℕ, ◌++◌, ◌∙◌, ◌∷◌}
use Rattle.smith_types.proofs.MarkedFamilyLemmas.{lists_unmarked, lists_rootless, lists_joined}
use Rattle.smith_types.proofs.marked_families.MarkedFamilies.note.Goals as goal

pub returns-then-not-own : goal.returns-then-not-own
returns-then-not-own c = λ types added old new up is front last h known.
    lists_unmarked types added old new c.args.own (front c.if-changed.false) last c.args.self.now.lists.items c.if-not-own.true (h known)

pub index_mut-requires : goal.index_mut-requires
index_mut-requires c =
    let (list, at, room) = c.requires.room c.in-Some.above c.in-Some.is in
    let inside = slice_get_within c.args.self.now.lists.items c.in-Some.above list at in
    omega (arith, inside, c.args.self.now.lists.ok.0)

pub push_reserved-requires : goal.push_reserved-requires
push_reserved-requires c =
    let (list, at, room) = c.requires.room c.in-Some.above c.in-Some.is in
    let inside = slice_get_within c.args.self.now.lists.items c.in-Some.above list at in
    let same = same_Some list c.index_mut.result.now (sym at ∙ slice_get-get_or c.args.self.now.lists.items c.in-Some.above _ inside
    ∙ ap Some (sym c.index_mut.ensures.value)) in
    rw (sym same) room

pub returns-in-Some : goal.returns-in-Some
returns-in-Some c = λ types added old new up is front last h known.
    let (list, at, room) = c.requires.room c.in-Some.above c.in-Some.is in
    let inside = slice_get_within c.args.self.now.lists.items c.in-Some.above list at in
    lists_joined types added old new c.args.own (front c.if-changed.false) last c.args.self.now.lists.items c.in-Some.above
    c.index_mut.result.now c.push_reserved.new.self _ c.if-not-own.false (up ∙ c.in-Some.is) inside c.index_mut.ensures.value
    (c.push_reserved.ensures.items ∙ ap (λ (n : ℕ). c.index_mut.result.now.items ++ n ∷ []) is) (h known)

pub returns-in_default : goal.returns-in_default
returns-in_default c = λ types added old new up is front last h known.
    lists_rootless types added old new c.args.own (front c.if-changed.false) last c.args.self.now.lists.items c.if-not-own.false
    (up ∙ c.in_default.is) (h known)
