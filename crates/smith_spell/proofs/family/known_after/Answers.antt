use Rattle.smith_spell.proofs.Common.{append-nil, arith, length-append, List, subst, SubType, sym, take, ◌++◌}
use Rattle.std.proofs.Common.{length-take}
use Rattle.std.proofs.lemmas.List.{drop_all, take_all}
use Rattle.smith_spell.specs.Decided.{AreMembersAfter, IsKnown}
use Rattle.smith_spell.specs.Family.{IsMemberType}
use Rattle.smith_spell.proofs.MemberLemmas.{all_types, after_same, type_taken, type_turn, type_among}
use Rattle.smith_spell.proofs.family.known_after.Goals as goal

pub loop-place-init : goal.loop-place-init
loop-place-init c =
    let none = append-nil (all_types c.args.groups.now) in
    record {
      known = subst (λ (types : List SubType). IsKnown types c.args.known) (sym none) c.requires.known;
      same = (after_same c.args.config.now c.args.group.now none, after_same c.args.config.now c.args.group.now (sym none));
    }

pub new-earlier-requires : goal.new-earlier-requires
new-earlier-requires c = c.loop-place.invariant.known

pub with-known-requires : goal.with-known-requires
with-known-requires c =
    let before = length-append (all_types c.args.groups.now) (take c.loop-place.place c.args.group.now) in
    let passed = length-take c.loop-place.place c.args.group.now in
    omega (arith, before, passed, c.loop-place.invariant.known.counted, c.requires.known.counted)

pub returns-then-not-is_member_type : goal.returns-then-not-is_member_type
returns-then-not-is_member_type c = λ whole.
    let here = type_among c.args.config.now (all_types c.args.groups.now) c.args.group.now c.loop-place.place _ _ c.loop-place-test.true
    c.index-group-place.is (c.loop-place.invariant.same.1 whole) in
    let yes = c.is_member_type.ensures.1 (subst (λ (types : List SubType). IsMemberType c.args.config.now types c.index-group-place.result)
    (sym c.new-earlier.ensures) here) in
    let no = c.if-not-is_member_type.true in
    cc

pub loop-place-preserved : goal.loop-place-preserved
loop-place-preserved c =
    let before = all_types c.args.groups.now in
    let group = c.args.group.now in
    let place = c.loop-place.place in
    let inside = c.loop-place-test.true in
    let read = c.index-group-place.is in
    let now = c.loop-place.invariant in
    let here = subst (λ (types : List SubType). IsMemberType c.args.config.now types c.index-group-place.result) c.new-earlier.ensures
    (c.is_member_type.ensures.0 c.if-not-is_member_type.false) in
    record {
      known = subst (λ (types : List SubType). IsKnown types c.with-known.result) (type_taken before group place _ _ inside read)
          (c.with-known.ensures (before ++ take place group) now.known here.root);
      same = type_turn c.args.config.now before group place _ _ _ inside read here now.same;
    }

pub returns : goal.returns
returns c =
    let before = all_types c.args.groups.now in
    let group = c.args.group.now in
    let place = c.loop-place.place in
    let now = c.loop-place.invariant in (
      now.same.0 (subst (AreMembersAfter c.args.config.now (before ++ take place group))
          (sym (drop_all place group c.loop-place-test.false)) tt),
      subst (λ (types : List SubType). IsKnown (before ++ types) c.loop-place.known) (take_all place group c.loop-place-test.false)
          now.known,
    )
