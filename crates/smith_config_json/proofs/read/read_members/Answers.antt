use Rattle.std.proofs.Common.{◌≡◌, ◌++◌, ◌≤◌, [], ◌∷◌, Some, None, length, arith, ◌∙◌}
use Rattle.std.proofs.lemmas.Grind.{common_steps}
use Rattle.std.proofs.lemmas.List.{map-append}
use Rattle.std.proofs.lemmas.Result.{err_from_is_err_and}
use Rattle.json.specs.Json.{read_key}
use Rattle.smith_config_json.specs.Objects.{ends, breaks, repeats, refuses, sets}
use Rattle.smith_config_json.proofs.MemberLemmas.{given_name, shorter_by_key}
use Rattle.smith_config_json.proofs.read.read_members.Goals as goal

pub returns-in_default-clause-refused : goal.returns-in_default-clause-refused
returns-in_default-clause-refused c = λ h. rw (c.nameless.ensures.0, c.nameless.ensures.1)
    (c.loop-key.invariant _ (breaks c.in_default.ensures.value))

pub returns-in_default-key-clause-ok : goal.returns-in_default-key-clause-ok
returns-in_default-key-clause-ok c =
    let after : read_key c.loop-key.reader ≡ Some (None, c.next_key.new.self) = rw c.in_default-key.is at c.in-Ok.ensures.value in
    c.loop-key.invariant _ (ends after)

pub returns-then-is_given-clause-refused : goal.returns-then-is_given-clause-refused
returns-then-is_given-clause-refused c = λ h.
    let after : read_key c.loop-key.reader ≡ Some (Some c.in-Some.name.now, c.next_key.new.self) =
    rw c.in-Some.is at c.in-Ok.ensures.value in
    let given = given_name _ c.loop-key.given.items c.in-Some.name.now _ c.as_slice.ensures.value c.is_given.ensures ∙ c.if-is_given.true in
    let said = c.refusal_of.ensures h in rw (said.0, said.1) (c.loop-key.invariant _ (repeats after given))

pub returns-in_err-read_member-clause-refused : goal.returns-in_err-read_member-clause-refused
returns-in_err-read_member-clause-refused c =
    let after : read_key c.loop-key.reader ≡ Some (Some c.in-Some.name.now, c.next_key.new.self) =
    rw c.in-Some.is at c.in-Ok.ensures.value in
    let given = given_name _ c.loop-key.given.items c.in-Some.name.now _ c.as_slice.ensures.value c.is_given.ensures
    ∙ c.if-is_given.false in
    let handed = err_from_is_err_and c.from_residual.result c.from_residual.ensures.1 in
    rw (handed.1, handed.2) (λ h. let said = c.in_err-read_member.ensures.refused h in rw (said.1, c.in_err-read_member.ensures.unchanged)
    (c.loop-key.invariant _ (refuses after given said.0)))

pub loop-key-smaller : goal.loop-key-smaller
loop-key-smaller c =
    let after : read_key c.loop-key.reader ≡ Some (Some c.in-Some.name.now, c.next_key.new.self) =
    rw c.in-Some.is at c.in-Ok.ensures.value in
    let fewer = shorter_by_key c.loop-key.reader c.next_key.new.self _ after in
    let shorter : length c.read_member.new.reader ≤ length c.next_key.new.self = c.read_member.ensures.shorter in
    omega (arith, fewer, shorter)

pub loop-key-preserved : goal.loop-key-preserved
loop-key-preserved c = λ r later.
    let after : read_key c.loop-key.reader ≡ Some (Some c.in-Some.name.now, c.next_key.new.self) =
    rw c.in-Some.is at c.in-Ok.ensures.value in
    let given = given_name _ c.loop-key.given.items c.in-Some.name.now _ c.as_slice.ensures.value c.is_given.ensures
    ∙ c.if-is_given.false in
    let pushed : c.push.new.self.items ≡ c.loop-key.given.items ++ c.in-Some.name ∷ [] = grind (arith, common_steps) in
    c.loop-key.invariant r (sets after given c.in_ok-read_member.ensures.ok (rw (pushed, map-append) at later))
