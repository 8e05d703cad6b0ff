use Rattle.std.proofs.Common.{◌≡◌, ◌+◌, ◌++◌, ◌^◌, ◌<◌, length, ◌∙◌, sym, ap, subst}
use Rattle.std.specs.Prelude.{OnOk}
use Rattle.smith_check_types.specs.FirstGroups.{codes_after, known_start, numbers_from}
use Rattle.smith_check_types.proofs.CanonicalLemmas.{start_is}
use Rattle.smith_check_types.proofs.canonical.add_group.Goals as goal

pub push_numbers-requires : goal.push_numbers-requires
push_numbers-requires c =
    let start = start_is (known_start c.args.starts.now) c.in_ok-codes.codes.items (codes_after c.args.indices.now.items c.args.group.now)
    c.in_ok-start.start _ (length c.args.indices.now.items)
    (c.in_ok-codes.ensures.ok ∙ ap (λ l. codes_after l c.args.group.now) c.as_slice.ensures.value)
    c.in_ok-start.ensures.start (c.len.ensures ∙ sym c.as_slice.ensures.len ∙ ap length c.as_slice.ensures.value) in
    record { few = subst (λ n. n + length c.args.group.now < 2 ^ 32) (sym start) c.requires.known }

pub returns-clause-added : goal.returns-clause-added
returns-clause-added c =
    let start = start_is (known_start c.args.starts.now) c.in_ok-codes.codes.items (codes_after c.args.indices.now.items c.args.group.now)
    c.in_ok-start.start _ (length c.args.indices.now.items)
    (c.in_ok-codes.ensures.ok ∙ ap (λ l. codes_after l c.args.group.now) c.as_slice.ensures.value)
    c.in_ok-start.ensures.start (c.len.ensures ∙ sym c.as_slice.ensures.len ∙ ap length c.as_slice.ensures.value) in
    subst (λ n. OnOk c.push_numbers.result (c.push_numbers.new.indices.items ≡ c.args.indices.now.items ++ numbers_from n
    (length c.args.group.now))) start c.push_numbers.ensures.ok
