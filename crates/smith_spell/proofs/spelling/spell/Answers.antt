use Rattle.smith_spell.proofs.Common.{Config, false, sanitized, subst, sym, true, ◌∙◌, ◌≡◌, ◌≤◌}
use Rattle.std.proofs.Common.{◌^◌}
use Rattle.smith_bytes.specs.declared.error.Count.TheVariants as counts
use Rattle.smith_spell.proofs.AskedLemmas.{asked_at_first}
use Rattle.smith_spell.proofs.AnsweredLemmas.{asked_in_vain, answered}
use Rattle.smith_spell.proofs.spelling.spell.Goals as goal

pub returns-then-not-requires_nothing : goal.returns-then-not-requires_nothing
returns-then-not-requires_nothing c =
    asked_in_vain (sanitized c.args.config.now) c.args.groups.now c.args.funcs.now
    (λ asks. let never : false ≡ true = sym c.if-not-requires_nothing.true ∙ c.requires_nothing.ensures.1 asks in cc never)

pub spell_in_family-bytes-requires : goal.spell_in_family-bytes-requires
spell_in_family-bytes-requires c =
    let found = rw c.in-Some.is at c.in_ok-own.ensures.found in
    subst (λ (own : Config). own.max_types ≤ 2 ^ 31) (sym found.0) (found.1.few counts.Types)

pub returns-in_err-own : goal.returns-in_err-own
returns-in_err-own c =
    let asks = asked_at_first c.args.config.now (c.requires_nothing.ensures.0 c.if-not-requires_nothing.false) in
    let never : false ≡ true = c.in_err-own.ensures.shapeless asks.no_shapes in
    let none : ⊥ = cc never in
    absurd none

pub returns : goal.returns
returns c =
    let found = rw c.in-Some.is at c.in_ok-own.ensures.found in
    answered c.args.config.now c.args.groups.now c.args.funcs.now (c.requires_nothing.ensures.0 c.if-not-requires_nothing.false) found.1
    c.spell_in_family-bytes.result
    (rw found.0 at c.spell_in_family-bytes.ensures.found) c.spell_in_family-bytes.ensures.memory
    (rw found.0 at c.spell_in_family-bytes.ensures.allowed)
