use Rattle.smith_draw_consts.proofs.Common.{ap, arith, eqb_tells, false, inl, inr, not, sym, true, ◌*◌, ◌∙◌, ◌≡◌}
use Rattle.std.proofs.Common.{min, ◌/◌}
use Rattle.smith_draw_consts.proofs.BlockCountLemmas.{none_near}
use Rattle.smith_draw_consts.proofs.block_counts.BlockCounts.may_offer.Goals as goal

pub returns-clause-none : goal.returns-clause-none
returns-clause-none c = λ before counted rising no.
    let same : c.start_of.result ≡ c.start_of-2.result = elim (eqb_tells c.start_of.result c.start_of-2.result) [
      | inl (test, is) ↦ is
      | inr (test, other) ↦ let never : true ≡ false = ap not (sym test) ∙ no in cc
    ] in
    none_near before c.args.self.now.seen c.args.first c.args.end rising c.requires.0 c.requires.1 (omega arith)
    (sym (c.start_of.ensures before counted) ∙ same ∙ c.start_of-2.ensures before counted)

pub returns-clause-some : goal.returns-clause-some
returns-clause-some c = λ before counted yes. inr (λ none.
    let start : min (8 * (c.args.first / 8)) c.args.self.now.seen ≡ 8 * (c.args.first / 8) = omega (arith, c.requires.0) in
    let same = c.start_of.ensures before counted ∙ ap before start ∙ none ∙ sym (c.start_of-2.ensures before counted) in
    elim (eqb_tells c.start_of.result c.start_of-2.result) [
      | inl (test, is) ↦ let never : false ≡ true = ap not (sym test) ∙ yes in cc
      | inr (test, other) ↦ other same
    ])
