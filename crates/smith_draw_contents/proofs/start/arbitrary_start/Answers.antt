use Rattle.smith_types.specs.Exports.{IsStartValid}
use Rattle.smith_draw_contents.proofs.Common.{drawn_is, None, Option, ℕ, ◌≡◌}
use Rattle.smith_draw_contents.proofs.StartLemmas.{start_valid, start_off, start_taken}
use Rattle.smith_draw_contents.proofs.start.arbitrary_start.Goals as goal

pub returns : goal.returns
returns c =
    let config = c.args.config.now in
    let types = c.args.types.now in
    let funcs = c.args.funcs.now in
    let exact = c.draw_start.ensures.exact in
    record {
      draws = c.draw_start.ensures;
      valid = drawn_is (λ (start : Option ℕ). IsStartValid types funcs start) _ (start_valid config types funcs c.args.u.now) exact;
      off = λ off. drawn_is (λ (start : Option ℕ). start ≡ None) _ (start_off config types funcs c.args.u.now off) exact;
      none = start_taken config types funcs _ _ _ exact;
    }
