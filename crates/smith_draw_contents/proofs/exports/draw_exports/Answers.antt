use Rattle.smith_draw_contents.proofs.Common.{arith, inr, length, refl, spaces_in, ◌<◌}
use Rattle.smith_draw_contents.proofs.ExportRefusalLemmas.{run_out}
use Rattle.smith_draw_contents.proofs.exports.draw_exports.Goals as goal

pub returns-then-len-config-clause-refusal : goal.returns-then-len-config-clause-refusal
returns-then-len-config-clause-refusal c =
    let kept = rw c.in_ok-drawn.was at c.push_exports-pushed.ensures.kept in
    let none_left = rw c.in_ok-drawn.was at c.push_exports-pushed.ensures.none_left in
    let few : length c.in_ok-drawn.drawn.exports < c.args.config.now.min_exports = omega (arith, c.len.ensures, c.if-len-config.true) in
    inr (
      refl,
      omega (arith, few),
      λ no_shapes. run_out c.args.config.now c.args.types.now.types (spaces_in c.args.spaces.now)
          c.args.imports_size c.in_ok-drawn.drawn.exports c.in_ok-drawn.drawn.type_size c.requires.may kept no_shapes few (none_left few),
    )
