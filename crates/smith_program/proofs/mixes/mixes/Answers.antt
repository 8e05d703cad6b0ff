use Rattle.smith_program.proofs.Common.{ap, arith, common_steps, Instr, length, List, take, ValType, ℕ, ◌++◌, ◌∙◌, ◌≡◌}
use Rattle.std.proofs.Common.{min}
use Rattle.std.proofs.lemmas.List.{take_min}
use Rattle.smith_program.specs.Observed.{mixes_from}
use Rattle.smith_program.proofs.MixedLoop.{mixes_more}
use Rattle.smith_program.proofs.mixes.mixes.Goals as goal

pub loop-index-preserved : goal.loop-index-preserved
loop-index-preserved c =
    c.in_ok-append.ensures.items
    ∙ (ap (λ (zs : List Instr). c.loop-index.made.items ++ zs) c.in_ok-mix.ensures.ok
    ∙ mixes_more c.args.first c.loop-index.index c.args.locals.now _ c.loop-index.made.items (omega (arith, c.min-index-end.ensures))
    (grind (arith, common_steps)) c.loop-index.invariant)

pub returns-clause-ok : goal.returns-clause-ok
returns-clause-ok c =
    let is : c.loop-index.index ≡ min 1000 (length c.args.locals.now) = omega (arith, c.min-index-end.ensures) in
    c.loop-index.invariant
    ∙ ap (λ (zs : List ValType). mixes_from c.args.first 0 zs)
    (ap (λ (n : ℕ). take n c.args.locals.now) is ∙ take_min 1000 c.args.locals.now)
