use Rattle.smith_draw_imports.proofs.Common.{ap, arith, decimal, false, length, length-append, refl, string_bytes, sym, true, ◌<◌, ◌∙◌, ◌≡◌}
use Rattle.smith_draw_imports.proofs.Common.{◌≤◌}
use Rattle.std.proofs.lemmas.Fmt.{decimal_nonempty}
use Rattle.smith_draw_imports.specs.ImportNames.{has_pair}
use Rattle.smith_draw_imports.proofs.ImportNameLemmas.{longest_pair, present_short, making_start, making_more, making_done}
use Rattle.smith_draw_imports.proofs.import_names.new_pair.Goals as goal

pub loop-pair-init : goal.loop-pair-init
loop-pair-init c =
    let some : 0 < length (decimal c.len-count.result) = decimal_nonempty c.len-count.result (omega arith) in
    record { from = refl; making = making_start _ _ _ (rw c.len-count.ensures.len at some) }

pub loop-pair-smaller : goal.loop-pair-smaller
loop-pair-smaller c =
    let short : length (string_bytes c.loop-pair.pair.1) ≤ longest_pair c.args.pairs.now.keys =
    present_short (string_bytes c.loop-pair.pair.0) (string_bytes c.loop-pair.pair.1) c.args.pairs.now.keys
    (sym c.contains.ensures ∙ c.loop-pair-test.true) in
    let grows : 0 < length (decimal c.len-count.result) = decimal_nonempty c.len-count.result (omega arith) in
    omega (arith, simp length-append at (ap length c.in_ok-write.ensures.bytes))

pub loop-pair-preserved : goal.loop-pair-preserved
loop-pair-preserved c =
    let there : has_pair c.args.pairs.now (string_bytes c.loop-pair.pair.0) (string_bytes c.loop-pair.pair.1) ≡ true =
    sym c.contains.ensures ∙ c.loop-pair-test.true in
    record {
      from = c.loop-pair.invariant.from;
      making = making_more c.loop-pair.invariant.making (rw c.loop-pair.invariant.from at there)
          (rw c.len-count.ensures.len at c.in_ok-write.ensures.bytes);
    }

pub returns-clause-made : goal.returns-clause-made
returns-clause-made c =
    let fresh : has_pair c.args.pairs.now (string_bytes c.loop-pair.pair.0) (string_bytes c.loop-pair.pair.1) ≡ false =
    sym c.contains.ensures ∙ c.loop-pair-test.false in
    making_done c.loop-pair.invariant.making (rw c.loop-pair.invariant.from at fresh)
