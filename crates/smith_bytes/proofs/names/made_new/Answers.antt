use Rattle.std.proofs.Common.{◌<◌, ◌≤◌, length, string_bytes, arith, length-append, ap, ◌∙◌, sym}
use Rattle.std.specs.Fmt.{decimal}
use Rattle.std.proofs.lemmas.Fmt.{decimal_nonempty}
use Rattle.smith_bytes.proofs.MadeNewLemmas.{longest, present_short, making_more}
use Rattle.smith_bytes.proofs.names.made_new.Goals as goal

pub loop-name-smaller : goal.loop-name-smaller
loop-name-smaller c =
    let short : length (string_bytes c.loop-name.name) ≤ longest c.args.names.now.keys =
    present_short (string_bytes c.loop-name.name) c.args.names.now.keys (sym c.contains.ensures ∙ c.loop-name-test.true) in
    let grows : 0 < length (decimal c.len.result) = decimal_nonempty c.len.result (omega arith) in
    omega (arith, simp length-append at (ap length c.in_ok-write.ensures.bytes))

pub loop-name-preserved : goal.loop-name-preserved
loop-name-preserved c = making_more c.loop-name.invariant c.contains.ensures c.loop-name-test.true c.len.ensures.len
    c.in_ok-write.ensures.bytes
