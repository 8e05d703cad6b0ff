use Rattle.std.proofs.Common.{◌+◌, sym, arith, ◌∙◌, ap, drop, get_or}
use Rattle.std.proofs.lemmas.List.{drop_more}
use Rattle.smith_config_json.specs.Lines.{is_feed}
use Rattle.smith_config_json.proofs.LineLemmas.{fresh, after_feed, after_first, after_further}
use Rattle.smith_config_json.proofs.refusal.column_of.Goals.{then-byte-eq10, else-byte-eq10+then-byte, else-byte-eq10+else-byte}
use Rattle.smith_config_json.proofs.refusal.column_of.Goals as goal

pub loop-byte-init : goal.loop-byte-init
loop-byte-init c = record { few = omega arith; so_far = fresh c.args.before.now }

pub loop-byte-preserved : goal.loop-byte-preserved
loop-byte-preserved c =
    let seen = c.loop-byte.characters in
    let byte = get_or c.args.before.now c.loop-byte.byte-index 0 in
    let bytes = drop (c.loop-byte.byte-index + 1) c.args.before.now in
    let so_far = rw (drop_more c.args.before.now c.loop-byte.byte-index 0 c.loop-byte-test.true) at c.loop-byte.invariant.so_far in
    elim c.if-byte-eq10.branch [
      | then-byte-eq10 w ↦ record {
        few = omega (arith, w.characters-is);
        so_far = rw w.characters-is (sym (after_feed seen byte bytes (ap is_feed w.if-byte-eq10.true)) ∙ so_far);
      }
      | else-byte-eq10+then-byte w ↦ record {
        few = omega (arith, w.characters-is, c.loop-byte.invariant.few);
        so_far = rw w.characters-is (sym (after_first seen byte bytes w.if-byte-eq10.false w.if-byte.true) ∙ so_far);
      }
      | else-byte-eq10+else-byte w ↦ record {
        few = omega (arith, w.characters-is, c.loop-byte.invariant.few);
        so_far = rw w.characters-is (sym (after_further seen byte bytes w.if-byte-eq10.false w.if-byte.false) ∙ so_far);
      }
    ]
