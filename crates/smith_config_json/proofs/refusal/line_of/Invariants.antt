use Rattle.std.proofs.Common.{◌≡◌, ◌+◌, ◌≤◌, drop}
use Rattle.std.specs.Prelude.{count_by}
use Rattle.smith_config_json.specs.Lines.{is_feed}
use Rattle.smith_config_json.proofs.refusal.line_of.Given as goal

abbrev pub invariant-loop-byte : goal.invariant-loop-byte
invariant-loop-byte l = record {
  few : l.feeds ≤ l.byte-index;
  so_far : l.feeds + count_by is_feed (drop l.byte-index l.before) ≡ count_by is_feed l.before;
}
