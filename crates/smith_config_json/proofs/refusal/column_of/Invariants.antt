use Rattle.std.proofs.Common.{◌≡◌, ◌≤◌, drop}
use Rattle.std.specs.Prelude.{count_by}
use Rattle.smith_config_json.specs.Lines.{begins, last_line}
use Rattle.smith_config_json.proofs.LineLemmas.{after}
use Rattle.smith_config_json.proofs.refusal.column_of.Given as goal

abbrev pub invariant-loop-byte : goal.invariant-loop-byte
invariant-loop-byte l = record {
  few : l.characters ≤ l.byte-index;
  so_far : after l.characters (drop l.byte-index l.before) ≡ count_by begins (last_line l.before);
}
