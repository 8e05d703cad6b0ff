use Rattle.std.proofs.Common.{◌≡◌, drop}
use Rattle.std.specs.List.{list_all}
use Rattle.std.specs.Char.{is_ascii_digit}
use Rattle.smith_config_json.proofs.value.all_digits.Given as goal

-- each earlier byte is a digit
abbrev pub invariant-loop-byte : goal.invariant-loop-byte
invariant-loop-byte l = list_all is_ascii_digit (drop l.byte-index l.text) ≡ list_all is_ascii_digit l.text
