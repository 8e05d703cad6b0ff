use Rattle.std.proofs.Common.{◌≡◌, length}
use Rattle.smith_config_json.specs.Members.{value_of}
use Rattle.smith_config_json.proofs.member.value_of.Given as goal

-- no token so far is the key
abbrev pub invariant-loop-token : goal.invariant-loop-token
invariant-loop-token l = value_of l.name l.reader ≡ value_of l.name l.initial.reader

abbrev pub decreases-loop-token : goal.decreases-loop-token
decreases-loop-token l = length l.reader
