use Rattle.std.proofs.Common.{[], map, length}
use Rattle.smith_config_json.specs.Objects.{Reading, ReadsMembers}
use Rattle.smith_config_json.proofs.read.read_members.Given as goal

-- the result of the members from here on, for the present configuration, is that of all members for
-- the first
abbrev pub invariant-loop-key : goal.invariant-loop-key
invariant-loop-key l = (r : Reading) → ReadsMembers (map (λ name. name.now) l.given.items) l.config l.reader r
    → ReadsMembers [] l.initial.config l.initial.reader r

abbrev pub decreases-loop-key : goal.decreases-loop-key
decreases-loop-key l = length l.reader
