use Rattle.std.proofs.Common.{◌≡◌, drop}
use Rattle.std.specs.List.{list_any}
use Rattle.std.specs.Str.{bytes_eq}
use Rattle.smith_config_json.proofs.read.is_given.Given as goal

-- no earlier name is the name
abbrev pub invariant-loop-other : goal.invariant-loop-other
invariant-loop-other l = list_any (λ other. bytes_eq other.now l.name) (drop l.other-index l.given)
    ≡ list_any (λ other. bytes_eq other.now l.name) l.given
