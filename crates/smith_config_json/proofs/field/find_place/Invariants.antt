use Rattle.std.proofs.Common.{◌≡◌, drop}
use Rattle.smith_config_json.specs.Fields.{named}
use Rattle.smith_config_json.specs.Places.{fields_in}
use Rattle.smith_config_json.proofs.field.find_place.Given as goal

-- no earlier item has the name
abbrev pub invariant-loop-other : goal.invariant-loop-other
invariant-loop-other l = named l.name (fields_in (drop l.other-index l.table)) ≡ named l.name (fields_in l.table)
