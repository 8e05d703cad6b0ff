use Rattle.std.proofs.Common.{◌≡◌, drop}
use Rattle.smith_config_json.specs.Fields.{named}
use Rattle.smith_config_json.specs.Presets.{presets_in}
use Rattle.smith_config_json.proofs.preset.find_preset.Given as goal

-- no earlier item has the name
abbrev pub invariant-loop-other : goal.invariant-loop-other
invariant-loop-other l = named l.name (presets_in (drop l.other-index l.table)) ≡ named l.name (presets_in l.table)
