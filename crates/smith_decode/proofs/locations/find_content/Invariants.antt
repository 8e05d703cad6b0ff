use Rattle.smith_decode.proofs.Common.{◌-◌, ◌≡◌}
use Rattle.smith_decode.specs.Locations.{section_content_at}
use Rattle.smith_decode.proofs.locations.find_content.Given as goal

abbrev pub invariant-loop : goal.invariant-loop
invariant-loop l = section_content_at (l.most - l.counter) l.id l.reader ≡ section_content_at l.most l.id l.fn.reader
