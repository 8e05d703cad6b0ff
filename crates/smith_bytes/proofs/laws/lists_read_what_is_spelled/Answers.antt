use Rattle.smith_bytes.proofs.SpelledLemmas.{listed_read, each_read}
use Rattle.smith_bytes.specs.ReadLaws.{Spelled}
use Rattle.smith_bytes.proofs.laws.lists_read_what_is_spelled.Goals as goal

pub returns : goal.returns
returns g c = record {
  asked = λ is_spelled draw most made xs piece after each h. listed_read (Spelled is_spelled) draw most made xs piece after each h;
  needed = λ is_spelled draw least made xs piece after each enough h. each_read (Spelled is_spelled) draw least made xs piece after each
      enough h;
}
