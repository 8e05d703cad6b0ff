use Rattle.std.proofs.lemmas.Str.{IsUtf8-string_bytes}
use Rattle.smith_request.proofs.writers.write_text.Goals as goal

pub returns-in-Ok-clause-text : goal.returns-in-Ok-clause-text
returns-in-Ok-clause-text c =
    rw c.into_bytes.ensures.value (record { utf8 = IsUtf8-string_bytes c.in-Ok.text; some = c.in-Ok.ensures.some })
