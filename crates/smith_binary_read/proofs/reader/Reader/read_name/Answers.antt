use Rattle.std.proofs.Common.{sym, ap, Ok, rules, List, ℕ}
use Rattle.std.proofs.lemmas.Bool.{false_from_ne_true}
use Rattle.std.proofs.lemmas.Str.{IsUtf8-from_is_utf8, is_utf8-from_IsUtf8}
use Rattle.smith_binary_read.specs.Contents.{name_at}
use Rattle.smith_binary_read.proofs.reader.Reader.read_name.Goals as goal

pub returns-in-Ok : goal.returns-in-Ok
unfolding name_at
returns-in-Ok c = rw (c.in_ok-bytes.ensures, is_utf8-from_IsUtf8 _ c.in-Ok.ensures.cases.1)
    (ap (λ (text : List ℕ). Ok (text, c.read_content.new.self)) (sym c.in-Ok.ensures.cases.0))

pub returns-in-Err : goal.returns-in-Err
unfolding name_at
returns-in-Err c = rw (c.in_ok-bytes.ensures, false_from_ne_true _ (λ h. c.in-Err.ensures.cases.0 (IsUtf8-from_is_utf8 _ h))) (search rules)
