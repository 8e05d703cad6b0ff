use Rattle.std.proofs.Common.{◌≡◌, string_bytes, true, false}
use Rattle.std.specs.HashSet.{contains_text}
use Rattle.std.proofs.lemmas.Map.Text.{hash_set_updates_text}
use Rattle.smith_bytes.proofs.MadeNewLemmas.{added_size}
use Rattle.smith_bytes.proofs.names.unique.Goals as goal

pub returns-clause-added : goal.returns-clause-added
returns-clause-added c =
    let fresh : contains_text c.args.names.now (string_bytes c.in_ok-clone.field-0) ≡ false =
    rw c.in_ok-clone.ensures.cases c.in_ok-name.ensures.made.fresh in
    record {
      has = λ other. rw c.in_ok-clone.ensures.cases at (hash_set_updates_text (string_bytes c.in_ok-clone.field-0) c.args.names.now
          c.insert.new.self true c.in_ok-insert.ensures.updates other);
      size = added_size _ _ c.in_ok-insert.ensures.len c.in_ok-insert.ensures.added fresh;
    }
