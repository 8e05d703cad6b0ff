use Rattle.std.proofs.lemmas.List.Elements.{All-contains}
use Rattle.smith_request.specs.Invalid.{IsAmong, IsUnbroken}
use Rattle.smith_wrong.specs.Changes.{family_of}
use Rattle.smith_request.proofs.request.Request.invalid.Goals as goal

pub returns-in-Ok-new-clause-file : goal.returns-in-Ok-new-clause-file
returns-in-Ok-new-clause-file c = record {
  left = c.new.new.u;
  drawn = rw c.new-u.ensures at c.in-Ok-new.ensures.made;
  among = All-contains (IsAmong c.args.families.now) c.in-Ok.families.items (family_of c.in-Ok-new.wrong.change) c.in-Ok.ensures.among
      (rw c.as_slice.ensures.value at c.in-Ok-new.ensures.family);
}

pub returns-in-Ok-clause-refused : goal.returns-in-Ok-clause-refused
returns-in-Ok-clause-refused c = IsUnbroken.not_drawn c.new.new.u _ (rw c.new-u.ensures at c.in-Err-new.ensures.refused) c.from.ensures
