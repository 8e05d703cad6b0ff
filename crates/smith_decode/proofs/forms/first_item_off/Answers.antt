use Rattle.smith_decode.proofs.forms.first_item_off.Goals as goal

pub returns : goal.returns
returns g c = rw c.as_slice.ensures at c.first_off.ensures
