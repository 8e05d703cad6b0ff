use Rattle.smith_decode.proofs.forms.early_off.Goals as goal

pub returns-in-Some-first_item_off-2 : goal.returns-in-Some-first_item_off-2
returns-in-Some-first_item_off-2 c = (
  (c.in_default.ensures, (c.in_default-first_item_off.ensures, tt)),
  c.in-Some-first_item_off-2.ensures,
)

pub returns-in-Some-first_item_off-3 : goal.returns-in-Some-first_item_off-3
returns-in-Some-first_item_off-3 c = (
  (c.in_default.ensures, (c.in_default-first_item_off.ensures, (c.in_default-first_item_off-2.ensures, tt))),
  c.in-Some-first_item_off-3.ensures,
)
