use Rattle.smith_decode.proofs.Common.{features_in, take}
use Rattle.smith_decode.specs.Forms.{forms_of}
use Rattle.smith_decode.proofs.FormLemmas.{one_more}
use Rattle.smith_decode.proofs.forms.middle_off.Goals as goal

pub returns-in-Some-first_item_off : goal.returns-in-Some-first_item_off
returns-in-Some-first_item_off c =
    let forms = forms_of (features_in c.args.form.features) c.args.m.now in
    let five = one_more (take 4 forms) _ c.requires c.in_default.ensures in
    (five, c.in-Some-first_item_off.ensures)

pub returns-in-Some-first_item_off-2 : goal.returns-in-Some-first_item_off-2
returns-in-Some-first_item_off-2 c =
    let forms = forms_of (features_in c.args.form.features) c.args.m.now in
    let five = one_more (take 4 forms) _ c.requires c.in_default.ensures in
    let six = one_more (take 5 forms) _ five c.in_default-first_item_off.ensures in
    (six, c.in-Some-first_item_off-2.ensures)

pub returns : goal.returns
returns c =
    let forms = forms_of (features_in c.args.form.features) c.args.m.now in
    let five = one_more (take 4 forms) _ c.requires c.in_default.ensures in
    let six = one_more (take 5 forms) _ five c.in_default-first_item_off.ensures in
    one_more (take 6 forms) _ six c.in_default-first_item_off-2.ensures
