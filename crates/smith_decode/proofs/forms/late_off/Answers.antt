use Rattle.smith_decode.proofs.Common.{features_in, refl, take}
use Rattle.smith_decode.specs.Forms.{forms_of}
use Rattle.smith_decode.proofs.FormLemmas.{one_more}
use Rattle.smith_decode.proofs.forms.late_off.Goals as goal

pub returns-in-Some : goal.returns-in-Some
returns-in-Some c = (c.requires, c.in-Some.ensures)

pub returns-in-Some-first_body_off : goal.returns-in-Some-first_body_off
returns-in-Some-first_body_off c =
    let forms = forms_of (features_in c.args.form.features) c.args.m.now in
    let eight = one_more (take 7 forms) _ c.requires c.in_default.ensures in
    let nine = one_more (take 8 forms) _ eight (c.if-not-is_count_enabled.ensures.0 refl) in
    (nine, c.in-Some-first_body_off.ensures)

pub returns-in-Some-first_item_off : goal.returns-in-Some-first_item_off
returns-in-Some-first_item_off c =
    let forms = forms_of (features_in c.args.form.features) c.args.m.now in
    let eight = one_more (take 7 forms) _ c.requires c.in_default.ensures in
    let nine = one_more (take 8 forms) _ eight (c.if-not-is_count_enabled.ensures.0 refl) in
    let ten = one_more (take 9 forms) _ nine c.in_default-first_body_off.ensures in
    (ten, c.in-Some-first_item_off.ensures)

pub returns : goal.returns
returns c =
    let forms = forms_of (features_in c.args.form.features) c.args.m.now in
    let eight = one_more (take 7 forms) _ c.requires c.in_default.ensures in
    let nine = one_more (take 8 forms) _ eight (c.if-not-is_count_enabled.ensures.0 refl) in
    let ten = one_more (take 9 forms) _ nine c.in_default-first_body_off.ensures in
    one_more (take 10 forms) _ ten c.in_default-first_item_off.ensures
