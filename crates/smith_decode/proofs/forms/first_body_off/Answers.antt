use Rattle.smith_decode.proofs.Common.{features_in, refl}
use Rattle.smith_decode.proofs.EveryLemmas.{bodies_enabled}
use Rattle.smith_decode.proofs.forms.first_body_off.Goals as goal

pub returns-then-have_all : goal.returns-then-have_all
returns-then-have_all c = bodies_enabled (features_in c.args.form.features) c.args.bodies.now (c.if-have_all.ensures refl)
