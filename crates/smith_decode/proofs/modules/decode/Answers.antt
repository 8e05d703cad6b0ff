use Rattle.smith_decode.proofs.Common.{features_in}
use Rattle.smith_decode.proofs.ContentsLemmas.{is_sound, is_enabled, is_complete}
use Rattle.smith_decode.proofs.ModuleSizeLemmas.{is_small}
use Rattle.smith_decode.proofs.modules.decode.Goals as goal

pub returns-clause-sound : goal.returns-clause-sound
returns-clause-sound c = is_sound (features_in c.args.features) c.args.bytes.now c.read_located.result c.read_located.ensures

pub returns-clause-enabled : goal.returns-clause-enabled
returns-clause-enabled c = is_enabled (features_in c.args.features) c.args.bytes.now c.read_located.result c.read_located.ensures

pub returns-clause-complete : goal.returns-clause-complete
returns-clause-complete c = λ m h.
    is_complete (features_in c.args.features) c.args.bytes.now c.read_located.result m c.read_located.ensures h

pub returns-clause-small : goal.returns-clause-small
returns-clause-small c = is_small (features_in c.args.features) c.args.bytes.now c.read_located.result c.read_located.ensures
