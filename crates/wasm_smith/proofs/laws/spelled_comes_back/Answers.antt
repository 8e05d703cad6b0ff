use Rattle.wasm_smith.proofs.Common.{refl}
use Rattle.wasm_smith.proofs.laws.spelled_comes_back.Goals as goal

pub returns : goal.returns
returns c = λ distinct given groups funcs piece remaining left answer spelled generated.
    generated.reach groups funcs remaining (record { spellable = spelled.0; piece = piece; spelled = spelled.1; parts = refl })
