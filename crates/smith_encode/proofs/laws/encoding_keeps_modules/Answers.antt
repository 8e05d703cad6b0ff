use Rattle.smith_encode.proofs.Common.{IsModuleBinary, List, subst, ℕ}
use Rattle.smith_decode.specs.Modules.{Syntax}
use Rattle.smith_decode.proofs.EncoderLemmas.{module_same}
use Rattle.smith_encode.proofs.laws.encoding_keeps_modules.Goals as goal

-- bytes that are one module are each module that other bytes of it are
handed_over : (m syntax : Syntax) (bytes other : List ℕ) → IsModuleBinary m bytes → IsModuleBinary m other → IsModuleBinary syntax bytes
    → IsModuleBinary syntax other
handed_over m syntax bytes other h k one = subst (λ (s : Syntax). IsModuleBinary s other) (module_same m syntax bytes h one) k

pub returns-clause-same : goal.returns-clause-same
returns-clause-same c = λ m bytes again h k syntax. (handed_over _ syntax again bytes k h, handed_over _ syntax bytes again h k)

pub returns-clause-spelled : goal.returns-clause-spelled
returns-clause-spelled c = λ m bytes h none. none bytes h
