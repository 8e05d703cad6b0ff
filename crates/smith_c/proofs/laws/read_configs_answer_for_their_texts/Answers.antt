use Rattle.std.specs.Prelude.{ℕ, List}
use Rattle.smith_request.proofs.RequestLemmas.{binary_of, has_binary_of, text_of, refusal_of}
use Rattle.smith_request.specs.Requests.{IsRequest}
use Rattle.smith_request.specs.declared.manner.Form.TheVariants.{Binary, Text}
use Rattle.smith_request.specs.declared.refusal.Refusal.{Refusal}
use Rattle.smith_c.specs.CallAnswers.{IsAnswered, IsExplained}
use Rattle.smith_c.specs.KeptConfigs.{AnswersFor, request_of}
use Rattle.smith_c.specs.declared.answer.Answer.{Answer}
use Rattle.smith_c.specs.declared.kept.KeptConfig.{KeptConfig}
use Rattle.smith_c.proofs.laws.read_configs_answer_for_their_texts.Goals as goal

answered : {IsOutput IsOther : List ℕ → Type 0} {MayRefuse MayRefuseToo : Refusal → Type 0}
    → ((bytes : List ℕ) → IsOutput bytes → IsOther bytes)
    → ((refusal : Refusal) → MayRefuse refusal → MayRefuseToo refusal) → (before after : List ℕ) (answer : Answer)
    → IsAnswered IsOutput MayRefuse before after answer → IsAnswered IsOther MayRefuseToo before after answer
answered outputs refusals before after answer (IsAnswered.made {bytes = bytes} is put) = IsAnswered.made (outputs bytes is) put
answered outputs refusals before after answer (IsAnswered.refused {refusal = refusal} may same is) =
    IsAnswered.refused (refusals refusal may) same is

explained : {IsGiven IsOther : Type 0} {MayRefuse MayRefuseToo : Refusal → Type 0} → (IsGiven → IsOther)
    → ((refusal : Refusal) → MayRefuse refusal → MayRefuseToo refusal) → (before after : List ℕ) (answer : Answer)
    → IsExplained IsGiven MayRefuse before after answer → IsExplained IsOther MayRefuseToo before after answer
explained outputs refusals before after answer (IsExplained.given given same is) = IsExplained.given (outputs given) same is
explained outputs refusals before after answer (IsExplained.explained {refusal = refusal} may puts) =
    IsExplained.explained (refusals refusal may) puts

answers_for : (text : List ℕ) (config : KeptConfig) → IsRequest text (request_of config) → AnswersFor config text
answers_for text config read = record {
  binary = λ input. answered (binary_of read) (refusal_of Binary read);
  texts = λ layout input. answered (text_of read) (refusal_of (Text layout) read);
  refusals = λ input. explained (has_binary_of read) (refusal_of Binary read);
}

pub returns : goal.returns
returns c = answers_for
