-- What is made of a request is made of its text.
use Rattle.std.proofs.Common.{ℕ, List, subst}
use Rattle.smith_request.specs.Output.{IsBinaryOf, IsRefusedFor}
use Rattle.smith_request.specs.Refusals.{IsRefusal, IsRefusalFor}
use Rattle.smith_request.specs.Requests.{IsRequest, IsBinary, IsBinaryFor, HasBinary, HasBinaryFor, IsTextOf, IsTextFor}
use Rattle.smith_request.specs.declared.additions.Additions.{Additions}
use Rattle.smith_request.specs.declared.manner.Form.{Form}
use Rattle.smith_request.specs.declared.refusal.Refusal.{Refusal}
use Rattle.smith_request.specs.declared.request.Request.{Request}

pub binary_of : {text input : List ℕ} {request : Request} → IsRequest text request → (bytes : List ℕ) → IsBinaryFor request input bytes
    → IsBinary text input bytes
binary_of {input = input} {request = request} read bytes made = record {
  config = request.config;
  configured = read.configured;
  left = made.left;
  binary = subst (λ (additions : Additions). IsBinaryOf request.config additions input bytes made.left) read.additions made.binary;
}

pub has_binary_of : {text input : List ℕ} {request : Request} → IsRequest text request → HasBinaryFor request input → HasBinary text input
has_binary_of read made = (made.0, binary_of read made.0 made.1)

pub text_of : {text input : List ℕ} {request : Request} → IsRequest text request → (bytes : List ℕ) → IsTextFor request input bytes
    → IsTextOf text input bytes
text_of {request = request} read bytes made = record {
  config = request.config;
  configured = read.configured;
  left = made.left;
  written = made.written;
}

pub refusal_of : {text input : List ℕ} {request : Request} (form : Form) → IsRequest text request → (refusal : Refusal)
    → IsRefusalFor form request input refusal
    → IsRefusal form text input refusal
refusal_of {input = input} {request = request} form read refusal made =
    IsRefusal.not_made read.configured
    (subst (λ (additions : Additions). IsRefusedFor form request.config additions input made.left refusal) read.additions made.unmade)
