use Rattle.smith_request.specs.Requests.{additions_of}
use Rattle.smith_request.proofs.ValidLemmas.{binary_valid, plain_valid}
use Rattle.smith_request.proofs.laws.binaries_are_valid.Goals as goal

pub returns-clause-of_a_configuration : goal.returns-clause-of_a_configuration
returns-clause-of_a_configuration c = binary_valid

pub returns-clause-without_customs : goal.returns-clause-without_customs
returns-clause-without_customs c = plain_valid

pub returns-clause-of_a_text : goal.returns-clause-of_a_text
returns-clause-of_a_text c = λ text input bytes h. binary_valid h.config (additions_of text) input bytes h.left h.binary

pub returns-clause-of_a_text_without_customs : goal.returns-clause-of_a_text_without_customs
returns-clause-of_a_text_without_customs c = λ text input bytes h off.
    plain_valid h.config (additions_of text) input bytes h.left off h.binary

pub returns-clause-of_shapes : goal.returns-clause-of_shapes
returns-clause-of_shapes c =
    λ files request input bytes h. binary_valid h.shaped.config h.shaped.additions input bytes h.binary.left h.binary.binary
