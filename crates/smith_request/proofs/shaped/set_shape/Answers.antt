use Rattle.std.proofs.Common.{◌≡◌, ℕ, List, [], length, refl, sym, ap, ◌∙◌}
use Rattle.std.proofs.lemmas.Bool.{false≢true}
use Rattle.std.proofs.lemmas.Bool.Decides.{Decides-eqb}
use Rattle.smith_request.specs.Shaped.{IsGiven}
use Rattle.smith_request.proofs.shaped.set_shape.Goals as goal

pub returns-in-Ok-clause-ok : goal.returns-in-Ok-clause-ok
returns-in-Ok-clause-ok c =
    let some : c.args.bytes.now ≡ [] → ⊥ = λ none.
    false≢true (sym c.if-is_empty.false ∙ c.is_empty.ensures ∙ (Decides-eqb (length c.args.bytes.now) 0).1
    (ap (λ (bytes : List ℕ). length bytes) none)) in
    IsGiven.one some c.in-Ok.ensures.ok refl
