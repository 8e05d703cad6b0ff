-- The parts of a text, read one at a time.
use Rattle.std.proofs.Common.{◌≡◌, ℕ, ◌+◌, ◌<◌, List, [], ◌∷◌, ◌++◌, length, take, get_or, sym, subst, ap, ◌∙◌}
use Rattle.std.specs.List.{AllZip}
use Rattle.std.proofs.lemmas.List.{take_more}
use Rattle.std.proofs.lemmas.Slice.Zip.{all_zipped_more}

-- a relation between the parts before a position and the values read from them extends to that
-- position if it holds there
pub AllZip-next : {A B : Type 0} (R : A → B → Type 0) (parts : List A) (place : ℕ) (read : List B) (part : A) (y : B)
    → place < length parts → part ≡ get_or parts place part → AllZip R (take place parts) read → R part y
    → AllZip R (take (place + 1) parts) (read ++ y ∷ [])
AllZip-next R parts place read part y lt at before here =
    let e : take (place + 1) parts ≡ take place parts ++ part ∷ [] =
    take_more parts place part lt ∙ ap (λ p. take place parts ++ p ∷ []) (sym at) in
    subst (λ ps. AllZip R ps (read ++ y ∷ [])) (sym e) (all_zipped_more R (take place parts) read part y before here)
