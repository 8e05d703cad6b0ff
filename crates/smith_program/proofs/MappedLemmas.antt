-- The bodies of a module that are changed one by one.
use Rattle.smith_program.proofs.Common.{ap, Code, get_or, length, List, map, ModuleParts, same_Some, slice_get, slice_get-get_or}
use Rattle.smith_program.proofs.Common.{slice_get_within, Some, subst, sym, ℕ, ◌<◌, ◌∙◌, ◌≡◌}
use Rattle.std.specs.Prelude.{option_map}
use Rattle.std.proofs.lemmas.List.{length-map}
use Rattle.std.proofs.lemmas.Option.{slice_get-map}
use Rattle.smith_program.specs.Bodies.{AreBodiesOf, IsBodyAt, IsOfBody}
use Rattle.smith_program.specs.declared.program.Body.{Body}

-- an item of a mapped list is the image of an item
unmapped : {A B : Type 0} (f : A → B) (xs : List A) (d : A) (place : ℕ) (y : B) → slice_get (map f xs) place ≡ Some y
    → (x : A) × (slice_get xs place ≡ Some x) × (f x ≡ y)
unmapped f xs d place y at =
    let within : place < length (map f xs) = slice_get_within (map f xs) place y at in
    let inside : place < length xs = subst (λ (n : ℕ). place < n) (length-map xs f) within in
    let here : slice_get xs place ≡ Some (get_or xs place d) = slice_get-get_or xs place d inside in
    (get_or xs place d, here, same_Some (f (get_or xs place d)) y (sym (ap (option_map f) here) ∙ (sym (slice_get-map f xs place) ∙ at)))

-- bodies stay those of a module's functions if each does
pub mapped_bodies : (old new : ModuleParts) (f : Body → Body) (bodies : List Body) → new.code ≡ old.code
    → ((place : ℕ) (code : Code) (given : Body) → IsOfBody (IsBodyAt old place code) code given
    → IsOfBody (IsBodyAt new place code) code (f given))
    → AreBodiesOf old bodies → AreBodiesOf new (map f bodies)
mapped_bodies old new f bodies same still are = record {
  each = length-map bodies f ∙ (are.each ∙ sym (ap (λ (codes : List Code). length codes) same));
  in_place = λ place code given at there.
      let (drawn, was, is) = unmapped f bodies given place given there in
      let here : slice_get old.code place ≡ Some code = subst (λ (codes : List Code). slice_get codes place ≡ Some code) same at in
      subst (IsOfBody (IsBodyAt new place code) code) is (still place code drawn (are.in_place place code drawn here was));
}
