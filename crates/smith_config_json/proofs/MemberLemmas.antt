-- The names of earlier members, and the tokens after a key.
use Rattle.std.proofs.Common.{◌≡◌, ℕ, suc, List, [], ◌∷◌, Bool, ◌||◌, Option, Some, length, map, refl, sym, ap, ◌∙◌, arith, Bor}
use Rattle.std.specs.List.{list_any}
use Rattle.std.specs.Str.{bytes_eq}
use Rattle.json.specs.Token.{Token, begin_object, end_object, begin_array, end_array, key, string, number, boolean, null, bad}
use Rattle.json.specs.Json.{read_key}
use Rattle.smith_config_json.specs.Objects.{is_given}

any_name : (given : List (Bor (List ℕ))) (name : List ℕ) → list_any (λ other. bytes_eq other.now name) given
    ≡ is_given (map (λ other. other.now) given) name
any_name [] name = refl
any_name (x ∷ xs) name = ap (λ b. bytes_eq x.now name || b) (any_name xs name)

pub given_name : (lent given : List (Bor (List ℕ))) (name : List ℕ) (answer : Bool) → lent ≡ given
    → answer ≡ list_any (λ other. bytes_eq other.now name) lent → is_given (map (λ other. other.now) given) name ≡ answer
given_name lent given name answer same found = sym (any_name given name) ∙ sym (rw same at found)

pub shorter_by_key : (ts rest : List Token) (k : Option (List ℕ)) → read_key ts ≡ Some (k, rest) → length ts ≡ suc (length rest)
shorter_by_key [] rest k h = grind arith
shorter_by_key (begin_object ∷ ts) rest k h = grind arith
shorter_by_key (end_object ∷ ts) rest k h = grind arith
shorter_by_key (begin_array ∷ ts) rest k h = grind arith
shorter_by_key (end_array ∷ ts) rest k h = grind arith
shorter_by_key (key s ∷ ts) rest k h = grind arith
shorter_by_key (string s ∷ ts) rest k h = grind arith
shorter_by_key (number s ∷ ts) rest k h = grind arith
shorter_by_key (boolean b ∷ ts) rest k h = grind arith
shorter_by_key (null ∷ ts) rest k h = grind arith
shorter_by_key (bad ∷ ts) rest k h = grind arith
