-- A text of digits is read as the number that it denotes.
use Rattle.std.proofs.Common.{◌≡◌, ℕ, ◌+◌, ◌<◌, ◌≤◌, ◌^◌, List, [], ◌∷◌, Bool, true, false, ◌&&◌, ◌==◌, cond, nat_lt, Ok, Err, length, refl}
use Rattle.std.proofs.Common.{sym, arith}
use Rattle.std.specs.List.{list_all}
use Rattle.std.specs.Int.{IsInRange}
use Rattle.std.specs.Char.{is_ascii_digit, digit_value}
use Rattle.std.specs.Str.Parse.{AllDigits, IsNumeral, digits_value, without_leading_plus}
use Rattle.std.proofs.lemmas.Grind.{common_steps}
use Rattle.std.proofs.lemmas.Str.{digit_value_digit}
use Rattle.smith_config_json.specs.Values.{are_digits, number_of}
use Rattle.smith_config_json.specs.declared.fault.Fault.TheVariants.{OutOfRange}

both : (a b : Bool) → (a && b) ≡ true → (a ≡ true) × (b ≡ true)
both true b h = (refl, h)
both false b h = (h, grind arith)

not_first : (a b : Bool) → cond a false b ≡ true → (a ≡ false) × (b ≡ true)
not_first true b h = (sym h, grind arith)
not_first false b h = (refl, h)

inside : (c : ℕ) → is_ascii_digit c ≡ true → IsInRange 48 57 c
inside c h = grind (arith, common_steps)

small_digit : (c : ℕ) → is_ascii_digit c ≡ true → digit_value c < 10
small_digit c h =
    let range = inside c h in
    let same : digit_value c + 48 ≡ c = digit_value_digit c range in
    let most : c ≤ 57 = range.1 in omega (arith, same, most)

all_digits : (text : List ℕ) → list_all is_ascii_digit text ≡ true → AllDigits 10 text
all_digits [] h = tt
all_digits (c ∷ cs) h =
    let parts = both (is_ascii_digit c) (list_all is_ascii_digit cs) h in (small_digit c parts.0, all_digits cs parts.1)

numeral : (text : List ℕ) → are_digits text ≡ true → IsNumeral 10 text
numeral text h =
    let parts = not_first (length text == 0) (list_all is_ascii_digit text) h in
    let some : (length text == 0) ≡ false = parts.0 in
    let long : 0 < length text = grind (arith, some) in (long, all_digits text parts.1)

-- a text of digits begins with no plus
no_plus : (text : List ℕ) → are_digits text ≡ true → without_leading_plus text ≡ text
no_plus [] h = refl
no_plus (c ∷ cs) h =
    let digits : list_all is_ascii_digit (c ∷ cs) ≡ true = (not_first (length (c ∷ cs) == 0) (list_all is_ascii_digit (c ∷ cs)) h).1 in
    let least : 48 ≤ c = (inside c (both (is_ascii_digit c) (list_all is_ascii_digit cs) digits).0).0 in
    let other : (c == 43) ≡ false = grind (arith, least) in rw other refl

pub parsed : (text : List ℕ) (most n : ℕ) → are_digits text ≡ true → n ≡ digits_value 10 (without_leading_plus text) → n ≤ most
    → Ok n ≡ number_of most text
parsed text most n h read small =
    let plain = no_plus text h in
    let value : digits_value 10 text ≡ n = sym (rw plain at read) in
    let fits : nat_lt most n ≡ false = grind (arith, small) in rw (h, value, fits) refl

pub parsed_large : (text : List ℕ) (most n : ℕ) → are_digits text ≡ true → n ≡ digits_value 10 (without_leading_plus text) → most < n
    → Err OutOfRange ≡ number_of most text
parsed_large text most n h read large =
    let plain = no_plus text h in
    let value : digits_value 10 text ≡ n = sym (rw plain at read) in
    let exceeds : nat_lt most n ≡ true = grind (arith, large) in rw (h, value, exceeds) refl

pub unparsed : (text : List ℕ) (most : ℕ) → are_digits text ≡ true
    → ¬ (IsNumeral 10 (without_leading_plus text) × (digits_value 10 (without_leading_plus text) < 2 ^ 128)) → most < 2 ^ 128
    → Err OutOfRange ≡ number_of most text
unparsed text most h unread small =
    let plain = no_plus text h in
    let unread_here : ¬ (IsNumeral 10 text × (digits_value 10 text < 2 ^ 128)) = rw plain at unread in
    let no : ¬ (digits_value 10 text < 2 ^ 128) = λ s. unread_here (numeral text h, s) in
    let exceeds : nat_lt most (digits_value 10 text) ≡ true = grind (arith, no, small) in rw (h, exceeds) refl
