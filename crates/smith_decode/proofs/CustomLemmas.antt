-- Sections in order, with custom sections between them: readings that are sound and complete.
use Rattle.smith_decode.proofs.Common.{[], ap, append-nil, append_assoc, arith, Bool, branch, Decodes, DecodesWhole, drop, Each, eq-eqb}
use Rattle.smith_decode.proofs.Common.{eqb, eqb-true, Err, false, Fault, Front, IsOptionalSection, IsSection, Joined, length, length-append}
use Rattle.smith_decode.proofs.Common.{List, name_at, ne_eqb, nil_from_length, Ok, refl, Result, sized_at, step, subst, suc, sym}
use Rattle.smith_decode.proofs.Common.{tagged_read, test_passed, true, ℕ, ◌++◌, ◌||◌, ◌∙◌, ◌∷◌, ◌≡◌, ◌≤◌}
use Rattle.std.proofs.Common.{cond, zero}
use Rattle.std.proofs.lemmas.Bool.{or_parts}
use Rattle.smith_binary.specs.Pieces.{IsSized}
use Rattle.smith_binary_read.specs.Readings.{◌>>=◌, starts_with}
use Rattle.smith_binary_read.proofs.ReadLemmas.{item_is}
use Rattle.smith_binary_read.proofs.ContentLemmas.{name_decodes, sized_decodes}
use Rattle.smith_decode.specs.Customs.{IsNamed, IsCustom, AreCustoms, IsThen}
use Rattle.smith_decode.specs.CustomReadings.{custom_whole, skip_customs, customs_at, section_at, end_at, more_at}
use Rattle.smith_binary_read.proofs.ChoiceLemmas.{starts_is}

-- the same step before two ways to go on
bind_same : {A B : Type 0} (r : Result A Fault) (f g : A → Result B Fault) → ((x : A) → r ≡ Ok x → f x ≡ g x) → (r >>= f) ≡ (r >>= g)
bind_same (Ok x) f g same = same x refl
bind_same (Err fault) f g same = refl

-- the content of a custom section
custom_decodes : DecodesWhole (λ (nothing : Unit {0}). IsNamed) custom_whole
unfolding custom_whole
custom_decodes = record {
  sound = λ bytes nothing e. step _ _ _ e (λ x first e.
      let one = name_decodes.sound bytes x.0 x.1 first in
      record { name = x.0; form = record { first = one.piece; second = x.1; is_first = one.spelled; is_second = tt; whole = one.whole } });
  complete = λ nothing bytes h. rw (ap name_at h.form.whole ∙ name_decodes.complete h.name h.form.first h.form.second h.form.is_first) refl;
}

sized_custom : Decodes (λ (nothing : Unit {0}). IsSized IsNamed) (sized_at custom_whole)
sized_custom = sized_decodes custom_decodes

-- what was read is no longer than what stood there
front_shorter : {P : List ℕ → Type 0} (bytes rest : List ℕ) → Front P bytes rest → length rest ≤ length bytes
front_shorter bytes rest one = omega (arith, ap length one.whole, length-append one.piece rest)

-- more attempts than bytes change nothing
skip_enough : (j k : ℕ) (bytes : List ℕ) → length bytes ≤ j → length bytes ≤ k → skip_customs j bytes ≡ skip_customs k bytes
unfolding skip_customs
skip_enough zero zero bytes some more = refl
skip_enough zero (suc k) [] some more = refl
skip_enough zero (suc k) (byte ∷ bytes) some more = absurd (omega arith)
skip_enough (suc j) zero [] some more = refl
skip_enough (suc j) zero (byte ∷ bytes) some more = absurd (omega arith)
skip_enough (suc j) (suc k) [] some more = refl
skip_enough (suc j) (suc k) (byte ∷ bytes) some more =
    ap (λ (r : Result (List ℕ) Fault). cond (eqb byte 0) r (Ok (byte ∷ bytes)))
    (bind_same (sized_at custom_whole bytes) (λ custom. skip_customs j custom.1) (λ custom. skip_customs k custom.1) (λ custom e.
    let shorter = front_shorter bytes custom.1 (sized_custom.sound bytes custom.0 custom.1 e) in
    skip_enough j k custom.1 (omega arith) (omega arith)))

-- custom sections in front are skipped
custom_skipped : (nothing : Unit {0}) (piece rest : List ℕ) → IsCustom nothing piece → customs_at (piece ++ rest) ≡ customs_at rest
unfolding customs_at skip_customs
custom_skipped nothing piece rest h =
    let again = sized_custom.complete nothing h.second rest h.is_second in
    let longer : length rest ≤ length (h.second ++ rest) = omega (arith, length-append h.second rest) in
    ap customs_at (tagged_read 0 rest h) ∙ rw again (skip_enough (length (h.second ++ rest)) (length rest) rest longer (omega arith))

each_skipped : (all : List (Unit {0})) (piece rest : List ℕ) → Each IsCustom all piece → customs_at (piece ++ rest) ≡ customs_at rest
unfolding Each
each_skipped [] piece rest h = ap (λ (bytes : List ℕ). customs_at (bytes ++ rest)) h
each_skipped (nothing ∷ all) piece rest h =
    ap customs_at (ap (λ (bytes : List ℕ). bytes ++ rest) h.whole ∙ append_assoc h.first h.second rest)
    ∙ custom_skipped nothing h.first (h.second ++ rest) h.is_first ∙ each_skipped all h.second rest h.is_second

-- bytes that begin with no custom section are left
none_skipped : (bytes : List ℕ) → starts_with 0 bytes ≡ false → customs_at bytes ≡ Ok bytes
unfolding customs_at skip_customs
none_skipped [] e = refl
none_skipped (byte ∷ bytes) e = rw e refl

-- no custom section, one more, and two runs of them
pub no_customs : AreCustoms []
unfolding Each
no_customs = record { all = []; form = refl }

one_more : (nothing : Unit {0}) (piece more : List ℕ) → IsCustom nothing piece → AreCustoms more → AreCustoms (piece ++ more)
unfolding Each
one_more nothing piece more h one =
    record { all = nothing ∷ one.all; form = record { first = piece; second = more; is_first = h; is_second = one.form; whole = refl } }

each_appended : (all : List (Unit {0})) (piece more : List ℕ) → Each IsCustom all piece → AreCustoms more → AreCustoms (piece ++ more)
unfolding Each
each_appended [] piece more h one = subst (λ (bytes : List ℕ). AreCustoms (bytes ++ more)) (sym h) one
each_appended (nothing ∷ all) piece more h one =
    subst AreCustoms (sym (ap (λ (bytes : List ℕ). bytes ++ more) h.whole ∙ append_assoc h.first h.second more))
    (one_more nothing h.first (h.second ++ more) h.is_first (each_appended all h.second more h.is_second one))

customs_appended : (piece more : List ℕ) → AreCustoms piece → AreCustoms more → AreCustoms (piece ++ more)
customs_appended piece more h one = each_appended h.all piece more h.form one

-- what was skipped are custom sections
skip_sound : (most : ℕ) (bytes rest : List ℕ) → skip_customs most bytes ≡ Ok rest → Front AreCustoms bytes rest
unfolding skip_customs
skip_sound zero bytes rest e = let same : bytes ≡ rest = cc in record { piece = []; spelled = no_customs; whole = same }
skip_sound (suc most) bytes rest e = branch _ _ _ _ e
    (λ is e. step _ _ _ e (λ custom first e.
    let one = sized_custom.sound (drop 1 bytes) custom.0 custom.1 first in
    let others = skip_sound most custom.1 rest e in
    let section : IsCustom custom.0 (0 ∷ one.piece) =
    record { first = 0 ∷ []; second = one.piece; is_first = refl; is_second = one.spelled; whole = refl } in
    record {
      piece = (0 ∷ one.piece) ++ others.piece;
      spelled = one_more custom.0 (0 ∷ one.piece) others.piece section others.spelled;
      whole = starts_is 0 bytes is ∙ ap (λ (more : List ℕ). 0 ∷ more)
          (one.whole ∙ ap (λ (more : List ℕ). one.piece ++ more) others.whole ∙ sym (append_assoc one.piece others.piece rest));
    }))
    (λ is_not e. let same : bytes ≡ rest = cc in record { piece = []; spelled = no_customs; whole = same })

pub customs_sound : (bytes rest : List ℕ) → customs_at bytes ≡ Ok rest → Front AreCustoms bytes rest
unfolding customs_at
customs_sound bytes rest e = skip_sound (length bytes) bytes rest e

-- a section among these
abbrev pub among : ℕ → List ℕ → Bool
among id [] = false
among id (other ∷ ids) = eqb other id || among id ids

-- a section and what is after it, as a pair; the section says nothing if its item is `none` (Modules)
abbrev pub IsMore : {A B : Type 0} → ℕ → B → (B → List ℕ → Type 0) → (A → List ℕ → Type 0) → B × A → List ℕ → Type 0
IsMore id none Content Spells x = IsThen id (x.0 ≡ none) (Content x.0) (Spells x.1)

-- the end of a module: custom sections (Modules)
abbrev pub IsEnd : Unit {0} → List ℕ → Type 0
IsEnd nothing = AreCustoms

-- after the custom sections in front, bytes are read as an item, and begin with one of these sections
pub record Settles {A : Type 0} (ids : List ℕ) (read : List ℕ → Result A Fault) (x : A) (bytes : List ℕ) : Type 0 where
  pub settled : List ℕ
  pub skipped : customs_at bytes ≡ Ok settled
  pub is_read : read settled ≡ Ok x
  pub heads : (id : ℕ) → among id ids ≡ false → starts_with id settled ≡ false

-- the sections up to the end of a module, which are read after custom sections
pub record DecodesTail {A : Type 0} (ids : List ℕ) (Spells : A → List ℕ → Type 0) (read : List ℕ → Result A Fault) : Type 0 where
  pub sound : (bytes : List ℕ) (x : A) → read bytes ≡ Ok x → Spells x bytes
  pub complete : (x : A) (bytes : List ℕ) → Spells x bytes → Settles ids read x bytes
  pub prepend : (x : A) (customs bytes : List ℕ) → AreCustoms customs → Spells x bytes → Spells x (customs ++ bytes)

-- the end
end_sound : (bytes : List ℕ) → end_at bytes ≡ Ok tt → AreCustoms bytes
unfolding end_at
end_sound bytes e = test_passed _ _ _ _ e (λ is e. subst AreCustoms (sym (nil_from_length bytes (eqb-true (length bytes) 0 is))) no_customs)

end_settles : (bytes : List ℕ) → AreCustoms bytes → Settles [] end_at tt bytes
unfolding end_at customs_at skip_customs
end_settles bytes h = record {
  settled = [];
  skipped = ap customs_at (sym (append-nil bytes)) ∙ each_skipped h.all bytes [] h.form;
  is_read = refl;
  heads = λ id e. refl;
}

pub end_decodes : DecodesTail [] IsEnd end_at
end_decodes = record {
  sound = λ bytes x e. end_sound bytes e;
  complete = λ x bytes h.
      end_settles bytes h;
  prepend = λ x customs bytes h one. customs_appended customs bytes h one;
}

without_customs : {P : List ℕ → Type 0} (bytes : List ℕ) → P bytes → Joined AreCustoms P bytes
without_customs bytes h = record { first = []; second = bytes; is_first = no_customs; is_second = h; whole = refl }

section_sound : {A B : Type 0} (id : ℕ) (none : B) (Content : B → List ℕ → Type 0) (Spells : A → List ℕ → Type 0)
    (content : List ℕ → Result B Fault) → DecodesWhole Content content
    → ((x : A) (customs bytes : List ℕ) → AreCustoms customs → Spells x bytes → Spells x (customs ++ bytes))
    → (bytes : List ℕ) (item : B) (rest : List ℕ) (x : A) → section_at id none content bytes ≡ Ok (item, rest) → Spells x rest
    → IsMore id none Content Spells (item, x) bytes
unfolding section_at
section_sound id none Content Spells content content_reads prepend bytes item rest x e h = branch _ _ _ _ e
    (λ is e. step _ _ _ e (λ present first e. step _ _ _ e (λ after second e.
    let same = item_is present.0 item after rest e in
    let one = (sized_decodes content_reads).sound (drop 1 bytes) present.0 present.1 first in
    let customs = customs_sound present.1 after second in
    let others : Spells x present.1 = subst (Spells x) (sym customs.whole)
    (prepend x customs.piece after customs.spelled (subst (Spells x) (sym same.1) h)) in
    let section : IsSection id (Content item) (id ∷ one.piece) =
    record {
      first = id ∷ [];
      second = one.piece;
      is_first = refl;
      is_second = subst
          (λ (b : _). IsSized (Content b) one.piece) same.0 one.spelled;
      whole = refl;
    } in
    without_customs bytes (record {
      first = id ∷ one.piece;
      second = present.1;
      is_first = IsOptionalSection.present section;
      is_second = others;
      whole = starts_is id bytes is ∙ ap (λ (more : List ℕ). id ∷ more) one.whole;
    }))))
    (λ is_not e.
    let same = item_is none item bytes rest e in
    without_customs bytes (record {
      first = [];
      second = bytes;
      is_first = IsOptionalSection.absent (sym same.0) refl;
      is_second = subst
          (Spells x) (sym same.1) h;
      whole = refl;
    }))

present_settles : {A B : Type 0} (id : ℕ) (ids : List ℕ) (none : B) (Content : B → List ℕ → Type 0) (content : List ℕ → Result B Fault)
    (read : List ℕ → Result A Fault) → (id ≡ 0 → ⊥) → DecodesWhole Content content
    → (item : B) (x : A) (section rest : List ℕ) → IsSection id (Content item) section → Settles ids read x rest
    → Settles (id ∷ ids) (more_at id none content read) (item, x) (section ++ rest)
unfolding section_at
present_settles id ids none Content content read nonzero content_reads item x section rest h one =
    let bytes : section ++ rest ≡ id ∷ (h.second ++ rest) = tagged_read id rest h in
    let again = (sized_decodes content_reads).complete item h.second rest h.is_second in
    let here : eqb id id ≡ true = eq-eqb id id refl in
    record {
      settled = id ∷ (h.second ++ rest);
      skipped = ap customs_at bytes ∙ none_skipped (id ∷ (h.second ++ rest)) (ne_eqb id 0 nonzero);
      is_read = rw (here, again, one.skipped, one.is_read) refl;
      heads = λ other e. (or_parts (eqb id other) (among other ids) e).0;
    }

absent_settles : {A B : Type 0} (id : ℕ) (ids : List ℕ) (none : B) (content : List ℕ → Result B Fault) (read : List ℕ → Result A Fault)
    → among id ids ≡ false
    → (item : B) (x : A) (rest : List ℕ) → item ≡ none → Settles ids read x rest
    → Settles (id ∷ ids) (more_at id none content read) (item, x) rest
unfolding section_at
absent_settles {A = A} {B = B} id ids none content read apart item x rest is_none one =
    let here : starts_with id one.settled ≡ false = one.heads id apart in
    record {
      settled = one.settled;
      skipped = one.skipped;
      is_read = rw (here, one.is_read) (ap (λ (b : B). Ok (b, x)) (sym is_none));
      heads = λ other e. one.heads other (or_parts (eqb id other) (among other ids) e).1;
    }

optional_settles : {A B : Type 0} (id : ℕ) (ids : List ℕ) (none : B) (Content : B → List ℕ → Type 0) (content : List ℕ → Result B Fault)
    (read : List ℕ → Result A Fault) → (id ≡ 0 → ⊥) → among id ids ≡ false → DecodesWhole Content content
    → (item : B) (x : A) (section rest : List ℕ) → IsOptionalSection id (item ≡ none) (Content item) section → Settles ids read x rest
    → Settles (id ∷ ids) (more_at id none content read) (item, x) (section ++ rest)
optional_settles id ids none Content content read nonzero apart content_reads item x section rest (IsOptionalSection.present h) one =
    present_settles id ids none Content content read nonzero content_reads item x section rest h one
optional_settles id ids none Content content read nonzero apart content_reads item x section rest
    (IsOptionalSection.absent is_none empty) one =
    subst (λ (bytes : List ℕ). Settles (id ∷ ids) (more_at id none content read) (item, x) (bytes ++ rest)) (sym empty)
    (absent_settles id ids none content read apart item x rest is_none one)

-- one section more
pub more_decodes : {A B : Type 0} {Content : B → List ℕ → Type 0} {Spells : A → List ℕ → Type 0} {content : List ℕ
    → Result B Fault} {read : List ℕ → Result A Fault} (id : ℕ) (ids : List ℕ) (none : B)
    → (id ≡ 0 → ⊥) → among id ids ≡ false → DecodesWhole Content content → DecodesTail ids Spells read
    → DecodesTail (id ∷ ids) (IsMore id none Content Spells) (more_at id none content read)
more_decodes {A = A} {B = B} {Content = Content} {Spells = Spells} {content = content} {read = read} id ids none nonzero apart content_reads
    tail = record {
      sound = λ bytes x e. step _ _ _ e (λ item first e. step _ _ _ e (λ y second e.
          let same : (item.0, y) ≡ x = cc in
          subst (λ (p : B × A). IsMore id none Content Spells p bytes) same
          (section_sound id none Content Spells content content_reads tail.prepend bytes item.0 item.1 y first
          (tail.sound item.1 y second))));
      complete = λ x bytes h.
          let others = tail.complete x.1 h.is_second.second h.is_second.is_second in
          let middle = h.is_second in
          let one =
          optional_settles id ids none Content content read nonzero apart content_reads x.0 x.1 middle.first middle.second
          middle.is_first others in
          let whole : bytes ≡ h.first ++ (h.is_second.first ++ h.is_second.second) = h.whole
          ∙ ap (λ (more : List ℕ). h.first ++ more) h.is_second.whole in
          record {
            settled = one.settled;
            skipped = ap customs_at whole ∙ each_skipped h.is_first.all h.first (h.is_second.first ++ h.is_second.second) h.is_first.form
                ∙ one.skipped;
            is_read = one.is_read;
            heads = one.heads;
          };
      prepend = λ x customs bytes c h. record {
        first = customs ++ h.first;
        second = h.second;
        is_first = customs_appended customs h.first c h.is_first;
        is_second = h.is_second;
        whole = ap (λ (more : List ℕ). customs ++ more) h.whole ∙ sym (append_assoc customs h.first h.second);
      };
    }
