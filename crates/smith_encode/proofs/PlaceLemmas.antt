-- Custom sections that are written at their places.
use Rattle.smith_encode.proofs.Common.{[], ap, append-nil, append_assoc, AreCustoms, arith, Bool, Custom, Each, eqb, Err, false, IfOk, Is}
use Rattle.smith_encode.proofs.Common.{IsOptionalSection, IsThen, length, List, None, Ok, Option, Output, refl, Result, Some, subst, sym}
use Rattle.smith_encode.proofs.Common.{true, Writes, ℕ, ◌++◌, ◌<◌, ◌||◌, ◌∙◌, ◌∷◌, ◌≡◌}
use Rattle.std.proofs.Common.{suc, ◌+◌}
use Rattle.std.proofs.Common.{add-one}
use Rattle.std.specs.Prelude.{Any, not}
use Rattle.std.proofs.lemmas.Bool.{eqb-true, eq-eqb, ne_eqb, or_parts}
use Rattle.smith_binary.specs.Spelling.{Spelling}
use Rattle.smith_binary.specs.Spelling.Spelling.{any}
use Rattle.smith_binary.specs.Pieces.{IsName, IsSection, Joined}
use Rattle.smith_binary_sections.specs.Sections.{IsSectionIfIn}
use Rattle.smith_decode.specs.Customs.{IsAnySection, IsNamed, IsNext}
use Rattle.smith_decode.proofs.CustomLemmas.{no_customs, end_decodes}
use Rattle.smith_encode.specs.Places.{is_same_section, skipped, left_after, is_due, next_place, HasCustomsAfter, Leads, WritesCustoms}
use Rattle.smith_encode.specs.Places.{WritesNext, WritesBefore}
use Rattle.smith_encode.specs.TooLong.{IsLongCustom}

pub same_is : (one other : Option ℕ) → is_same_section one other ≡ true → one ≡ other
same_is None None same = refl
same_is None (Some other) same = absurd cc
same_is (Some id) None same = absurd cc
same_is (Some id) (Some other) same = ap Some (eqb-true id other same)

pub same_here : (one other : Option ℕ) → one ≡ other → is_same_section one other ≡ true
same_here None None same = refl
same_here None (Some other) same = absurd cc
same_here (Some id) None same = absurd cc
same_here (Some id) (Some other) same = eq-eqb id other cc

-- no piece
pub leads_here : (place : Option ℕ × List Custom) → Leads [] place place []
leads_here place = record { placed = λ tail h. h; order = λ more. refl; rest = λ h. h }

pub none_yet : (place : Option ℕ × List Custom) (start : Output) → WritesCustoms place place start start
none_yet place start = record {
  piece = [];
  spelled = no_customs;
  leads = leads_here place;
  whole = sym (append-nil start.bytes);
}

-- one piece, then another
pub leads_on : {ids others : List ℕ} {a b c : Option ℕ × List Custom} {piece next : List ℕ} → Leads ids a b piece → Leads others b c next
    → Leads (ids ++ others) a c (piece ++ next)
leads_on {ids = ids} {others = others} {a = a} {b = b} {c = c} {piece = piece} {next = next} one other = record {
  placed = λ tail h. subst (HasCustomsAfter a.0 a.1) (sym (append_assoc piece next tail)) (one.placed (next ++ tail) (other.placed tail h));
  order = λ more. ap (λ (all : List ℕ). left_after all (skipped a.0 a.1)) (append_assoc ids others more) ∙ one.order (others ++ more)
      ∙ other.order more;
  rest = λ h. one.rest (other.rest h);
}

-- a custom section of any content
named : (custom : Custom) {piece : List ℕ} → IsSection 0 (Joined (IsName custom.name) (Is custom.bytes)) piece → IsSection 0 IsNamed piece
named custom h =
    let inner = h.is_second.is_content in
    record {
      first = h.first;
      second = h.second;
      is_first = h.is_first;
      is_second = record {
        content = h.is_second.content;
        is_content = record {
          name = custom.name;
          form = record {
            first = inner.first;
            second = inner.second;
            is_first = inner.is_first;
            is_second = tt;
            whole = inner.whole;
          };
        };
        form = h.is_second.form;
      };
      whole = h.whole;
    }

one_custom : {piece : List ℕ} → IsSection 0 IsNamed piece → AreCustoms piece
unfolding Each
one_custom {piece = piece} h = record {
  all = tt ∷ [];
  form = record { first = piece; second = []; is_first = h; is_second = refl; whole = sym (append-nil piece) };
}

-- a section as one of any content
any_section : {Content : List ℕ → Type 0} {id : ℕ} {piece : List ℕ} → id < 256 → (h : IsSection id Content piece)
    → IsAnySection (id, h.is_second.content) piece
any_section low h = (
  low,
  record {
    first = h.first;
    second = h.second;
    is_first = h.is_first;
    is_second = record { content = h.is_second.content; is_content = refl; form = h.is_second.form };
    whole = h.whole;
  },
)

custom_placed : (after : Option ℕ) (custom : Custom) (more : List Custom) (piece tail : List ℕ) → custom.after ≡ after
    → IsSection 0 (Joined (IsName custom.name) (Is custom.bytes)) piece → HasCustomsAfter after more tail
    → HasCustomsAfter after (custom ∷ more) (piece ++ tail)
unfolding Each
custom_placed after custom more piece tail here h others = (
  (0, h.is_second.content) ∷ others.0,
  record { first = piece; second = tail; is_first = any_section (omega arith) h; is_second = others.1; whole = refl },
  IsNext.custom custom more refl (here, h.is_second.is_content) refl others.2,
)

section_placed : {Content : List ℕ → Type 0} (after : Option ℕ) (id : ℕ) (customs : List Custom) (piece tail : List ℕ) → 0 < id → id < 256
    → IsSection id Content piece → HasCustomsAfter (Some id) customs tail → HasCustomsAfter after customs (piece ++ tail)
unfolding Each
section_placed after id customs piece tail positive low h others = (
  (id, h.is_second.content) ∷ others.0,
  record { first = piece; second = tail; is_first = any_section low h; is_second = others.1; whole = refl },
  IsNext.other (λ none. omega arith) others.2,
)

-- a custom section at the place is skipped, one elsewhere isn't
skipped_here : (after : Option ℕ) (custom : Custom) (more : List Custom) → is_same_section custom.after after ≡ true
    → skipped after (custom ∷ more) ≡ skipped after more
skipped_here after custom more here = rw here refl

not_due : (id : ℕ) (customs : List Custom) → is_due id customs ≡ false → skipped (Some id) customs ≡ customs
not_due id [] elsewhere = refl
not_due id (custom ∷ customs) elsewhere = rw elsewhere refl

any_more : {A : Type 0} (P : A → Type 0) (x : A) (xs : List A) → Any P xs → Any P (x ∷ xs)
any_more P x xs h = (h.0 + 1, h.1, omega arith, rw add-one h.3, h.4)

-- one more custom section
pub custom_written : {start now later : Output} (after : Option ℕ) (all customs more : List Custom) (custom : Custom)
    → customs ≡ custom ∷ more → is_same_section custom.after after ≡ true → WritesCustoms (after, all) (after, customs) start now
    → Writes (λ _. IsSection 0 (Joined (IsName custom.name) (Is custom.bytes))) now later
    → WritesCustoms (after, all) (after, more) start later
custom_written {start = start} {now = now} after all customs more custom is here so_far one =
    let next : Leads [] (after, customs) (after, more) one.piece = record {
      placed = λ tail h. subst (λ (those : List Custom). HasCustomsAfter after those (one.piece ++ tail)) (sym is)
          (custom_placed after custom more one.piece tail (same_is custom.after after here) one.spelled h);
      order = λ ids. ap (λ (those : List Custom). left_after ids (skipped after those)) is
          ∙ ap (left_after ids) (skipped_here after custom more here);
      rest = λ h. subst (Any IsLongCustom) (sym is) (any_more IsLongCustom custom more h);
    } in
    record {
      piece = so_far.piece ++ one.piece;
      spelled = end_decodes.prepend tt so_far.piece one.piece so_far.spelled (one_custom (named custom one.spelled));
      leads = leads_on so_far.leads next;
      whole = one.whole ∙ ap (λ (bytes : List ℕ). bytes ++ one.piece) so_far.whole ∙ append_assoc start.bytes so_far.piece one.piece;
    }

-- a section was written, or not
next_leads : (Content : List ℕ → Type 0) (is_written : Bool) (id : ℕ) (mid : Option ℕ × List Custom) (section : List ℕ) → 0 < id
    → id < 256 → skipped mid.0 mid.1 ≡ mid.1 → (is_written ≡ false → is_due id mid.1 ≡ false)
    → IsSectionIfIn any is_written id Content section → Leads (id ∷ []) mid (next_place is_written id mid) section
next_leads Content true id mid section positive low done due h = record {
  placed = λ tail others. section_placed mid.0 id mid.1 section tail positive low h others;
  order = λ more. ap (λ (those : List Custom). left_after more (skipped (Some id) those)) done;
  rest = λ h. h;
}
next_leads Content false id mid section positive low done due h = record {
  placed = λ tail others. subst (λ (front : List ℕ). HasCustomsAfter mid.0 mid.1 (front ++ tail)) (sym h) others;
  order = λ more. ap (λ (those : List Custom). left_after more (skipped (Some id) those)) done
      ∙ ap (left_after more) (not_due id mid.1 (due refl) ∙ sym done);
  rest = λ h. h;
}

optional_section : (Content : List ℕ → Type 0) (is_filled is_written : Bool) (id : ℕ) (section : List ℕ)
    → (is_written ≡ false → is_filled ≡ false) → IsSectionIfIn any is_written id Content section
    → IsOptionalSection id (is_filled ≡ false) Content section
optional_section Content is_filled true id section empty h = IsOptionalSection.present h
optional_section Content is_filled false id section empty h = IsOptionalSection.absent (empty refl) h

pub next_written : {before between after : Output} {old : Option ℕ × List Custom} (Content : Spelling → List ℕ → Type 0)
    (is_filled is_written : Bool) (id : ℕ) (mid : Option ℕ × List Custom) → 0 < id → id < 256 → skipped mid.0 mid.1 ≡ mid.1
    → is_written ≡ (is_filled || is_due id mid.1) → WritesCustoms old mid before between
    → Writes (λ s. IsSectionIfIn s is_written id (Content s)) between after
    → WritesNext id (is_filled ≡ false) (Content any) old (next_place is_written id mid) before after
next_written {before = before} Content is_filled is_written id mid positive low done is customs one =
    let parts = λ (no : is_written ≡ false). or_parts is_filled (is_due id mid.1) (sym is ∙ no) in
    record {
      customs = customs.piece;
      section = one.piece;
      are_customs = customs.spelled;
      is_section = optional_section (Content any) is_filled is_written id one.piece (λ no. (parts no).0) one.spelled;
      leads = leads_on customs.leads (next_leads (Content any) is_written id mid one.piece positive low done (λ no. (parts no).1)
          one.spelled);
      whole = one.whole ∙ ap (λ (bytes : List ℕ). bytes ++ one.piece) customs.whole ∙ append_assoc before.bytes customs.piece one.piece;
    }

-- an optional section by another content
optional_as : {id : ℕ} {S T : Type 0} {Content Other : List ℕ → Type 0} {section : List ℕ} → (S → T)
    → ((piece : List ℕ) → Content piece → Other piece) → IsOptionalSection id S Content section → IsOptionalSection id T Other section
optional_as nothing weaker (IsOptionalSection.present h) = IsOptionalSection.present (record {
  first = h.first;
  second = h.second;
  is_first = h.is_first;
  is_second = record {
    content = h.is_second.content;
    is_content = weaker h.is_second.content h.is_second.is_content;
    form = h.is_second.form;
  };
  whole = h.whole;
})
optional_as nothing weaker (IsOptionalSection.absent says empty) = IsOptionalSection.absent (nothing says) empty

-- the same for another reason to leave the section out
pub next_as : {id : ℕ} {S T : Type 0} {Content : List ℕ → Type 0} {old new : Option ℕ × List Custom} {before after : Output} → (S → T)
    → WritesNext id S Content old new before after → WritesNext id T Content old new before after
next_as {Content = Content} nothing h = record {
  customs = h.customs;
  section = h.section;
  are_customs = h.are_customs;
  is_section = optional_as {Content = Content} {Other = Content} nothing (λ piece one. one) h.is_section;
  leads = h.leads;
  whole = h.whole;
}

pub next_if : {A E : Type 0} {S T : Type 0} (id : ℕ) (Content : List ℕ → Type 0) (old : Option ℕ × List Custom) (before after : Output)
    (place_of : A → Option ℕ × List Custom) (r : Result A E) → (S → T)
    → IfOk r (λ (next : A). WritesNext id S Content old (place_of next) before after)
    → IfOk r (λ (next : A). WritesNext id T Content old (place_of next) before after)
next_if id Content old before after place_of (Ok next) nothing h = next_as nothing h
next_if id Content old before after place_of (Err e) nothing h = tt

-- whether a section is written
pub written_filled : (is_filled is_due is_written : Bool) → is_filled ≡ true → is_written ≡ true → is_written ≡ (is_filled || is_due)
written_filled is_filled is_due is_written filled is = rw (filled, is) refl

pub written_due : (is_filled is_due is_written : Bool) → is_filled ≡ false → is_written ≡ is_due → is_written ≡ (is_filled || is_due)
written_due is_filled is_due is_written empty is = rw (empty, is) refl

pub no_items : {A : Type 0} (xs : List A) (is_empty : Bool) → is_empty ≡ eqb (length xs) 0 → not is_empty ≡ false → xs ≡ []
no_items [] is_empty is none = refl
no_items (x ∷ xs) true is none = let never = is ∙ ne_eqb (suc (length xs)) 0 (λ e. omega (arith, e)) in absurd cc
no_items (x ∷ xs) false is none = absurd cc

-- a section that was written makes a whole of what follows
pub next_before : {id : ℕ} {S T : Type 0} {Content Other : List ℕ → Type 0} {old new : Option ℕ × List Custom} {before after : Output}
    (Tail : List ℕ → Type 0) → (S → T) → ((piece : List ℕ) → Content piece → Other piece) → WritesNext id S Content old new before after
    → WritesBefore (id ∷ []) Tail (IsThen id T Other Tail) old new before after
next_before {id = id} {Content = Content} {Other = Other} Tail nothing weaker h = record {
  piece = h.customs ++ h.section;
  spelled = λ tail more. record {
    first = h.customs;
    second = h.section ++ tail;
    is_first = h.are_customs;
    is_second = record {
      first = h.section;
      second = tail;
      is_first = optional_as {Content = Content} {Other = Other} nothing weaker h.is_section;
      is_second = more;
      whole = refl;
    };
    whole = append_assoc h.customs h.section tail;
  };
  leads = h.leads;
  whole = h.whole;
}

-- so do custom sections before a section that is left out
pub customs_before : {id : ℕ} {T : Type 0} {Other : List ℕ → Type 0} {old new : Option ℕ × List Custom} {before after : Output}
    (Tail : List ℕ → Type 0) → T → WritesCustoms old new before after → WritesBefore [] Tail (IsThen id T Other Tail) old new before after
customs_before Tail nothing h = record {
  piece = h.piece;
  spelled = λ tail more. record {
    first = h.piece;
    second = tail;
    is_first = h.spelled;
    is_second = record { first = []; second = tail; is_first = IsOptionalSection.absent nothing refl; is_second = more; whole = refl };
    whole = refl;
  };
  leads = h.leads;
  whole = h.whole;
}

-- one piece, then another
pub before_on : {ids others : List ℕ} {Whole Tail More : List ℕ → Type 0} {a b c : Option ℕ × List Custom}
    {first second third : Output} → WritesBefore ids Tail Whole a b first second → WritesBefore others More Tail b c second third
    → WritesBefore (ids ++ others) More Whole a c first third
before_on {Whole = Whole} {first = first} one other = record {
  piece = one.piece ++ other.piece;
  spelled = λ tail h. subst Whole (sym (append_assoc one.piece other.piece tail))
      (one.spelled (other.piece ++ tail) (other.spelled tail h));
  leads = leads_on one.leads other.leads;
  whole = other.whole ∙ ap (λ (bytes : List ℕ). bytes ++ other.piece) one.whole ∙ append_assoc first.bytes one.piece other.piece;
}
