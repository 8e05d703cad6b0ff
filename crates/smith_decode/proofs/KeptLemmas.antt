-- Custom sections that are kept: the reading is sound and complete.
use Rattle.smith_decode.proofs.Common.{[], ap, append-nil, append_assoc, arith, branch, content_at, DecodesWhole, Each, eq-eqb, eqb}
use Rattle.smith_decode.proofs.Common.{eqb-true, false, Front, front_joined, Is, IsOptionalSection, Joined, length, length-append, List}
use Rattle.smith_decode.proofs.Common.{name_at, ne_eqb, nil_from_length, None, Ok, Option, refl, Some, step, subst, suc, sym, tagged_read}
use Rattle.smith_decode.proofs.Common.{test_passed, true, ℕ, ◌++◌, ◌<◌, ◌∙◌, ◌∷◌, ◌≡◌, ◌≤◌}
use Rattle.std.proofs.Common.{zero}
use Rattle.std.proofs.lemmas.Bool.{lt-ltb}
use Rattle.smith_binary.specs.Pieces.{IsSized}
use Rattle.smith_binary_read.specs.Readings.{byte_at}
use Rattle.smith_binary_read.proofs.ReadLemmas.{byte_sound, front_as}
use Rattle.smith_binary_read.proofs.ContentLemmas.{IsContent, content_decodes, name_decodes}
use Rattle.smith_decode.specs.declared.customs.Custom.{Custom}
use Rattle.smith_decode.specs.Customs.{IsAnySection, IsCustomAfter, IsNext, AreAmong, HasCustoms}
use Rattle.smith_decode.specs.CustomReadings.{custom, custom_at, next_section_at, gathered_at, kept_at}

-- a custom section
custom_after_decodes : (after : Option ℕ) → DecodesWhole (IsCustomAfter after) (custom_at after)
unfolding custom_at
custom_after_decodes after = record {
  sound = λ content x e. step _ _ _ e (λ name first e.
      let one = name_decodes.sound content name.0 name.1 first in
      let same : custom after name.0 name.1 ≡ x = cc in
      subst (λ (c : Custom). IsCustomAfter after c content) same
      (refl, record { first = one.piece; second = name.1; is_first = one.spelled; is_second = refl; whole = one.whole }));
  complete = λ x content h.
      rw (ap name_at h.1.whole ∙ name_decodes.complete x.name h.1.first h.1.second h.1.is_first)
      (ap (λ (place : Option ℕ). Ok (custom place x.name h.1.second)) (sym h.0)
      ∙ ap (λ (bytes : List ℕ). Ok (custom x.after x.name bytes)) h.1.is_second);
}

-- a section after its identifier
pub content_is : (content piece : List ℕ) → IsSized (Is content) piece → IsContent content piece
content_is content piece h = subst (λ (c : List ℕ). IsContent c piece) h.is_content h.form

section_front : (bytes content rest : List ℕ) (id : ℕ × List ℕ) → byte_at bytes ≡ Ok id → content_at id.1 ≡ Ok (content, rest)
    → Front (IsAnySection (id.0, content)) bytes rest
section_front bytes content rest id first second =
    let byte = byte_sound bytes id.0 id.1 first in
    let sized = front_as (λ piece h. record { content = content; is_content = refl; form = h })
    (content_decodes.sound id.1 content rest second) in
    front_as (λ piece h. (byte.1, h)) (front_joined byte.0 sized)

-- what is gathered
record Gathered (after : Option ℕ) (customs : List Custom) (bytes : List ℕ) (all : List Custom) : Type 0 where
  pub sections : List (ℕ × List ℕ)
  pub each : Each IsAnySection sections bytes
  pub more : List Custom
  pub among : AreAmong after sections more
  pub whole : all ≡ customs ++ more

gathered_none : (after : Option ℕ) (customs : List Custom) (bytes : List ℕ) (all : List Custom) → eqb (length bytes) 0 ≡ true
    → customs ≡ all → Gathered after customs bytes all
unfolding Each
gathered_none after customs bytes all none same = record {
  sections = [];
  each = nil_from_length bytes (eqb-true (length bytes) 0 none);
  more = [];
  among = refl;
  whole = sym same ∙ sym (append-nil customs);
}

gathered_more : (after next : Option ℕ) (customs found : List Custom) (bytes rest : List ℕ) (section : ℕ × List ℕ) (all : List Custom)
    → Front (IsAnySection section) bytes rest → (one : Gathered next (customs ++ found) rest all)
    → IsNext after section (found ++ one.more) (λ next more. AreAmong next one.sections more) → Gathered after customs bytes all
unfolding Each
gathered_more after next customs found bytes rest section all front one is_next = record {
  sections = section ∷ one.sections;
  each = record { first = front.piece; second = rest; is_first = front.spelled; is_second = one.each; whole = front.whole };
  more = found ++ one.more;
  among = is_next;
  whole = one.whole ∙ append_assoc customs found one.more;
}

gather_sound : (most : ℕ) (after : Option ℕ) (customs : List Custom) (bytes : List ℕ) (all : List Custom)
    → gathered_at most after customs bytes ≡ Ok all → Gathered after customs bytes all
unfolding gathered_at next_section_at
gather_sound zero after customs bytes all e = test_passed _ _ _ _ e (λ none e.
    let same : customs ≡ all = cc in gathered_none after customs bytes all none same)
gather_sound (suc most) after customs bytes all e = branch _ _ _ _ e
    (λ none e. let same : customs ≡ all = cc in gathered_none after customs bytes all none same)
    (λ some e. step _ _ _ e (λ s first e. step _ _ _ first (λ id byte first. step _ _ _ first (λ content sized first.
    let front = section_front bytes content.0 content.1 id byte sized in
    branch _ _ _ _ first
    (λ is first. step _ _ _ first (λ x named first.
    let pair : Ok ((after, customs ++ (x ∷ [])), content.1) ≡ Ok s = first in
    let same : ((after, customs ++ (x ∷ [])), content.1) ≡ s = cc in
    let rest : gathered_at most after (customs ++ (x ∷ [])) content.1 ≡ Ok all =
    ap (λ (t : (Option ℕ × List Custom) × List ℕ). gathered_at most t.0.0 t.0.1 t.1) same ∙ e in
    let one = gather_sound most after (customs ++ (x ∷ [])) content.1 all rest in
    gathered_more after after customs (x ∷ []) bytes content.1 (id.0, content.0) all front one
    (IsNext.custom x one.more (eqb-true id.0 0 is) ((custom_after_decodes after).sound content.0 x named) refl one.among)))
    (λ is_not first.
    let pair : Ok ((Some id.0, customs), content.1) ≡ Ok s = first in
    let same : ((Some id.0, customs), content.1) ≡ s = cc in
    let rest : gathered_at most (Some id.0) (customs ++ []) content.1 ≡ Ok all =
    ap (λ (front : List Custom). gathered_at most (Some id.0) front content.1) (append-nil customs)
    ∙ ap (λ (t : (Option ℕ × List Custom) × List ℕ). gathered_at most t.0.0 t.0.1 t.1) same ∙ e in
    let one = gather_sound most (Some id.0) (customs ++ []) content.1 all rest in
    gathered_more after (Some id.0) customs [] bytes content.1 (id.0, content.0) all front one
    (IsNext.other (λ is. let never = sym (eq-eqb id.0 0 is) ∙ is_not in cc) one.among))))))

not_empty : (byte : ℕ) (bytes : List ℕ) → eqb (length (byte ∷ bytes)) 0 ≡ false
not_empty byte bytes = ne_eqb (suc (length bytes)) 0 (λ e. omega (arith, e))

gather_complete : (sections : List (ℕ × List ℕ)) (most : ℕ) (after : Option ℕ) (customs : List Custom) (bytes : List ℕ)
    (more : List Custom) → length bytes ≤ most → Each IsAnySection sections bytes → AreAmong after sections more
    → gathered_at most after customs bytes ≡ Ok (customs ++ more)
unfolding gathered_at next_section_at Each
gather_complete [] zero after customs bytes more long h none =
    rw h (ap Ok (sym (append-nil customs) ∙ ap (λ (more : List Custom). customs ++ more) (sym none)))
gather_complete [] (suc most) after customs bytes more long h none =
    rw h (ap Ok (sym (append-nil customs) ∙ ap (λ (more : List Custom). customs ++ more) (sym none)))
gather_complete (section ∷ sections) zero after customs bytes more long h among =
    let whole = h.whole ∙ tagged_read section.0 h.second h.is_first.1 in
    absurd (omega (arith, ap length whole))
gather_complete (section ∷ sections) (suc most) after customs bytes more long h (IsNext.custom one others zeroth form is among) =
    let whole = h.whole ∙ tagged_read section.0 h.second h.is_first.1 in
    let read =
    content_decodes.complete section.1 h.is_first.1.second h.second (content_is section.1 h.is_first.1.second h.is_first.1.is_second) in
    let shorter : length h.second ≤ most = omega (arith, ap length whole, length-append h.is_first.1.second h.second) in
    ap (gathered_at (suc most) after customs) whole
    ∙ rw (
      not_empty section.0 (h.is_first.1.second ++ h.second),
      lt-ltb section.0 256 h.is_first.0,
      read,
      eq-eqb section.0 0 zeroth,
      (custom_after_decodes after).complete one section.1 form,
      gather_complete sections most after (customs ++ (one ∷ [])) h.second others shorter h.is_second among,
    )
    (ap Ok (append_assoc customs (one ∷ []) others ∙ ap (λ (more : List Custom). customs ++ more) (sym is)))
gather_complete (section ∷ sections) (suc most) after customs bytes more long h (IsNext.other nonzero among) =
    let whole = h.whole ∙ tagged_read section.0 h.second h.is_first.1 in
    let read =
    content_decodes.complete section.1 h.is_first.1.second h.second (content_is section.1 h.is_first.1.second h.is_first.1.is_second) in
    let shorter : length h.second ≤ most = omega (arith, ap length whole, length-append h.is_first.1.second h.second) in
    ap (gathered_at (suc most) after customs) whole
    ∙ rw (
      not_empty section.0 (h.is_first.1.second ++ h.second),
      lt-ltb section.0 256 h.is_first.0,
      read,
      ne_eqb section.0 0 nonzero,
      gather_complete sections most (Some section.0) customs h.second more shorter h.is_second among,
    ) refl

pub kept_decodes : DecodesWhole HasCustoms kept_at
unfolding kept_at
kept_decodes = record {
  sound = λ bytes customs e.
      let one = gather_sound (length bytes) None [] bytes customs e in
      (one.sections, one.each, subst (AreAmong None one.sections) (sym one.whole) one.among);
  complete = λ customs bytes h. gather_complete h.0 (length bytes) None [] bytes customs (omega arith) h.1 h.2;
}

-- sections without custom sections
pub record Plain (piece : List ℕ) : Type 0 where
  pub sections : List (ℕ × List ℕ)
  pub each : Each IsAnySection sections piece
  pub none : (after : Option ℕ) → AreAmong after sections []

plain_end : Plain []
unfolding Each
plain_end = record { sections = []; each = refl; none = λ after. refl }

plain_more : {N : Type 0} {P : List ℕ → Type 0} (id : ℕ) (piece first second : List ℕ) → (id ≡ 0 → ⊥) → id < 256
    → IsOptionalSection id N P first → Plain second → piece ≡ first ++ second → Plain piece
unfolding Each
plain_more id piece first second nonzero low (IsOptionalSection.present h) one whole = record {
  sections = (id, h.is_second.content) ∷ one.sections;
  each = record {
    first = first;
    second = second;
    is_first = (
      low,
      record {
        first = h.first;
        second = h.second;
        is_first = h.is_first;
        is_second = record { content = h.is_second.content; is_content = refl; form = h.is_second.form };
        whole = h.whole;
      },
    );
    is_second = one.each;
    whole = whole;
  };
  none = λ after. IsNext.other nonzero (one.none (Some id));
}
plain_more id piece first second nonzero low (IsOptionalSection.absent is empty) one whole =
    subst Plain (sym (whole ∙ ap (λ (front : List ℕ). front ++ second) empty)) one

pub plain_then : {N : Type 0} {P More : List ℕ → Type 0} {piece : List ℕ} (id : ℕ) → (id ≡ 0 → ⊥) → id < 256
    → (h : Joined (IsOptionalSection id N P) More piece) → Plain h.second → Plain piece
plain_then {piece = piece} id nonzero low h one = plain_more id piece h.first h.second nonzero low h.is_first one h.whole

pub plain_last : {N : Type 0} {P : List ℕ → Type 0} {piece : List ℕ} (id : ℕ) → (id ≡ 0 → ⊥) → id < 256 → IsOptionalSection id N P piece
    → Plain piece
plain_last {piece = piece} id nonzero low h = plain_more id piece piece [] nonzero low h plain_end (sym (append-nil piece))
