-- Element segments that are read: the reading is sound and complete.
use Rattle.smith_decode.proofs.Common.{ap, branch, Decodes, expr_decodes, Front, front_joined, Instr, Joined, joined_decodes, List, Ok}
use Rattle.smith_decode.proofs.Common.{Reading, refl, step, sym, tagged_read, test_passed, unsigned_decodes, Viewed, ℕ, ◌++◌, ◌∙◌, ◌≡◌}
use Rattle.smith_types.specs.Syntax.value_type.RefType.{RefType}
use Rattle.smith_binary_sections.specs.Elements.{Form, IsFuncs, IsKindFuncs}
use Rattle.smith_binary_sections.specs.Elements.Form.{first_funcs, passive_funcs, table_funcs, declared_funcs}
use Rattle.smith_binary_sections.specs.Elements.Form.{first_items, passive_items, table_items, declared_items}
use Rattle.smith_binary_read.specs.Views.{From}
use Rattle.smith_binary_read.proofs.ReadLemmas.{first_read}
use Rattle.smith_binary_read.proofs.ContentLemmas.{list_decodes}
use Rattle.smith_binary_read.proofs.ChoiceLemmas.{counted_sound, tag_front}
use Rattle.smith_binary_read.proofs.TypeLemmas.{ref_decodes}
use Rattle.smith_decode.specs.declared.elements.ElementItems.TheVariants.{Expressions}
use Rattle.smith_decode.specs.declared.elements.ElementMode.TheVariants.{Passive, Declared, Active}
use Rattle.smith_decode.specs.declared.elements.ElementSegment.{ElementSegment}
use Rattle.smith_decode.specs.Elements.{Elem, IsItems, IsTypedItems, IsElemIn, IsElem}
use Rattle.smith_decode.specs.ElementReadings.{element, of_funcs, of_items, element_view, IsElementSegment}
use Rattle.smith_decode.specs.ElementReadings.{pair_at, funcs_at, kind_funcs_at, items_at, typed_items_at, segment_at}

pair_decodes : {A B : Type 0} {P : A → List ℕ → Type 0} {Q : B → List ℕ → Type 0} {p : List ℕ → Reading A} {q : List ℕ → Reading B}
    → Decodes P p → Decodes Q q → Decodes (λ (x : A × B). Joined (P x.0) (Q x.1)) (pair_at p q)
pair_decodes p_reads q_reads =
    joined_decodes (λ x y. (x, y)) (λ x. x.0) (λ x. x.1) (λ x y. refl) (λ x y. refl) (λ z. refl) p_reads q_reads

funcs_decodes : Decodes IsFuncs funcs_at
funcs_decodes = list_decodes (unsigned_decodes 32)

kind_sound : (bytes funcs rest : List ℕ) → kind_funcs_at bytes ≡ Ok (funcs, rest) → Front (IsKindFuncs funcs) bytes rest
unfolding kind_funcs_at
kind_sound bytes funcs rest e = step _ _ _ e (λ byte first e.
    test_passed _ _ _ _ e (λ is e. front_joined (tag_front 0 bytes byte first is) (funcs_decodes.sound byte.1 funcs rest e)))

kind_complete : (funcs piece rest : List ℕ) → IsKindFuncs funcs piece → kind_funcs_at (piece ++ rest) ≡ Ok (funcs, rest)
unfolding kind_funcs_at
kind_complete funcs piece rest h = ap kind_funcs_at (tagged_read 0 rest h) ∙ funcs_decodes.complete funcs h.second rest h.is_second

kind_decodes : Decodes IsKindFuncs kind_funcs_at
kind_decodes = record { sound = kind_sound; complete = kind_complete }

items_decodes : Decodes IsItems items_at
items_decodes = list_decodes expr_decodes

typed_decodes : Decodes (λ (x : RefType × List (List Instr)). IsTypedItems x.0 x.1) typed_items_at
unfolding typed_items_at
typed_decodes = pair_decodes ref_decodes items_decodes

segment_sound : (bytes : List ℕ) (x : ElementSegment) (rest : List ℕ) → segment_at bytes ≡ Ok (x, rest)
    → Front (IsElementSegment x) bytes rest
unfolding segment_at
segment_sound bytes x rest e = step _ _ _ e (λ form first e.
    branch _ _ _ _ e
    (λ is e. counted_sound IsElementSegment (λ y. of_funcs y.1 (Active 0 y.0)) 0
    (pair_decodes expr_decodes funcs_decodes) (λ y piece h. IsElementSegment.form_0 y.0 y.1 refl h) bytes form x rest first is e)
    (λ is_not e.
    branch _ _ _ _ e
    (λ is e. counted_sound IsElementSegment (λ y. of_funcs y Passive) 1
    kind_decodes (λ y piece h. IsElementSegment.form_1 y refl h) bytes form x rest first is e)
    (λ is_not e.
    branch _ _ _ _ e
    (λ is e. counted_sound IsElementSegment (λ y. of_funcs y.1.1 (Active y.0 y.1.0)) 2
    (pair_decodes (unsigned_decodes 32) (pair_decodes expr_decodes kind_decodes))
    (λ y piece h. IsElementSegment.form_2 y.0 y.1.0 y.1.1 refl h) bytes form x rest first is e)
    (λ is_not e.
    branch _ _ _ _ e
    (λ is e. counted_sound IsElementSegment (λ y. of_funcs y Declared) 3
    kind_decodes (λ y piece h. IsElementSegment.form_3 y refl h) bytes form x rest first is e)
    (λ is_not e.
    branch _ _ _ _ e
    (λ is e. counted_sound IsElementSegment (λ y. of_items y.1 (Active 0 y.0)) 4
    (pair_decodes expr_decodes items_decodes) (λ y piece h. IsElementSegment.form_4 y.0 y.1 refl h) bytes form x rest first is e)
    (λ is_not e.
    branch _ _ _ _ e
    (λ is e. counted_sound IsElementSegment (λ y. element y.0 (Expressions y.1) Passive) 5
    typed_decodes (λ y piece h. IsElementSegment.form_5 y.0 y.1 refl h) bytes form x rest first is e)
    (λ is_not e.
    branch _ _ _ _ e
    (λ is e. counted_sound IsElementSegment (λ y. element y.1.1.0 (Expressions y.1.1.1) (Active y.0 y.1.0)) 6
    (pair_decodes (unsigned_decodes 32) (pair_decodes expr_decodes typed_decodes))
    (λ y piece h. IsElementSegment.form_6 y.0 y.1.0 y.1.1.0 y.1.1.1 refl h) bytes form x rest first is e)
    (λ is_not e.
    test_passed _ _ _ _ e
    (λ is e. counted_sound IsElementSegment (λ y. element y.0 (Expressions y.1) Declared) 7
    typed_decodes (λ y piece h. IsElementSegment.form_7 y.0 y.1 refl h) bytes form x rest first is e)))))))))

segment_complete : (x : ElementSegment) (piece rest : List ℕ) → IsElementSegment x piece → segment_at (piece ++ rest) ≡ Ok (x, rest)
unfolding segment_at
segment_complete x piece rest (IsElementSegment.form_0 offset funcs e h) =
    rw (
      first_read 0 rest (unsigned_decodes 32) h,
      (pair_decodes expr_decodes funcs_decodes).complete
          (offset, funcs) h.second rest h.is_second,
    )
    (ap (λ (s : ElementSegment). Ok (s, rest)) (sym e))
segment_complete x piece rest (IsElementSegment.form_1 funcs e h) =
    rw (first_read 1 rest (unsigned_decodes 32) h, kind_decodes.complete funcs h.second rest h.is_second)
    (ap (λ (s : ElementSegment). Ok (s, rest)) (sym e))
segment_complete x piece rest (IsElementSegment.form_2 table offset funcs e h) =
    rw (
      first_read 2 rest (unsigned_decodes 32) h,
      (pair_decodes (unsigned_decodes 32) (pair_decodes expr_decodes kind_decodes)).complete
          (table, (offset, funcs)) h.second rest h.is_second,
    )
    (ap (λ (s : ElementSegment). Ok (s, rest)) (sym e))
segment_complete x piece rest (IsElementSegment.form_3 funcs e h) =
    rw (first_read 3 rest (unsigned_decodes 32) h, kind_decodes.complete funcs h.second rest h.is_second)
    (ap (λ (s : ElementSegment). Ok (s, rest)) (sym e))
segment_complete x piece rest (IsElementSegment.form_4 offset items e h) =
    rw (
      first_read 4 rest (unsigned_decodes 32) h,
      (pair_decodes expr_decodes items_decodes).complete
          (offset, items) h.second rest h.is_second,
    )
    (ap (λ (s : ElementSegment). Ok (s, rest)) (sym e))
segment_complete x piece rest (IsElementSegment.form_5 ty items e h) =
    rw (first_read 5 rest (unsigned_decodes 32) h, typed_decodes.complete (ty, items) h.second rest h.is_second)
    (ap (λ (s : ElementSegment). Ok (s, rest)) (sym e))
segment_complete x piece rest (IsElementSegment.form_6 table offset ty items e h) =
    rw (
      first_read 6 rest (unsigned_decodes 32) h,
      (pair_decodes (unsigned_decodes 32) (pair_decodes expr_decodes typed_decodes)).complete
          (table, (offset, (ty, items))) h.second rest h.is_second,
    )
    (ap (λ (s : ElementSegment). Ok (s, rest)) (sym e))
segment_complete x piece rest (IsElementSegment.form_7 ty items e h) =
    rw (first_read 7 rest (unsigned_decodes 32) h, typed_decodes.complete (ty, items) h.second rest h.is_second)
    (ap (λ (s : ElementSegment). Ok (s, rest)) (sym e))

pub segment_decodes : Decodes IsElementSegment segment_at
segment_decodes = record { sound = segment_sound; complete = segment_complete }

-- another second piece
joined_as : {P Q R : List ℕ → Type 0} {piece : List ℕ} → (h : Joined P Q piece) → R h.second → Joined P R piece
joined_as h second = record { first = h.first; second = h.second; is_first = h.is_first; is_second = second; whole = h.whole }

-- the forms of the abstract syntax
segment_forth : (x : ElementSegment) (piece : List ℕ) → IsElementSegment x piece → IsElem (element_view x) piece
segment_forth x piece (IsElementSegment.form_0 offset funcs e h) =
    record { form = first_funcs; spelled = joined_as h (offset, funcs, ap element_view e, h.is_second) }
segment_forth x piece (IsElementSegment.form_1 funcs e h) =
    record { form = passive_funcs; spelled = joined_as h (funcs, ap element_view e, h.is_second) }
segment_forth x piece (IsElementSegment.form_2 table offset funcs e h) =
    record { form = table_funcs; spelled = joined_as h (table, offset, funcs, ap element_view e, h.is_second) }
segment_forth x piece (IsElementSegment.form_3 funcs e h) =
    record { form = declared_funcs; spelled = joined_as h (funcs, ap element_view e, h.is_second) }
segment_forth x piece (IsElementSegment.form_4 offset items e h) =
    record { form = first_items; spelled = joined_as h (offset, items, ap element_view e, h.is_second) }
segment_forth x piece (IsElementSegment.form_5 ty items e h) =
    record { form = passive_items; spelled = joined_as h (ty, items, ap element_view e, h.is_second) }
segment_forth x piece (IsElementSegment.form_6 table offset ty items e h) =
    record { form = table_items; spelled = joined_as h (table, offset, ty, items, ap element_view e, h.is_second) }
segment_forth x piece (IsElementSegment.form_7 ty items e h) =
    record { form = declared_items; spelled = joined_as h (ty, items, ap element_view e, h.is_second) }

form_back : (x : Elem) (form : Form) (piece : List ℕ) → IsElemIn form x piece → From element_view IsElementSegment x piece
form_back x first_funcs piece h =
    let d = h.is_second in
    record { item = of_funcs d.1 (Active 0 d.0); is = sym d.2; form = IsElementSegment.form_0 d.0 d.1 refl (joined_as h d.3) }
form_back x passive_funcs piece h =
    let d = h.is_second in
    record { item = of_funcs d.0 Passive; is = sym d.1; form = IsElementSegment.form_1 d.0 refl (joined_as h d.2) }
form_back x table_funcs piece h =
    let d = h.is_second in
    record { item = of_funcs d.2 (Active d.0 d.1); is = sym d.3; form = IsElementSegment.form_2 d.0 d.1 d.2 refl (joined_as h d.4) }
form_back x declared_funcs piece h =
    let d = h.is_second in
    record { item = of_funcs d.0 Declared; is = sym d.1; form = IsElementSegment.form_3 d.0 refl (joined_as h d.2) }
form_back x first_items piece h =
    let d = h.is_second in
    record { item = of_items d.1 (Active 0 d.0); is = sym d.2; form = IsElementSegment.form_4 d.0 d.1 refl (joined_as h d.3) }
form_back x passive_items piece h =
    let d = h.is_second in
    record { item = element d.0 (Expressions d.1) Passive; is = sym d.2; form = IsElementSegment.form_5 d.0 d.1 refl (joined_as h d.3) }
form_back x table_items piece h =
    let d = h.is_second in
    record {
      item = element d.2 (Expressions d.3) (Active d.0 d.1);
      is = sym d.4;
      form = IsElementSegment.form_6 d.0 d.1 d.2 d.3 refl
          (joined_as h d.5);
    }
form_back x declared_items piece h =
    let d = h.is_second in
    record { item = element d.0 (Expressions d.1) Declared; is = sym d.2; form = IsElementSegment.form_7 d.0 d.1 refl (joined_as h d.3) }

pub segment_viewed : Viewed element_view IsElem IsElementSegment
segment_viewed = record { forth = segment_forth; back = λ x piece h. form_back x h.form piece h.spelled }
