-- A valid segment is read as one with the forms of enabled features alone.
use Rattle.smith_binary_program.proofs.Common.{All, All-map, All-same, All-weaker, ap, arith, as_expr, Bool, ConstInstr, Context}
use Rattle.smith_binary_program.proofs.Common.{ElementSegment, false, Features, Instr, IsDataValid, IsElementSegmentValid, IsExprEnabled}
use Rattle.smith_binary_program.proofs.Common.{IsTrue, IsUnsigned, Joined, length, List, map, MemoryType, None, Ref, refl, RefType}
use Rattle.smith_binary_program.proofs.Common.{slice_get_within, Some, subst, sym, TableType, true, ℕ, ◌++◌, ◌<◌, ◌∙◌, ◌≡◌, ◌≤◌}
use Rattle.std.proofs.Common.{cond, eqb}
use Rattle.std.specs.Prelude.{unwrap_or}
use Rattle.smith_types.specs.Syntax.segments.DataSegment.{DataSegment}
use Rattle.smith_types.specs.Syntax.segments.DataSegmentKind.{DataSegmentKind}
use Rattle.smith_types.specs.Syntax.segments.DataSegmentKind.TheVariants as data_kind
use Rattle.smith_types.specs.Syntax.segments.ElementKind.{ElementKind}
use Rattle.smith_types.specs.Syntax.segments.ElementKind.TheVariants as element_kind
use Rattle.smith_types.specs.Syntax.segments.Elements.{Elements}
use Rattle.smith_types.specs.Syntax.segments.Elements.TheVariants.{Functions, Expressions}
use Rattle.smith_types.specs.Expressions.{IsConstExpr}
use Rattle.smith_types.specs.Segments.{AreItemsValid, IsDataKindValid, IsElementKindValid}
use Rattle.smith_binary_sections.specs.Data.{IsDataWritten, data_mode, data_of}
use Rattle.smith_binary_sections.specs.Elements.{IsElemWritten, elem_form, elem_items, elem_mode, elem_of, elem_type, form_number}
use Rattle.smith_binary_sections.specs.Elements.{funcs_form}
use Rattle.smith_binary_sections.specs.Elements.Form.{first_funcs, table_funcs}
use Rattle.smith_binary_sections.proofs.SpelledFormLemmas.{data_spelled, elem_spelled}
use Rattle.smith_binary_read.proofs.IntegerLemmas.{unsigned_decodes}
use Rattle.smith_binary_law.proofs.ReadLemmas.{read_once}
use Rattle.smith_decode.specs.declared.data.DataMode.{DataMode}
use Rattle.smith_decode.specs.declared.data.DataMode.TheVariants as decoded_data
use Rattle.smith_decode.specs.declared.elements.ElementItems.{ElementItems}
use Rattle.smith_decode.specs.declared.elements.ElementItems.TheVariants as items
use Rattle.smith_decode.specs.declared.elements.ElementMode.{ElementMode}
use Rattle.smith_decode.specs.declared.elements.ElementMode.TheVariants as decoded_mode
use Rattle.smith_decode.specs.declared.elements.ElementSegment.{ElementSegment as DecodedElement}
use Rattle.smith_decode.specs.Constants.{as_data, as_data_mode, as_elem, as_mode}
use Rattle.smith_decode.specs.Data as syntax_data
use Rattle.smith_decode.specs.DataReadings as data_segments
use Rattle.smith_decode.specs.ElementReadings.{IsElementSegment, items_view, mode_view}
use Rattle.smith_decode.specs.Elements as syntax_elements
use Rattle.smith_decode.specs.Forms.{AreItemsEnabled, IsDataEnabled, IsDataModeEnabled, IsElementEnabled, IsElementModeEnabled}
use Rattle.smith_decode.specs.Forms.{IsMemoryNameEnabled, IsTableNameEnabled}
use Rattle.smith_decode.specs.TypeForms.{IsRefTypeEnabled}
use Rattle.smith_decode.proofs.ConstantLemmas.{data_as, elem_as}
use Rattle.smith_decode.proofs.ElementLemmas.{segment_viewed}
use Rattle.smith_decode.proofs.ViewLemmas.{data_viewed}
use Rattle.smith_binary_program.proofs.ConstantsOnLemmas.{expr_on, offset_on}
use Rattle.smith_binary_program.proofs.FindsLemmas.{Finds}
use Rattle.smith_binary_program.proofs.TypesOnLemmas.{ref_on}

-- modes of element segments, by their views
abbrev IsModeOn : Features → syntax_elements.Mode → Type 0
IsModeOn features syntax_elements.Mode.passive = IsTrue features.bulk_memory
IsModeOn features syntax_elements.Mode.declared = IsTrue features.bulk_memory
IsModeOn features (syntax_elements.Mode.active table offset) = IsTableNameEnabled features table × IsExprEnabled features offset

mode_on : (features : Features) (mode : ElementMode) → IsModeOn features (mode_view mode) → IsElementModeEnabled features mode
mode_on features decoded_mode.Passive on = on
mode_on features decoded_mode.Declared on = on
mode_on features (decoded_mode.Active table offset) on = on

kind_on : (context : Context) (tables : List TableType) → (1 < length tables → IsTrue context.features.reference_types) → (ty : RefType)
    (kind : ElementKind)
    → IsElementKindValid context tables ty kind → IsModeOn context.features (as_mode (elem_mode kind))
kind_on context tables several ty element_kind.Passive h = h
kind_on context tables several ty element_kind.Declared h = h
kind_on context tables several ty (element_kind.Active None offset) h = (λ other. absurd (other refl), offset_on context.features offset)
kind_on context tables several ty (element_kind.Active (Some table) offset) h =
    (λ other. several (omega (arith, slice_get_within tables table h.1.table h.1.stands, other)), offset_on context.features offset)

-- bytes that begin with a number of 4 or more
record IsHigh (piece : List ℕ) : Type 0 where
  pub number : ℕ
  pub high : 4 ≤ number
  pub first : List ℕ
  pub second : List ℕ
  pub is_first : IsUnsigned 32 number first
  pub whole : piece ≡ first ++ second

high : {More : List ℕ → Type 0} {piece : List ℕ} (number : ℕ) → 4 ≤ number → Joined (IsUnsigned 32 number) More piece → IsHigh piece
high number low h = record { number = number; high = low; first = h.first; second = h.second; is_first = h.is_first; whole = h.whole }

-- a segment of expressions has such a number
expressions_high : (s : DecodedElement) (piece : List ℕ) (xs : List (List Instr)) → s.items ≡ items.Expressions xs
    → IsElementSegment s piece → IsHigh piece
expressions_high s piece xs is (IsElementSegment.form_0 offset funcs same h) =
    absurd (let never = sym is ∙ ap (λ (x : DecodedElement). x.items) same in cc)
expressions_high s piece xs is (IsElementSegment.form_1 funcs same h) =
    absurd (let never = sym is ∙ ap (λ (x : DecodedElement). x.items) same in cc)
expressions_high s piece xs is (IsElementSegment.form_2 table offset funcs same h) =
    absurd (let never = sym is ∙ ap (λ (x : DecodedElement). x.items) same in cc)
expressions_high s piece xs is (IsElementSegment.form_3 funcs same h) =
    absurd (let never = sym is ∙ ap (λ (x : DecodedElement). x.items) same in cc)
expressions_high s piece xs is (IsElementSegment.form_4 offset found same h) = high 4 (omega arith) h
expressions_high s piece xs is (IsElementSegment.form_5 ty found same h) = high 5 (omega arith) h
expressions_high s piece xs is (IsElementSegment.form_6 table offset ty found same h) = high 6 (omega arith) h
expressions_high s piece xs is (IsElementSegment.form_7 ty found same h) = high 7 (omega arith) h

-- a segment of functions hasn't
active_low : (is_first : Bool) → form_number (cond is_first first_funcs table_funcs) < 4
active_low true = omega arith
active_low false = omega arith

functions_low : (kind : ElementKind) → form_number (funcs_form kind) < 4
functions_low element_kind.Passive = omega arith
functions_low element_kind.Declared = omega arith
functions_low (element_kind.Active table offset) = active_low (eqb (unwrap_or table 0) 0)

same_number : {piece : List ℕ} {More : List ℕ → Type 0} (number : ℕ) → Joined (IsUnsigned 32 number) More piece → (h : IsHigh piece)
    → number ≡ h.number
same_number number one h =
    ((read_once (unsigned_decodes 32)).one number h.number one.first h.first one.second h.second one.is_first h.is_first
    (sym one.whole ∙ h.whole)).item

-- the items of a segment
items_on : (context : Context) (ty seen : RefType) (given : Elements) (kind : ElementKind) (xs : List (List Instr)) (piece : List ℕ)
    {More : List ℕ → Type 0}
    → seen ≡ elem_type given ty → xs ≡ map as_expr (elem_items given) → AreItemsValid context ty given
    → IsRefTypeEnabled context.features ty → Joined (IsUnsigned 32 (form_number (elem_form given ty kind))) More piece → IsHigh piece
    → IsTrue context.features.reference_types × IsRefTypeEnabled context.features seen × All (IsExprEnabled context.features) xs
items_on context ty seen (Functions functions) kind xs piece is same valid on written high =
    absurd (omega (arith, high.high, same_number (form_number (funcs_form kind)) written high, functions_low kind))
items_on context ty seen (Expressions expressions) kind xs piece is same valid on written high = (
  valid.0,
  subst (IsRefTypeEnabled context.features) (sym is) on,
  All-same (IsExprEnabled context.features) xs (map as_expr expressions) same
      (All-map (IsExprEnabled context.features) as_expr expressions
      (All-weaker (IsConstExpr context (Ref ty)) (λ (e : List ConstInstr). IsExprEnabled context.features (as_expr e))
      (expr_on context (Ref ty)) expressions valid.1)),
)

-- whichever items they are
seen_on : (features : Features) (ty : RefType) (found : ElementItems)
    → ((xs : List (List Instr)) → found ≡ items.Expressions xs
    → IsTrue features.reference_types × IsRefTypeEnabled features ty × All (IsExprEnabled features) xs)
    → AreItemsEnabled features ty found
seen_on features ty (items.Functions functions) on = tt
seen_on features ty (items.Expressions xs) on = on xs refl

pub element_found : (context : Context) (tables : List TableType) → (1 < length tables → IsTrue context.features.reference_types)
    → (e : ElementSegment) (piece : List ℕ) → IsElementSegmentValid context tables e → IsElemWritten e piece
    → Finds (IsElementEnabled context.features) IsElementSegment piece
element_found context tables several e piece valid h =
    let one = segment_viewed.back (as_elem (elem_of e)) piece (elem_as (elem_of e) piece (elem_spelled e piece h)) in
    let seen = ap (λ (x : syntax_elements.Elem). x.items) one.is in
    let mode : mode_view one.item.mode ≡ as_mode (elem_mode e.kind) = ap (λ (x : syntax_elements.Elem). x.mode) one.is in
    record {
      item = one.item;
      good = record {
        items = seen_on context.features one.item.ty one.item.items (λ xs is.
            items_on context e.ty one.item.ty e.items e.kind xs piece (ap (λ (x : syntax_elements.Elem). x.ty) one.is)
            (sym (ap items_view is) ∙ seen) valid.items (ref_on context.features (length context.types) e.ty valid.ty) h
            (expressions_high one.item piece xs is one.form));
        mode = mode_on context.features one.item.mode
            (subst (IsModeOn context.features) (sym mode) (kind_on context tables several e.ty e.kind valid.kind));
      };
      form = one.form;
    }

-- data segments
abbrev IsDataOn : Features → syntax_data.DataMode → Type 0
IsDataOn features syntax_data.DataMode.passive = IsTrue features.bulk_memory
IsDataOn features (syntax_data.DataMode.active memory offset) = IsMemoryNameEnabled features memory × IsExprEnabled features offset

data_mode_on : (features : Features) (mode : DataMode) → IsDataOn features (data_segments.mode_view mode) → IsDataModeEnabled features mode
data_mode_on features decoded_data.Passive on = on
data_mode_on features (decoded_data.Active memory offset) on = on

data_kind_on : (context : Context) (memories : List MemoryType) → (1 < length memories → IsTrue context.features.multi_memory)
    → (kind : DataSegmentKind) → IsDataKindValid context memories kind → IsDataOn context.features (as_data_mode (data_mode kind))
data_kind_on context memories several data_kind.Passive h = h
data_kind_on context memories several (data_kind.Active index offset) h =
    (λ other. several (omega (arith, slice_get_within memories index h.0 h.1, other)), offset_on context.features offset)

pub data_found : (context : Context) (memories : List MemoryType) → (1 < length memories → IsTrue context.features.multi_memory)
    → (d : DataSegment) (piece : List ℕ) → IsDataValid context memories d → IsDataWritten d piece
    → Finds (IsDataEnabled context.features) data_segments.IsSegment piece
data_found context memories several d piece valid h =
    let one = data_viewed.back (as_data (data_of d)) piece (data_as (data_of d) piece (data_spelled d piece h)) in
    let mode : data_segments.mode_view one.item.mode ≡ as_data_mode (data_mode d.kind) =
    ap (λ (x : syntax_data.Data). x.mode) one.is in
    record {
      item = one.item;
      good = data_mode_on context.features one.item.mode
          (subst (IsDataOn context.features) (sym mode) (data_kind_on context memories several d.kind valid));
      form = one.form;
    }
