-- Modules without custom sections, as an encoder writes them, and what the reading says of modules.
use Rattle.smith_decode.proofs.Common.{[], ap, append-nil, arith, Bool, Each, Err, false, Fault, Instr, IsDeclaredGroup, IsList}
use Rattle.smith_decode.proofs.Common.{IsNestedExpr}
use Rattle.smith_decode.proofs.Common.{IsOptionalSection, IsSection, IsUnsigned, Joined, length, List, list_any, map, nil_from_length, None}
use Rattle.smith_decode.proofs.Common.{Option, refl, Some, subst, suc, sym, true, ValType, ℕ, ◌++◌, ◌∙◌, ◌∷◌, ◌≡◌}
use Rattle.std.proofs.lemmas.List.{length-map}
use Rattle.std.specs.Prelude.{IfSome}
use Rattle.smith_types.specs.Syntax.composite_type.SubType.{SubType}
use Rattle.smith_binary_sections.specs.Codes.{IsBody, IsLocals}
use Rattle.smith_binary_sections.specs.Data.{IsData as IsConstData}
use Rattle.smith_binary_sections.specs.Definitions.{IsTable as IsConstTable, IsGlobal as IsConstGlobal}
use Rattle.smith_binary_sections.specs.Elements.{IsElem as IsConstElem}
use Rattle.smith_binary_sections.specs.Modules.{Contents, IsModule, IsStartSection}
use Rattle.smith_binary_sections.specs.Sections.{IsListSection}
use Rattle.smith_binary_sections.specs.Types.{IsRecGroup}
use Rattle.smith_binary_read.specs.declared.types.DeclaredType.{DeclaredType}
use Rattle.smith_binary_read.proofs.TypeLemmas.{plain_group, without_further}
use Rattle.smith_binary_read.proofs.ViewLemmas.{list_forth}
use Rattle.smith_decode.specs.Constants.{as_table, as_global, as_elem, as_data, with_bodies, IsPresent, StatesCount}
use Rattle.smith_decode.specs.Customs.{AreCustoms, IsThen}
use Rattle.smith_decode.specs.Data.{IsData}
use Rattle.smith_decode.specs.Definitions.{IsTable, IsGlobal}
use Rattle.smith_decode.specs.Elements.{IsElem}
use Rattle.smith_decode.specs.ModuleReadings.{module_at}
use Rattle.smith_decode.specs.Modules.{AreBodiesOf, IsFunctionBody, IsStated, IsModuleBinary, Syntax, syntax_of, body_names_data}
use Rattle.smith_decode.specs.TypeGroups.{declared_groups}
use Rattle.smith_decode.proofs.TypeGroupLemmas.{groups_plain, none_further, plain_aligned}
use Rattle.smith_decode.proofs.ConstantLemmas.{first_as, table_as, global_as, elem_as, data_as}
use Rattle.smith_decode.proofs.ContentsLemmas.{module_back}
use Rattle.smith_decode.proofs.CustomLemmas.{no_customs}
use Rattle.smith_decode.proofs.KeptLemmas.{plain_then, plain_last}
use Rattle.smith_decode.proofs.ModuleLemmas.{module_decodes}

-- a section after no custom section
pub before_more : {N : Type 0} {P More Then : List ℕ → Type 0} {piece : List ℕ} (id : ℕ) → ((rest : List ℕ) → More rest → Then rest)
    → Joined (IsOptionalSection id N P) More piece → IsThen id N P Then piece
before_more {piece = piece} id up h = record {
  first = [];
  second = piece;
  is_first = no_customs;
  is_second = record { first = h.first; second = h.second; is_first = h.is_first; is_second = up h.second h.is_second; whole = h.whole };
  whole = refl;
}

-- another content of a section
section_as : {P Q : List ℕ → Type 0} {piece : List ℕ} (id : ℕ) → ((content : List ℕ) → P content → Q content) → IsSection id P piece
    → IsSection id Q piece
section_as id up h = record {
  first = h.first;
  second = h.second;
  is_first = h.is_first;
  is_second = record { content = h.is_second.content; is_content = up h.is_second.content h.is_second.is_content; form = h.is_second.form };
  whole = h.whole;
}

optional_as : {N M : Type 0} {P Q : List ℕ → Type 0} {piece : List ℕ} (id : ℕ) → (N → M) → ((content : List ℕ) → P content → Q content)
    → IsOptionalSection id N P piece → IsOptionalSection id M Q piece
optional_as id nothing up (IsOptionalSection.present h) = IsOptionalSection.present (section_as id up h)
optional_as id nothing up (IsOptionalSection.absent is empty) = IsOptionalSection.absent (nothing is) empty

-- a section of items that are seen as others
section_of : {A B : Type 0} (id : ℕ) (view : B → A) (P : A → List ℕ → Type 0) (Q : B → List ℕ → Type 0)
    → ((x : B) (piece : List ℕ) → Q x piece → P (view x) piece) → (xs : List B) (piece : List ℕ) → IsListSection id Q xs piece
    → IsListSection id P (map view xs) piece
section_of id view P Q forth xs piece h =
    optional_as id (λ is. ap (map view) is) (λ content items. list_forth view P Q forth xs content items) h

start_form : (start : Option ℕ) (piece : List ℕ) → IsStartSection start piece → IsOptionalSection 8 (start ≡ None) (IsStated start) piece
start_form (Some index) piece h =
    IsOptionalSection.present (section_as 8 (λ content is. record { number = index; is = refl; form = is }) h)
start_form None piece h = IsOptionalSection.absent refl h

types_form : (types : List (List SubType)) (piece : List ℕ) → IsListSection 1 IsRecGroup types piece
    → IsListSection 1 IsDeclaredGroup (declared_groups types (none_further types)) piece
types_form types piece h =
    subst (λ (groups : List (List DeclaredType)). IsListSection 1 IsDeclaredGroup groups piece) (sym (groups_plain types))
    (section_of 1 (map without_further) IsDeclaredGroup IsRecGroup plain_group types piece h)

-- the last section, and no byte after it
last_form : {N : Type 0} {P : List ℕ → Type 0} {piece : List ℕ} (id : ℕ) → IsOptionalSection id N P piece → IsThen id N P AreCustoms piece
last_form {piece = piece} id h = record {
  first = [];
  second = piece;
  is_first = no_customs;
  is_second = record { first = piece; second = []; is_first = h; is_second = no_customs; whole = sym (append-nil piece) };
  whole = refl;
}

-- bodies by their instructions
body_form : (body : List ValType × List Instr) (raw : List ValType × List ℕ) (piece : List ℕ) → body.0 ≡ raw.0 → IsNestedExpr body.1 raw.1
    → IsBody raw piece → IsFunctionBody body piece
body_form body raw piece locals expression h =
    let inner = h.is_content in
    record {
      content = h.content;
      is_content = record {
        first = inner.first;
        second = inner.second;
        is_first = subst (λ (types : List ValType). IsLocals types inner.first) (sym locals) inner.is_first;
        is_second = subst (IsNestedExpr body.1) (sym inner.is_second) expression;
        whole = inner.whole;
      };
      form = h.form;
    }

each_form : (bodies : List (List ValType × List Instr)) (raws : List (List ValType × List ℕ)) (piece : List ℕ) → AreBodiesOf bodies raws
    → Each IsBody raws piece → Each IsFunctionBody bodies piece
unfolding Each
each_form [] [] piece same h = h
each_form (body ∷ bodies) (raw ∷ raws) piece same h = record {
  first = h.first;
  second = h.second;
  is_first = body_form body raw h.first same.0 same.1 h.is_first;
  is_second = each_form bodies raws h.second same.2 h.is_second;
  whole = h.whole;
}
each_form [] (raw ∷ raws) piece same h = absurd same
each_form (body ∷ bodies) [] piece same h = absurd same

as_many : (bodies : List (List ValType × List Instr)) (raws : List (List ValType × List ℕ)) → AreBodiesOf bodies raws
    → length raws ≡ length bodies
as_many [] [] same = refl
as_many (body ∷ bodies) (raw ∷ raws) same = ap suc (as_many bodies raws same.2)
as_many [] (raw ∷ raws) same = absurd same
as_many (body ∷ bodies) [] same = absurd same

bodies_form : (bodies : List (List ValType × List Instr)) (raws : List (List ValType × List ℕ)) (content : List ℕ)
    → AreBodiesOf bodies raws → IsList IsBody raws content → IsList IsFunctionBody bodies content
bodies_form bodies raws content same h = record {
  first = h.first;
  second = h.second;
  is_first = subst (λ (count : ℕ). IsUnsigned 32 count h.first) (as_many bodies raws same) h.is_first;
  is_second = each_form bodies raws h.second same h.is_second;
  whole = h.whole;
}

no_bodies : (bodies : List (List ValType × List Instr)) (raws : List (List ValType × List ℕ)) → AreBodiesOf bodies raws → raws ≡ []
    → bodies ≡ []
no_bodies bodies raws same is = nil_from_length bodies (sym (as_many bodies raws same) ∙ ap length is)

-- the code and data sections
abbrev AreLast : Syntax → List ℕ → Type 0
AreLast m = IsThen 10 (m.bodies ≡ []) (IsList IsFunctionBody m.bodies) (IsThen 11 (m.datas ≡ []) (IsList IsData m.datas) AreCustoms)

tail_form : (m : Contents) (bodies : List (List ValType × List Instr)) (piece : List ℕ) → AreBodiesOf bodies m.bodies
    → Joined (IsListSection 10 IsBody m.bodies) (IsListSection 11 IsConstData m.datas) piece
    → AreLast (with_bodies m bodies) piece
tail_form m bodies piece same h =
    before_more 10 (λ rest is. last_form 11 (section_of 11 as_data IsData IsConstData data_as m.datas rest is)) (first_as (λ first is.
    optional_as 10 (no_bodies bodies m.bodies same) (λ content one. bodies_form bodies m.bodies content same one) is) h)

-- sections, and the number of data segments that is stated among them, if it is
record WithCount (n : ℕ) (named : Bool) (Sections : Option ℕ → List ℕ → Type 0) (piece : List ℕ) : Type 0 where
  pub count : Option ℕ
  pub stated : IfSome count (λ stated. stated ≡ n)
  pub needed : count ≡ None → named ≡ false
  pub form : Sections count piece

then_counted : {N : Type 0} {P More : List ℕ → Type 0} {Then : Option ℕ → List ℕ → Type 0} {piece : List ℕ} {n : ℕ} {named : Bool}
    (id : ℕ) (h : Joined (IsOptionalSection id N P) More piece) → WithCount n named Then h.second
    → WithCount n named (λ count. IsThen id N P (Then count)) piece
then_counted {piece = piece} id h one = record {
  count = one.count;
  stated = one.stated;
  needed = one.needed;
  form = record {
    first = [];
    second = piece;
    is_first = no_customs;
    is_second = record { first = h.first; second = h.second; is_first = h.is_first; is_second = one.form; whole = h.whole };
    whole = refl;
  };
}

-- the sections from the number of data segments on
abbrev FromCount : Syntax → Option ℕ → List ℕ → Type 0
FromCount m count = IsThen 12 (count ≡ None) (IsStated count) (AreLast m)

from_count : (m : Syntax) (count : Option ℕ) (piece first second : List ℕ) → IsOptionalSection 12 (count ≡ None) (IsStated count) first
    → AreLast m second → piece ≡ first ++ second → FromCount m count piece
from_count m count piece first second one two whole = record {
  first = [];
  second = piece;
  is_first = no_customs;
  is_second = record { first = first; second = second; is_first = one; is_second = two; whole = whole };
  whole = refl;
}

never_named : (named : Bool) → (named ≡ true → ⊥) → named ≡ false
never_named false never = refl
never_named true never = absurd (never refl)

counts_form : (m : Syntax) (n : ℕ) (named : Bool) (piece first second : List ℕ) → n ≡ length m.datas
    → (h : IsOptionalSection 12 (Unit {0}) (IsUnsigned 32 n) first) → (named ≡ true → IsPresent h) → AreLast m second
    → piece ≡ first ++ second → WithCount (length m.datas) named (FromCount m) piece
counts_form m n named piece first second many (IsOptionalSection.present h) needed two whole = record {
  count = Some n;
  stated = many;
  needed = λ none. absurd cc;
  form = from_count m (Some n) piece first second
      (IsOptionalSection.present (section_as 12 (λ content is. record { number = n; is = refl; form = is }) h)) two whole;
}
counts_form m n named piece first second many (IsOptionalSection.absent is empty) needed two whole = record {
  count = None;
  stated = tt;
  needed = λ none. never_named named needed;
  form = from_count m None piece first second (IsOptionalSection.absent refl empty) two whole;
}

-- a module without custom sections
pub encoder_form : (m : Contents) (bodies : List (List ValType × List Instr)) (bytes : List ℕ) → (h : IsModule m bytes)
    → AreBodiesOf bodies m.bodies → (list_any body_names_data bodies ≡ true → StatesCount h)
    → IsModuleBinary (with_bodies m bodies) bytes
encoder_form m bodies bytes is_module same needed =
    let h = is_module.form in
    let types = h.is_second in
    let imports = types.is_second in
    let functions = imports.is_second in
    let tables = functions.is_second in
    let memories = tables.is_second in
    let tags = memories.is_second in
    let globals = tags.is_second in
    let exports = globals.is_second in
    let start = exports.is_second in
    let elems = start.is_second in
    let count = elems.is_second in
    let counted =
    counts_form (with_bodies m bodies) (length m.datas) (list_any body_names_data bodies) elems.second count.first count.second
    (sym (length-map m.datas as_data)) count.is_first needed (tail_form m bodies count.second same count.is_second) count.whole in
    let from_elems =
    then_counted 9 (first_as (λ first is. section_of 9 as_elem IsElem IsConstElem elem_as m.elems first is) elems) counted in
    let from_start = then_counted 8 (first_as (λ first is. start_form m.start first is) start) from_elems in
    let from_globals =
    then_counted 6 (first_as (λ first is. section_of 6 as_global IsGlobal IsConstGlobal global_as m.globals first is) globals)
    (then_counted 7 exports from_start) in
    let from_tables =
    then_counted 4 (first_as (λ first is. section_of 4 as_table IsTable IsConstTable table_as m.tables first is) tables)
    (then_counted 5 memories (then_counted 13 tags from_globals)) in
    let sections =
    then_counted 1 (first_as (λ first is. types_form m.types first is) types)
    (then_counted 2 imports (then_counted 3 functions from_tables)) in
    let code = count.is_second in
    let plain_start =
    plain_then 8 (λ e. omega arith) (omega arith) (first_as (λ first is. start_form m.start first is) start)
    (plain_then 9 (λ e. omega arith) (omega arith) elems (plain_then 12 (λ e. omega arith) (omega arith) count
    (plain_then 10 (λ e. omega arith) (omega arith) code (plain_last 11 (λ e. omega arith) (omega arith) code.is_second)))) in
    let plain_memories =
    plain_then 5 (λ e. omega arith) (omega arith) memories (plain_then 13 (λ e. omega arith) (omega arith) tags
    (plain_then 6 (λ e. omega arith) (omega arith) globals (plain_then 7 (λ e. omega arith) (omega arith) exports plain_start))) in
    let plain =
    plain_then 1 (λ e. omega arith) (omega arith) types (plain_then 2 (λ e. omega arith) (omega arith) imports
    (plain_then 3 (λ e. omega arith) (omega arith) functions (plain_then 4 (λ e. omega arith) (omega arith) tables plain_memories))) in
    record {
      count = sections.count;
      form = record { first = h.first; second = h.second; is_first = h.is_first; is_second = sections.form; whole = h.whole };
      bodies = is_module.each ∙ as_many bodies m.bodies same;
      datas = sections.stated;
      named = sections.needed;
      customs = (plain.sections, plain.each, plain.none None);
      aligned = plain_aligned m.types;
    }

-- bytes are at most one module
pub module_same : (m n : Syntax) (bytes : List ℕ) → IsModuleBinary m bytes → IsModuleBinary n bytes → m ≡ n
module_same m n bytes h k =
    let one = module_back m bytes h in
    let other = module_back n bytes k in
    let same : one.decoded ≡ other.decoded =
    let e = sym (module_decodes.complete one.decoded bytes one.form) ∙ module_decodes.complete other.decoded bytes other.form in cc in
    sym one.is ∙ ap syntax_of same ∙ other.is

-- malformed bytes are no module
pub no_module : (m : Syntax) (bytes : List ℕ) (fault : Fault) → module_at bytes ≡ Err fault → IsModuleBinary m bytes → ⊥
no_module m bytes fault read h =
    let one = module_back m bytes h in
    let never = sym (module_decodes.complete one.decoded bytes one.form) ∙ read in cc
