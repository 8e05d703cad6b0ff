-- Constant expressions and what holds them: they are spelled as expressions of any instructions are.
use Rattle.smith_decode.proofs.Common.{[], ap, Bool, false, first_memory, Instr, IsNestedExpr, Joined, List, map, named_memory, no_memory}
use Rattle.smith_decode.proofs.Common.{refl, Some, TableType, ℕ, ◌∙◌, ◌∷◌, ◌≡◌}
use Rattle.smith_types.specs.Syntax.const_instr.ConstInstr.{ConstInstr}
use Rattle.smith_types.specs.Syntax.const_instr.ConstInstr.TheVariants as constant
use Rattle.smith_types.specs.Syntax.entity_type.GlobalType.{GlobalType}
use Rattle.smith_binary_sections.specs.Data.{DataForm, Data as ConstData, IsInDataForm as IsInConstForm, IsData as IsConstData}
use Rattle.smith_binary_sections.specs.Definitions.{IsTable as IsConstTable, IsGlobal as IsConstGlobal}
use Rattle.smith_binary_sections.specs.Elements.{Form, Elem as ConstElem, IsElem as IsConstElem, IsInForm as IsInConstElemForm, func_ref}
use Rattle.smith_binary_sections.specs.Elements.{func_items as const_func_items, IsItems as AreConstItems}
use Rattle.smith_binary_sections.specs.Elements.Form.{first_funcs, passive_funcs, table_funcs, declared_funcs}
use Rattle.smith_binary_sections.specs.Elements.Form.{first_items, passive_items, table_items, declared_items}
use Rattle.smith_binary_sections.specs.Instructions.{IsInstr as IsConstInstr, IsExpression}
use Rattle.smith_binary_read.proofs.ViewLemmas.{each_forth, list_forth}
use Rattle.smith_instr.specs.declared.instr.Instr.TheVariants.{Reference}
use Rattle.smith_instr.specs.declared.reference.ReferenceInstr.TheVariants.{Func}
use Rattle.smith_binary_instr.specs.Instructions.{IsInstr}
use Rattle.smith_binary_instr.specs.Nesting.{blocks_after, AreNested}
use Rattle.smith_decode.specs.Constants.{as_instr, as_expr, as_table, as_global, as_elem, as_data_mode, as_data}
use Rattle.smith_decode.specs.Data.{IsInDataForm, IsData}
use Rattle.smith_decode.specs.Definitions.{IsTable, IsGlobal}
use Rattle.smith_decode.specs.Elements.{Mode, elem, func_items, IsItems, IsInForm, IsElem}

-- another first piece, or another second one
abbrev pub first_as : {P Q More : List ℕ → Type 0} {piece : List ℕ} → ((first : List ℕ) → P first → Q first) → Joined P More piece
    → Joined Q More piece
first_as up h = record { first = h.first; second = h.second; is_first = up h.first h.is_first; is_second = h.is_second; whole = h.whole }

second_as : {P Q More : List ℕ → Type 0} {piece : List ℕ} → ((second : List ℕ) → P second → Q second) → Joined More P piece
    → Joined More Q piece
second_as up h = record { first = h.first; second = h.second; is_first = h.is_first; is_second = up h.second h.is_second; whole = h.whole }

-- instructions
instr_as : (x : ConstInstr) (piece : List ℕ) → IsConstInstr x piece → IsInstr (as_instr x) piece
instr_as (constant.I32Const value) piece h = h
instr_as (constant.I64Const value) piece h = h
instr_as (constant.F32Const bits) piece h = h
instr_as (constant.F64Const bits) piece h = h
instr_as (constant.V128Const value) piece h = h
instr_as (constant.GlobalGet index) piece h = h
instr_as (constant.RefNull heap) piece h = h
instr_as (constant.RefFunc index) piece h = h
instr_as constant.I32Add piece h = h
instr_as constant.I32Sub piece h = h
instr_as constant.I32Mul piece h = h
instr_as constant.I64Add piece h = h
instr_as constant.I64Sub piece h = h
instr_as constant.I64Mul piece h = h
instr_as constant.RefI31 piece h = h
instr_as constant.RefI31Shared piece h = h
instr_as (constant.StructNew index) piece h = h
instr_as (constant.StructNewDefault index) piece h = h
instr_as (constant.ArrayNew index) piece h = h
instr_as (constant.ArrayNewDefault index) piece h = h
instr_as (constant.ArrayNewFixed index size) piece h = h
instr_as constant.AnyConvertExtern piece h = h
instr_as constant.ExternConvertAny piece h = h

-- none begins or ends a block
no_block : (x : ConstInstr) (blocks : List Bool) → blocks_after (as_instr x) blocks ≡ Some blocks
no_block (constant.I32Const value) blocks = refl
no_block (constant.I64Const value) blocks = refl
no_block (constant.F32Const bits) blocks = refl
no_block (constant.F64Const bits) blocks = refl
no_block (constant.V128Const value) blocks = refl
no_block (constant.GlobalGet index) blocks = refl
no_block (constant.RefNull heap) blocks = refl
no_block (constant.RefFunc index) blocks = refl
no_block constant.I32Add blocks = refl
no_block constant.I32Sub blocks = refl
no_block constant.I32Mul blocks = refl
no_block constant.I64Add blocks = refl
no_block constant.I64Sub blocks = refl
no_block constant.I64Mul blocks = refl
no_block constant.RefI31 blocks = refl
no_block constant.RefI31Shared blocks = refl
no_block (constant.StructNew index) blocks = refl
no_block (constant.StructNewDefault index) blocks = refl
no_block (constant.ArrayNew index) blocks = refl
no_block (constant.ArrayNewDefault index) blocks = refl
no_block (constant.ArrayNewFixed index size) blocks = refl
no_block constant.AnyConvertExtern blocks = refl
no_block constant.ExternConvertAny blocks = refl

nested_as : (e : List ConstInstr) → AreNested [] (as_expr e)
nested_as [] = refl
nested_as (x ∷ e) = ([], no_block x [], nested_as e)

expression_as : (e : List ConstInstr) (piece : List ℕ) → IsExpression e piece → IsNestedExpr (as_expr e) piece
expression_as e piece h =
    (nested_as e, first_as (λ first each. each_forth as_instr IsInstr IsConstInstr instr_as e first each) h)

-- tables and globals
pub table_as : (table : TableType × List ConstInstr) (piece : List ℕ) → IsConstTable table piece → IsTable (as_table table) piece
table_as table piece (IsConstTable.initialised h) =
    IsTable.initialised (second_as (λ second typed. second_as (expression_as table.1) typed) h)
table_as table piece (IsConstTable.null is h) = IsTable.null (ap as_expr is) h

pub global_as : (global : GlobalType × List ConstInstr) (piece : List ℕ) → IsConstGlobal global piece → IsGlobal (as_global global) piece
global_as global piece h = second_as (expression_as global.1) h

-- element segments
funcs_as : (funcs : List ℕ) → map as_expr (const_func_items funcs) ≡ func_items funcs
funcs_as [] = refl
funcs_as (index ∷ funcs) = ap (λ (items : List (List Instr)). (Reference (Func index) ∷ []) ∷ items) (funcs_as funcs)

of_funcs_as : (e : ConstElem) (funcs : List ℕ) (at : Mode) → as_elem e ≡ elem (func_ref false) (map as_expr (const_func_items funcs)) at
    → as_elem e ≡ elem (func_ref false) (func_items funcs) at
of_funcs_as e funcs at is = is ∙ ap (λ (items : List (List Instr)). elem (func_ref false) items at) (funcs_as funcs)

items_as : (items : List (List ConstInstr)) (piece : List ℕ) → AreConstItems items piece → IsItems (map as_expr items) piece
items_as items piece h = list_forth as_expr IsNestedExpr IsExpression expression_as items piece h

elem_form_as : (form : Form) (e : ConstElem) (piece : List ℕ) → IsInConstElemForm form e piece → IsInForm form (as_elem e) piece
elem_form_as first_funcs e piece h =
    (as_expr h.0, h.1, of_funcs_as e h.1 (Mode.active 0 (as_expr h.0)) (ap as_elem h.2), first_as (expression_as h.0) h.3)
elem_form_as passive_funcs e piece h = (h.0, of_funcs_as e h.0 Mode.passive (ap as_elem h.1), h.2)
elem_form_as table_funcs e piece h = (
  h.0,
  as_expr h.1,
  h.2,
  of_funcs_as e h.2 (Mode.active h.0 (as_expr h.1)) (ap as_elem h.3),
  second_as (λ second placed. first_as (expression_as h.1) placed) h.4,
)
elem_form_as declared_funcs e piece h = (h.0, of_funcs_as e h.0 Mode.declared (ap as_elem h.1), h.2)
elem_form_as first_items e piece h =
    (as_expr h.0, map as_expr h.1, ap as_elem h.2, second_as (items_as h.1) (first_as (expression_as h.0) h.3))
elem_form_as passive_items e piece h = (h.0, map as_expr h.1, ap as_elem h.2, second_as (items_as h.1) h.3)
elem_form_as table_items e piece h = (
  h.0,
  as_expr h.1,
  h.2,
  map as_expr h.3,
  ap as_elem h.4,
  second_as (λ second placed. second_as (λ rest typed. second_as (items_as h.3) typed) (first_as (expression_as h.1) placed)) h.5,
)
elem_form_as declared_items e piece h = (h.0, map as_expr h.1, ap as_elem h.2, second_as (items_as h.1) h.3)

pub elem_as : (e : ConstElem) (piece : List ℕ) → IsConstElem e piece → IsElem (as_elem e) piece
elem_as e piece h = record { form = h.form; spelled = second_as (elem_form_as h.form e) h.spelled }

-- data segments
data_form_as : (form : DataForm) (d : ConstData) (piece : List ℕ) → IsInConstForm form d piece → IsInDataForm form (as_data d) piece
data_form_as first_memory d piece h = (as_expr h.0, ap as_data_mode h.1, first_as (expression_as h.0) h.2)
data_form_as no_memory d piece h = (ap as_data_mode h.0, h.1)
data_form_as named_memory d piece h =
    (h.0, as_expr h.1, ap as_data_mode h.2, second_as (λ second placed. first_as (expression_as h.1) placed) h.3)

pub data_as : (d : ConstData) (piece : List ℕ) → IsConstData d piece → IsData (as_data d) piece
data_as d piece h = record { form = h.form; spelled = second_as (data_form_as h.form d) h.spelled }
