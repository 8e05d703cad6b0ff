-- Decoded modules in the abstract syntax: bytes spell one exactly if they spell a module that is decoded to it.
use Rattle.smith_decode.proofs.Common.{[], ap, arith, Instr, IsExportItem, IsImportGroup, IsList, IsNestedExpr, IsOptionalSection}
use Rattle.smith_decode.proofs.Common.{IsTagDefinition, Joined, length, length-append, List, map, refl, subst, sym, ValType, Viewed, ℕ, ◌<◌}
use Rattle.smith_decode.proofs.Common.{◌^◌, ◌∙◌, ◌∷◌, ◌≡◌}
use Rattle.std.proofs.lemmas.List.{length-replicate}
use Rattle.std.specs.Prelude.{replicate}
use Rattle.smith_types.specs.Imports.{flattened}
use Rattle.smith_binary_sections.specs.Codes.{IsRun, locals_of, IsLocals}
use Rattle.smith_binary_sections.specs.Entities.{IsTagType}
use Rattle.smith_binary_sections.specs.Exports.{IsExport}
use Rattle.smith_binary_sections.specs.Imports.{IsImports}
use Rattle.smith_binary_read.specs.Views.{From}
use Rattle.smith_binary_read.proofs.ViewLemmas.{list_viewed, sized_viewed}
use Rattle.smith_decode.specs.declared.bodies.Body.{Body}
use Rattle.smith_decode.specs.declared.bodies.LocalRun.{LocalRun}
use Rattle.smith_decode.specs.declared.data.DataMode.{DataMode}
use Rattle.smith_decode.specs.declared.data.DataMode.TheVariants.{Passive, Active}
use Rattle.smith_decode.specs.BodyReadings.{run_pair, IsLocalRun, total, IsRunContent, IsRunBody, body_view, local_run, body_of}
use Rattle.smith_decode.specs.Data.{Data, IsData, DataMode as AbstractMode}
use Rattle.smith_decode.specs.Data.DataMode.{passive, active}
use Rattle.smith_decode.specs.DataReadings.{segment, mode_view, segment_view, IsSegment}
use Rattle.smith_decode.specs.Definitions.{IsTable, IsGlobal}
use Rattle.smith_decode.specs.DefinitionReadings.{IsGlobalDefinition, IsTableDefinition}
use Rattle.smith_decode.specs.Modules.{IsFunctionBody, table_pair, tag_index, global_pair, export_triple}
use Rattle.smith_decode.proofs.CustomLemmas.{IsMore}

-- an item that is seen as itself
pub same_viewed : {A : Type 0} {P : A → List ℕ → Type 0} → Viewed (λ (x : A). x) P P
same_viewed = record { forth = λ item piece h. h; back = λ x piece h. record { item = x; is = refl; form = h } }

-- items of records, which are tuples in the abstract syntax
pub table_viewed : Viewed table_pair IsTable IsTableDefinition
table_viewed = record {
  forth = λ item piece h. h;
  back = λ x piece h. record { item = record { ty = x.0; initial = x.1 }; is = refl; form = h };
}

pub tag_viewed : Viewed tag_index IsTagType IsTagDefinition
tag_viewed = record { forth = λ item piece h. h; back = λ x piece h. record { item = record { 0 = x }; is = refl; form = h } }

pub global_viewed : Viewed global_pair IsGlobal IsGlobalDefinition
global_viewed = record {
  forth = λ item piece h. h;
  back = λ x piece h. record { item = record { ty = x.0; initial = x.1 }; is = refl; form = h };
}

pub export_viewed : Viewed export_triple IsExport IsExportItem
export_viewed = record {
  forth = λ item piece h. h;
  back = λ x piece h. record { item = record { name = x.0; kind = x.1; index = x.2 }; is = refl; form = h };
}

pub imports_viewed : Viewed flattened IsImports (IsList IsImportGroup)
imports_viewed = record {
  forth = λ item piece h. record { groups = item; grouped = refl; form = h };
  back = λ x piece h. record { item = h.groups; is = sym h.grouped; form = h.form };
}

-- data segments
decoded_mode : AbstractMode → DataMode
decoded_mode passive = Passive
decoded_mode (active memory offset) = Active memory offset

mode_again : (m : AbstractMode) → mode_view (decoded_mode m) ≡ m
unfolding decoded_mode
mode_again passive = refl
mode_again (active memory offset) = refl

data_again : (d : Data) → segment_view (segment (decoded_mode d.mode) d.bytes) ≡ d
data_again d = ap (λ (m : AbstractMode). record { bytes = d.bytes; mode = m }) (mode_again d.mode)

pub data_viewed : Viewed segment_view IsData IsSegment
data_viewed = record {
  forth = λ item piece h. h;
  back = λ x piece h. record {
    item = segment (decoded_mode x.mode) x.bytes;
    is = data_again x;
    form = subst (λ (d : Data). IsData d piece) (sym (data_again x)) h;
  };
}

-- bodies: runs are seen as locals
run_viewed : Viewed run_pair IsRun IsLocalRun
run_viewed = record {
  forth = λ item piece h. h;
  back = λ x piece h. record { item = local_run x.0 x.1; is = refl; form = h };
}

total_is : (runs : List LocalRun) → length (locals_of (map run_pair runs)) ≡ total runs
total_is [] = refl
total_is (run ∷ runs) =
    length-append (replicate run.count run.ty) (locals_of (map run_pair runs))
    ∙ omega (arith, length-replicate run.count run.ty, total_is runs)

runs_viewed : Viewed (map run_pair) (IsList IsRun) (IsList IsLocalRun)
runs_viewed = list_viewed run_viewed

content_forth : (body : Body) (content : List ℕ) → IsRunContent body content
    → Joined (IsLocals (body_view body).0) (IsNestedExpr body.instructions) content
content_forth body content h = record {
  first = h.1.first;
  second = h.1.second;
  is_first = record {
    runs = map run_pair body.locals;
    cut = refl;
    few = omega (arith, h.0, total_is body.locals);
    form = runs_viewed.forth body.locals h.1.first h.1.is_first;
  };
  is_second = h.1.is_second;
  whole = h.1.whole;
}

body_forth : (body : Body) (piece : List ℕ) → IsRunBody body piece → IsFunctionBody (body_view body) piece
body_forth body piece h = record { content = h.content; is_content = content_forth body h.content h.is_content; form = h.form }

body_back : (x : List ValType × List Instr) (piece : List ℕ) → IsFunctionBody x piece → From body_view IsRunBody x piece
body_back x piece h =
    let inner = h.is_content in
    let runs = runs_viewed.back inner.is_first.runs inner.first inner.is_first.form in
    let locals : locals_of (map run_pair runs.item) ≡ x.0 = ap locals_of runs.is ∙ sym inner.is_first.cut in
    let few : total runs.item < 2 ^ 32 = omega (arith, inner.is_first.few, total_is runs.item, ap length locals) in
    record {
      item = body_of runs.item x.1;
      is = ap (λ (types : List ValType). (types, x.1)) locals;
      form = record {
        content = h.content;
        is_content = (
          few,
          record {
            first = inner.first;
            second = inner.second;
            is_first = runs.form;
            is_second = inner.is_second;
            whole = inner.whole;
          },
        );
        form = h.form;
      };
    }

pub body_viewed : Viewed body_view IsFunctionBody IsRunBody
body_viewed = record { forth = body_forth; back = body_back }

-- sections that may be left out
optional_forth : {A B : Type 0} (id : ℕ) (none : B) (other : A) (view : B → A) (P : A → List ℕ → Type 0) (Q : B → List ℕ → Type 0)
    → view none ≡ other → Viewed view P Q → (item : B) (piece : List ℕ) → IsOptionalSection id (item ≡ none) (Q item) piece
    → IsOptionalSection id (view item ≡ other) (P (view item)) piece
optional_forth id none other view P Q nothing v item piece (IsOptionalSection.present h) = IsOptionalSection.present (record {
  first = h.first;
  second = h.second;
  is_first = h.is_first;
  is_second = (sized_viewed v).forth item h.second h.is_second;
  whole = h.whole;
})
optional_forth id none other view P Q nothing v item piece (IsOptionalSection.absent is empty) =
    IsOptionalSection.absent (ap view is ∙ nothing) empty

optional_back : {A B : Type 0} (id : ℕ) (none : B) (other : A) (view : B → A) (P : A → List ℕ → Type 0) (Q : B → List ℕ → Type 0)
    → view none ≡ other → Viewed view P Q → (x : A) (piece : List ℕ) → IsOptionalSection id (x ≡ other) (P x) piece
    → From view (λ (item : B). IsOptionalSection id (item ≡ none) (Q item)) x piece
optional_back id none other view P Q nothing v x piece (IsOptionalSection.present h) =
    let one = (sized_viewed v).back x h.second h.is_second in
    record {
      item = one.item;
      is = one.is;
      form = IsOptionalSection.present (record {
        first = h.first;
        second = h.second;
        is_first = h.is_first;
        is_second = one.form;
        whole = h.whole;
      });
    }
optional_back id none other view P Q nothing v x piece (IsOptionalSection.absent is empty) =
    record { item = none; is = nothing ∙ sym is; form = IsOptionalSection.absent refl empty }

-- the views of a section and of what is after it
abbrev pub both_views : {A B C D : Type 0} → (B → A) → (D → C) → B × D → A × C
both_views one two p = (one p.0, two p.1)

pub more_viewed : {A B C D : Type 0} {view : B → A} {after : D → C} {P : A → List ℕ → Type 0} {Q : B → List ℕ → Type 0}
    {More : C → List ℕ → Type 0} {Spells : D → List ℕ → Type 0} (id : ℕ) (none : B) (other : A) → view none ≡ other
    → Viewed view P Q → Viewed after More Spells → Viewed (both_views view after) (IsMore id other P More) (IsMore id none Q Spells)
more_viewed {C = C} {view = view} {after = after} {P = P} {Q = Q} id none other nothing v w = record {
  forth = λ item piece h. record {
    first = h.first;
    second = h.second;
    is_first = h.is_first;
    is_second = record {
      first = h.is_second.first;
      second = h.is_second.second;
      is_first = optional_forth id none other view P Q nothing v item.0 h.is_second.first h.is_second.is_first;
      is_second = w.forth item.1 h.is_second.second h.is_second.is_second;
      whole = h.is_second.whole;
    };
    whole = h.whole;
  };
  back = λ x piece h.
      let one = optional_back id none other view P Q nothing v x.0 h.is_second.first h.is_second.is_first in
      let two = w.back x.1 h.is_second.second h.is_second.is_second in
      record {
        item = (one.item, two.item);
        is = ap (λ (a : _). (a, after two.item)) one.is ∙ ap (λ (c : C). (x.0, c)) two.is;
        form = record {
          first = h.first;
          second = h.second;
          is_first = h.is_first;
          is_second = record {
            first = h.is_second.first;
            second = h.is_second.second;
            is_first = one.form;
            is_second = two.form;
            whole = h.is_second.whole;
          };
          whole = h.whole;
        };
      };
}
