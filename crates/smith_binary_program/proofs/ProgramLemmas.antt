-- Bodies as they are written are those of a module with bytes of expressions.
use Rattle.smith_binary_program.proofs.Common.{[], ap, arith, Body, Bool, Code, Contents, contents_of, counted, Each, false, is_filled}
use Rattle.smith_binary_program.proofs.Common.{IsModuleAround, IsOptionalSection, IsSectionIf, IsUnsigned, Joined, length, List}
use Rattle.smith_binary_program.proofs.Common.{ModuleParts, refl, subst, suc, sym, true, zip, ℕ, ◌∙◌, ◌∷◌, ◌≡◌}
use Rattle.smith_binary.specs.Spelling.Spelling.{any}
use Rattle.smith_binary_sections.specs.Codes.{IsBody}
use Rattle.smith_binary_sections.specs.Data.{IsData}
use Rattle.smith_binary_sections.specs.Sections.{IsListSection}
use Rattle.smith_binary_sections.proofs.ListLemmas.{locals_spelled}
use Rattle.wasm_smith.specs.Bodies.{HasBodies}
use Rattle.smith_binary_module.proofs.LayoutLemmas.{functions_counted, not_filled}
use Rattle.smith_binary_instr.proofs.FormLemmas.{expr_is}
use Rattle.smith_program.specs.declared.program.Body.TheVariants as body
use Rattle.smith_binary_program.specs.Bodies.{AreBodiesOf, IsBodyOf, IsExpressionOf, IsExpressionWritten}
use Rattle.smith_binary_program.specs.Programs.{AreExpressionsOf, IsProgramBinary, with_expressions}

-- expressions of functions with their bodies, one for each function with a body
record Expressions (counters : List ℕ) (codes : List Code) (bodies : List Body) : Type 0 where
  pub bytes : List (List ℕ)
  pub each : AreExpressionsOf counters (zip codes bodies) bytes
  pub many : length (with_expressions codes bytes) ≡ length (zip codes bodies)

none_expressed : (counters : List ℕ) (bodies : List Body) → Expressions counters [] bodies
none_expressed counters bodies = record { bytes = []; each = tt; many = refl }

-- an expression as it is written is one of the grammar
expression_is : (counters : List ℕ) (code : Code) (given : Body) (piece : List ℕ) → IsExpressionWritten counters code given piece
    → IsExpressionOf counters code given piece
expression_is counters code (body.Drawn instructions) piece h = expr_is any (counted counters instructions) piece h
expression_is counters code body.Raw piece h = h

-- bodies of which the expressions are these
record AreRead (counters : List ℕ) (codes : List Code) (bodies : List Body) (piece : List ℕ) : Type 0 where
  pub expressions : Expressions counters codes bodies
  pub spelled : Each IsBody (with_expressions codes expressions.bytes) piece

each_read : (counters : List ℕ) (codes : List Code) (bodies : List Body) (piece : List ℕ)
    → Each (IsBodyOf counters) (zip codes bodies) piece → AreRead counters codes bodies piece
unfolding Each
each_read counters [] bodies piece h = record { expressions = none_expressed counters bodies; spelled = h }
each_read counters (code ∷ codes) [] piece h = record { expressions = record { bytes = []; each = tt; many = refl }; spelled = h }
each_read counters (code ∷ codes) (given ∷ bodies) piece h =
    let rest = each_read counters codes bodies h.second h.is_second in
    let content = h.is_first.is_content in
    record {
      expressions = record {
        bytes = content.second ∷ rest.expressions.bytes;
        each = (expression_is counters code given content.second content.is_second, rest.expressions.each);
        many = ap suc rest.expressions.many;
      };
      spelled = record {
        first = h.first;
        second = h.second;
        is_first = record {
          content = h.is_first.content;
          is_content = record {
            first = content.first;
            second = content.second;
            is_first = locals_spelled code.locals content.first
                content.is_first;
            is_second = refl;
            whole = content.whole;
          };
          form = h.is_first.form;
        };
        is_second = rest.spelled;
        whole = h.whole;
      };
    }

-- the code section of a program is that of a module with its expressions
code_read : (is_written : Bool) (counters : List ℕ) (codes : List Code) (bodies : List Body) → (is_written ≡ false → codes ≡ [])
    → (piece : List ℕ) → IsSectionIf is_written 10 (AreBodiesOf counters codes bodies) piece
    → (x : Expressions counters codes bodies) × IsListSection 10 IsBody (with_expressions codes x.bytes) piece
code_read true counters codes bodies nothing piece h =
    let list = h.is_second.is_content in
    let rest = each_read counters codes bodies list.second list.is_second in (
      rest.expressions,
      IsOptionalSection.present (record {
        first = h.first;
        second = h.second;
        is_first = h.is_first;
        is_second = record {
          content = h.is_second.content;
          is_content = record {
            first = list.first;
            second = list.second;
            is_first = subst (λ (n : ℕ). IsUnsigned 32 n list.first)
                (sym rest.expressions.many) list.is_first;
            is_second = rest.spelled;
            whole = list.whole;
          };
          form = h.is_second.form;
        };
        whole = h.whole;
      }),
    )
code_read false counters codes bodies nothing piece h =
    subst (λ (codes : List Code). (x : Expressions counters codes bodies) × IsListSection 10 IsBody (with_expressions codes x.bytes) piece)
    (sym (nothing refl))
    (none_expressed counters bodies, IsOptionalSection.absent refl h)

-- a piece, then another of some kind
after_some : {X : Type 0} {First Other : List ℕ → Type 0} {Second : X → List ℕ → Type 0}
    → ((piece : List ℕ) → Other piece → (x : X) × Second x piece) → (piece : List ℕ) → Joined First Other piece
    → (x : X) × Joined First (Second x) piece
after_some some piece h =
    let (x, is) = some h.second h.is_second in
    (x, record { first = h.first; second = h.second; is_first = h.is_first; is_second = is; whole = h.whole })

-- a module whose code section is one of some kind
around_some : {X : Type 0} (m : Contents) (Code : List ℕ → Type 0) (Some : X → List ℕ → Type 0)
    → ((piece : List ℕ) → Code piece → (x : X) × Some x piece) → (piece : List ℕ) → IsModuleAround m Code piece
    → (x : X) × IsModuleAround m (Some x) piece
around_some {X = X} m Code Some some piece h =
    let last : (p : List ℕ) → Joined Code (IsListSection 11 IsData m.datas) p → (x : X) × Joined (Some x) (IsListSection 11 IsData m.datas)
    p =
    λ p code. let (x, is) = some code.first code.is_first in
    (x, record { first = code.first; second = code.second; is_first = is; is_second = code.is_second; whole = code.whole }) in
    after_some (after_some
    (after_some (after_some
    (after_some (after_some (after_some (after_some (after_some (after_some (after_some (after_some last))))))))))) piece h

-- as many pairs as items, if there is a second item for each
zipped_count : {A B : Type 0} (xs : List A) (ys : List B) → length ys ≡ length xs → length (zip xs ys) ≡ length xs
zipped_count [] ys same = refl
zipped_count (x ∷ xs) [] same = absurd (omega (arith, same))
zipped_count (x ∷ xs) (y ∷ ys) same = ap suc (zipped_count xs ys (omega (arith, same)))

-- a module around the bodies of a program
pub program_is : (m : ModuleParts) (bodies : List Body) → HasBodies m.num_defined_funcs m.funcs m.code → length bodies ≡ length m.code
    → (piece : List ℕ) → IsModuleAround (contents_of m) (IsSectionIf (is_filled m.code) 10 (AreBodiesOf m.fuel_globals m.code bodies)) piece
    → IsProgramBinary m bodies piece
program_is m bodies each same piece h =
    let (x, is) = around_some (contents_of m) (IsSectionIf (is_filled m.code) 10 (AreBodiesOf m.fuel_globals m.code bodies))
    (λ (x : Expressions m.fuel_globals m.code bodies). IsListSection 10 IsBody (with_expressions m.code x.bytes))
    (code_read (is_filled m.code) m.fuel_globals m.code bodies (not_filled m.code)) piece h in
    record {
      expressions = x.bytes;
      each = x.each;
      spelled = record { each = functions_counted m each ∙ sym (x.many ∙ zipped_count m.code bodies same); form = is };
    }
