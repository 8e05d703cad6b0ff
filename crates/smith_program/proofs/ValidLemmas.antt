-- Programs that are valid.
use Rattle.smith_program.proofs.Common.{All, All-append, All-cons, All-nil, All-weaker, AreTyped, arith, block, BodyContext, Code}
use Rattle.smith_program.proofs.Common.{false≢true, Features, get_or, HasInstrType, if_alone, if_else, Instr, IsTrue, length, List, loop}
use Rattle.smith_program.proofs.Common.{module_features, ModuleParts, nothing, Ok, refl, slice_get-get_or, Stacked, step, subst, sym}
use Rattle.smith_program.proofs.Common.{try_table, ValType, ℕ, ◌++◌, ◌<◌, ◌∷◌, ◌≡◌}
use Rattle.std.specs.Prelude.{Any}
use Rattle.std.proofs.lemmas.Bool.{and_parts}
use Rattle.smith_types.specs.Syntax.instruction_kind.InstructionKinds.{InstructionKinds}
use Rattle.smith_module_rules.specs.Module.{IsValid}
use Rattle.smith_instr.specs.AggregateTypes.{HasAggregateType}
use Rattle.smith_instr.specs.Enabled.{IsEnabled, has_features, is_enabled, is_kind_enabled, names_data}
use Rattle.smith_instr.specs.MemoryTypes.{HasMemoryType}
use Rattle.smith_instr.specs.ReferenceTypes.{HasReferenceType}
use Rattle.smith_instr.specs.declared.aggregate.AggregateInstr.{AggregateInstr}
use Rattle.smith_instr.specs.declared.aggregate.AggregateInstr.TheVariants as aggregate
use Rattle.smith_instr.specs.declared.instr.Instr.TheVariants as instr
use Rattle.smith_instr.specs.declared.memory.MemoryInstr.{MemoryInstr}
use Rattle.smith_instr.specs.declared.memory.MemoryInstr.TheVariants as memory
use Rattle.smith_instr.specs.declared.reference.ReferenceInstr.{ReferenceInstr}
use Rattle.smith_instr.specs.declared.reference.ReferenceInstr.TheVariants as reference
use Rattle.smith_body_nodes.specs.Scopes.{kinds_of_bodies}
use Rattle.wasm_smith.specs.FuelExport.{with_fuel_export}
use Rattle.wasm_smith.specs.Termination.{AddsCounter}
use Rattle.wasm_smith.proofs.CountingLemmas.{adds_valid}
use Rattle.wasm_smith.proofs.FuelExportLemmas.{exported_valid}
use Rattle.smith_program.specs.Bodies.{AreBodiesBy, AreBodiesOf, AreDrawnBodies, IsBodyAt, IsDrawnAt, IsOfBody}
use Rattle.smith_program.specs.References.{references_of}
use Rattle.smith_program.specs.Valid.{HaveAll, HasOne, IsDeclared, IsValidProgram}
use Rattle.smith_program.specs.declared.program.Body.{Body}
use Rattle.smith_program.specs.declared.program.Body.TheVariants as body
use Rattle.smith_program.proofs.DrawnBodiesLemmas.{code_there}
use Rattle.smith_program.proofs.GlobalExportLemmas.{exporting_bodies}
use Rattle.smith_program.proofs.TerminationLemmas.{counted_bodies, still_bodies}

-- an instruction names declared functions, and no data segment if there is none
abbrev Fits : List ℕ → ℕ → Instr → Type 0
Fits references datas instruction = IsDeclared references instruction × (IsTrue (names_data instruction) → 0 < datas)

fits_reference : (context : BodyContext) (op : ReferenceInstr) (operands results : List ValType)
    → HasReferenceType context op operands results → Fits context.references context.datas (instr.Reference op)
fits_reference context (reference.Func function) operands results (index, there, declared, to) =
    (declared, λ names. absurd (false≢true names))
fits_reference context _ operands results typed = (tt, λ names. absurd (false≢true names))

fits_memory : (context : BodyContext) (op : MemoryInstr) (operands results : List ValType) → HasMemoryType context op operands results
    → Fits context.references context.datas (instr.Memory op)
fits_memory context (memory.Init index segment) operands results (ty, there, within, to) = (tt, λ names. omega arith)
fits_memory context (memory.DataDrop segment) operands results (within, to) = (tt, λ names. omega arith)
fits_memory context _ operands results typed = (tt, λ names. absurd (false≢true names))

fits_aggregate : (context : BodyContext) (op : AggregateInstr) (operands results : List ValType)
    → HasAggregateType context op operands results → Fits context.references context.datas (instr.Aggregate op)
fits_aggregate context (aggregate.ArrayNewData ty segment) operands results (element, array, of, within, to) = (tt, λ names. omega arith)
fits_aggregate context (aggregate.ArrayInitData ty segment) operands results (element, array, mutable, of, within, to) =
    (tt, λ names. omega arith)
fits_aggregate context _ operands results typed = (tt, λ names. absurd (false≢true names))

fits_instr : (context : BodyContext) (set : List ℕ) (instruction : Instr) (operands results : List ValType)
    → HasInstrType context set instruction operands results → Fits context.references context.datas instruction
fits_instr context set (instr.Reference op) operands results typed = fits_reference context op operands results typed
fits_instr context set (instr.Memory op) operands results typed = fits_memory context op operands results typed
fits_instr context set (instr.Aggregate op) operands results typed = fits_aggregate context op operands results typed
fits_instr context set _ operands results typed = (tt, λ names. absurd (false≢true names))

-- the start of a block, its body, its end, and other instructions
fits_block : (references : List ℕ) (datas : ℕ) (first : Instr) (all body more : List Instr) → all ≡ first ∷ (body ++ instr.End ∷ more)
    → Fits references datas first → All (Fits references datas) body → All (Fits references datas) more
    → All (Fits references datas) all
fits_block references datas first all body more is fits inner rest =
    let P = Fits references datas in
    let ended : All P (instr.End ∷ more) = All-cons P instr.End more (tt, λ names. absurd (false≢true names)) rest in
    subst (All P) (sym is) (All-cons P first (body ++ instr.End ∷ more) fits (All-append P body (instr.End ∷ more) inner ended))

-- the instructions of a sequence
fits_typed : {context : BodyContext} {xs : List Instr} {before after : Stacked} → AreTyped context xs before after
    → All (Fits context.references context.datas) xs
fits_typed {context = context} (nothing others same) = All-nil (Fits context.references context.datas)
fits_typed {context = context} (step {instruction = instruction} {more = more} {before = before} s rest) =
    All-cons (Fits context.references context.datas) instruction more (fits_instr context before.set instruction s.operands s.results
    s.typed) (fits_typed rest)
fits_typed {context = context} (block {ty = ty} {all = all} {body = body} {more = more} is fits inner framed rest) =
    fits_block context.references context.datas (instr.Block ty) all body more is (tt, λ names. absurd (false≢true names))
    (fits_typed inner) (fits_typed rest)
fits_typed {context = context} (loop {ty = ty} {all = all} {body = body} {more = more} is fits inner framed rest) =
    fits_block context.references context.datas (instr.Loop ty) all body more is (tt, λ names. absurd (false≢true names)) (fits_typed inner)
    (fits_typed rest)
fits_typed {context = context} (if_alone {ty = ty} {all = all} {body = body} {more = more} is fits inner same framed rest) =
    fits_block context.references context.datas (instr.If ty) all body more is (tt, λ names. absurd (false≢true names)) (fits_typed inner)
    (fits_typed rest)
fits_typed {context = context} (if_else {ty = ty} {all = all} {body = body} {other = other} {more = more} is fits inner last framed rest) =
    let P = Fits context.references context.datas in
    let ended : All P (instr.End ∷ more) = All-cons P instr.End more (tt, λ names. absurd (false≢true names)) (fits_typed rest) in
    let second : All P (instr.Else ∷ (other ++ instr.End ∷ more)) =
    All-cons P instr.Else (other ++ instr.End ∷ more) (tt, λ names. absurd (false≢true names))
    (All-append P other (instr.End ∷ more) (fits_typed last) ended) in
    subst (All P) (sym is)
    (All-cons P (instr.If ty) (body ++ instr.Else ∷ (other ++ instr.End ∷ more)) (tt, λ names. absurd (false≢true names))
    (All-append P body (instr.Else ∷ (other ++ instr.End ∷ more)) (fits_typed inner) second))
fits_typed {context = context} (try_table {ty = ty} {clauses = clauses} {all = all} {body = body} {more = more} is fits caught inner framed
    rest) =
    fits_block context.references context.datas (instr.TryTable ty clauses) all body more is (tt, λ names. absurd (false≢true names))
    (fits_typed inner) (fits_typed rest)

-- a property of the instructions of a body, weakened, and one that also holds of one of them
have_weaker : (P Q : Instr → Type 0) → ((x : Instr) → P x → Q x) → (given : Body) → HaveAll P given → HaveAll Q given
have_weaker P Q weaker (body.Drawn instructions) h = All-weaker P Q weaker instructions h
have_weaker P Q weaker body.Raw h = tt

have_both : (P Q : Instr → Type 0) (given : Body) → HaveAll P given → HasOne Q given → (x : Instr) × P x × Q x
have_both P Q (body.Drawn instructions) h (k, x, within, is, holds) = (x, subst P is (h k x within), holds)
have_both P Q body.Raw h one = absurd one

bodies_both : (P Q : Instr → Type 0) (bodies : List Body) → All (HaveAll P) bodies → Any (HasOne Q) bodies → (x : Instr) × P x × Q x
bodies_both P Q bodies h (k, given, within, is, one) = have_both P Q given (subst (HaveAll P) is (h k given within)) one

-- the instructions of a body, and of all bodies, fit their module
body_fits : (m : ModuleParts) (place : ℕ) (code : Code) (given : Body) → IsOfBody (IsBodyAt m place code) code given
    → HaveAll (Fits (references_of m) (length m.datas)) given
body_fits m place code (body.Drawn instructions) (drawn, is) = fits_typed is.typed.typed
body_fits m place code body.Raw raw = tt

-- what holds of each body of a function holds of all bodies
each_body : (Is : ℕ → Code → List Instr → Type 0) (m : ModuleParts) (bodies : List Body) (Holds : Body → Type 0) → AreBodiesBy Is m bodies
    → ((place : ℕ) (code : Code) (given : Body) → IsOfBody (Is place code) code given → Holds given) → All Holds bodies
each_body Is m bodies Holds are holds = λ place d within.
    let given = get_or bodies place d in
    let (code, at) = code_there m.code place (omega (arith, are.each)) in
    holds place code given (are.in_place place code given at (slice_get-get_or bodies place d within))

-- an instruction that names a data segment needs bulk memory
bulk_needed : (features : Features) (instruction : Instr) → IsTrue (names_data instruction) → IsTrue (has_features features instruction)
    → IsTrue features.bulk_memory
bulk_needed features (instr.Memory (memory.Init index segment)) names enabled = enabled
bulk_needed features (instr.Memory (memory.DataDrop segment)) names enabled = enabled
bulk_needed features (instr.Aggregate (aggregate.ArrayNewData ty segment)) names enabled =
    (and_parts features.gc features.bulk_memory enabled).1
bulk_needed features (instr.Aggregate (aggregate.ArrayInitData ty segment)) names enabled =
    (and_parts features.gc features.bulk_memory enabled).1
bulk_needed features _ names enabled = absurd (false≢true names)

-- a valid module with typed bodies of enabled instructions
abbrev pub Enabled : ModuleParts → Instr → Type 0
Enabled m instruction = IsTrue (has_features (module_features m) instruction)

pub program_valid : (m : ModuleParts) (bodies : List Body) → IsValid m → AreBodiesOf m bodies → All (HaveAll (Enabled m)) bodies
    → IsValidProgram m bodies
program_valid m bodies valid typed enabled =
    let P = Fits (references_of m) (length m.datas) in
    let fits : All (HaveAll P) bodies = each_body (IsBodyAt m) m bodies (HaveAll P) typed (body_fits m) in
    record {
      valid = valid;
      typed = typed;
      counted = counted_bodies m bodies valid typed;
      enabled = enabled;
      declared = All-weaker (HaveAll P) (HaveAll (IsDeclared (references_of m)))
          (have_weaker P (IsDeclared (references_of m)) (λ x fit. fit.0)) bodies fits;
      data_count = λ named.
          let (x, on, names) = bodies_both (Enabled m) (λ (instruction : Instr). IsTrue (names_data instruction)) bodies enabled named in
          let (y, fit, also) = bodies_both P (λ (instruction : Instr). IsTrue (names_data instruction)) bodies fits named in
          record { bulk_memory = bulk_needed (module_features m) x names on; some = fit.1 also };
    }

-- a body that was drawn is typed, and its instructions are enabled
drawn_typed : (m : ModuleParts) (place : ℕ) (code : Code) (given : Body) → IsOfBody (IsDrawnAt m place code) code given
    → IsOfBody (IsBodyAt m place code) code given
drawn_typed m place code (body.Drawn instructions) (drawn, is) = (drawn, is.body)
drawn_typed m place code body.Raw raw = raw

on_enabled : (features : Features) (kinds : InstructionKinds) (instruction : Instr) → IsEnabled features kinds instruction
    → IsTrue (has_features features instruction)
unfolding is_enabled
on_enabled features kinds instruction enabled =
    (and_parts (has_features features instruction) (is_kind_enabled kinds instruction) enabled).0

drawn_enabled : (m : ModuleParts) (place : ℕ) (code : Code) (given : Body) → IsOfBody (IsDrawnAt m place code) code given
    → HaveAll (Enabled m) given
drawn_enabled m place code (body.Drawn instructions) (drawn, is) =
    All-weaker (IsEnabled (module_features m) (kinds_of_bodies m.config)) (Enabled m)
    (on_enabled (module_features m) (kinds_of_bodies m.config)) instructions is.enabled
drawn_enabled m place code body.Raw raw = tt

-- the bodies that are drawn for a valid module make a valid program
pub drawn_valid : (m : ModuleParts) (bodies : List Body) → IsValid m → AreDrawnBodies m bodies → IsValidProgram m bodies
drawn_valid m bodies valid drawn =
    program_valid m bodies valid
    (record {
      each = drawn.each;
      in_place = λ place code given at there. drawn_typed m place code given
          (drawn.in_place place code given at there);
    })
    (each_body (IsDrawnAt m) m bodies (HaveAll (Enabled m)) drawn (drawn_enabled m))

-- a valid program stays valid with a counter, which changes no feature
pub counted_valid : (fuel index : ℕ) (old new : ModuleParts) (bodies : List Body) → AddsCounter fuel index old new
    → IsValidProgram old bodies → IsValidProgram new bodies
counted_valid fuel index old new bodies adds program =
    program_valid new bodies (adds_valid fuel index old new adds program.valid) (still_bodies fuel index old new bodies adds program.typed)
    (subst (λ (m : ModuleParts). All (HaveAll (Enabled m)) bodies) (sym adds.added) program.enabled)

-- a valid program stays valid with the export of a global
pub exported_program_valid : (index : ℕ) (m : ModuleParts) (bodies : List Body) → index < length m.globals → IsValidProgram m bodies
    → IsValidProgram (with_fuel_export index m) bodies
exported_program_valid index m bodies within program =
    let new = with_fuel_export index m in
    program_valid new bodies (exported_valid index m new (Ok tt) refl within program.valid)
    (exporting_bodies index m new (Ok tt) bodies refl program.typed) program.enabled
