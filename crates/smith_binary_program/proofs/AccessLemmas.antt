-- Typed bodies access memories of their module, and state value types in forms that are enabled.
use Rattle.smith_binary_program.proofs.Common.{[], All, All-nil, All-same, All-weaker, AreBodiesOf, arith, Body, BodyContext, Bool, Code}
use Rattle.smith_binary_program.proofs.Common.{HasInstrType, inl, inr, Instr, IsValid, length, List, MemoryType, module_features}
use Rattle.smith_binary_program.proofs.Common.{ModuleParts, refl, slice_get_within, ValType, ℕ, ◌<◌, ◌≡◌}
use Rattle.std.proofs.Common.{◌⊎◌}
use Rattle.smith_instr.specs.MemoryTypes.{HasAtomicType, IsAccess}
use Rattle.smith_instr.specs.declared.atomic.AtomicAccess.{AtomicAccess}
use Rattle.smith_instr.specs.declared.atomic.AtomicAccess.TheVariants as atomic
use Rattle.smith_instr.specs.declared.instr.Instr.TheVariants as instr
use Rattle.smith_instr.specs.declared.memory.MemArg.{MemArg}
use Rattle.smith_program.specs.Bodies.{AreBodiesBy, IsBodyAt, IsOfBody}
use Rattle.smith_program.specs.declared.program.Body.TheVariants as of_body
use Rattle.smith_binary_program.specs.Forms.{accessed, AreFormsEnabled, IsAccessEnabled, IsStatedEnabled, IsValFormEnabled, values_in}
use Rattle.smith_binary_program.proofs.ReferenceFormLemmas.{block_enabled, globals_enabled, held_enabled, instr_enabled}
use Rattle.smith_binary_program.proofs.ReferenceFormLemmas.{locals_enabled, tables_enabled, types_enabled}
use Rattle.smith_binary_program.proofs.SegmentFormLemmas.{datas_enabled, elems_enabled}
use Rattle.smith_binary_program.proofs.TypeFormLemmas.{groups_enabled}
use Rattle.smith_binary_program.proofs.WalkLemmas.{IsKept, typed_keep}

-- an instruction accesses the first memory, or one that is there
abbrev IsHeld : List MemoryType → Instr → Type 0
IsHeld memories x = (accessed x ≡ 0) ⊎ (accessed x < length memories)

-- so does an instruction of a typed body, and the value types that it states are in enabled forms
abbrev Keeps : BodyContext → Instr → Type 0
Keeps context x = IsHeld context.memories x × IsStatedEnabled context.features x

there : {wide : Bool} (memories : List MemoryType) (at : MemArg) → IsAccess memories at wide
    → (at.memory ≡ 0) ⊎ (at.memory < length memories)
there memories at access = inr (slice_get_within memories at.memory access.memory access.there)

atomic_held : (context : BodyContext) (op : AtomicAccess) (at : MemArg) (operands results : List ValType)
    → HasAtomicType context op at operands results → (at.memory ≡ 0) ⊎ (at.memory < length context.memories)
atomic_held context atomic.Notify at operands results h = there context.memories at h.1.0
atomic_held context atomic.Wait32 at operands results h = there context.memories at h.1.0
atomic_held context atomic.Wait64 at operands results h = there context.memories at h.1.0
atomic_held context (atomic.Load op) at operands results h = there context.memories at h.1.0
atomic_held context (atomic.Store op) at operands results h = there context.memories at h.1.0
atomic_held context (atomic.Update update op) at operands results h = there context.memories at h.1.0
atomic_held context (atomic.CompareExchange op) at operands results h = there context.memories at h.1.0

instr_held : (context : BodyContext) (set : List ℕ) (x : Instr) (operands results : List ValType)
    → HasInstrType context set x operands results → IsHeld context.memories x
instr_held context set (instr.Load op at) operands results h = there context.memories at h.1.0
instr_held context set (instr.Store op at) operands results h = there context.memories at h.1.0
instr_held context set (instr.VectorLoad op at) operands results h = there context.memories at h.1.0
instr_held context set (instr.VectorStore at) operands results h = there context.memories at h.1.0
instr_held context set (instr.VectorLoadLane log2_bytes at lane) operands results h = there context.memories at h.1.0
instr_held context set (instr.VectorStoreLane log2_bytes at lane) operands results h = there context.memories at h.1.0
instr_held context set (instr.Atomic op at) operands results h = atomic_held context op at operands results h
instr_held context set _ operands results h = inl refl

-- an instruction without a memory and value types, as `end`
keeps_none : (context : BodyContext) (x : Instr) → accessed x ≡ 0 → values_in x ≡ [] → Keeps context x
keeps_none context x first none =
    let IsEnabled = IsValFormEnabled context.features in
    (inl first, All-same IsEnabled (values_in x) [] none (All-nil IsEnabled))

kept : IsKept Keeps
kept = record {
  steps = λ context set x operands results h.
      (instr_held context set x operands results h, instr_enabled context set x operands results h);
  blocks = λ context ty params results fits.
      let is = block_enabled context ty params results fits in ((inl refl, is), (inl refl, is), (inl refl, is));
  tries = λ context ty clauses params results fits. (inl refl, block_enabled context ty params results fits);
  others = λ context. (keeps_none context instr.Else refl refl, keeps_none context instr.End refl refl);
  within = λ context taken x is. is;
}

-- a memory that is there and isn't the first requires several memories
access_enabled : (m : ModuleParts) → IsValid m → (x : Instr) → IsHeld m.memories x → IsAccessEnabled (module_features m) x
access_enabled m valid x (inl first) = λ named. absurd (named first)
access_enabled m valid x (inr inside) = λ named. valid.counts.several_memories (omega (arith, inside, named))

-- what each instruction of a module's bodies keeps
abbrev KeepsOf : ModuleParts → Instr → Type 0
KeepsOf m x = IsHeld m.memories x × IsStatedEnabled (module_features m) x

body_keeps : (m : ModuleParts) (P : Instr → Type 0) → ((x : Instr) → KeepsOf m x → P x) → (place : ℕ) (code : Code) (given : Body)
    → IsOfBody (IsBodyAt m place code) code given → IsOfBody (All P) code given
body_keeps m P follows place code of_body.Raw h = h
body_keeps m P follows place code (of_body.Drawn instructions) h =
    (h.0, All-weaker (KeepsOf m) P follows instructions (typed_keep kept h.1.typed.typed))

bodies_keep : (m : ModuleParts) (bodies : List Body) (P : Instr → Type 0) → ((x : Instr) → KeepsOf m x → P x) → AreBodiesOf m bodies
    → AreBodiesBy (λ (place : ℕ) (code : Code). All P) m bodies
bodies_keep m bodies P follows are = record {
  each = are.each;
  in_place = λ place code given at there. body_keeps m P follows place code given (are.in_place place code given at there);
}

pub forms_enabled : (m : ModuleParts) (bodies : List Body) → IsValid m → AreBodiesOf m bodies → AreFormsEnabled m bodies
forms_enabled m bodies valid are = record {
  groups = groups_enabled m valid;
  references = record {
    types = types_enabled m valid;
    tables = tables_enabled m valid;
    globals = globals_enabled m valid;
    elems = held_enabled m valid;
    locals = locals_enabled m valid;
    instructions = bodies_keep m bodies (IsStatedEnabled (module_features m)) (λ x h. h.1) are;
  };
  elems = elems_enabled m valid;
  datas = datas_enabled m valid;
  accesses = bodies_keep m bodies (IsAccessEnabled (module_features m)) (λ x h. access_enabled m valid x h.0) are;
}
