-- Sequences in which each `unreachable` is needed, one after another.
use Rattle.smith_body.proofs.Common.{[], append_assoc, AreValid, BodyContext, Config, Instr, List, refl, stacked, step, subst, sym, ValType}
use Rattle.smith_body.proofs.Common.{ℕ, ◌++◌, ◌∷◌, ◌≡◌}
use Rattle.smith_instr.specs.Sequences.{AreTyped, block, if_alone, if_else, loop, nothing, Stacked, try_table}
use Rattle.smith_instr.specs.declared.instr.Instr.TheVariants as instr
use Rattle.smith_instr.proofs.SequenceLemmas.{count_as_themselves}
use Rattle.smith_body.specs.Stops.{AreStopsNeeded, HaveNeededStops}

-- the end of a sequence
pub at_end : (config : Config) (context : BodyContext) (values : List ValType) (set : List ℕ) → AreValid context values
    → HaveNeededStops config context [] (stacked values set) (stacked values set)
unfolding AreStopsNeeded
at_end config context values set valid = record { typed = nothing (count_as_themselves context values valid) refl; needed = refl }

-- a block that begins a sequence begins it with more instructions after the sequence
after_block : (first : Instr) (all body more ys : List Instr) → all ≡ first ∷ (body ++ instr.End ∷ more)
    → all ++ ys ≡ first ∷ (body ++ instr.End ∷ (more ++ ys))
after_block first all body more ys is = rw (is, append_assoc) refl

after_else : (first : Instr) (all body other more ys : List Instr) → all ≡ first ∷ (body ++ instr.Else ∷ (other ++ instr.End ∷ more))
    → all ++ ys ≡ first ∷ (body ++ instr.Else ∷ (other ++ instr.End ∷ (more ++ ys)))
after_else first all body other more ys is = rw (is, append_assoc, append_assoc) refl

append : {config : Config} {context : BodyContext} {xs ys : List Instr} {a b c : Stacked} (first : AreTyped context xs a b)
    → AreStopsNeeded config first → HaveNeededStops config context ys b c → HaveNeededStops config context (xs ++ ys) a c
unfolding AreStopsNeeded
append {config = config} {context = context} {ys = ys} {a = a} {c = c} (nothing {after = after} counts same) here second =
    subst (λ (set : List ℕ). HaveNeededStops config context ys (stacked a.stack set) c) same
    (subst (λ (stack : List ValType). HaveNeededStops config context ys (stacked stack after.set) c) (sym here) second)
append (step s first) (needed, rest) second =
    let next = append first rest second in
    record { typed = step s next.typed; needed = (needed, next.needed) }
append {ys = ys} (block {ty = ty} {all = all} {body = body} {more = more} is fits inner framed first) (within, exact, rest) second =
    let next = append first rest second in
    record {
      typed = block (after_block (instr.Block ty) all body more ys is) fits inner framed next.typed;
      needed = (within, exact, next.needed);
    }
append {ys = ys} (loop {ty = ty} {all = all} {body = body} {more = more} is fits inner framed first) (within, exact, rest) second =
    let next = append first rest second in
    record {
      typed = loop (after_block (instr.Loop ty) all body more ys is) fits inner framed next.typed;
      needed = (within, exact, next.needed);
    }
append {ys = ys} (if_alone {ty = ty} {all = all} {body = body} {more = more} is fits inner counts framed first) (within, exact, rest)
    second =
    let next = append first rest second in
    record {
      typed = if_alone (after_block (instr.If ty) all body more ys is) fits inner counts framed next.typed;
      needed = (within, exact, next.needed);
    }
append {ys = ys} (if_else {ty = ty} {all = all} {body = body} {other = other} {more = more} is fits inner last framed first)
    (within, without, exact, rest) second =
    let next = append first rest second in
    record {
      typed = if_else (after_else (instr.If ty) all body other more ys is) fits inner last framed next.typed;
      needed = (within, without, exact, next.needed);
    }
append {ys = ys} (try_table {ty = ty} {clauses = clauses} {all = all} {body = body} {more = more} is fits caught inner framed first)
    (within, exact, rest) second =
    let next = append first rest second in
    record {
      typed = try_table (after_block (instr.TryTable ty clauses) all body more ys is) fits caught inner framed next.typed;
      needed = (within, exact, next.needed);
    }

-- one sequence after another
pub in_turn : {config : Config} {context : BodyContext} {xs ys : List Instr} {a b c : Stacked} → HaveNeededStops config context xs a b
    → HaveNeededStops config context ys b c → HaveNeededStops config context (xs ++ ys) a c
in_turn first second = append first.typed first.needed second
