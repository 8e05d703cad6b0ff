-- A single change of a decoded module. Rules of this project.
use Rattle.std.specs.Prelude.{◌≡◌, ℕ, Option, MatchOption}
use Rattle.smith_decode.specs.declared.bodies.Body.{Body}
use Rattle.smith_decode.specs.declared.definitions.GlobalDefinition.{GlobalDefinition}
use Rattle.smith_decode.specs.declared.locations.Place.{Place}
use Rattle.smith_decode.specs.declared.locations.Place.TheVariants as place
use Rattle.smith_decode.specs.declared.modules.Module.{Module}
use Rattle.smith_wrong_module.specs.Splices.{DifferAt, AtMostOne, OneItem, AreSpliced}

-- two bodies differ only in the instruction at `index`
abbrev pub DifferInInstruction : ℕ → Body → Body → Type 0
DifferInInstruction index old new =
    DifferAt AtMostOne index old.instructions new.instructions × (new ≡ record old { instructions = new.instructions })

-- two bodies differ only in one run of locals
abbrev pub DifferInLocals : Body → Body → Type 0
DifferInLocals old new = AreSpliced old.locals new.locals × (new ≡ record old { locals = new.locals })

-- two globals differ only in one instruction of their initialisers
abbrev pub DifferInInitial : GlobalDefinition → GlobalDefinition → Type 0
DifferInInitial old new = AreSpliced old.initial new.initial × (new ≡ record old { initial = new.initial })

-- two modules differ only at a place
abbrev pub IsChangedAt : Place → Module → Module → Type 0
IsChangedAt (place.Types index) m n =
    DifferAt (OneItem AreSpliced) index m.types n.types × (n ≡ record m { types = n.types })
IsChangedAt (place.Imports index) m n = DifferAt AtMostOne index m.imports n.imports × (n ≡ record m { imports = n.imports })
IsChangedAt (place.Function index) m n =
    DifferAt AtMostOne index m.functions n.functions × (n ≡ record m { functions = n.functions })
IsChangedAt (place.Table index) m n = DifferAt AtMostOne index m.tables n.tables × (n ≡ record m { tables = n.tables })
IsChangedAt (place.Memory index) m n =
    DifferAt AtMostOne index m.memories n.memories × (n ≡ record m { memories = n.memories })
IsChangedAt (place.Tag index) m n = DifferAt AtMostOne index m.tags n.tags × (n ≡ record m { tags = n.tags })
IsChangedAt (place.Global index) m n = DifferAt AtMostOne index m.globals n.globals × (n ≡ record m { globals = n.globals })
IsChangedAt (place.GlobalInitial index) m n =
    DifferAt (OneItem DifferInInitial) index m.globals n.globals × (n ≡ record m { globals = n.globals })
IsChangedAt (place.Export index) m n = DifferAt AtMostOne index m.exports n.exports × (n ≡ record m { exports = n.exports })
IsChangedAt place.Start m n = n ≡ record m { start = n.start }
IsChangedAt (place.Element index) m n =
    DifferAt AtMostOne index m.elements n.elements × (n ≡ record m { elements = n.elements })
IsChangedAt place.DataCount m n = n ≡ record m { data_count = n.data_count }
IsChangedAt (place.Body index) m n =
    DifferAt (OneItem DifferInLocals) index m.bodies n.bodies × (n ≡ record m { bodies = n.bodies })
IsChangedAt (place.Instruction body index) m n =
    DifferAt (OneItem (DifferInInstruction index)) body m.bodies n.bodies × (n ≡ record m { bodies = n.bodies })
IsChangedAt (place.Data index) m n = DifferAt AtMostOne index m.datas n.datas × (n ≡ record m { datas = n.datas })

-- `n` is `m` if there is no place, and else differs from `m` only there
abbrev pub IsDrawn : Option Place → Module → Module → Type 0
IsDrawn found m n = MatchOption found (n ≡ m) (λ place. IsChangedAt place m n)
