-- Pieces of bytes: the sections Binary Format, Conventions, Values and Modules, of the WebAssembly
-- Core Specification 3.0.
use Rattle.std.specs.Prelude.{◌≡◌, ℕ, List, [], ◌∷◌, ◌++◌, length, IsUtf8}
use Rattle.smith_binary.specs.Spelling.{Spelling, IsUnsignedIn}
use Rattle.smith_binary.specs.Spelling.Spelling.{any, written}

-- the piece is these bytes (Binary Format, Conventions)
abbrev pub Is : List ℕ → List ℕ → Type 0
Is bytes piece = piece ≡ bytes

-- the piece is this byte (Binary Format, Conventions)
abbrev pub IsByte : ℕ → List ℕ → Type 0
IsByte byte piece = piece ≡ byte ∷ []

-- the piece is a first piece, then a second (Binary Format, Conventions)
pub record Joined (First Second : List ℕ → Type 0) (piece : List ℕ) : Type 0 where
  pub first : List ℕ
  pub second : List ℕ
  pub is_first : First first
  pub is_second : Second second
  pub whole : piece ≡ first ++ second

-- the piece is the items in order (Binary Format, Conventions)
unfoldable pub Each : {A : Type 0} → (A → List ℕ → Type 0) → List A → List ℕ → Type 0
Each Item [] piece = piece ≡ []
Each Item (x ∷ xs) piece = Joined (Item x) (Each Item xs) piece

-- a list: the number of its items, then the items, in a spelling (Binary Format, Conventions,
-- Lists)
abbrev pub IsListIn : {A : Type 0} → Spelling → (A → List ℕ → Type 0) → List A → List ℕ → Type 0
IsListIn spelling Item xs = Joined (IsUnsignedIn spelling 32 (length xs)) (Each Item xs)

-- a list in any spelling (Binary Format, Conventions, Lists)
abbrev pub IsList : {A : Type 0} → (A → List ℕ → Type 0) → List A → List ℕ → Type 0
IsList Item xs = IsListIn any Item xs

-- a name: its UTF-8 bytes as a list of bytes (Binary Format, Values, Names)
pub record IsNameIn (spelling : Spelling) (name piece : List ℕ) : Type 0 where
  pub text : IsUtf8 name
  pub form : IsListIn spelling IsByte name piece

-- a name in any spelling (Binary Format, Values, Names)
abbrev pub IsName : List ℕ → List ℕ → Type 0
IsName = IsNameIn any

-- the size of a content in bytes, then the content (Binary Format, Modules, Sections)
pub record IsSizedIn (spelling : Spelling) (Content : List ℕ → Type 0) (piece : List ℕ) : Type 0 where
  pub content : List ℕ
  pub is_content : Content content
  pub form : Joined (IsUnsignedIn spelling 32 (length content)) (Is content) piece

-- the size of a content and the content, in any spelling (Binary Format, Modules, Sections)
abbrev pub IsSized : (List ℕ → Type 0) → List ℕ → Type 0
IsSized = IsSizedIn any

-- a section: its identifier, its size and its content (Binary Format, Modules, Sections)
abbrev pub IsSectionIn : Spelling → ℕ → (List ℕ → Type 0) → List ℕ → Type 0
IsSectionIn spelling id Content = Joined (IsByte id) (IsSizedIn spelling Content)

-- a section in any spelling (Binary Format, Modules, Sections)
abbrev pub IsSection : ℕ → (List ℕ → Type 0) → List ℕ → Type 0
IsSection id Content = IsSectionIn any id Content

-- the bytes written so far, and the minimum number of bytes of an unsigned integer (own rule)
pub record Output : Type 0 where
  pub bytes : List ℕ
  pub least : ℕ

-- a piece that `Spells` accepts in any spelling and in the written spelling follows the old bytes
-- (own rule)
pub record Writes (Spells : Spelling → List ℕ → Type 0) (old new : Output) : Type 0 where
  pub piece : List ℕ
  pub spelled : Spells any piece
  pub kept : Spells (written old.least) piece
  pub whole : new.bytes ≡ old.bytes ++ piece
  pub same : new.least ≡ old.least
