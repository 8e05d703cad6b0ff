-- Concrete items and the abstract items that they represent.
use Rattle.std.specs.Prelude.{◌≡◌, ℕ, List}

-- the abstract item is the view of a concrete item, which the bytes spell
pub record From {A B : Type 0} (view : B → A) (Concrete : B → List ℕ → Type 0) (x : A) (piece : List ℕ) : Type 0 where
  pub item : B
  pub is : view item ≡ x
  pub form : Concrete item piece

-- bytes spell an abstract item exactly if they spell a concrete item whose view it is
pub record Viewed {A B : Type 0} (view : B → A) (Abstract : A → List ℕ → Type 0) (Concrete : B → List ℕ → Type 0) : Type 0 where
  pub forth : (item : B) (piece : List ℕ) → Concrete item piece → Abstract (view item) piece
  pub back : (x : A) (piece : List ℕ) → Abstract x piece → From view Concrete x piece
