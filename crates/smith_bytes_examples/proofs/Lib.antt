pub mod PieceTestLemmas
