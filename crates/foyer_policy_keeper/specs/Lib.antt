pub mod PieceMap
