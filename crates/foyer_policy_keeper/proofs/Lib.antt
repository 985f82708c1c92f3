pub mod PieceMaps
