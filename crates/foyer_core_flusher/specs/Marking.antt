-- What the mark of a delete makes invalid.
use Rattle.std.specs.Prelude.{List, [], ◌∷◌, Option, Some, None}
use Rattle.foyer_block_index.specs.declared.indexer.EntryAddress.{EntryAddress}
use Rattle.foyer_format_layout.specs.Page.{page_up}
use Rattle.foyer_core_model.specs.State.{Invalidated}

-- the bytes of an address, with its block and the filling
abbrev pub bytes_of : Option EntryAddress → List Invalidated
bytes_of None = []
bytes_of (Some a) = record { block = a.block; filling = a.filling; bytes = page_up a.len } ∷ []
