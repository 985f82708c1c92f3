-- A flusher that has nothing.
use Rattle.std.specs.Prelude.{◌-◌, [], None}
use Rattle.foyer_format_buffer.specs.Position.{fresh_context}
use Rattle.foyer_core_blocks.specs.Sizes.{buffer_room, sizes_in}
use Rattle.foyer_core_blocks.specs.Settings.{Settings}
use Rattle.foyer_core_flusher.specs.Seen.{Seen}

-- in a core of these sizes
abbrev pub idle : {K V P A : Type 0} → Settings → Seen K V P A
idle settings =
    record {
      queue = [];
      filled = record { entries = []; room = buffer_room settings; greatest = settings.block_size - settings.blob_index_size };
      sources = [];
      marks = [];
      invalid = [];
      pieces = [];
      waits = [];
      context = fresh_context (sizes_in settings);
      own = None;
      batch = None;
    }
