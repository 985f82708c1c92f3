-- What the small runs share: readings of a state, the empty core, and a block that begins with zeros.
use Rattle.std.proofs.Common.{◌≡◌, ℕ, zero, suc, ◌+◌, ◌<◌, false, List, [], ◌∷◌, length, slice_index, Option, Some, None, inl, inr, refl, sym, ap, ◌∙◌, arith, lit<}
use Rattle.foyer_core_model.specs.Record.{Address}
use Rattle.foyer_format_layout.specs.BlockBytes.{Data, Index, Write, laid}
use Rattle.foyer_core_model.specs.Position.{Position}
use Rattle.foyer_core_model.specs.State.{Writing, Batch, Clean, no_stats, NoDestroy, State}
use Rattle.foyer_core_model.specs.Rules.{first_position}
use Rattle.foyer_core_model.specs.Access.{Idle, CleanIdle, ReadIssued, Load, Scan}
use Rattle.foyer_core_model.specs.World.{World}
use Rattle.foyer_core_model.specs.Opened.{idle, full_filling, IsOpened}
use Rattle.foyer_core_model.specs.SmallCore.{small}
use Rattle.foyer_format_layout.proofs.BlockBytesLaws.{laid_beside}

-- what a fact is about, if it is there

abbrev pub empty : Position
empty = first_position small

abbrev pub first_address : Address
first_address = record { block = 0; offset = 4096; len = 3; sequence = 1; filling = 1 }

abbrev pub no_batch : Batch ℕ
no_batch = record { blocks = []; continues_own_block = false; writing = None; marks = []; invalidated = []; pieces = []; waits = []; logged = None }

abbrev pub batch_in : Option (Batch ℕ) → Batch ℕ
batch_in None = no_batch
batch_in (Some batch) = batch

abbrev pub no_writing : Writing ℕ
no_writing = record { block = 0; left = []; records = [] }

abbrev pub writing_at : Option (Writing ℕ) → Writing ℕ
writing_at None = no_writing
writing_at (Some w) = w

abbrev pub no_load : Load ℕ
no_load = record { ticket = record { hash = 7; address = first_address }; promise = None; read_state = ReadIssued; kept = None }

abbrev pub load_or : Option (Load ℕ) → Load ℕ
load_or None = no_load
load_or (Some l) = l

abbrev pub load_at : (ℕ → Option (Load ℕ)) → ℕ → Load ℕ
load_at loads n = load_or (loads n)

abbrev pub no_scan : Scan
no_scan = record { offset = 0; len = 0; read_state = ReadIssued }

abbrev pub scan_or : Option Scan → Scan
scan_or None = no_scan
scan_or (Some s) = s

abbrev pub scan_at : (ℕ → Option Scan) → ℕ → Scan
scan_at scans b = scan_or (scans b)

abbrev pub counted : State ℕ → State ℕ → State ℕ
counted old new = record new { steps = old.steps + 1 }

abbrev pub again_address : Address
again_address = record { block = 0; offset = 4096; len = 3; sequence = 1; filling = 2 }

-- the empty core that is opened over blocks of zeros

abbrev pub w0 : World ℕ
w0 = record {
  core = record {
    index = λ _. None;
    next = 1;
    steps = 0;
    closed = false;
    flushers = λ _. idle small;
    place = λ _. Clean;
    clean = 0 ∷ 1 ∷ [];
    waiting = [];
    filling = λ _. 0;
    stats = λ _. no_stats;
    reclaims = λ _. None;
    destroy = NoDestroy;
  };
  bytes = λ _ _. 0;
  history = [];
  kept = λ _. None;
  filled = λ _. full_filling small;
  begun_writes = [];
  committed = [];
  loads = λ _. None;
  issued = 0;
  scans = λ _. None;
  block_writes = λ _. Idle;
  clean_states = λ _. CleanIdle;
}

pub opened : IsOpened small w0
opened = record {
  found = [];
  all = tt;
  index = λ h. refl;
  history = refl;
  kept = λ h. refl;
  place = λ b. inl refl;
  clean = refl;
  first = lit< tt;
  last = omega arith;
  steps = refl;
  closed = refl;
  flushers = λ f. refl;
  waiting = refl;
  filling = λ b. refl;
  stats = λ b. refl;
  reclaims = λ b. refl;
  destroy = refl;
  filled = λ b. refl;
  begun_writes = refl;
  committed = refl;
  loads = λ n. refl;
  issued = refl;
  scans = λ b. refl;
  block_writes = λ f. refl;
  clean_states = λ b. refl;
}

-- what is stored where the first index may be: zeros

pub zeros : ℕ → List ℕ
zeros zero = []
zeros (suc n) = 0 ∷ zeros n

zeros_length : (n : ℕ) → length (zeros n) ≡ n
unfolding zeros
zeros_length zero = refl
zeros_length (suc n) = ap (λ k. suc k) (zeros_length n)

zeros_at : (n i : ℕ) → i < n → slice_index (zeros n) i ≡ 0
unfolding zeros
zeros_at zero i lt = absurd (omega arith)
zeros_at (suc n) zero lt = refl
zeros_at (suc n) (suc i) lt = zeros_at n i (omega arith)

pub index_bytes : List ℕ
index_bytes = zeros 4096

pub index_length : length index_bytes ≡ 4096
unfolding index_bytes
index_length = zeros_length 4096

index_zero : (i : ℕ) → i < 4096 → slice_index index_bytes i ≡ 0
unfolding index_bytes
index_zero i lt = zeros_at 4096 i lt

abbrev pub first_data : Write
first_data = record { role = Data; offset = 4096; bytes = 7 ∷ 1 ∷ 5 ∷ [] }

abbrev pub no_index : Write
no_index = record { role = Index; offset = 0; bytes = [] }

pub index_here : (i : ℕ) → i < length index_bytes → slice_index index_bytes i ≡ laid no_index (laid first_data (λ _. 0)) (0 + i)
index_here i lt =
    let low : i < 4096 = omega (arith, index_length) in
    index_zero i low
    ∙ sym (laid_beside no_index (laid first_data (λ _. 0)) (0 + i) (inr (omega arith)) ∙ laid_beside first_data (λ _. 0) (0 + i) (inl (omega arith)))
