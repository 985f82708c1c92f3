-- A run that begins with recovered addresses: records that aren't supported, don't decode, are broken, and one that is whole.
use Rattle.std.proofs.Common.{◌≡◌, ℕ, zero, suc, ◌+◌, ◌<◌, ◌≤◌, ◌==◌, Bool, true, false, if◌then◌else◌, List, [], ◌∷◌, slice_index, None, ◌⊎◌, inl, inr, refl, arith, lit<}
use Rattle.std.proofs.lemmas.Bool.{eqb-true}
use Rattle.foyer_core_model.specs.Numbers.{put}
use Rattle.foyer_core_model.specs.Record.{Address}
use Rattle.foyer_format_layout.specs.BlockBytes.{Data, all_laid}
use Rattle.foyer_core_model.specs.State.{BlockSet, Clean, Evictable, no_stats, NoDestroy, State}
use Rattle.foyer_core_model.specs.Step.{Bytes, Young, LoadBegin, LoadEnd}
use Rattle.foyer_core_model.specs.Reply.{Parse, Unsupported, Refused, Miss, Read, Entry}
use Rattle.foyer_core_model.specs.Index.{without}
use Rattle.foyer_core_model.specs.Load.{accessed}
use Rattle.foyer_core_model.specs.Access.{Idle, CleanIdle}
use Rattle.foyer_core_model.specs.World.{World, WorldEvent, Applies, ReadBegins, ReadEnds, after, MayHappen}
use Rattle.foyer_core_model.specs.Opened.{slot_among, block_among, recovered, IsFound, idle, full_filling, IsOpened}
use Rattle.foyer_core_model.specs.SmallCore.{small, IsSmall, SmallSplits}
use Rattle.foyer_core_model.proofs.SmallRun.{load_at, counted}

abbrev pub found_at : ℕ → ℕ → Address
found_at sequence offset = record { block = 0; offset = offset; len = 3; sequence = sequence; filling = 0 }

abbrev pub found_bytes : ℕ → ℕ
found_bytes = all_laid (
    record { role = Data; offset = 4096; bytes = 1 ∷ 1 ∷ 100 ∷ [] } ∷ record { role = Data; offset = 4099; bytes = 2 ∷ 2 ∷ 101 ∷ [] }
    ∷ record { role = Data; offset = 4102; bytes = 9 ∷ 9 ∷ 9 ∷ [] } ∷ record { role = Data; offset = 4105; bytes = 4 ∷ 4 ∷ 8 ∷ [] } ∷ []) (λ _. 0)

abbrev pub all_found : List (ℕ × Address)
all_found = (1, found_at 1 4096) ∷ (2, found_at 2 4099) ∷ (3, found_at 3 4102) ∷ (4, found_at 4 4105) ∷ []

abbrev pub found_place : ℕ → BlockSet
found_place b = if b == 0 then Evictable else Clean

abbrev pub wr0 : World ℕ
wr0 = record {
  core = record {
    index = λ h. slot_among h all_found;
    next = 18446744073709551614;
    steps = 0;
    closed = false;
    flushers = λ _. idle small;
    place = found_place;
    clean = 1 ∷ [];
    waiting = [];
    filling = λ _. 0;
    stats = λ _. no_stats;
    reclaims = λ _. None;
    destroy = NoDestroy;
  };
  bytes = λ _. found_bytes;
  history = recovered small (λ _. found_bytes) all_found;
  kept = λ h. block_among h all_found;
  filled = λ _. full_filling small;
  begun_writes = [];
  committed = [];
  loads = λ _. None;
  issued = 0;
  scans = λ _. None;
  block_writes = λ _. Idle;
  clean_states = λ _. CleanIdle;
}

is_found : (s o : ℕ) → s < 5 → 4096 ≤ o → o + 3 ≤ 8192 → IsFound small wr0.core s (found_at s o)
is_found s o lt low high = record { hash = omega arith; filling = refl; sequence = omega arith; block = lit< tt; place = refl; behind = low; within = high }

places : (b : ℕ) → (found_place b ≡ Clean) ⊎ ((b < 2) × (found_place b ≡ Evictable))
places b = go (b == 0) refl
  where
    go : (t : Bool) → (b == 0) ≡ t → ((if t then Evictable else Clean) ≡ Clean) ⊎ ((b < 2) × ((if t then Evictable else Clean) ≡ Evictable))
    go true e = inr ((let zero : b ≡ 0 = eqb-true b 0 e in omega arith), refl)
    go false e = inl refl

pub opened_recovered : IsOpened small wr0
opened_recovered = record {
  found = all_found;
  all = (
    is_found 1 4096 (omega arith) (omega arith) (omega arith),
    ((λ e. absurd (omega arith)), ((λ e. absurd (omega arith)), ((λ e. absurd (omega arith)), tt))),
    (
      is_found 2 4099 (omega arith) (omega arith) (omega arith),
      ((λ e. absurd (omega arith)), ((λ e. absurd (omega arith)), tt)),
      (
        is_found 3 4102 (omega arith) (omega arith) (omega arith),
        ((λ e. absurd (omega arith)), tt),
        (is_found 4 4105 (omega arith) (omega arith) (omega arith), tt, tt),
      ),
    ),
  );
  index = λ h. refl;
  history = refl;
  kept = λ h. refl;
  place = places;
  clean = refl;
  first = lit< tt;
  last = omega arith;
  steps = refl;
  closed = refl;
  flushers = λ f. refl;
  waiting = refl;
  filling = λ b. refl;
  stats = λ b. refl;
  reclaims = λ b. refl;
  destroy = refl;
  filled = λ b. refl;
  begun_writes = refl;
  committed = refl;
  loads = λ n. refl;
  issued = refl;
  scans = λ b. refl;
  block_writes = λ f. refl;
  clean_states = λ b. refl;
}

abbrev nr0 : State ℕ
nr0 = record wr0.core { stats = accessed small wr0.core ((found_at 1 4096)).block }

abbrev pub er0 : WorldEvent ℕ
er0 = Applies (LoadBegin 1 false) (Read (record { hash = 1; address = (found_at 1 4096) })) (counted wr0.core nr0)

abbrev pub wr1 : World ℕ
wr1 = after small wr0 er0

pub mayr0 : MayHappen small SmallSplits IsSmall wr0 er0
mayr0 = (tt, (lit< tt, tt, (nr0, (refl, refl, refl, refl), refl)))

abbrev pub er1 : WorldEvent ℕ
er1 = ReadBegins 0

abbrev pub wr2 : World ℕ
wr2 = after small wr1 er1

pub mayr1 : MayHappen small SmallSplits IsSmall wr1 er1
mayr1 = tt

herer2 : (i : ℕ) → i < 3 → slice_index (1 ∷ 1 ∷ 100 ∷ []) i ≡ wr2.bytes 0 (4096 + i)
herer2 zero lt = refl
herer2 (suc zero) lt = refl
herer2 (suc (suc zero)) lt = refl
herer2 (suc (suc (suc i))) lt = absurd (omega arith)

abbrev pub er2 : WorldEvent ℕ
er2 = ReadEnds 0 (Bytes (1 ∷ 1 ∷ 100 ∷ []))

abbrev pub wr3 : World ℕ
wr3 = after small wr2 er2

pub mayr2 : MayHappen small SmallSplits IsSmall wr2 er2
mayr2 = (refl, λ i lt clear. herer2 i lt)

abbrev pub er3 : WorldEvent ℕ
er3 = Applies (LoadEnd (record { hash = 1; address = (found_at 1 4096) }) (Bytes (1 ∷ 1 ∷ 100 ∷ []))) (Refused Unsupported (LoadEnd (record { hash = 1; address = (found_at 1 4096) }) (Bytes (1 ∷ 1 ∷ 100 ∷ [])))) wr3.core

abbrev pub wr4 : World ℕ
wr4 = after small wr3 er3

pub mayr3 : MayHappen small SmallSplits IsSmall wr3 er3
mayr3 = ((0, load_at wr3.loads 0, refl, refl, refl), (refl, (lit< tt, ((lit< tt, refl), refl)), refl))

abbrev nr4 : State ℕ
nr4 = record wr4.core { stats = accessed small wr4.core ((found_at 2 4099)).block }

abbrev pub er4 : WorldEvent ℕ
er4 = Applies (LoadBegin 2 false) (Read (record { hash = 2; address = (found_at 2 4099) })) (counted wr4.core nr4)

abbrev pub wr5 : World ℕ
wr5 = after small wr4 er4

pub mayr4 : MayHappen small SmallSplits IsSmall wr4 er4
mayr4 = (tt, (lit< tt, tt, (nr4, (refl, refl, refl, refl), refl)))

abbrev pub er5 : WorldEvent ℕ
er5 = ReadBegins 1

abbrev pub wr6 : World ℕ
wr6 = after small wr5 er5

pub mayr5 : MayHappen small SmallSplits IsSmall wr5 er5
mayr5 = tt

herer6 : (i : ℕ) → i < 3 → slice_index (2 ∷ 2 ∷ 101 ∷ []) i ≡ wr6.bytes 0 (4099 + i)
herer6 zero lt = refl
herer6 (suc zero) lt = refl
herer6 (suc (suc zero)) lt = refl
herer6 (suc (suc (suc i))) lt = absurd (omega arith)

abbrev pub er6 : WorldEvent ℕ
er6 = ReadEnds 1 (Bytes (2 ∷ 2 ∷ 101 ∷ []))

abbrev pub wr7 : World ℕ
wr7 = after small wr6 er6

pub mayr6 : MayHappen small SmallSplits IsSmall wr6 er6
mayr6 = (refl, λ i lt clear. herer6 i lt)

abbrev pub er7 : WorldEvent ℕ
er7 = Applies (LoadEnd (record { hash = 2; address = (found_at 2 4099) }) (Bytes (2 ∷ 2 ∷ 101 ∷ []))) (Refused Parse (LoadEnd (record { hash = 2; address = (found_at 2 4099) }) (Bytes (2 ∷ 2 ∷ 101 ∷ [])))) wr7.core

abbrev pub wr8 : World ℕ
wr8 = after small wr7 er7

pub mayr7 : MayHappen small SmallSplits IsSmall wr7 er7
mayr7 = ((1, load_at wr7.loads 1, refl, refl, refl), (refl, (lit< tt, ((lit< tt, refl), refl)), refl))

abbrev nr8 : State ℕ
nr8 = record wr8.core { stats = accessed small wr8.core ((found_at 3 4102)).block }

abbrev pub er8 : WorldEvent ℕ
er8 = Applies (LoadBegin 3 false) (Read (record { hash = 3; address = (found_at 3 4102) })) (counted wr8.core nr8)

abbrev pub wr9 : World ℕ
wr9 = after small wr8 er8

pub mayr8 : MayHappen small SmallSplits IsSmall wr8 er8
mayr8 = (tt, (lit< tt, tt, (nr8, (refl, refl, refl, refl), refl)))

abbrev pub er9 : WorldEvent ℕ
er9 = ReadBegins 2

abbrev pub wr10 : World ℕ
wr10 = after small wr9 er9

pub mayr9 : MayHappen small SmallSplits IsSmall wr9 er9
mayr9 = tt

herer10 : (i : ℕ) → i < 3 → slice_index (9 ∷ 9 ∷ 9 ∷ []) i ≡ wr10.bytes 0 (4102 + i)
herer10 zero lt = refl
herer10 (suc zero) lt = refl
herer10 (suc (suc zero)) lt = refl
herer10 (suc (suc (suc i))) lt = absurd (omega arith)

abbrev pub er10 : WorldEvent ℕ
er10 = ReadEnds 2 (Bytes (9 ∷ 9 ∷ 9 ∷ []))

abbrev pub wr11 : World ℕ
wr11 = after small wr10 er10

pub mayr10 : MayHappen small SmallSplits IsSmall wr10 er10
mayr10 = (refl, λ i lt clear. herer10 i lt)

abbrev nr11 : State ℕ
nr11 = record wr11.core { index = put wr11.core.index 3 (without (found_at 3 4102) (wr11.core.index 3)) }

abbrev pub er11 : WorldEvent ℕ
er11 = Applies (LoadEnd (record { hash = 3; address = (found_at 3 4102) }) (Bytes (9 ∷ 9 ∷ 9 ∷ []))) (Miss) (counted wr11.core nr11)

abbrev pub wr12 : World ℕ
wr12 = after small wr11 er11

pub mayr11 : MayHappen small SmallSplits IsSmall wr11 er11
mayr11 = ((2, load_at wr11.loads 2, refl, refl, refl), (lit< tt, (lit< tt, refl), (nr11, refl, refl)))

abbrev nr12 : State ℕ
nr12 = wr12.core

abbrev pub er12 : WorldEvent ℕ
er12 = Applies (LoadBegin 3 false) (Miss) (counted wr12.core nr12)

abbrev pub wr13 : World ℕ
wr13 = after small wr12 er12

pub mayr12 : MayHappen small SmallSplits IsSmall wr12 er12
mayr12 = (tt, (lit< tt, tt, (nr12, refl, refl)))

abbrev nr13 : State ℕ
nr13 = record wr13.core { stats = accessed small wr13.core ((found_at 4 4105)).block }

abbrev pub er13 : WorldEvent ℕ
er13 = Applies (LoadBegin 4 false) (Read (record { hash = 4; address = (found_at 4 4105) })) (counted wr13.core nr13)

abbrev pub wr14 : World ℕ
wr14 = after small wr13 er13

pub mayr13 : MayHappen small SmallSplits IsSmall wr13 er13
mayr13 = (tt, (lit< tt, tt, (nr13, (refl, refl, refl, refl), refl)))

abbrev pub er14 : WorldEvent ℕ
er14 = ReadBegins 3

abbrev pub wr15 : World ℕ
wr15 = after small wr14 er14

pub mayr14 : MayHappen small SmallSplits IsSmall wr14 er14
mayr14 = tt

herer15 : (i : ℕ) → i < 3 → slice_index (4 ∷ 4 ∷ 8 ∷ []) i ≡ wr15.bytes 0 (4105 + i)
herer15 zero lt = refl
herer15 (suc zero) lt = refl
herer15 (suc (suc zero)) lt = refl
herer15 (suc (suc (suc i))) lt = absurd (omega arith)

abbrev pub er15 : WorldEvent ℕ
er15 = ReadEnds 3 (Bytes (4 ∷ 4 ∷ 8 ∷ []))

abbrev pub wr16 : World ℕ
wr16 = after small wr15 er15

pub mayr15 : MayHappen small SmallSplits IsSmall wr15 er15
mayr15 = (refl, λ i lt clear. herer15 i lt)

abbrev nr16 : State ℕ
nr16 = wr16.core

abbrev pub er16 : WorldEvent ℕ
er16 = Applies (LoadEnd (record { hash = 4; address = (found_at 4 4105) }) (Bytes (4 ∷ 4 ∷ 8 ∷ []))) (Entry 8 Young) (counted wr16.core nr16)

abbrev pub wr17 : World ℕ
wr17 = after small wr16 er16

pub mayr16 : MayHappen small SmallSplits IsSmall wr16 er16
mayr16 = ((3, load_at wr16.loads 3, refl, refl, refl), (lit< tt, (lit< tt, refl), (nr16, (refl, refl, refl), refl)))
