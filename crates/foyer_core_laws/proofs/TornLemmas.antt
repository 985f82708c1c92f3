-- A run of a core with two flushers that is stopped with both inside writes.
use Rattle.std.proofs.Common.{◌≡◌, ℕ, ◌+◌, ◌-◌, ◌<◌, ◌≤◌, ◌^◌, ◌%◌, nat_lt, Bool, true, ◌&&◌, if◌then◌else◌, Some, None, List, [], ◌∷◌, ◌++◌, length, replicate, slice_index, refl, ap, ◌∙◌, arith}
use Rattle.std.proofs.lemmas.Bool.Decides.{nat_tests}
use Rattle.std.proofs.lemmas.List.{length-append, length-replicate, take_at, drop_all}
use Rattle.foyer_format_record.specs.Header.{header_bytes}
use Rattle.foyer_format_layout.specs.Page.{page_up}
use Rattle.foyer_format_record.specs.Record.{record_bytes, pair_of}
use Rattle.foyer_format_layout.proofs.PageLaws.{page_up-holds, page_up-least, even-page_up}
use Rattle.foyer_format_record.proofs.RecordBytes.{length-record_bytes}
use Rattle.foyer_core_model.specs.Record.{IndexEntry, Record, Address}
use Rattle.foyer_core_model.specs.Position.{Position}
use Rattle.foyer_core_model.specs.Rules.{Rules, first_position}
use Rattle.foyer_core_restart.proofs.SealLemmas.{IndexOf, index_for}
use Rattle.foyer_core_restart.specs.LayoutSplits.{with_records, IsPart}
use Rattle.foyer_core_restart.specs.LayoutSplits.LaidOut.{part}
use Rattle.foyer_core_restart.specs.LayoutSplits.Left.{done, block}
use Rattle.foyer_core_restart.specs.Opening.{Opened, Opens}
use Rattle.foyer_core_restart.specs.RecoverMode.TheVariants as recover_mode
use Rattle.foyer_core_restart.proofs.TornMachine.{Machine, Item, record_of, StandsAlone}
use Rattle.foyer_core_restart.proofs.TornStop.{found, reached_open}
use Rattle.foyer_core_restart.specs.Restart.{no_fault}
use Rattle.foyer_core_restart.specs.Torn.{IsTornStop, FindsNewer, Place, alone}
use Rattle.foyer_core_laws.specs.Content.{Content}
use Rattle.foyer_core_laws.specs.CoreRules.{rules_of, layout, has_record, encoded, IsEncoded, outcome_of, entries_at, page_up_above, holds_page}
use Rattle.foyer_core_laws.specs.ReachedTorn.{two_flushers, IsReachedTorn}
use Rattle.foyer_core_settings.specs.Sizes.{AreValid, sizes_in, buffer_room}
use Rattle.foyer_core_settings.specs.declared.settings.Settings.{Settings}
use Rattle.foyer_core_laws.proofs.FormatLemmas.{restart_lem}

-- a record begins with the length of its key, of which a small one has no first bytes
begins_low : (h s : ℕ) (key value zeros : List ℕ) → length key ≤ 4060
    → (slice_index (record_bytes h s key value ++ zeros) 0 ≡ 0) × (slice_index (record_bytes h s key value ++ zeros) 1 ≡ 0)
unfolding record_bytes header_bytes
begins_low h s key value zeros short = (omega arith, omega arith)

module _ (is_key is_value : List ℕ → Bool) (s : Settings) (sound : AreValid (two_flushers s)) (key value : List ℕ)
    (key_is : is_key key ≡ true) (value_is : is_value value ≡ true) (short : length key + length value ≤ 4060) where
  abbrev rules : Rules Content
  rules = rules_of is_key is_value (two_flushers s) sound

  abbrev machine : Machine Content
  machine = record {
    reclaimers = 1;
    room = λ f. buffer_room (two_flushers s);
    threshold = 4096;
    clean_threshold = s.clean_block_threshold;
    has_log = s.tombstone_log;
    encode = encoded;
    pair_of = λ b hash sequence. outcome_of (pair_of is_key is_value b hash sequence);
    entries_of = entries_at (two_flushers s);
    some = sound.some_flusher;
    above = page_up_above;
    whole = holds_page 4096 sound.some_index sound.whole_index;
    much = λ f. omega arith;
  }

  abbrev c : Content
  c = record { key = key; value = value; is_encodable = true }

  len : (h q : ℕ) → length (record_bytes h q key value) ≡ 36 + (length value + length key)
  len h q = length-record_bytes h q key value

  is_encoded : (h q : ℕ) → encoded h q c ≡ Some (record_bytes h q key value)
  is_encoded h q = ap (λ (t : Bool). if t then Some (record_bytes h q key value) else None) has
    where
      has : has_record c ≡ true
      has =
          let k : nat_lt (length key) (2 ^ 32) ≡ true = grind (arith, nat_tests) in
          let v : nat_lt (length value) (2 ^ 32) ≡ true = grind (arith, nat_tests) in
          ap (λ (t : Bool). t && nat_lt (length value) (2 ^ 32)) k ∙ v

  abbrev item : (h q : ℕ) → Item machine (IsEncoded is_key is_value) h q
  item h q = record {
    content = c;
    bytes = record_bytes h q key value;
    value = λ e. (key_is, value_is);
    encoded = is_encoded h q;
    some = (let l : length (record_bytes h q key value) ≡ 36 + (length value + length key) = len h q in omega arith);
    page = (let l : length (record_bytes h q key value) ≡ 36 + (length value + length key) = len h q in omega arith);
  }

  abbrev made : (h q : ℕ) → Record Content
  made h q = record_of (item h q)

  -- each takes a page
  one_page : (h q : ℕ) → page_up (length (record_bytes h q key value)) ≡ 4096
  one_page h q =
      let l : length (record_bytes h q key value) ≡ 36 + (length value + length key) = len h q in
      let low : length (record_bytes h q key value) ≤ page_up (length (record_bytes h q key value)) = page_up-holds (length (record_bytes h q key value)) in
      let high : page_up (length (record_bytes h q key value)) ≤ 4096 = page_up-least (length (record_bytes h q key value)) 4096 (omega arith) refl in
      let even : page_up (length (record_bytes h q key value)) % 4096 ≡ 0 = even-page_up (length (record_bytes h q key value)) in
      omega arith

  abbrev first : Position
  first = first_position rules

  abbrev content : (h q : ℕ) → List ℕ
  content h q = record_bytes h q key value ++ replicate (page_up (length (record_bytes h q key value)) - length (record_bytes h q key value)) 0

  content_len : (h q : ℕ) → length (content h q) ≡ page_up (length (record_bytes h q key value))
  content_len h q =
      let l : length (record_bytes h q key value) ≤ page_up (length (record_bytes h q key value)) = page_up-holds (length (record_bytes h q key value)) in
      omega (
        arith,
        length-append (record_bytes h q key value) (replicate (page_up (length (record_bytes h q key value)) - length (record_bytes h q key value)) 0),
        length-replicate {A = ℕ} (page_up (length (record_bytes h q key value)) - length (record_bytes h q key value)) 0,
      )

  abbrev entry : (h q : ℕ) → IndexEntry
  entry h q = record { hash = h; sequence = q; offset = 4096; len = length (record_bytes h q key value) }

  sealed : (h q : ℕ) → h < 2 ^ 64 → q < 2 ^ 64 → IndexOf 4096 (entry h q ∷ [])
  sealed h q low early = index_for 4096 (entry h q ∷ []) (omega arith) (omega arith) (omega arith)
      (record { hash = low; sequence = early; offset = omega arith; len = (let l : length (record_bytes h q key value) ≡ 36 + (length value + length key) = len h q in omega arith) }, tt)

  sealed1 : IndexOf 4096 (entry 2 1 ∷ [])
  sealed1 = sealed 2 1 (omega arith) (omega arith)

  sealed2 : IndexOf 4096 (entry 2 2 ∷ [])
  sealed2 = sealed 2 2 (omega arith) (omega arith)

  sealed3 : IndexOf 4096 (entry 3 3 ∷ [])
  sealed3 = sealed 3 3 (omega arith) (omega arith)

  abbrev place : (h q : ℕ) → IndexOf 4096 (entry h q ∷ []) → Place
  place h q index = record { blob = 0; at = 4096; offset = 4096; content = content h q; index = index.bytes; end = with_records first (made h q ∷ []) }

  is_part : (h q : ℕ) (index : IndexOf 4096 (entry h q ∷ []))
      → IsPart (sizes_in (two_flushers s)) first (made h q ∷ []) (record { blob = 0; at = 4096; content = content h q; index = index.bytes; records = (4096, made h q) ∷ [] })
  is_part h q index = record {
    some = omega arith;
    blob = refl;
    at = refl;
    content = (
      take_at (record_bytes h q key value) (replicate (page_up (length (record_bytes h q key value)) - length (record_bytes h q key value)) 0) (length (record_bytes h q key value)) refl,
      (let l : length (content h q) ≡ page_up (length (record_bytes h q key value)) = content_len h q in omega arith),
      drop_all (page_up (length (record_bytes h q key value))) (content h q) (let l : length (content h q) ≡ page_up (length (record_bytes h q key value)) = content_len h q in omega arith),
    );
    index = index.is;
    size = index.len;
    within = (let l : page_up (length (record_bytes h q key value)) ≡ 4096 = one_page h q in omega arith);
    records = refl;
  }

  abbrev p1 : Place
  p1 = place 2 1 sealed1

  abbrev p2 : Place
  p2 = place 2 2 sealed2

  abbrev p3 : Place
  p3 = place 3 3 sealed3

  split : layout (two_flushers s) first (made 2 1 ∷ made 2 2 ∷ []) (alone p1 (made 2 1) ∷ alone p2 (made 2 2) ∷ [])
  split = (
    omega arith,
    part {now = made 2 1 ∷ []} {rest = made 2 2 ∷ []} (is_part 2 1 sealed1)
        (block {first = alone p2 (made 2 2)} (omega arith) (let l : page_up (length (record_bytes 2 1 key value)) ≡ 4096 = one_page 2 1 in let m : page_up (length (record_bytes 2 2 key value)) ≡ 4096 = one_page 2 2 in omega arith)
        (part {now = made 2 2 ∷ []} {rest = []} (is_part 2 2 sealed2) (done (omega arith)))),
  )

  split_other : layout (two_flushers s) first (made 3 3 ∷ []) (alone p3 (made 3 3) ∷ [])
  split_other = (omega arith, part {now = made 3 3 ∷ []} {rest = []} (is_part 3 3 sealed3) (done (omega arith)))

  stands : (h q : ℕ) (index : IndexOf 4096 (entry h q ∷ [])) → StandsAlone 0 0 (place h q index)
  stands h q index =
      let low : (slice_index (content h q) 0 ≡ 0) × (slice_index (content h q) 1 ≡ 0) =
      begins_low h q key value (replicate (page_up (length (record_bytes h q key value)) - length (record_bytes h q key value)) 0) (omega arith) in
      record {
        blob = refl;
        at = refl;
        size = index.len;
        listed = record { hash = h; sequence = q; offset = 4096; len = length (record_bytes h q key value) };
        sealed = index.is;
        long = (let l : length (content h q) ≡ page_up (length (record_bytes h q key value)) = content_len h q in let m : page_up (length (record_bytes h q key value)) ≡ 4096 = one_page h q in omega arith);
        first = low.0;
        second = low.1;
      }

  abbrev address : Address
  address = record { block = 0; offset = 4096; len = length (record_bytes 2 1 key value); sequence = 1; filling = 1 }

  abbrev Is : Content → Type 0
  Is = IsEncoded is_key is_value

  abbrev opened : Opened
  opened = found machine (layout (two_flushers s)) Is (item 2 1) (item 2 2) (item 3 3) p1 p2 p3 0 0 0 0 0 0 (λ e. omega arith) (λ e. omega arith)
      (stands 2 1 sealed1) (stands 2 2 sealed2) (stands 3 3 sealed3) split split_other

  all : (stop : IsTornStop rules (layout (two_flushers s)) Is 2 address)
      × Opens (sizes_in (two_flushers s)) 3 stop.bytes recover_mode.Quiet no_fault [] opened × FindsNewer stop
  all = reached_open machine (layout (two_flushers s)) Is (item 2 1) (item 2 2) (item 3 3) p1 p2 p3 0 0 0 0 0 0 (λ e. omega arith) (λ e. omega arith)
      (stands 2 1 sealed1) (stands 2 2 sealed2) (stands 3 3 sealed3) split split_other sealed1.is sealed2.is refl _ refl

  pub reached_torn : IsReachedTorn rules (layout (two_flushers s)) Is
  reached_torn = record {
    hash = 2;
    address = address;
    stop = all.0;
    opened = opened;
    opens = all.1;
    again = refl;
    finds = λ mode o is opens. restart_lem is_key is_value (two_flushers s) sound (all.0).world (all.0).bytes mode o 2 address (all.0).run (all.0).stopped (all.0).strays is opens (all.0).indexed (all.0).apart;
    newer = all.2;
  }
