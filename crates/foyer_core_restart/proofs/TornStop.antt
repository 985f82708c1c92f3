-- What is stored when a torn run is stopped, and what an opening finds then.
use Rattle.std.proofs.Common.{◌≡◌, ℕ, ◌+◌, ◌<◌, ◌≤◌, nat_le, nat_lt, Bool, true, false, ◌||◌, if◌then◌else◌, ◌-◌, List, [], ◌∷◌, ◌++◌, length, slice_index, ◌⊎◌, inl, inr, refl, sym, ap, subst, ◌∙◌, arith}
use Rattle.std.proofs.lemmas.Bool.Decides.{nat_tests}
use Rattle.foyer_format_layout.specs.Page.{page_up}
use Rattle.foyer_format_layout.proofs.PageLaws.{page_up-least, page_up-holds}
use Rattle.foyer_core_model.specs.Numbers.{put}
use Rattle.foyer_core_model.specs.Record.{Record}
use Rattle.foyer_format_layout.specs.BlockBytes.{Data, Index, Write, laid, read}
use Rattle.foyer_core_model.specs.State.{Writing}
use Rattle.foyer_core_model.specs.Rules.{Rules, Splitting, first_position}
use Rattle.foyer_core_model.specs.Access.{is_in}
use Rattle.foyer_core_model.specs.World.{World, covers}
use Rattle.foyer_core_model.proofs.Basics.{put_at}
use Rattle.foyer_format_blob.specs.Blob.{IsSealed}
use Rattle.foyer_format_blob.specs.declared.blob.BlobEntryIndex.{BlobEntryIndex}
use Rattle.foyer_format_layout.specs.Position.{Sizes}
use Rattle.foyer_format_buffer.specs.Holding.{all_read}
use Rattle.foyer_format_buffer.specs.Listing.{IsIndex, kept}
use Rattle.foyer_format_buffer.specs.Listing.Chain.{ends, goes}
use Rattle.foyer_format_layout.proofs.BlockBytesLaws.{read_whole, read_part, read_same, laid_beside, laid_there}
use Rattle.foyer_block_recover.specs.Opening.{Keeps, Opened, Opens, winner, slot_of, all_stand, greatest, clean_from}
use Rattle.foyer_block_recover.specs.declared.block.recover.RecoverMode.TheVariants as recover_mode
use Rattle.foyer_core_restart.proofs.Witness.{first_only}
use Rattle.foyer_core_restart.specs.Entries.{In}
use Rattle.foyer_core_restart.specs.Restart.{IsStopped, HasNoStrays, IsFoundNewer, no_fault}
use Rattle.foyer_core_restart.proofs.TornMachine.{Machine, machine_of, Item, record_of, StandsAlone, full_of, unsealed, counts_one, which}
use Rattle.foyer_core_restart.proofs.TornRun as torn_run
use Rattle.foyer_core_restart.specs.Torn.{IsInside, IsTornStop, FindsNewer, Place, alone}

module _ {C : Type 0} (m : Machine C) (Splits : Splitting C) (is_value : C → Type 0) (i : Item m is_value 2 1) (j : Item m is_value 2 2) (k : Item m is_value 3 3)
    (p q r : Place) (x y : ℕ) (a b c d : ℕ) (x_new : x ≡ 255 → ⊥) (y_new : y ≡ 255 → ⊥)
    (first_is : StandsAlone a b p) (second_is : StandsAlone c d q) (third_is : StandsAlone x y r)
    (split : Splits (first_position (machine_of m)) (record_of i ∷ record_of j ∷ []) (alone p (record_of i) ∷ alone q (record_of j) ∷ []))
    (split_other : Splits (first_position (machine_of m)) (record_of k ∷ []) (alone r (record_of k) ∷ [])) where
  abbrev rules : Rules C
  rules = machine_of m

  abbrev newer : Record C
  newer = record_of j

  abbrev w : World C
  w = torn_run.w m is_value i j k p q r

  abbrev writing2 : Writing C
  writing2 = torn_run.writing2 m is_value i j k p q r

  abbrev writing3 : Writing C
  writing3 = torn_run.writing3 m is_value i j k p q r

  abbrev index_of : Place → List Write
  index_of = torn_run.index_of m is_value i j k p q r

  -- the bytes at the stop: one more of each write that is under way
  abbrev torn : ℕ → ℕ → ℕ
  torn = put (put w.bytes 1 (put (w.bytes 1) 8 0)) 2 (put (w.bytes 2) 4096 x)

  -- what stands at the stop

  abbrev data2 : Write
  data2 = record { role = Data; offset = q.blob + q.at; bytes = q.content }

  abbrev index2 : Write
  index2 = record { role = Index; offset = q.blob; bytes = q.index }

  abbrev data3 : Write
  data3 = record { role = Data; offset = r.blob + r.at; bytes = r.content }

  data_starts : laid data3 (λ o. 255) 4096 ≡ x
  data_starts =
      let low : r.blob ≡ 0 = third_is.blob in
      let at : r.at ≡ 4096 = third_is.at in
      let e : 4096 ≡ r.blob + r.at + 0 = omega arith in
      let long : 2 ≤ length r.content = third_is.long in
      ap (laid data3 (λ o. 255)) e ∙ laid_there data3 (λ o. 255) 0 (omega arith) ∙ third_is.first

  data_goes_on : laid data3 (λ o. 255) 4097 ≡ y
  data_goes_on =
      let low : r.blob ≡ 0 = third_is.blob in
      let at : r.at ≡ 4096 = third_is.at in
      let e : 4097 ≡ r.blob + r.at + 1 = omega arith in
      let long : 2 ≤ length r.content = third_is.long in
      ap (laid data3 (λ o. 255)) e ∙ laid_there data3 (λ o. 255) 1 (omega arith) ∙ third_is.second

  before_data : (o : ℕ) → o < 4096 → laid data2 (λ u. 255) o ≡ 255
  before_data o l =
      let low : q.blob ≡ 0 = second_is.blob in
      let at : q.at ≡ 4096 = second_is.at in
      laid_beside data2 (λ u. 255) o (inl (omega arith))

  index_laid : (o : ℕ) → o < 4096 → laid index2 (laid data2 (λ u. 255)) o ≡ slice_index q.index o
  index_laid o l =
      let low : q.blob ≡ 0 = second_is.blob in
      let size : length q.index ≡ 4096 = second_is.size in
      let e : o ≡ q.blob + o = omega arith in
      ap (laid index2 (laid data2 (λ u. 255))) e ∙ laid_there index2 (laid data2 (λ u. 255)) o (omega arith)

  data_inside : (B : ℕ → ℕ → ℕ) → B 2 ≡ put (λ o. 255) 4096 x → IsInside w B 1 2 Data
  data_inside B is = record {
    writing = writing3;
    is_writing = (_, refl, refl);
    there = refl;
    results = _;
    write = data3;
    rest = _;
    under_way = refl;
    is = refl;
    came = (4096, ap (λ (g : ℕ → ℕ). g 4096) is ∙ sym data_starts, λ e. x_new (sym (ap (λ (g : ℕ → ℕ). g 4096) is) ∙ e));
    missing = (4097, ap (λ (g : ℕ → ℕ). g 4097) is, λ e. y_new (sym (sym (ap (λ (g : ℕ → ℕ). g 4097) is) ∙ e ∙ data_goes_on)));
  }

  index_inside : IsInside w torn 0 1 Index
  index_inside = record {
    writing = record writing2 { left = index_of q };
    is_writing = (_, refl, refl);
    there = refl;
    results = _;
    write = index2;
    rest = _;
    under_way = refl;
    is = refl;
    came = (8, sym (index_laid 8 (omega arith) ∙ zeros.0), λ e. let f : 0 ≡ 255 = e ∙ before_data 8 (omega arith) in omega arith);
    missing = (9, refl, λ e. let f : 255 ≡ 0 = sym (before_data 9 (omega arith)) ∙ e ∙ index_laid 9 (omega arith) ∙ zeros.1 in omega arith);
  }
    where
      zeros : (slice_index q.index 8 ≡ 0) × (slice_index q.index 9 ≡ 0)
      zeros = counts_one q.index second_is.listed second_is.sealed

  data_under_way : covers rules w 2 4096 ≡ true
  data_under_way =
      let low : r.blob ≡ 0 = third_is.blob in
      let at : r.at ≡ 4096 = third_is.at in
      let long : 2 ≤ length r.content = third_is.long in
      let from : nat_le (r.blob + r.at) 4096 ≡ true = grind (arith, nat_tests) in
      let to : nat_lt 4096 (r.blob + r.at + length r.content) ≡ true = grind (arith, nat_tests) in
      rw (from, to) refl

  index_under_way : covers rules w 1 8 ≡ true
  index_under_way =
      let low : q.blob ≡ 0 = second_is.blob in
      let size : length q.index ≡ 4096 = second_is.size in
      let from : nat_le q.blob 8 ≡ true = grind (arith, nat_tests) in
      let to : nat_lt 8 (q.blob + length q.index) ≡ true = grind (arith, nat_tests) in
      rw (from, to) refl

  -- bytes of the stop: those of block 1 as its index left them so far, and one more of the data of block 2
  abbrev with_index : (ℕ → ℕ) → ℕ → ℕ → ℕ
  with_index g = put (put w.bytes 1 g) 2 (put (w.bytes 2) 4096 x)

  stopped_with : (g : ℕ → ℕ) → ((o : ℕ) → covers rules w 1 o ≡ false → g o ≡ w.bytes 1 o) → IsStopped rules w (with_index g)
  stopped_with g left b o free = put_at (λ (h : ℕ → ℕ). h o ≡ w.bytes b o) (put w.bytes 1 g) 2 (put (w.bytes 2) 4096 x) b
      (λ is. let there : covers rules w 2 o ≡ false = subst (λ u. covers rules w u o ≡ false) is free in
      subst (λ u. put (w.bytes 2) 4096 x o ≡ w.bytes u o) (sym is) (put_at (λ u. u ≡ w.bytes 2 o) (w.bytes 2) 4096 x o
      (λ at. let t : true ≡ false = sym data_under_way ∙ subst (λ u. covers rules w 2 u ≡ false) at there in absurd cc) (λ _. refl)))
      (λ _. put_at (λ (h : ℕ → ℕ). h o ≡ w.bytes b o) w.bytes 1 g b
      (λ is. subst (λ u. g o ≡ w.bytes u o) (sym is) (left o (subst (λ u. covers rules w u o ≡ false) is free)))
      (λ _. refl))

  stopped : IsStopped rules w torn
  stopped = stopped_with (put (w.bytes 1) 8 0) (λ o there. put_at (λ u. u ≡ w.bytes 1 o) (w.bytes 1) 8 0 o
      (λ at. let t : true ≡ false = sym index_under_way ∙ subst (λ u. covers rules w 1 u ≡ false) at there in absurd cc) (λ _. refl))

  index_there : p.index ≡ read (torn 0) 0 4096
  index_there = subst (λ u. p.index ≡ read (torn 0) u 4096) first_is.blob (subst (λ n. p.index ≡ read (torn 0) p.blob n) first_is.size
      (sym (read_whole (record { role = Index; offset = p.blob; bytes = p.index }) (laid (record { role = Data; offset = p.blob + p.at; bytes = p.content }) (λ u. 255)))))

  -- what passes as an index is one that was written, if that is so in block 1
  strays_with : (g : ℕ → ℕ) → ((es : List BlobEntryIndex) → IsSealed (read g 0 4096) es → q.index ≡ read g 0 4096) → HasNoStrays rules w (with_index g)
  strays_with g known b o es lt scan is = go (which b lt)
    where
      at_first : o ≡ 0
      at_first = first_only (with_index g b) o es scan is.room

      there : IsSealed (read (with_index g b) 0 4096) es
      there = subst (λ u. IsSealed (read (with_index g b) u 4096) es) at_first is.sealed

      go : (b ≡ 0) ⊎ (b ≡ 1) ⊎ (b ≡ 2)
          → (v : Write) × In (b, v) w.begun_writes × (v.role ≡ Index) × (v.offset ≡ o) × (v.bytes ≡ read (with_index g b) o 4096)
      go (inl e) = (
        record { role = Index; offset = p.blob; bytes = p.index },
        inr (inr (inr (inl (λ t. (e t, record { role = Index; offset = p.blob; bytes = p.index }))))),
        refl,
        first_is.blob ∙ sym at_first,
        subst (λ u. p.index ≡ read (with_index g u) o 4096) (sym e) (subst (λ u. p.index ≡ read (with_index g 0) u 4096) (sym at_first) index_there),
      )
      go (inr (inl e)) = (
        index2,
        inl (λ t. (e t, index2)),
        refl,
        second_is.blob ∙ sym at_first,
        subst (λ u. q.index ≡ read (with_index g u) o 4096) (sym e)
            (subst (λ u. q.index ≡ read g u 4096) (sym at_first) (known es (subst (λ u. IsSealed (read (with_index g u) 0 4096) es) e there))),
      )
      go (inr (inr e)) = absurd (unsealed (with_index g 2) 4096 es refl refl (subst (λ u. IsSealed (read (with_index g u) 0 4096) es) e there))

  strays : HasNoStrays rules w torn
  strays = strays_with (put (w.bytes 1) 8 0) (λ es is. absurd (unsealed (put (w.bytes 1) 8 0) 4096 es refl (before_data 9 (omega arith)) is))

  abbrev stop : IsTornStop rules Splits is_value 2 (record { block = 0; offset = p.offset; len = length i.bytes; sequence = 1; filling = 1 })
  stop = record {
    world = w;
    bytes = torn;
    run = torn_run.run m is_value i j k p q r Splits (full_of a b p first_is) (full_of c d q second_is) (full_of x y r third_is) split split_other;
    indexed = refl;
    apart = torn_run.apart m is_value i j k p q r;
    in_data = data_inside torn refl;
    in_index = index_inside;
    stopped = stopped;
    strays = strays;
  }

  pub reached : IsTornStop rules Splits is_value 2 (record { block = 0; offset = p.offset; len = length i.bytes; sequence = 1; filling = 1 })
  reached = stop

  -- the same stop, if the index of block 1 has come whole though its write hasn't ended

  abbrev whole : ℕ → ℕ → ℕ
  whole = with_index (laid index2 (w.bytes 1))

  whole_stopped : IsStopped rules w whole
  whole_stopped = stopped_with (laid index2 (w.bytes 1)) (λ o free. ap (λ (t : Bool). if t then slice_index q.index (o - q.blob) else w.bytes 1 o) (beside (is_in index2 o) free))
    where
      beside : (t : Bool) → ((t || false) || false) ≡ false → t ≡ false
      beside true e = e
      beside false e = refl

  second_there : q.index ≡ read (whole 1) 0 4096
  second_there = subst (λ u. q.index ≡ read (whole 1) u 4096) second_is.blob (subst (λ n. q.index ≡ read (whole 1) q.blob n) second_is.size
      (sym (read_whole (record { role = Index; offset = q.blob; bytes = q.index }) (laid (record { role = Data; offset = q.blob + q.at; bytes = q.content }) (λ u. 255)))))

  whole_strays : HasNoStrays rules w whole
  whole_strays = strays_with (laid index2 (w.bytes 1)) (λ es is. second_there)

  -- what is opened

  abbrev sizes : Sizes
  sizes = record { block = 8192; index = 4096 }

  abbrev one_entry : (h s n : ℕ) → BlobEntryIndex
  one_entry h s n = record { hash = h; sequence = s; offset = 4096; len = n }

  abbrev entry : BlobEntryIndex
  entry = one_entry 2 1 (length i.bytes)

  abbrev entry_newer : BlobEntryIndex
  entry_newer = one_entry 2 2 (length j.bytes)

  abbrev opened_of : (ℕ → List BlobEntryIndex) → Opened
  opened_of keeps = record { index = λ h. slot_of (winner h (all_stand 0 3 keeps ++ [])); next = greatest (all_stand 0 3 keeps ++ []) + 1; clean = clean_from 0 3 keeps }

  abbrev keeps : ℕ → List BlobEntryIndex
  keeps = put (λ b. []) 0 (entry ∷ [])

  abbrev keeps_newer : ℕ → List BlobEntryIndex
  keeps_newer = put keeps 1 (entry_newer ∷ [])

  abbrev pub found : Opened
  found = opened_of keeps

  nothing_in : (B : ℕ → ℕ) → B 9 ≡ 255 → Keeps sizes recover_mode.Quiet B all_read []
  nothing_in B there = ([], record { end = 0; chain = ends (λ es is. unsealed B 4096 es refl there is.sealed) }, refl)

  one_in : (B : ℕ → ℕ) (h s n : ℕ) → 0 < n → n ≤ 4096 → one_entry h s n ∷ [] ≡ kept (one_entry h s n ∷ []) → IsSealed (read B 0 4096) (one_entry h s n ∷ [])
      → Keeps sizes recover_mode.Quiet B all_read (one_entry h s n ∷ [])
  one_in B h s n some small all sealed = (one_entry h s n ∷ [], record { end = 0 + 4096 + page_up n; chain = goes there (ends (λ es is. past is.room)) }, all)
    where
      past : 0 + 4096 + page_up n + 4096 ≤ 8192 → ⊥
      past l = let m : n ≤ page_up n = page_up-holds n in omega arith

      there : IsIndex sizes B all_read 0 (one_entry h s n ∷ [])
      there = record {
        room = omega arith;
        came = refl;
        sealed = sealed;
        fits = (record { some = some; behind = omega arith; aligned = refl; within = (let l : page_up n ≤ 4096 = page_up-least n 4096 small refl in omega arith) }, tt);
      }

  module _ (sealed : IsSealed p.index (entry ∷ [])) where
    first_in : Keeps sizes recover_mode.Quiet (torn 0) all_read (entry ∷ [])
    first_in = one_in (torn 0) 2 1 (length i.bytes) i.some i.page refl (subst (λ l. IsSealed l (entry ∷ [])) index_there sealed)

    opens : Opens sizes 3 torn recover_mode.Quiet no_fault [] found
    opens = record {
      keeps = keeps;
      kept = λ b lt. elim (which b lt) [
        | inl e ↦ subst (λ u. Keeps sizes recover_mode.Quiet (torn u) (no_fault u) (keeps u)) (sym e) first_in
        | inr (inl e) ↦ subst (λ u. Keeps sizes recover_mode.Quiet (torn u) (no_fault u) (keeps u)) (sym e) (nothing_in (torn 1) (before_data 9 (omega arith)))
        | inr (inr e) ↦ subst (λ u. Keeps sizes recover_mode.Quiet (torn u) (no_fault u) (keeps u)) (sym e) (nothing_in (torn 2) refl)
      ];
      index = λ h. refl;
      next = refl;
      clean = refl;
      below = omega arith;
      read = λ u b lt cut. let t : false ≡ true = cut.4 in cc;
    }

    module _ (sealed_newer : IsSealed q.index (entry_newer ∷ [])) (at : q.offset ≡ 4096) (post : List ℕ) (starts : q.content ≡ j.bytes ++ post) where
      second_in : Keeps sizes recover_mode.Quiet (whole 1) all_read (entry_newer ∷ [])
      second_in = one_in (whole 1) 2 2 (length j.bytes) j.some j.page refl (subst (λ l. IsSealed l (entry_newer ∷ [])) second_there sealed_newer)

      whole_opens : Opens sizes 3 whole recover_mode.Quiet no_fault [] (opened_of keeps_newer)
      whole_opens = record {
        keeps = keeps_newer;
        kept = λ b lt. elim (which b lt) [
          | inl e ↦ subst (λ u. Keeps sizes recover_mode.Quiet (whole u) (no_fault u) (keeps_newer u)) (sym e) first_in
          | inr (inl e) ↦ subst (λ u. Keeps sizes recover_mode.Quiet (whole u) (no_fault u) (keeps_newer u)) (sym e) second_in
          | inr (inr e) ↦ subst (λ u. Keeps sizes recover_mode.Quiet (whole u) (no_fault u) (keeps_newer u)) (sym e) (nothing_in (whole 2) refl)
        ];
        index = λ h. refl;
        next = refl;
        clean = refl;
        below = omega arith;
        read = λ u b lt cut. let t : false ≡ true = cut.4 in cc;
      }

      -- the newer record stands, before the index and behind it
      data_read : read (laid data2 (λ u. 255)) 4096 (length j.bytes) ≡ j.bytes
      data_read =
          let low : q.blob ≡ 0 = second_is.blob in
          let at : q.at ≡ 4096 = second_is.at in
          let e : q.blob + q.at + 0 ≡ 4096 = omega arith in
          subst (λ u. read (laid (record { role = Data; offset = q.blob + q.at; bytes = u }) (λ v. 255)) 4096 (length j.bytes) ≡ j.bytes) (sym starts)
          (subst (λ u. read (laid (record { role = Data; offset = q.blob + q.at; bytes = j.bytes ++ post }) (λ v. 255)) u (length j.bytes) ≡ j.bytes) e
          (read_part Data (q.blob + q.at) [] j.bytes post (λ v. 255)))

      newer_stands : read (whole 1) 4096 (length j.bytes) ≡ j.bytes
      newer_stands =
          let low : q.blob ≡ 0 = second_is.blob in
          let size : length q.index ≡ 4096 = second_is.size in
          read_same (laid index2 (laid data2 (λ u. 255))) (laid data2 (λ u. 255)) 4096 (length j.bytes) (λ o l m. laid_beside index2 (laid data2 (λ u. 255)) o (inr (omega arith)))
          ∙ data_read

      found_newer : IsFoundNewer w whole (opened_of keeps_newer) 2 (record { block = 0; offset = p.offset; len = length i.bytes; sequence = 1; filling = 1 })
      found_newer = (
        record { block = 1; offset = 4096; len = length j.bytes; sequence = 2; filling = 0 },
        refl,
        omega arith,
        record {
          flusher = 0;
          writing = record writing2 { left = index_of q };
          content = newer;
          is_writing = (_, refl, refl);
          block = refl;
          among = inl (λ t. (sym at t, newer));
          hash = refl;
          sequence = refl;
          len = refl;
          stands = newer_stands;
        },
      )

      pub reached_open : (stop : IsTornStop rules Splits is_value 2 (record { block = 0; offset = p.offset; len = length i.bytes; sequence = 1; filling = 1 }))
          × Opens sizes 3 stop.bytes recover_mode.Quiet no_fault [] found × FindsNewer stop
      reached_open = (
        stop,
        opens,
        record {
          bytes = whole;
          in_data = data_inside whole refl;
          stopped = whole_stopped;
          strays = whole_strays;
          opened = opened_of keeps_newer;
          opens = whole_opens;
          newer = found_newer;
        },
      )
