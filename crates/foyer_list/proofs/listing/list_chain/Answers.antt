use Rattle.std.proofs.Common.{◌≡◌, ℕ, ◌+◌, ◌≤◌, ◌++◌, vec_len, true, false, refl, sym, ap, subst, ◌∙◌, rules}
use Rattle.foyer_format_layout.specs.BlockBytes.{read}
use Rattle.foyer_format_layout.specs.Position.{Sizes}
use Rattle.foyer_block_scan.specs.ScanState.{Scan}
use Rattle.foyer_block_recover.proofs.ChainLemmas.{step_stays, falls}
use Rattle.foyer_list.specs.BlockListing.{IsListed}
use Rattle.foyer_list.specs.declared.listing.ChainEnd.TheVariants as end
use Rattle.foyer_list.proofs.ListingLemmas.{listed_start, listed_on, listed_none, listed_all, listed_failed, IsListedTo, none_listed, some_listed}
use Rattle.foyer_list.proofs.listing.list_chain.Goals as goal

pub returns-then-not-came-clause-listed : goal.returns-then-not-came-clause-listed
returns-then-not-came-clause-listed g c = λ known.
    let inv = c.each_index.invariant in
    let n = c.args.index_size in
    let b = c.args.block in
    let sure = g.D.Disk.surely_has c.args.disk.now b in
    let room : c.in-Some.offset + n ≤ c.args.block_size = subst (λ (y : Sizes). c.in-Some.offset + y.index ≤ y.block) inv.sizes c.in-Some.ensures.within in
    listed_failed (record { block = c.args.block_size; index = n }) (g.D.Disk.byte_at c.args.disk.now b) c.requires.sizes b (λ p. sure p n) c.each_index.entries.items
    c.each_index.scanner.blob_offset c.in-Some.offset (sym c.in-Some.ensures.blob_offset) room
    (λ has. c.read_index-bytes.ensures.fault c.if-not-came.true
    (subst (λ k. g.D.Disk.surely_has c.each_index.disk b c.in-Some.offset k) (sym inv.len) (inv.has b c.in-Some.offset n has)))
    (inv.along known)

pub returns-in_default-2-clause-listed : goal.returns-in_default-2-clause-listed
returns-in_default-2-clause-listed g c = λ known.
    let inv = c.each_index.invariant in
    let n = c.args.index_size in
    let b = c.args.block in
    let B = g.D.Disk.byte_at c.args.disk.now b in
    let room : c.in-Some.offset + n ≤ c.args.block_size = subst (λ (y : Sizes). c.in-Some.offset + y.index ≤ y.block) inv.sizes c.in-Some.ensures.within in
    let came = c.read_index-bytes.ensures.bytes (inv.known known) c.if-not-came.false in
    let read_so : c.deref.result.now ≡ read B c.in-Some.offset n =
    c.deref.ensures.value ∙ came ∙ ap (λ (f : ℕ → ℕ → ℕ). read (f b) c.in-Some.offset (vec_len c.each_index.buffer)) inv.same ∙ ap (read B c.in-Some.offset) inv.len in
    listed_none (record { block = c.args.block_size; index = n }) B c.requires.sizes b c.each_index.scanner c.in-Some.offset c.deref.result.now inv.sizes (sym c.in-Some.ensures.blob_offset) room read_so
    (λ p. g.D.Disk.surely_has c.args.disk.now b p n) (none_listed c.in_ok-infos.field-0 c.in_default-2.is _ c.in_ok-infos.ensures.listed) c.each_index.entries.items (inv.along known)

pub each_index-smaller : goal.each_index-smaller
each_index-smaller g c =
    let inv = c.each_index.invariant in
    let n = c.args.index_size in
    let room : c.in-Some.offset + n ≤ c.args.block_size = subst (λ (y : Sizes). c.in-Some.offset + y.index ≤ y.block) inv.sizes c.in-Some.ensures.within in
    falls (record { block = c.args.block_size; index = n }) (λ o. 0) c.requires.sizes c.each_index.scanner c.in-Some.offset c.deref.result.now inv.sizes (sym c.in-Some.ensures.blob_offset) room
    c.next.new.self c.in_ok-infos.ensures.scan

pub each_index-preserved : goal.each_index-preserved
each_index-preserved g c =
    let inv = c.each_index.invariant in
    let n = c.args.index_size in
    let b = c.args.block in
    let B = g.D.Disk.byte_at c.args.disk.now b in
    let scan = c.each_index.scanner in
    let bytes = c.deref.result.now in
    let room : c.in-Some.offset + n ≤ c.args.block_size = subst (λ (y : Sizes). c.in-Some.offset + y.index ≤ y.block) inv.sizes c.in-Some.ensures.within in
    let stays = step_stays scan scan.blob_offset bytes in
    record {
      len = c.read_index-bytes.ensures.len ∙ inv.len;
      sizes = ap (λ (s : Scan). s.sizes) c.in_ok-infos.ensures.scan ∙ stays.0 ∙ inv.sizes;
      block = ap (λ (s : Scan). s.block) c.in_ok-infos.ensures.scan ∙ stays.1 ∙ inv.block;
      filling = ap (λ (s : Scan). s.filling) c.in_ok-infos.ensures.scan ∙ stays.2 ∙ inv.filling;
      known = λ k. c.read_index-bytes.ensures.known (inv.known k);
      same = c.read_index-bytes.ensures.same ∙ inv.same;
      has = λ x o m h. c.read_index-bytes.ensures.has x o m (inv.has x o m h);
      along = λ known.
          let came = c.read_index-bytes.ensures.bytes (inv.known known) c.if-not-came.false in
          let read_so : bytes ≡ read B c.in-Some.offset n =
          c.deref.ensures.value ∙ came ∙ ap (λ (f : ℕ → ℕ → ℕ). read (f b) c.in-Some.offset (vec_len c.each_index.buffer)) inv.same ∙ ap (read B c.in-Some.offset) inv.len in
          let along = listed_on (record { block = c.args.block_size; index = n }) B c.requires.sizes b scan c.in-Some.offset bytes inv.sizes (sym c.in-Some.ensures.blob_offset) room read_so inv.block inv.filling
          c.next.new.self c.in-Some-2.infos.items c.in_ok-infos.ensures.scan (some_listed c.in_ok-infos.field-0 c.in-Some-2.infos c.in-Some-2.is _ c.in_ok-infos.ensures.listed) c.each_index.entries.items (inv.along known) in
          subst (λ l. IsListedTo (record { block = c.args.block_size; index = n }) B b l c.next.new.self.blob_offset)
          (sym (c.in_ok-extend_from_slice.ensures.items ∙ ap (λ l. c.each_index.entries.items ++ l) c.deref-in-Some.ensures.value)) along;
    }
