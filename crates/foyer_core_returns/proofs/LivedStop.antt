-- What a block lists after a stop: what its present life has written, or, if that is nothing, what was stored there before.
use Rattle.std.proofs.lemmas.Bool.Decides.{nat_tests}
use Rattle.std.proofs.Common.{◌≡◌, ℕ, zero, suc, ◌+◌, ◌*◌, ◌<◌, ◌≤◌, ◌==◌, nat_le, nat_lt, Bool, true, false, ◌&&◌, ◌||◌, if◌then◌else◌, List, [], ◌∷◌, ◌++◌, length, slice_index, ◌⊎◌, inl, inr, refl, sym, ap, subst, ◌∙◌, arith, append_assoc}
use Rattle.std.proofs.lemmas.Bool.{eqb-true}
use Rattle.foyer_format_record.specs.Header.{number_at}
use Rattle.foyer_format_blob.specs.Blob.{IsSealed}
use Rattle.foyer_format_layout.specs.BlockBytes.{read, Index, Write}
use Rattle.foyer_format_layout.specs.Position.{Sizes}
use Rattle.foyer_format_layout.proofs.BlockBytesLaws.{read_same}
use Rattle.foyer_format_buffer.specs.Fills.{AreSizes}
use Rattle.foyer_format_buffer.specs.Holding.{all_read}
use Rattle.foyer_format_buffer.specs.Listing.{IsIndex, behind, placed, Chain, Lists, rising, kept}
use Rattle.foyer_format_buffer.specs.Listing.Chain.{ends, goes}
use Rattle.foyer_format_buffer.proofs.EndsLemmas.{index_read, count_is}
use Rattle.foyer_format_buffer.proofs.ListingLemmas.{sealed_one, chain_step}
use Rattle.foyer_core_model.specs.Access.{BlockWrites, Idle, Issued, InFlight, CleanState, CleanIdle, CleanIssued, CleanInFlight, CleanDone, is_in, writes_covers, some_writes_covers, clean_covers}
use Rattle.foyer_core_model.specs.Numbers.{page}
use Rattle.foyer_core_model.specs.Rules.{Rules, sizes_of}
use Rattle.foyer_core_model.specs.World.{World, covers}
use Rattle.foyer_core_model.proofs.AccessEvents.{beside_not_in}
use Rattle.foyer_core_restart.specs.Entries.{In}
use Rattle.foyer_core_restart.specs.Restart.{IsScanned}
use Rattle.foyer_core_restart.specs.Restart.IsScanned.{here, later}
use Rattle.foyer_core_restart.proofs.Members.{in_either}
use Rattle.foyer_core_restart.proofs.Tasks.{Entry}
use Rattle.foyer_core_returns.specs.Lives.{Life}
use Rattle.foyer_core_returns.specs.Returns.{IsCovered}
use Rattle.foyer_core_returns.proofs.LifeWrites.{IsOfRecord, IsBarredAt, IsOwnIndex, IsOfRole, IsApartOrFirst, in_beside, behind_far}
use Rattle.foyer_core_returns.proofs.Lived.{scene_of, IsBare, AreLeft, IsLived}

-- of bytes

-- an index counts none if a page of zeros stands there
pub none_counted : (s : Sizes) (B : ℕ → ℕ) (p : ℕ) (es : List Entry) → AreSizes s → ((i : ℕ) → p ≤ i → i < p + 4096 → B i ≡ 0) → IsIndex s B all_read p es → length es ≡ 0
none_counted s B p es sizes zeros is =
    let whole : 4096 ≤ s.index = omega (arith, sizes.some, sizes.pages) in
    let b : List ℕ = read B p s.index in
    let a : slice_index b 8 ≡ 0 = index_read B p s.index 8 (omega arith) ∙ zeros (p + 8) (omega arith) (omega arith) in
    let c : slice_index b 9 ≡ 0 = index_read B p s.index 9 (omega arith) ∙ zeros (p + 9) (omega arith) (omega arith) in
    let d : slice_index b 10 ≡ 0 = index_read B p s.index 10 (omega arith) ∙ zeros (p + 10) (omega arith) (omega arith) in
    let e : slice_index b 11 ≡ 0 = index_read B p s.index 11 (omega arith) ∙ zeros (p + 11) (omega arith) (omega arith) in
    let count : number_at 8 4 b ≡ length es = is.sealed.count in
    let sum : number_at 8 4 b ≡ slice_index b 8 * 16777216 + (slice_index b 9 * 65536 + (slice_index b 10 * 256 + slice_index b 11)) = count_is b is.sealed.long in
    omega arith

-- the same bytes are the same index
pub index_moves : (s : Sizes) (B D : ℕ → ℕ) (failed : ℕ → Bool) (p : ℕ) (es : List Entry) → read B p s.index ≡ read D p s.index → IsIndex s B failed p es → IsIndex s D all_read p es
index_moves s B D failed p es same is = record { room = is.room; came = refl; sealed = subst (λ b. IsSealed b es) same is.sealed; fits = is.fits }

-- of scans

scanned_more : (s : Sizes) (B : ℕ → ℕ) (p q : ℕ) (es : List Entry) → IsScanned s B p q → IsIndex s B all_read q es → IsScanned s B p (behind s q es)
scanned_more s B p q es (here) is = later is here
scanned_more s B p q es (later first more) is = later first (scanned_more s B _ q es more is)

-- what is listed stands in an index at a scanned place, whatever reads failed
pub listed_at : (s : Sizes) (B : ℕ → ℕ) (failed : ℕ → Bool) (p q : ℕ) (e : Entry) (all : List Entry) → Chain s B failed p all q → In e all
    → (r : ℕ) × (es : List Entry) × IsScanned s B p r × IsIndex s B all_read r es × In e (placed r es)
listed_at s B failed p q e all (ends none) i = absurd i
listed_at s B failed p q e all (goes {es = es} {rest = rest} is chain) i =
    elim (in_either e (placed p es) rest i) [
      | inl front ↦ (p, es, here, index_moves s B B failed p es refl is, front)
      | inr back ↦
          let there : (r : ℕ) × (fs : List Entry) × IsScanned s B (behind s p es) r × IsIndex s B all_read r fs × In e (placed r fs) = listed_at s B failed (behind s p es) q e rest chain back in
          (there.0, there.1, later (index_moves s B B failed p es refl is) there.2, there.3, there.4)
    ]

-- behind the block no index stands
pub past_end : (s : Sizes) (B : ℕ → ℕ) (failed : ℕ → Bool) (p q : ℕ) (rest : List Entry) → 0 < s.index → s.block ≤ p → Chain s B failed p rest q → rest ≡ []
past_end s B failed p q rest some far (ends none) = refl
past_end s B failed p q rest some far (goes is more) = let room : p + s.index ≤ s.block = is.room in absurd (omega (arith, some))

-- if a page of zeros is stored at a place, the chain lists nothing more from there on
pub zeros_end : (s : Sizes) (B : ℕ → ℕ) (failed : ℕ → Bool) (p q : ℕ) (rest : List Entry) → AreSizes s → ((i : ℕ) → p ≤ i → i < p + 4096 → B i ≡ 0) → Chain s B failed p rest q → rest ≡ []
zeros_end s B failed p q rest sizes zeros (ends none) = refl
zeros_end s B failed p q rest sizes zeros (goes {es = []} {rest = more} is chain) = past_end s B failed (p + s.block) q more sizes.some (omega arith) chain
zeros_end s B failed p q rest sizes zeros (goes {es = e ∷ es} is chain) =
    absurd (let none : length (e ∷ es) ≡ 0 = none_counted s B p (e ∷ es) sizes zeros (index_moves s B B failed p (e ∷ es) refl is) in omega arith)

-- A chain of bytes whose indices with entries are those of others is a front of theirs.
pub chain_front : (s : Sizes) (B D : ℕ → ℕ) (failed : ℕ → Bool) (p q r : ℕ) (es all : List Entry) → AreSizes s
    → ((p : ℕ) (e : Entry) (es : List Entry) → (p ≡ 0) ⊎ (s.index ≤ p) → IsIndex s B all_read p (e ∷ es) → read B p s.index ≡ read D p s.index)
    → (p ≡ 0) ⊎ (s.index ≤ p) → Chain s B failed p es q → Chain s D all_read p all r → (rest : List Entry) × (all ≡ es ++ rest)
chain_front s B D failed p q r es all sizes same at (ends none) chain = (all, refl)
chain_front s B D failed p q r es all sizes same at (goes {es = []} {rest = more} is chain) other =
    (all, ap (λ l. l ++ all) (sym (past_end s B failed (p + s.block) q more sizes.some (omega arith) chain)))
chain_front s B D failed p q r es all sizes same at (goes {es = f ∷ fs} {rest = more} is chain) other =
    let mine : IsIndex s B all_read p (f ∷ fs) = index_moves s B B failed p (f ∷ fs) refl is in
    let step : (rest : List Entry) × Chain s D all_read (behind s p (f ∷ fs)) rest r × (all ≡ placed p (f ∷ fs) ++ rest) =
    chain_step s D all_read p r (f ∷ fs) all (index_moves s B D all_read p (f ∷ fs) (same p f fs at mine) mine) other in
    let far : p + s.index ≤ behind s p (f ∷ fs) = behind_far s p (f ∷ fs) (omega (arith, sizes.order)) is.fits in
    let deep : (rest : List Entry) × (step.0 ≡ more ++ rest) = chain_front s B D failed (behind s p (f ∷ fs)) q r more step.0 sizes same (inr (omega (arith, far))) chain step.1 in
    (deep.0, step.2 ∙ ap (λ l. placed p (f ∷ fs) ++ l) deep.1 ∙ sym (append_assoc (placed p (f ∷ fs)) more deep.0))

-- A chain that no failed read ends is the one that is read if no read fails.
pub chain_whole : (s : Sizes) (B : ℕ → ℕ) (failed : ℕ → Bool) (p q : ℕ) (es : List Entry) → (q + s.index ≤ s.block → failed q ≡ true → ⊥) → Chain s B failed p es q → Chain s B all_read p es q
chain_whole s B failed p q es whole (ends none) = ends (λ es is. go es is (failed p) refl)
  where
    go : (es : List Entry) → IsIndex s B all_read p es → (t : Bool) → failed p ≡ t → ⊥
    go es is true e = whole is.room e
    go es is false e = none es (record { room = is.room; came = e; sealed = is.sealed; fits = is.fits })
chain_whole s B failed p q es whole (goes {es = fs} {rest = more} is chain) = goes (index_moves s B B failed p fs refl is) (chain_whole s B failed (behind s p fs) q more whole chain)

-- what is kept of a front is kept
pub rising_more : (n : ℕ) (e : Entry) (es rest : List Entry) → In e (rising n es) → In e (rising n (es ++ rest))
rising_more n e [] rest i = absurd i
rising_more n e (d ∷ es) rest i = go (nat_le n d.sequence) (λ j. rising_more d.sequence e es rest j) i
  where
    go : (t : Bool) → (In e (rising d.sequence es) → In e (rising d.sequence (es ++ rest))) → In e (if t then d ∷ rising d.sequence es else []) → In e (if t then d ∷ rising d.sequence (es ++ rest) else [])
    go true deep (inl is) = inl is
    go true deep (inr j) = inr (deep j)
    go false deep j = absurd j

-- of writes

covered_or_bare : (ws : List Write) (o : ℕ) → IsCovered ws o ⊎ IsBare ws o
covered_or_bare [] o = inr (λ x i. absurd i)
covered_or_bare (w ∷ ws) o = go (is_in w o) refl (covered_or_bare ws o)
  where
    go : (t : Bool) → is_in w o ≡ t → IsCovered ws o ⊎ IsBare ws o → IsCovered (w ∷ ws) o ⊎ IsBare (w ∷ ws) o
    go true e rest = inl (w, inl refl, e)
    go false e (inl (v, i, at)) = inl (v, inr i, at)
    go false e (inr bare) = inr (λ x i. elim i [ inl same ↦ ap (λ v. is_in v o) same ∙ e | inr more ↦ bare x more ])

-- a write that doesn't cover the first byte covers none of the first index
first_bare : (s : Sizes) (x : Write) (o : ℕ) → IsApartOrFirst s x → is_in x 0 ≡ false → o < s.index → is_in x o ≡ false
first_bare s x o (inr far) out lt = beside_not_in x o (inl (omega arith))
first_bare s x o (inl first) out lt = beside_not_in x o (elim (in_beside x 0 out) [
  | inl before ↦ absurd (omega (arith, before, first))
  | inr behind ↦ inr (omega (arith, behind))
])

or_false : (p q : Bool) → p ≡ false → q ≡ false → (p || q) ≡ false
or_false false q e f = f
or_false true q e f = e

no_writes : (n : ℕ) (block_writes : ℕ → BlockWrites) (b o : ℕ) → ((f : ℕ) → writes_covers b (block_writes f) o ≡ false) → some_writes_covers n block_writes b o ≡ false
no_writes zero block_writes b o none = refl
no_writes (suc n) block_writes b o none = or_false (writes_covers b (block_writes n) o) (some_writes_covers n block_writes b o) (none n) (no_writes n block_writes b o none)

module _ (A : Type 0) {C : Type 0} (rules : Rules C) (sizes : AreSizes (sizes_of rules)) (b : ℕ) (B : ℕ → ℕ) (w : World C) (l : Life C) (X : ℕ → ℕ) where
  abbrev s : Sizes
  s = sizes_of rules

  -- what stood at the block's start lists nothing
  abbrev pub ListsNone : Type 0
  ListsNone = (es : List Entry) → IsIndex s B all_read 0 es → es ≡ []

  abbrev Stays : Type 0
  Stays = (o : ℕ) → covers rules w b o ≡ false → X o ≡ w.bytes b o

  -- the premises of the law, of this block
  abbrev pub NoStrays : Type 0
  NoStrays = (p : ℕ) (e : Entry) (es : List Entry) → IsScanned s X 0 p → IsIndex s X all_read p (e ∷ es) → IsCovered l.writes p
      → (v : Write) × In v l.writes × (v.role ≡ Index) × (v.offset ≡ p) × (v.bytes ≡ read X p rules.index_size)

  abbrev pub NoTorn : Type 0
  NoTorn = (e : Entry) (es : List Entry) → w.clean_states b ≡ CleanInFlight → IsIndex s X all_read 0 (e ∷ es) → read X 0 rules.index_size ≡ read (w.bytes b) 0 rules.index_size

  module _ (Empty : Type 0) (lived : IsLived A rules b B Empty (scene_of w) l) (well : l.has_failed ≡ false) (stays : Stays) (strays : NoStrays) (torn : NoTorn) where
    uncovered : (o : ℕ) → IsBare l.writes o → clean_covers (w.clean_states b) o ≡ false → covers rules w b o ≡ false
    uncovered o bare dry = or_false (some_writes_covers rules.flushers w.block_writes b o) (clean_covers (w.clean_states b) o) (no_writes rules.flushers w.block_writes b o (λ f. one f (w.block_writes f) refl)) dry
      where
        one : (f : ℕ) (pending : BlockWrites) → w.block_writes f ≡ pending → writes_covers b pending o ≡ false
        one f Idle is = refl
        one f (Issued c rs vs) is = refl
        one f (InFlight c rs v vs) is = go (b == c) refl
          where
            go : (t : Bool) → (b == c) ≡ t → (t && is_in v o) ≡ false
            go true e = bare v (subst (AreLeft A rules b B Empty l) is (lived.left f) (sym (eqb-true b c e))).0
            go false e = refl

    -- the first index, if this life has written none of it
    same_first : (e : Entry) (es : List Entry) → IsIndex s X all_read 0 (e ∷ es) → ((o : ℕ) → o < s.index → IsBare l.writes o) → read X 0 s.index ≡ read (w.bytes b) 0 s.index
    same_first e es is bare = go (w.clean_states b) refl
      where
        quiet : ((o : ℕ) → clean_covers (w.clean_states b) o ≡ false) → read X 0 s.index ≡ read (w.bytes b) 0 s.index
        quiet dry = read_same X (w.bytes b) 0 s.index (λ i low high. stays i (uncovered i (bare i (omega (arith, high))) (dry i)))

        go : (k : CleanState) → w.clean_states b ≡ k → read X 0 s.index ≡ read (w.bytes b) 0 s.index
        go CleanInFlight f = torn e es f is
        go CleanIdle f = quiet (λ o. ap (λ k. clean_covers k o) f)
        go CleanIssued f = quiet (λ o. ap (λ k. clean_covers k o) f)
        go (CleanDone ok) f = quiet (λ o. ap (λ k. clean_covers k o) f)

    -- an index of this life stands at the place
    abbrev IsOwnAt : ℕ → List Entry → Type 0
    IsOwnAt p es = (v : Write) × In v l.writes × (v.role ≡ Index) × (v.offset ≡ p) × IsSealed v.bytes es

    own_at : (p : ℕ) (e : Entry) (es : List Entry) → IsScanned s X 0 p → IsIndex s X all_read p (e ∷ es) → IsCovered l.writes p → IsOwnAt p (e ∷ es)
    own_at p e es scanned is covered =
        let r : (v : Write) × In v l.writes × (v.role ≡ Index) × (v.offset ≡ p) × (v.bytes ≡ read X p rules.index_size) = strays p e es scanned is covered in
        (r.0, r.1, r.2, r.3, subst (λ k. IsSealed k (e ∷ es)) (sym r.4) is.sealed)

    own_lists : (p : ℕ) (es : List Entry) → IsOwnAt p es → ((e : Entry) → In e (placed p es) → IsOfRecord l.records e) × IsBarredAt s l.writes (behind s p es)
    own_lists p es (v, began, role, at, sealed) =
        let ok : IsOwnIndex s (IsOfRecord l.records) l.writes v = subst (λ k. IsOfRole s (IsOfRecord l.records) l.writes k v) role (lived.log v began).1 in
        let same : ok.0 ≡ es = sealed_one v.bytes ok.0 es ok.1 sealed in (
          λ e i. ok.2 e (subst (λ q. In e (placed q ok.0)) (sym at) (subst (λ m. In e (placed p m)) (sym same) i)),
          subst (λ q. IsBarredAt s l.writes (behind s q es)) at (subst (λ m. IsBarredAt s l.writes (behind s v.offset m)) same ok.3),
        )

    -- Where nothing is listed that stood before this life, each index that is scanned is one of its own.
    module _ (clear : (l.is_cleaned ≡ true) ⊎ ListsNone) where
      first_index : (e : Entry) (es : List Entry) → IsIndex s X all_read 0 (e ∷ es) → IsOwnAt 0 (e ∷ es)
      first_index e es is = elim (covered_or_bare l.writes 0) [
        | inl covered ↦ own_at 0 e es here is covered
        | inr bare ↦ absurd (go l.is_cleaned refl clear (λ o lt x i. first_bare s x o (lived.log x i).0 (bare x i) lt))
      ]
        where
          old : ((o : ℕ) → o < s.index → IsBare l.writes o) → IsIndex s (w.bytes b) all_read 0 (e ∷ es)
          old bare = index_moves s X (w.bytes b) all_read 0 (e ∷ es) (same_first e es is bare) is

          go : (t : Bool) → l.is_cleaned ≡ t → (l.is_cleaned ≡ true) ⊎ ListsNone → ((o : ℕ) → o < s.index → IsBare l.writes o) → ⊥
          go true f which bare =
              let whole : 4096 ≤ s.index = omega (arith, sizes.some, sizes.pages) in
              let none : length (e ∷ es) ≡ 0 = none_counted s (w.bytes b) 0 (e ∷ es) sizes (λ i low lt. lived.zeros well f i lt (bare i (omega (arith, lt, whole)))) (old bare) in omega arith
          go false f (inl cleaned) bare = let x : true ≡ false = sym cleaned ∙ f in cc
          go false f (inr none) bare =
              let is : e ∷ es ≡ [] = none (e ∷ es) (index_moves s (w.bytes b) B all_read 0 (e ∷ es) (read_same (w.bytes b) B 0 s.index (λ i low high. lived.stays well f i (bare i (omega (arith, high))))) (old bare)) in cc

      next_index : (p : ℕ) (e : Entry) (es : List Entry) → IsScanned s X 0 p → (p ≡ 0) ⊎ IsBarredAt s l.writes p → IsIndex s X all_read p (e ∷ es) → IsOwnAt p (e ∷ es)
      next_index p e es scanned (inl first) is = subst (λ q. IsOwnAt q (e ∷ es)) (sym first) (first_index e es (subst (λ q. IsIndex s X all_read q (e ∷ es)) first is))
      next_index p e es scanned (inr (inl full)) is =
          let whole : 4096 ≤ s.index = omega (arith, sizes.some, sizes.pages) in
          let room : p + s.index ≤ s.block = is.room in
          absurd (omega (arith, full, whole, room))
      next_index p e es scanned (inr (inr covered)) is = own_at p e es scanned is covered

      scan_own : (p q : ℕ) (e : Entry) (es : List Entry) → IsScanned s X 0 p → (p ≡ 0) ⊎ IsBarredAt s l.writes p → IsScanned s X p q → IsIndex s X all_read q (e ∷ es) → IsOwnAt q (e ∷ es)
      scan_own p q e es scanned at (here) is = next_index p e es scanned at is
      scan_own p q e es scanned at (later {es = []} first more) is =
          scan_own (p + s.block) q e es (scanned_more s X 0 p [] scanned first) (inr (inl (omega arith))) more is
      scan_own p q e es scanned at (later {es = f ∷ fs} first more) is =
          scan_own (behind s p (f ∷ fs)) q e es (scanned_more s X 0 p (f ∷ fs) scanned first) (inr (own_lists p (f ∷ fs) (next_index p f fs scanned at first)).1) more is

      entry_own : (r : ℕ) (e : Entry) (es : List Entry) → IsScanned s X 0 r → IsIndex s X all_read r es → In e (placed r es) → IsOwnAt r es
      entry_own r e [] scanned is i = absurd i
      entry_own r e (f ∷ fs) scanned is i = scan_own 0 r f fs here (inl refl) scanned is

      -- So an entry that is listed is of a record of this life, and in one of its indices.
      pub listed_own : (failed : ℕ → Bool) (e : Entry) (ls : List Entry) → Lists s X failed ls → In e ls
          → IsOfRecord l.records e × ((v : Write) × (es : List Entry) × In v l.writes × (v.role ≡ Index) × IsSealed v.bytes es × In e (placed v.offset es))
      listed_own failed e ls lists i =
          let there : (r : ℕ) × (es : List Entry) × IsScanned s X 0 r × IsIndex s X all_read r es × In e (placed r es) = listed_at s X failed 0 lists.end e ls lists.chain i in
          let own : IsOwnAt there.0 there.1 = entry_own there.0 e there.1 there.2 there.3 there.4 in
          ((own_lists there.0 there.1 own).0 e there.4, (own.0, there.1, own.1, own.2, own.4, subst (λ q. In e (placed q there.1)) (sym own.3) there.4))

    -- Where nothing was written, the indices are those that stood there.
    pub kept_still : (failed : ℕ → Bool) (e : Entry) (ls all : List Entry) → l.is_cleaned ≡ false → l.writes ≡ [] → Lists s X failed ls → Lists s B all_read all → In e (kept ls) → In e (kept all)
    kept_still failed e ls all uncleaned unwritten lists stood i =
        let front : (rest : List Entry) × (all ≡ ls ++ rest) = chain_front s X B failed 0 lists.end stood.end ls all sizes same (inl refl) lists.chain stood.chain in
        subst (λ m. In e (kept m)) (sym front.1) (rising_more 0 e ls front.0 i)
      where
        bare : (o : ℕ) → IsBare l.writes o
        bare o x j = absurd (subst (λ m. In x m) unwritten j)

        dry : (o : ℕ) → 4096 ≤ o → (k : CleanState) → clean_covers k o ≡ false
        dry o far CleanIdle = refl
        dry o far CleanIssued = refl
        dry o far (CleanDone ok) = refl
        dry o far CleanInFlight = go (nat_lt o page) refl
          where
            go : (t : Bool) → nat_lt o page ≡ t → t ≡ false
            go true e' = absurd (grind (arith, nat_tests))
            go false e' = refl

        was : (p : ℕ) → read (w.bytes b) p s.index ≡ read B p s.index
        was p = read_same (w.bytes b) B p s.index (λ o low high. lived.stays well uncleaned o (bare o))

        same : (p : ℕ) (e : Entry) (es : List Entry) → (p ≡ 0) ⊎ (s.index ≤ p) → IsIndex s X all_read p (e ∷ es) → read X p s.index ≡ read B p s.index
        same p e es (inl first) is =
            subst (λ q. read X q s.index ≡ read B q s.index) (sym first) (same_first e es (subst (λ q. IsIndex s X all_read q (e ∷ es)) first is) (λ o lt. bare o) ∙ was 0)
        same p e es (inr far) is =
            let whole : 4096 ≤ s.index = omega (arith, sizes.some, sizes.pages) in
            read_same X (w.bytes b) p s.index (λ o low high. stays o (uncovered o (bare o) (dry o (omega (arith, low, far, whole)) (w.clean_states b)))) ∙ was p
