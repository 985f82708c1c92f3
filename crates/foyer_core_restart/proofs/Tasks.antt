-- Each index that is issued lists what was put before, or records that stand by then and that no later write touches.
use Rattle.std.proofs.Common.{◌≡◌, ℕ, ◌+◌, ◌<◌, ◌≤◌, nat_le, Bool, true, false, if◌then◌else◌, List, [], ◌∷◌, ◌++◌, length, ◌⊎◌, inl, inr, refl, sym, ap, subst, ◌∙◌, arith, append_assoc}
use Rattle.std.specs.Prelude.{map}
use Rattle.std.proofs.lemmas.List.{append-nil, map-append}
use Rattle.foyer_format_layout.proofs.EachLaws.{each_join, each_front, each_back}
use Rattle.foyer_device_page.specs.Section.{Section, bytes_of}
use Rattle.foyer_format_layout.specs.Page.{page_up}
use Rattle.foyer_format_layout.proofs.PageLaws.{page_up-holds}
use Rattle.foyer_format_blob.specs.Blob.{IsSealed}
use Rattle.foyer_format_blob.specs.declared.blob.BlobEntryIndex.{BlobEntryIndex}
use Rattle.foyer_format_layout.specs.BlockBytes.{laid, all_laid, read, IsBeside, AllWithin, Role, Data, Index, Write, zeros_write, with_zeros, zeroed}
use Rattle.foyer_format_layout.specs.Each.{Each}
use Rattle.foyer_format_layout.specs.Position.{Sizes, tail_of, next_blob, MayWrite}
use Rattle.foyer_format_buffer.specs.Position.{Position, taken, with_records}
use Rattle.foyer_format_buffer.specs.Fills as fills
use Rattle.foyer_format_buffer.specs.Fills.{AreSizes, Fills, IsLaid}
use Rattle.foyer_format_buffer.specs.Fills.Fills.{stays, part, blob}
use Rattle.foyer_format_buffer.specs.Holding.{Holds}
use Rattle.foyer_format_buffer.specs.Listing.{placed}
use Rattle.foyer_format_buffer.specs.Stored as stands
use Rattle.foyer_format_buffer.specs.declared.BufferEntryInfo.{BufferEntryInfo}
use Rattle.foyer_format_buffer.specs.declared.split.BlobPart.{BlobPart}
use Rattle.foyer_format_layout.proofs.BlockBytesLaws.{beside_or, laid_beside, read_same, all_laid_zeros, zeroed_before, with_zeros-append}
use Rattle.foyer_format_buffer.proofs.StoredLemmas.{stand_same, outside_less, stand_join, outside_join}
use Rattle.foyer_format_buffer.proofs.FillsLemmas.{blob_less, records_less, fills_laid}
use Rattle.foyer_format_buffer.proofs.HoldsLemmas.{holds_fills}
use Rattle.foyer_format_buffer.proofs.SplitLemmas.{taken-append, taken_none}
use Rattle.foyer_core_model.specs.Record.{Record}
use Rattle.foyer_core_model.specs.Position.{Part, records_in}
use Rattle.foyer_core_restart.specs.Entries.{In, stored, entry_of}
use Rattle.foyer_core_restart.specs.Real.{AreSameParts}
use Rattle.foyer_core_restart.proofs.Members.{in_left, in_right, in_either}

abbrev pub Entry : Type 0
Entry = BlobEntryIndex

-- no byte of the record is touched by the write
abbrev pub IsSparedBy : {C : Type 0} → ℕ × Record C → Write → Type 0
IsSparedBy p v = (i : ℕ) → p.0 ≤ i → i < p.0 + length (p.1).bytes → IsBeside v i

-- The entry is of one of these records, which stands in these bytes, and no write of these touches it.
abbrev pub IsWrittenIn : {C : Type 0} → List (ℕ × Record C) → (ℕ → ℕ) → List Write → Entry → Type 0
IsWrittenIn {C} records B ws e =
    (p : ℕ × Record C) × In p records × (e ≡ entry_of p) × (read B p.0 (length (p.1).bytes) ≡ (p.1).bytes) × Each (IsSparedBy p) ws

-- the write is of an index that lists nothing but these
abbrev pub ListsOnly : (Entry → Type 0) → Write → Type 0
ListsOnly P v = (ls : List Entry) × IsSealed v.bytes ls × ((e : Entry) → In e (placed v.offset ls) → P e)

abbrev pub RoleOk : Role → (Entry → Type 0) → Write → Type 0
RoleOk Data P v = Unit {0}
RoleOk Index P v = ListsOnly P v

pub role_more : (role : Role) (P Q : Entry → Type 0) (v : Write) → ((e : Entry) → P e → Q e) → RoleOk role P v → RoleOk role Q v
role_more Data P Q v more ok = tt
role_more Index P Q v more ok = (ok.0, ok.1, λ e i. more e (ok.2 e i))

abbrev pub TasksOk : {C : Type 0} → List Entry → List (ℕ × Record C) → (ℕ → ℕ) → List Write → Type 0
TasksOk puts records B [] = Unit {0}
TasksOk puts records B (v ∷ vs) =
    RoleOk v.role (λ e. In e puts ⊎ IsWrittenIn records B (v ∷ vs) e) v × TasksOk puts records (laid v B) vs

-- once the first of the writes is done
pub written_tail : {C : Type 0} (records : List (ℕ × Record C)) (B : ℕ → ℕ) (v : Write) (vs : List Write) (e : Entry)
    → IsWrittenIn records B (v ∷ vs) e → IsWrittenIn records (laid v B) vs e
written_tail records B v vs e (p, there, is, stand, spared) =
    (p, there, is, read_same (laid v B) B p.0 (length (p.1).bytes) (λ i l m. laid_beside v B i (spared.0 i l m)) ∙ stand, spared.1)

-- the writes of parts as the model has them
abbrev pub writes_of : {C : Type 0} → (block_size : ℕ) → List (Part C) → List Write
writes_of n [] = []
writes_of n (p ∷ ps) =
    record { role = Data; offset = p.blob + p.at; bytes = p.content }
    ∷ with_zeros n (p.blob + p.at + length p.content) (record { role = Index; offset = p.blob; bytes = p.index } ∷ writes_of n ps)

pub writes_cons : {C : Type 0} (n : ℕ) (p : Part C) (ps : List (Part C))
    → (record { role = Data; offset = p.blob + p.at; bytes = p.content }
    ∷ with_zeros n (p.blob + p.at + length p.content) (record { role = Index; offset = p.blob; bytes = p.index } ∷ [])) ++ writes_of n ps
    ≡ writes_of n (p ∷ ps)
writes_cons n p ps = ap (λ ws. record { role = Data; offset = p.blob + p.at; bytes = p.content } ∷ ws)
    (with_zeros-append n (p.blob + p.at + length p.content) (record { role = Index; offset = p.blob; bytes = p.index } ∷ []) (writes_of n ps))

-- if the writes behind a page of zeros are in order, so they are with it
pub tasks_zeros : {C : Type 0} (puts : List Entry) (records : List (ℕ × Record C)) (n o : ℕ) (B : ℕ → ℕ) (ws : List Write)
    → TasksOk puts records (zeroed n o B) ws → TasksOk puts records B (with_zeros n o ws)
tasks_zeros puts records n o B ws = go (nat_le (o + 4096) n)
  where
    go : (b : Bool) → TasksOk puts records (if b then laid (zeros_write o) B else B) ws → TasksOk puts records B (if b then zeros_write o ∷ ws else ws)
    go true ok = (tt, ok)
    go false ok = ok

-- the parts' writes and records are those of the blob's parts

pub same_writes : {A C : Type 0} (n : ℕ) (qs : List (Part C)) (ps : List (BlobPart A)) → AreSameParts qs ps → writes_of n qs ≡ fills.writes_of n ps
same_writes n [] [] same = refl
same_writes n [] (p ∷ ps) same = absurd same
same_writes n (q ∷ qs) [] same = absurd same
same_writes n (q ∷ qs) (p ∷ ps) same =
    λ i. record { role = Data; offset = (same.0).blob i + (same.0).at i; bytes = (same.0).content i }
    ∷ with_zeros n ((same.0).blob i + (same.0).at i + length ((same.0).content i)) (record { role = Index; offset = (same.0).blob i; bytes = (same.0).index i } ∷ same_writes n qs ps same.1 i)

pub same_records : {A C : Type 0} (qs : List (Part C)) (ps : List (BlobPart A)) → AreSameParts qs ps → map stored (records_in qs) ≡ fills.records_in ps
same_records [] [] same = refl
same_records [] (p ∷ ps) same = absurd same
same_records (q ∷ qs) [] same = absurd same
same_records (q ∷ qs) (p ∷ ps) same =
    map-append stored q.records (records_in qs) ∙ (λ i. (same.0).records i ++ same_records qs ps same.1 i)

-- entries of records

pub entries_stored : {C : Type 0} (ps : List (ℕ × Record C)) → map stands.entry_of (map stored ps) ≡ map entry_of ps
entries_stored [] = refl
entries_stored (p ∷ ps) = ap (λ l. entry_of p ∷ l) (entries_stored ps)

pub entries_out : {C : Type 0} (e : Entry) (ps : List (ℕ × Record C)) → In e (map entry_of ps) → (p : ℕ × Record C) × In p ps × (e ≡ entry_of p)
entries_out e [] i = absurd i
entries_out e (p ∷ ps) (inl is) = (p, inl refl, is)
entries_out e (p ∷ ps) (inr i) = let r : (q : _) × In q ps × (e ≡ entry_of q) = entries_out e ps i in (r.0, inr r.1, r.2)

pub entries_in : {C : Type 0} (p : ℕ × Record C) (ps : List (ℕ × Record C)) → In p ps → In (entry_of p) (map entry_of ps)
entries_in p [] i = absurd i
entries_in p (q ∷ ps) (inl same) = inl (ap entry_of same)
entries_in p (q ∷ ps) (inr i) = inr (entries_in p ps i)

stand_in : {C : Type 0} (B : ℕ → ℕ) (p : ℕ × Record C) (ps : List (ℕ × Record C)) → stands.AllStand B (map stored ps) → In p ps → read B p.0 (length (p.1).bytes) ≡ (p.1).bytes
stand_in B p [] all i = absurd i
stand_in B p (q ∷ ps) all (inl e) = subst (λ (k : ℕ × _). read B k.0 (length (k.1).bytes) ≡ (k.1).bytes) (sym e) all.0
stand_in B p (q ∷ ps) all (inr i) = stand_in B p ps all.1 i

outside_in : {C : Type 0} (P : ℕ → Type 0) (p : ℕ × Record C) (ps : List (ℕ × Record C)) → stands.AllOutside P (map stored ps) → In p ps
    → (o : ℕ) → p.0 ≤ o → o < p.0 + page_up (length (p.1).bytes) → P o → ⊥
outside_in P p [] all i = absurd i
outside_in P p (q ∷ ps) all (inl e) = subst (λ (k : ℕ × _). (o : ℕ) → k.0 ≤ o → o < k.0 + page_up (length (k.1).bytes) → P o → ⊥) (sym e) all.0
outside_in P p (q ∷ ps) all (inr i) = outside_in P p ps all.1 i

-- writes within P spare what lies outside
spared_one : {C : Type 0} (P : ℕ → Type 0) (p : ℕ × Record C) (v : Write) → ((o : ℕ) → p.0 ≤ o → o < p.0 + length (p.1).bytes → P o → ⊥)
    → ((o : ℕ) → (IsBeside v o → ⊥) → P o) → IsSparedBy p v
spared_one P p v out within i l m = elim (beside_or v i) [ inl outside ↦ outside | inr inside ↦ absurd (out i l m (within i inside)) ]

spared_all : {C : Type 0} (P : ℕ → Type 0) (p : ℕ × Record C) (vs : List Write) → ((o : ℕ) → p.0 ≤ o → o < p.0 + length (p.1).bytes → P o → ⊥)
    → AllWithin P (vs) → Each (IsSparedBy p) vs
spared_all P p [] out within = tt
spared_all P p (v ∷ vs) out within = (spared_one P p v out within.0, spared_all P p vs out within.1)

module _ {A C : Type 0} (s : Sizes) (w : Section) (sizes : AreSizes s) where
  -- Es is what the block held before the batch with the records so far, which stand.
  pub fills_tasks : (B : ℕ → ℕ) (start : ℕ) (f : Position) (es puts : List Entry) (so all : List (ℕ × Record C)) (infos : List BufferEntryInfo) (parts : List (BlobPart A)) (qs : List (Part C)) (g : Position)
      → start + taken infos ≤ length (bytes_of w) → Each (λ i. 0 < i.len) infos
      → Fills s w start f infos parts g → AreSameParts qs parts → Holds s B f es → es ≡ puts ++ map entry_of so
      → stands.AllStand B (map stored so) → stands.AllOutside (MayWrite s.index f) (map stored so)
      → ((p : ℕ × Record C) → In p (so ++ records_in qs) → In p all) → TasksOk puts all B (writes_of s.block qs)
  fills_tasks B start f es puts so all infos parts [] g room some fill same h are stand out into = tt
  fills_tasks B start f es puts so all infos parts (q ∷ qs) g room some (stays) same h are stand out into = absurd same
  fills_tasks B start f es puts so all infos parts (q ∷ qs) g room some (blob full more) same h are stand out into =
      fills_tasks B start (next_blob s f) es puts so all infos parts (q ∷ qs) g room some more same
      (subst (λ l. Holds s B (next_blob s f) l) (append-nil es) (holds_fills {A = A} s w sizes B start f es [] [] (next_blob s f) (omega (arith, taken_none)) tt (blob full stays) h)) are stand
      (outside_less (MayWrite s.index f) (MayWrite s.index (next_blob s f)) (map stored so) (blob_less s f) out) into
  fills_tasks B start f es puts so all infos parts (q ∷ qs) g room some (part {now = now} {rest = rest} {p = p} {parts = more} is fill) same h are stand out into = (
    tt,
    tasks_zeros puts all s.block end_at (laid dw B) (iw ∷ writes_of s.block qs) (
      ind,
      fills_tasks D (start + taken now) f' (es ++ map entry_of q.records) puts (so ++ q.records) all rest more qs g (omega (arith, total)) someboth.1 fill same.1
          later (ap (λ l. l ++ map entry_of q.records) are ∙ append_assoc puts (map entry_of so) (map entry_of q.records) ∙ ap (λ l. puts ++ l) (sym (map-append entry_of so q.records)))
          (stand_same (MayWrite s.index f') M D (map stored (so ++ q.records)) outside (λ o away. laid_beside iw M o (beside_index o away)) standing)
          outside (λ r i. into r (subst (λ l. In r l) (append_assoc so q.records (records_in qs)) i)),
    ),
  )
    where
      f' : Position
      f' = with_records f now

      dw : Write
      dw = record { role = Data; offset = q.blob + q.at; bytes = q.content }

      iw : Write
      iw = record { role = Index; offset = q.blob; bytes = q.index }

      -- where its data end
      end_at : ℕ
      end_at = q.blob + q.at + length q.content

      -- its data and the zeros behind them
      M : ℕ → ℕ
      M = zeroed s.block end_at (laid dw B)

      D : ℕ → ℕ
      D = laid iw M

      total : taken (now ++ rest) ≡ taken now + taken rest
      total = taken-append now rest

      someboth : Each (λ i. 0 < i.len) now × Each (λ i. 0 < i.len) rest
      someboth = (each_front (λ i. 0 < i.len) now rest some, each_back (λ i. 0 < i.len) now rest some)

      past : s.index ≤ f.at
      past = h.past

      data_is : dw ≡ fills.data_write p
      data_is = λ i. record { role = Data; offset = (same.0).blob i + (same.0).at i; bytes = (same.0).content i }

      index_is : iw ≡ fills.index_write p
      index_is = λ i. record { role = Index; offset = (same.0).blob i; bytes = (same.0).index i }

      end_is : end_at ≡ fills.data_end p
      end_is = λ i. (same.0).blob i + (same.0).at i + length ((same.0).content i)

      all_is : D ≡ all_laid (fills.writes_of s.block (p ∷ [])) B
      all_is = (λ i. laid (index_is i) (zeroed s.block (end_is i) (laid (data_is i) B)))
          ∙ sym (all_laid_zeros s.block (fills.data_end p) (fills.index_write p ∷ []) (laid (fills.data_write p) B))

      -- the part alone
      alone : Fills s w start f (now ++ []) (p ∷ []) f'
      alone = part is stays

      near : start + taken (now ++ []) ≤ length (bytes_of w)
      near = subst (λ l. start + taken l ≤ length (bytes_of w)) (sym (append-nil now)) (omega (arith, total))

      lies : IsLaid s w start f (now ++ []) (p ∷ []) f'
      lies = fills_laid s w start f (now ++ []) (p ∷ []) f' past near alone

      own_is : map stored q.records ≡ fills.records_in (p ∷ [])
      own_is = (same.0).records ∙ sym (append-nil (stands.stored_at p.blob_block_offset p.part_blob_offset (bytes_of p.part_data) p.indices.items))

      later : Holds s D f' (es ++ map entry_of q.records)
      later = subst (λ l. Holds s D f' (es ++ l)) (ap (map stands.entry_of) (sym own_is) ∙ entries_stored q.records)
          (subst (λ k. Holds s k f' (es ++ map stands.entry_of (fills.records_in (p ∷ [])))) (sym all_is)
          (holds_fills s w sizes B start f es (now ++ []) (p ∷ []) f' near (each_join (λ i. 0 < i.len) now [] someboth.0 tt) alone h))

      outside : stands.AllOutside (MayWrite s.index f') (map stored (so ++ q.records))
      outside = subst (stands.AllOutside (MayWrite s.index f')) (sym (map-append stored so q.records))
          (outside_join (MayWrite s.index f') (map stored so) (map stored q.records)
          (outside_less (MayWrite s.index f) (MayWrite s.index f') (map stored so) (records_less s f now) out)
          (subst (stands.AllOutside (MayWrite s.index f')) (sym own_is) lies.outside))

      in_index : (o : ℕ) → (IsBeside iw o → ⊥) → MayWrite s.index f' o
      in_index o inside =
          let b : q.blob ≡ f.blob = (same.0).blob ∙ is.blob in
          let n : length q.index ≡ s.index = ap length (same.0).index ∙ is.size in
          let low : o < q.blob → ⊥ = λ l. inside (inl l) in
          let high : q.blob + length q.index ≤ o → ⊥ = λ l. inside (inr l) in
          inr (omega (arith, b, low), omega (arith, b, n, high))

      beside_index : (o : ℕ) → (MayWrite s.index f' o → ⊥) → IsBeside iw o
      beside_index o away = elim (beside_or iw o) [ inl outside ↦ outside | inr inside ↦ absurd (away (in_index o inside)) ]

      beside_data : (o : ℕ) → (MayWrite s.index f o → ⊥) → IsBeside dw o
      beside_data o away = elim (beside_or dw o) [
        | inl outside ↦ outside
        | inr inside ↦ absurd (away ((lies.within).0 o (subst (λ k. IsBeside k o → ⊥) data_is inside)))
      ]

      in_front : (o : ℕ) → (MayWrite s.index f o → ⊥) → o < end_at
      in_front o away =
          let b : q.blob ≡ f.blob = (same.0).blob ∙ is.blob in
          let a : q.at ≡ f.at = (same.0).at ∙ is.at in
          let low : tail_of f ≤ o → ⊥ = λ l. away (inl l) in
          omega (arith, b, a, low)

      -- after its data are written the part's records stand: its index touches none of them
      own_stands : stands.AllStand M (map stored q.records)
      own_stands = stand_same (MayWrite s.index f') D M (map stored q.records) (subst (stands.AllOutside (MayWrite s.index f')) (sym own_is) lies.outside)
          (λ o away. sym (laid_beside iw M o (beside_index o away)))
          (subst (stands.AllStand D) (sym own_is)
          (subst (λ k. stands.AllStand k (fills.records_in (p ∷ []))) (sym all_is) (lies.stand B)))

      standing : stands.AllStand M (map stored (so ++ q.records))
      standing = subst (stands.AllStand M) (sym (map-append stored so q.records))
          (stand_join M (map stored so) (map stored q.records)
          (stand_same (MayWrite s.index f) B M (map stored so) out (λ o away. zeroed_before s.block end_at (laid dw B) o (in_front o away) ∙ laid_beside dw B o (beside_data o away)) stand)
          own_stands)

      within : AllWithin (MayWrite s.index f') (writes_of s.block qs)
      within = subst (AllWithin (MayWrite s.index f')) (sym (same_writes s.block qs more same.1))
          (fills_laid s w (start + taken now) f' rest more g (omega arith) (omega (arith, total)) fill).within

      known : (e : Entry) → In e (placed q.blob f'.listed) → In e puts ⊎ IsWrittenIn all M (iw ∷ writes_of s.block qs) e
      known e i =
          elim (in_either e puts (map entry_of (so ++ q.records))
          (subst (λ l. In e l) (sym later.all ∙ ap (λ l. l ++ map entry_of q.records) are ∙ append_assoc puts (map entry_of so) (map entry_of q.records) ∙ ap (λ l. puts ++ l) (sym (map-append entry_of so q.records)))
          (in_right e later.before (placed f'.blob f'.listed) (subst (λ b. In e (placed b f'.listed)) ((same.0).blob ∙ is.blob) i)))) [
            | inl before ↦ inl before
            | inr there ↦
                let r : (k : ℕ × Record C) × In k (so ++ q.records) × (e ≡ entry_of k) = entries_out e (so ++ q.records) there in
                let away : (o : ℕ) → (r.0).0 ≤ o → o < (r.0).0 + length ((r.0).1).bytes → MayWrite s.index f' o → ⊥ =
                λ o l m. let a : length ((r.0).1).bytes ≤ page_up (length ((r.0).1).bytes) = page_up-holds (length ((r.0).1).bytes) in
                outside_in (MayWrite s.index f') r.0 (so ++ q.records) outside r.1 o l (omega arith) in
                inr (
                  r.0,
                  into r.0 (subst (λ l. In r.0 l) (append_assoc so q.records (records_in qs)) (in_left r.0 (so ++ q.records) (records_in qs) r.1)),
                  r.2,
                  stand_in M r.0 (so ++ q.records) standing r.1,
                  (spared_one (MayWrite s.index f') r.0 iw away in_index, spared_all (MayWrite s.index f') r.0 (writes_of s.block qs) away within),
                )
          ]

      ind : ListsOnly (λ e. In e puts ⊎ IsWrittenIn all M (iw ∷ writes_of s.block qs) e) iw
      ind = (f'.listed, subst (λ b. IsSealed b f'.listed) (sym (same.0).index) is.index, known)
