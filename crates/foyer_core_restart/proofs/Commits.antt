-- The records of a block are committed.
use Rattle.std.proofs.lemmas.Bool.Decides.{nat_tests}
use Rattle.std.proofs.Common.{◌≡◌, ℕ, ◌+◌, ◌<◌, ◌≤◌, nat_le, Bool, true, false, if◌then◌else◌, Option, Some, None, List, [], ◌∷◌, ◌++◌, map, ◌⊎◌, inl, inr, refl, sym, ap, subst, ◌∙◌, arith}
use Rattle.foyer_format_layout.specs.Position.{Sizes}
use Rattle.foyer_format_layout.specs.BlockBytes.{all_laid}
use Rattle.foyer_format_buffer.specs.Position as laid
use Rattle.foyer_format_buffer.specs.Holding.{Holds}
use Rattle.foyer_core_model.specs.Numbers.{put}
use Rattle.foyer_core_model.specs.Record.{Address, Slot, Indexed, Source, Given, Reread, Record}
use Rattle.foyer_core_model.specs.Position.{records_of}
use Rattle.foyer_core_model.specs.State.{Submission, Piece, Remove, Await, Reinsert, Batch, Flusher, Writes}
use Rattle.foyer_core_model.specs.Rules.{Rules, flusher_of, sizes_of}
use Rattle.foyer_core_model.specs.Index.{sequence_at}
use Rattle.foyer_core_model.specs.Commit.{address_of, taken_in, committed_one}
use Rattle.foyer_core_model.specs.Access.{Idle}
use Rattle.foyer_core_model.specs.World.{Stored, with_stored}
use Rattle.foyer_core_model.proofs.Basics.{put_at, put_one, put_both, put_same, put_other, Ascends, ascends_span, ascends_from, AllAtLeast, ascends_at_least}
use Rattle.foyer_format_layout.specs.Each.{Each}
use Rattle.foyer_core_model.proofs.Invariant.{AllWell, put_in, puts_onto, queue_puts, sequences, batch_records, blocks_in, goes_on_in, start_of}
use Rattle.foyer_format_layout.proofs.EachLaws.{each_front, each_back}
use Rattle.foyer_core_model.proofs.CommitSteps.{committed, line_ascends}
use Rattle.foyer_core_restart.specs.Entries.{In, filled_to, entry_of, entry_at, entry_done}
use Rattle.foyer_core_restart.proofs.Tasks.{Entry, IsWrittenIn, role_more, TasksOk}
use Rattle.foyer_core_restart.proofs.Safe.{Sight, Job, job_in, left_in, results_in, SourceIs, RecordIs, SubmissionIs, AllWait, IsOf, IsBelow, IsSlot, IsDead, IsHeld, RestOk, WasDone, IsInJob, sequences_of, puts_in, IsSafe}
use Rattle.foyer_core_restart.proofs.Puts.{puts_more, puts_other, stored_out, stored_before, stored_in}
use Rattle.foyer_core_restart.proofs.Stop.{some_same, job_same}
use Rattle.foyer_core_restart.proofs.Owned.{IsOwned, alive}
use Rattle.foyer_core_restart.proofs.Issued.{same_or, awaits_cleaning}

-- ascending records

abbrev record_sequences : {C : Type 0} → List (Record C) → List ℕ
record_sequences [] = []
record_sequences (r ∷ rs) = r.sequence ∷ record_sequences rs

-- the number behind the last one
abbrev top : {C : Type 0} → ℕ → List (Record C) → ℕ
top k [] = k
top k (r ∷ rs) = top (r.sequence + 1) rs

consume_one : {C : Type 0} (P : ℕ → ℕ → Type 0) (k high : ℕ) (r : Record C) (src : Source C) (line : List (ℕ × ℕ)) → SourceIs P r src → Ascends k (sequences (put_in r.hash r.sequence src line)) high
    → (k ≤ r.sequence) × Ascends (r.sequence + 1) (sequences line) high
consume_one P k high r (Given c) line ok up = up
consume_one P k high r (Reread a) line ok up = absurd ok

consume : {C : Type 0} (P : ℕ → ℕ → Type 0) (k high : ℕ) (rs : List (Record C)) (line : List (ℕ × ℕ)) → Each (RecordIs P) rs → Ascends k (sequences (puts_onto rs line)) high
    → Ascends k (record_sequences rs) (top k rs) × Ascends (top k rs) (sequences line) high
consume P k high [] line ok up = (omega arith, up)
consume P k high (r ∷ rs) line ok up =
    let one : (k ≤ r.sequence) × Ascends (r.sequence + 1) (sequences (puts_onto rs line)) high = consume_one P k high r r.source (puts_onto rs line) ok.0 up in
    let more : Ascends (r.sequence + 1) (record_sequences rs) (top (r.sequence + 1) rs) × Ascends (top (r.sequence + 1) rs) (sequences line) high = consume P (r.sequence + 1) high rs line ok.1 one.1 in
    ((one.0, more.0), more.1)

lift : (low high : ℕ) (xs : List ℕ) → low ≤ high → AllAtLeast low xs → Ascends 0 xs high → Ascends low xs high
lift low high [] le all up = le
lift low high (x ∷ xs) le all up = (all.0, up.1)

onto_least_one : {C : Type 0} (low : ℕ) (P : ℕ → ℕ → Type 0) (r : Record C) (src : Source C) (line : List (ℕ × ℕ)) → ((h s : ℕ) → P h s → low ≤ s) → SourceIs P r src → AllAtLeast low (sequences line)
    → AllAtLeast low (sequences (put_in r.hash r.sequence src line))
onto_least_one low P r (Given c) line is ok all = (is r.hash r.sequence ok, all)
onto_least_one low P r (Reread a) line is ok all = absurd ok

onto_least : {C : Type 0} (low : ℕ) (P : ℕ → ℕ → Type 0) (rs : List (Record C)) (line : List (ℕ × ℕ)) → ((h s : ℕ) → P h s → low ≤ s) → Each (RecordIs P) rs → AllAtLeast low (sequences line)
    → AllAtLeast low (sequences (puts_onto rs line))
onto_least low P [] line is ok all = all
onto_least low P (r ∷ rs) line is ok all = onto_least_one low P r r.source (puts_onto rs line) is ok.0 (onto_least low P rs line is ok.1 all)

queue_least : {C : Type 0} (low : ℕ) (P : ℕ → ℕ → Type 0) (q : List (Submission C)) → ((h s : ℕ) → P h s → low ≤ s) → Each (SubmissionIs P) q → AllAtLeast low (sequences (queue_puts q))
queue_least low P [] is ok = tt
queue_least low P (Piece h s n c ∷ rest) is ok = (is h s ok.0, queue_least low P rest is ok.1)
queue_least low P (Remove h s invalidated ∷ rest) is ok = queue_least low P rest is ok.1
queue_least low P (Await i ∷ rest) is ok = queue_least low P rest is ok.1
queue_least low P (Reinsert h bytes a ∷ rest) is ok = absurd ok.0

-- what waits behind a number
raise_one : {C : Type 0} (m : ℕ) (P Q : ℕ → ℕ → Type 0) (r : Record C) (src : Source C) (line : List (ℕ × ℕ)) → ((h s : ℕ) → m ≤ s → P h s → Q h s) → SourceIs P r src → AllAtLeast m (sequences (put_in r.hash r.sequence src line))
    → SourceIs Q r src × AllAtLeast m (sequences line)
raise_one m P Q r (Given c) line up ok all = (up r.hash r.sequence all.0 ok, all.1)
raise_one m P Q r (Reread a) line up ok all = absurd ok

raise : {C : Type 0} (m : ℕ) (P Q : ℕ → ℕ → Type 0) (rs : List (Record C)) (line : List (ℕ × ℕ)) → ((h s : ℕ) → m ≤ s → P h s → Q h s) → Each (RecordIs P) rs → AllAtLeast m (sequences (puts_onto rs line))
    → Each (RecordIs Q) rs × AllAtLeast m (sequences line)
raise m P Q [] line up ok all = (tt, all)
raise {C} m P Q (r ∷ rs) line up ok all =
    let one : SourceIs Q r r.source × AllAtLeast m (sequences (puts_onto rs line)) = raise_one m P Q r r.source (puts_onto rs line) up ok.0 all in
    let more : Each (RecordIs Q) rs × AllAtLeast m (sequences line) = raise m P Q rs line up ok.1 one.1 in
    ((one.0, more.0), more.1)

raise_queue : {C : Type 0} (m : ℕ) (P Q : ℕ → ℕ → Type 0) (q : List (Submission C)) → ((h s : ℕ) → m ≤ s → P h s → Q h s) → Each (SubmissionIs P) q → AllAtLeast m (sequences (queue_puts q)) → Each (SubmissionIs Q) q
raise_queue m P Q [] up ok all = tt
raise_queue m P Q (Piece h s n c ∷ rest) up ok all = (up h s all.0 ok.0, raise_queue m P Q rest up ok.1 all.1)
raise_queue m P Q (Remove h s invalidated ∷ rest) up ok all = (tt, raise_queue m P Q rest up ok.1 all)
raise_queue m P Q (Await i ∷ rest) up ok all = (tt, raise_queue m P Q rest up ok.1 all)
raise_queue m P Q (Reinsert h bytes a ∷ rest) up ok all = absurd ok.0

-- what enters the index with the records of a block

abbrev rows : {C : Type 0} → List (ℕ × Record C) → List (Record C)
rows ps = map (λ p. p.1) ps

-- either the new address, or what was there and is greater
enters : {C : Type 0} (P : ℕ → ℕ → Type 0) (r : Record C) (src : Source C) (slot : Option Slot) (new c : Address) → SourceIs P r src → taken_in src slot new ≡ Some (Indexed c)
    → (new ≡ c) ⊎ ((slot ≡ Some (Indexed c)) × (new.sequence < c.sequence))
enters P r (Reread a) slot new c ok is = absurd ok
enters P r (Given d) None new c ok is = inl (let e : Some (Indexed new) ≡ Some (Indexed c) = is in cc)
enters P r (Given d) (Some old) new c ok is = go (nat_le (sequence_at old) new.sequence) refl is
  where
    go : (t : Bool) → nat_le (sequence_at old) new.sequence ≡ t → (if t then Some (Indexed new) else Some old) ≡ Some (Indexed c) → (new ≡ c) ⊎ ((Some old ≡ Some (Indexed c)) × (new.sequence < c.sequence))
    go true le e = inl (let f : Some (Indexed new) ≡ Some (Indexed c) = e in cc)
    go false le e = inr (e, (let f : old ≡ Indexed c = some_same old (Indexed c) e in let g : sequence_at old ≡ c.sequence = ap sequence_at f in grind (arith, nat_tests, g, le)))

commit_all : {C : Type 0} (P : ℕ → ℕ → Type 0) (b n : ℕ) (Q : ℕ → Address → Type 0) (ps : List (ℕ × Record C)) (m : ℕ → Option Slot) → Each (RecordIs P) (rows ps)
    → ((p : ℕ × Record C) → In p ps → Q (p.1).hash (address_of b n p)) → ((h : ℕ) (a : Address) → m h ≡ Some (Indexed a) → Q h a)
    → (h : ℕ) (a : Address) → committed b n ps m h ≡ Some (Indexed a) → Q h a
commit_all P b n Q [] m ok new old h a e = old h a e
commit_all P b n Q (p ∷ ps) m ok new old h a e =
    commit_all P b n Q ps (committed_one b n p m) ok.1 (λ q i. new q (inr i))
    (λ q c. put_at (λ x. x ≡ Some (Indexed c) → Q q c) m (p.1).hash (taken_in (p.1).source (m (p.1).hash) (address_of b n p)) q
    (λ at e. elim (enters P p.1 (p.1).source (m (p.1).hash) (address_of b n p) c ok.0 e) [
      | inl same ↦ subst (λ k. Q k c) (sym at) (subst (Q (p.1).hash) same (new p (inl refl)))
      | inr was ↦ old q c (ap m at ∙ was.0)
    ])
    (λ _ e. old q c e))
    h a e

-- a hash and a sequence of one of the records
abbrev IsRow : {C : Type 0} → ℕ → ℕ → List (ℕ × Record C) → Type 0
IsRow h s [] = ⊥
IsRow h s (p ∷ ps) = ((h ≡ (p.1).hash) × (s ≡ (p.1).sequence)) ⊎ IsRow h s ps

-- T says of which hashes and sequences records were committed: an address has the greatest
commit_top : {C : Type 0} (P : ℕ → ℕ → Type 0) (b n : ℕ) (T : ℕ → ℕ → Type 0) (low high : ℕ) (ps : List (ℕ × Record C)) (m : ℕ → Option Slot) → Each (RecordIs P) (rows ps)
    → Ascends low (record_sequences (rows ps)) high
    → ((h s t : ℕ) → IsRow h t ps → T h s → s < low)
    → ((h : ℕ) (a : Address) → m h ≡ Some (Indexed a) → (s : ℕ) → T h s → s ≤ a.sequence)
    → (h : ℕ) (a : Address) → committed b n ps m h ≡ Some (Indexed a) → (s : ℕ) → T h s ⊎ IsRow h s ps → s ≤ a.sequence
commit_top P b n T low high [] m ok up less old h a e s (inl t) = old h a e s t
commit_top P b n T low high [] m ok up less old h a e s (inr i) = absurd i
commit_top {C} P b n T low high (p ∷ ps) m ok up less old h a e s which =
    commit_top P b n (λ q s. T q s ⊎ ((q ≡ (p.1).hash) × (s ≡ (p.1).sequence))) ((p.1).sequence + 1) high ps (committed_one b n p m) ok.1 up.1
    (λ q s t i (k : T q s ⊎ ((q ≡ (p.1).hash) × (s ≡ (p.1).sequence))). elim k [
      | inl before ↦ (let l : s < low = less q s t (inr i) before in let m : low ≤ (p.1).sequence = up.0 in omega arith)
      | inr now ↦ (let is : s ≡ (p.1).sequence = now.1 in omega arith)
    ])
    (λ q c. put_at (λ x. x ≡ Some (Indexed c) → (s : ℕ) → T q s ⊎ ((q ≡ (p.1).hash) × (s ≡ (p.1).sequence)) → s ≤ c.sequence) m (p.1).hash (taken_in (p.1).source (m (p.1).hash) (address_of b n p)) q
    (λ at e s k. one q at c s k (enters P p.1 (p.1).source (m (p.1).hash) (address_of b n p) c ok.0 e))
    (λ ne e s k. elim k [ inl before ↦ old q c e s before | inr now ↦ absurd (ne now.0) ]))
    h a e s (elim which [ inl before ↦ inl (inl before) | inr i ↦ elim i [ inl now ↦ inl (inr now) | inr later ↦ inr later ] ])
  where
    one : (q : ℕ) → q ≡ (p.1).hash → (c : Address) (s : ℕ) → T q s ⊎ ((q ≡ (p.1).hash) × (s ≡ (p.1).sequence))
        → (address_of b n p ≡ c) ⊎ ((m (p.1).hash ≡ Some (Indexed c)) × ((p.1).sequence < c.sequence)) → s ≤ c.sequence
    one q at c s (inl before) (inl same) =
        let l : s < low = less q s (p.1).sequence (inl (at, refl)) before in
        let k : low ≤ (p.1).sequence = up.0 in
        let is : (p.1).sequence ≡ c.sequence = ap (λ k. k.sequence) same in omega arith
    one q at c s (inr now) (inl same) = let is : (p.1).sequence ≡ c.sequence = ap (λ k. k.sequence) same in let k : s ≡ (p.1).sequence = now.1 in omega arith
    one q at c s (inl before) (inr was) = old q c (ap m at ∙ was.0) s before
    one q at c s (inr now) (inr was) = let k : s ≡ (p.1).sequence = now.1 in let l : (p.1).sequence < c.sequence = was.1 in omega arith

-- of a record of ascending ones

row_of : {C : Type 0} (p : ℕ × Record C) (ps : List (ℕ × Record C)) → In p ps → IsRow (p.1).hash (p.1).sequence ps
row_of p [] i = absurd i
row_of p (q ∷ ps) (inl same) = inl (ap (λ k. (k.1).hash) same, ap (λ k. (k.1).sequence) same)
row_of p (q ∷ ps) (inr i) = inr (row_of p ps i)

row_routed : {C : Type 0} (P : ℕ → ℕ → Type 0) (h s : ℕ) (ps : List (ℕ × Record C)) → Each (RecordIs P) (rows ps) → IsRow h s ps → P h s
row_routed P h s [] ok i = absurd i
row_routed {C} P h s (p ∷ ps) ok (inl now) = subst (λ k. P k s) (sym now.0) (subst (P (p.1).hash) (sym now.1) (go (p.1).source ok.0))
  where
    go : (src : Source C) → SourceIs P p.1 src → P (p.1).hash (p.1).sequence
    go (Given c) k = k
    go (Reread a) k = absurd k
row_routed P h s (p ∷ ps) ok (inr i) = row_routed P h s ps ok.1 i

row_span : {C : Type 0} (low high : ℕ) (ps : List (ℕ × Record C)) (p : ℕ × Record C) → Ascends low (record_sequences (rows ps)) high → In p ps → (low ≤ (p.1).sequence) × ((p.1).sequence < high)
row_span low high [] p up i = absurd i
row_span low high (q ∷ ps) p up (inl same) =
    let is : (p.1).sequence ≡ (q.1).sequence = ap (λ k. (k.1).sequence) same in
    let a : low ≤ (q.1).sequence = up.0 in
    let b : (q.1).sequence + 1 ≤ high = ascends_span ((q.1).sequence + 1) (record_sequences (rows ps)) high up.1 in
    (omega arith, omega arith)
row_span low high (q ∷ ps) p up (inr i) =
    let r : ((q.1).sequence + 1 ≤ (p.1).sequence) × ((p.1).sequence < high) = row_span ((q.1).sequence + 1) high ps p up.1 i in
    let a : low ≤ (q.1).sequence = up.0 in
    let b : (q.1).sequence + 1 ≤ (p.1).sequence = r.0 in
    (omega arith, r.1)

row_one : {C : Type 0} (low high : ℕ) (ps : List (ℕ × Record C)) (p q : ℕ × Record C) → Ascends low (record_sequences (rows ps)) high → In p ps → In q ps → (p.1).sequence ≡ (q.1).sequence → p ≡ q
row_one low high [] p q up i j same = absurd i
row_one low high (x ∷ ps) p q up (inl a) (inl b) same = a ∙ sym b
row_one low high (x ∷ ps) p q up (inl a) (inr j) same =
    let r : ((x.1).sequence + 1 ≤ (q.1).sequence) × ((q.1).sequence < high) = row_span ((x.1).sequence + 1) high ps q up.1 j in
    let l : (x.1).sequence + 1 ≤ (q.1).sequence = r.0 in
    let is : (p.1).sequence ≡ (x.1).sequence = ap (λ k. (k.1).sequence) a in absurd (omega arith)
row_one low high (x ∷ ps) p q up (inr i) (inl b) same =
    let r : ((x.1).sequence + 1 ≤ (p.1).sequence) × ((p.1).sequence < high) = row_span ((x.1).sequence + 1) high ps p up.1 i in
    let l : (x.1).sequence + 1 ≤ (p.1).sequence = r.0 in
    let is : (q.1).sequence ≡ (x.1).sequence = ap (λ k. (k.1).sequence) b in absurd (omega arith)
row_one low high (x ∷ ps) p q up (inr i) (inr j) same = row_one ((x.1).sequence + 1) high ps p q up.1 i j same

join_up : {C : Type 0} (low mid high : ℕ) (es : List Entry) (ps : List (ℕ × Record C)) → Ascends low (sequences_of es) mid → Ascends mid (record_sequences (rows ps)) high
    → Ascends low (sequences_of (es ++ map entry_of ps)) high
join_up {C} low mid high [] ps h k = ascends_from low mid (sequences_of (map entry_of ps)) high h (as_entries mid ps k)
  where
    as_entries : (mid : ℕ) (ps : List (ℕ × Record C)) → Ascends mid (record_sequences (rows ps)) high → Ascends mid (sequences_of (map entry_of ps)) high
    as_entries mid [] k = k
    as_entries mid (p ∷ ps) k = (k.0, as_entries ((p.1).sequence + 1) ps k.1)
join_up low mid high (e ∷ es) ps h k = (h.0, join_up (e.sequence + 1) mid high es ps h.1 k)

module _ (A : Type 0) {C : Type 0} (rules : Rules C) where
  pub commits : (v : Sight C) (f b : ℕ) (ps : List (ℕ × Record C)) (batch : Batch C) (s : IsSafe A rules v) → IsOwned rules v
      → (v.flushers f).batch ≡ Some batch → job_in (v.flushers f) ≡ Some (b, ps) → batch_records (v.flushers f).batch ≡ rows ps ++ records_of batch.blocks → left_in (v.block_writes f) ≡ []
      → IsSafe A rules (record v {
        index = committed b (v.filling b) ps v.index;
        flushers = put v.flushers f (record (v.flushers f) { batch = Some (record batch { writing = None }) });
        committed = with_stored b (v.filling b) ps v.committed;
        block_writes = put v.block_writes f Idle;
      })
  commits v f b ps batch s o is is_job records left = record {
    low = low';
    lines = record {
      lows = put_one (λ q m. m ≤ v.next) s.low f mid (ascends_span mid (sequences (puts_onto (records_of batch.blocks) rest)) v.next split.1) (λ q _. s.lines.lows q);
      waits = put_both (λ q m φ. AllWait (λ h n. (m ≤ n) × (flusher_of rules h ≡ q)) φ) s.low v.flushers f mid ψ
          (record { batch = raised.0; buffer = raised_buffer.0; queue = raise_queue mid Pf Pm (v.flushers f).queue higher (s.lines.waits f).queue raised_buffer.1 })
          (λ q _. s.lines.waits q);
    };
    done = record {
      below = λ x i. elim (stored_out b n x ps v.committed i) [
        | inl before ↦ (let k : IsBelow rules s.low v.filling x = s.done.below x before in
            record {
              sequence = let l : x.content.sequence < s.low (flusher_of rules x.content.hash) = k.sequence in let m : s.low (flusher_of rules x.content.hash) ≤ low' (flusher_of rules x.content.hash) = low_more (flusher_of rules x.content.hash) in omega arith;
              block = k.block;
              count = k.count;
            })
        | inr (at, of, among) ↦ (let sp : (s.low f ≤ x.content.sequence) × (x.content.sequence < mid) = row_span (s.low f) mid ps (x.offset, x.content) split.0 among in
            record {
              sequence = subst (λ g. x.content.sequence < low' g) (sym (routed (x.offset, x.content) among)) (subst (λ m. x.content.sequence < m) (sym (put_same s.low f mid)) sp.1);
              block = subst (λ d. d < rules.blocks) (sym at) (o.below f b own);
              count = let e : v.filling x.block ≡ v.filling b = ap v.filling at in omega arith;
            })
      ];
      unique = λ x y i j hash sequence. elim (stored_out b n x ps v.committed i) [
        | inl x_before ↦ elim (stored_out b n y ps v.committed j) [
          | inl y_before ↦ s.done.unique x y x_before y_before hash sequence
          | inr (at, of, among) ↦ absurd (apart y x at among x_before (sym hash) (sym sequence))
        ]
        | inr (x_at, x_of, x_among) ↦ elim (stored_out b n y ps v.committed j) [
          | inl y_before ↦ absurd (apart x y x_at x_among y_before hash sequence)
          | inr (at, of, among) ↦ (x_at ∙ sym at, ap entry_of (row_one (s.low f) mid ps (x.offset, x.content) (y.offset, y.content) split.0 x_among among sequence))
        ]
      ];
    };
    slots = slot;
    ups = record {
      ascends = λ c. elim (same_or c b) [
        | inl at ↦ (mid, subst (λ d. Ascends 0 (sequences_of (puts' d)) mid) (sym at) grown)
        | inr other ↦ subst (λ l. (k : ℕ) × Ascends 0 (sequences_of l) k) (sym (puts_far c other)) (s.ups.ascends c)
      ];
      owned = λ q c. put_both (λ q m φ. φ.own ≡ Some c → Ascends 0 (sequences_of (puts' c)) m) s.low v.flushers f mid ψ
          (λ e. subst (λ d. Ascends 0 (sequences_of (puts' d)) mid) (some_same b c (sym own ∙ e)) grown)
          (λ q ne e. subst (λ l. Ascends 0 (sequences_of l) (s.low q)) (sym (puts_far c (λ at. ne (o.one q f b (e ∙ ap Some at) own)))) (s.ups.owned q c e)) q;
    };
    still = λ c living no_job. elim (same_or c b) [
      | inl at ↦ (filled_to (v.filled b), subst (λ d. Holds sz (v.bytes d) (filled_to (v.filled b)) (puts' d)) (sym at) written)
      | inr other ↦ subst (λ l. (g : laid.Position) × Holds sz (v.bytes c) g l) (sym (puts_far c other))
          (s.still c living (λ (q, qs, at_job). no_job (q, qs, kept_job q c qs at_job other)))
    ];
    held = put_both (λ q φ p. IsHeld sz v.filled v.bytes puts' φ.own (job_in φ) (left_in p)) v.flushers v.block_writes f ψ Idle
        (record {
          mine = λ c owns none. subst (λ d. Holds sz (v.bytes d) (filled_to (v.filled d)) (puts' d)) (some_same b c (sym own ∙ owns)) written;
          writing = λ c qs at_job. let j : Job C = (c, qs) in absurd (let x : None ≡ Some j = at_job in cc);
        })
        (λ q ne. record {
          mine = λ c owns none. subst (λ l. Holds sz (v.bytes c) (filled_to (v.filled c)) l) (sym (puts_far c (λ at. ne (o.one q f b (owns ∙ ap Some at) own)))) ((s.held q).mine c owns none);
          writing = λ c qs at_job. subst (λ l. Holds sz (all_laid (left_in (v.block_writes q)) (v.bytes c)) (filled_to (v.filled c)) (l ++ map entry_of qs) × TasksOk l qs (v.bytes c) (left_in (v.block_writes q)))
              (sym (puts_far c (λ at. ne (o.one q f b (o.job q c qs at_job ∙ ap Some at) own)))) ((s.held q).writing c qs at_job);
        });
    rests = put_one (λ q φ. RestOk A sz (filled_to (start_of rules v.filled φ.own (goes_on_in φ.batch))) (blocks_in φ.batch)) v.flushers f ψ
        (subst (λ k. RestOk A sz (filled_to (start_of rules v.filled (v.flushers f).own (goes_on_in k))) (blocks_in k)) is (s.rests f)) (λ q _. s.rests q);
    well = put_one (λ q p. AllWell (results_in p)) v.block_writes f Idle tt (λ q _. s.well q);
    log = λ c x i. role_more x.role _ _ x (λ e k. elim k [
      | inl (y, among, at, entry) ↦ inl (y, stored_before b n y ps v.committed among, at, entry)
      | inr (q, qs, at_job, there) ↦ logged c e q qs at_job there
    ]) (s.log c x i);
    apart = record {
      dirty = s.apart.dirty;
      idle = λ e. absurd (let x : None ≡ Some b = sym (s.apart.idle e f).0 ∙ own in cc);
      none = s.apart.none;
      cleaned = λ c a. absurd (let x : None ≡ Some b = sym (s.apart.idle (awaits_cleaning c v.destroy a) f).0 ∙ own in cc);
      handed = put_one (λ q φ. (c : ℕ) → φ.ready ≡ Some c → puts' c ≡ []) v.flushers f ψ (λ c e. absurd (o.either f b c own e))
          (λ q ne c e. puts_far c (λ at. ne (let x : v.place b ≡ Writes f = o.place f b own in let y : v.place c ≡ Writes q = (o.ready q c e).0 in let z : v.place c ≡ v.place b = ap v.place at in cc)) ∙ s.apart.handed q c e);
    };
    reads = s.reads;
  }
    where
      sz : Sizes
      sz = sizes_of rules

      n : ℕ
      n = v.filling b

      ψ : Flusher C
      ψ = record (v.flushers f) { batch = Some (record batch { writing = None }) }

      puts : ℕ → List Entry
      puts = puts_in v.filling v.committed

      puts' : ℕ → List Entry
      puts' = puts_in v.filling (with_stored b n ps v.committed)

      puts_far : (c : ℕ) → (c ≡ b → ⊥) → puts' c ≡ puts c
      puts_far c other = puts_other b n c (v.filling c) ps v.committed other

      puts_here : puts' b ≡ puts b ++ map entry_of ps
      puts_here = puts_more b n ps v.committed

      own : (v.flushers f).own ≡ Some b
      own = o.job f b ps is_job

      Pf : ℕ → ℕ → Type 0
      Pf = IsOf rules s.low f

      all : Each (RecordIs Pf) (rows ps ++ records_of batch.blocks)
      all = subst (Each (RecordIs Pf)) records (s.lines.waits f).batch

      given : Each (RecordIs Pf) (rows ps)
      given = each_front (RecordIs Pf) (rows ps) (records_of batch.blocks) all

      rest : List (ℕ × ℕ)
      rest = puts_onto (v.flushers f).buffer (queue_puts (v.flushers f).queue)

      rest_least : AllAtLeast (s.low f) (sequences rest)
      rest_least = onto_least (s.low f) Pf (v.flushers f).buffer (queue_puts (v.flushers f).queue) (λ h k ok. ok.0) (s.lines.waits f).buffer (queue_least (s.low f) Pf (v.flushers f).queue (λ h k ok. ok.0) (s.lines.waits f).queue)

      line : Ascends (s.low f) (sequences (puts_onto (rows ps ++ records_of batch.blocks) rest)) v.next
      line = lift (s.low f) v.next (sequences (puts_onto (rows ps ++ records_of batch.blocks) rest)) (s.lines.lows f)
          (onto_least (s.low f) Pf (rows ps ++ records_of batch.blocks) rest (λ h k ok. ok.0) all rest_least)
          (subst (λ rs. Ascends 0 (sequences (puts_onto rs rest)) v.next) records (line_ascends v.next (v.flushers f) (o.order f)))

      mid : ℕ
      mid = top (s.low f) (rows ps)

      split : Ascends (s.low f) (record_sequences (rows ps)) mid × Ascends mid (sequences (puts_onto (records_of batch.blocks) rest)) v.next
      split = consume Pf (s.low f) v.next (rows ps) (puts_onto (records_of batch.blocks) rest) given
          (subst (λ l. Ascends (s.low f) (sequences l) v.next) (Rattle.foyer_core_model.proofs.CommitSteps.onto_append (rows ps) (records_of batch.blocks) rest) line)

      low' : ℕ → ℕ
      low' = put s.low f mid

      low_more : (q : ℕ) → s.low q ≤ low' q
      low_more q = put_at (λ m. s.low q ≤ m) s.low f mid q
          (λ at. let l : s.low f ≤ mid = ascends_span (s.low f) (record_sequences (rows ps)) mid split.0 in let e : s.low q ≡ s.low f = ap s.low at in omega arith) (λ _. omega arith)

      Pm : ℕ → ℕ → Type 0
      Pm h k = (mid ≤ k) × (flusher_of rules h ≡ f)

      higher : (h k : ℕ) → mid ≤ k → Pf h k → Pm h k
      higher h k le ok = (le, ok.1)

      raised : Each (RecordIs Pm) (records_of batch.blocks) × AllAtLeast mid (sequences rest)
      raised = raise mid Pf Pm (records_of batch.blocks) rest higher (each_back (RecordIs Pf) (rows ps) (records_of batch.blocks) all)
          (ascends_at_least mid (sequences (puts_onto (records_of batch.blocks) rest)) v.next split.1)

      raised_buffer : Each (RecordIs Pm) (v.flushers f).buffer × AllAtLeast mid (sequences (queue_puts (v.flushers f).queue))
      raised_buffer = raise mid Pf Pm (v.flushers f).buffer (queue_puts (v.flushers f).queue) higher (s.lines.waits f).buffer raised.1

      routed : (p : ℕ × Record C) → In p ps → flusher_of rules (p.1).hash ≡ f
      routed p i = (row_routed Pf (p.1).hash (p.1).sequence ps given (row_of p ps i)).1

      -- a record committed now has another hash or sequence than one of those before
      apart : (x y : Stored C) → x.block ≡ b → In (x.offset, x.content) ps → In y v.committed → x.content.hash ≡ y.content.hash → x.content.sequence ≡ y.content.sequence → ⊥
      apart x y at among before hash sequence =
          let l : s.low f ≤ x.content.sequence = (row_span (s.low f) mid ps (x.offset, x.content) split.0 among).0 in
          let m : y.content.sequence < s.low (flusher_of rules y.content.hash) = (s.done.below y before).sequence in
          let e : s.low (flusher_of rules y.content.hash) ≡ s.low f = ap s.low (ap (flusher_of rules) (sym hash) ∙ routed (x.offset, x.content) among) in
          omega arith

      grown : Ascends 0 (sequences_of (puts' b)) mid
      grown = subst (λ l. Ascends 0 (sequences_of l) mid) (sym puts_here) (join_up 0 (s.low f) mid (puts b) ps (s.ups.owned f b own) split.0)

      written : Holds sz (v.bytes b) (filled_to (v.filled b)) (puts' b)
      written = subst (Holds sz (v.bytes b) (filled_to (v.filled b))) (sym puts_here)
          (subst (λ l. Holds sz (all_laid (l) (v.bytes b)) (filled_to (v.filled b)) (puts b ++ map entry_of ps)) left ((s.held f).writing b ps is_job).0)

      kept_job : (q c : ℕ) (qs : List (ℕ × Record C)) → job_in (v.flushers q) ≡ Some (c, qs) → (c ≡ b → ⊥) → job_in (put v.flushers f ψ q) ≡ Some (c, qs)
      kept_job q c qs at_job other = ap job_in (put_other v.flushers f ψ q (λ at. other (sym (job_same (b, ps) (c, qs) (sym is_job ∙ ap (λ k. job_in (v.flushers k)) (sym at) ∙ at_job)).0))) ∙ at_job

      logged : (c : ℕ) (e : Entry) (q : ℕ) (qs : List (ℕ × Record C)) → job_in (v.flushers q) ≡ Some (c, qs) → IsWrittenIn qs (v.bytes c) (left_in (v.block_writes q)) e
          → WasDone (with_stored b n ps v.committed) c e ⊎ IsInJob (λ k. job_in (put v.flushers f ψ k)) v.bytes (λ k. left_in (put v.block_writes f Idle k)) c e
      logged c e q qs at_job there = elim (same_or q f) [
        | inl at ↦
            let same : (b ≡ c) × (ps ≡ qs) = job_same (b, ps) (c, qs) (sym is_job ∙ ap (λ k. job_in (v.flushers k)) (sym at) ∙ at_job) in
            let among : In there.0 ps = subst (λ l. In there.0 l) (sym same.1) there.1 in
            inl (record { block = b; filling = n; offset = (there.0).0; content = (there.0).1 }, stored_in b n there.0 ps v.committed among, same.0, sym there.2)
        | inr ne ↦ inr (q, qs, ap job_in (put_other v.flushers f ψ q ne) ∙ at_job, subst (λ p. IsWrittenIn qs (v.bytes c) (left_in p) e) (sym (put_other v.block_writes f Idle q ne)) there)
      ]

      -- slots

      greatest : (h : ℕ) (a : Address) → committed b n ps v.index h ≡ Some (Indexed a) → (y : Stored C) → In y (with_stored b n ps v.committed) → y.content.hash ≡ h → y.content.sequence ≤ a.sequence
      greatest h a e y i hash =
          commit_top Pf b n (λ h k. (x : Stored C) × In x v.committed × (x.content.hash ≡ h) × (x.content.sequence ≡ k)) (s.low f) mid ps v.index given split.0
          (λ h k t row (x, among, at, of).
          let l : x.content.sequence < s.low (flusher_of rules x.content.hash) = (s.done.below x among).sequence in
          let e : s.low (flusher_of rules x.content.hash) ≡ s.low f = ap s.low (ap (flusher_of rules) at ∙ (row_routed Pf h t ps given row).1) in
          omega arith)
          (λ h a e k (x, among, at, of). let l : x.content.sequence ≤ a.sequence = (s.slots h a e).top x among at in omega arith)
          h a e y.content.sequence
          (elim (stored_out b n y ps v.committed i) [
            | inl before ↦ inl (y, before, hash, refl)
            | inr (at, of, among) ↦ inr (subst (λ k. IsRow k y.content.sequence ps) hash (row_of (y.offset, y.content) ps among))
          ])

      -- all of a slot's fact but that it has the greatest sequence
      Lies : ℕ → Address → Type 0
      Lies h a = (a.filling ≡ v.filling a.block) × ((x : Stored C) × In x (with_stored b n ps v.committed) × (x.block ≡ a.block) × (x.filling ≡ a.filling) × (entry_done x ≡ entry_at h a))
          × (IsDead v.place v.reclaims a.block → ⊥)

      lies : (h : ℕ) (a : Address) → committed b n ps v.index h ≡ Some (Indexed a) → Lies h a
      lies h a e = commit_all Pf b n Lies ps v.index given
          (λ p i. (refl, (record { block = b; filling = n; offset = p.0; content = p.1 }, stored_in b n p ps v.committed i, refl, refl, refl), alive rules v o f b (o.place f b own)))
          (λ h a e. let k : IsSlot v.filling v.committed v.place v.reclaims h a = s.slots h a e in
          (k.present, (k.stored, stored_before b n k.stored ps v.committed k.among, k.block, k.count, k.entry), k.alive))
          h a e

      slot : (h : ℕ) (a : Address) → committed b n ps v.index h ≡ Some (Indexed a) → IsSlot v.filling (with_stored b n ps v.committed) v.place v.reclaims h a
      slot h a e =
          let k : Lies h a = lies h a e in
          record { present = k.0; stored = (k.1).0; among = (k.1).1; block = (k.1).2; count = (k.1).3; entry = (k.1).4; alive = k.2; top = greatest h a e }
