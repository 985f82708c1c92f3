-- What commits and removed marks do to the slot of a hash.
use Rattle.std.proofs.Common.{◌≡◌, ℕ, ◌+◌, ◌<◌, ◌≤◌, ◌==◌, nat_le, Bool, true, false, ◌&&◌, if◌then◌else◌, List, [], ◌∷◌, ◌++◌, map, Option, Some, None, refl, sym, ap, subst, ◌∙◌, arith}
use Rattle.std.proofs.lemmas.Bool.{eqb-true, eqb-false}
use Rattle.std.proofs.lemmas.Bool.Decides.{nat_tests}
use Rattle.foyer_core_model.specs.Numbers.{put}
use Rattle.foyer_core_model.specs.Record.{Address, Slot, Indexed, Mark, Outcome, Holds, Source, Given, Reread, Record}
use Rattle.foyer_core_model.specs.State.{Submission, Piece, Remove, Await, Reinsert, Flusher}
use Rattle.foyer_core_model.specs.Rules.{Rules, flusher_of}
use Rattle.foyer_core_model.specs.Index.{is_same, holds, inserted, without_mark, unmarked}
use Rattle.foyer_core_model.specs.Commit.{address_of, taken_in, is_put, committed_one, commit_of}
use Rattle.foyer_core_model.specs.Event.{Event, Put, Deletion, sequence_in, newest, outcome_in, put_event, with_puts}
use Rattle.foyer_core_model.specs.Access.{BlockWrites}
use Rattle.foyer_core_model.proofs.Basics.{put_at, put_other, Ascends, ascends_span, ascends_from, AllAtLeast, ascends_at_least}
use Rattle.foyer_format_layout.specs.Each.{Each}
use Rattle.foyer_core_model.proofs.Invariant.{Ground, IsGood, put_in, puts_onto, queue_puts, batch_records, line_of, AtLeast, SlotOk, sequences, queue_sequences, IsOrdered, SourceOk, RecordOk, IsFaithful}
use Rattle.foyer_core_model.proofs.GoodAddresses.{slot_lift}

-- the index and the history, record by record

abbrev pub committed : {C : Type 0} → ℕ → ℕ → List (ℕ × Record C) → (ℕ → Option Slot) → ℕ → Option Slot
committed block filling [] m = m
committed block filling (p ∷ ps) m = committed block filling ps (committed_one block filling p m)

abbrev pub noted_one : {C : Type 0} → Record C → Source C → Option Slot → List (Event C) → List (Event C)
noted_one r (Given c) slot H = Put r.hash r.sequence (Holds c) ∷ H
noted_one r (Reread over) slot H = if holds over slot then Put r.hash r.sequence (outcome_in (newest r.hash H)) ∷ H else H

abbrev pub noted : {C : Type 0} → ℕ → ℕ → List (ℕ × Record C) → (ℕ → Option Slot) → List (Event C) → List (Event C)
noted b n [] m H = H
noted b n (p ∷ ps) m H = noted b n ps (committed_one b n p m) (noted_one p.1 (p.1).source (m (p.1).hash) H)

pub committed_is : {C : Type 0} (b n : ℕ) (ps : List (ℕ × Record C)) (m : ℕ → Option Slot) → (commit_of b n ps m).index ≡ committed b n ps m
committed_is b n [] m = refl
committed_is b n (p ∷ ps) m = committed_is b n ps (committed_one b n p m)

pub noted_is : {C : Type 0} (b n : ℕ) (ps : List (ℕ × Record C)) (m : ℕ → Option Slot) (H : List (Event C)) → with_puts (commit_of b n ps m).puts H ≡ noted b n ps m H
noted_is b n [] m H = refl
noted_is {C} b n (p ∷ ps) m H =
    one (p.1).source (m (p.1).hash) refl ∙ noted_is b n ps (committed_one b n p m) (noted_one p.1 (p.1).source (m (p.1).hash) H)
  where
    rest : List (Record C)
    rest = (commit_of b n ps (committed_one b n p m)).puts

    again : (a : Address) (src : Source C) → (p.1).source ≡ src → src ≡ Reread a → (t : Bool)
        → with_puts (if t then p.1 ∷ rest else rest) H ≡ with_puts rest (if t then Put (p.1).hash (p.1).sequence (outcome_in (newest (p.1).hash H)) ∷ H else H)
    again a src is re true = ap (λ k. with_puts rest (put_event p.1 k H ∷ H)) (is ∙ re)
    again a src is re false = refl

    one : (src : Source C) (slot : Option Slot) → (p.1).source ≡ src
        → with_puts (if is_put src slot then p.1 ∷ rest else rest) H ≡ with_puts rest (noted_one p.1 src slot H)
    one (Given c) slot is = ap (λ k. with_puts rest (put_event p.1 k H ∷ H)) is
    one (Reread a) slot is = again a (Reread a) is refl (holds a slot)

-- newest

pub newest_put : {C : Type 0} (h s : ℕ) (o : Outcome C) (H : List (Event C)) → sequence_in (newest h H) ≤ s → newest h (Put h s o ∷ H) ≡ Some (Put h s o)
newest_put {C} h s o H le = go (h == h) refl (nat_le (sequence_in (newest h H)) s) refl
  where
    go : (p : Bool) → (h == h) ≡ p → (q : Bool) → nat_le (sequence_in (newest h H)) s ≡ q → (if p && q then Some (Put h s o) else newest h H) ≡ Some (Put h s o)
    go true e true f = refl
    go true e false f = absurd (grind (arith, nat_tests))
    go false e q f = absurd (eqb-false h h e refl)

pub newest_kept : {C : Type 0} (h s : ℕ) (o : Outcome C) (H : List (Event C)) → s < sequence_in (newest h H) → newest h (Put h s o ∷ H) ≡ newest h H
newest_kept {C} h s o H lt = go (h == h) (nat_le (sequence_in (newest h H)) s) refl
  where
    go : (p : Bool) (q : Bool) → nat_le (sequence_in (newest h H)) s ≡ q → (if p && q then Some (Put h s o) else newest h H) ≡ newest h H
    go true true f = absurd (grind (arith, nat_tests))
    go true false f = refl
    go false q f = refl

pub newest_other : {C : Type 0} (h s : ℕ) (o : Outcome C) (H : List (Event C)) (q : ℕ) → (h ≡ q → ⊥) → newest q (Put h s o ∷ H) ≡ newest q H
newest_other {C} h s o H q ne = go (h == q) refl
  where
    go : (p : Bool) → (h == q) ≡ p → (if p && nat_le (sequence_in (newest q H)) s then Some (Put h s o) else newest q H) ≡ newest q H
    go true e = absurd (ne (eqb-true h q e))
    go false e = refl

pub newest_below : {C : Type 0} (h s : ℕ) (o : Outcome C) (H : List (Event C)) (q n : ℕ) → s < n → sequence_in (newest q H) < n → sequence_in (newest q (Put h s o ∷ H)) < n
newest_below {C} h s o H q n lt below = go (h == q && nat_le (sequence_in (newest q H)) s)
  where
    go : (p : Bool) → sequence_in (if p then Some (Put h s o) else newest q H) < n
    go true = lt
    go false = below

pub newest_del : {C : Type 0} (h s : ℕ) (H : List (Event C)) → sequence_in (newest h H) ≤ s → newest h (Deletion h s ∷ H) ≡ Some (Deletion h s)
newest_del {C} h s H le = go (h == h) refl (nat_le (sequence_in (newest h H)) s) refl
  where
    go : (p : Bool) → (h == h) ≡ p → (q : Bool) → nat_le (sequence_in (newest h H)) s ≡ q → (if p && q then Some (Deletion h s) else newest h H) ≡ Some (Deletion h s)
    go true e true f = refl
    go true e false f = absurd (grind (arith, nat_tests))
    go false e q f = absurd (eqb-false h h e refl)

pub newest_del_other : {C : Type 0} (h s : ℕ) (H : List (Event C)) (q : ℕ) → (h ≡ q → ⊥) → newest q (Deletion h s ∷ H) ≡ newest q H
newest_del_other {C} h s H q ne = go (h == q) refl
  where
    go : (p : Bool) → (h == q) ≡ p → (if p && nat_le (sequence_in (newest q H)) s then Some (Deletion h s) else newest q H) ≡ newest q H
    go true e = absurd (ne (eqb-true h q e))
    go false e = refl

pub newest_del_below : {C : Type 0} (h s : ℕ) (H : List (Event C)) (q n : ℕ) → s < n → sequence_in (newest q H) < n → sequence_in (newest q (Deletion h s ∷ H)) < n
newest_del_below {C} h s H q n lt below = go (h == q && nat_le (sequence_in (newest q H)) s)
  where
    go : (p : Bool) → sequence_in (if p then Some (Deletion h s) else newest q H) < n
    go true = lt
    go false = below

-- an older delete changes nothing
pub newest_del_past : {C : Type 0} (h s : ℕ) (H : List (Event C)) (q : ℕ) → s < sequence_in (newest h H) → newest q (Deletion h s ∷ H) ≡ newest q H
newest_del_past {C} h s H q lt = go (h == q) refl (nat_le (sequence_in (newest q H)) s) refl
  where
    go : (p : Bool) → (h == q) ≡ p → (t : Bool) → nat_le (sequence_in (newest q H)) s ≡ t → (if p && t then Some (Deletion h s) else newest q H) ≡ newest q H
    go true e true f = absurd (let above : s < sequence_in (newest q H) = subst (λ k. s < sequence_in (newest k H)) (eqb-true h q e) lt in grind (arith, nat_tests))
    go true e false f = refl
    go false e t f = refl

-- lines

pub at_least_all : (h n m : ℕ) (line : List (ℕ × ℕ)) → n ≤ m → AllAtLeast m (sequences line) → AtLeast h n line
at_least_all h n m [] le all = tt
at_least_all h n m (p ∷ ps) le all = (λ _. let a : m ≤ p.1 = all.0 in omega arith, at_least_all h n m ps le all.1)

pub at_least_weaker : (h n m : ℕ) (line : List (ℕ × ℕ)) → n ≤ m → AtLeast h m line → AtLeast h n line
at_least_weaker h n m [] le all = tt
at_least_weaker h n m (p ∷ ps) le all = (λ e. let a : m ≤ p.1 = all.0 e in omega arith, at_least_weaker h n m ps le all.1)

-- lines of new pieces

pub each_put_on : {C : Type 0} (P : ℕ × ℕ → Type 0) (h s : ℕ) (src : Source C) (l l' : List (ℕ × ℕ)) → (Each P l → Each P l') → Each P (put_in h s src l) → Each P (put_in h s src l')
each_put_on P h s (Given c) l l' f all = (all.0, f all.1)
each_put_on P h s (Reread a) l l' f all = f all

pub each_put_rest : {C : Type 0} (P : ℕ × ℕ → Type 0) (h s : ℕ) (src : Source C) (l : List (ℕ × ℕ)) → Each P (put_in h s src l) → Each P l
each_put_rest P h s (Given c) l all = all.1
each_put_rest P h s (Reread a) l all = all

pub each_onto : {C : Type 0} (P : ℕ × ℕ → Type 0) (rs : List (Record C)) (l l' : List (ℕ × ℕ)) → (Each P l → Each P l') → Each P (puts_onto rs l) → Each P (puts_onto rs l')
each_onto P [] l l' f all = f all
each_onto P (r ∷ rs) l l' f all = each_put_on P r.hash r.sequence r.source (puts_onto rs l) (puts_onto rs l') (each_onto P rs l l' f) all

pub each_past : {C : Type 0} (P : ℕ × ℕ → Type 0) (rs : List (Record C)) (l : List (ℕ × ℕ)) → Each P (puts_onto rs l) → Each P l
each_past P [] l all = all
each_past P (r ∷ rs) l all = each_past P rs l (each_put_rest P r.hash r.sequence r.source (puts_onto rs l) all)

pub onto_append : {C : Type 0} (a b : List (Record C)) (l : List (ℕ × ℕ)) → puts_onto (a ++ b) l ≡ puts_onto a (puts_onto b l)
onto_append [] b l = refl
onto_append (r ∷ a) b l = ap (put_in r.hash r.sequence r.source) (onto_append a b l)

pub ascends_put_on : {C : Type 0} (low high high' h s : ℕ) (src : Source C) (l l' : List (ℕ × ℕ)) → ((k : ℕ) → Ascends k (sequences l) high → Ascends k (sequences l') high')
    → Ascends low (sequences (put_in h s src l)) high → Ascends low (sequences (put_in h s src l')) high'
ascends_put_on low high high' h s (Given c) l l' f up = (up.0, f (s + 1) up.1)
ascends_put_on low high high' h s (Reread a) l l' f up = f low up

pub ascends_put_rest : {C : Type 0} (low high h s : ℕ) (src : Source C) (l : List (ℕ × ℕ)) → Ascends low (sequences (put_in h s src l)) high → Ascends low (sequences l) high
ascends_put_rest low high h s (Given c) l up = let le : low ≤ s = up.0 in ascends_from low (s + 1) (sequences l) high (omega arith) up.1
ascends_put_rest low high h s (Reread a) l up = up

pub ascends_skip : {C : Type 0} (low high : ℕ) (a b : List (Record C)) → Ascends low (sequences (puts_onto (a ++ b) [])) high → Ascends low (sequences (puts_onto b [])) high
ascends_skip low high [] b h = h
ascends_skip low high (r ∷ a) b h = ascends_skip low high a b (ascends_put_rest low high r.hash r.sequence r.source (puts_onto (a ++ b) []) h)

pub ascends_first : {C : Type 0} (low high : ℕ) (a b : List (Record C)) → Ascends low (sequences (puts_onto (a ++ b) [])) high → Ascends low (sequences (puts_onto a [])) high
ascends_first low high [] b h = ascends_span low (sequences (puts_onto b [])) high h
ascends_first low high (r ∷ a) b h =
    ascends_put_on low high high r.hash r.sequence r.source (puts_onto (a ++ b) []) (puts_onto a []) (λ k up. ascends_first k high a b up) h

pub ascends_join : {C : Type 0} (low mid high : ℕ) (a : List (Record C)) (b : List (ℕ × ℕ)) → Ascends low (sequences (puts_onto a [])) mid → Ascends mid (sequences b) high → Ascends low (sequences (puts_onto a b)) high
ascends_join low mid high [] b h k = ascends_from low mid (sequences b) high h k
ascends_join low mid high (r ∷ a) b h k =
    ascends_put_on low mid high r.hash r.sequence r.source (puts_onto a []) (puts_onto a b) (λ n up. ascends_join n mid high a b up k) h

-- a record behind the others
pub ascends_last : {C : Type 0} (low high h s : ℕ) (a : List (Record C)) (r : Record C) (c : C) → r.source ≡ Given c → high ≤ r.sequence → Ascends low (sequences (puts_onto a [])) high → Ascends low (sequences (puts_onto (a ++ r ∷ []) [])) (r.sequence + 1)
ascends_last {C} low high h s [] r c is le up =
    subst (λ src. Ascends low (sequences (put_in r.hash r.sequence src [])) (r.sequence + 1)) (sym is) (omega arith, omega arith)
ascends_last low high h s (q ∷ a) r c is le up =
    ascends_put_on low high (r.sequence + 1) q.hash q.sequence q.source (puts_onto a []) (puts_onto (a ++ r ∷ []) []) (λ k u. ascends_last k high h s a r c is le u) up

pub ascends_puts : {C : Type 0} (low high : ℕ) (q : List (Submission C)) → Ascends low (queue_sequences q) high → Ascends low (sequences (queue_puts q)) high
ascends_puts low high [] h = h
ascends_puts low high (Piece i s n c ∷ rest) h = (h.0, ascends_puts (s + 1) high rest h.1)
ascends_puts low high (Remove i s invalidated ∷ rest) h =
    let l : low ≤ s = h.0 in
    ascends_from low (s + 1) (sequences (queue_puts rest)) high (omega arith) (ascends_puts (s + 1) high rest h.1)
ascends_puts low high (Await i ∷ rest) h = ascends_puts low high rest h
ascends_puts low high (Reinsert i bytes a ∷ rest) h = ascends_puts low high rest h

pub line_ascends : {C : Type 0} (next : ℕ) (φ : Flusher C) → IsOrdered next φ → Ascends 0 (sequences (line_of φ)) next
line_ascends next φ o =
    ascends_join 0 o.received next (batch_records φ.batch) (puts_onto φ.buffer (queue_puts φ.queue)) o.batch
    (ascends_join o.received o.queued next φ.buffer (queue_puts φ.queue) o.buffer (ascends_puts o.queued next φ.queue o.queue))

-- the very address

both_true : (x y : Bool) → (x && y) ≡ true → (x ≡ true) × (y ≡ true)
both_true true y e = (refl, e)
both_true false y e = absurd cc

pub same_address : (p a : Address) → is_same p a ≡ true → p ≡ a
same_address p a e =
    let f : _ = both_true ((p.block == a.block) && (p.offset == a.offset) && (p.len == a.len) && (p.sequence == a.sequence)) (p.filling == a.filling) e in
    let s : _ = both_true ((p.block == a.block) && (p.offset == a.offset) && (p.len == a.len)) (p.sequence == a.sequence) f.0 in
    let l : _ = both_true ((p.block == a.block) && (p.offset == a.offset)) (p.len == a.len) s.0 in
    let o : _ = both_true (p.block == a.block) (p.offset == a.offset) l.0 in
    λ i. record {
      block = eqb-true p.block a.block o.0 i;
      offset = eqb-true p.offset a.offset o.1 i;
      len = eqb-true p.len a.len l.1 i;
      sequence = eqb-true p.sequence a.sequence s.1 i;
      filling = eqb-true p.filling a.filling f.1 i;
    }

pub holds_is : (a : Address) (slot : Option Slot) → holds a slot ≡ true → slot ≡ Some (Indexed a)
holds_is a None e = absurd cc
holds_is a (Some (Mark s)) e = absurd cc
holds_is a (Some (Indexed b)) e = ap (λ k. Some (Indexed k)) (sym (same_address a b e))

-- commits

module _ {C : Type 0} (rules : Rules C) (g : Ground) (block_writes : ℕ → BlockWrites) where
  pub enters_new : (H : List (Event C)) (r : Record C) (c : C) (line : List (ℕ × ℕ)) (a : Address) → a.sequence ≡ r.sequence
      → sequence_in (newest r.hash H) ≤ r.sequence
      → IsGood rules g block_writes r.hash a (Holds c)
      → AtLeast r.hash r.sequence line
      → SlotOk rules g block_writes (Put r.hash r.sequence (Holds c) ∷ H) r.hash line (Some (Indexed a))
  enters_new H r c line a e le good behind = (
    Holds c,
    newest_put r.hash r.sequence (Holds c) H le ∙ ap (λ s. Some (Put r.hash s (Holds c))) (sym e),
    good,
    subst (λ s. AtLeast r.hash s line) (sym e) behind,
  )

  pub enters : (H : List (Event C)) (r : Record C) (c : C) (line : List (ℕ × ℕ)) (slot : Option Slot) (a : Address) → a.sequence ≡ r.sequence
      → SlotOk rules g block_writes H r.hash ((r.hash, r.sequence) ∷ line) slot
      → IsGood rules g block_writes r.hash a (Holds c)
      → AtLeast r.hash r.sequence line
      → SlotOk rules g block_writes (Put r.hash r.sequence (Holds c) ∷ H) r.hash line (inserted slot (Indexed a))
  enters H r c line None a e ok good behind = enters_new H r c line a e (ok.0 refl) good behind
  enters H r c line (Some (Indexed b)) a e ok good behind = go (nat_le b.sequence a.sequence) refl
    where
      at_b : sequence_in (newest r.hash H) ≡ b.sequence
      at_b = ap sequence_in ok.1

      before : b.sequence ≤ r.sequence
      before = (ok.3).0 refl

      go : (t : Bool) → nat_le b.sequence a.sequence ≡ t → SlotOk rules g block_writes (Put r.hash r.sequence (Holds c) ∷ H) r.hash line (if t then Some (Indexed a) else Some (Indexed b))
      go true f = enters_new H r c line a e (omega (arith, at_b, before)) good behind
      go false f = absurd (grind (arith, nat_tests, e, before))
  enters H r c line (Some (Mark d)) a e ok good behind = go (nat_le d a.sequence) refl
    where
      at_d : sequence_in (newest r.hash H) ≡ d
      at_d = ap sequence_in ok

      go : (t : Bool) → nat_le d a.sequence ≡ t → SlotOk rules g block_writes (Put r.hash r.sequence (Holds c) ∷ H) r.hash line (if t then Some (Indexed a) else Some (Mark d))
      go true f = enters_new H r c line a e (grind (arith, nat_tests, at_d, e)) good behind
      go false f = newest_kept r.hash r.sequence (Holds c) H (grind (arith, nat_tests, at_d, e)) ∙ ok

  -- another hash
  pub passes : (H : List (Event C)) (q s : ℕ) (x : Outcome C) (h : ℕ) (line line' : List (ℕ × ℕ)) (slot : Option Slot) → (q ≡ h → ⊥)
      → ((n : ℕ) → AtLeast h n line → AtLeast h n line')
      → SlotOk rules g block_writes H h line slot → SlotOk rules g block_writes (Put q s x ∷ H) h line' slot
  passes H q s x h line line' None ne tail ok =
      subst (λ e. AtLeast h (sequence_in e) line') (sym (newest_other q s x H h ne)) (tail _ ok)
  passes H q s x h line line' (Some (Mark d)) ne tail ok = newest_other q s x H h ne ∙ ok
  passes H q s x h line line' (Some (Indexed a)) ne tail ok =
      (ok.0, newest_other q s x H h ne ∙ ok.1, ok.2, tail a.sequence ok.3)

  -- what a record that waits brings to its commit at an address
  abbrev pub SourceBrings : (ℕ → ℕ → Type 0) → (ℕ → Option Slot) → List (Event C) → Record C → Source C → Type 0
  SourceBrings apart m H r (Given c) = Unit {0}
  SourceBrings apart m H r (Reread a) = (a.sequence ≡ r.sequence) × (apart a.block a.filling) × IsFaithful m H r.hash a r.sequence (rules.pair_of r.bytes r.hash r.sequence)

  abbrev pub Brings : ℕ → ℕ → (ℕ → Option Slot) → List (Event C) → Record C → Type 0
  Brings b n m H r = SourceBrings (λ d k. d ≡ b → k ≡ n → ⊥) m H r r.source

  -- a reinsertion
  pub reread_slot : (H : List (Event C)) (r : Record C) (over : Address) (line : List (ℕ × ℕ)) (slot : Option Slot) (a : Address) → a.sequence ≡ r.sequence → over.sequence ≡ r.sequence
      → (slot ≡ Some (Indexed over) → newest r.hash H ≡ Some (Put r.hash r.sequence (rules.pair_of r.bytes r.hash r.sequence)))
      → SlotOk rules g block_writes H r.hash line slot
      → IsGood rules g block_writes r.hash a (rules.pair_of r.bytes r.hash r.sequence)
      → SlotOk rules g block_writes (noted_one r (Reread over) slot H) r.hash line (taken_in {C = C} (Reread over) slot a)
  reread_slot H r over line slot a e eo faith ok good = go (holds over slot) refl
    where
      x : Outcome C
      x = rules.pair_of r.bytes r.hash r.sequence

      go : (t : Bool) → holds over slot ≡ t
          → SlotOk rules g block_writes (if t then Put r.hash r.sequence (outcome_in (newest r.hash H)) ∷ H else H) r.hash line (if t then Some (Indexed a) else slot)
      go false is = ok
      go true is =
          let at : slot ≡ Some (Indexed over) = holds_is over slot is in
          let new : newest r.hash H ≡ Some (Put r.hash r.sequence x) = faith at in
          let old : SlotOk rules g block_writes H r.hash line (Some (Indexed over)) = subst (λ k. SlotOk rules g block_writes H r.hash line k) at ok in
          subst (λ y. SlotOk rules g block_writes (Put r.hash r.sequence y ∷ H) r.hash line (Some (Indexed a))) (sym (ap outcome_in new)) (
            x,
            newest_put r.hash r.sequence x H (let q : sequence_in (newest r.hash H) ≡ r.sequence = ap sequence_in new in omega arith) ∙ ap (λ s. Some (Put r.hash s x)) (sym e),
            good,
            subst (λ s. AtLeast r.hash s line) (eo ∙ sym e) old.3,
          )

  -- the commit of one record, for its own hash and for another
  pub one_slot : (H : List (Event C)) (f : ℕ) (m : ℕ → Option Slot) (apart : ℕ → ℕ → Type 0) (r : Record C) (src : Source C) (low high : ℕ) (line : List (ℕ × ℕ)) (a : Address) → a.sequence ≡ r.sequence
      → SourceOk rules f r src → SourceBrings apart m H r src
      → Ascends low (sequences (put_in r.hash r.sequence src line)) high
      → SlotOk rules g block_writes H r.hash (put_in r.hash r.sequence src line) (m r.hash)
      → IsGood rules g block_writes r.hash a (rules.pair_of r.bytes r.hash r.sequence)
      → SlotOk rules g block_writes (noted_one r src (m r.hash) H) r.hash line (taken_in src (m r.hash) a)
  one_slot H f m apart r (Given c) low high line a e src brings up ok good =
      enters H r c line (m r.hash) a e ok (subst (λ x. IsGood rules g block_writes r.hash a x) src.1 good)
      (at_least_all r.hash r.sequence (r.sequence + 1) line (omega arith) (ascends_at_least (r.sequence + 1) (sequences line) high up.1))
  one_slot H f m apart r (Reread over) low high line a e src brings up ok good = reread_slot H r over line (m r.hash) a e brings.0 brings.2 ok good

  pub other_slot : (H : List (Event C)) (r : Record C) (src : Source C) (h : ℕ) (line line' : List (ℕ × ℕ)) (mine slot : Option Slot) → (r.hash ≡ h → ⊥)
      → ((n : ℕ) → AtLeast h n line → AtLeast h n line')
      → SlotOk rules g block_writes H h line slot → SlotOk rules g block_writes (noted_one r src mine H) h line' slot
  other_slot H r (Given c) h line line' mine slot ne tail ok = passes H r.hash r.sequence (Holds c) h line line' slot ne tail ok
  other_slot H r (Reread over) h line line' mine slot ne tail ok = go (holds over mine)
    where
      go : (t : Bool) → SlotOk rules g block_writes (if t then Put r.hash r.sequence (outcome_in (newest r.hash H)) ∷ H else H) h line' slot
      go true = passes H r.hash r.sequence (outcome_in (newest r.hash H)) h line line' slot ne tail ok
      go false = slot_lift rules g g block_writes block_writes H h line line' slot (λ a x fine. fine) (λ n _ all. tail n all) ok

  -- what waits stays faithful through a commit at another address
  taken_at : (H : List (Event C)) (r : Record C) (src : Source C) (slot : Option Slot) (a over : Address) (s : ℕ) (x : Outcome C) → a.sequence ≡ r.sequence → over.sequence ≡ s → (a ≡ over → ⊥)
      → (slot ≡ Some (Indexed over) → newest r.hash H ≡ Some (Put r.hash s x))
      → taken_in src slot a ≡ Some (Indexed over) → newest r.hash (noted_one r src slot H) ≡ Some (Put r.hash s x)
  taken_at H r (Given c) None a over s x e eo ne faith is = absurd (ne (let q : Some (Indexed a) ≡ Some (Indexed over) = is in cc))
  taken_at H r (Given c) (Some (Mark d)) a over s x e eo ne faith given = go (nat_le d a.sequence) given
    where
      go : (t : Bool) → (if t then Some (Indexed a) else Some (Mark d)) ≡ Some (Indexed over) → newest r.hash (Put r.hash r.sequence (Holds c) ∷ H) ≡ Some (Put r.hash s x)
      go true is = absurd (ne (let q : Some (Indexed a) ≡ Some (Indexed over) = is in cc))
      go false is = absurd (let q : Some (Mark d) ≡ Some (Indexed over) = is in cc)
  taken_at H r (Given c) (Some (Indexed d)) a over s x e eo ne faith given = go (nat_le d.sequence a.sequence) refl given
    where
      go : (t : Bool) → nat_le d.sequence a.sequence ≡ t → (if t then Some (Indexed a) else Some (Indexed d)) ≡ Some (Indexed over) → newest r.hash (Put r.hash r.sequence (Holds c) ∷ H) ≡ Some (Put r.hash s x)
      go true k is = absurd (ne (let q : Some (Indexed a) ≡ Some (Indexed over) = is in cc))
      go false k is =
          let same : d ≡ over = (let q : Some (Indexed d) ≡ Some (Indexed over) = is in cc) in
          let at_d : d.sequence ≡ s = ap (λ u. u.sequence) same ∙ eo in
          let at_s : sequence_in (newest r.hash H) ≡ s = ap sequence_in (faith is) in
          newest_kept r.hash r.sequence (Holds c) H (grind (arith, nat_tests, at_d, at_s, e, k)) ∙ faith is
  taken_at H r (Reread o) slot a over s x e eo ne faith given = go (holds o slot) given
    where
      go : (t : Bool) → (if t then Some (Indexed a) else slot) ≡ Some (Indexed over) → newest r.hash (if t then Put r.hash r.sequence (outcome_in (newest r.hash H)) ∷ H else H) ≡ Some (Put r.hash s x)
      go true is = absurd (ne (let q : Some (Indexed a) ≡ Some (Indexed over) = is in cc))
      go false is = faith is

  pub other_newest : (H : List (Event C)) (r : Record C) (src : Source C) (slot : Option Slot) (h : ℕ) → (r.hash ≡ h → ⊥) → newest h (noted_one r src slot H) ≡ newest h H
  other_newest H r (Given c) slot h ne = newest_other r.hash r.sequence (Holds c) H h ne
  other_newest H r (Reread o) slot h ne = go (holds o slot)
    where
      go : (t : Bool) → newest h (if t then Put r.hash r.sequence (outcome_in (newest r.hash H)) ∷ H else H) ≡ newest h H
      go true = newest_other r.hash r.sequence (outcome_in (newest r.hash H)) H h ne
      go false = refl

  pub one_faithful : (b n : ℕ) (p : ℕ × Record C) (m : ℕ → Option Slot) (H : List (Event C)) (h : ℕ) (over : Address) (s : ℕ) (x : Outcome C) → over.sequence ≡ s → (over.block ≡ b → over.filling ≡ n → ⊥)
      → IsFaithful m H h over s x → IsFaithful (committed_one b n p m) (noted_one p.1 (p.1).source (m (p.1).hash) H) h over s x
  one_faithful b n p m H h over s x eo apart faith =
      put_at (λ slot. slot ≡ Some (Indexed over) → newest h (noted_one p.1 (p.1).source (m (p.1).hash) H) ≡ Some (Put h s x)) m (p.1).hash (taken_in (p.1).source (m (p.1).hash) (address_of b n p)) h
      (λ at. subst (λ k. taken_in (p.1).source (m (p.1).hash) (address_of b n p) ≡ Some (Indexed over) → newest k (noted_one p.1 (p.1).source (m (p.1).hash) H) ≡ Some (Put k s x)) (sym at)
      (taken_at H p.1 (p.1).source (m (p.1).hash) (address_of b n p) over s x refl eo
      (λ same. apart (ap (λ u. u.block) (sym same)) (ap (λ u. u.filling) (sym same)))
      (subst (λ k. m k ≡ Some (Indexed over) → newest k H ≡ Some (Put k s x)) at faith)))
      (λ ne is. other_newest H p.1 (p.1).source (m (p.1).hash) h (λ e. ne (sym e)) ∙ faith is)

  pub all_faithful : (b n : ℕ) (ps : List (ℕ × Record C)) (m : ℕ → Option Slot) (H : List (Event C)) (h : ℕ) (over : Address) (s : ℕ) (x : Outcome C) → over.sequence ≡ s → (over.block ≡ b → over.filling ≡ n → ⊥)
      → IsFaithful m H h over s x → IsFaithful (committed b n ps m) (noted b n ps m H) h over s x
  all_faithful b n [] m H h over s x eo apart faith = faith
  all_faithful b n (p ∷ ps) m H h over s x eo apart faith =
      all_faithful b n ps (committed_one b n p m) (noted_one p.1 (p.1).source (m (p.1).hash) H) h over s x eo apart (one_faithful b n p m H h over s x eo apart faith)

  one_brings : (b n : ℕ) (p : ℕ × Record C) (m : ℕ → Option Slot) (H : List (Event C)) (r : Record C) (src : Source C)
      → SourceBrings (λ d k. d ≡ b → k ≡ n → ⊥) m H r src → SourceBrings (λ d k. d ≡ b → k ≡ n → ⊥) (committed_one b n p m) (noted_one p.1 (p.1).source (m (p.1).hash) H) r src
  one_brings b n p m H r (Given c) ok = tt
  one_brings b n p m H r (Reread a) ok = (ok.0, ok.1, one_faithful b n p m H r.hash a r.sequence (rules.pair_of r.bytes r.hash r.sequence) ok.0 ok.1 ok.2)

  pub all_bring : (b n : ℕ) (p : ℕ × Record C) (m : ℕ → Option Slot) (H : List (Event C)) (rs : List (Record C)) → Each (Brings b n m H) rs → Each (Brings b n (committed_one b n p m) (noted_one p.1 (p.1).source (m (p.1).hash) H)) rs
  all_bring b n p m H [] ok = tt
  all_bring b n p m H (r ∷ rs) ok = (one_brings b n p m H r r.source ok.0, all_bring b n p m H rs ok.1)

  pub put_next : (low high h s : ℕ) (src : Source C) (l : List (ℕ × ℕ)) → Ascends low (sequences (put_in h s src l)) high → (k : ℕ) × Ascends k (sequences l) high
  put_next low high h s (Given c) l up = (s + 1, up.1)
  put_next low high h s (Reread a) l up = (low, up)

  -- the records of a block, one after the other
  pub commits : (f b n : ℕ) (ps : List (ℕ × Record C)) (m : ℕ → Option Slot) (H : List (Event C)) (h low high : ℕ) (rest : List (ℕ × ℕ))
      → Each (RecordOk rules f) (map (λ p. p.1) ps) → Each (Brings b n m H) (map (λ p. p.1) ps)
      → Each (λ p. IsGood rules g block_writes (p.1).hash (address_of b n p) (rules.pair_of (p.1).bytes (p.1).hash (p.1).sequence)) ps
      → Ascends low (sequences (puts_onto (map (λ p. p.1) ps) rest)) high
      → SlotOk rules g block_writes H h (puts_onto (map (λ p. p.1) ps) rest) (m h)
      → SlotOk rules g block_writes (noted b n ps m H) h rest (committed b n ps m h)
  commits f b n [] m H h low high rest routed brings good up ok = ok
  commits f b n (p ∷ ps) m H h low high rest routed brings good up ok =
      let next : (k : ℕ) × Ascends k (sequences line) high = put_next low high (p.1).hash (p.1).sequence (p.1).source line up in
      commits f b n ps (committed_one b n p m) H' h next.0 high rest routed.1 (all_bring b n p m H (map (λ q. q.1) ps) brings.1) good.1 next.1
      (put_at (λ slot. SlotOk rules g block_writes H' h line slot)
      m (p.1).hash (taken_in (p.1).source (m (p.1).hash) (address_of b n p)) h
      (λ at. subst (λ k. SlotOk rules g block_writes H' k line (taken_in (p.1).source (m (p.1).hash) (address_of b n p))) (sym at)
      (one_slot H f m (λ d k. d ≡ b → k ≡ n → ⊥) p.1 (p.1).source low high line (address_of b n p) refl routed.0 brings.0 up
      (subst (λ k. SlotOk rules g block_writes H k (put_in (p.1).hash (p.1).sequence (p.1).source line) (m k)) at ok)
      good.0))
      (λ ne. other_slot H p.1 (p.1).source h (put_in (p.1).hash (p.1).sequence (p.1).source line) line (m (p.1).hash) (m h) (λ e. ne (sym e))
      (λ k all. each_put_rest (λ q. q.0 ≡ h → k ≤ q.1) (p.1).hash (p.1).sequence (p.1).source line all) ok))
    where
      line : List (ℕ × ℕ)
      line = puts_onto (map (λ q. q.1) ps) rest

      H' : List (Event C)
      H' = noted_one p.1 (p.1).source (m (p.1).hash) H

  -- the records of another flusher's block
  foreign_slot : (H : List (Event C)) (f : ℕ) (m : ℕ → Option Slot) (apart : ℕ → ℕ → Type 0) (r : Record C) (src : Source C) (line : List (ℕ × ℕ)) (a : Address) → a.sequence ≡ r.sequence
      → SourceOk rules f r src → SourceBrings apart m H r src → (flusher_of rules r.hash ≡ f → ⊥)
      → SlotOk rules g block_writes H r.hash line (m r.hash)
      → IsGood rules g block_writes r.hash a (rules.pair_of r.bytes r.hash r.sequence)
      → SlotOk rules g block_writes (noted_one r src (m r.hash) H) r.hash line (taken_in src (m r.hash) a)
  foreign_slot H f m apart r (Given c) line a e src brings ne ok good = absurd (ne src.0)
  foreign_slot H f m apart r (Reread over) line a e src brings ne ok good = reread_slot H r over line (m r.hash) a e brings.0 brings.2 ok good

  pub commits_other : (f b n : ℕ) (ps : List (ℕ × Record C)) (m : ℕ → Option Slot) (H : List (Event C)) (h : ℕ) (line : List (ℕ × ℕ))
      → Each (RecordOk rules f) (map (λ p. p.1) ps) → Each (Brings b n m H) (map (λ p. p.1) ps)
      → Each (λ p. IsGood rules g block_writes (p.1).hash (address_of b n p) (rules.pair_of (p.1).bytes (p.1).hash (p.1).sequence)) ps
      → (flusher_of rules h ≡ f → ⊥)
      → SlotOk rules g block_writes H h line (m h)
      → SlotOk rules g block_writes (noted b n ps m H) h line (committed b n ps m h)
  commits_other f b n [] m H h line routed brings good ne ok = ok
  commits_other f b n (p ∷ ps) m H h line routed brings good ne ok =
      commits_other f b n ps (committed_one b n p m) (noted_one p.1 (p.1).source (m (p.1).hash) H) h line routed.1 (all_bring b n p m H (map (λ q. q.1) ps) brings.1) good.1 ne
      (put_at (λ slot. SlotOk rules g block_writes (noted_one p.1 (p.1).source (m (p.1).hash) H) h line slot) m (p.1).hash (taken_in (p.1).source (m (p.1).hash) (address_of b n p)) h
      (λ at. subst (λ k. SlotOk rules g block_writes (noted_one p.1 (p.1).source (m (p.1).hash) H) k line (taken_in (p.1).source (m (p.1).hash) (address_of b n p))) (sym at)
      (foreign_slot H f m (λ d k. d ≡ b → k ≡ n → ⊥) p.1 (p.1).source line (address_of b n p) refl routed.0 brings.0 (λ e. ne (ap (flusher_of rules) at ∙ e))
      (subst (λ k. SlotOk rules g block_writes H k line (m k)) at ok) good.0))
      (λ other. other_slot H p.1 (p.1).source h line line (m (p.1).hash) (m h) (λ e. other (sym e)) (λ k all. all) ok))

  one_below : (r : Record C) (src : Source C) (apart : ℕ → ℕ → Type 0) (m : ℕ → Option Slot) (H : List (Event C)) (low n : ℕ) (l : List (ℕ × ℕ)) → SourceBrings apart m H r src
      → Ascends low (sequences (put_in r.hash r.sequence src l)) n
      → ((q : ℕ) → sequence_in (newest q H) < n) → (q : ℕ) → sequence_in (newest q (noted_one r src (m r.hash) H)) < n
  one_below r (Given c) apart m H low n l brings up below q =
      newest_below r.hash r.sequence (Holds c) H q n (let span : r.sequence + 1 ≤ n = ascends_span (r.sequence + 1) (sequences l) n up.1 in omega arith) (below q)
  one_below r (Reread a) apart m H low n l brings up below q = go (holds a (m r.hash)) refl
    where
      go : (t : Bool) → holds a (m r.hash) ≡ t → sequence_in (newest q (if t then Put r.hash r.sequence (outcome_in (newest r.hash H)) ∷ H else H)) < n
      go false is = below q
      go true is = newest_below r.hash r.sequence (outcome_in (newest r.hash H)) H q n
          (subst (λ k. k < n) (ap sequence_in (brings.2 (holds_is a (m r.hash) is))) (below r.hash)) (below q)

  pub noted_below : (b k : ℕ) (ps : List (ℕ × Record C)) (m : ℕ → Option Slot) (H : List (Event C)) (low n : ℕ) → Each (Brings b k m H) (map (λ p. p.1) ps)
      → Ascends low (sequences (puts_onto (map (λ p. p.1) ps) [])) n
      → ((q : ℕ) → sequence_in (newest q H) < n) → (q : ℕ) → sequence_in (newest q (noted b k ps m H)) < n
  noted_below b k [] m H low n brings up below = below
  noted_below b k (p ∷ ps) m H low n brings up below =
      let next : (j : ℕ) × Ascends j (sequences (puts_onto (map (λ q. q.1) ps) [])) n = put_next low n (p.1).hash (p.1).sequence (p.1).source (puts_onto (map (λ q. q.1) ps) []) up in
      noted_below b k ps (committed_one b k p m) (noted_one p.1 (p.1).source (m (p.1).hash) H) next.0 n (all_bring b k p m H (map (λ q. q.1) ps) brings.1) next.1
      (one_below p.1 (p.1).source (λ d j. d ≡ b → j ≡ k → ⊥) m H low n (puts_onto (map (λ q. q.1) ps) []) brings.0 up below)

  -- removed marks

  pub without_ok : (H : List (Event C)) (h s received : ℕ) (line : List (ℕ × ℕ)) (slot : Option Slot)
      → s < received → AllAtLeast received (sequences line)
      → SlotOk rules g block_writes H h line slot → SlotOk rules g block_writes H h line (without_mark s slot)
  without_ok H h s received line None lt all ok = ok
  without_ok H h s received line (Some (Indexed a)) lt all ok = ok
  without_ok H h s received line (Some (Mark t)) lt all ok = go (t == s) refl
    where
      at_t : sequence_in (newest h H) ≡ t
      at_t = ap sequence_in ok

      go : (v : Bool) → (t == s) ≡ v → SlotOk rules g block_writes H h line (if v then None else Some (Mark t))
      go true e = at_least_all h (sequence_in (newest h H)) received line (let same : t ≡ s = eqb-true t s e in omega (arith, at_t)) all
      go false e = ok

  pub unmarks : (marks : List (ℕ × ℕ)) (m : ℕ → Option Slot) (H : List (Event C)) (h received : ℕ) (line : List (ℕ × ℕ))
      → Each (λ p. p.1 < received) marks → AllAtLeast received (sequences line)
      → SlotOk rules g block_writes H h line (m h) → SlotOk rules g block_writes H h line (unmarked marks m h)
  unmarks [] m H h received line below all ok = ok
  unmarks (p ∷ ps) m H h received line below all ok =
      unmarks ps (put m p.0 (without_mark p.1 (m p.0))) H h received line below.1 all
      (put_at (λ slot. SlotOk rules g block_writes H h line slot) m p.0 (without_mark p.1 (m p.0)) h
      (λ at. without_ok H h p.1 received line (m p.0) below.0 all (subst (λ k. SlotOk rules g block_writes H h line (m k)) at ok))
      (λ _. ok))

  pub unmarks_other : (f : ℕ) (marks : List (ℕ × ℕ)) (m : ℕ → Option Slot) (h : ℕ)
      → Each (λ p. flusher_of rules p.0 ≡ f) marks → (flusher_of rules h ≡ f → ⊥) → unmarked marks m h ≡ m h
  unmarks_other f [] m h routed ne = refl
  unmarks_other f (p ∷ ps) m h routed ne =
      unmarks_other f ps (put m p.0 (without_mark p.1 (m p.0))) h routed.1 ne
      ∙ put_other m p.0 (without_mark p.1 (m p.0)) h (λ e. ne (ap (flusher_of rules) e ∙ routed.0))
