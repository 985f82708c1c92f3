-- Reinsertions: what was read from an address stays what is newest, as long as the index holds that address.
use Rattle.std.proofs.Common.{◌≡◌, ℕ, ◌==◌, nat_le, Bool, true, false, if◌then◌else◌, List, [], ◌∷◌, Option, Some, None, refl, sym, ap, subst, ◌∙◌, arith}
use Rattle.foyer_core_model.specs.Numbers.{put}
use Rattle.foyer_core_model.specs.Record.{Address, Slot, Indexed, Mark, Outcome, Source, Given, Reread, Record}
use Rattle.foyer_core_model.specs.State.{Submission, Piece, Remove, Await, Reinsert, Flusher, BlockSet, Writes, Reclaims, Stage, AtIndex, AtRecord, AllListed, ToClean, Reclaim}
use Rattle.foyer_core_model.specs.Rules.{Rules, flusher_of, first_position}
use Rattle.foyer_core_model.specs.Step.{Bytes, Fault}
use Rattle.foyer_core_model.specs.Index.{is_same, holds, without, forgotten, without_mark, unmarked}
use Rattle.foyer_format_layout.specs.BlockBytes.{read}
use Rattle.foyer_core_model.specs.Commit.{address_of, taken_in, committed_one}
use Rattle.foyer_core_model.specs.Event.{Event, Put, newest}
use Rattle.foyer_core_model.specs.Access.{ReadState, ReadIssued, Reading, ReadDone, Scan, at_scan}
use Rattle.foyer_core_model.specs.World.{World}
use Rattle.foyer_core_model.proofs.Basics.{put_at, put_one}
use Rattle.foyer_format_layout.specs.Each.{Each}
use Rattle.foyer_core_model.proofs.Invariant.{Ground, ground_of, IsSolid, batch_records, line_of, SlotOk, ReadStateHolds, WorldInvariant, IsBarred, IsFaithful, SourceWaits, RecordWaits, SubmissionWaits, AllWait}
use Rattle.foyer_core_model.proofs.CommitSteps.{committed}
use Rattle.foyer_format_layout.proofs.EachLaws.{each_weaker}

-- addresses of a block in a filling
abbrev pub AllHere : ℕ → ℕ → List (ℕ × Address) → Type 0
AllHere b n ps = Each (λ p. ((p.1).block ≡ b) × ((p.1).filling ≡ n)) ps

-- a read of a record gives its bytes, as long as the index holds the address
abbrev pub ScanOk : {C : Type 0} → Rules C → (ℕ → Option Slot) → Ground → ℕ → Address → Option Scan → Type 0
ScanOk rules m g h a None = Unit {0}
ScanOk rules m g h a (Some s) = (s.offset ≡ a.offset) × (s.len ≡ a.len) × (m h ≡ Some (Indexed a) → ReadStateHolds rules g a s.read_state)

abbrev pub StageOk : {C : Type 0} → Rules C → (ℕ → Option Slot) → Ground → ℕ → Stage → Option Scan → Type 0
StageOk rules m g b (AtIndex place) scan = Unit {0}
StageOk rules m g b (AtRecord h a rest place) scan = (a.block ≡ b) × (a.filling ≡ g.filling b) × AllHere b (g.filling b) rest × ScanOk rules m g h a scan
StageOk rules m g b AllListed scan = Unit {0}
StageOk rules m g b ToClean scan = Unit {0}

abbrev pub ReclaimOk : {C : Type 0} → Rules C → (ℕ → Option Slot) → Ground → (ℕ → BlockSet) → ℕ → Option Reclaim → Option Scan → Type 0
ReclaimOk rules m g place b None scan = Unit {0}
ReclaimOk rules m g place b (Some r) scan = (place b ≡ Reclaims) × AllHere b (g.filling b) r.listed × StageOk rules m g b r.stage scan

pub record IsAgainIn {C : Type 0} (rules : Rules C) (m : ℕ → Option Slot) (H : List (Event C)) (g : Ground) (place : ℕ → BlockSet)
    (flushers : ℕ → Flusher C) (reclaims : ℕ → Option Reclaim) (scans : ℕ → Option Scan) : Type 0 where
  pub waits : (f : ℕ) → AllWait rules m H place g.filling (flushers f)
  pub stages : (b : ℕ) → ReclaimOk rules m g place b (reclaims b) (scans b)

-- fillings and bytes, without how far blocks are filled
abbrev pub still_of : {C : Type 0} → Rules C → World C → Ground
still_of rules w = record { filled = λ b. first_position rules; filling = w.core.filling; bytes = w.bytes }

abbrev pub IsAgain : {C : Type 0} → Rules C → World C → Type 0
IsAgain rules w = IsAgainIn rules w.core.index w.history (still_of rules w) w.core.place w.core.flushers w.core.reclaims w.scans

abbrev pub Drifts : {C : Type 0} → (ℕ → BlockSet) → (ℕ → ℕ) → (ℕ → Option Slot) → List (Event C) → (ℕ → Option Slot) → List (Event C) → Type 0
Drifts {C} place filling m H m' H' = (h : ℕ) (a : Address) (s : ℕ) (x : Outcome C) → a.sequence ≡ s → IsBarred place filling a → IsFaithful m H h a s x → IsFaithful m' H' h a s x

abbrev pub StaysIn : (ℕ → BlockSet) → (ℕ → ℕ) → (ℕ → Option Slot) → (ℕ → Option Slot) → Type 0
StaysIn place filling m m' = (h : ℕ) (a : Address) → IsBarred place filling a → m' h ≡ Some (Indexed a) → m h ≡ Some (Indexed a)

-- addresses leave the index

pub without_stays : (b a : Address) (slot : Option Slot) → without b slot ≡ Some (Indexed a) → slot ≡ Some (Indexed a)
without_stays b a None e = e
without_stays b a (Some (Mark s)) e = e
without_stays b a (Some (Indexed d)) given = go (is_same b d) given
  where
    go : (t : Bool) → (if t then None else Some (Indexed d)) ≡ Some (Indexed a) → Some (Indexed d) ≡ Some (Indexed a)
    go true e = absurd (let q : None ≡ Some (Indexed a) = e in cc)
    go false e = e

pub without_mark_stays : (s : ℕ) (a : Address) (slot : Option Slot) → without_mark s slot ≡ Some (Indexed a) → slot ≡ Some (Indexed a)
without_mark_stays s a None e = e
without_mark_stays s a (Some (Indexed d)) e = e
without_mark_stays s a (Some (Mark t)) given = go (t == s) given
  where
    go : (v : Bool) → (if v then None else Some (Mark t)) ≡ Some (Indexed a) → Some (Mark t) ≡ Some (Indexed a)
    go true e = absurd (let q : None ≡ Some (Indexed a) = e in cc)
    go false e = e

pub put_stays : (m : ℕ → Option Slot) (k : ℕ) (slot : Option Slot) (a : Address) → (slot ≡ Some (Indexed a) → m k ≡ Some (Indexed a))
    → (h : ℕ) → put m k slot h ≡ Some (Indexed a) → m h ≡ Some (Indexed a)
put_stays m k slot a back h =
    put_at (λ v. v ≡ Some (Indexed a) → m h ≡ Some (Indexed a)) m k slot h (λ at e. ap m at ∙ back e) (λ _ e. e)

pub unmarked_stays : (marks : List (ℕ × ℕ)) (m : ℕ → Option Slot) (h : ℕ) (a : Address) → unmarked marks m h ≡ Some (Indexed a) → m h ≡ Some (Indexed a)
unmarked_stays [] m h a e = e
unmarked_stays (p ∷ ps) m h a e =
    put_stays m p.0 (without_mark p.1 (m p.0)) a (without_mark_stays p.1 a (m p.0)) h (unmarked_stays ps (put m p.0 (without_mark p.1 (m p.0))) h a e)

pub forgotten_stays : (ps : List (ℕ × Address)) (m : ℕ → Option Slot) (h : ℕ) (a : Address) → forgotten ps m h ≡ Some (Indexed a) → m h ≡ Some (Indexed a)
forgotten_stays [] m h a e = e
forgotten_stays (p ∷ ps) m h a e =
    put_stays m p.0 (without p.1 (m p.0)) a (without_stays p.1 a (m p.0)) h (forgotten_stays ps (put m p.0 (without p.1 (m p.0))) h a e)

module _ {C : Type 0} (rules : Rules C) where
  -- commits at another address

  taken_stays : (src : Source C) (slot : Option Slot) (a over : Address) → (a ≡ over → ⊥) → taken_in src slot a ≡ Some (Indexed over) → slot ≡ Some (Indexed over)
  taken_stays (Given c) None a over ne is = absurd (ne (let q : Some (Indexed a) ≡ Some (Indexed over) = is in cc))
  taken_stays (Given c) (Some (Mark d)) a over ne given = go (nat_le d a.sequence) given
    where
      go : (t : Bool) → (if t then Some (Indexed a) else Some (Mark d)) ≡ Some (Indexed over) → Some (Mark d) ≡ Some (Indexed over)
      go true is = absurd (ne (let q : Some (Indexed a) ≡ Some (Indexed over) = is in cc))
      go false is = is
  taken_stays (Given c) (Some (Indexed d)) a over ne given = go (nat_le d.sequence a.sequence) given
    where
      go : (t : Bool) → (if t then Some (Indexed a) else Some (Indexed d)) ≡ Some (Indexed over) → Some (Indexed d) ≡ Some (Indexed over)
      go true is = absurd (ne (let q : Some (Indexed a) ≡ Some (Indexed over) = is in cc))
      go false is = is
  taken_stays (Reread o) slot a over ne given = go (holds o slot) given
    where
      go : (t : Bool) → (if t then Some (Indexed a) else slot) ≡ Some (Indexed over) → slot ≡ Some (Indexed over)
      go true is = absurd (ne (let q : Some (Indexed a) ≡ Some (Indexed over) = is in cc))
      go false is = is

  pub committed_stays : (b n : ℕ) (ps : List (ℕ × Record C)) (m : ℕ → Option Slot) (h : ℕ) (over : Address) → (over.block ≡ b → over.filling ≡ n → ⊥)
      → committed b n ps m h ≡ Some (Indexed over) → m h ≡ Some (Indexed over)
  committed_stays b n [] m h over apart e = e
  committed_stays b n (p ∷ ps) m h over apart e =
      put_stays m (p.1).hash (taken_in (p.1).source (m (p.1).hash) (address_of b n p)) over
      (taken_stays (p.1).source (m (p.1).hash) (address_of b n p) over (λ same. apart (ap (λ u. u.block) (sym same)) (ap (λ u. u.filling) (sym same)))) h
      (committed_stays b n ps (committed_one b n p m) h over apart e)

  -- all facts go along

  module _ (m m' : ℕ → Option Slot) (H H' : List (Event C)) (place place' : ℕ → BlockSet) (filling filling' : ℕ → ℕ)
      (drifts : Drifts place filling m H m' H') (bars : (a : Address) → IsBarred place filling a → IsBarred place' filling' a) where
    src_drifts : (r : Record C) (src : Source C) → SourceWaits rules m H place filling r src → SourceWaits rules m' H' place' filling' r src
    src_drifts r (Given c) ok = tt
    src_drifts r (Reread a) ok = (ok.0, bars a ok.1, drifts r.hash a r.sequence (rules.pair_of r.bytes r.hash r.sequence) ok.0 ok.1 ok.2)

    sub_drifts : (s : Submission C) → SubmissionWaits rules m H place filling s → SubmissionWaits rules m' H' place' filling' s
    sub_drifts (Piece h s n c) ok = tt
    sub_drifts (Remove h s invalidated) ok = tt
    sub_drifts (Await i) ok = tt
    sub_drifts (Reinsert h bytes a) ok = (bars a ok.0, drifts h a a.sequence (rules.pair_of bytes h a.sequence) refl ok.0 ok.1)

    pub wait_drifts : (φ : Flusher C) → AllWait rules m H place filling φ → AllWait rules m' H' place' filling' φ
    wait_drifts φ ok =
        record {
          batch = each_weaker (RecordWaits rules m H place filling) (RecordWaits rules m' H' place' filling') (batch_records φ.batch) (λ r. src_drifts r r.source) ok.batch;
          buffer = each_weaker (RecordWaits rules m H place filling) (RecordWaits rules m' H' place' filling') φ.buffer (λ r. src_drifts r r.source) ok.buffer;
          queue = each_weaker (SubmissionWaits rules m H place filling) (SubmissionWaits rules m' H' place' filling') φ.queue sub_drifts ok.queue;
        }

  read_state_ground : (g g' : Ground) (a : Address) (read_state : ReadState) → g'.bytes a.block ≡ g.bytes a.block → ReadStateHolds rules g a read_state → ReadStateHolds rules g' a read_state
  read_state_ground g g' a ReadIssued same ok = ok
  read_state_ground g g' a (Reading seen) same ok = ok
  read_state_ground g g' a (ReadDone Fault) same ok = ok
  read_state_ground g g' a (ReadDone (Bytes bs)) same ok = ok ∙ ap (λ k. read k a.offset a.len) (sym same)

  scan_drifts : (m m' : ℕ → Option Slot) (g g' : Ground) (h : ℕ) (a : Address) (scan : Option Scan) → (m' h ≡ Some (Indexed a) → m h ≡ Some (Indexed a)) → g'.bytes a.block ≡ g.bytes a.block
      → ScanOk rules m g h a scan → ScanOk rules m' g' h a scan
  scan_drifts m m' g g' h a None back same ok = tt
  scan_drifts m m' g g' h a (Some s) back same ok = (ok.0, ok.1, λ e. read_state_ground g g' a s.read_state same (ok.2 (back e)))

  here_moves : (b n n' : ℕ) (ps : List (ℕ × Address)) → n' ≡ n → AllHere b n ps → AllHere b n' ps
  here_moves b n n' ps same ok = subst (λ k. AllHere b k ps) (sym same) ok

  stage_drifts : (m m' : ℕ → Option Slot) (g g' : Ground) (b : ℕ) (stage : Stage) (scan : Option Scan) → g'.filling b ≡ g.filling b → g'.bytes b ≡ g.bytes b
      → ((h : ℕ) (a : Address) → a.block ≡ b → a.filling ≡ g.filling b → m' h ≡ Some (Indexed a) → m h ≡ Some (Indexed a))
      → StageOk rules m g b stage scan → StageOk rules m' g' b stage scan
  stage_drifts m m' g g' b (AtIndex place) scan fill same back ok = tt
  stage_drifts m m' g g' b AllListed scan fill same back ok = tt
  stage_drifts m m' g g' b ToClean scan fill same back ok = tt
  stage_drifts m m' g g' b (AtRecord h a rest place) scan fill same back ok = (
    ok.0,
    ok.1 ∙ sym fill,
    here_moves b (g.filling b) (g'.filling b) rest fill ok.2,
    scan_drifts m m' g g' h a scan (back h a ok.0 ok.1) (ap g'.bytes ok.0 ∙ same ∙ ap g.bytes (sym ok.0)) ok.3,
  )

  -- a block that is being reclaimed is no flusher's
  pub barred_here : (place : ℕ → BlockSet) (filling : ℕ → ℕ) (b : ℕ) (a : Address) → place b ≡ Reclaims → a.block ≡ b → a.filling ≡ filling b → IsBarred place filling a
  barred_here place filling b a at is fill = (
    let e : a.filling ≡ filling a.block = fill ∙ ap filling (sym is) in omega arith,
    λ _ f mine. let e : Reclaims ≡ Writes f = sym at ∙ ap place (sym is) ∙ mine in cc,
  )

  reclaim_drifts : (m m' : ℕ → Option Slot) (g g' : Ground) (place place' : ℕ → BlockSet) (b : ℕ) (r : Option Reclaim) (scan : Option Scan)
      → StaysIn place g.filling m m' → ((q : Reclaim) → r ≡ Some q → place b ≡ Reclaims → (place' b ≡ Reclaims) × (g'.filling b ≡ g.filling b)) → g'.bytes b ≡ g.bytes b
      → ReclaimOk rules m g place b r scan → ReclaimOk rules m' g' place' b r scan
  reclaim_drifts m m' g g' place place' b None scan stays keeps same ok = tt
  reclaim_drifts m m' g g' place place' b (Some r) scan stays keeps same ok =
      let k : (place' b ≡ Reclaims) × (g'.filling b ≡ g.filling b) = keeps r refl ok.0 in (
        k.0,
        here_moves b (g.filling b) (g'.filling b) r.listed k.1 ok.1,
        stage_drifts m m' g g' b r.stage scan k.1 same (λ h a is fill. stays h a (barred_here place g.filling b a ok.0 is fill)) ok.2,
      )

  -- the index, the history, places and fillings change
  pub drifted : (m m' : ℕ → Option Slot) (H H' : List (Event C)) (g g' : Ground) (place place' : ℕ → BlockSet) (flushers : ℕ → Flusher C) (reclaims : ℕ → Option Reclaim) (scans : ℕ → Option Scan)
      → Drifts place g.filling m H m' H' → StaysIn place g.filling m m'
      → ((a : Address) → IsBarred place g.filling a → IsBarred place' g'.filling a)
      → ((b : ℕ) (r : Reclaim) → reclaims b ≡ Some r → place b ≡ Reclaims → (place' b ≡ Reclaims) × (g'.filling b ≡ g.filling b)) → ((b : ℕ) → g'.bytes b ≡ g.bytes b)
      → IsAgainIn rules m H g place flushers reclaims scans → IsAgainIn rules m' H' g' place' flushers reclaims scans
  drifted m m' H H' g g' place place' flushers reclaims scans drifts stays bars keeps same ok =
      record {
        waits = λ f. wait_drifts m m' H H' place place' g.filling g'.filling drifts bars (flushers f) (ok.waits f);
        stages = λ b. reclaim_drifts m m' g g' place place' b (reclaims b) (scans b) stays (λ r. keeps b r) (same b) (ok.stages b);
      }

  -- addresses and marks leave the index
  pub removed : (m m' : ℕ → Option Slot) (H : List (Event C)) (g : Ground) (place : ℕ → BlockSet) (flushers : ℕ → Flusher C) (reclaims : ℕ → Option Reclaim) (scans : ℕ → Option Scan)
      → ((h : ℕ) (a : Address) → m' h ≡ Some (Indexed a) → m h ≡ Some (Indexed a))
      → IsAgainIn rules m H g place flushers reclaims scans → IsAgainIn rules m' H g place flushers reclaims scans
  removed m m' H g place flushers reclaims scans back ok =
      drifted m m' H H g g place place flushers reclaims scans (λ h a s x e barred faith is. faith (back h a is)) (λ h a barred is. back h a is)
      (λ a barred. barred) (λ b r _ at. (at, refl)) (λ b. refl) ok

  -- one flusher changes
  pub one_waits : (m : ℕ → Option Slot) (H : List (Event C)) (g : Ground) (place : ℕ → BlockSet) (flushers : ℕ → Flusher C) (reclaims : ℕ → Option Reclaim) (scans : ℕ → Option Scan) (f : ℕ) (ψ : Flusher C)
      → (AllWait rules m H place g.filling (flushers f) → AllWait rules m H place g.filling ψ)
      → IsAgainIn rules m H g place flushers reclaims scans → IsAgainIn rules m H g place (put flushers f ψ) reclaims scans
  one_waits m H g place flushers reclaims scans f ψ change ok =
      record { waits = put_one (λ q φ. AllWait rules m H place g.filling φ) flushers f ψ (change (ok.waits f)) (λ q _. ok.waits q); stages = ok.stages }

  -- one reclaim changes
  pub one_reclaim : (m : ℕ → Option Slot) (H : List (Event C)) (g : Ground) (place : ℕ → BlockSet) (flushers : ℕ → Flusher C) (reclaims : ℕ → Option Reclaim) (scans scans' : ℕ → Option Scan) (b : ℕ) (r : Option Reclaim)
      → ((c : ℕ) → (c ≡ b → ⊥) → scans' c ≡ scans c) → ReclaimOk rules m g place b r (scans' b)
      → IsAgainIn rules m H g place flushers reclaims scans → IsAgainIn rules m H g place flushers (put reclaims b r) scans'
  one_reclaim m H g place flushers reclaims scans scans' b r others here ok =
      record {
        waits = ok.waits;
        stages = put_one (λ c q. ReclaimOk rules m g place c q (scans' c)) reclaims b r here
            (λ c ne. subst (λ s. ReclaimOk rules m g place c (reclaims c) s) (sym (others c ne)) (ok.stages c));
      }

  -- reads of a reclaim

  -- a slot's address in its present filling is solid
  pub solid_at : (w : World C) (h : ℕ) (a : Address) → WorldInvariant rules w → w.core.index h ≡ Some (Indexed a) → a.filling ≡ w.core.filling a.block
      → (x : Outcome C) × (newest h w.history ≡ Some (Put h a.sequence x)) × IsSolid rules (ground_of w) w.block_writes h a x
  solid_at w h a sound is fill =
      let ok : SlotOk rules (ground_of w) w.block_writes w.history h (line_of (w.core.flushers (flusher_of rules h))) (Some (Indexed a)) =
      subst (λ slot. SlotOk rules (ground_of w) w.block_writes w.history h (line_of (w.core.flushers (flusher_of rules h))) slot) is (sound.slots h (flusher_of rules h) refl) in
      (ok.0, ok.1, (ok.2).solid fill)

  -- each record that is read keeps its fact if its address is solid
  scan_maps : (w : World C) (g : Ground) (b h : ℕ) (a : Address) (f : ℕ → ReadState → ReadState) (scan : Option Scan) → a.block ≡ b → a.filling ≡ w.core.filling b
      → WorldInvariant rules w
      → ((s : Scan) (x : Outcome C) → scan ≡ Some s → s.offset ≡ a.offset → s.len ≡ a.len → IsSolid rules (ground_of w) w.block_writes h a x → ReadStateHolds rules (ground_of w) a s.read_state → ReadStateHolds rules g a (f b s.read_state))
      → ScanOk rules w.core.index (still_of rules w) h a scan → ScanOk rules w.core.index g h a (at_scan f b scan)
  scan_maps w g b h a f None is fill sound change ok = tt
  scan_maps w g b h a f (Some s) is fill sound change ok = (
    ok.0,
    ok.1,
    λ e. let solid : (x : Outcome C) × (newest h w.history ≡ Some (Put h a.sequence x)) × IsSolid rules (ground_of w) w.block_writes h a x =
        solid_at w h a sound e (fill ∙ ap w.core.filling (sym is)) in
        change s solid.0 refl ok.0 ok.1 solid.2 (ok.2 e),
  )

  stage_maps : (w : World C) (bytes : ℕ → ℕ → ℕ) (b : ℕ) (f : ℕ → ReadState → ReadState) (stage : Stage) (scan : Option Scan) → WorldInvariant rules w
      → ((h : ℕ) (a : Address) (s : Scan) (x : Outcome C) → a.block ≡ b → scan ≡ Some s → s.offset ≡ a.offset → s.len ≡ a.len → IsSolid rules (ground_of w) w.block_writes h a x → ReadStateHolds rules (ground_of w) a s.read_state
      → ReadStateHolds rules (record (still_of rules w) { bytes = bytes }) a (f b s.read_state))
      → StageOk rules w.core.index (still_of rules w) b stage scan → StageOk rules w.core.index (record (still_of rules w) { bytes = bytes }) b stage (at_scan f b scan)
  stage_maps w bytes b f (AtIndex place) scan sound change ok = tt
  stage_maps w bytes b f AllListed scan sound change ok = tt
  stage_maps w bytes b f ToClean scan sound change ok = tt
  stage_maps w bytes b f (AtRecord h a rest place) scan sound change ok =
      (ok.0, ok.1, ok.2, scan_maps w (record (still_of rules w) { bytes = bytes }) b h a f scan ok.0 ok.1 sound (λ s x. change h a s x ok.0) ok.3)

  pub reclaim_maps : (w : World C) (bytes : ℕ → ℕ → ℕ) (b : ℕ) (f : ℕ → ReadState → ReadState) (r : Option Reclaim) → WorldInvariant rules w
      → ((h : ℕ) (a : Address) (s : Scan) (x : Outcome C) → a.block ≡ b → w.scans b ≡ Some s → s.offset ≡ a.offset → s.len ≡ a.len → IsSolid rules (ground_of w) w.block_writes h a x → ReadStateHolds rules (ground_of w) a s.read_state
      → ReadStateHolds rules (record (still_of rules w) { bytes = bytes }) a (f b s.read_state))
      → ReclaimOk rules w.core.index (still_of rules w) w.core.place b r (w.scans b) → ReclaimOk rules w.core.index (record (still_of rules w) { bytes = bytes }) w.core.place b r (at_scan f b (w.scans b))
  reclaim_maps w bytes b f None sound change ok = tt
  reclaim_maps w bytes b f (Some r) sound change ok = (ok.0, ok.1, stage_maps w bytes b f r.stage (w.scans b) sound change ok.2)
