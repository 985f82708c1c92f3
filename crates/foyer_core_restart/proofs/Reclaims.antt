-- A reclaim picks a block, reads it, forgets it, and its block is cleaned.
use Rattle.std.proofs.lemmas.Bool.Decides.{nat_tests}
use Rattle.std.proofs.Common.{◌≡◌, ℕ, ◌+◌, ◌<◌, ◌≤◌, ◌==◌, nat_le, Bool, true, false, ◌&&◌, if◌then◌else◌, Option, Some, None, List, [], ◌∷◌, ◌++◌, map, ◌⊎◌, inl, inr, refl, sym, ap, subst, ◌∙◌, arith, append_assoc}
use Rattle.std.proofs.lemmas.Bool.{eqb-false}
use Rattle.std.proofs.lemmas.List.{append-nil}
use Rattle.foyer_format_layout.specs.Position.{Sizes, fresh}
use Rattle.foyer_format_layout.specs.Page.{page_up}
use Rattle.foyer_format_blob.specs.Blob.{IsSealed}
use Rattle.foyer_format_layout.specs.BlockBytes.{all_laid, read}
use Rattle.foyer_format_buffer.specs.Position as laid
use Rattle.foyer_format_buffer.specs.Fills.{AreSizes}
use Rattle.foyer_format_buffer.specs.Holding.{all_read, Leads, Holds}
use Rattle.foyer_format_buffer.specs.Holding.Leads.{here, over}
use Rattle.foyer_format_buffer.specs.Listing.{IsIndex, behind, placed, Chain, Lists}
use Rattle.foyer_format_buffer.specs.Listing.Chain.{ends, goes}
use Rattle.foyer_format_buffer.proofs.HoldsLemmas.{holds_fresh, holds_lists}
use Rattle.foyer_core_model.specs.Numbers.{put}
use Rattle.foyer_core_model.specs.Record.{Address, Slot, Indexed, Mark, IndexEntry, Record}
use Rattle.foyer_core_model.specs.Position.{Position}
use Rattle.foyer_core_model.specs.State.{Flusher, BlockSet, Clean, Writes, Evictable, Reclaims, Stage, AtIndex, AllListed, ToClean, Reclaim}
use Rattle.foyer_core_model.specs.Rules.{Rules, Splitting, sizes_of}
use Rattle.foyer_core_model.specs.Index.{is_same, without, forgotten}
use Rattle.foyer_core_model.specs.Flush.{is_cleaning}
use Rattle.foyer_core_model.specs.Reclaim.{addresses, place_behind}
use Rattle.foyer_core_model.specs.InTurn.{IsAt, AwaitsClean}
use Rattle.foyer_core_model.specs.Access.{CleanIdle, CleanIssued, ReadIssued, Scan}
use Rattle.foyer_core_model.proofs.Basics.{put_at, put_one, put_both, put_same, put_other, Ascends}
use Rattle.foyer_core_model.proofs.Invariant.{blocks_in, goes_on_in, start_of}
use Rattle.foyer_core_restart.specs.Entries.{In, filled_to, entry_in, entry_at, entry_done, entry_of, puts_at}
use Rattle.foyer_core_restart.specs.Real.{IsReal}
use Rattle.foyer_core_restart.proofs.Members.{in_left, in_right, in_either}
use Rattle.foyer_core_restart.proofs.Tasks.{Entry, role_more, TasksOk}
use Rattle.foyer_core_restart.proofs.Safe.{Sight, job_in, left_in, AllWait, IsOf, IsBelow, IsSlot, IsDead, IsHeld, RestOk, sequences_of, puts_in, address_in, AllListedIn, StageReads, ReadsOk, IsSafe}
use Rattle.foyer_core_restart.proofs.Puts.{in_puts}
use Rattle.foyer_core_restart.proofs.Stop.{some_same}
use Rattle.foyer_core_restart.proofs.Owned.{IsOwned}
use Rattle.foyer_core_restart.proofs.Issued.{same_or, awaits_cleaning, no_puts}

-- chains

-- one index more
leads_more : (s : Sizes) (B : ℕ → ℕ) (p q : ℕ) (xs : List Entry) (e : Entry) (es : List Entry) → Leads s B p xs q
    → IsIndex s B all_read q (e ∷ es) → Leads s B p (xs ++ placed q (e ∷ es)) (behind s q (e ∷ es))
leads_more s B p q xs e es (here) is = subst (λ l. Leads s B q l (behind s q (e ∷ es))) (append-nil (placed q (e ∷ es))) (over is here)
leads_more s B p q xs e es (over {e = d} {es = ds} {rest = rest} first leads) is =
    subst (λ l. Leads s B p l (behind s q (e ∷ es))) (sym (append_assoc (placed p (d ∷ ds)) rest (placed q (e ∷ es))))
    (over first (leads_more s B (behind s p (d ∷ ds)) q rest e es leads is))

-- a chain behind its front
leads_chain : (s : Sizes) (B : ℕ → ℕ) (p q r : ℕ) (xs rest : List Entry) → Leads s B p xs q → Chain s B all_read q rest r → Chain s B all_read p (xs ++ rest) r
leads_chain s B p q r xs rest (here) chain = chain
leads_chain s B p q r xs rest (over {e = e} {es = es} {rest = more} is leads) chain =
    subst (λ l. Chain s B all_read p l r) (sym (append_assoc (placed p (e ∷ es)) more rest)) (goes is (leads_chain s B (behind s p (e ∷ es)) q r more rest leads chain))

-- the listing ends at a place
leads_ends : (s : Sizes) (B : ℕ → ℕ) (q : ℕ) (es : List Entry) → Leads s B 0 es q → ((fs : List Entry) → IsIndex s B all_read q fs → ⊥) → Lists s B all_read es
leads_ends s B q es leads none = record { end = q; chain = subst (λ l. Chain s B all_read 0 l q) (append-nil es) (leads_chain s B 0 q q es [] leads (ends none)) }

-- addresses of entries

listed_in : (b n p : ℕ) (e : Entry) (es : List IndexEntry) → In e (placed p (map entry_in es)) → In (e.hash, address_in b n e) (addresses b n p es)
listed_in b n p e [] i = absurd i
listed_in b n p e (x ∷ xs) (inl same) = inl (λ i. ((same i).hash, address_in b n (same i)))
listed_in b n p e (x ∷ xs) (inr i) = inr (listed_in b n p e xs i)

behind_is : (page : ℕ → ℕ) (s : Sizes) → ((n : ℕ) → page n ≡ page_up n) → (p : ℕ) (es : List IndexEntry) → place_behind page s.block p es ≡ behind s p (map entry_in es)
behind_is page s pages p [] = refl
behind_is page s pages p (e ∷ []) = ap (λ k. p + e.offset + k) (pages e.len)
behind_is page s pages p (e ∷ f ∷ es) = behind_is page s pages p (f ∷ es)

-- what is forgotten

forgotten_out : (ps : List (ℕ × Address)) (m : ℕ → Option Slot) (h : ℕ) (a : Address) → forgotten ps m h ≡ Some (Indexed a) → (m h ≡ Some (Indexed a)) × (In (h, a) ps → ⊥)
forgotten_out [] m h a is = (is, λ i. i)
forgotten_out (p ∷ ps) m h a is =
    let r : (put m p.0 (without p.1 (m p.0)) h ≡ Some (Indexed a)) × (In (h, a) ps → ⊥) = forgotten_out ps (put m p.0 (without p.1 (m p.0))) h a is in
    let one : (m h ≡ Some (Indexed a)) × ((h, a) ≡ p → ⊥) =
    put_at (λ x. x ≡ Some (Indexed a) → (m h ≡ Some (Indexed a)) × ((h, a) ≡ p → ⊥)) m p.0 (without p.1 (m p.0)) h
    (λ at e. let k : (m p.0 ≡ Some (Indexed a)) × (p.1 ≡ a → ⊥) = cut (m p.0) e in (ap m at ∙ k.0, λ same. k.1 (sym (ap (λ q. q.1) same))))
    (λ ne e. (e, λ same. ne (ap (λ q. q.0) same))) r.0 in
    (one.0, λ i. elim i [ inl same ↦ one.1 same | inr later ↦ r.1 later ])
  where
    same_self : (c : Address) → is_same c c ≡ true
    same_self c = λ i. eqb c.block i && eqb c.offset i && eqb c.len i && eqb c.sequence i && eqb c.filling i
      where
        eqb : (n : ℕ) → (n == n) ≡ true
        eqb n = go (n == n) refl
          where
            go : (t : Bool) → (n == n) ≡ t → t ≡ true
            go true e = refl
            go false e = absurd (eqb-false n n e refl)

    cut : (slot : Option Slot) → without p.1 slot ≡ Some (Indexed a) → (slot ≡ Some (Indexed a)) × (p.1 ≡ a → ⊥)
    cut None e = absurd (let f : None ≡ Some (Indexed a) = e in cc)
    cut (Some (Mark s)) e = absurd (let f : Some (Mark s) ≡ Some (Indexed a) = e in cc)
    cut (Some (Indexed c)) e = go (is_same p.1 c) refl e
      where
        go : (t : Bool) → is_same p.1 c ≡ t → (if t then None else Some (Indexed c)) ≡ Some (Indexed a) → (Some (Indexed c) ≡ Some (Indexed a)) × (p.1 ≡ a → ⊥)
        go true k f = absurd (let g : None ≡ Some (Indexed a) = f in cc)
        go false k f = (
          f,
          λ same. let g : Indexed c ≡ Indexed a = some_same (Indexed c) (Indexed a) f in
              let d : c ≡ a = cc in let z : true ≡ false = sym (same_self c) ∙ ap (λ x. is_same x c) (d ∙ sym same) ∙ k in cc,
        )

-- nothing is admitted
pub none_admitted : (vs : List Bool) (ps : List (ℕ × Address)) → Rattle.foyer_core_restart.specs.Restart.AllRefused vs → Rattle.foyer_core_model.specs.Reclaim.admitted vs ps ≡ []
none_admitted [] ps ok = refl
none_admitted (true ∷ vs) ps ok = absurd ok
none_admitted (false ∷ vs) [] ok = refl
none_admitted (false ∷ vs) (p ∷ ps) ok = none_admitted vs ps ok

module _ (A : Type 0) {C : Type 0} (rules : Rules C) (sizes : AreSizes (sizes_of rules)) where
  -- places, reclaims and their reads change, and no block dies or comes to life
  pub reclaims_change : (v : Sight C) (place : ℕ → BlockSet) (reclaims : ℕ → Option Reclaim) (scans : ℕ → Option Scan) → IsSafe A rules v
      → ((c : ℕ) → IsDead place reclaims c → IsDead v.place v.reclaims c) → ((c : ℕ) → IsDead v.place v.reclaims c → IsDead place reclaims c)
      → ((c : ℕ) → IsAt ToClean (v.reclaims c) → IsAt ToClean (reclaims c)) → (is_cleaning v.destroy ≡ true → (c : ℕ) → reclaims c ≡ None)
      → ((c : ℕ) → ReadsOk (sizes_of rules) (v.bytes c) c (v.filling c) (reclaims c) (scans c))
      → IsSafe A rules (record v { place = place; reclaims = reclaims; scans = scans })
  reclaims_change v place reclaims scans s dead dead_back soon quiet reads = record {
    low = s.low;
    lines = s.lines;
    done = s.done;
    ups = s.ups;
    held = s.held;
    rests = s.rests;
    well = s.well;
    log = s.log;
    reads = reads;
    slots = λ h a at. let k : IsSlot v.filling v.committed v.place v.reclaims h a = s.slots h a at in
        record { present = k.present; stored = k.stored; among = k.among; block = k.block; count = k.count; entry = k.entry; alive = λ d. k.alive (dead a.block d); top = k.top };
    still = λ c living no_job. s.still c (λ d. living (dead_back c d)) no_job;
    apart = record {
      dirty = λ c e. elim (s.apart.dirty c e) [ inl at ↦ inl (soon c at) | inr awaits ↦ inr awaits ];
      idle = s.apart.idle;
      none = quiet;
      cleaned = s.apart.cleaned;
      handed = s.apart.handed;
    };
  }

  -- the start of a reclaim
  abbrev pub begun_reclaim : Reclaim
  begun_reclaim = record { stage = AtIndex 0; listed = []; requeued = [] }

  evictable_none : (v : Sight C) (b : ℕ) → IsOwned rules v → v.place b ≡ Evictable → v.reclaims b ≡ None
  evictable_none v b o at = go (v.reclaims b) refl
    where
      go : (r : Option Reclaim) → v.reclaims b ≡ r → r ≡ None
      go None is = refl
      go (Some r) is = absurd (let x : Reclaims ≡ Evictable = sym (o.reclaims b r is) ∙ at in cc)

  pub picked : (v : Sight C) (b : ℕ) → IsOwned rules v → v.place b ≡ Evictable → is_cleaning v.destroy ≡ false → IsSafe A rules v
      → IsSafe A rules (record v {
        place = put v.place b Reclaims;
        reclaims = put v.reclaims b (Some begun_reclaim);
        scans = put v.scans b (Some (record { offset = 0; len = rules.index_size; read_state = ReadIssued }));
      })
  picked v b o at quiet s =
      reclaims_change v (put v.place b Reclaims) (put v.reclaims b (Some begun_reclaim)) (put v.scans b (Some (record { offset = 0; len = rules.index_size; read_state = ReadIssued }))) s
      (λ c d. put_both (λ q p r. (p ≡ Clean) ⊎ IsAt ToClean r → IsDead v.place v.reclaims q) v.place v.reclaims b Reclaims (Some begun_reclaim)
      (λ k. elim k [ inl e ↦ absurd (let x : Reclaims ≡ Clean = e in cc) | inr e ↦ absurd (let x : AtIndex 0 ≡ ToClean = e in cc) ]) (λ q _ k. k) c d)
      (λ c d. put_both (λ q p r. IsDead v.place v.reclaims q → (p ≡ Clean) ⊎ IsAt ToClean r) v.place v.reclaims b Reclaims (Some begun_reclaim)
      (λ k. absurd (elim k [ inl e ↦ (let x : Evictable ≡ Clean = sym at ∙ e in cc) | inr e ↦ subst (IsAt ToClean) none e ])) (λ q _ k. k) c d)
      (put_one (λ q r. IsAt ToClean (v.reclaims q) → IsAt ToClean r) v.reclaims b (Some begun_reclaim) (λ e. absurd (subst (IsAt ToClean) none e)) (λ q _ e. e))
      (λ e. absurd (let x : true ≡ false = sym e ∙ quiet in cc))
      (put_both (λ q r sc. ReadsOk (sizes_of rules) (v.bytes q) q (v.filling q) r sc) v.reclaims v.scans b (Some begun_reclaim) (Some (record { offset = 0; len = rules.index_size; read_state = ReadIssued }))
      (refl, ([], here, λ e i. absurd i, (refl, refl, tt), (let l : rules.index_size < rules.block_size = sizes.order in omega arith))) (λ q _. s.reads q))
    where
      none : v.reclaims b ≡ None
      none = evictable_none v b o at

  -- a reclaim reads on
  pub read_on : (v : Sight C) (b : ℕ) (r q : Reclaim) (scan : Option Scan) → v.reclaims b ≡ Some r → (r.stage ≡ ToClean → ⊥) → (q.stage ≡ ToClean → ⊥)
      → ReadsOk (sizes_of rules) (v.bytes b) b (v.filling b) (Some q) scan → IsSafe A rules v
      → IsSafe A rules (record v { reclaims = put v.reclaims b (Some q); scans = put v.scans b scan })
  read_on v b r q scan is not_yet nor reads s =
      reclaims_change v v.place (put v.reclaims b (Some q)) (put v.scans b scan) s
      (λ c d. elim d [ inl clean ↦ inl clean | inr e ↦ inr (put_one (λ k x. IsAt ToClean x → IsAt ToClean (v.reclaims k)) v.reclaims b (Some q) (λ e. absurd (nor e)) (λ k _ e. e) c e) ])
      (λ c d. elim d [ inl clean ↦ inl clean | inr e ↦ inr (soon c e) ])
      soon
      (λ e c. absurd (let x : None ≡ Some r = sym (s.apart.none e b) ∙ is in cc))
      (put_both (λ k x sc. ReadsOk (sizes_of rules) (v.bytes k) k (v.filling k) x sc) v.reclaims v.scans b (Some q) scan reads (λ k _. s.reads k))
    where
      soon : (c : ℕ) → IsAt ToClean (v.reclaims c) → IsAt ToClean (put v.reclaims b (Some q) c)
      soon = put_one (λ k x. IsAt ToClean (v.reclaims k) → IsAt ToClean x) v.reclaims b (Some q) (λ e. absurd (not_yet (subst (IsAt ToClean) is e))) (λ k _ e. e)

  -- what an index that was read makes of a reclaim

  -- the bytes that were read aren't an index
  pub read_none : (Splits : Splitting C) → IsReal A rules Splits → (B : ℕ → ℕ) (b n p : ℕ) (bs : List ℕ) (r : Reclaim) → r.stage ≡ AtIndex p → rules.entries_of p bs ≡ None → bs ≡ read B p rules.index_size
      → (scan : Option Scan) → ReadsOk (sizes_of rules) B b n (Some r) scan → (other : Option Scan) → ReadsOk (sizes_of rules) B b n (Some (record r { stage = AllListed })) other
  read_none Splits real B b n p bs r at none same scan ok other =
      let k : StageReads (sizes_of rules) B b n r.listed (AtIndex p) scan = subst (λ st. StageReads (sizes_of rules) B b n r.listed st scan) at ok.1 in (
        ok.0,
        (k.0, leads_ends (sizes_of rules) B p k.0 k.1 (λ fs is. real.format.ends p bs fs none (subst (λ l. IsSealed l fs) (sym same) is.sealed) is.fits), k.2),
      )

  abbrev pub stage_next : ℕ → Stage
  stage_next p = if nat_le (p + rules.index_size) rules.block_size then AtIndex p else AllListed

  abbrev pub scan_next : ℕ → Option Scan
  scan_next p = if nat_le (p + rules.index_size) rules.block_size then Some (record { offset = p; len = rules.index_size; read_state = ReadIssued }) else None

  -- they are one
  pub read_some : (Splits : Splitting C) → IsReal A rules Splits → (B : ℕ → ℕ) (b n p : ℕ) (bs : List ℕ) (es : List IndexEntry) (r : Reclaim) → r.stage ≡ AtIndex p → rules.entries_of p bs ≡ Some es → bs ≡ read B p rules.index_size
      → (scan : Option Scan) → ReadsOk (sizes_of rules) B b n (Some r) scan
      → ReadsOk (sizes_of rules) B b n (Some (record r { stage = stage_next (place_behind rules.page_up rules.block_size p es); listed = addresses b n p es ++ r.listed })) (scan_next (place_behind rules.page_up rules.block_size p es))
  read_some Splits real B b n p bs es r at some same scan ok = (
    ok.0,
    subst (λ q. StageReads s B b n listed (stage_next q) (scan_next q)) (sym (behind_is rules.page_up s real.format.pages p es)) (go (map entry_in es) refl),
  )
    where
      s : Sizes
      s = sizes_of rules

      listed : List (ℕ × Address)
      listed = addresses b n p es ++ r.listed

      k : StageReads s B b n r.listed (AtIndex p) scan
      k = subst (λ st. StageReads s B b n r.listed st scan) at ok.1

      index : IsIndex s B all_read p (map entry_in es)
      index = record { room = k.4; came = refl; sealed = subst (λ l. IsSealed l (map entry_in es)) same (real.format.lists p bs es some).0; fits = (real.format.lists p bs es some).1 }

      before : (e : Entry) → In e k.0 → In (e.hash, address_in b n e) listed
      before e i = in_right (e.hash, address_in b n e) (addresses b n p es) r.listed (k.2 e i)

      all : (fs : List Entry) → map entry_in es ≡ fs → AllListedIn b n (k.0 ++ placed p fs) listed
      all fs is e i = elim (in_either e k.0 (placed p fs) i) [
        | inl old ↦ before e old
        | inr new ↦ in_left (e.hash, address_in b n e) (addresses b n p es) r.listed (listed_in b n p e es (subst (λ l. In e (placed p l)) (sym is) new))
      ]

      no_room : (q : ℕ) → nat_le (q + rules.index_size) rules.block_size ≡ false → (fs : List Entry) → IsIndex s B all_read q fs → ⊥
      no_room q e fs is = let l : q + rules.index_size ≤ rules.block_size = is.room in grind (arith, nat_tests, e, l)

      next : (q : ℕ) (xs : List Entry) → Leads s B 0 xs q → AllListedIn b n xs listed → StageReads s B b n listed (stage_next q) (scan_next q)
      next q xs leads are = pick (nat_le (q + rules.index_size) rules.block_size) refl
        where
          pick : (t : Bool) → nat_le (q + rules.index_size) rules.block_size ≡ t
              → StageReads s B b n listed (if t then AtIndex q else AllListed) (if t then Some (record { offset = q; len = rules.index_size; read_state = ReadIssued }) else None)
          pick true e = (xs, leads, are, (refl, refl, tt), grind (arith, nat_tests, e))
          pick false e = (xs, leads_ends s B q xs leads (no_room q e), are)

      -- behind an index without entries the block ends
      empty : map entry_in es ≡ [] → (t : Bool) → nat_le (p + rules.block_size + rules.index_size) rules.block_size ≡ t
          → StageReads s B b n listed (if t then AtIndex (p + rules.block_size) else AllListed) (if t then Some (record { offset = p + rules.block_size; len = rules.index_size; read_state = ReadIssued }) else None)
      empty is true e = absurd (let l : 0 < rules.index_size = sizes.some in grind (arith, nat_tests, e, l))
      empty is false e = (
        k.0,
        record {
          end = p + rules.block_size;
          chain = subst (λ l. Chain s B all_read 0 l (p + rules.block_size)) (append-nil k.0)
              (leads_chain s B 0 p (p + rules.block_size) k.0 [] k.1 (goes (subst (IsIndex s B all_read p) is index) (ends (no_room (p + rules.block_size) e))));
        },
        before,
      )

      go : (fs : List Entry) → map entry_in es ≡ fs → StageReads s B b n listed (stage_next (behind s p fs)) (scan_next (behind s p fs))
      go [] is = empty is (nat_le (p + rules.block_size + rules.index_size) rules.block_size) refl
      go (f ∷ fs) is = next (behind s p (f ∷ fs)) (k.0 ++ placed p (f ∷ fs)) (leads_more s B 0 p k.0 f fs k.1 (subst (IsIndex s B all_read p) is index)) (all (f ∷ fs) is)

  -- what was listed leaves the index
  pub forgot : (v : Sight C) (b : ℕ) (r : Reclaim) → IsOwned rules v → v.reclaims b ≡ Some r → r.stage ≡ AllListed → IsSafe A rules v
      → IsSafe A rules (record v { index = forgotten r.listed v.index; reclaims = put v.reclaims b (Some (record r { stage = ToClean })); clean_states = put v.clean_states b CleanIssued })
  forgot v b r o is at s = record {
    low = s.low;
    lines = s.lines;
    done = s.done;
    ups = s.ups;
    held = s.held;
    rests = s.rests;
    well = s.well;
    log = s.log;
    slots = λ h a e.
        let left : (v.index h ≡ Some (Indexed a)) × (In (h, a) r.listed → ⊥) = forgotten_out r.listed v.index h a e in
        let k : IsSlot v.filling v.committed v.place v.reclaims h a = s.slots h a left.0 in
        let other : a.block ≡ b → ⊥ = λ at_b. left.1 (was_listed h a k at_b) in
        record {
          present = k.present;
          stored = k.stored;
          among = k.among;
          block = k.block;
          count = k.count;
          entry = k.entry;
          top = k.top;
          alive = λ d. k.alive (elim d [ inl clean ↦ inl clean | inr soon ↦ inr (subst (IsAt ToClean) (put_other v.reclaims b (Some (record r { stage = ToClean })) a.block other) soon) ]);
        };
    still = λ c living no_job. s.still c
        (λ d. living (elim d [ inl clean ↦ inl clean | inr soon ↦ inr (put_one (λ q x. IsAt ToClean (v.reclaims q) → IsAt ToClean x) v.reclaims b (Some (record r { stage = ToClean })) (λ _. refl) (λ q _ e. e) c soon) ])) no_job;
    apart = record {
      dirty = λ c e. put_both (λ q x k. (k ≡ CleanIdle → ⊥) → IsAt ToClean x ⊎ AwaitsClean q v.destroy) v.reclaims v.clean_states b (Some (record r { stage = ToClean })) CleanIssued (λ _. inl refl) (λ q _ e. s.apart.dirty q e) c e;
      idle = s.apart.idle;
      none = λ e. absurd (let x : None ≡ Some r = sym (s.apart.none e b) ∙ is in cc);
      cleaned = s.apart.cleaned;
      handed = s.apart.handed;
    };
    reads = put_one (λ q x. ReadsOk (sizes_of rules) (v.bytes q) q (v.filling q) x (v.scans q)) v.reclaims b (Some (record r { stage = ToClean })) (reading.0, tt) (λ q _. s.reads q);
  }
    where
      sz : Sizes
      sz = sizes_of rules

      reading : ReadsOk sz (v.bytes b) b (v.filling b) (Some r) (v.scans b)
      reading = subst (λ x. ReadsOk sz (v.bytes b) b (v.filling b) x (v.scans b)) is (s.reads b)

      lists : StageReads sz (v.bytes b) b (v.filling b) r.listed AllListed (v.scans b)
      lists = subst (λ st. StageReads sz (v.bytes b) b (v.filling b) r.listed st (v.scans b)) at reading.1

      place : v.place b ≡ Reclaims
      place = o.reclaims b r is

      still : (g : laid.Position) × Holds sz (v.bytes b) g (puts_in v.filling v.committed b)
      still = s.still b
          (λ d. elim d [ inl clean ↦ (let x : Reclaims ≡ Clean = sym place ∙ clean in cc) | inr soon ↦ (let x : AllListed ≡ ToClean = sym at ∙ subst (IsAt ToClean) is soon in cc) ])
          (λ (f, ps, is_job). let x : Reclaims ≡ Writes f = sym place ∙ o.place f b (o.job f b ps is_job) in cc)

      front : (rest : List Entry) × (lists.0 ≡ puts_in v.filling v.committed b ++ rest)
      front = holds_lists sz (v.bytes b) still.0 (puts_in v.filling v.committed b) lists.0 still.1 lists.1

      was_listed : (h : ℕ) (a : Address) → IsSlot v.filling v.committed v.place v.reclaims h a → a.block ≡ b → In (h, a) r.listed
      was_listed h a k at_b =
          let among : In (entry_done k.stored) (puts_in v.filling v.committed b) = in_puts b (v.filling b) k.stored v.committed k.among (k.block ∙ at_b) (k.count ∙ k.present ∙ ap v.filling at_b) in
          let entry : In (entry_at h a) lists.0 = subst (λ l. In (entry_at h a) l) (sym front.1) (in_left (entry_at h a) (puts_in v.filling v.committed b) front.0 (subst (λ e. In e (puts_in v.filling v.committed b)) k.entry among)) in
          subst (λ (q : ℕ × Address). In q r.listed) (λ i. (h, record { block = at_b' i; offset = a.offset; len = a.len; sequence = a.sequence; filling = count i })) (lists.2 (entry_at h a) entry)
        where
          at_b' : b ≡ a.block
          at_b' = sym at_b

          count : v.filling b ≡ a.filling
          count = sym (k.present ∙ ap v.filling at_b)

  -- the block is clean
  pub cleaned : (v : Sight C) (b : ℕ) (r : Reclaim) → IsOwned rules v → v.reclaims b ≡ Some r → r.stage ≡ ToClean → IsSafe A rules v
      → IsSafe A rules (record v { place = put v.place b Clean; reclaims = put v.reclaims b None; clean_states = put v.clean_states b CleanIdle })
  cleaned v b r o is at s = record {
    low = s.low;
    lines = s.lines;
    done = s.done;
    ups = s.ups;
    held = s.held;
    rests = s.rests;
    well = s.well;
    log = s.log;
    slots = λ h a e. let k : IsSlot v.filling v.committed v.place v.reclaims h a = s.slots h a e in
        record {
          present = k.present;
          stored = k.stored;
          among = k.among;
          block = k.block;
          count = k.count;
          entry = k.entry;
          top = k.top;
          alive = λ d. k.alive (put_both (λ q p x. (p ≡ Clean) ⊎ IsAt ToClean x → IsDead v.place v.reclaims q) v.place v.reclaims b Clean None (λ _. inr soon) (λ q _ e. e) a.block d);
        };
    still = λ c living no_job. s.still c (λ d. living (put_both (λ q p x. IsDead v.place v.reclaims q → (p ≡ Clean) ⊎ IsAt ToClean x) v.place v.reclaims b Clean None (λ _. inl refl) (λ q _ e. e) c d)) no_job;
    apart = record {
      dirty = λ c e. put_both (λ q x k. (k ≡ CleanIdle → ⊥) → IsAt ToClean x ⊎ AwaitsClean q v.destroy) v.reclaims v.clean_states b None CleanIdle (λ e. absurd (e refl)) (λ q _ e. s.apart.dirty q e) c e;
      idle = s.apart.idle;
      none = λ e. put_one (λ q x. x ≡ None) v.reclaims b None refl (λ q _. s.apart.none e q);
      cleaned = s.apart.cleaned;
      handed = s.apart.handed;
    };
    reads = put_one (λ q x. ReadsOk (sizes_of rules) (v.bytes q) q (v.filling q) x (v.scans q)) v.reclaims b None tt (λ q _. s.reads q);
  }
    where
      soon : IsAt ToClean (v.reclaims b)
      soon = subst (IsAt ToClean) (sym is) at

  start_far : (filled filled' : ℕ → Position) (own : Option ℕ) (continues_own_block : Bool) → ((c : ℕ) → own ≡ Some c → filled' c ≡ filled c) → start_of rules filled' own continues_own_block ≡ start_of rules filled own continues_own_block
  start_far filled filled' None continues_own_block far = refl
  start_far filled filled' (Some c) false far = refl
  start_far filled filled' (Some c) true far = far c refl

  -- or goes to a flusher that waits
  pub handed : (v : Sight C) (b f : ℕ) (r : Reclaim) (filled : ℕ → Position) → IsOwned rules v → v.reclaims b ≡ Some r → r.stage ≡ ToClean → ((c : ℕ) → (c ≡ b → ⊥) → filled c ≡ v.filled c) → IsSafe A rules v
      → IsSafe A rules (record v {
        place = put v.place b (Writes f);
        filling = put v.filling b (v.filling b + 1);
        flushers = put v.flushers f (record (v.flushers f) { ready = Some b });
        reclaims = put v.reclaims b None;
        clean_states = put v.clean_states b CleanIdle;
        filled = filled;
      })
  handed v b f r filled o is at far s = record {
    low = s.low;
    lines = record { lows = s.lines.lows; waits = put_one (λ q φ. AllWait (IsOf rules s.low q) φ) v.flushers f ψ (record { batch = (s.lines.waits f).batch; buffer = (s.lines.waits f).buffer; queue = (s.lines.waits f).queue }) (λ q _. s.lines.waits q) };
    done = record {
      below = λ x i. let k : IsBelow rules s.low v.filling x = s.done.below x i in
          record { sequence = k.sequence; block = k.block; count = let l : x.filling ≤ v.filling x.block = k.count in let m : v.filling x.block ≤ put v.filling b (v.filling b + 1) x.block = put_one (λ q n. v.filling q ≤ n) v.filling b (v.filling b + 1) (omega arith) (λ q _. omega arith) x.block in omega arith };
      unique = s.done.unique;
    };
    slots = λ h a e. let k : IsSlot v.filling v.committed v.place v.reclaims h a = s.slots h a e in
        let other : a.block ≡ b → ⊥ = λ at_b. k.alive (subst (IsDead v.place v.reclaims) (sym at_b) (inr soon)) in
        record {
          present = k.present ∙ sym (put_other v.filling b (v.filling b + 1) a.block other);
          stored = k.stored;
          among = k.among;
          block = k.block;
          count = k.count;
          entry = k.entry;
          top = k.top;
          alive = λ d. k.alive (dead a.block d);
        };
    ups = record {
      ascends = λ c. elim (same_or c b) [
        | inl at_b ↦ (0, subst (λ d. Ascends 0 (sequences_of (puts' d)) 0) (sym at_b) (subst (λ l. Ascends 0 (sequences_of l) 0) (sym none) (omega arith)))
        | inr other ↦ subst (λ l. (k : ℕ) × Ascends 0 (sequences_of l) k) (sym (puts_far c other)) (s.ups.ascends c)
      ];
      owned = λ q c e. subst (λ l. Ascends 0 (sequences_of l) (s.low q)) (sym (puts_far c (unowned q c (own_was q c e)))) (s.ups.owned q c (own_was q c e));
    };
    still = λ c living no_job. elim (same_or c b) [
      | inl at_b ↦ (fresh sz, subst (λ d. Holds sz (v.bytes d) (fresh sz) (puts' d)) (sym at_b) (subst (Holds sz (v.bytes b) (fresh sz)) (sym none) (holds_fresh sz (v.bytes b) sizes)))
      | inr other ↦ subst (λ l. (g : laid.Position) × Holds sz (v.bytes c) g l) (sym (puts_far c other))
          (s.still c (λ d. living (dead_back c other d)) (λ (q, ps, is_job). no_job (q, ps, job_now q c ps is_job)))
    ];
    held = put_one (λ q φ. IsHeld sz filled v.bytes puts' φ.own (job_in φ) (left_in (v.block_writes q))) v.flushers f ψ (one f) (λ q _. one q);
    rests = put_one (λ q φ. RestOk A sz (filled_to (start_of rules filled φ.own (goes_on_in φ.batch))) (blocks_in φ.batch)) v.flushers f ψ (rest f) (λ q _. rest q);
    well = s.well;
    log = λ c x i. role_more x.role _ _ x (λ e k. elim k [ inl was ↦ inl was | inr (q, ps, is_job, there) ↦ inr (q, ps, job_now q c ps is_job, there) ]) (s.log c x i);
    apart = record {
      dirty = λ c e. put_both (λ q x k. (k ≡ CleanIdle → ⊥) → IsAt ToClean x ⊎ AwaitsClean q v.destroy) v.reclaims v.clean_states b None CleanIdle (λ e. absurd (e refl)) (λ q _ e. s.apart.dirty q e) c e;
      idle = λ e. absurd (busy e);
      none = λ e. absurd (busy e);
      cleaned = λ c a. absurd (busy (awaits_cleaning c v.destroy a));
      handed = put_one (λ q φ. (c : ℕ) → φ.ready ≡ Some c → puts' c ≡ []) v.flushers f ψ (λ c e. subst (λ d. puts' d ≡ []) (some_same b c e) none)
          (λ q _ c e. puts_far c (λ at_b. let x : v.place c ≡ Writes q = (o.ready q c e).0 in let y : v.place c ≡ Reclaims = ap v.place at_b ∙ place in cc) ∙ s.apart.handed q c e);
    };
    reads = put_both (λ q x n. ReadsOk sz (v.bytes q) q n x (v.scans q)) v.reclaims v.filling b None (v.filling b + 1) tt (λ q _. s.reads q);
  }
    where
      sz : Sizes
      sz = sizes_of rules

      ψ : Flusher C
      ψ = record (v.flushers f) { ready = Some b }

      soon : IsAt ToClean (v.reclaims b)
      soon = subst (IsAt ToClean) (sym is) at

      place : v.place b ≡ Reclaims
      place = o.reclaims b r is

      busy : is_cleaning v.destroy ≡ true → ⊥
      busy e = let x : None ≡ Some r = sym (s.apart.none e b) ∙ is in cc

      puts' : ℕ → List Entry
      puts' = puts_in (put v.filling b (v.filling b + 1)) v.committed

      puts_far : (c : ℕ) → (c ≡ b → ⊥) → puts' c ≡ puts_in v.filling v.committed c
      puts_far c other = ap (λ n. puts_at c n v.committed) (put_other v.filling b (v.filling b + 1) c other)

      none : puts' b ≡ []
      none = ap (λ n. puts_at b n v.committed) (put_same v.filling b (v.filling b + 1)) ∙ no_puts A rules sizes v s.low b (v.filling b + 1) s.done.below (omega arith)

      unowned : (q c : ℕ) → (v.flushers q).own ≡ Some c → c ≡ b → ⊥
      unowned q c own at_b = let x : v.place c ≡ Writes q = o.place q c own in let y : v.place c ≡ Reclaims = ap v.place at_b ∙ place in cc

      own_was : (q c : ℕ) → (put v.flushers f ψ q).own ≡ Some c → (v.flushers q).own ≡ Some c
      own_was q c = put_one (λ k φ. φ.own ≡ Some c → (v.flushers k).own ≡ Some c) v.flushers f ψ (λ e. e) (λ k _ e. e) q

      job_now : (q c : ℕ) (ps : List (ℕ × Record C)) → job_in (v.flushers q) ≡ Some (c, ps) → job_in (put v.flushers f ψ q) ≡ Some (c, ps)
      job_now q c ps = put_one (λ k φ. job_in (v.flushers k) ≡ Some (c, ps) → job_in φ ≡ Some (c, ps)) v.flushers f ψ (λ e. e) (λ k _ e. e) q

      dead : (c : ℕ) → IsDead (put v.place b (Writes f)) (put v.reclaims b None) c → IsDead v.place v.reclaims c
      dead c = put_both (λ q p x. (p ≡ Clean) ⊎ IsAt ToClean x → IsDead v.place v.reclaims q) v.place v.reclaims b (Writes f) None (λ _. inr soon) (λ q _ e. e) c

      dead_back : (c : ℕ) → (c ≡ b → ⊥) → IsDead v.place v.reclaims c → IsDead (put v.place b (Writes f)) (put v.reclaims b None) c
      dead_back c other (inl clean) = inl (put_other v.place b (Writes f) c other ∙ clean)
      dead_back c other (inr e) = inr (subst (IsAt ToClean) (sym (put_other v.reclaims b None c other)) e)

      one : (q : ℕ) → IsHeld sz filled v.bytes puts' (v.flushers q).own (job_in (v.flushers q)) (left_in (v.block_writes q))
      one q = record {
        mine = λ c owns idle. let other : c ≡ b → ⊥ = unowned q c owns in
            subst (λ l. Holds sz (v.bytes c) (filled_to (filled c)) l) (sym (puts_far c other)) (subst (λ g. Holds sz (v.bytes c) (filled_to g) (puts_in v.filling v.committed c)) (sym (far c other)) ((s.held q).mine c owns idle));
        writing = λ c ps is_job. let other : c ≡ b → ⊥ = unowned q c (o.job q c ps is_job) in
            subst (λ l. Holds sz (all_laid (left_in (v.block_writes q)) (v.bytes c)) (filled_to (filled c)) (l ++ map entry_of ps) × TasksOk l ps (v.bytes c) (left_in (v.block_writes q))) (sym (puts_far c other))
            (subst (λ g. Holds sz (all_laid (left_in (v.block_writes q)) (v.bytes c)) (filled_to g) (puts_in v.filling v.committed c ++ map entry_of ps) × TasksOk (puts_in v.filling v.committed c) ps (v.bytes c) (left_in (v.block_writes q))) (sym (far c other))
            ((s.held q).writing c ps is_job));
      }

      rest : (q : ℕ) → RestOk A sz (filled_to (start_of rules filled (v.flushers q).own (goes_on_in (v.flushers q).batch))) (blocks_in (v.flushers q).batch)
      rest q = subst (λ g. RestOk A sz (filled_to g) (blocks_in (v.flushers q).batch)) (sym (start_far v.filled filled (v.flushers q).own (goes_on_in (v.flushers q).batch) (λ c owns. far c (unowned q c owns)))) (s.rests q)
