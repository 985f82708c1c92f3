-- What steps and accesses make of the reads and cleans of blocks that are due.
use Rattle.std.proofs.Common.{◌≡◌, ℕ, zero, suc, ◌<◌, nat_lt, Bool, true, false, ◌||◌, if◌then◌else◌, List, ◌⊎◌, inl, inr, length, replicate, Option, Some, None, slice_get, slice_set, refl, sym, ap, subst, ◌∙◌, arith}
use Rattle.std.proofs.lemmas.Bool.Decides.{nat_tests}
use Rattle.std.proofs.lemmas.List.{length-replicate}
use Rattle.std.proofs.lemmas.Option.{slice_get_past}
use Rattle.foyer_core_model.specs.Access.{ReadState, ReadIssued, Reading, ReadDone, Scan, CleanState, CleanIssued, at_scan, read_torn, scans_after, cleans_after}
use Rattle.foyer_core_model.specs.Follows.{Follows}
use Rattle.foyer_core_model.specs.Ids.{ids, is_id_in}
use Rattle.foyer_core_model.specs.Reply as model_reply
use Rattle.foyer_core_model.specs.Step as model_step
use Rattle.foyer_core_model.specs.World.{World}
use Rattle.foyer_core_model.proofs.Basics.{put_at, put_same, put_other}
use Rattle.foyer_core_laws.specs.Content.{Content, Meaning}
use Rattle.foyer_core_laws.specs.CoreRules.{layout, machine}
use Rattle.foyer_core_laws.specs.Sizes.{AreValid}
use Rattle.foyer_core_laws.specs.Settings.{Settings}
use Rattle.foyer_core_steps.specs.Asked.{step_of}
use Rattle.foyer_core_steps.specs.Refines.{IsRefined}
use Rattle.foyer_core_steps.specs.Replied.{IsReply}
use Rattle.foyer_core_steps.specs.declared.reply.Reply.{Reply}
use Rattle.foyer_core_steps.specs.declared.reply.Reply.TheVariants as reply
use Rattle.foyer_core_steps.specs.declared.state.Core.{Core}
use Rattle.foyer_core_steps.specs.declared.step.Step.{Step}
use Rattle.foyer_core_steps.specs.declared.step.Step.TheVariants as step
use Rattle.foyer_block_manager.proofs.InitialLemmas.{in_ids}
use Rattle.foyer_core_steps.proofs.ListLemmas.{set_here, set_there, set_count}
use Rattle.foyer_core_run.specs.Due.{IsUnscanned}
use Rattle.foyer_core_access.specs.Reclaims.{part_in}
use Rattle.foyer_core_run.specs.Running.{IsCleanDue, IsFree, IsScanDue, at, cleans_noted, is_set, issuing_in, scans_noted}
use Rattle.foyer_core_run.specs.declared.moves.steps.Issuing.TheVariants as issuing
use Rattle.foyer_core_access.specs.declared.reclaims.Part.{Part}
use Rattle.foyer_core_run.proofs.ReplyLemmas.{Sort, Picks, Scans, Cleans, Clears, sort, sorted}

-- of each block
abbrev pub AreScansDue : (before : ℕ → Option Scan) → List (Option Part) → (ℕ → Option Scan) → Type 0
AreScansDue before noted scans = (b : ℕ) → IsScanDue (before b) (at (slice_get noted b)) (scans b)

abbrev pub AreCleansDue : (before : ℕ → CleanState) → List Bool → (ℕ → CleanState) → Type 0
AreCleansDue before noted cleans = (b : ℕ) → IsCleanDue (before b) (is_set (slice_get noted b)) (cleans b)

-- a step that issues no read of a reclaim and brings none
abbrev pub IsNoScan : {C : Type 0} → model_step.Step C → Type 0
IsNoScan model_step.ReclaimBegin = ⊥
IsNoScan (model_step.ReclaimRead b came) = ⊥
IsNoScan given = Unit {0}

pub scans_stay : {C : Type 0} (n : ℕ) (it : model_reply.Reply C) (given : model_step.Step C) (scans : ℕ → Option Scan) → IsNoScan given → scans_after n it given scans ≡ scans
scans_stay n (model_reply.Picked b answers probation) model_step.ReclaimBegin scans none = absurd none
scans_stay n (model_reply.Picked b answers probation) given scans none = refl
scans_stay n (model_reply.Scans d o k verdicts) (model_step.ReclaimRead b came) scans none = absurd none
scans_stay n (model_reply.Scans d o k verdicts) given scans none = refl
scans_stay n (model_reply.Listed verdicts) (model_step.ReclaimRead b came) scans none = absurd none
scans_stay n (model_reply.Listed verdicts) given scans none = refl
scans_stay n it given scans none = refl

-- and one that issues no clean and brings none
abbrev pub IsNoClean : {C : Type 0} → model_step.Step C → Type 0
IsNoClean (model_step.ReclaimForget b) = ⊥
IsNoClean (model_step.ReclaimCleaned b is_ok) = ⊥
IsNoClean model_step.DestroyClear = ⊥
IsNoClean (model_step.DestroyCleaned b fault) = ⊥
IsNoClean given = Unit {0}

pub cleans_stay : {C : Type 0} (it : model_reply.Reply C) (given : model_step.Step C) (cleans : ℕ → CleanState) → IsNoClean given → cleans_after it given cleans ≡ cleans
cleans_stay (model_reply.Cleans d) (model_step.ReclaimForget b) cleans none = absurd none
cleans_stay (model_reply.Cleans d) given cleans none = refl
cleans_stay model_reply.Done (model_step.ReclaimCleaned b is_ok) cleans none = absurd none
cleans_stay model_reply.Done (model_step.DestroyCleaned b fault) cleans none = absurd none
cleans_stay model_reply.Done given cleans none = refl
cleans_stay (model_reply.Cleared bs) model_step.DestroyClear cleans none = absurd none
cleans_stay (model_reply.Cleared bs) given cleans none = refl
cleans_stay (model_reply.Destroyed first) (model_step.DestroyCleaned b fault) cleans none = absurd none
cleans_stay (model_reply.Destroyed first) given cleans none = refl
cleans_stay it given cleans none = refl

-- such steps keep what is due
pub scans_beside : {C : Type 0} (before : ℕ → Option Scan) (noted : List (Option Part)) (it : model_reply.Reply C) (given : model_step.Step C) → IsNoScan given → (n : ℕ) (scans : ℕ → Option Scan)
    → AreScansDue before noted scans → AreScansDue before noted (scans_after n it given scans)
scans_beside before noted it given none n scans are = subst (AreScansDue before noted) (sym (scans_stay n it given scans none)) are

pub cleans_beside : {C : Type 0} (before : ℕ → CleanState) (noted : List Bool) (it : model_reply.Reply C) (given : model_step.Step C) → IsNoClean given → (cleans : ℕ → CleanState)
    → AreCleansDue before noted cleans → AreCleansDue before noted (cleans_after it given cleans)
cleans_beside before noted it given none cleans are = subst (AreCleansDue before noted) (sym (cleans_stay it given cleans none)) are

-- a write or a clean that begins tears only reads that have begun
torn_or_same : (covers : ℕ → ℕ → Bool) (b : ℕ) (scan : Option Scan) → (at_scan (read_torn covers) b scan ≡ scan) ⊎ (IsUnscanned (at_scan (read_torn covers) b scan) → ⊥)
torn_or_same covers b None = inl refl
torn_or_same covers b (Some scan) = go scan.read_state refl
  where
    go : (x : ReadState) → scan.read_state ≡ x → (at_scan (read_torn covers) b (Some scan) ≡ Some scan) ⊎ (IsUnscanned (at_scan (read_torn covers) b (Some scan)) → ⊥)
    go ReadIssued is = inl (ap (λ x. Some (record scan { read_state = read_torn covers b x })) is ∙ ap (λ x. Some (record scan { read_state = x })) (sym is))
    go (Reading seen) is = inr (λ e. let f : Reading (λ o. seen o || covers b o) ≡ ReadIssued = sym (ap (read_torn covers b) is) ∙ e in cc)
    go (ReadDone came) is = inr (λ e. let f : ReadDone came ≡ ReadIssued = sym (ap (read_torn covers b) is) ∙ e in cc)

still_unscanned : (covers : ℕ → ℕ → Bool) (b : ℕ) (scan : Option Scan) → IsUnscanned (at_scan (read_torn covers) b scan) → IsUnscanned scan
still_unscanned covers b scan is = elim (torn_or_same covers b scan) [ inl same ↦ subst IsUnscanned same is | inr none ↦ absurd (none is) ]

scan_torn : (covers : ℕ → ℕ → Bool) (b : ℕ) (before : Option Scan) (noted : Option Part) (scan : Option Scan) → IsScanDue before noted scan → IsScanDue before noted (at_scan (read_torn covers) b scan)
scan_torn covers b before None scan (inl same) = elim (torn_or_same covers b scan) [ inl stays ↦ inl (stays ∙ same) | inr none ↦ inr none ]
scan_torn covers b before None scan (inr none) = inr (λ is. none (still_unscanned covers b scan is))
scan_torn covers b before (Some part) scan is = ap (at_scan (read_torn covers) b) is

pub scans_torn : (before : ℕ → Option Scan) (noted : List (Option Part)) (covers : ℕ → ℕ → Bool) (scans : ℕ → Option Scan) → AreScansDue before noted scans
    → AreScansDue before noted (λ b. at_scan (read_torn covers) b (scans b))
scans_torn before noted covers scans are b = scan_torn covers b (before b) (at (slice_get noted b)) (scans b) (are b)

-- which replies issue a reclaim's first read, its next one, its clean, and all cleans
abbrev is_picks : Sort → Bool
is_picks Picks = true
is_picks _ = false

abbrev is_scans : Sort → Bool
is_scans Scans = true
is_scans _ = false

abbrev is_cleans : Sort → Bool
is_cleans Cleans = true
is_cleans _ = false

abbrev is_clears : Sort → Bool
is_clears Clears = true
is_clears _ = false

begin_stays : (n : ℕ) (it : model_reply.Reply Content) (scans : ℕ → Option Scan) → is_picks (sort it) ≡ false → scans_after n it model_step.ReclaimBegin scans ≡ scans
begin_stays n (model_reply.Picked b answers probation) scans none = absurd (let f : true ≡ false = none in cc)
begin_stays n it scans none = refl

forget_stays : (it : model_reply.Reply Content) (b : ℕ) (cleans : ℕ → CleanState) → is_cleans (sort it) ≡ false → cleans_after it (model_step.ReclaimForget b) cleans ≡ cleans
forget_stays (model_reply.Cleans d) b cleans none = absurd (let f : true ≡ false = none in cc)
forget_stays it b cleans none = refl

clear_stays : (it : model_reply.Reply Content) (cleans : ℕ → CleanState) → is_clears (sort it) ≡ false → cleans_after it model_step.DestroyClear cleans ≡ cleans
clear_stays (model_reply.Cleared bs) cleans none = absurd (let f : true ≡ false = none in cc)
clear_stays it cleans none = refl

-- what is set of a list that is set all over
all_set : (n q : ℕ) → is_set (slice_get (replicate n true) q) ≡ nat_lt q n
all_set zero q = let none : nat_lt q 0 ≡ false = grind (arith, nat_tests) in sym none
all_set (suc n) zero = let all : nat_lt 0 (suc n) ≡ true = grind (arith, nat_tests) in sym all
all_set (suc n) (suc q) = all_set n q ∙ go (nat_lt q n) refl
  where
    go : (t : Bool) → nat_lt q n ≡ t → nat_lt q n ≡ nat_lt (suc q) (suc n)
    go true e = let all : nat_lt (suc q) (suc n) ≡ true = grind (arith, nat_tests) in e ∙ sym all
    go false e = let none : nat_lt (suc q) (suc n) ≡ false = grind (arith, nat_tests) in e ∙ sym none

none_past : (noted : List Bool) (q : ℕ) → nat_lt q (length noted) ≡ false → is_set (slice_get noted q) ≡ false
none_past noted q past = ap is_set (slice_get_past noted q (grind (arith, nat_tests)))

abbrev first_part : Settings → Part
first_part s = record { offset = 0; len = s.blob_index_size }

module _ {K V P A : Type 0} (m : Meaning K V P) (s : Settings) (sound : AreValid s) (from : World Content) where
  begun : (answer : Reply K V P A) (noted : List (Option Part)) (new : Core K V P A) (w : World Content) (met : IsRefined m s sound step.ReclaimBegin answer new w.core)
      → length noted ≡ s.blocks → AreScansDue from.scans noted w.scans
      → (length (scans_noted issuing.FirstRead s.blob_index_size answer noted) ≡ s.blocks)
      × AreScansDue from.scans (scans_noted issuing.FirstRead s.blob_index_size answer noted) (scans_after (machine m s sound).index_size met.it model_step.ReclaimBegin w.scans)
  begun (reply.Picked b answers probation) noted new w met count are = (
    set_count noted b (Some (first_part s)) ∙ count,
    λ q. subst (λ i. IsScanDue (from.scans q) (at (slice_get (slice_set noted b (Some (first_part s))) q)) (scans_after {C = Content} (machine m s sound).index_size i model_step.ReclaimBegin w.scans q)) (sym met.reply)
        (put_at (λ scan. IsScanDue (from.scans q) (at (slice_get (slice_set noted b (Some (first_part s))) q)) scan) w.scans b (Some (record { offset = 0; len = s.blob_index_size; read_state = ReadIssued })) q
        (λ same. subst (λ x. IsScanDue (from.scans q) (at x) (Some (record { offset = 0; len = s.blob_index_size; read_state = ReadIssued })))
        (sym (ap (slice_get (slice_set noted b (Some (first_part s)))) same ∙ set_here noted b (Some (first_part s)) within)) refl)
        (λ ne. subst (λ x. IsScanDue (from.scans q) (at x) (w.scans q)) (sym (set_there noted b q (Some (first_part s)) ne)) (are q))),
  )
    where
      follows : Follows (machine m s sound) (layout s) w.core model_step.ReclaimBegin (model_reply.Picked b answers.items probation.items) met.after
      follows = subst (λ i. Follows (machine m s sound) (layout s) w.core model_step.ReclaimBegin i met.after) met.reply met.follows

      within : b < length noted
      within = let lt : b < s.blocks = ((follows.2).1).0 in omega arith
  begun answer noted new w met count are = (
    count,
    subst (AreScansDue from.scans noted) (sym (begin_stays (machine m s sound).index_size met.it w.scans (ap is_picks (sorted m answer met.it met.reply)))) are,
  )

  -- the reads of reclaims that are due after a step that brings no result
  pub scans_go : (given : Step K V P A) (answer : Reply K V P A) (noted : List (Option Part)) (new : Core K V P A) (w : World Content) → IsFree given → (met : IsRefined m s sound given answer new w.core)
      → length noted ≡ s.blocks → AreScansDue from.scans noted w.scans
      → (length (scans_noted (issuing_in given) s.blob_index_size answer noted) ≡ s.blocks)
      × AreScansDue from.scans (scans_noted (issuing_in given) s.blob_index_size answer noted) (scans_after (machine m s sound).index_size met.it (step_of m given) w.scans)
  scans_go step.ReclaimBegin answer noted new w free met count are = begun answer noted new w met count are
  scans_go (step.ReclaimRead block outcome) answer noted new w free met count are = absurd free
  scans_go given answer noted new w free met count are = (count, scans_beside from.scans noted met.it (step_of m given) tt (machine m s sound).index_size w.scans are)

  forgotten : (b : ℕ) (answer : Reply K V P A) (noted : List Bool) (new : Core K V P A) (w : World Content) (met : IsRefined m s sound (step.ReclaimForget b) answer new w.core)
      → length noted ≡ s.blocks → AreCleansDue from.clean_states noted w.clean_states
      → (length (cleans_noted (issuing.Clean b) answer noted) ≡ s.blocks)
      × AreCleansDue from.clean_states (cleans_noted (issuing.Clean b) answer noted) (cleans_after met.it (model_step.ReclaimForget b) w.clean_states)
  forgotten b (reply.Clean d) noted new w met count are = (
    set_count noted b true ∙ count,
    λ q. subst (λ i. IsCleanDue (from.clean_states q) (is_set (slice_get (slice_set noted b true) q)) (cleans_after {C = Content} i (model_step.ReclaimForget b) w.clean_states q)) (sym met.reply)
        (put_at (IsCleanDue (from.clean_states q) (is_set (slice_get (slice_set noted b true) q))) w.clean_states b CleanIssued q
        (λ same. subst (λ x. IsCleanDue (from.clean_states q) (is_set x) CleanIssued) (sym (ap (slice_get (slice_set noted b true)) same ∙ set_here noted b true within)) refl)
        (λ ne. subst (λ x. IsCleanDue (from.clean_states q) (is_set x) (w.clean_states q)) (sym (set_there noted b q true ne)) (are q))),
  )
    where
      follows : Follows (machine m s sound) (layout s) w.core (model_step.ReclaimForget b) (model_reply.Cleans d) met.after
      follows = subst (λ i. Follows (machine m s sound) (layout s) w.core (model_step.ReclaimForget b) i met.after) met.reply met.follows

      within : b < length noted
      within = let lt : b < s.blocks = (follows.1).0 in omega arith
  forgotten b answer noted new w met count are = (
    count,
    subst (AreCleansDue from.clean_states noted) (sym (forget_stays met.it b w.clean_states (ap is_cleans (sorted m answer met.it met.reply)))) are,
  )

  cleared : (answer : Reply K V P A) (noted : List Bool) (new : Core K V P A) (w : World Content) (met : IsRefined m s sound step.DestroyClear answer new w.core)
      → length noted ≡ s.blocks → AreCleansDue from.clean_states noted w.clean_states
      → (length (cleans_noted issuing.Cleans answer noted) ≡ s.blocks)
      × AreCleansDue from.clean_states (cleans_noted issuing.Cleans answer noted) (cleans_after met.it model_step.DestroyClear w.clean_states)
  cleared reply.Cleared noted new w met count are = (
    length-replicate (length noted) true ∙ count,
    λ q. subst (λ i. IsCleanDue (from.clean_states q) (is_set (slice_get (replicate (length noted) true) q)) (cleans_after {C = Content} i model_step.DestroyClear w.clean_states q)) (sym (met.reply).1)
        (subst (λ x. IsCleanDue (from.clean_states q) x (if is_id_in q bs then CleanIssued else w.clean_states q)) (sym (all_set (length noted) q))
        (subst (λ y. IsCleanDue (from.clean_states q) (nat_lt q (length noted)) (if y then CleanIssued else w.clean_states q))
        (sym (ap (is_id_in q) all ∙ in_ids s.blocks q ∙ ap (nat_lt q) (sym count))) (go q (nat_lt q (length noted)) refl))),
  )
    where
      bs : List ℕ
      bs = (met.reply).0

      follows : Follows (machine m s sound) (layout s) w.core model_step.DestroyClear (model_reply.Cleared bs) met.after
      follows = subst (λ i. Follows (machine m s sound) (layout s) w.core model_step.DestroyClear i met.after) (met.reply).1 met.follows

      all : bs ≡ ids s.blocks
      all = ((follows.2).1).0

      go : (q : ℕ) (t : Bool) → nat_lt q (length noted) ≡ t → IsCleanDue (from.clean_states q) t (if t then CleanIssued else w.clean_states q)
      go q true e = refl
      go q false e = subst (λ x. IsCleanDue (from.clean_states q) x (w.clean_states q)) (none_past noted q e) (are q)
  cleared answer noted new w met count are = (
    count,
    subst (AreCleansDue from.clean_states noted) (sym (clear_stays met.it w.clean_states (ap is_clears (sorted m answer met.it met.reply)))) are,
  )

  -- and the cleans
  pub cleans_go : (given : Step K V P A) (answer : Reply K V P A) (noted : List Bool) (new : Core K V P A) (w : World Content) → IsFree given → (met : IsRefined m s sound given answer new w.core)
      → length noted ≡ s.blocks → AreCleansDue from.clean_states noted w.clean_states
      → (length (cleans_noted (issuing_in given) answer noted) ≡ s.blocks)
      × AreCleansDue from.clean_states (cleans_noted (issuing_in given) answer noted) (cleans_after met.it (step_of m given) w.clean_states)
  cleans_go (step.ReclaimForget b) answer noted new w free met count are = forgotten b answer noted new w met count are
  cleans_go step.DestroyClear answer noted new w free met count are = cleared answer noted new w met count are
  cleans_go (step.ReclaimCleaned block outcome) answer noted new w free met count are = absurd free
  cleans_go (step.DestroyCleaned block outcome) answer noted new w free met count are = absurd free
  cleans_go given answer noted new w free met count are = (count, cleans_beside from.clean_states noted met.it (step_of m given) tt w.clean_states are)

-- the read that was brought isn't due again, and what is read next is
pub scans_elsewhere : {C : Type 0} (n : ℕ) (it : model_reply.Reply C) (b q : ℕ) (came : model_step.ReadResult) (scans : ℕ → Option Scan) → (q ≡ b → ⊥)
    → scans_after n it (model_step.ReclaimRead b came) scans q ≡ scans q
scans_elsewhere n (model_reply.Scans d o k verdicts) b q came scans ne = put_other scans b (Some (record { offset = o; len = k; read_state = ReadIssued })) q ne
scans_elsewhere n (model_reply.Listed verdicts) b q came scans ne = put_other scans b None q ne
scans_elsewhere n it b q came scans ne = refl

scan_over : (n : ℕ) (it : model_reply.Reply Content) (b : ℕ) (came result : model_step.ReadResult) (scans : ℕ → Option Scan) (scan : Scan) → is_scans (sort it) ≡ false → scans b ≡ Some scan → scan.read_state ≡ ReadDone result
    → IsUnscanned (scans_after n it (model_step.ReclaimRead b came) scans b) → ⊥
scan_over n (model_reply.Scans d o k verdicts) b came result scans scan none at_b done due = let f : true ≡ false = none in cc
scan_over n (model_reply.Listed verdicts) b came result scans scan none at_b done due = subst IsUnscanned (put_same scans b None) due
scan_over n it b came result scans scan none at_b done due = let f : ReadDone result ≡ ReadIssued = sym done ∙ subst IsUnscanned at_b due in cc

pub scan_next : {K V P A : Type 0} (m : Meaning K V P) (n : ℕ) (answer : Reply K V P A) (it : model_reply.Reply Content) (b : ℕ) (came result : model_step.ReadResult) (before : Option Scan) (scans : ℕ → Option Scan) (scan : Scan)
    → IsReply m answer it → scans b ≡ Some scan → scan.read_state ≡ ReadDone result
    → IsScanDue before (part_in answer) (scans_after n it (model_step.ReclaimRead b came) scans b)
scan_next m n (reply.Scan c o k verdicts) it b came result before scans scan is at_b done =
    subst (λ i. scans_after {C = Content} n i (model_step.ReclaimRead b came) scans b ≡ Some (record { offset = o; len = k; read_state = ReadIssued })) (sym is)
    (put_same scans b (Some (record { offset = o; len = k; read_state = ReadIssued })))
scan_next m n answer it b came result before scans scan is at_b done = inr (scan_over n it b came result scans scan (ap is_scans (sorted m answer it is)) at_b done)
