-- A reclaim's steps and accesses are events of the world.
use Rattle.std.proofs.Common.{◌≡◌, ℕ, ◌+◌, ◌<◌, ◌≤◌, Bool, true, false, if◌then◌else◌, List, [], ◌∷◌, ◌++◌, inl, inr, length, Option, Some, None, Result, Ok, Err, refl, sym, ap, subst, ◌∙◌, arith}
use Rattle.std.proofs.lemmas.Bool.Decides.{nat_tests}
use Rattle.std.specs.Prelude.{IfOk, OnOk, OnErr, nat_lt, vec_len}
use Rattle.std.specs.declared.vec.Vec.{Vec}
use Rattle.foyer_device_page.specs.declared.error.Error.{Error}
use Rattle.foyer_io_disk.specs.Disk.{IsRead, IsTorn}
use Rattle.foyer_core_model.specs.Access.{ReadState, ReadIssued, Reading, ReadDone, Scan, CleanIssued, CleanInFlight, CleanDone, at_scan, begun, came, clean_begun, clean_ended, cleaned_page, bytes_cleaned, cleans_after, scans_after, IsRead as IsReadFrom, IsTornClean}
use Rattle.foyer_core_model.specs.Numbers.{page, put}
use Rattle.foyer_core_model.specs.Reply as model_reply
use Rattle.foyer_core_model.specs.Rules.{Rules}
use Rattle.foyer_core_model.specs.State.{State}
use Rattle.foyer_core_model.specs.Step as model_step
use Rattle.foyer_core_model.specs.World.{World, WorldEvent, Applies, ScanBegins, ScanEnds, CleanBegins, CleanEnds, MayAllHappen, IsBrought, IsScanned, covers, after, after_all}
use Rattle.foyer_core_model.proofs.Basics.{put_at, put_same}
use Rattle.foyer_core_laws.specs.Content.{Content, Meaning}
use Rattle.foyer_core_laws.specs.CoreRules.{layout, machine, IsEncoded}
use Rattle.foyer_core_laws.specs.Sizes.{AreValid}
use Rattle.foyer_core_laws.specs.Settings.{Settings}
use Rattle.foyer_core_steps.specs.Asked.{came_of, went_well}
use Rattle.foyer_core_steps.specs.Refines.{IsRefined, Refines}
use Rattle.foyer_core_steps.specs.Replied.{IsReply}
use Rattle.foyer_core_steps.specs.StateOf.{IsStateOf}
use Rattle.foyer_core_steps.specs.declared.reply.Reply.{Reply}
use Rattle.foyer_core_steps.specs.declared.reply.Reply.TheVariants as reply
use Rattle.foyer_core_steps.specs.declared.state.Core.{Core}
use Rattle.foyer_core_steps.specs.declared.step.Step.TheVariants as step
use Rattle.foyer_core_run.specs.Driven.{IsDriven}
use Rattle.foyer_core_run.specs.Causes.{AreForCause, DrivesForCause}
use Rattle.foyer_core_run.specs.Reclaims.{AreReading, AreReclaiming, EndsBy, GoesOn, IsAwaited, IsReclaim, Reads, Reclaims}
use Rattle.foyer_core_access.specs.Reclaims.{IsCleaned, part_in}
use Rattle.foyer_core_run.specs.Waiting.{AllSteps, IsWaiting, Waits}
use Rattle.foyer_core_access.specs.declared.reclaims.Part.{Part}
use Rattle.foyer_core_run.proofs.FaultLists.{causes_join, unsure_failed}
use Rattle.foyer_core_run.proofs.ListLemmas.{append_twice}
use Rattle.foyer_core_run.proofs.RunLemmas.{after_more, happen_more}

-- what the read of a part brought
abbrev pub IsPartCome : {A : Type 0} → (ℕ → ℕ → ℕ) → ℕ → Part → Result (Vec ℕ A) Error → Type 0
IsPartCome bytes b part (Ok got) = IsRead bytes b part.offset got.items × (length got.items ≡ part.len)
IsPartCome bytes b part (Err e) = Unit {0}

pub part_come : {A : Type 0} (bytes : ℕ → ℕ → ℕ) (b : ℕ) (part : Part) (outcome : Result (Vec ℕ A) Error)
    → IfOk outcome (λ got. IsRead bytes b part.offset got.items) → IfOk outcome (λ got. vec_len got ≡ part.len) → IsPartCome bytes b part outcome
part_come bytes b part (Ok got) read len = (read, omega (arith, got.ok, len))
part_come bytes b part (Err e) read len = tt

-- what a clean did
abbrev pub IsCleanDone : (old new : ℕ → ℕ → ℕ) → ℕ → Bool → Type 0
IsCleanDone old new b true = IsCleaned old b new
IsCleanDone old new b false = IsTorn old b 0 page new

pub clean_done : {X : Type 0} (old new : ℕ → ℕ → ℕ) (b : ℕ) (outcome : Result X Error) → OnOk outcome (IsCleaned old b new) → OnErr outcome (IsTorn old b 0 page new)
    → IsCleanDone old new b (went_well outcome)
clean_done old new b (Ok x) cleaned torn = cleaned
clean_done old new b (Err e) cleaned torn = torn

pub done_torn : (old new : ℕ → ℕ → ℕ) (b : ℕ) (ok : Bool) → IsCleanDone old new b ok → IsTorn old b 0 page new
done_torn old new b true is = is.1
done_torn old new b false is = is

-- the world's bytes after it are the disk's
pub clean_same : (bytes old new : ℕ → ℕ → ℕ) (b : ℕ) (ok : Bool) → IsCleanDone old new b ok → ((c o : ℕ) → bytes c o ≡ old c o)
    → (c o : ℕ) → put bytes b (if ok then cleaned_page (bytes b) else new b) c o ≡ new c o
clean_same bytes old new b ok is same c o =
    put_at (λ f. f o ≡ new c o) bytes b (if ok then cleaned_page (bytes b) else new b) c
    (λ e. go ok is ∙ ap (λ k. new k o) (sym e))
    (λ ne. same c o ∙ sym (done_torn old new b ok is c o (inl ne)))
  where
    go : (k : Bool) → IsCleanDone old new b k → (if k then cleaned_page (bytes b) else new b) o ≡ new b o
    go false done = refl
    go true done = go2 (nat_lt o page) refl
      where
        go2 : (u : Bool) → nat_lt o page ≡ u → (if u then 0 else bytes b o) ≡ new b o
        go2 true e = let lt : o < page = grind (arith, nat_tests) in sym (done.0 o lt)
        go2 false e = let le : page ≤ o = grind (arith, nat_tests) in same b o ∙ sym (done.1 b o (inr (inr le)))

abbrev pub scan_of : Part → ReadState → Scan
scan_of part read_state = record { offset = part.offset; len = part.len; read_state = read_state }

are_join : {C : Type 0} (b : ℕ) (one two : List (WorldEvent C)) → AreReclaiming b one → AreReclaiming b two → AreReclaiming b (one ++ two)
are_join b [] two are others = others
are_join b (event ∷ one) two are others = (are.0, are_join b one two are.1 others)

reading_join : {C : Type 0} (b : ℕ) (one two : List (WorldEvent C)) → AreReading b one → AreReading b two → AreReading b (one ++ two)
reading_join b [] two are others = others
reading_join b (event ∷ one) two are others = (are.0, reading_join b one two are.1 others)

-- what a reclaim reads is of it
reading_all : {C : Type 0} (b : ℕ) (events : List (WorldEvent C)) → AreReading b events → AreReclaiming b events
reading_all b [] are = tt
reading_all b (Applies (model_step.ReclaimRead c r) it st ∷ es) are = (are.0, reading_all b es are.1)
reading_all b (ScanBegins c ∷ es) are = (are.0, reading_all b es are.1)
reading_all b (ScanEnds c r ∷ es) are = (are.0, reading_all b es are.1)
reading_all b (event ∷ es) are = absurd are.0

-- and neither a write, a clean nor the read of a load
reading_causes : {C : Type 0} (came : ℕ → ℕ → ℕ → Type 0) (rules : Rules C) (b : ℕ) (w : World C) (events : List (WorldEvent C)) → AreReading b events → AreForCause came rules w events
reading_causes came rules b w [] are = tt
reading_causes came rules b w (Applies (model_step.ReclaimRead c r) it st ∷ es) are = (tt, reading_causes came rules b (after rules w (Applies (model_step.ReclaimRead c r) it st)) es are.1)
reading_causes came rules b w (ScanBegins c ∷ es) are = (tt, reading_causes came rules b (after rules w (ScanBegins c)) es are.1)
reading_causes came rules b w (ScanEnds c r ∷ es) are = (tt, reading_causes came rules b (after rules w (ScanEnds c r)) es are.1)
reading_causes came rules b w (event ∷ es) are = absurd are.0

goes_nothing : {C : Type 0} (it : model_reply.Reply C) → GoesOn it []
goes_nothing (model_reply.Picked b answers probation) = tt
goes_nothing it = refl

-- the steps of a reclaim are a wait's
waiting_all : {C : Type 0} (b : ℕ) (events : List (WorldEvent C)) → AreReclaiming b events → AllSteps IsWaiting events
waiting_all b [] are = tt
waiting_all b (Applies (model_step.ReclaimRead c r) it st ∷ es) are = (tt, waiting_all b es are.1)
waiting_all b (Applies (model_step.ReclaimForget c) it st ∷ es) are = (tt, waiting_all b es are.1)
waiting_all b (Applies (model_step.ReclaimCleaned c ok) it st ∷ es) are = (tt, waiting_all b es are.1)
waiting_all b (ScanBegins c ∷ es) are = waiting_all b es are.1
waiting_all b (ScanEnds c r ∷ es) are = waiting_all b es are.1
waiting_all b (CleanBegins c ∷ es) are = waiting_all b es are.1
waiting_all b (CleanEnds c ok torn ∷ es) are = waiting_all b es are.1
waiting_all b (event ∷ es) are = absurd are.0

waiting_on : {C : Type 0} (it : model_reply.Reply C) (events : List (WorldEvent C)) → GoesOn it events → AllSteps IsWaiting events
waiting_on (model_reply.Picked b answers probation) events on = waiting_all b events on
waiting_on it events on = subst (AllSteps IsWaiting) (sym on) tt

pub brought : (r : model_step.ReadResult) → IsBrought (ReadDone r) r
brought (model_step.Bytes bs) = refl
brought model_step.Fault = (model_step.Fault, refl)

module _ {K V P : Type 0} (m : Meaning K V P) (s : Settings) (sound : AreValid s) where
  abbrev rules : Rules Content
  rules = machine m s sound

  -- the world when the read has begun, and when it has ended
  abbrev pub begins : World Content → ℕ → World Content
  begins w b = after rules w (ScanBegins b)

  abbrev pub ends : World Content → ℕ → model_step.ReadResult → World Content
  ends w b r = after rules (begins w b) (ScanEnds b r)

  pub began : (w : World Content) (b : ℕ) (part : Part) → IsAwaited b (Some part) w → (begins w b).scans b ≡ Some (scan_of part (Reading (covers rules w b)))
  began w b part is = put_same w.scans b (at_scan (begun (covers rules w)) b (w.scans b)) ∙ ap (at_scan (begun (covers rules w)) b) is

  pub ended : (w : World Content) (b : ℕ) (part : Part) (r : model_step.ReadResult) → IsAwaited b (Some part) w → (ends w b r).scans b ≡ Some (scan_of part (ReadDone r))
  ended w b part r is = put_same (begins w b).scans b (at_scan (λ _. came r) b ((begins w b).scans b)) ∙ ap (at_scan (λ _. came r) b) (began w b part is)

module _ {K V P A : Type 0} (m : Meaning K V P) where
  module _ (s : Settings) (sound : AreValid s) where
    pub gives : (w : World Content) (bytes : ℕ → ℕ → ℕ) (b : ℕ) (part : Part) (outcome : Result (Vec ℕ A) Error) (seen : ℕ → Bool) → ((c o : ℕ) → w.bytes c o ≡ bytes c o) → IsPartCome bytes b part outcome
        → IsReadFrom (w.bytes b) part.offset part.len (Reading seen) (came_of outcome)
    gives w bytes b part (Ok got) seen same is = (is.1, λ i lt free. is.0 i lt ∙ sym (same b (part.offset + i)))
    gives w bytes b part (Err e) seen same is = tt

    -- what a reply has the reclaim read next is awaited
    awaits : (b : ℕ) (r : model_step.ReadResult) (answer : Reply K V P A) (it : model_reply.Reply Content) (w : World Content) (st : State Content) → IsReply m answer it
        → IsAwaited b (part_in answer) (after (machine m s sound) w (Applies (model_step.ReclaimRead b r) it st))
    awaits b r (reply.Scan c offset len verdicts) it w st is =
        subst (λ i. scans_after {C = Content} (machine m s sound).index_size i (model_step.ReclaimRead b r) w.scans b ≡ Some (record { offset = offset; len = len; read_state = ReadIssued })) (sym is)
        (put_same w.scans b (Some (record { offset = offset; len = len; read_state = ReadIssued })))
    awaits b r answer it w st is = tt

    -- events of the reclaim lead to a world in which it awaits this part, if any
    abbrev Reaches : World Content → ℕ → Option Part → Core K V P A → (ℕ → ℕ → ℕ) → Type 0
    Reaches w b next new bytes = (driven : IsDriven m s sound w new bytes) × AreReading b driven.events × IsAwaited b next (after_all (machine m s sound) w driven.events)

    part_once : (w : World Content) (b : ℕ) (part : Part) (outcome : Result (Vec ℕ A) Error) (answer : Reply K V P A) (new : Core K V P A) (bytes : ℕ → ℕ → ℕ)
        → ((c o : ℕ) → w.bytes c o ≡ bytes c o) → IsAwaited b (Some part) w → IsPartCome bytes b part outcome → IsRefined m s sound (step.ReclaimRead b outcome) answer new w.core
        → Reaches w b (part_in answer) new bytes
    part_once w b part outcome answer new bytes same is come met =
        let r = came_of outcome in (
          record {
            events = ScanBegins b ∷ ScanEnds b r ∷ Applies (model_step.ReclaimRead b r) met.it met.after ∷ [];
            happened = (
              tt,
              (
                subst (λ o. IsScanned (w.bytes b) o r) (sym (began m s sound w b part is)) (gives w bytes b part outcome (covers (machine m s sound) w b) same come),
                (((scan_of part (ReadDone r), ended m s sound w b part r is, brought r), met.follows), tt),
              ),
            );
            stands = met.stands;
            same = same;
          },
          (refl, (refl, (refl, tt))),
          awaits b r answer met.it (ends m s sound w b r) met.after met.reply,
        )

    -- and if what came is refused, a fault is brought
    part_twice : (w : World Content) (b : ℕ) (part : Part) (outcome : Result (Vec ℕ A) Error) (e : Error) (why : _) (back : _) (answer : Reply K V P A) (mid new : Core K V P A) (bytes : ℕ → ℕ → ℕ)
        → ((c o : ℕ) → w.bytes c o ≡ bytes c o) → IsAwaited b (Some part) w → IsPartCome bytes b part outcome → (met : IsRefined m s sound (step.ReclaimRead b outcome) (reply.Refused why back) mid w.core)
        → IsRefined m s sound (step.ReclaimRead b (Err e)) answer new met.after → Reaches w b (part_in answer) new bytes
    part_twice w b part outcome e why back answer mid new bytes same is come met second =
        let r = came_of outcome in
        let still : scans_after {C = Content} (machine m s sound).index_size met.it (model_step.ReclaimRead b r) (ends m s sound w b r).scans b ≡ Some (scan_of part (ReadDone r)) =
        subst (λ i. scans_after {C = Content} (machine m s sound).index_size i (model_step.ReclaimRead b r) (ends m s sound w b r).scans b ≡ Some (scan_of part (ReadDone r))) (sym (met.reply).2) (ended m s sound w b part r is) in (
          record {
            events = ScanBegins b ∷ ScanEnds b r ∷ Applies (model_step.ReclaimRead b r) met.it met.after ∷ Applies (model_step.ReclaimRead b model_step.Fault) second.it second.after ∷ [];
            happened = (
              tt,
              (
                subst (λ o. IsScanned (w.bytes b) o r) (sym (began m s sound w b part is)) (gives w bytes b part outcome (covers (machine m s sound) w b) same come),
                (
                  ((scan_of part (ReadDone r), ended m s sound w b part r is, brought r), met.follows),
                  (((scan_of part (ReadDone r), still, (r, refl)), second.follows), tt),
                ),
              ),
            );
            stands = second.stands;
            same = same;
          },
          (refl, (refl, (refl, (refl, tt)))),
          awaits b model_step.Fault answer second.it (after (machine m s sound) (ends m s sound w b r) (Applies (model_step.ReclaimRead b r) met.it met.after)) second.after second.reply,
        )

  pub reads_once : (b : ℕ) (part : Part) (outcome : Result (Vec ℕ A) Error) (answer : Reply K V P A) (old new : Core K V P A) (bytes : ℕ → ℕ → ℕ) → IsPartCome bytes b part outcome
      → Refines m (step.ReclaimRead b outcome) answer old new → Reads m b (Some part) (part_in answer) old new bytes
  reads_once b part outcome answer old new bytes come meets s sound w stands same is =
      part_once s sound w b part outcome answer new bytes same is come (meets s sound w.core stands)

  pub reads_twice : (b : ℕ) (part : Part) (outcome : Result (Vec ℕ A) Error) (e : Error) (why : _) (back : _) (answer : Reply K V P A) (old mid new : Core K V P A) (bytes : ℕ → ℕ → ℕ) → IsPartCome bytes b part outcome
      → Refines m (step.ReclaimRead b outcome) (reply.Refused why back) old mid → Refines m (step.ReclaimRead b (Err e)) answer mid new
      → Reads m b (Some part) (part_in answer) old new bytes
  reads_twice b part outcome e why back answer old mid new bytes come first second s sound w stands same is =
      let met = first s sound w.core stands in
      part_twice s sound w b part outcome e why back answer mid new bytes same is come met (second s sound met.after met.stands)

  -- nothing is read
  pub reads_none : (b : ℕ) (part : Option Part) (core : Core K V P A) (bytes : ℕ → ℕ → ℕ) → Reads m b part part core core bytes
  reads_none b part core bytes s sound w stands same is = (record { events = []; happened = tt; stands = stands; same = same }, tt, is)

  -- what is awaited in the end may be left out
  pub reads_over : (b : ℕ) (part next : Option Part) (old new : Core K V P A) (bytes : ℕ → ℕ → ℕ) → Reads m b part next old new bytes → Reads m b part None old new bytes
  reads_over b part next old new bytes reads s sound w stands same is = let read = reads s sound w stands same is in (read.0, read.1, tt)

  -- one after the other
  pub reads_more : (b : ℕ) (x y z : Option Part) (a c d : Core K V P A) (bytes : ℕ → ℕ → ℕ) → Reads m b x y a c bytes → Reads m b y z c d bytes → Reads m b x z a d bytes
  reads_more b x y z a c d bytes first next s sound w stands same is =
      let one = first s sound w stands same is in
      let all = machine m s sound in
      let v = after_all all w (one.0).events in
      let two = next s sound v (one.0).stands (one.0).same one.2 in (
        record {
          events = (one.0).events ++ (two.0).events;
          happened = happen_more all (layout s) (IsEncoded m.is_key m.is_value) w (one.0).events (two.0).events (one.0).happened (two.0).happened;
          stands = subst (λ u. IsStateOf m s d u.core) (sym (after_more all w (one.0).events (two.0).events)) (two.0).stands;
          same = λ c o. ap (λ u. u.bytes c o) (after_more all w (one.0).events (two.0).events) ∙ (two.0).same c o;
        },
        reading_join b (one.0).events (two.0).events one.1 two.1,
        subst (IsAwaited b z) (sym (after_more all w (one.0).events (two.0).events)) two.2,
      )

  -- a reclaim that didn't begin
  pub reclaims_none : (came : ℕ → ℕ → ℕ → Type 0) (answer : Reply K V P A) (old new : Core K V P A) (bytes : ℕ → ℕ → ℕ) → Refines m step.ReclaimBegin answer old new
      → DrivesForCause came (IsReclaim m answer) m old new bytes bytes
  reclaims_none came answer old new bytes meets s sound w stands same =
      let met = meets s sound w.core stands in (
        record {
          events = Applies model_step.ReclaimBegin met.it met.after ∷ [];
          happened = ((tt, met.follows), tt);
          stands = met.stands;
          same = same;
        },
        record {
          it = met.it;
          after = met.after;
          rest = [];
          is = refl;
          goes_on = goes_nothing met.it;
          ends = record { before = []; given = model_step.ReclaimBegin; it = met.it; after = met.after; is = refl; reply = met.reply };
        },
        (tt, tt),
      )

  module _ (came : ℕ → ℕ → ℕ → Type 0) (b : ℕ) (answers : _) (probation : _) (first : Part) (from : first.offset ≡ 0) (old begun read : Core K V P A) (size : first.len ≡ begun.settings.blob_index_size) (bytes : ℕ → ℕ → ℕ)
      (begins : Refines m step.ReclaimBegin (reply.Picked b answers probation) old begun) (reads : Reads m b (Some first) None begun read bytes) where
    module _ (s : Settings) (sound : AreValid s) (w : World Content) (stands : IsStateOf m s old w.core) (same : (c o : ℕ) → w.bytes c o ≡ bytes c o) where
      abbrev all : Rules Content
      all = machine m s sound

      abbrev picked : IsRefined m s sound step.ReclaimBegin (reply.Picked b answers probation) begun w.core
      picked = begins s sound w.core stands

      abbrev w1 : World Content
      w1 = after all w (Applies model_step.ReclaimBegin picked.it picked.after)

      awaited : IsAwaited b (Some first) w1
      awaited =
          subst (λ i. scans_after {C = Content} all.index_size i model_step.ReclaimBegin w.scans b ≡ Some (scan_of first ReadIssued)) (sym picked.reply)
          (put_same w.scans b (Some (record { offset = 0; len = all.index_size; read_state = ReadIssued }))
          ∙ ap (λ n. Some (record { offset = 0; len = n; read_state = ReadIssued })) (ap (λ k. k.blob_index_size) (sym (picked.stands).sizes) ∙ sym size)
          ∙ ap (λ o. Some (record { offset = o; len = first.len; read_state = ReadIssued })) (sym from))

      abbrev listed : (driven : IsDriven m s sound w1 read bytes) × AreReading b driven.events × IsAwaited b None (after_all all w1 driven.events)
      listed = reads s sound w1 picked.stands same awaited

      abbrev w2 : World Content
      w2 = after_all all w1 (listed.0).events

      -- and these events
      goes : (answer : Reply K V P A) (rest : List (WorldEvent Content)) (new : Core K V P A) (bytes' : ℕ → ℕ → ℕ) → MayAllHappen all (layout s) (IsEncoded m.is_key m.is_value) w2 rest → IsStateOf m s new (after_all all w2 rest).core
          → ((c o : ℕ) → (after_all all w2 rest).bytes c o ≡ bytes' c o) → AreReclaiming b rest → EndsBy m answer rest → AreForCause came all w2 rest
          → (driven : IsDriven m s sound w new bytes') × IsReclaim m answer driven.events × AreForCause came all w driven.events
      goes answer rest new bytes' happened stands' same' are ends causes =
          let events = (listed.0).events ++ rest in (
            record {
              events = Applies model_step.ReclaimBegin picked.it picked.after ∷ events;
              happened = ((tt, picked.follows), happen_more all (layout s) (IsEncoded m.is_key m.is_value) w1 (listed.0).events rest (listed.0).happened happened);
              stands = subst (λ u. IsStateOf m s new u.core) (sym (after_more all w1 (listed.0).events rest)) stands';
              same = λ c o. ap (λ u. u.bytes c o) (after_more all w1 (listed.0).events rest) ∙ same' c o;
            },
            record {
              it = picked.it;
              after = picked.after;
              rest = events;
              is = refl;
              goes_on = subst (λ i. GoesOn i events) (sym picked.reply) (are_join b (listed.0).events rest (reading_all b (listed.0).events listed.1) are);
              ends = record {
                before = Applies model_step.ReclaimBegin picked.it picked.after ∷ ((listed.0).events ++ ends.before);
                given = ends.given;
                it = ends.it;
                after = ends.after;
                is = ap (λ es. Applies model_step.ReclaimBegin picked.it picked.after ∷ es)
                    (ap (λ es. (listed.0).events ++ es) ends.is ∙ sym (append_twice (listed.0).events ends.before (Applies ends.given ends.it ends.after ∷ [])));
                reply = ends.reply;
              };
            },
            (tt, causes_join came all w1 (listed.0).events rest (reading_causes came all b w1 (listed.0).events listed.1) causes),
          )

    -- one whose entries weren't forgotten
    pub reclaims_kept : (answer : Reply K V P A) (new : Core K V P A) → Refines m (step.ReclaimForget b) answer read new → DrivesForCause came (IsReclaim m answer) m old new bytes bytes
    reclaims_kept answer new forgets s sound w stands same =
        let met = forgets s sound (w2 s sound w stands same).core ((listed s sound w stands same).0).stands in
        goes s sound w stands same answer (Applies (model_step.ReclaimForget b) met.it met.after ∷ []) new bytes ((tt, met.follows), tt) met.stands ((listed s sound w stands same).0).same (refl, tt)
        (record { before = []; given = model_step.ReclaimForget b; it = met.it; after = met.after; is = refl; reply = met.reply })
        (tt, tt)

    -- and one whose block was cleaned
    pub reclaims_whole : (c : ℕ) (outcome : Result Unit Error) (answer : Reply K V P A) (forgotten new : Core K V P A) (bytes' : ℕ → ℕ → ℕ)
        → Refines m (step.ReclaimForget b) (reply.Clean c) read forgotten → IsCleanDone bytes bytes' b (went_well outcome)
        → OnErr outcome (came b 0 page → ⊥) → Refines m (step.ReclaimCleaned b outcome) answer forgotten new → DrivesForCause came (IsReclaim m answer) m old new bytes bytes'
    reclaims_whole c outcome answer forgotten new bytes' forgets done unsure cleans s sound w stands same =
        goes s sound w stands same answer rest new bytes'
        ((tt, met.follows), (tt, (torn, ((finished, last.follows), tt))))
        last.stands
        (λ d o. subst (λ q. bytes_cleaned (went_well outcome) (bytes' b) b q v.bytes d o ≡ bytes' d o) (sym flying) (clean_same v.bytes bytes bytes' b (went_well outcome) done ((listed s sound w stands same).0).same d o))
        (refl, (refl, (refl, (refl, tt))))
        (record {
          before = Applies (model_step.ReclaimForget b) met.it met.after ∷ CleanBegins b ∷ CleanEnds b (went_well outcome) (bytes' b) ∷ [];
          given = model_step.ReclaimCleaned b (went_well outcome);
          it = last.it;
          after = last.after;
          is = refl;
          reply = last.reply;
        })
        (tt, (tt, (unsure_failed outcome unsure, (tt, tt))))
      where
        v : World Content
        v = w2 s sound w stands same

        met : IsRefined m s sound (step.ReclaimForget b) (reply.Clean c) forgotten v.core
        met = forgets s sound v.core ((listed s sound w stands same).0).stands

        last : IsRefined m s sound (step.ReclaimCleaned b outcome) answer new met.after
        last = cleans s sound met.after met.stands

        w3 : World Content
        w3 = after (machine m s sound) v (Applies (model_step.ReclaimForget b) met.it met.after)

        w4 : World Content
        w4 = after (machine m s sound) w3 (CleanBegins b)

        rest : List (WorldEvent Content)
        rest = Applies (model_step.ReclaimForget b) met.it met.after ∷ CleanBegins b ∷ CleanEnds b (went_well outcome) (bytes' b) ∷ Applies (model_step.ReclaimCleaned b (went_well outcome)) last.it last.after ∷ []

        issued : w3.clean_states b ≡ CleanIssued
        issued =
            subst (λ i. cleans_after {C = Content} i (model_step.ReclaimForget b) v.clean_states b ≡ CleanIssued) (sym met.reply) (put_same v.clean_states b CleanIssued)

        flying : w4.clean_states b ≡ CleanInFlight
        flying = put_same w3.clean_states b (clean_begun (w3.clean_states b)) ∙ ap clean_begun issued

        finished : (after (machine m s sound) w4 (CleanEnds b (went_well outcome) (bytes' b))).clean_states b ≡ CleanDone (went_well outcome)
        finished = put_same w4.clean_states b (clean_ended (went_well outcome) (w4.clean_states b)) ∙ ap (clean_ended (went_well outcome)) flying

        torn : IsTornClean v.bytes b (w4.clean_states b) (bytes' b)
        torn =
            subst (λ q. IsTornClean v.bytes b q (bytes' b)) (sym flying)
            (λ o le. done_torn bytes bytes' b (went_well outcome) done b o (inr (inr le)) ∙ sym (((listed s sound w stands same).0).same b o))

  -- so a reclaim is by a wait's steps
  pub reclaims_for_cause : (last : Reply K V P A) (came : ℕ → ℕ → ℕ → Type 0) (old new : Core K V P A) (bytes bytes' : ℕ → ℕ → ℕ) → DrivesForCause came (IsReclaim m last) m old new bytes bytes'
      → DrivesForCause came (AllSteps IsWaiting) m old new bytes bytes'
  reclaims_for_cause last came old new bytes bytes' reclaims s sound w stands same =
      let driven = reclaims s sound w stands same in
      (driven.0, subst (AllSteps IsWaiting) (sym (driven.1).is) (tt, waiting_on (driven.1).it (driven.1).rest (driven.1).goes_on), driven.2)
