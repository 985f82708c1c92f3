-- A block's writes as steps of a wait, whose accesses fail for cause alone.
use Rattle.std.proofs.Common.{◌≡◌, ℕ, ◌+◌, Bool, true, false, not, ◌||◌, if◌then◌else◌, List, [], ◌∷◌, ◌++◌, drop, length, map, Option, Some, None, Result, refl, sym, ap, subst, ◌∙◌, slice_get}
use Rattle.std.specs.Prelude.{OnErr}
use Rattle.std.specs.declared.vec.Vec.{Vec}
use Rattle.foyer_device_page.specs.declared.error.Error.{Error}
use Rattle.foyer_format_layout.specs.BlockBytes as layout
use Rattle.foyer_core_model.specs.Access.{Issued as IssuesWrites, InFlight, writes_begun, writes_ended, writes_of as written_as, bytes_ended, result_of, block_writes_after, IsTorn as IsTornIn}
use Rattle.foyer_core_model.specs.Rules.{Rules}
use Rattle.foyer_core_model.specs.Step as model_step
use Rattle.foyer_core_model.specs.World.{World, WorldEvent, Applies, WriteBegins, WriteEnds, MayAllHappen, after, after_all}
use Rattle.foyer_core_model.proofs.Basics.{put_same}
use Rattle.foyer_core_laws.specs.Content.{Content, Meaning}
use Rattle.foyer_core_laws.specs.CoreRules.{layout as laid_out, machine, IsEncoded}
use Rattle.foyer_core_laws.specs.Sizes.{AreValid}
use Rattle.foyer_core_laws.specs.Settings.{Settings}
use Rattle.foyer_core_steps.specs.Issuing.{write_of, written_bytes}
use Rattle.foyer_core_steps.specs.Write.{Write}
use Rattle.foyer_core_steps.specs.Asked.{went_well}
use Rattle.foyer_core_steps.specs.Refines.{IsRefined, Refines}
use Rattle.foyer_core_steps.specs.Replied.{IsReply}
use Rattle.foyer_core_steps.specs.StateOf.{IsStateOf}
use Rattle.foyer_core_steps.specs.declared.reply.Reply.{Reply}
use Rattle.foyer_core_steps.specs.declared.reply.Reply.TheVariants as reply
use Rattle.foyer_core_steps.specs.declared.state.Core.{Core}
use Rattle.foyer_core_steps.specs.declared.step.Step.TheVariants as step
use Rattle.foyer_core_run.specs.Causes.{AreForCause, DrivesForCause, HasWriteCome, IsForCause, has_fault}
use Rattle.foyer_core_run.specs.Driven.{IsDriven}
use Rattle.foyer_core_run.specs.Due.{due}
use Rattle.foyer_core_run.specs.Running.{next_of}
use Rattle.foyer_core_run.specs.Waiting.{AllSteps, IsWaiting}
use Rattle.foyer_core_run.proofs.CauseLemmas.{cause_stepped}
use Rattle.foyer_core_run.proofs.FaultLists.{causes_join, causes_none, faults_join, unsure_failed}
use Rattle.foyer_core_run.proofs.DueLemmas.{due_is, due_next, due_of}
use Rattle.foyer_core_run.proofs.ListLemmas.{drop_at}
use Rattle.foyer_core_run.proofs.RunLemmas.{after_more, happen_more}
use Rattle.foyer_core_run.proofs.WaitingLemmas.{all_join}
use Rattle.foyer_core_run.proofs.WriteLemmas.{IsDone, bytes_are, torn_is, torn_of}

module _ {K V P A : Type 0} (m : Meaning K V P) where
  -- Steps of a wait and accesses that didn't fail lead from each world with the old core and bytes to a later world. There
  -- these writes into a block are due of the flusher.
  abbrev pub WritesSoFar : (f b : ℕ) (left : List (Write A)) → (old new : Core K V P A) → (old_bytes new_bytes : ℕ → ℕ → ℕ) → Type 0
  WritesSoFar f b left old new old_bytes new_bytes =
      (s : Settings) (sound : AreValid s) (w : World Content) → IsStateOf m s old w.core → ((c o : ℕ) → w.bytes c o ≡ old_bytes c o)
      → (driven : IsDriven m s sound w new new_bytes) × AllSteps IsWaiting driven.events × (has_fault driven.events ≡ false)
      × (due ((after_all (machine m s sound) w driven.events).block_writes f) ≡ next_of b (map write_of left))

  -- a block that has no writes
  pub wrote_nothing : (came : ℕ → ℕ → ℕ → Type 0) (f : ℕ) (answer : Reply K V P A) (old new : Core K V P A) (bytes : ℕ → ℕ → ℕ) → Refines m (step.FlushBlock f) answer old new
      → DrivesForCause came (AllSteps IsWaiting) m old new bytes bytes
  wrote_nothing came f answer old new bytes meets = cause_stepped m came (AllSteps IsWaiting) (step.FlushBlock f) answer old new bytes (λ s sound w. tt) (λ it st. (tt, tt)) meets

  -- its writes are issued
  pub wrote_none : (f b : ℕ) (ws : Vec (Write A) A) (old new : Core K V P A) (bytes : ℕ → ℕ → ℕ) → Refines m (step.FlushBlock f) (reply.Write b ws) old new
      → WritesSoFar f b ws.items old new bytes bytes
  wrote_none f b ws old new bytes meets s sound w stands same =
      let met = meets s sound w.core stands in (
        record {
          events = Applies (model_step.FlushBlock f) met.it met.after ∷ [];
          happened = ((tt, met.follows), tt);
          stands = met.stands;
          same = same;
        },
        (tt, tt),
        refl,
        subst (λ i. due (block_writes_after {C = Content} i (model_step.FlushBlock f) w.block_writes f) ≡ next_of b (map write_of ws.items)) (sym met.reply)
            (ap due (put_same w.block_writes f (written_as b (map write_of ws.items))) ∙ due_of b (map write_of ws.items)),
      )

  -- as many writes as there are
  pub wrote_so_far : (came : ℕ → ℕ → ℕ → Type 0) (f b : ℕ) (left : List (Write A)) (old new : Core K V P A) (x y : ℕ → ℕ → ℕ) → WritesSoFar f b left old new x y
      → DrivesForCause came (AllSteps IsWaiting) m old new x y
  wrote_so_far came f b left old new x y so_far s sound w stands same =
      let one = so_far s sound w stands same in (one.0, one.1, causes_none came (machine m s sound) w (one.0).events one.2)

  module _ (f b k : ℕ) (items : List (Write A)) (write : Write A) (outcome : Result Unit Error) (answer : Reply K V P A) (old core new : Core K V P A) (x y z : ℕ → ℕ → ℕ)
      (so_far : WritesSoFar f b (drop k items) old core x y) (there : slice_get items k ≡ Some write) (done : IsDone y z b write (went_well outcome))
      (meets : Refines m (step.FlushWrote f outcome) answer core new) where
    module _ (s : Settings) (sound : AreValid s) (w : World Content) (stands : IsStateOf m s old w.core) (same : (c o : ℕ) → w.bytes c o ≡ x c o) where
      abbrev all : Rules Content
      all = machine m s sound

      abbrev one : (driven : IsDriven m s sound w core y) × AllSteps IsWaiting driven.events × (has_fault driven.events ≡ false)
          × (due ((after_all all w driven.events).block_writes f) ≡ next_of b (map write_of (drop k items)))
      one = so_far s sound w stands same

      abbrev v : World Content
      v = after_all all w (one.0).events

      abbrev met : IsRefined m s sound (step.FlushWrote f outcome) answer new v.core
      met = meets s sound v.core (one.0).stands

      abbrev ok : Bool
      ok = went_well outcome

      abbrev torn : ℕ → ℕ
      torn = torn_of (went_well outcome) (v.bytes b) (z b)

      abbrev rest : List layout.Write
      rest = map write_of (drop (k + 1) items)

      abbrev v1 : World Content
      v1 = after all v (WriteBegins f)

      abbrev v2 : World Content
      v2 = after all v1 (WriteEnds f ok torn)

      abbrev written : List (WorldEvent Content)
      written = WriteBegins f ∷ WriteEnds f ok torn ∷ Applies (model_step.FlushWrote f ok) met.it met.after ∷ []

      due_at : due (v.block_writes f) ≡ Some (b, write_of write ∷ rest)
      due_at = one.3 ∙ ap (λ ws. next_of b (map write_of ws)) (drop_at items k write there)

      under : v1.block_writes f ≡ InFlight b [] (write_of write) rest
      under = put_same v.block_writes f (writes_begun (v.block_writes f)) ∙ ap writes_begun (due_is (v.block_writes f) b (write_of write) rest due_at)

      ended : v2.block_writes f ≡ IssuesWrites b (ok ∷ []) (if ok then rest else [])
      ended = put_same v1.block_writes f (writes_ended ok (v1.block_writes f)) ∙ ap (writes_ended ok) under

      happens : MayAllHappen all (laid_out s) (IsEncoded m.is_key m.is_value) v written
      happens = (
        tt,
        (subst (λ pending. IsTornIn v.bytes pending torn) (sym under) (torn_is ok v.bytes y z b write rest (one.0).same done), ((ap result_of ended, met.follows), tt)),
      )

      abbrev driven_on : IsDriven m s sound w new z
      driven_on =
          record {
            events = (one.0).events ++ written;
            happened = happen_more all (laid_out s) (IsEncoded m.is_key m.is_value) w (one.0).events written (one.0).happened happens;
            stands = subst (λ u. IsStateOf m s new u.core) (sym (after_more all w (one.0).events written)) met.stands;
            same = λ c o.
                ap (λ u. u.bytes c o) (after_more all w (one.0).events written)
                ∙ subst (λ pending. bytes_ended ok torn pending v.bytes c o ≡ z c o) (sym under) (bytes_are ok v.bytes y z b write rest (one.0).same done c o);
          }

      -- its next write is due
      next_due : ok ≡ true → answer ≡ reply.Next → due ((after_all all v written).block_writes f) ≡ next_of b rest
      next_due well next =
          subst (λ r. due (block_writes_after r (model_step.FlushWrote f ok) v2.block_writes f) ≡ next_of b rest) (sym (subst (λ r. IsReply m r met.it) next met.reply))
          (due_next Content f ok v2.block_writes b rest (ended ∙ ap (λ (t : Bool). IssuesWrites b (ok ∷ []) (if t then rest else [])) well))

      no_fault : ok ≡ true → has_fault ((one.0).events ++ written) ≡ false
      no_fault well =
          faults_join (one.0).events written ∙ ap (λ t. t || (not ok || false)) one.2 ∙ ap (λ t. false || (not t || false)) well

      -- the write's cause, if it failed
      caused : (came : ℕ → ℕ → ℕ → Type 0) → (ok ≡ false → came b write.offset (length (written_bytes write.bytes)) → ⊥) → AreForCause came all v written
      caused came unsure = (
        tt,
        ((λ failed comes. unsure failed (subst (HasWriteCome came) under comes)), (tt, tt)),
      )

    -- another write went well
    pub wrote_more : went_well outcome ≡ true → answer ≡ reply.Next → WritesSoFar f b (drop (k + 1) items) old new x z
    wrote_more well next s sound w stands same = (
      driven_on s sound w stands same,
      all_join IsWaiting ((one s sound w stands same).0).events (written s sound w stands same) (one s sound w stands same).1 (tt, tt),
      no_fault s sound w stands same well,
      ap (λ u. due (u.block_writes f)) (after_more (all s sound w stands same) w ((one s sound w stands same).0).events (written s sound w stands same)) ∙ next_due s sound w stands same well next,
    )

    -- the last one was done, and if it failed it isn't sure that it came
    pub wrote_last : (came : ℕ → ℕ → ℕ → Type 0) → OnErr outcome (came b write.offset (length (written_bytes write.bytes)) → ⊥) → DrivesForCause came (AllSteps IsWaiting) m old new x z
    wrote_last came unsure s sound w stands same = (
      driven_on s sound w stands same,
      all_join IsWaiting ((one s sound w stands same).0).events (written s sound w stands same) (one s sound w stands same).1 (tt, tt),
      causes_join came (all s sound w stands same) w ((one s sound w stands same).0).events (written s sound w stands same)
          (causes_none came (all s sound w stands same) w ((one s sound w stands same).0).events (one s sound w stands same).2)
          (caused s sound w stands same came (unsure_failed outcome unsure)),
    )
