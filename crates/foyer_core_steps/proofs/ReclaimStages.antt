-- How far a reclaim is, in the model too.
use Rattle.std.specs.Prelude.{is_none}
use Rattle.std.proofs.Common.{◌≡◌, ℕ, ◌==◌, Bool, true, false, not, ◌&&◌, if◌then◌else◌, List, [], ◌∷◌, map, length, Option, Some, None, refl, sym, ap, subst, ◌∙◌, arith}
use Rattle.std.proofs.lemmas.Bool.Decides.{nat_tests}
use Rattle.foyer_block_index.specs.declared.indexer.HashedEntryAddress.{HashedEntryAddress}
use Rattle.foyer_core_model.specs.InTurn.{ReadsFor, IsScan, IsAt}
use Rattle.foyer_core_model.specs.Reclaim.{Scanned, reclaiming as model_reclaiming}
use Rattle.foyer_core_model.specs.Reply as model_reply
use Rattle.foyer_core_model.specs.State as model_state
use Rattle.foyer_core_model.specs.Step.{ReadResult, Bytes, Fault}
use Rattle.foyer_core_flusher.specs.Content.{Content, Meaning}
use Rattle.foyer_core_flusher.specs.CoreRules.{machine}
use Rattle.foyer_core_flusher.specs.Sizes.{AreValid, sizes_in}
use Rattle.foyer_core_flusher.specs.Settings.{Settings}
use Rattle.foyer_block_scan.specs.Scan.{next_blob}
use Rattle.foyer_block_manager.specs.BlockSets.{is_reclaimed}
use Rattle.foyer_core_flusher.specs.Addresses.{address_of, listed_of}
use Rattle.foyer_core_steps.specs.Reclaiming.{Reclaiming, IsReclaimAs, AreReclaimAs, IsStageAs, awaited, may_forget, may_clean, read_of, is_all_listed}
use Rattle.foyer_core_steps.specs.declared.block.reclaimer.Wanted.{Wanted}
use Rattle.foyer_core_steps.specs.declared.block.reclaimer.Wanted.TheVariants as wanted

-- Whether a reclaim reads, forgets or cleans, in the model too.
module _ {K V P : Type 0} (m : Meaning K V P) (s : Settings) (sound : AreValid s) (b : ℕ) (place : model_state.BlockSet) (filling : ℕ) where
  -- by what one is at
  stage_reads : (forgotten : Bool) (o : Option ℕ) (es : List HashedEntryAddress) (stage : model_state.Stage) (came : ReadResult)
      → (if forgotten then None else read_of es o) ≡ None → IsStageAs forgotten (sizes_in s) o es stage → IsScan (machine m s sound) stage came → ⊥
  stage_reads true o es stage came none at turn = subst (λ k. IsScan (machine m s sound) k came) at turn
  stage_reads false None [] stage came none at turn = subst (λ k. IsScan (machine m s sound) k came) at turn
  stage_reads false (Some p) [] stage came none at turn = absurd (cc)
  stage_reads false o (e ∷ es) stage came none at turn = absurd (cc)

  -- a reclaim that reads nothing is out of turn
  pub not_reading : (o : Option Reclaiming) (its : Option model_state.Reclaim) (came : ReadResult) → AreReclaimAs s b place filling o its → awaited o ≡ None
      → ReadsFor (machine m s sound) its came → ⊥
  not_reading None None came are none turn = turn
  not_reading None (Some r) came are none turn = are
  not_reading (Some r) None came are none turn = are
  not_reading (Some r) (Some x) came are none turn =
      stage_reads r.is_forgotten r.scan.blob_offset r.admitted x.stage came none (are.1).stage turn

  -- one that reads an index
  pub record Reads (o : Option Reclaiming) (its : Option model_state.Reclaim) (at : ℕ) : Type 0 where
    pub ours : Reclaiming
    pub mine : o ≡ Some ours
    pub offset : ours.scan.blob_offset ≡ Some at
    pub unforgotten : ours.is_forgotten ≡ false
    pub none : ours.admitted ≡ []
    pub model : model_state.Reclaim
    pub is : its ≡ Some model
    pub set : is_reclaimed place ≡ true
    pub stands_as : IsReclaimAs s b filling ours model
    pub stage : model.stage ≡ model_state.AtIndex at

  -- one that reads a record
  pub record ReadsRecord (o : Option Reclaiming) (its : Option model_state.Reclaim) (e : HashedEntryAddress) : Type 0 where
    pub ours : Reclaiming
    pub mine : o ≡ Some ours
    pub others : List HashedEntryAddress
    pub unforgotten : ours.is_forgotten ≡ false
    pub admitted : ours.admitted ≡ e ∷ others
    pub model : model_state.Reclaim
    pub is : its ≡ Some model
    pub set : is_reclaimed place ≡ true
    pub stands_as : IsReclaimAs s b filling ours model
    pub behind : ℕ
    pub stage : model.stage ≡ model_state.AtRecord e.hash (address_of e.address) (map listed_of others) behind
    pub offset : ours.scan.blob_offset ≡ next_blob (sizes_in s) behind

  pub reads_index : (o : Option Reclaiming) (its : Option model_state.Reclaim) (at : ℕ) → AreReclaimAs s b place filling o its → awaited o ≡ Some (wanted.Index at) → Reads o its at
  reads_index None its at are is = absurd (cc)
  reads_index (Some r) None at are is = absurd are
  reads_index (Some r) (Some x) at are is = go r.is_forgotten refl r.admitted refl r.scan.blob_offset refl is (are.1).stage
    where
      go : (t : Bool) → r.is_forgotten ≡ t → (es : List HashedEntryAddress) → r.admitted ≡ es → (o : Option ℕ) → r.scan.blob_offset ≡ o
          → (if t then None else read_of es o) ≡ Some (wanted.Index at) → IsStageAs t (sizes_in s) o es x.stage → Reads (Some r) (Some x) at
      go true e es f o g w k = absurd (cc)
      go false e (h ∷ hs) f o g w k = absurd (let clash : Some (wanted.Record h) ≡ Some (wanted.Index at) = w in cc)
      go false e [] f None g w k = absurd (cc)
      go false e [] f (Some p) g w k =
          let same : p ≡ at = cc in
          record {
            ours = r;
            mine = refl;
            offset = g ∙ ap (λ n. Some n) same;
            unforgotten = e;
            none = f;
            model = x;
            is = refl;
            set = are.0;
            stands_as = are.1;
            stage = k ∙ ap model_state.AtIndex same;
          }

  pub reads_record : (o : Option Reclaiming) (its : Option model_state.Reclaim) (h : HashedEntryAddress) → AreReclaimAs s b place filling o its → awaited o ≡ Some (wanted.Record h) → ReadsRecord o its h
  reads_record None its h are is = absurd (cc)
  reads_record (Some r) None h are is = absurd are
  reads_record (Some r) (Some x) h are is = go r.is_forgotten refl r.admitted refl r.scan.blob_offset refl is (are.1).stage
    where
      go : (t : Bool) → r.is_forgotten ≡ t → (es : List HashedEntryAddress) → r.admitted ≡ es → (o : Option ℕ) → r.scan.blob_offset ≡ o
          → (if t then None else read_of es o) ≡ Some (wanted.Record h) → IsStageAs t (sizes_in s) o es x.stage → ReadsRecord (Some r) (Some x) h
      go true e es f o g w k = absurd (cc)
      go false e [] f None g w k = absurd (cc)
      go false e [] f (Some p) g w k = absurd (let clash : Some (wanted.Index p) ≡ Some (wanted.Record h) = w in cc)
      go false e (q ∷ qs) f o g w k =
          let same : q ≡ h = cc in
          record {
            ours = r;
            mine = refl;
            others = qs;
            unforgotten = e;
            admitted = f ∙ ap (λ y. y ∷ qs) same;
            model = x;
            is = refl;
            set = are.0;
            stands_as = are.1;
            behind = k.place;
            stage = k.is ∙ ap (λ (y : HashedEntryAddress). model_state.AtRecord y.hash (address_of y.address) (map listed_of qs) k.place) same;
            offset = g ∙ k.at;
          }

  pub reads_for : (o : Option Reclaiming) (its : Option model_state.Reclaim) (at : ℕ) (came : ReadResult) → (reads : Reads o its at) → IsScan (machine m s sound) (model_state.AtIndex at) came
      → ReadsFor (machine m s sound) its came
  reads_for o its at came reads scan =
      subst (λ k. ReadsFor (machine m s sound) k came) (sym reads.is) (subst (λ k. IsScan (machine m s sound) k came) (sym reads.stage) scan)

  pub reads_record_for : (o : Option Reclaiming) (its : Option model_state.Reclaim) (e : HashedEntryAddress) (bytes : List ℕ) → (reads : ReadsRecord o its e)
      → length bytes ≡ (e.address).len → ReadsFor (machine m s sound) its (Bytes bytes)
  reads_record_for o its e bytes reads long =
      subst (λ k. ReadsFor (machine m s sound) k (Bytes bytes)) (sym reads.is) (subst (λ k. IsScan (machine m s sound) k (Bytes bytes)) (sym reads.stage) long)

  -- bytes of another length than what is read has are out of turn
  pub not_as_long : (o : Option Reclaiming) (its : Option model_state.Reclaim) (at : ℕ) (bytes : List ℕ) → Reads o its at → ReadsFor (machine m s sound) its (Bytes bytes) → length bytes ≡ s.blob_index_size
  not_as_long o its at bytes reads turn =
      subst (λ k. IsScan (machine m s sound) k (Bytes bytes)) reads.stage (subst (λ k. ReadsFor (machine m s sound) k (Bytes bytes)) reads.is turn)

  pub not_as_long_record : (o : Option Reclaiming) (its : Option model_state.Reclaim) (e : HashedEntryAddress) (bytes : List ℕ) → ReadsRecord o its e
      → ReadsFor (machine m s sound) its (Bytes bytes) → length bytes ≡ (e.address).len
  not_as_long_record o its e bytes reads turn =
      subst (λ k. IsScan (machine m s sound) k (Bytes bytes)) reads.stage (subst (λ k. ReadsFor (machine m s sound) k (Bytes bytes)) reads.is turn)

  -- one whose read may fail
  pub record MayFail (old : model_state.State Content) (o : Option Reclaiming) (its : Option model_state.Reclaim) : Type 0 where
    pub ours : Reclaiming
    pub mine : o ≡ Some ours
    pub unforgotten : ours.is_forgotten ≡ false
    pub model : model_state.Reclaim
    pub is : its ≡ Some model
    pub set : is_reclaimed place ≡ true
    pub stands_as : IsReclaimAs s b filling ours model
    pub turn : ReadsFor (machine m s sound) its Fault
    pub scanned : Scanned (machine m s sound) old b model model.stage Fault (model_reply.Listed [])
        (model_reclaiming (machine m s sound) old b (record model { stage = model_state.AllListed }))

  pub may_fail : (old : model_state.State Content) (o : Option Reclaiming) (its : Option model_state.Reclaim) (w : Wanted) → AreReclaimAs s b place filling o its → awaited o ≡ Some w → MayFail old o its
  may_fail old o its (wanted.Index at) are is =
      let reads = reads_index o its at are is in
      record {
        ours = reads.ours;
        mine = reads.mine;
        unforgotten = reads.unforgotten;
        model = reads.model;
        is = reads.is;
        set = reads.set;
        stands_as = reads.stands_as;
        turn = reads_for o its at Fault reads tt;
        scanned = subst (λ k. Scanned (machine m s sound) old b reads.model k Fault (model_reply.Listed [])
            (model_reclaiming (machine m s sound) old b (record reads.model { stage = model_state.AllListed }))) (sym reads.stage) (refl, refl);
      }
  may_fail old o its (wanted.Record e) are is =
      let reads = reads_record o its e are is in
      record {
        ours = reads.ours;
        mine = reads.mine;
        unforgotten = reads.unforgotten;
        model = reads.model;
        is = reads.is;
        set = reads.set;
        stands_as = reads.stands_as;
        turn = subst (λ k. ReadsFor (machine m s sound) k Fault) (sym reads.is) (subst (λ k. IsScan (machine m s sound) k Fault) (sym reads.stage) tt);
        scanned = subst (λ k. Scanned (machine m s sound) old b reads.model k Fault (model_reply.Listed [])
            (model_reclaiming (machine m s sound) old b (record reads.model { stage = model_state.AllListed }))) (sym reads.stage) (refl, refl);
      }

  -- one that has listed all
  stage_listed : (r : Reclaiming) (stage : model_state.Stage) → is_all_listed r ≡ true → IsStageAs r.is_forgotten (sizes_in s) r.scan.blob_offset r.admitted stage → stage ≡ model_state.AllListed
  stage_listed r stage is at = go r.is_forgotten r.admitted r.scan.blob_offset is at
    where
      go : (t : Bool) (es : List HashedEntryAddress) (o : Option ℕ) → (not t && (length es == 0) && is_none o) ≡ true → IsStageAs t (sizes_in s) o es stage → stage ≡ model_state.AllListed
      go true es o e k = absurd (cc)
      go false [] None e k = k
      go false [] (Some p) e k = absurd (cc)
      go false (h ∷ hs) o e k =
          let no : (length (h ∷ hs) == 0) ≡ false = grind (arith, nat_tests) in
          absurd (let clash : false ≡ true = sym (ap (λ t. not false && t && is_none o) no) ∙ e in cc)

  listed_stage : (r : Reclaiming) (stage : model_state.Stage) → stage ≡ model_state.AllListed → IsStageAs r.is_forgotten (sizes_in s) r.scan.blob_offset r.admitted stage → is_all_listed r ≡ true
  listed_stage r stage is at = go r.is_forgotten r.admitted r.scan.blob_offset at
    where
      go : (t : Bool) (es : List HashedEntryAddress) (o : Option ℕ) → IsStageAs t (sizes_in s) o es stage → (not t && (length es == 0) && is_none o) ≡ true
      go true es o k = absurd (let clash : model_state.ToClean ≡ model_state.AllListed = sym k ∙ is in cc)
      go false [] None k = refl
      go false [] (Some p) k = absurd (let clash : model_state.AtIndex p ≡ model_state.AllListed = sym k ∙ is in cc)
      go false (h ∷ hs) o k = absurd (let clash : model_state.AtRecord h.hash (address_of h.address) (map listed_of hs) k.place ≡ model_state.AllListed = sym k.is ∙ is in cc)

  pub must_forget : (o : Option Reclaiming) (its : Option model_state.Reclaim) → AreReclaimAs s b place filling o its → IsAt model_state.AllListed its → may_forget o ≡ true
  must_forget o None are at = absurd at
  must_forget None (Some x) are at = absurd are
  must_forget (Some r) (Some x) are at = listed_stage r x.stage at (are.1).stage

  -- the reclaim of the block is the model's at this stage
  pub record IsAtStage (at : model_state.Stage) (o : Option Reclaiming) (its : Option model_state.Reclaim) : Type 0 where
    pub ours : Reclaiming
    pub model : model_state.Reclaim
    pub mine : o ≡ Some ours
    pub is : its ≡ Some model
    pub set : is_reclaimed place ≡ true
    pub stands_as : IsReclaimAs s b filling ours model
    pub stage : model.stage ≡ at

  pub forgets : (o : Option Reclaiming) (its : Option model_state.Reclaim) → AreReclaimAs s b place filling o its → may_forget o ≡ true → IsAtStage model_state.AllListed o its
  forgets None its are is = absurd (cc)
  forgets (Some r) None are is = absurd are
  forgets (Some r) (Some x) are is = record { ours = r; model = x; mine = refl; is = refl; set = are.0; stands_as = are.1; stage = stage_listed r x.stage is (are.1).stage }

  -- and nothing has left the index yet
  pub unforgotten_at : (o : Option Reclaiming) (its : Option model_state.Reclaim) → (at : IsAtStage model_state.AllListed o its) → (at.ours).is_forgotten ≡ false
  unforgotten_at o its at = go (at.ours).is_forgotten (at.ours).admitted (at.stands_as).stage
    where
      go : (t : Bool) (es : List HashedEntryAddress) → IsStageAs t (sizes_in s) (at.ours).scan.blob_offset es (at.model).stage → t ≡ false
      go true es k = absurd (let clash : model_state.ToClean ≡ model_state.AllListed = sym k ∙ at.stage in cc)
      go false es k = refl

  -- one whose block is cleaned
  stage_clean : (r : Reclaiming) (stage : model_state.Stage) → stage ≡ model_state.ToClean → IsStageAs r.is_forgotten (sizes_in s) r.scan.blob_offset r.admitted stage → r.is_forgotten ≡ true
  stage_clean r stage is at = go r.is_forgotten r.admitted r.scan.blob_offset at
    where
      go : (t : Bool) (es : List HashedEntryAddress) (o : Option ℕ) → IsStageAs t (sizes_in s) o es stage → t ≡ true
      go true es o k = refl
      go false [] None k = absurd (let clash : model_state.AllListed ≡ model_state.ToClean = sym k ∙ is in cc)
      go false [] (Some p) k = absurd (let clash : model_state.AtIndex p ≡ model_state.ToClean = sym k ∙ is in cc)
      go false (h ∷ hs) o k = absurd (let clash : model_state.AtRecord h.hash (address_of h.address) (map listed_of hs) k.place ≡ model_state.ToClean = sym k.is ∙ is in cc)

  pub must_clean : (o : Option Reclaiming) (its : Option model_state.Reclaim) → AreReclaimAs s b place filling o its → IsAt model_state.ToClean its → may_clean o ≡ true
  must_clean o None are at = absurd at
  must_clean None (Some x) are at = absurd are
  must_clean (Some r) (Some x) are at = stage_clean r x.stage at (are.1).stage

  pub cleans : (o : Option Reclaiming) (its : Option model_state.Reclaim) → AreReclaimAs s b place filling o its → may_clean o ≡ true → IsAtStage model_state.ToClean o its
  cleans None its are is = absurd (cc)
  cleans (Some r) None are is = absurd are
  cleans (Some r) (Some x) are is =
      record {
        ours = r;
        model = x;
        mine = refl;
        is = refl;
        set = are.0;
        stands_as = are.1;
        stage = subst (λ t. IsStageAs t (sizes_in s) r.scan.blob_offset r.admitted x.stage) is (are.1).stage;
      }

  pub at_stage : (stage : model_state.Stage) (o : Option Reclaiming) (its : Option model_state.Reclaim) → (at : IsAtStage stage o its) → IsAt stage its
  at_stage stage o its at = subst (λ k. IsAt stage k) (sym at.is) at.stage
