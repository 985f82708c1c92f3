-- A core that was opened on what a run left has what the run's index had.
use Rattle.std.proofs.Common.{◌≡◌, ◌≢◌, ℕ, ◌+◌, ◌<◌, ◌≤◌, Bool, true, false, List, [], Some, refl, sym, ◌∙◌, ◌⊎◌, inl, inr}
use Rattle.foyer_format_blob.specs.declared.blob.BlobEntryIndex.{BlobEntryIndex}
use Rattle.foyer_format_buffer.specs.Listing.{IsIndex, Chain, Lists}
use Rattle.foyer_format_buffer.specs.Listing.Chain.{ends, goes}
use Rattle.foyer_format_layout.specs.Position.{Sizes}
use Rattle.foyer_core_steps.specs.Reopened.{ReadsAll, IsReopened, HasAgain, HasNewer, BeginsWithNewest, slot_at}
use Rattle.foyer_core_steps.specs.declared.state.Core.{Core}
use Rattle.foyer_core_model.specs.Record.{Address, Indexed}
use Rattle.foyer_core_model.specs.State.{Writing}
use Rattle.foyer_core_model.specs.World.{World}
use Rattle.foyer_block_recover.specs.Opening.{Keeps, IsCut, Opened, Opens}
use Rattle.foyer_block_recover.specs.Recovery.{AreFaults, IsRecovered}
use Rattle.foyer_block_recover.specs.declared.block.recover.RecoverMode.{RecoverMode}
use Rattle.foyer_block_recover.specs.declared.block.recover.RecoverMode.TheVariants as recover_mode
use Rattle.foyer_core_flusher.specs.Restart.{IsWriting, IsBeingWritten, IsFoundAgain, IsFoundNewer, no_fault}
use Rattle.foyer_core_flusher.proofs.FormatLemmas.{restart_lem, restart_idle_lem, restart_newest_lem}
use Rattle.foyer_core_flusher.specs.Begins.{opened_world}
use Rattle.foyer_core_flusher.specs.Content.{Content}
use Rattle.foyer_core_flusher.specs.CoreRules.{rules_of}
use Rattle.foyer_core_flusher.specs.Sizes.{AreValid, sizes_in}
use Rattle.foyer_core_flusher.specs.Settings.{Settings}

-- failed reads that end no chain change nothing
module _ (s : Sizes) (b : ℕ) (B : ℕ → ℕ) (failed : ℕ → Bool) where
  clear_chain : {p q : ℕ} {es : List BlobEntryIndex} → Chain s B failed p es q → (q + s.index ≤ s.block → failed q ≡ true → ⊥) → Chain s B (no_fault b) p es q
  clear_chain (ends {p = p} none) well = ends (λ es is. go (failed p) refl es is)
    where
      go : (t : Bool) → failed p ≡ t → (es : List BlobEntryIndex) → IsIndex s B (no_fault b) p es → ⊥
      go true at es is = well is.room at
      go false at es is = none es (record { room = is.room; came = at; sealed = is.sealed; fits = is.fits })
  clear_chain (goes is more) well = goes (record { room = is.room; came = refl; sealed = is.sealed; fits = is.fits }) (clear_chain more well)

  clear_lists : (es : List BlobEntryIndex) → (IsCut s B failed → ⊥) → Lists s B failed es → Lists s B (no_fault b) es
  clear_lists es uncut l = record { end = l.end; chain = clear_chain l.chain (λ room at. uncut (es, l.end, l.chain, room, at)) }

  clear_keeps : (mode : RecoverMode) (es : List BlobEntryIndex) → (IsCut s B failed → ⊥) → Keeps s mode B failed es → Keeps s mode B (no_fault b) es
  clear_keeps recover_mode.None es uncut k = k
  clear_keeps recover_mode.Quiet es uncut k = (k.0, clear_lists k.0 uncut k.1, k.2)
  clear_keeps recover_mode.Strict es uncut k = (k.0, clear_lists k.0 uncut k.1, k.2)

clear_opens : (s : Sizes) (n : ℕ) (bytes : ℕ → ℕ → ℕ) (mode : RecoverMode) (failed : ℕ → ℕ → Bool) (o : Opened) → ((b : ℕ) → b < n → IsCut s (bytes b) (failed b) → ⊥)
    → Opens s n bytes mode failed [] o → Opens s n bytes mode no_fault [] o
clear_opens s n bytes mode failed o uncut is = record {
  keeps = is.keeps;
  kept = λ b lt. clear_keeps s b (bytes b) (failed b) mode (is.keeps b) (uncut b lt) (is.kept b lt);
  read = λ m b lt cut. let x : false ≡ true = cut.4 in cc;
  index = is.index;
  next = is.next;
  below = is.below;
  clean = is.clean;
}

some_mode : (s : Settings) (surely_has : ℕ → ℕ → ℕ → Type 0) (mode : RecoverMode) → ReadsAll s surely_has mode → mode ≢ recover_mode.None
some_mode s surely_has recover_mode.None reads = λ e. reads
some_mode s surely_has recover_mode.Quiet reads = λ e. cc
some_mode s surely_has recover_mode.Strict reads = λ e. cc

-- no chain was cut
uncut_by : (s : Settings) (bytes : ℕ → ℕ → ℕ) (surely_has : ℕ → ℕ → ℕ → Type 0) (mode : RecoverMode) (failed : ℕ → ℕ → Bool) (o : Opened) → ReadsAll s surely_has mode
    → AreFaults (sizes_in s) s.blocks surely_has failed → Opens (sizes_in s) s.blocks bytes mode failed [] o → (b : ℕ) → b < s.blocks → IsCut (sizes_in s) (bytes b) (failed b) → ⊥
uncut_by s bytes surely_has recover_mode.None failed o reads faults is b lt cut = reads
uncut_by s bytes surely_has recover_mode.Quiet failed o reads faults is b lt cut = faults b cut.1 lt cut.4 (reads b cut.1 lt cut.3)
uncut_by s bytes surely_has recover_mode.Strict failed o reads faults is b lt cut = is.read refl b lt cut

module _ {K V P A : Type 0} (is_key is_value : List ℕ → Bool) (s : Settings) (sound : AreValid s) (w : World Content) (bytes : ℕ → ℕ → ℕ)
    (surely_has : ℕ → ℕ → ℕ → Type 0) (is_known : Type 0) (mode : RecoverMode) (core : Core K V P A)
    (is : IsReopened is_key is_value s sound w bytes surely_has is_known mode core) (h : ℕ) (a : Address) (indexed : w.core.index h ≡ Some (Indexed a)) where
  abbrev found : Opened
  found = (is.opened).found

  opens : Opens (sizes_in s) s.blocks bytes mode no_fault [] found
  opens =
      let all : IsRecovered (sizes_in s) s.blocks bytes surely_has mode [] found = (is.opened).recovered (inr is.known) in
      clear_opens (sizes_in s) s.blocks bytes mode all.0 found (uncut_by s bytes surely_has mode all.0 found is.reads all.1 all.2) all.2

  has : slot_at core h ≡ found.index h
  has = ((is.opened).opened).index h

  pub again : (IsBeingWritten w.core a.block → ⊥) → HasAgain core h a ⊎ HasNewer w bytes core h a
  again not_written = go (restart_lem is_key is_value s sound w bytes mode found h a is.run is.stopped is.strays (some_mode s surely_has mode is.reads) opens indexed not_written)
    where
      go : IsFoundAgain found h a ⊎ IsFoundNewer w bytes found h a → HasAgain core h a ⊎ HasNewer w bytes core h a
      go (inl same) = inl (has ∙ same)
      go (inr (x, at, greater, whole)) = inr (x, has ∙ at, greater, whole)

  pub all : ((f : ℕ) (r : Writing Content) → IsWriting w.core f r → ⊥) → HasAgain core h a
  all idle = has ∙ restart_idle_lem is_key is_value s sound w bytes mode found h a is.run is.stopped is.strays (some_mode s surely_has mode is.reads) opens indexed idle

  pub same_newest : HasAgain core h a → BeginsWithNewest is_key is_value s sound w bytes (is.opened).found h
  same_newest again recovered opened = restart_newest_lem is_key is_value s sound w (opened_world (rules_of is_key is_value s sound) bytes found recovered) h a is.run is.stopped opened indexed (sym has ∙ again)
