-- What a core has that was opened on what a stopped run left.
use Rattle.std.proofs.Common.{◌≡◌, ◌≢◌, ◌⊎◌, inr, ℕ, Bool, List, [], ◌∷◌, refl, sym, ap, ◌∙◌}
use Rattle.foyer_io_disk.specs.Disk.{IsWithin}
use Rattle.foyer_core_model.specs.Opened.{slot_among, recovered}
use Rattle.foyer_core_model.specs.Record.{Address}
use Rattle.foyer_core_model.specs.Rules.{Rules}
use Rattle.foyer_core_model.specs.World.{World, after_all}
use Rattle.foyer_block_recover.specs.declared.block.recover.RecoverMode.{RecoverMode}
use Rattle.foyer_block_recover.specs.declared.block.recover.RecoverMode.TheVariants as recover_mode
use Rattle.foyer_core_laws.specs.Content.{Content, Meaning}
use Rattle.foyer_core_laws.specs.CoreRules.{machine}
use Rattle.foyer_core_laws.specs.Sizes.{AreValid}
use Rattle.foyer_core_laws.specs.Settings.{Settings}
use Rattle.foyer_core_steps.specs.Opened.{IsOpenedFrom}
use Rattle.foyer_core_steps.specs.Reopened.{ReadsAll, IsReopened}
use Rattle.foyer_core_steps.specs.declared.reply.Reply.{Reply}
use Rattle.foyer_core_steps.specs.declared.state.Core.{Core}
use Rattle.foyer_core_steps.proofs.ReopenedLemmas.{again, all, same_newest}
use Rattle.foyer_core_run.specs.Begun.{IsBegunEmpty}
use Rattle.foyer_core_run.specs.Runs.{RunsNoted}
use Rattle.foyer_core_run.specs.Stopped.{zeroed_world, IsRunOverZeros, IsReopenedRun}
use Rattle.foyer_core_run.specs.declared.moves.Move.{Move}
use Rattle.foyer_core_run.proofs.OpenedRuns.{begun, begun_empty}
use Rattle.foyer_core_run.proofs.WellLemmas.{all_well}

-- a history without a put is of no address
none_found : {C : Type 0} (rules : Rules C) (bytes : ℕ → ℕ → ℕ) (found : List (ℕ × Address)) → [] ≡ recovered rules bytes found → found ≡ []
none_found rules bytes [] is = refl
none_found rules bytes (p ∷ ps) is = absurd (cc)

-- memory with these blocks has each place at which an index has room
reads_all : (s : Settings) (mode : RecoverMode) → mode ≢ recover_mode.None → ReadsAll s (IsWithin s.blocks s.block_size) mode
reads_all s recover_mode.None some = some refl
reads_all s recover_mode.Quiet some = λ b p lt room. (lt, room)
reads_all s recover_mode.Strict some = tt

module _ {K V P A : Type 0} (m : Meaning K V P) (s : Settings) (sound : AreValid s) where
  pub over_zeros : (core new : Core K V P A) (shown old now : ℕ → ℕ → ℕ) (surely : ℕ → ℕ → ℕ → Type 0) (seen : Type 0) → seen
      → IsOpenedFrom s shown surely recover_mode.None [] seen core → shown ≡ old → ((b o : ℕ) → shown b o ≡ 0)
      → (moves : List (Move K V P A)) (said : List (Reply K V P A)) (came : ℕ → ℕ → ℕ → Type 0) (failed : Bool) → RunsNoted came failed m moves said core new old now → IsRunOverZeros m s sound failed moves said now
  over_zeros core new shown old now surely seen is_seen from same zeros moves said came failed runs =
      let start : IsBegunEmpty m s sound (λ b o. 0) core old =
      begun_empty m s sound core shown (λ b o. 0) old surely seen is_seen (begun m s sound core shown old surely recover_mode.None [] seen from same) zeros in
      let noted = runs s sound (zeroed_world m s sound start.found) (start.history).stands (start.history).same in
      let ran = noted.run in
      record {
        found = start.found;
        opened = (start.history).opened;
        empty = λ h. (start.history).opened.index h ∙ ap (slot_among h) (none_found (machine m s sound) (λ b o. 0) (start.history).opened.found (start.history).opened.history);
        events = ran.events;
        happened = ran.happened;
        made = ran.made;
        faults = noted.faults;
        same = ran.same;
      }

  pub reopened : (failed : Bool) (mode : RecoverMode) (moves : List (Move K V P A)) (said : List (Reply K V P A)) (core : Core K V P A) (bytes : ℕ → ℕ → ℕ)
      → IsOpenedFrom s bytes (IsWithin s.blocks s.block_size) mode [] ((mode ≡ recover_mode.None) ⊎ Unit {0}) core
      → IsRunOverZeros m s sound failed moves said bytes → IsReopenedRun m s sound failed mode moves said core bytes
  reopened failed mode moves said core bytes from run =
      let w : World Content = after_all (machine m s sound) (zeroed_world m s sound run.found) run.events in
      record {
        run = run;
        found = from.found;
        opened = from.opened;
        well = λ none say. all_well m s sound (zeroed_world m s sound run.found) moves (zeroed_world m s sound run.found) run.events said run.made say (run.faults ∙ none);
        keeps = λ some well strays.
            let is : IsReopened m.is_key m.is_value s sound w bytes (IsWithin s.blocks s.block_size) (Unit {0}) mode core = record {
              run = record {
                first = zeroed_world m s sound run.found;
                events = run.events;
                opened = run.opened;
                empty = run.empty;
                happened = run.happened;
                well = well;
                is = refl;
              };
              stopped = λ b o out. sym (run.same b o);
              strays = strays;
              known = tt;
              reads = reads_all s mode some;
              opened = from;
            } in
            record {
              again = λ h a indexed not_written. again m.is_key m.is_value s sound w bytes (IsWithin s.blocks s.block_size) (Unit {0}) mode core is h a indexed not_written;
              all = λ h a indexed idle. all m.is_key m.is_value s sound w bytes (IsWithin s.blocks s.block_size) (Unit {0}) mode core is h a indexed idle;
              newest = λ h a indexed again. same_newest m.is_key m.is_value s sound w bytes (IsWithin s.blocks s.block_size) (Unit {0}) mode core is h a indexed again;
            };
      }
