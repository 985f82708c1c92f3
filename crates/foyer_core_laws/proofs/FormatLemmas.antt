-- The rules of a core are those of the real format, so that the restart law holds of them.
use Rattle.std.proofs.Common.{◌≡◌, ℕ, Bool, List, [], ◌∷◌, map, Option, Some, None, refl, sym, ap, subst, ◌∙◌}
use Rattle.std.specs.Option.{option_map}
use Rattle.foyer_format_blob.specs.Blob.{IsSealed}
use Rattle.foyer_format_blob.specs.declared.blob.BlobEntryIndex.{BlobEntryIndex}
use Rattle.foyer_format_layout.specs.Each.{Each}
use Rattle.foyer_core_restart.specs.Listing.{Fits}
use Rattle.foyer_core_model.specs.Record.{IndexEntry}
use Rattle.foyer_core_restart.specs.Bridge.{entry_of}
use Rattle.foyer_core_restart.specs.Entries.{entry_in}
use Rattle.foyer_core_restart.specs.Newest.{KeepsNewest}
use Rattle.foyer_core_restart.specs.Real.{IsFormat}
use Rattle.foyer_core_restart.specs.Restart.{FindsAgain, FindsAll}
use Rattle.foyer_core_restart.proofs.Layouts.{laid_restart_law_lem, laid_idle_law_lem}
use Rattle.foyer_core_restart.proofs.Newest.{laid_newest_law_lem}
use Rattle.foyer_core_restart.specs.IndexBytes.{index_at, IsIndexOf}
use Rattle.foyer_core_restart.proofs.IndexBytesLemmas.{judged}
use Rattle.foyer_core_laws.specs.CoreRules.{rules_of, layout, entries_at, IsEncoded}
use Rattle.foyer_core_settings.specs.Sizes.{AreValid, sizes_in}
use Rattle.foyer_core_settings.specs.declared.settings.Settings.{Settings}
use Rattle.foyer_core_laws.proofs.LawLemmas.{demands}

-- an entry in the model's words is that entry again
same_entries : (xs : List BlobEntryIndex) → map entry_in (map entry_of xs) ≡ xs
same_entries [] = refl
same_entries (x ∷ xs) = ap (λ l. x ∷ l) (same_entries xs)

module _ (s : Settings) (p : ℕ) (b : List ℕ) where
  -- what is read as an index is one
  lists : (es : List IndexEntry) → entries_at s p b ≡ Some es
      → IsSealed b (map entry_in es) × Each (Fits (sizes_in s) p) (map entry_in es)
  lists es is = go (index_at (sizes_in s) p b) refl is
    where
      go : (o : Option (List BlobEntryIndex)) → index_at (sizes_in s) p b ≡ o → option_map (map entry_of) o ≡ Some es
          → IsSealed b (map entry_in es) × Each (Fits (sizes_in s) p) (map entry_in es)
      go None at bad = absurd (cc)
      go (Some xs) at so =
          let found : IsIndexOf (sizes_in s) p b xs = (judged (sizes_in s) p b).some xs at in
          let given : map entry_of xs ≡ es = cc in
          let same : xs ≡ map entry_in es = sym (same_entries xs) ∙ ap (map entry_in) given in
          subst (λ l. IsSealed b l × Each (Fits (sizes_in s) p) l) same (found.sealed, found.fits)

  -- and what isn't, is none
  ends : (es : List BlobEntryIndex) → entries_at s p b ≡ None → IsSealed b es → Each (Fits (sizes_in s) p) es → ⊥
  ends es is sealed fits = go (index_at (sizes_in s) p b) refl is
    where
      go : (o : Option (List BlobEntryIndex)) → index_at (sizes_in s) p b ≡ o → option_map (map entry_of) o ≡ None → ⊥
      go None at none = (judged (sizes_in s) p b).none at es (record { sealed = sealed; fits = fits })
      go (Some xs) at bad = absurd (cc)

pub core_format : (is_key is_value : List ℕ → Bool) (s : Settings) (sound : AreValid s) → IsFormat (rules_of is_key is_value s sound)
core_format is_key is_value s sound = record {
  sizes = record { pages = sound.whole_index; some = sound.some_index; order = sound.room };
  pages = λ n. refl;
  writes = λ p. refl;
  lists = λ p b es is. lists s p b es is;
  ends = λ p b es is sealed fits. ends s p b es is sealed fits;
}

pub restart_lem : (is_key is_value : List ℕ → Bool) (s : Settings) (sound : AreValid s)
    → FindsAgain (rules_of is_key is_value s sound) (layout s) (IsEncoded is_key is_value)
restart_lem is_key is_value s sound = laid_restart_law_lem (rules_of is_key is_value s sound) (IsEncoded is_key is_value)
    (core_format is_key is_value s sound) sound.offsets_fit (demands is_key is_value s sound).trips

pub restart_idle_lem : (is_key is_value : List ℕ → Bool) (s : Settings) (sound : AreValid s)
    → FindsAll (rules_of is_key is_value s sound) (layout s) (IsEncoded is_key is_value)
restart_idle_lem is_key is_value s sound = laid_idle_law_lem (rules_of is_key is_value s sound) (IsEncoded is_key is_value)
    (core_format is_key is_value s sound) sound.offsets_fit (demands is_key is_value s sound).trips

pub restart_newest_lem : (is_key is_value : List ℕ → Bool) (s : Settings) (sound : AreValid s)
    → KeepsNewest (rules_of is_key is_value s sound) (layout s) (IsEncoded is_key is_value)
restart_newest_lem is_key is_value s sound = laid_newest_law_lem (rules_of is_key is_value s sound) (IsEncoded is_key is_value)
    (core_format is_key is_value s sound) sound.offsets_fit (demands is_key is_value s sound).trips
