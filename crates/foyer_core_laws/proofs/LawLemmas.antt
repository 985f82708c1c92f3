-- The demands of the laws, for every code and all sizes.
use Rattle.std.proofs.Common.{ℕ, Bool, false, List, [], None, refl}
use Rattle.foyer_core_model.specs.Laws.{Demands}
use Rattle.foyer_core_model.specs.Layout.{PlacesAll}
use Rattle.foyer_core_restart.specs.LayoutSplits.{AreRules}
use Rattle.foyer_core_restart.proofs.GreedyLemmas as greedy
use Rattle.foyer_core_restart.proofs.KeepsLemmas as keeps
use Rattle.foyer_core_laws.specs.Content.{Meaning}
use Rattle.foyer_core_laws.specs.CoreRules.{rules_of, layout, IsEncoded}
use Rattle.foyer_core_settings.specs.Sizes.{AreValid}
use Rattle.foyer_core_settings.specs.declared.settings.Settings.{Settings}
use Rattle.foyer_core_laws.proofs.TripLemmas.{round_trip}

-- the rules of a core take whole pages, and each part its two writes
pub are_rules : (is_key is_value : List ℕ → Bool) (s : Settings) (sound : AreValid s) → AreRules (rules_of is_key is_value s sound)
are_rules is_key is_value s sound = record {
  pages = λ n. refl;
  writes = λ p. refl;
}

-- the demands don't depend on the types of keys and values
abbrev any_meaning : (is_key is_value : List ℕ → Bool) → Meaning ℕ ℕ ℕ
any_meaning is_key is_value = record {
  key_of = λ k. [];
  value_of = λ v. [];
  is_encodable = λ k v. false;
  is_key = is_key;
  is_value = is_value;
  age_of = λ p. None;
}

pub demands : (is_key is_value : List ℕ → Bool) (s : Settings) (sound : AreValid s)
    → Demands (rules_of is_key is_value s sound) (layout s) (IsEncoded is_key is_value)
demands is_key is_value s sound = record {
  trips = round_trip (any_meaning is_key is_value) s sound;
  places = keeps.keeps_records (rules_of is_key is_value s sound) (are_rules is_key is_value s sound);
}

pub places : (is_key is_value : List ℕ → Bool) (s : Settings) (sound : AreValid s)
    → PlacesAll (rules_of is_key is_value s sound) (layout s)
places is_key is_value s sound = greedy.places_all (rules_of is_key is_value s sound) (are_rules is_key is_value s sound) sound.offsets_fit
