-- Words in turn, each a setting's name, an equals sign and a value.
use Rattle.std.proofs.Common.{ℕ, ◌≡◌, ◌≢◌, ◌⊎◌, ◌==◌, ◌+◌, ◌<◌, ◌≤◌, List, [], ◌∷◌, ◌++◌, map, length, get_or, take, codes, refl, sym, ◌∙◌, ap, subst, ⊎_elim, Option, Some, None, MatchOption, arith}
use Rattle.std.specs.List.{after_first, before_first}
use Rattle.std.proofs.Math.Seq.{get_or-append_seam}
use Rattle.std.proofs.lemmas.List.{get_or-map, length-append, length-map, take_all, take_more}
use Rattle.foyer_cli.specs.Lines.{IsNumber}
use Rattle.foyer_pipe.specs.declared.options.PipeOptions.{PipeOptions}
use Rattle.foyer_pipe.specs.declared.options.Setting.{Setting}
use Rattle.foyer_pipe.specs.declared.options.Setting.TheVariants as setting
use Rattle.foyer_pipe.specs.Settings.{AreSettings, default_options, IsFirstBad, IsSetting, IsWord, setting_name}

-- a name and its value in a word that begins with the name and an equals sign
abbrev Parts : List ℕ → List ℕ → List ℕ → Type 0
Parts name text word = (before_first (λ b. b == 61) word ≡ name) × (after_first (λ b. b == 61) word ≡ text)

name_ends : (s : Setting) (text : List ℕ) → Parts (setting_name s) text (setting_name s ++ 61 ∷ text)
name_ends setting.Flushers text = (refl, refl)
name_ends setting.Reclaimers text = (refl, refl)
name_ends setting.Engines text = (refl, refl)
name_ends setting.Readers text = (refl, refl)
name_ends setting.WaitMs text = (refl, refl)
name_ends setting.Patience text = (refl, refl)
name_ends setting.Seed text = (refl, refl)
name_ends setting.Cores text = (refl, refl)
name_ends setting.Clean text = (refl, refl)
name_ends setting.Log text = (refl, refl)
name_ends setting.ReadBytes text = (refl, refl)
name_ends setting.WriteBytes text = (refl, refl)
name_ends setting.ReadCalls text = (refl, refl)
name_ends setting.WriteCalls text = (refl, refl)
name_ends setting.Key text = (refl, refl)
name_ends setting.Value text = (refl, refl)

recover_ends : (text : List ℕ) → Parts (codes "recover") text (codes "recover" ++ 61 ∷ text)
recover_ends text = (refl, refl)

-- a setting's name has no equals sign, so that it ends where the first one stands
ends : (name text : List ℕ) (old new : PipeOptions) → IsSetting name text old new → Parts name text (name ++ 61 ∷ text)
ends name text old new is = ⊎_elim
    (λ r. subst (λ n. Parts n text (n ++ 61 ∷ text)) (sym r.0) (recover_ends text))
    (λ r. subst (λ n. Parts n text (n ++ 61 ∷ text)) (sym r.2) (name_ends r.0 text))
    is

is_parted : (word name text : List ℕ) (old new : PipeOptions) → IsWord word old new → name ≡ before_first (λ b. b == 61) word → text ≡ after_first (λ b. b == 61) word → IsSetting name text old new
is_parted word name text old new is n t =
    let parts : Parts is.name is.text word = subst (Parts is.name is.text) (sym is.parts) (ends is.name is.text old new is.sets) in
    subst (λ x. IsSetting x text old new) (sym (n ∙ parts.0)) (subst (λ x. IsSetting is.name x old new) (sym (t ∙ parts.1)) is.sets)

pub no_word : (word : List ℕ) → ((i : ℕ) → i < length word → get_or word i 0 ≢ 61) → (old new : PipeOptions) → IsWord word old new → ⊥
no_word word lacks old new is = lacks (length is.name) (omega (arith, ap length is.parts, length-append is.name (61 ∷ is.text)))
    (ap (λ l. get_or l (length is.name) 0) is.parts ∙ get_or-append_seam is.name 61 is.text 0)

pub is_word : (word name text : List ℕ) (old : PipeOptions) (r : Option PipeOptions) → MatchOption r ((o : PipeOptions) → ¬ IsSetting name text old o) (IsSetting name text old)
    → name ≡ before_first (λ b. b == 61) word → text ≡ after_first (λ b. b == 61) word → word ≡ name ++ 61 ∷ text → MatchOption r ((o : PipeOptions) → ¬ IsWord word old o) (IsWord word old)
is_word word name text old None none n t parts = λ o is. none o (is_parted word name text old o is n t)
is_word word name text old (Some new) sets n t parts = record { name = name; text = text; parts = parts; sets = sets }

pub no_setting : (name text : List ℕ) (old : PipeOptions) → (name ≡ codes "recover" → ⊥) → ((n : ℕ) → IsNumber text n → ⊥) → (o : PipeOptions) → IsSetting name text old o → ⊥
no_setting name text old other none o is = ⊎_elim (λ r. other r.0) (λ r. none r.1 r.3) is

-- the text of a word
pub word_is : {X : Type 0} (f : X → List ℕ) (ws : List X) (w : X) (k : ℕ) (text : List ℕ) → w ≡ get_or ws k w → k < length ws → text ≡ f w → text ≡ get_or (map f ws) k []
word_is f ws w k text is one same = same ∙ ap f is ∙ sym (get_or-map f ws k w [] one)

settings-push : (words : List (List ℕ)) (word : List ℕ) (old before after : PipeOptions) → AreSettings old words before → IsWord word before after → AreSettings old (words ++ word ∷ []) after
unfolding AreSettings
settings-push [] word old before after are is = (after, subst (λ o. IsWord word o after) are is, refl)
settings-push (v ∷ words) word old before after are is = (are.0, are.1, settings-push words word are.0 before after are.2 is)

pub no_settings : (old : PipeOptions) → AreSettings old [] old
unfolding AreSettings
no_settings old = refl

pub settings-more : {X : Type 0} (f : X → List ℕ) (ws : List X) (w : X) (k : ℕ) (text : List ℕ) (old before after : PipeOptions)
    → AreSettings old (take k (map f ws)) before → w ≡ get_or ws k w → k < length ws → text ≡ f w → IsWord text before after → AreSettings old (take (k + 1) (map f ws)) after
settings-more f ws w k text old before after are is one same word =
    let within : k < length (map f ws) = rw length-map one in
    rw (take_more (map f ws) k [] within)
    (settings-push (take k (map f ws)) (get_or (map f ws) k []) old before after are (subst (λ t. IsWord t before after) (word_is f ws w k text is one same) word))

pub settings-all : {X : Type 0} (f : X → List ℕ) (ws : List X) (k : ℕ) (old after : PipeOptions) → AreSettings old (take k (map f ws)) after → length ws ≤ k → AreSettings old (map f ws) after
settings-all f ws k old after are whole =
    let all : length (map f ws) ≤ k = rw length-map whole in
    rw (take_all k (map f ws) all) at are

pub first_bad : (words : List (List ℕ)) (k place : ℕ) (text : List ℕ) (o : PipeOptions) → k < length words → AreSettings default_options (take k words) o → text ≡ get_or words k []
    → ((new : PipeOptions) → ¬ IsWord text o new) → place ≡ k → IsFirstBad words place
first_bad words k place text o one before is bad at = subst (IsFirstBad words) (sym at) (record { one = one; options = o; before = before; bad = subst (λ t. (new : PipeOptions) → ¬ IsWord t o new) is bad })
