-- Words in turn, as texts.
use Rattle.std.proofs.Common.{ℕ, ◌≡◌, ◌+◌, ◌-◌, ◌<◌, ◌≤◌, List, [], ◌∷◌, ◌++◌, map, length, get_or, take, drop, refl, sym, ◌∙◌, ap, subst, arith}
use Rattle.std.proofs.lemmas.List.{drop-map, get_or-drop, get_or-map, length-drop, length-map, take_all, take_more}
use Rattle.foyer_bench_stats.specs.declared.plan.Plan.{Plan}
use Rattle.foyer_bench_stats.specs.declared.settings.Setting.{Setting}
use Rattle.foyer_bench_stats.specs.declared.settings.Setting.TheVariants as setting
use Rattle.foyer_bench_stats.specs.declared.settings.Refusal.{Refusal}
use Rattle.foyer_bench_stats.specs.declared.settings.Refusal.TheVariants as refusal
use Rattle.foyer_bench_stats.specs.Settings.{IsNumberIn, IsRefusedWord, IsSetting, greatest_of, least_of}
use Rattle.foyer_bench_stats.specs.BenchPlans.{AreRefused, AreSettings, HasBounds, HasNoNumberIn, set_to, word_at}

-- the text of a word
pub word_is : {X : Type 0} (f : X → List ℕ) (ws : List X) (w : X) (k : ℕ) (text : List ℕ) → w ≡ get_or ws k w → k < length ws → text ≡ f w → text ≡ word_at (map f ws) k
word_is f ws w k text is one same = same ∙ ap f is ∙ sym (get_or-map f ws k w [] one)

-- the text of a word behind the first three
pub later_word_is : {X : Type 0} (f : X → List ℕ) (ws : List X) (w : X) (k : ℕ) (text : List ℕ) → w ≡ get_or (drop 3 ws) k w → 3 + k < length ws → text ≡ f w → text ≡ word_at (map f ws) (3 + k)
later_word_is f ws w k text is one same = word_is f ws w (3 + k) text (is ∙ get_or-drop 3 ws k w) one same

pub has_no_number : (words : List (List ℕ)) (k least greatest : ℕ) (text : List ℕ) → 3 ≤ length words → text ≡ word_at words k → ((n : ℕ) → ¬ IsNumberIn text least greatest n) → HasNoNumberIn words k least greatest
has_no_number words k least greatest text enough is none = (enough, subst (λ t. (n : ℕ) → ¬ IsNumberIn t least greatest n) is none)

pub number_at : (words : List (List ℕ)) (k least greatest n : ℕ) (text : List ℕ) → text ≡ word_at words k → IsNumberIn text least greatest n → IsNumberIn (word_at words k) least greatest n
number_at words k least greatest n text is number = subst (λ t. IsNumberIn t least greatest n) is number

pub settings-push : (plan : Plan) (words : List (List ℕ)) (word : List ℕ) (s : Setting) (number : ℕ) (before after : Plan) → AreSettings plan words before → IsSetting word s number → after ≡ set_to s number before → AreSettings plan (words ++ word ∷ []) after
unfolding AreSettings
settings-push plan [] word s number before after are is set = (s, number, is, set ∙ ap (set_to s number) are)
settings-push plan (v ∷ words) word s number before after are is set = (are.0, are.1, are.2, settings-push (set_to are.0 are.1 plan) words word s number before after are.3 is set)

pub no_settings : (plan : Plan) → AreSettings plan [] plan
unfolding AreSettings
no_settings plan = refl

pub settings-more : {X : Type 0} (f : X → List ℕ) (ws : List X) (w : X) (k : ℕ) (text : List ℕ) (s : Setting) (number : ℕ) (plan before after : Plan) → AreSettings plan (take k (map f ws)) before → w ≡ get_or ws k w → k < length ws → text ≡ f w → IsSetting text s number → after ≡ set_to s number before → AreSettings plan (take (k + 1) (map f ws)) after
settings-more f ws w k text s number plan before after are is one same setting set =
    let within : k < length (map f ws) = rw length-map one in
    rw (take_more (map f ws) k [] within)
    (settings-push plan (take k (map f ws)) (get_or (map f ws) k []) s number before after are (subst (λ t. IsSetting t s number) (word_is f ws w k text is one same) setting) set)

pub settings-all : {X : Type 0} (f : X → List ℕ) (ws : List X) (k : ℕ) (plan after : Plan) → AreSettings plan (take k (map f (drop 3 ws))) after → length (drop 3 ws) ≤ k → AreSettings plan (drop 3 (map f ws)) after
settings-all f ws k plan after are whole =
    let all : length (map f (drop 3 ws)) ≤ k = rw length-map whole in
    rw (drop-map f 3 ws) (rw (take_all k (map f (drop 3 ws)) all) at are)

bounds-kept : (s : Setting) (number : ℕ) (plan : Plan) → HasBounds plan → least_of s ≤ number → number ≤ greatest_of s → HasBounds (set_to s number plan)
bounds-kept setting.Calls number plan has low high = record { some_threads = has.some_threads; few_threads = has.few_threads; value_bytes = has.value_bytes; some_keys = has.some_keys; few_keys = has.few_keys; skew = has.skew }
bounds-kept setting.Keys number plan has low high = record { some_threads = has.some_threads; few_threads = has.few_threads; value_bytes = has.value_bytes; some_keys = low; few_keys = high; skew = has.skew }
bounds-kept setting.Skew number plan has low high = record { some_threads = has.some_threads; few_threads = has.few_threads; value_bytes = has.value_bytes; some_keys = has.some_keys; few_keys = has.few_keys; skew = high }
bounds-kept setting.Gets number plan has low high = record { some_threads = has.some_threads; few_threads = has.few_threads; value_bytes = has.value_bytes; some_keys = has.some_keys; few_keys = has.few_keys; skew = has.skew }
bounds-kept setting.Seed number plan has low high = record { some_threads = has.some_threads; few_threads = has.few_threads; value_bytes = has.value_bytes; some_keys = has.some_keys; few_keys = has.few_keys; skew = has.skew }
bounds-kept setting.Fill number plan has low high = record { some_threads = has.some_threads; few_threads = has.few_threads; value_bytes = has.value_bytes; some_keys = has.some_keys; few_keys = has.few_keys; skew = has.skew }
bounds-kept setting.Engines number plan has low high = record { some_threads = has.some_threads; few_threads = has.few_threads; value_bytes = has.value_bytes; some_keys = has.some_keys; few_keys = has.few_keys; skew = has.skew }
bounds-kept setting.Flushers number plan has low high = record { some_threads = has.some_threads; few_threads = has.few_threads; value_bytes = has.value_bytes; some_keys = has.some_keys; few_keys = has.few_keys; skew = has.skew }
bounds-kept setting.Recoverers number plan has low high = record { some_threads = has.some_threads; few_threads = has.few_threads; value_bytes = has.value_bytes; some_keys = has.some_keys; few_keys = has.few_keys; skew = has.skew }
bounds-kept setting.Cores number plan has low high = record { some_threads = has.some_threads; few_threads = has.few_threads; value_bytes = has.value_bytes; some_keys = has.some_keys; few_keys = has.few_keys; skew = has.skew }
bounds-kept setting.Patience number plan has low high = record { some_threads = has.some_threads; few_threads = has.few_threads; value_bytes = has.value_bytes; some_keys = has.some_keys; few_keys = has.few_keys; skew = has.skew }
bounds-kept setting.Through number plan has low high = record { some_threads = has.some_threads; few_threads = has.few_threads; value_bytes = has.value_bytes; some_keys = has.some_keys; few_keys = has.few_keys; skew = has.skew }
bounds-kept setting.Reinsert number plan has low high = record { some_threads = has.some_threads; few_threads = has.few_threads; value_bytes = has.value_bytes; some_keys = has.some_keys; few_keys = has.few_keys; skew = has.skew }

pub bounds-set : (s : Setting) (number : ℕ) (plan after : Plan) → HasBounds plan → least_of s ≤ number → number ≤ greatest_of s → after ≡ set_to s number plan → HasBounds after
bounds-set s number plan after has low high set = subst HasBounds (sym set) (bounds-kept s number plan has low high)

pub are_refused : (words : List (List ℕ)) (r : Refusal) (k : ℕ) (text : List ℕ) → 3 ≤ k → k < length words → text ≡ word_at words k → IsRefusedWord text r → AreRefused words r
are_refused words refusal.Missing k text behind one is refused = absurd refused
are_refused words refusal.Threads k text behind one is refused = absurd refused
are_refused words refusal.ValueBytes k text behind one is refused = absurd refused
are_refused words refusal.Seconds k text behind one is refused = absurd refused
are_refused words refusal.Unknown k text behind one is refused = (k, behind, one, subst (λ t. IsRefusedWord t refusal.Unknown) is refused)
are_refused words (refusal.Number s) k text behind one is refused = (k, behind, one, subst (λ t. IsRefusedWord t (refusal.Number s)) is refused)

pub rest_is : {X : Type 0} (ws : List X) → take (length ws - 3) (drop 3 ws) ≡ drop 3 ws
rest_is {X} ws = take_all (length ws - 3) (drop 3 ws) (omega (arith, length-drop 3 ws))
