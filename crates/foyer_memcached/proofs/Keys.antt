-- Whether a word is too long for a key, and whether the last is an HTTP version, one word at a time.
use Rattle.std.proofs.Common.{◌≡◌, ℕ, ◌<◌, ◌≤◌, Bool, true, false, cond, List, [], ◌∷◌, length, sym, ap, ◌∙◌}
use Rattle.std.proofs.lemmas.Bool.{le-ltb, lt-ltb}
use Rattle.foyer_memcached.specs.Lines.{any_long, begins_http, ends_http}

pub long_first : (ws rest : List (List ℕ)) (w : List ℕ) → ws ≡ w ∷ rest → 250 < length w → any_long ws ≡ true
unfolding any_long
long_first ws rest w e long = ap any_long e ∙ ap (λ (t : Bool). cond t true (any_long rest)) (lt-ltb 250 (length w) long)

pub short_first : (ws rest : List (List ℕ)) (w : List ℕ) → ws ≡ w ∷ rest → length w ≤ 250 → any_long ws ≡ any_long rest
unfolding any_long
short_first ws rest w e short = ap any_long e ∙ ap (λ (t : Bool). cond t true (any_long rest)) (le-ltb 250 (length w) short)

pub none_long : (ws : List (List ℕ)) → ws ≡ [] → any_long ws ≡ false
unfolding any_long
none_long ws e = ap any_long e

pub http_first : (before : Bool) (ws rest : List (List ℕ)) (w : List ℕ) (next : Bool) → ws ≡ w ∷ rest → next ≡ begins_http w → ends_http before ws ≡ ends_http next rest
unfolding ends_http
http_first before ws rest w next e is = ap (ends_http before) e ∙ ap (λ (t : Bool). ends_http t rest) (sym is)

pub http_last : (before : Bool) (ws : List (List ℕ)) → ws ≡ [] → ends_http before ws ≡ before
unfolding ends_http
http_last before ws e = ap (ends_http before) e
