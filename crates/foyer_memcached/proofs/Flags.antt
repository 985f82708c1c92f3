-- The flags of a meta command, one word at a time.
use Rattle.std.proofs.Common.{◌≡◌, ◌≢◌, ℕ, Bool, true, false, cond, List, [], ◌∷◌, Result, Ok, Err, sym, ap, ◌∙◌}
use Rattle.std.proofs.lemmas.Bool.{ne_eqb, eq-eqb}
use Rattle.foyer_memcached.specs.declared.command.Refusal.{Refusal}
use Rattle.foyer_memcached.specs.declared.command.Refusal.TheVariants.{RepeatedFlag}
use Rattle.foyer_memcached.specs.declared.meta.Options.{Options}
use Rattle.foyer_memcached.specs.Meta.{any_begins, letter, option_of, options_from}
use Rattle.foyer_memcached.specs.Steps.{◌>>=◌}

pub begins_here : (b : ℕ) (ws rest : List (List ℕ)) (w : List ℕ) (l : ℕ) → ws ≡ w ∷ rest → l ≡ letter w → l ≡ b → any_begins b ws ≡ true
unfolding any_begins
begins_here b ws rest w l e is same = ap (any_begins b) e ∙ ap (λ (t : Bool). cond t true (any_begins b rest)) (eq-eqb (letter w) b (sym is ∙ same))

pub begins_later : (b : ℕ) (ws rest : List (List ℕ)) (w : List ℕ) (l : ℕ) → ws ≡ w ∷ rest → l ≡ letter w → l ≢ b → any_begins b ws ≡ any_begins b rest
unfolding any_begins
begins_later b ws rest w l e is other = ap (any_begins b) e ∙ ap (λ (t : Bool). cond t true (any_begins b rest)) (ne_eqb (letter w) b (λ same. other (is ∙ same)))

pub begins_nowhere : (b : ℕ) (ws : List (List ℕ)) → ws ≡ [] → any_begins b ws ≡ false
unfolding any_begins
begins_nowhere b ws e = ap (any_begins b) e

-- ---- what they say

pub comes_again : (o : Options) (ws rest : List (List ℕ)) (w : List ℕ) (l : ℕ) (t : Bool) → ws ≡ w ∷ rest → l ≡ letter w → t ≡ any_begins l rest → t ≡ true → options_from o ws ≡ Err RepeatedFlag
unfolding options_from
comes_again o ws rest w l t e is found so =
    let again : any_begins (letter w) rest ≡ true = ap (λ (b : ℕ). any_begins b rest) (sym is) ∙ sym found ∙ so in
    ap (options_from o) e ∙ ap (λ (u : Bool). cond {A = Result Options Refusal} u (Err RepeatedFlag) (option_of o w >>= λ p. options_from p rest)) again

once : (o : Options) (ws rest : List (List ℕ)) (w : List ℕ) (l : ℕ) (t : Bool) → ws ≡ w ∷ rest → l ≡ letter w → t ≡ any_begins l rest → t ≡ false → options_from o ws ≡ (option_of o w >>= λ p. options_from p rest)
unfolding options_from
once o ws rest w l t e is found not_so =
    let never : any_begins (letter w) rest ≡ false = ap (λ (b : ℕ). any_begins b rest) (sym is) ∙ sym found ∙ not_so in
    ap (options_from o) e ∙ ap (λ (u : Bool). cond {A = Result Options Refusal} u (Err RepeatedFlag) (option_of o w >>= λ p. options_from p rest)) never

pub next_option : (o p : Options) (ws rest : List (List ℕ)) (w : List ℕ) (l : ℕ) (t : Bool) → ws ≡ w ∷ rest → l ≡ letter w → t ≡ any_begins l rest → t ≡ false → Ok p ≡ option_of o w → options_from o ws ≡ options_from p rest
next_option o p ws rest w l t e is found not_so read = once o ws rest w l t e is found not_so ∙ ap (λ (r : Result Options Refusal). r >>= λ p. options_from p rest) (sym read)

pub no_option : (o : Options) (r : Refusal) (ws rest : List (List ℕ)) (w : List ℕ) (l : ℕ) (t : Bool) → ws ≡ w ∷ rest → l ≡ letter w → t ≡ any_begins l rest → t ≡ false → Err r ≡ option_of o w → options_from o ws ≡ Err r
no_option o r ws rest w l t e is found not_so read = once o ws rest w l t e is found not_so ∙ ap (λ (r : Result Options Refusal). r >>= λ p. options_from p rest) (sym read)

pub no_more : (o : Options) (ws : List (List ℕ)) → ws ≡ [] → options_from o ws ≡ Ok o
unfolding options_from
no_more o ws e = ap (options_from o) e
