-- What flags tell, one word at a time.
use Rattle.std.proofs.Common.{◌≡◌, ℕ, List, [], ◌∷◌, ◌++◌, sym, ap, ◌∙◌, append_assoc}
use Rattle.std.proofs.lemmas.List.{append-nil}
use Rattle.foyer_memcached.specs.declared.meta.Options.{Options}
use Rattle.foyer_memcached.specs.declared.meta_reply.Facts.{Facts}
use Rattle.foyer_memcached.specs.Meta.{letter}
use Rattle.foyer_memcached.specs.MetaReply.{after_flag, flag_text, flags_text}

pub one_more : (now : ℕ) (o : Options) (key : List ℕ) (f g : Facts) (ws rest : List (List ℕ)) (w : List ℕ) (l : ℕ) (old new : List ℕ)
    → ws ≡ w ∷ rest → l ≡ letter w → new ≡ old ++ flag_text l now o.is_binary key f w → g ≡ after_flag now o.expiry l f
    → new ++ flags_text now o key g rest ≡ old ++ flags_text now o key f ws
unfolding flags_text
one_more now o key f g ws rest w l old new e is added after =
    let text : List ℕ = flag_text (letter w) now o.is_binary key f w in
    let first : new ≡ old ++ text = added ∙ ap (λ (b : ℕ). old ++ flag_text b now o.is_binary key f w) is in
    let next : g ≡ after_flag now o.expiry (letter w) f = after ∙ ap (λ (b : ℕ). after_flag now o.expiry b f) is in
    ap (λ (n : List ℕ). n ++ flags_text now o key g rest) first
    ∙ ap (λ (h : Facts). (old ++ text) ++ flags_text now o key h rest) next
    ∙ append_assoc old text (flags_text now o key (after_flag now o.expiry (letter w) f) rest)
    ∙ ap (λ (vs : List (List ℕ)). old ++ flags_text now o key f vs) (sym e)

pub no_more : (now : ℕ) (o : Options) (key : List ℕ) (f : Facts) (ws : List (List ℕ)) (old : List ℕ) → ws ≡ [] → old ++ flags_text now o key f ws ≡ old
unfolding flags_text
no_more now o key f ws old e = ap (λ (vs : List (List ℕ)). old ++ flags_text now o key f vs) e ∙ append-nil old
