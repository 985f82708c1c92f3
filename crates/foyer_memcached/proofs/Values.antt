-- A value that stands behind its line.
use Rattle.std.proofs.Common.{◌≡◌, ℕ, ◌+◌, ◌≤◌, Bool, cond, Option, List, [], ◌∷◌, length, take, drop, Ok, refl, sym, ap, ◌∙◌}
use Rattle.std.proofs.lemmas.Bool.{le-ltb}
use Rattle.std.proofs.lemmas.List.{drop-drop}
use Rattle.foyer_memcached.specs.declared.command.Limits.{Limits}
use Rattle.foyer_memcached.specs.declared.command.Refusal.{Refusal}
use Rattle.foyer_memcached.specs.declared.command.Refusal.TheVariants.{BadChunk}
use Rattle.foyer_memcached.specs.Asked.{Asked, Flagged, Storing, Data, Bad}
use Rattle.foyer_memcached.specs.Command.{after_line, item_len, stored_as}
use Rattle.foyer_memcached.specs.Lines.{is, refusal_for}

pub value_read : (limits : Limits) (s : Storing) (f : Option Flagged) (rest : List ℕ) (t : Bool) → item_len s ≤ limits.item → s.len + 2 ≤ length rest → is (take 2 (drop s.len rest)) (13 ∷ (10 ∷ [])) ≡ t
    → after_line limits (Data s f) rest ≡ Ok (cond t (stored_as s f (take s.len rest)) (Bad (refusal_for s.is_quiet BadChunk)), drop 2 (drop s.len rest))
value_read limits s f rest t few long e = rw (le-ltb limits.item (item_len s) few, le-ltb (length rest) (s.len + 2) long, e, drop-drop 2 s.len rest) refl

pub value_parts : (limits : Limits) (s : Storing) (f : Option Flagged) (rest : List ℕ) (t : Bool) → item_len s ≤ limits.item → s.len + 2 ≤ length rest
    → (front behind end last crlf : List ℕ) (refusal : Refusal) (command : Asked) → front ≡ take s.len rest → behind ≡ drop s.len rest → end ≡ take 2 behind → last ≡ drop 2 behind → crlf ≡ 13 ∷ (10 ∷ []) → refusal ≡ refusal_for s.is_quiet BadChunk → command ≡ stored_as s f front → is end crlf ≡ t
    → after_line limits (Data s f) rest ≡ Ok (cond t command (Bad refusal), last)
value_parts limits s f rest t few long front behind end last crlf refusal command ef eb ee el ec er es et =
    let test : is (take 2 (drop s.len rest)) (13 ∷ (10 ∷ [])) ≡ t =
    ap (λ (b : List ℕ). is (take 2 b) (13 ∷ (10 ∷ []))) (sym eb) ∙ ap (λ (b : List ℕ). is b (13 ∷ (10 ∷ []))) (sym ee) ∙ ap (is end) (sym ec) ∙ et in
    value_read limits s f rest t few long test ∙ (rw (es, ef, el, eb, er) refl)
