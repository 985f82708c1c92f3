-- A record between the bytes before it and those behind it.
use Rattle.std.proofs.Common.{◌≡◌, ℕ, ◌+◌, ◌-◌, ◌≤◌, List, ◌++◌, take, drop, length, sym, ap, ◌∙◌, arith}
use Rattle.std.proofs.lemmas.List.{length-append, length-take-le, drop_at, drop-drop, take-take, take-append-le}
use Rattle.std.proofs.Math.Seq.{take-append-add}
use borrow.Rule.Slice.PartMut.{put_mid}

-- the bytes from start to end, after 36 of them were written
pub written_part : (old buf : List ℕ) (start end m : ℕ) → start + 36 + m ≡ end → end ≤ length old → length buf ≡ 36
    → drop start (take end (put_mid start (start + 36 - start) old buf)) ≡ buf ++ take m (drop (start + 36) old)
written_part old buf start end m total within len =
    let front : List ℕ = take start old in
    let behind : List ℕ = drop (start + 36 - start) (drop start old) in
    let front_len : length front ≡ start = length-take-le start old (omega arith) in
    let ends : end ≡ length front + (length buf + m) = omega arith in
    let same : behind ≡ drop (start + 36) old = drop-drop (start + 36 - start) start old ∙ ap (λ k. drop k old) (omega arith) in
    let cut : take end (front ++ (buf ++ behind)) ≡ front ++ (buf ++ take m behind) =
    ap (λ k. take k (front ++ (buf ++ behind))) ends ∙ take-append-add front (buf ++ behind) (length buf + m)
    ∙ ap (λ t. front ++ t) (take-append-add buf behind m) in
    ap (drop start) cut ∙ drop_at front (buf ++ take m behind) start front_len ∙ ap (λ t. buf ++ take m t) same

-- how far is written after bytes were appended
pub appended_len : (e w : ℕ) (made old xs : List ℕ) → e ≤ length made → w ≤ length old → take e made ≡ take w old ++ xs → e ≡ w + length xs
appended_len e w made old xs low within is =
    sym (length-take-le e made low) ∙ ap length is ∙ length-append (take w old) xs ∙ ap (λ (k : ℕ). k + length xs) (length-take-le w old within)

-- what stands before appended bytes stays
pub front_kept : (old made more : List ℕ) (a w e : ℕ) → take e made ≡ take w old ++ more → a ≤ w → w ≤ length old → e ≤ length made
    → take a made ≡ take a old
front_kept old made more a w e is low within ends =
    let len : e ≡ w + length more = appended_len e w made old more ends within is in
    let front : length (take w old) ≡ w = length-take-le w old within in
    let inner : take a made ≡ take a (take e made) = sym (take-take a e made (omega arith)) in
    let outer : take a (take w old ++ more) ≡ take a old =
    take-append-le a (take w old) more (omega arith) ∙ take-take a w old low in
    inner ∙ ap (take a) is ∙ outer
