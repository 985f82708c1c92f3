-- What is found at the front of bytes, whatever follows them, and what a stream has left.
use Rattle.std.proofs.Common.{◌≡◌, ◌≢◌, ℕ, ◌+◌, ◌-◌, ◌<◌, ◌≤◌, Bool, true, false, cond, ltb, List, [], ◌++◌, length, take, drop, slice_range, Option, Some, None, Result, Ok, Err, refl, sym, ap, subst, ◌∙◌, append_assoc, arith, ◌⊎◌, inl, inr}
use Rattle.std.specs.Prelude.{slice_index, IsTrue}
use Rattle.std.specs.Io.KnownBytes.{Keeps, Consumes, prepend_known}
use Rattle.std.proofs.lemmas.Bool.{ltb-false, le-ltb, ltb-true, false≢true}
use Rattle.std.proofs.lemmas.List.{append-nil, length-append, length-drop, take-take, drop-drop, drop-take, length-take-le, drop-append-le, get_or_append_left}
use Rattle.foyer_frames.specs.declared.kind.Kind.{Kind}
use Rattle.foyer_frames.specs.declared.request.Fault.{Fault}
use Rattle.foyer_frames.specs.declared.request.Fault.TheVariants.{Short, UnknownKind, KeyTooLong, ValueTooLong, UnwantedKey, UnwantedValue}
use Rattle.foyer_frames.specs.declared.request.Head.{Head}
use Rattle.foyer_frames.specs.declared.request.Limits.{Limits}
use Rattle.foyer_frames.specs.Kind.{kind_of, has_key, has_value}
use Rattle.foyer_frames.specs.Numbers.{◌>>=◌, number_at}
use Rattle.foyer_frames.specs.Request.{Asked, key_limit, key_fault, value_limit, value_fault, head_of, head_at, body_at, request_at}
use Rattle.foyer_frames.specs.Stream.{with_head, Finds}
use Rattle.foyer_frames.specs.declared.frames.Next.TheVariants as next
use Rattle.std.specs.Prelude.{IfSome}
use Rattle.std.specs.Io.KnownBytes.{IsAtEnd}
use Rattle.foyer_frames.proofs.Fields.{guard_ok, number_more, bind_ok}
use Rattle.foyer_frames.proofs.Requests.{long_enough, head_fields, body_takes, body_again}

-- ---- steps that failed

bind_err : {A B : Type 0} (r : Result A Fault) (f : A → Result B Fault) (d : Fault) → (r >>= f) ≡ Err d → (r ≡ Err d) ⊎ ((x : A) × (r ≡ Ok x) × (f x ≡ Err d))
bind_err (Ok x) f d e = inr (x, refl, e)
bind_err (Err d') f d e = inl (fault_of d' d e)
  where
    fault_of : {A B : Type 0} (d' d : Fault) → ◌≡◌ {A = Result B Fault} (Err d') (Err d) → ◌≡◌ {A = Result A Fault} (Err d') (Err d)
    fault_of d' d e = cc

cond_err : {A : Type 0} (b : Bool) (d' : Fault) (x : Result A Fault) (d : Fault) → cond b (Err d') x ≡ Err d → ((b ≡ true) × (d' ≡ d)) ⊎ ((b ≡ false) × (x ≡ Err d))
cond_err true d' x d e = inl (refl, cc)
cond_err false d' x d e = inr (refl, e)

ok_not_err : {A : Type 0} (x : A) (d : Fault) → ◌≡◌ {A = Result A Fault} (Ok x) (Err d) → ⊥
ok_not_err x d e = cc

key_fault-not : (b : Bool) → cond b KeyTooLong UnwantedKey ≡ Short → ⊥
key_fault-not true e = cc
key_fault-not false e = cc

value_fault-not : (b : Bool) → cond b ValueTooLong UnwantedValue ≡ Short → ⊥
value_fault-not true e = cc
value_fault-not false e = cc

-- what has all of its fields isn't short
head_of-not : (limits : Limits) (o : Option Kind) (n k v : ℕ) → head_of limits o n k v ≡ Err Short → ⊥
head_of-not limits None n k v e = absurd (unknown e)
  where
    unknown : ◌≡◌ {A = Result Head Fault} (Err UnknownKind) (Err Short) → ⊥
    unknown e = cc
head_of-not limits (Some kind) n k v e =
    let made : Head = record { kind = kind; number = n; key_len = k; value_len = v } in
    elim (cond_err (ltb (key_limit limits kind) k) (key_fault kind) (cond (ltb (value_limit limits kind) v) (Err (value_fault kind)) (Ok made)) Short e) [
      | inl p ↦ key_fault-not (has_key kind) p.1
      | inr p ↦
          elim (cond_err (ltb (value_limit limits kind) v) (value_fault kind) (Ok made) Short p.1) [
            | inl q ↦ value_fault-not (has_value kind) q.1
            | inr q ↦ ok_not_err made Short q.1
          ]
    ]

-- ---- a frame that isn't whole

small : (b : Bool) (n : ℕ) → cond b n 0 ≤ n
small true n = omega arith
small false n = omega arith

-- the request at the front of bytes whose head is known
pub from_head : (limits : Limits) (bytes : List ℕ) (h : Head) → head_at limits bytes ≡ Ok h → request_at limits bytes ≡ body_at h (drop 13 bytes)
unfolding request_at
from_head limits bytes h e = ap (λ (r : Result Head Fault). r >>= λ head. body_at head (drop 13 bytes)) e

from_fault : (limits : Limits) (bytes : List ℕ) (d : Fault) → head_at limits bytes ≡ Err d → request_at limits bytes ≡ Err d
unfolding request_at
from_fault limits bytes d e = ap (λ (r : Result Head Fault). r >>= λ head. body_at head (drop 13 bytes)) e

pub fault_cases : (limits : Limits) (bytes : List ℕ) (d : Fault) → request_at limits bytes ≡ Err d → (head_at limits bytes ≡ Err d) ⊎ ((h : Head) × (head_at limits bytes ≡ Ok h) × (body_at h (drop 13 bytes) ≡ Err d))
unfolding request_at
fault_cases limits bytes d e = bind_err (head_at limits bytes) (λ head. body_at head (drop 13 bytes)) d e

body_short : (h : Head) (body : List ℕ) (n : ℕ) → length body ≡ n → (IsTrue (ltb n (h.key_len + h.value_len)) → body_at h body ≡ Err Short) × (body_at h body ≡ Err Short → IsTrue (ltb n (h.key_len + h.value_len)))
body_short h body n e =
    subst (λ (m : ℕ). (IsTrue (ltb m (h.key_len + h.value_len)) → body_at h body ≡ Err Short) × (body_at h body ≡ Err Short → IsTrue (ltb m (h.key_len + h.value_len)))) e
    (go (ltb (length body) (h.key_len + h.value_len)) (with_head h (take h.key_len body) (take h.value_len (drop h.key_len body)), drop h.value_len (drop h.key_len body)))
  where
    go : (t : Bool) (x : Asked × List ℕ) → (IsTrue t → ◌≡◌ {A = Result (Asked × List ℕ) Fault} (cond t (Err Short) (Ok x)) (Err Short)) × (◌≡◌ {A = Result (Asked × List ℕ) Fault} (cond t (Err Short) (Ok x)) (Err Short) → IsTrue t)
    go true x = (λ _. refl, λ _. refl)
    go false x = (λ f. absurd (false≢true f), λ e. absurd (ok_not_err x Short e))

pub is_short : (limits : Limits) (bytes : List ℕ) (h : Head) (n : ℕ) → head_at limits bytes ≡ Ok h → length bytes ≡ n
    → (IsTrue (ltb (n - 13) (h.key_len + h.value_len)) → request_at limits bytes ≡ Err Short) × (request_at limits bytes ≡ Err Short → IsTrue (ltb (n - 13) (h.key_len + h.value_len)))
is_short limits bytes h n e len =
    let b = body_short h (drop 13 bytes) (n - 13) (length-drop 13 bytes ∙ ap (λ (m : ℕ). m - 13) len) in
    (λ t. from_head limits bytes h e ∙ b.0 t, λ s. b.1 (sym (from_head limits bytes h e) ∙ s))

-- it is shorter than the limits
pub short_below : (limits : Limits) (bytes : List ℕ) → request_at limits bytes ≡ Err Short → length bytes < 13 + (limits.key + limits.value)
short_below limits bytes e =
    elim (fault_cases limits bytes Short e) [
      | inl p ↦
          elim (cond_err (ltb (length bytes) 13) Short (head_of limits (kind_of (slice_index bytes 0)) (number_at 1 bytes) (number_at 5 bytes) (number_at 9 bytes)) Short p) [
            | inl q ↦ few (ltb-true (length bytes) 13 q.0)
            | inr q ↦ absurd (head_of-not limits (kind_of (slice_index bytes 0)) (number_at 1 bytes) (number_at 5 bytes) (number_at 9 bytes) q.1)
          ]
      | inr p ↦ under p.0 p.1 p.2
    ]
  where
    few : length bytes < 13 → length bytes < 13 + (limits.key + limits.value)
    few lt = omega arith

    under : (h : Head) → head_at limits bytes ≡ Ok h → body_at h (drop 13 bytes) ≡ Err Short → length bytes < 13 + (limits.key + limits.value)
    under h eh eb =
        let long : 13 ≤ length bytes = long_enough limits bytes h eh in
        let g = guard_ok (ltb (length bytes) 13) Short (head_of limits (kind_of (slice_index bytes 0)) (number_at 1 bytes) (number_at 5 bytes) (number_at 9 bytes)) h eh in
        let f = head_fields limits (kind_of (slice_index bytes 0)) (number_at 1 bytes) (number_at 5 bytes) (number_at 9 bytes) h g.1 in
        let k : h.key_len ≤ key_limit limits h.kind = f.key in
        let v : h.value_len ≤ value_limit limits h.kind = f.value in
        let kl : key_limit limits h.kind ≤ limits.key = small (has_key h.kind) limits.key in
        let vl : value_limit limits h.kind ≤ limits.value = small (has_value h.kind) limits.value in
        let t : length (drop 13 bytes) < h.key_len + h.value_len = ltb-true _ _ ((body_short h (drop 13 bytes) (length (drop 13 bytes)) refl).1 eb) in
        let d : length (drop 13 bytes) ≡ length bytes - 13 = length-drop 13 bytes in
        omega arith

-- ---- whatever follows

head_more : (limits : Limits) (xs ys : List ℕ) → 13 ≤ length xs → head_at limits (xs ++ ys) ≡ head_at limits xs
head_more limits xs ys long =
    same (ltb (length (xs ++ ys)) 13) (ltb (length xs) 13) (slice_index (xs ++ ys) 0) (slice_index xs 0) (number_at 1 (xs ++ ys)) (number_at 1 xs) (number_at 5 (xs ++ ys)) (number_at 5 xs) (number_at 9 (xs ++ ys)) (number_at 9 xs)
    (le-ltb _ _ (omega (arith, length-append xs ys)) ∙ sym (le-ltb _ _ long)) (get_or_append_left xs ys 0 0 (omega arith))
    (number_more 1 xs ys (omega arith)) (number_more 5 xs ys (omega arith)) (number_more 9 xs ys (omega arith))
  where
    same : (t t' : Bool) (b b' n n' k k' v v' : ℕ) → t ≡ t' → b ≡ b' → n ≡ n' → k ≡ k' → v ≡ v' → cond t (Err Short) (head_of limits (kind_of b) n k v) ≡ cond t' (Err Short) (head_of limits (kind_of b') n' k' v')
    same t t' b b' n n' k k' v v' et eb en ek ev = rw (et, eb, en, ek, ev) refl

body_more : (h : Head) (body more : List ℕ) (x : Asked × List ℕ) → body_at h body ≡ Ok x → body_at h (body ++ more) ≡ Ok (x.0, x.1 ++ more)
body_more h body more x e =
    let b = body_takes h body x e in
    let longer : body ++ more ≡ x.0.key ++ (x.0.value ++ (x.1 ++ more)) = ap (λ (t : List ℕ). t ++ more) b.4 ∙ append_assoc x.0.key (x.0.value ++ x.1) more ∙ ap (λ (t : List ℕ). x.0.key ++ t) (append_assoc x.0.value x.1 more) in
    ap (body_at h) longer ∙ body_again h x.0.key x.0.value (x.1 ++ more) b.2 b.3 ∙ ap (λ (a : Asked). Ok (a, x.1 ++ more)) (whole x.0 h.kind h.number b.0 b.1)
  where
    whole : (a : Asked) (k : Kind) (n : ℕ) → a.kind ≡ k → a.number ≡ n → record { kind = k; number = n; key = a.key; value = a.value } ≡ a
    whole a k n ek en = rw (← ek, ← en) refl

-- a request that was read is read whatever follows
pub more_ok : (limits : Limits) (xs ys : List ℕ) (x : Asked × List ℕ) → request_at limits xs ≡ Ok x → request_at limits (xs ++ ys) ≡ Ok (x.0, x.1 ++ ys)
unfolding request_at
more_ok limits xs ys x e =
    let a = bind_ok (head_at limits xs) (λ head. body_at head (drop 13 xs)) x e in
    let long : 13 ≤ length xs = long_enough limits xs a.0 a.1 in
    from_head limits (xs ++ ys) a.0 (head_more limits xs ys long ∙ a.1) ∙ ap (body_at a.0) (drop-append-le 13 xs ys long) ∙ body_more a.0 (drop 13 xs) ys x a.2

-- and what is refused is refused whatever follows
pub more_err : (limits : Limits) (xs ys : List ℕ) (d : Fault) → request_at limits xs ≡ Err d → (d ≢ Short) → request_at limits (xs ++ ys) ≡ Err d
more_err limits xs ys d e not =
    elim (fault_cases limits xs d e) [
      | inl p ↦
          elim (cond_err (ltb (length xs) 13) Short (head_of limits (kind_of (slice_index xs 0)) (number_at 1 xs) (number_at 5 xs) (number_at 9 xs)) d p) [
            | inl q ↦ absurd (not (sym q.1))
            | inr q ↦ from_fault limits (xs ++ ys) d (head_more limits xs ys (ltb-false (length xs) 13 q.0) ∙ p)
          ]
      | inr p ↦ absurd (body_fault p.0 (drop 13 xs) p.2)
    ]
  where
    body_fault : (h : Head) (body : List ℕ) → body_at h body ≡ Err d → ⊥
    body_fault h body e =
        let made : Asked × List ℕ = (with_head h (take h.key_len body) (take h.value_len (drop h.key_len body)), drop h.value_len (drop h.key_len body)) in
        elim (cond_err (ltb (length body) (h.key_len + h.value_len)) Short (Ok made) d e) [
          | inl q ↦ not (sym q.1)
          | inr q ↦ ok_not_err made d q.1
        ]

-- ---- parts of a buffer

pub held_len : (xs : List ℕ) (s e : ℕ) → s ≤ e → e ≤ length xs → length (slice_range xs s e) ≡ e - s
held_len xs s e le within = length-take-le (e - s) (drop s xs) (omega (arith, length-drop s xs))

pub consumed : (xs : List ℕ) (start end count : ℕ) → start + count ≤ end → drop count (slice_range xs start end) ≡ slice_range xs (start + count) end
consumed xs start end count inside =
    let parts : end - start ≡ count + (end - (start + count)) = omega arith in
    ap (λ (j : ℕ). drop count (take j (drop start xs))) parts ∙ drop-take count (end - (start + count)) (drop start xs)
    ∙ ap (λ (t : List ℕ). take (end - (start + count)) t) (drop-drop count start xs)

pub front : (xs : List ℕ) (start end count : ℕ) → start + count ≤ end → take count (slice_range xs start end) ≡ slice_range xs start (start + count)
front xs start end count inside =
    let parts : start + count - start ≡ count = omega arith in
    take-take count (end - start) (drop start xs) (omega arith) ∙ ap (λ (j : ℕ). take j (drop start xs)) (sym parts)

body_places : (h : Head) (body key rest value last : List ℕ) → ltb (length body) (h.key_len + h.value_len) ≡ false → take h.key_len body ≡ key → drop h.key_len body ≡ rest → take h.value_len rest ≡ value → drop h.value_len rest ≡ last
    → body_at h body ≡ Ok (with_head h key value, last)
body_places h body key rest value last long ek er ev el = rw (long, ek, er, ev, el) refl

-- where the parts of a frame lie in the buffer
pub places : (limits : Limits) (xs : List ℕ) (start end : ℕ) (h : Head) → start ≤ end → end ≤ length xs → head_at limits (slice_range xs start end) ≡ Ok h → h.key_len + h.value_len ≤ end - start - 13
    → request_at limits (slice_range xs start end) ≡ Ok (with_head h (slice_range xs (start + 13) (start + 13 + h.key_len)) (slice_range xs (start + 13 + h.key_len) (start + 13 + h.key_len + h.value_len)), slice_range xs (start + 13 + h.key_len + h.value_len) end)
places limits xs start end h ordered within eh fits =
    let len : length (slice_range xs start end) ≡ end - start = held_len xs start end ordered within in
    let long : 13 ≤ length (slice_range xs start end) = long_enough limits (slice_range xs start end) h eh in
    let body : drop 13 (slice_range xs start end) ≡ slice_range xs (start + 13) end = consumed xs start end 13 (omega arith) in
    let size : length (slice_range xs (start + 13) end) ≡ end - (start + 13) = held_len xs (start + 13) end (omega arith) within in
    from_head limits (slice_range xs start end) h eh ∙ ap (body_at h) body
    ∙ body_places h (slice_range xs (start + 13) end) _ (slice_range xs (start + 13 + h.key_len) end) _ _ (le-ltb _ _ (omega arith))
    (front xs (start + 13) end h.key_len (omega arith)) (consumed xs (start + 13) end h.key_len (omega arith))
    (front xs (start + 13 + h.key_len) end h.value_len (omega arith)) (consumed xs (start + 13 + h.key_len) end h.value_len (omega arith))

-- ---- known bytes

pub kept_consumed : (a b c : Option (List ℕ)) (bs : List ℕ) → Keeps a b → Consumes b c bs → Consumes a c bs
kept_consumed None b c bs k h = tt
kept_consumed (Some xs) None c bs k h = absurd k
kept_consumed (Some xs) (Some ys) None bs k h = absurd h
kept_consumed (Some xs) (Some ys) (Some zs) bs k h = sym k ∙ h

-- what was read stands behind what was held
pub read_keeps : (a b : Option (List ℕ)) (old new more : List ℕ) → Consumes a b more → new ≡ old ++ more → Keeps (prepend_known old a) (prepend_known new b)
read_keeps None b old new more h e = tt
read_keeps (Some xs) None old new more h e = absurd h
read_keeps (Some xs) (Some ys) old new more h e = ap (λ (t : List ℕ). t ++ ys) e ∙ append_assoc old more ys ∙ ap (λ (t : List ℕ). old ++ t) (sym h)

pub same_keeps : (a b : Option (List ℕ)) (old new : List ℕ) → Keeps a b → new ≡ old → Keeps (prepend_known old a) (prepend_known new b)
same_keeps None b old new k e = tt
same_keeps (Some xs) None old new k e = absurd k
same_keeps (Some xs) (Some ys) old new k e = rw (e, k) refl

-- ---- what stands next

pub found_request : (limits : Limits) (old left : Option (List ℕ)) (held rest : List ℕ) (h : Head) (key value : List ℕ) → Keeps old (prepend_known held left) → request_at limits held ≡ Ok (with_head h key value, rest)
    → IfSome old (λ bytes. Finds limits bytes (next.Request h) key value (prepend_known rest left))
found_request limits None left held rest h key value k e = tt
found_request limits (Some xs) None held rest h key value k e = absurd k
found_request limits (Some xs) (Some ys) held rest h key value k e = (rest ++ ys, refl, ap (request_at limits) (sym k) ∙ more_ok limits held ys (with_head h key value, rest) e)

pub found_refused : (limits : Limits) (old left now : Option (List ℕ)) (held : List ℕ) (d : Fault) (key value : List ℕ) → Keeps old (prepend_known held left) → request_at limits held ≡ Err d → (d ≢ Short)
    → IfSome old (λ bytes. Finds limits bytes (next.Refused d) key value now)
found_refused limits None left now held d key value k e not = tt
found_refused limits (Some xs) None now held d key value k e not = absurd k
found_refused limits (Some xs) (Some ys) now held d key value k e not = (ap (request_at limits) (sym k) ∙ more_err limits held ys d e not, not)

pub found_end : (limits : Limits) (old left now : Option (List ℕ)) (held : List ℕ) (key value : List ℕ) → Keeps old (prepend_known held left) → held ≡ [] → IsAtEnd left
    → IfSome old (λ bytes. Finds limits bytes next.End key value now)
found_end limits None left now held key value k e end = tt
found_end limits (Some xs) None now held key value k e end = absurd k
found_end limits (Some xs) (Some ys) now held key value k e end = sym k ∙ ap (λ (t : List ℕ). t ++ ys) e ∙ end

pub found_cut : (limits : Limits) (old left now : Option (List ℕ)) (held : List ℕ) (key value : List ℕ) → Keeps old (prepend_known held left) → request_at limits held ≡ Err Short → 0 < length held → IsAtEnd left
    → IfSome old (λ bytes. Finds limits bytes next.Cut key value now)
found_cut limits None left now held key value k e some end = tt
found_cut limits (Some xs) None now held key value k e some end = absurd k
found_cut limits (Some xs) (Some ys) now held key value k e some end =
    let same : xs ≡ held = sym k ∙ ap (λ (t : List ℕ). held ++ t) end ∙ append-nil held in
    (ap (request_at limits) same ∙ e, subst (λ (t : List ℕ). 0 < length t) (sym same) some)
