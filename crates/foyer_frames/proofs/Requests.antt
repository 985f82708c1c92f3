-- A request that is read is the one that was written, and one that was written is read.
use Rattle.std.proofs.Common.{◌≡◌, ℕ, ◌+◌, ◌^◌, ◌<◌, ◌≤◌, Bool, true, false, cond, eqb, ltb, List, [], ◌∷◌, ◌++◌, length, take, drop, Option, Some, None, Result, Ok, Err, refl, sym, ap, subst, ◌∙◌, append_assoc, arith}
use Rattle.std.specs.Prelude.{IfOk, slice_index}
use Rattle.std.specs.Borrow.{Bor}
use Rattle.std.proofs.lemmas.Bool.{ltb-false, le-ltb, eqb-true}
use Rattle.std.proofs.lemmas.List.{take_at, drop_at, take-append-drop, length-append, length-drop, length-take-le}
use Rattle.std.proofs.lemmas.Nat.{from_le_bytes-to_le_bytes_4}
use Rattle.foyer_frames.specs.declared.kind.Kind.{Kind}
use Rattle.foyer_frames.specs.declared.kind.Kind.TheVariants.{Put, Get, Delete, Contains, Wait, Counters, Destroy, Close, Version}
use Rattle.foyer_frames.specs.declared.request.Fault.{Fault}
use Rattle.foyer_frames.specs.declared.request.Fault.TheVariants.{Short}
use Rattle.foyer_frames.specs.declared.request.Head.{Head}
use Rattle.foyer_frames.specs.declared.request.Limits.{Limits}
use Rattle.foyer_frames.specs.declared.request.Request.{Request}
use Rattle.foyer_frames.specs.Kind.{kind_byte, kind_of}
use Rattle.foyer_frames.specs.Numbers.{◌>>=◌, Reads, number_bytes, number_at}
use Rattle.foyer_frames.specs.Request.{Asked, Fits, IsReadAs, asked, request_bytes, key_limit, key_fault, value_limit, value_fault, head_of, head_at, body_at, request_at}
use Rattle.foyer_frames.proofs.Fields.{IsBytes, bind_ok, guard_ok, ok_is, four, number_fits}

-- ---- kinds

pub kind_again : (k : Kind) → kind_of (kind_byte k) ≡ Some k
kind_again Put = refl
kind_again Get = refl
kind_again Delete = refl
kind_again Contains = refl
kind_again Wait = refl
kind_again Counters = refl
kind_again Destroy = refl
kind_again Close = refl
kind_again Version = refl

some_is : (k j : Kind) → Some k ≡ Some j → k ≡ j
some_is k j e = cc

next_kind : (b : ℕ) (k j : Kind) (others : Option Kind) → (others ≡ Some j → b ≡ kind_byte j) → cond (eqb b (kind_byte k)) (Some k) others ≡ Some j → b ≡ kind_byte j
next_kind b k j others rest e = go (eqb b (kind_byte k)) refl e
  where
    go : (t : Bool) → eqb b (kind_byte k) ≡ t → cond t (Some k) others ≡ Some j → b ≡ kind_byte j
    go true is e = eqb-true _ _ is ∙ ap kind_byte (some_is k j e)
    go false is e = rest e

no_kind : (j : Kind) → None ≡ Some j → ⊥
no_kind j e = cc

pub kind_is : (b : ℕ) (j : Kind) → kind_of b ≡ Some j → b ≡ kind_byte j
kind_is b j =
    next_kind b Put j _ (next_kind b Get j _ (next_kind b Delete j _ (next_kind b Contains j _ (next_kind b Wait j _ (next_kind b Counters j _ (next_kind b Destroy j _ (next_kind b Close j _ (next_kind b Version j _ (λ e. absurd (no_kind j e))))))))))

-- ---- heads

-- the bytes begin with this head
pub record HasHead (limits : Limits) (bytes : List ℕ) (h : Head) : Type 0 where
  pub parts : bytes ≡ kind_byte h.kind ∷ (number_bytes h.number ++ (number_bytes h.key_len ++ (number_bytes h.value_len ++ drop 13 bytes)))
  pub number : h.number < 2 ^ 32
  pub key : h.key_len ≤ key_limit limits h.kind
  pub value : h.value_len ≤ value_limit limits h.kind
  pub key_width : h.key_len < 2 ^ 32
  pub value_width : h.value_len < 2 ^ 32

first : (bytes : List ℕ) → 0 < length bytes → bytes ≡ slice_index bytes 0 ∷ drop 1 bytes
first [] le = absurd (omega arith)
first (b ∷ bs) le = refl

pub long_enough : (limits : Limits) (bytes : List ℕ) (h : Head) → head_at limits bytes ≡ Ok h → 13 ≤ length bytes
long_enough limits bytes h e =
    ltb-false (length bytes) 13 (guard_ok (ltb (length bytes) 13) Short (head_of limits (kind_of (slice_index bytes 0)) (number_at 1 bytes) (number_at 5 bytes) (number_at 9 bytes)) h e).0

-- the fields of a head that was made
pub record IsHeadOf (limits : Limits) (o : Option Kind) (n k v : ℕ) (h : Head) : Type 0 where
  pub kind : o ≡ Some h.kind
  pub number : n ≡ h.number
  pub key_len : k ≡ h.key_len
  pub value_len : v ≡ h.value_len
  pub key : h.key_len ≤ key_limit limits h.kind
  pub value : h.value_len ≤ value_limit limits h.kind

pub head_fields : (limits : Limits) (o : Option Kind) (n k v : ℕ) (h : Head) → head_of limits o n k v ≡ Ok h → IsHeadOf limits o n k v h
head_fields limits None n k v h e = absurd cc
head_fields limits (Some kind) n k v h e =
    let made : Head = record { kind = kind; number = n; key_len = k; value_len = v } in
    let a = guard_ok (ltb (key_limit limits kind) k) (key_fault kind) (cond (ltb (value_limit limits kind) v) (Err (value_fault kind)) (Ok made)) h e in
    let b = guard_ok (ltb (value_limit limits kind) v) (value_fault kind) (Ok made) h a.1 in
    subst (λ (x : Head). IsHeadOf limits (Some kind) n k v x) (ok_is made h b.1)
    (record { kind = refl; number = refl; key_len = refl; value_len = refl; key = ltb-false _ _ a.0; value = ltb-false _ _ b.0 })

pub head_takes : (limits : Limits) (bytes : List ℕ) (h : Head) → IsBytes bytes → head_at limits bytes ≡ Ok h → HasHead limits bytes h
head_takes limits bytes h fits e =
    let long : 13 ≤ length bytes = long_enough limits bytes h e in
    let g = guard_ok (ltb (length bytes) 13) Short (head_of limits (kind_of (slice_index bytes 0)) (number_at 1 bytes) (number_at 5 bytes) (number_at 9 bytes)) h e in
    let f = head_fields limits (kind_of (slice_index bytes 0)) (number_at 1 bytes) (number_at 5 bytes) (number_at 9 bytes) h g.1 in
    let kind : slice_index bytes 0 ≡ kind_byte h.kind = kind_is (slice_index bytes 0) h.kind f.kind in
    let one = four 1 bytes fits (omega arith) in
    let two = four 5 bytes fits (omega arith) in
    let three = four 9 bytes fits (omega arith) in
    let spelled : bytes ≡ slice_index bytes 0 ∷ (number_bytes (number_at 1 bytes) ++ (number_bytes (number_at 5 bytes) ++ (number_bytes (number_at 9 bytes) ++ drop 13 bytes))) =
    first bytes (omega arith) ∙ ap (λ (t : List ℕ). slice_index bytes 0 ∷ t) (one ∙ ap (λ (t : List ℕ). number_bytes (number_at 1 bytes) ++ t) (two ∙ ap (λ (t : List ℕ). number_bytes (number_at 5 bytes) ++ t) three)) in
    let fields : (b n k v : ℕ) → slice_index bytes 0 ≡ b → number_at 1 bytes ≡ n → number_at 5 bytes ≡ k → number_at 9 bytes ≡ v → bytes ≡ b ∷ (number_bytes n ++ (number_bytes k ++ (number_bytes v ++ drop 13 bytes))) =
    λ b n k v eb en ek ev. spelled ∙ again b n k v (drop 13 bytes) (slice_index bytes 0) (number_at 1 bytes) (number_at 5 bytes) (number_at 9 bytes) eb en ek ev in
    record {
      parts = fields (kind_byte h.kind) h.number h.key_len h.value_len kind f.number f.key_len f.value_len;
      number = subst (λ (n : ℕ). n < 2 ^ 32) f.number (number_fits 1 bytes fits);
      key = f.key;
      value = f.value;
      key_width = subst (λ (n : ℕ). n < 2 ^ 32) f.key_len (number_fits 5 bytes fits);
      value_width = subst (λ (n : ℕ). n < 2 ^ 32) f.value_len (number_fits 9 bytes fits);
    }
  where
    again : (b n k v : ℕ) (rest : List ℕ) (b' n' k' v' : ℕ) → b' ≡ b → n' ≡ n → k' ≡ k → v' ≡ v
        → b' ∷ (number_bytes n' ++ (number_bytes k' ++ (number_bytes v' ++ rest))) ≡ b ∷ (number_bytes n ++ (number_bytes k ++ (number_bytes v ++ rest)))
    again b n k v rest b' n' k' v' eb en ek ev = cc

head_made : (limits : Limits) (bytes : List ℕ) (kind : Kind) (n k v : ℕ) → 13 ≤ length bytes → kind_of (slice_index bytes 0) ≡ Some kind → number_at 1 bytes ≡ n → number_at 5 bytes ≡ k → number_at 9 bytes ≡ v
    → k ≤ key_limit limits kind → v ≤ value_limit limits kind → head_at limits bytes ≡ Ok (record { kind = kind; number = n; key_len = k; value_len = v })
head_made limits bytes kind n k v long ek en ekl evl le1 le2 =
    chosen (ltb (length bytes) 13) (kind_of (slice_index bytes 0)) (number_at 1 bytes) (number_at 5 bytes) (number_at 9 bytes) (le-ltb (length bytes) 13 long) ek en ekl evl
  where
    chosen : (t : Bool) (o : Option Kind) (n' k' v' : ℕ) → t ≡ false → o ≡ Some kind → n' ≡ n → k' ≡ k → v' ≡ v
        → cond t (Err Short) (head_of limits o n' k' v') ≡ Ok (record { kind = kind; number = n; key_len = k; value_len = v })
    chosen t o n' k' v' et eo en ek ev = rw (et, eo, en, ek, ev, le-ltb (key_limit limits kind) k le1, le-ltb (value_limit limits kind) v le2) refl

-- ---- requests

pub body_takes : (h : Head) (body : List ℕ) (x : Asked × List ℕ) → body_at h body ≡ Ok x
    → (x.0.kind ≡ h.kind) × (x.0.number ≡ h.number) × (length x.0.key ≡ h.key_len) × (length x.0.value ≡ h.value_len) × (body ≡ x.0.key ++ (x.0.value ++ x.1))
body_takes h body x e =
    let made : Asked × List ℕ = (record { kind = h.kind; number = h.number; key = take h.key_len body; value = take h.value_len (drop h.key_len body) }, drop h.value_len (drop h.key_len body)) in
    let g = guard_ok (ltb (length body) (h.key_len + h.value_len)) Short (Ok made) x e in
    let long : h.key_len + h.value_len ≤ length body = ltb-false _ _ g.0 in
    let parts : body ≡ take h.key_len body ++ (take h.value_len (drop h.key_len body) ++ drop h.value_len (drop h.key_len body)) =
    sym (take-append-drop h.key_len body) ∙ ap (λ (t : List ℕ). take h.key_len body ++ t) (sym (take-append-drop h.value_len (drop h.key_len body))) in
    let key : length (take h.key_len body) ≡ h.key_len = length-take-le h.key_len body (omega arith) in
    let value : length (take h.value_len (drop h.key_len body)) ≡ h.value_len = length-take-le h.value_len (drop h.key_len body) (omega (arith, length-drop h.key_len body)) in
    subst (λ (y : Asked × List ℕ). (y.0.kind ≡ h.kind) × (y.0.number ≡ h.number) × (length y.0.key ≡ h.key_len) × (length y.0.value ≡ h.value_len) × (body ≡ y.0.key ++ (y.0.value ++ y.1))) (ok_is made x g.1)
    (refl, refl, key, value, parts)

pub body_again : (h : Head) (key value rest : List ℕ) → length key ≡ h.key_len → length value ≡ h.value_len
    → body_at h (key ++ (value ++ rest)) ≡ Ok (record { kind = h.kind; number = h.number; key = key; value = value }, rest)
body_again h key value rest ek ev =
    let long : ltb (length (key ++ (value ++ rest))) (h.key_len + h.value_len) ≡ false = le-ltb _ _ (omega (arith, length-append key (value ++ rest), length-append value rest)) in
    rw (long, take_at key (value ++ rest) h.key_len ek, drop_at key (value ++ rest) h.key_len ek, take_at value rest h.value_len ev, drop_at value rest h.value_len ev) refl

pub request_takes : (limits : Limits) (bytes : List ℕ) (x : Asked × List ℕ) → IsBytes bytes → request_at limits bytes ≡ Ok x → Fits limits x.0 × (bytes ≡ request_bytes x.0 ++ x.1)
unfolding request_at
request_takes limits bytes x fits e =
    let a = bind_ok (head_at limits bytes) (λ head. body_at head (drop 13 bytes)) x e in
    let h = a.0 in
    let t = head_takes limits bytes h fits a.1 in
    let b = body_takes h (drop 13 bytes) x a.2 in (
      record {
        number = subst (λ (n : ℕ). n < 2 ^ 32) (sym b.1) t.number;
        key = key_within x.0.kind h.kind (length x.0.key) h.key_len b.0 b.2 t.key;
        value = value_within x.0.kind h.kind (length x.0.value) h.value_len b.0 b.3 t.value;
        key_width = subst (λ (n : ℕ). n < 2 ^ 32) (sym b.2) t.key_width;
        value_width = subst (λ (n : ℕ). n < 2 ^ 32) (sym b.3) t.value_width;
      },
      t.parts ∙ spelled h x (drop 13 bytes) (sym b.0) (sym b.1) (sym b.2) (sym b.3) b.4,
    )
  where
    key_within : (k k' : Kind) (n n' : ℕ) → k ≡ k' → n ≡ n' → n' ≤ key_limit limits k' → n ≤ key_limit limits k
    key_within k k' n n' ek en le = rw (ek, en) le

    value_within : (k k' : Kind) (n n' : ℕ) → k ≡ k' → n ≡ n' → n' ≤ value_limit limits k' → n ≤ value_limit limits k
    value_within k k' n n' ek en le = rw (ek, en) le

    spelled : (h : Head) (x : Asked × List ℕ) (body : List ℕ) → h.kind ≡ x.0.kind → h.number ≡ x.0.number → h.key_len ≡ length x.0.key → h.value_len ≡ length x.0.value → body ≡ x.0.key ++ (x.0.value ++ x.1)
        → kind_byte h.kind ∷ (number_bytes h.number ++ (number_bytes h.key_len ++ (number_bytes h.value_len ++ body))) ≡ request_bytes x.0 ++ x.1
    spelled h x body e0 e1 e2 e3 e4 = rw (e0, e1, e2, e3, e4) (rw (append_assoc x.0.key x.0.value x.1) refl)

pub request_again : (limits : Limits) (r : Asked) (rest : List ℕ) → Fits limits r → request_at limits (request_bytes r ++ rest) ≡ Ok (r, rest)
unfolding request_at
request_again limits r rest fits =
    let body : drop 13 (request_bytes r ++ rest) ≡ r.key ++ (r.value ++ rest) = append_assoc r.key r.value rest in
    let head : head_at limits (request_bytes r ++ rest) ≡ Ok (record { kind = r.kind; number = r.number; key_len = length r.key; value_len = length r.value }) =
    head_made limits (request_bytes r ++ rest) r.kind r.number (length r.key) (length r.value) (omega arith) (kind_again r.kind)
    (from_le_bytes-to_le_bytes_4 r.number fits.number) (from_le_bytes-to_le_bytes_4 (length r.key) fits.key_width) (from_le_bytes-to_le_bytes_4 (length r.value) fits.value_width) fits.key fits.value in
    ap (λ (h : Result Head Fault). h >>= λ h. body_at h (drop 13 (request_bytes r ++ rest))) head
    ∙ ap (λ (b : List ℕ). body_at (record { kind = r.kind; number = r.number; key_len = length r.key; value_len = length r.value }) b) body
    ∙ body_again (record { kind = r.kind; number = r.number; key_len = length r.key; value_len = length r.value }) r.key r.value rest refl refl

pub is_found : (limits : Limits) (bytes : List ℕ) (x : Result (Request × Bor (List ℕ)) Fault) → IsBytes bytes → Reads (λ x. (asked x.0, x.1.now)) x (request_at limits bytes)
    → IfOk x (λ x. Fits limits (asked x.0) × (bytes ≡ request_bytes (asked x.0) ++ x.1.now))
is_found limits bytes (Ok x) fits reads = request_takes limits bytes (asked x.0, x.1.now) fits reads
is_found limits bytes (Err e) fits reads = tt

pub is_only : (limits : Limits) (bytes : List ℕ) (x : Result (Request × Bor (List ℕ)) Fault) → Reads (λ x. (asked x.0, x.1.now)) x (request_at limits bytes)
    → (r : Asked) (rest : List ℕ) → Fits limits r → bytes ≡ request_bytes r ++ rest → IsReadAs x r rest
is_only limits bytes (Ok x) reads r rest fits e =
    let same : (asked x.0, x.1.now) ≡ (r, rest) = ok_is (asked x.0, x.1.now) (r, rest) (sym reads ∙ ap (request_at limits) e ∙ request_again limits r rest fits) in
    (ap (λ (p : Asked × List ℕ). p.0) same, ap (λ (p : Asked × List ℕ). p.1) same)
is_only limits bytes (Err d) reads r rest fits e =
    let wrong : request_at limits bytes ≡ Ok (r, rest) = ap (request_at limits) e ∙ request_again limits r rest fits in
    absurd (differ d (r, rest) (request_at limits bytes) reads wrong)
  where
    differ : {A : Type 0} (d : Fault) (y : A) (x : Result A Fault) → x ≡ Err d → x ≡ Ok y → ⊥
    differ d y x e f = absurd cc

pub one_way : (limits : Limits) (r s : Asked) (a b : List ℕ) → Fits limits r → Fits limits s → request_bytes r ++ a ≡ request_bytes s ++ b → (r ≡ s) × (a ≡ b)
one_way limits r s a b fr fs e =
    let same : (r, a) ≡ (s, b) = ok_is (r, a) (s, b) (sym (request_again limits r a fr) ∙ ap (request_at limits) e ∙ request_again limits s b fs) in
    (ap (λ (p : Asked × List ℕ). p.0) same, ap (λ (p : Asked × List ℕ). p.1) same)
