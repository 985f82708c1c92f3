-- A reply that is read is the one that was written, and one that was written is read.
use Rattle.std.proofs.Common.{◌≡◌, ℕ, ◌^◌, ◌<◌, ◌≤◌, Bool, false, cond, ltb, List, ◌∷◌, ◌++◌, length, take, drop, Result, Ok, Err, refl, sym, ap, subst, ◌∙◌, arith}
use Rattle.std.specs.Prelude.{IfOk, slice_index}
use Rattle.std.specs.Borrow.{Bor}
use Rattle.std.proofs.lemmas.Bool.{ltb-false, le-ltb}
use Rattle.std.proofs.lemmas.List.{take_at, drop_at, take-append-drop, length-append, length-take-le, drop_more}
use Rattle.std.proofs.lemmas.Nat.{from_le_bytes-to_le_bytes_4}
use Rattle.foyer_frames.specs.declared.request.Fault.{Fault}
use Rattle.foyer_frames.specs.declared.request.Fault.TheVariants.{Short, ValueTooLong}
use Rattle.foyer_frames.specs.declared.reply.Reply.{Reply}
use Rattle.foyer_frames.specs.Numbers.{Reads, number_bytes, number_at}
use Rattle.foyer_frames.specs.Reply.{Answer, Fits, IsReadAs, answer, reply_bytes, reply_of, reply_at}
use Rattle.foyer_frames.proofs.Fields.{IsBytes, guard_ok, ok_is, four, number_fits}

-- the fields of a reply that was made
record IsReplyOf (limit n c size : ℕ) (text : List ℕ) (x : Answer × List ℕ) : Type 0 where
  pub number : n ≡ x.0.number
  pub code : c ≡ x.0.code
  pub len : size ≡ length x.0.bytes
  pub body : text ≡ x.0.bytes ++ x.1
  pub bytes : length x.0.bytes ≤ limit

reply_fields : (limit n c len : ℕ) (body : List ℕ) (x : Answer × List ℕ) → reply_of limit n c len body ≡ Ok x → IsReplyOf limit n c len body x
reply_fields limit n c len body x e =
    let made : Answer × List ℕ = (record { number = n; code = c; bytes = take len body }, drop len body) in
    let a = guard_ok (ltb limit len) ValueTooLong (cond (ltb (length body) len) (Err Short) (Ok made)) x e in
    let b = guard_ok (ltb (length body) len) Short (Ok made) x a.1 in
    let long : len ≤ length body = ltb-false _ _ b.0 in
    let few : len ≤ limit = ltb-false _ _ a.0 in
    let size : length (take len body) ≡ len = length-take-le len body long in
    subst (λ (y : Answer × List ℕ). IsReplyOf limit n c len body y) (ok_is made x b.1)
    (record { number = refl; code = refl; len = sym size; body = sym (take-append-drop len body); bytes = omega arith })

pub reply_takes : (limit : ℕ) (bytes : List ℕ) (x : Answer × List ℕ) → IsBytes bytes → reply_at limit bytes ≡ Ok x → Fits limit x.0 × (bytes ≡ reply_bytes x.0 ++ x.1)
unfolding reply_at
reply_takes limit bytes x fits e =
    let g = guard_ok (ltb (length bytes) 9) Short (reply_of limit (number_at 0 bytes) (slice_index bytes 4) (number_at 5 bytes) (drop 9 bytes)) x e in
    let long : 9 ≤ length bytes = ltb-false _ _ g.0 in
    let f = reply_fields limit (number_at 0 bytes) (slice_index bytes 4) (number_at 5 bytes) (drop 9 bytes) x g.1 in
    let one : bytes ≡ number_bytes (number_at 0 bytes) ++ drop 4 bytes = four 0 bytes fits (omega arith) in
    let code : drop 4 bytes ≡ slice_index bytes 4 ∷ drop 5 bytes = drop_more bytes 4 0 (omega arith) in
    let two : drop 5 bytes ≡ number_bytes (number_at 5 bytes) ++ drop 9 bytes = four 5 bytes fits (omega arith) in
    let spelled : bytes ≡ number_bytes (number_at 0 bytes) ++ slice_index bytes 4 ∷ (number_bytes (number_at 5 bytes) ++ drop 9 bytes) =
    one ∙ ap (λ (t : List ℕ). number_bytes (number_at 0 bytes) ++ t) (code ∙ ap (λ (t : List ℕ). slice_index bytes 4 ∷ t) two) in (
      record {
        number = subst (λ (n : ℕ). n < 2 ^ 32) f.number (number_fits 0 bytes fits);
        code = subst (λ (n : ℕ). n < 2 ^ 8) f.code (fits 4);
        bytes = f.bytes;
        width = subst (λ (n : ℕ). n < 2 ^ 32) f.len (number_fits 5 bytes fits);
      },
      spelled ∙ again x (drop 9 bytes) (number_at 0 bytes) (slice_index bytes 4) (number_at 5 bytes) f.number f.code f.len f.body,
    )
  where
    again : (x : Answer × List ℕ) (body : List ℕ) (n c len : ℕ) → n ≡ x.0.number → c ≡ x.0.code → len ≡ length x.0.bytes → body ≡ x.0.bytes ++ x.1
        → number_bytes n ++ c ∷ (number_bytes len ++ body) ≡ reply_bytes x.0 ++ x.1
    again x body n c len e0 e1 e2 e3 = rw (e0, e1, e2, e3) refl

reply_made : (limit : ℕ) (bytes : List ℕ) (n c len : ℕ) (text rest : List ℕ) → 9 ≤ length bytes → number_at 0 bytes ≡ n → slice_index bytes 4 ≡ c → number_at 5 bytes ≡ len → drop 9 bytes ≡ text ++ rest
    → length text ≡ len → len ≤ limit → reply_at limit bytes ≡ Ok (record { number = n; code = c; bytes = text }, rest)
unfolding reply_at
reply_made limit bytes n c len text rest long en ec el eb size le =
    chosen (ltb (length bytes) 9) (number_at 0 bytes) (slice_index bytes 4) (number_at 5 bytes) (drop 9 bytes) (le-ltb (length bytes) 9 long) en ec el eb
  where
    chosen : (t : Bool) (n' c' len' : ℕ) (body : List ℕ) → t ≡ false → n' ≡ n → c' ≡ c → len' ≡ len → body ≡ text ++ rest
        → cond t (Err Short) (reply_of limit n' c' len' body) ≡ Ok (record { number = n; code = c; bytes = text }, rest)
    chosen t n' c' len' body et en ec el eb =
        let more : ltb (length (text ++ rest)) len ≡ false = le-ltb _ _ (omega (arith, length-append text rest)) in
        rw (et, en, ec, el, eb, le-ltb limit len le, more, take_at text rest len size, drop_at text rest len size) refl

pub reply_again : (limit : ℕ) (r : Answer) (rest : List ℕ) → Fits limit r → reply_at limit (reply_bytes r ++ rest) ≡ Ok (r, rest)
reply_again limit r rest fits =
    reply_made limit (reply_bytes r ++ rest) r.number r.code (length r.bytes) r.bytes rest (omega arith)
    (from_le_bytes-to_le_bytes_4 r.number fits.number) refl (from_le_bytes-to_le_bytes_4 (length r.bytes) fits.width) refl refl fits.bytes

pub is_found : (limit : ℕ) (bytes : List ℕ) (x : Result (Reply × Bor (List ℕ)) Fault) → IsBytes bytes → Reads (λ x. (answer x.0, x.1.now)) x (reply_at limit bytes)
    → IfOk x (λ x. Fits limit (answer x.0) × (bytes ≡ reply_bytes (answer x.0) ++ x.1.now))
is_found limit bytes (Ok x) fits reads = reply_takes limit bytes (answer x.0, x.1.now) fits reads
is_found limit bytes (Err e) fits reads = tt

pub is_only : (limit : ℕ) (bytes : List ℕ) (x : Result (Reply × Bor (List ℕ)) Fault) → Reads (λ x. (answer x.0, x.1.now)) x (reply_at limit bytes)
    → (r : Answer) (rest : List ℕ) → Fits limit r → bytes ≡ reply_bytes r ++ rest → IsReadAs x r rest
is_only limit bytes (Ok x) reads r rest fits e =
    let same : (answer x.0, x.1.now) ≡ (r, rest) = ok_is (answer x.0, x.1.now) (r, rest) (sym reads ∙ ap (reply_at limit) e ∙ reply_again limit r rest fits) in
    (ap (λ (p : Answer × List ℕ). p.0) same, ap (λ (p : Answer × List ℕ). p.1) same)
is_only limit bytes (Err d) reads r rest fits e =
    let wrong : reply_at limit bytes ≡ Ok (r, rest) = ap (reply_at limit) e ∙ reply_again limit r rest fits in
    absurd (differ d (r, rest) (reply_at limit bytes) reads wrong)
  where
    differ : {A : Type 0} (d : Fault) (y : A) (x : Result A Fault) → x ≡ Err d → x ≡ Ok y → ⊥
    differ d y x e f = absurd cc

pub one_way : (limit : ℕ) (r s : Answer) (a b : List ℕ) → Fits limit r → Fits limit s → reply_bytes r ++ a ≡ reply_bytes s ++ b → (r ≡ s) × (a ≡ b)
one_way limit r s a b fr fs e =
    let same : (r, a) ≡ (s, b) = ok_is (r, a) (s, b) (sym (reply_again limit r a fr) ∙ ap (reply_at limit) e ∙ reply_again limit s b fs) in
    (ap (λ (p : Answer × List ℕ). p.0) same, ap (λ (p : Answer × List ℕ). p.1) same)
