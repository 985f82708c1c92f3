-- What is read at the front of bytes stays what it is, whatever follows them, and leaves fewer bytes.
use Rattle.std.proofs.Common.{◌≡◌, ℕ, ◌+◌, ◌<◌, ◌≤◌, Bool, true, false, cond, eqb, ltb, List, [], ◌∷◌, ◌++◌, length, take, drop, Option, Some, None, Result, Ok, Err, refl, sym, ap, subst, ◌∙◌, arith}
use Rattle.std.specs.Prelude.{max, IfOk, IfErr}
use Rattle.std.specs.Borrow.{Bor}
use Rattle.foyer_memcached.specs.declared.command.Command.{Command}
use Rattle.std.proofs.lemmas.Bool.{ltb-false, ltb-true, le-ltb, lt-ltb}
use Rattle.std.proofs.lemmas.List.{length-append, length-drop, drop-append-le, take-append-le}
use Rattle.foyer_memcached.specs.declared.command.Fault.{Fault}
use Rattle.foyer_memcached.specs.declared.command.Fault.TheVariants.{Short, TooLong}
use Rattle.foyer_memcached.specs.declared.command.Limits.{Limits}
use Rattle.foyer_memcached.specs.Asked.{Asked, Flagged, Said, Storing, Whole, Data, TooLarge, asked}
use Rattle.foyer_memcached.specs.Command.{after_line, command_at, item_len, line_limit, line_of, value_of}
use Rattle.foyer_memcached.specs.Lines.{said_at}
use Rattle.foyer_memcached.specs.Steps.{◌>>=◌, Reads}
use Rattle.foyer_memcached.specs.Words.{line_at, longer, without_return, words}
use Rattle.foyer_memcached.proofs.Options.{some_is, none_not}
use Rattle.foyer_memcached.proofs.Results.{bind_ok, guard_ok, ok_is, err_not_ok, ok_not_err}

-- ---- lines

longer_is : (b : ℕ) (o : Option (List ℕ × List ℕ)) (x : List ℕ × List ℕ) → longer b o ≡ Some x → (y : List ℕ × List ℕ) × (o ≡ Some y) × ((b ∷ y.0, y.1) ≡ x)
longer_is b None x e = absurd (none_not x e)
longer_is b (Some y) x e = (y, refl, some_is _ x e)

pub line_more : (bytes more : List ℕ) (x : List ℕ × List ℕ) → line_at bytes ≡ Some x → line_at (bytes ++ more) ≡ Some (x.0, x.1 ++ more)
unfolding line_at
line_more [] more x e = absurd (none_not x e)
line_more (b ∷ bs) more x e = go (eqb b 10) (λ y. line_more bs more y) e
  where
    go : (t : Bool) → ((y : List ℕ × List ℕ) → line_at bs ≡ Some y → line_at (bs ++ more) ≡ Some (y.0, y.1 ++ more))
        → cond t (Some ([], bs)) (longer b (line_at bs)) ≡ Some x → cond t (Some ([], bs ++ more)) (longer b (line_at (bs ++ more))) ≡ Some (x.0, x.1 ++ more)
    go true rest e = ap (λ (y : List ℕ × List ℕ). Some (y.0, y.1 ++ more)) (some_is ([], bs) x e)
    go false rest e =
        let l = longer_is b (line_at bs) x e in
        ap (longer b) (rest l.0 l.1) ∙ ap (λ (y : List ℕ × List ℕ). Some (y.0, y.1 ++ more)) l.2

pub line_len : (bytes : List ℕ) (x : List ℕ × List ℕ) → line_at bytes ≡ Some x → length bytes ≡ length x.0 + 1 + length x.1
unfolding line_at
line_len [] x e = absurd (none_not x e)
line_len (b ∷ bs) x e = go (eqb b 10) (λ y. line_len bs y) e
  where
    go : (t : Bool) → ((y : List ℕ × List ℕ) → line_at bs ≡ Some y → length bs ≡ length y.0 + 1 + length y.1)
        → cond t (Some ([], bs)) (longer b (line_at bs)) ≡ Some x → length (b ∷ bs) ≡ length x.0 + 1 + length x.1
    go true rest e = subst (λ (y : List ℕ × List ℕ). length (b ∷ bs) ≡ length y.0 + 1 + length y.1) (some_is ([], bs) x e) (omega arith)
    go false rest e =
        let l = longer_is b (line_at bs) x e in
        subst (λ (y : List ℕ × List ℕ). length (b ∷ bs) ≡ length y.0 + 1 + length y.1) l.2 (omega (arith, rest l.0 l.1))

-- a line that was found within its limit
line_is : (limits : Limits) (bytes : List ℕ) (o : Option (List ℕ × List ℕ)) (x : List ℕ × List ℕ) → line_of limits bytes o ≡ Ok x → (o ≡ Some x) × (ltb (line_limit limits x.0) (length x.0) ≡ false)
line_is limits bytes None x e = absurd (no (ltb (line_limit limits bytes) (length bytes)) e)
  where
    no : (t : Bool) → ◌≡◌ {A = Result (List ℕ × List ℕ) Fault} (cond t (Err TooLong) (Err Short)) (Ok x) → ⊥
    no true e = err_not_ok TooLong x e
    no false e = err_not_ok Short x e
line_is limits bytes (Some y) x e =
    let g = guard_ok (ltb (line_limit limits y.0) (length y.0)) TooLong (Ok y) x e in
    let same : y ≡ x = ok_is y x g.1 in
    (ap Some same, subst (λ (z : List ℕ × List ℕ). ltb (line_limit limits z.0) (length z.0) ≡ false) same g.0)

-- ---- what follows a line

abbrev large : Storing → List ℕ → Result (Asked × List ℕ) Fault
large s rest = Ok (TooLarge s, rest)

abbrev read : Storing → Option Flagged → List ℕ → Result (Asked × List ℕ) Fault
read s f rest = Ok (value_of s f (take s.len rest) (take 2 (drop s.len rest)), drop (s.len + 2) rest)

abbrev small : Storing → Option Flagged → List ℕ → Result (Asked × List ℕ) Fault
small s f rest = cond (ltb (length rest) (s.len + 2)) (Err Short) (read s f rest)

pub after_more : (limits : Limits) (s : Said) (rest more : List ℕ) (x : Asked × List ℕ) → after_line limits s rest ≡ Ok x → after_line limits s (rest ++ more) ≡ Ok (x.0, x.1 ++ more)
after_more limits (Whole c) rest more x e = ap (λ (y : Asked × List ℕ). Ok (y.0, y.1 ++ more)) (ok_is (c, rest) x e)
after_more limits (Data s f) rest more x e = go (ltb limits.item (item_len s)) e
  where
    enough : (t : Bool) → ltb (length rest) (s.len + 2) ≡ t → cond t (Err Short) (read s f rest) ≡ Ok x
        → small s f (rest ++ more) ≡ Ok (x.0, x.1 ++ more)
    enough true is e = absurd (err_not_ok Short x e)
    enough false is e =
        let long : s.len + 2 ≤ length rest = ltb-false _ _ is in
        let still : ltb (length (rest ++ more)) (s.len + 2) ≡ false = le-ltb _ _ (omega (arith, length-append rest more)) in
        let front : take s.len (rest ++ more) ≡ take s.len rest = take-append-le s.len rest more (omega arith) in
        let behind : drop s.len (rest ++ more) ≡ drop s.len rest ++ more = drop-append-le s.len rest more (omega arith) in
        let end : take 2 (drop s.len rest ++ more) ≡ take 2 (drop s.len rest) = take-append-le 2 (drop s.len rest) more (omega (arith, length-drop s.len rest)) in
        let last : drop (s.len + 2) (rest ++ more) ≡ drop (s.len + 2) rest ++ more = drop-append-le (s.len + 2) rest more long in
        (rw (still, front, behind, end, last) refl) ∙ ap (λ (y : Asked × List ℕ). Ok (y.0, y.1 ++ more)) (ok_is _ x e)

    go : (t : Bool) → cond t (large s rest) (small s f rest) ≡ Ok x
        → cond t (large s (rest ++ more)) (small s f (rest ++ more)) ≡ Ok (x.0, x.1 ++ more)
    go true e = ap (λ (y : Asked × List ℕ). Ok (y.0, y.1 ++ more)) (ok_is _ x e)
    go false e = enough (ltb (length rest) (s.len + 2)) refl e

pub after_len : (limits : Limits) (s : Said) (rest : List ℕ) (x : Asked × List ℕ) → after_line limits s rest ≡ Ok x → length x.1 ≤ length rest
after_len limits (Whole c) rest x e = subst (λ (y : Asked × List ℕ). length y.1 ≤ length rest) (ok_is (c, rest) x e) (omega arith)
after_len limits (Data s f) rest x e = go (ltb limits.item (item_len s)) e
  where
    go : (t : Bool) → cond t (large s rest) (small s f rest) ≡ Ok x → length x.1 ≤ length rest
    go true e = subst (λ (y : Asked × List ℕ). length y.1 ≤ length rest) (ok_is _ x e) (omega arith)
    go false e =
        let g = guard_ok (ltb (length rest) (s.len + 2)) Short (read s f rest) x e in
        subst (λ (y : Asked × List ℕ). length y.1 ≤ length rest) (ok_is _ x g.1) (omega (arith, length-drop (s.len + 2) rest))

-- ---- commands

-- cuts change nothing
pub same_command : (limits : Limits) (bytes more : List ℕ) (x : Asked × List ℕ) → command_at limits bytes ≡ Ok x → command_at limits (bytes ++ more) ≡ Ok (x.0, x.1 ++ more)
unfolding command_at
same_command limits bytes more x e =
    let a = bind_ok (line_of limits bytes (line_at bytes)) (λ l. after_line limits (said_at (words (without_return l.0))) l.1) x e in
    let l = line_is limits bytes (line_at bytes) a.0 a.1 in
    let found : line_of limits (bytes ++ more) (line_at (bytes ++ more)) ≡ Ok (a.0.0, a.0.1 ++ more) =
    ap (line_of limits (bytes ++ more)) (line_more bytes more a.0 l.0) ∙ ap (λ (t : Bool). cond t (Err TooLong) (Ok (a.0.0, a.0.1 ++ more))) l.1 in
    ap (λ (r : Result (List ℕ × List ℕ) Fault). r >>= λ l. after_line limits (said_at (words (without_return l.0))) l.1) found
    ∙ after_more limits (said_at (words (without_return a.0.0))) a.0.1 more x a.2

-- a command has a byte
pub fewer : (limits : Limits) (bytes : List ℕ) (x : Asked × List ℕ) → command_at limits bytes ≡ Ok x → length x.1 < length bytes
unfolding command_at
fewer limits bytes x e =
    let a = bind_ok (line_of limits bytes (line_at bytes)) (λ l. after_line limits (said_at (words (without_return l.0))) l.1) x e in
    let l = line_is limits bytes (line_at bytes) a.0 a.1 in
    omega (arith, line_len bytes a.0 l.0, after_len limits (said_at (words (without_return a.0.0))) a.0.1 x a.2)

-- bytes that need more are few
limit_most : (limits : Limits) (line : List ℕ) → line_limit limits line ≤ max limits.line limits.get_line
limit_most limits line = go _
  where
    go : (t : Bool) → cond t limits.get_line limits.line ≤ max limits.line limits.get_line
    go true = omega arith
    go false = omega arith

after_short : (limits : Limits) (s : Said) (rest : List ℕ) → after_line limits s rest ≡ Err Short → length rest ≤ limits.item + 1
after_short limits (Whole c) rest e = absurd (ok_not_err (c, rest) Short e)
after_short limits (Data s f) rest e = go (ltb limits.item (item_len s)) refl e
  where
    enough : (t : Bool) → ltb limits.item (item_len s) ≡ false → ltb (length rest) (s.len + 2) ≡ t → cond t (Err Short) (read s f rest) ≡ Err Short → length rest ≤ limits.item + 1
    enough true few is e = omega (arith, ltb-false _ _ few, ltb-true _ _ is)
    enough false few is e = absurd (ok_not_err _ Short e)

    go : (t : Bool) → ltb limits.item (item_len s) ≡ t → cond t (large s rest) (small s f rest) ≡ Err Short → length rest ≤ limits.item + 1
    go true is e = absurd (ok_not_err (TooLarge s, rest) Short e)
    go false is e = enough (ltb (length rest) (s.len + 2)) is refl e

pub bounded : (limits : Limits) (bytes : List ℕ) → command_at limits bytes ≡ Err Short → length bytes ≤ max limits.line limits.get_line + limits.item + 2
unfolding command_at
bounded limits bytes e = go (line_at bytes) refl e
  where
    none : (t : Bool) → ltb (line_limit limits bytes) (length bytes) ≡ t → ◌≡◌ {A = Result (Asked × List ℕ) Fault} (cond t (Err TooLong) (Err Short) >>= λ (l : List ℕ × List ℕ). after_line limits (said_at (words (without_return l.0))) l.1) (Err Short)
        → length bytes ≤ max limits.line limits.get_line + limits.item + 2
    none true is e = absurd cc
    none false is e = omega (arith, ltb-false _ _ is, limit_most limits bytes)

    some : (y : List ℕ × List ℕ) → line_at bytes ≡ Some y → (t : Bool) → ltb (line_limit limits y.0) (length y.0) ≡ t → ◌≡◌ {A = Result (Asked × List ℕ) Fault} (cond t (Err TooLong) (Ok y) >>= λ (l : List ℕ × List ℕ). after_line limits (said_at (words (without_return l.0))) l.1) (Err Short)
        → length bytes ≤ max limits.line limits.get_line + limits.item + 2
    some y at true is e = absurd cc
    some y at false is e = omega (arith, ltb-false _ _ is, limit_most limits y.0, line_len bytes y at, after_short limits (said_at (words (without_return y.0))) y.1 e)

    go : (o : Option (List ℕ × List ℕ)) → line_at bytes ≡ o → (line_of limits bytes o >>= λ l. after_line limits (said_at (words (without_return l.0))) l.1) ≡ Err Short → length bytes ≤ max limits.line limits.get_line + limits.item + 2
    go None at e = none (ltb (line_limit limits bytes) (length bytes)) refl e
    go (Some y) at e = some y at (ltb (line_limit limits y.0) (length y.0)) refl e

-- ---- lines that are too long

abbrev behind : List ℕ → Option (List ℕ × List ℕ) → Option (List ℕ × List ℕ)
behind front None = None
behind front (Some x) = Some (front ++ x.0, x.1)

line_behind : (bytes more : List ℕ) → line_at bytes ≡ None → line_at (bytes ++ more) ≡ behind bytes (line_at more)
unfolding line_at
line_behind [] more e = same (line_at more)
  where
    same : (o : Option (List ℕ × List ℕ)) → o ≡ behind [] o
    same None = refl
    same (Some x) = refl
line_behind (b ∷ bs) more e = go (eqb b 10) (line_behind bs more) e
  where
    none : (o : Option (List ℕ × List ℕ)) → longer b o ≡ None → o ≡ None
    none None e = refl
    none (Some x) e = absurd (none_not _ (sym e))

    next : (o : Option (List ℕ × List ℕ)) → longer b (behind bs o) ≡ behind (b ∷ bs) o
    next None = refl
    next (Some x) = refl

    go : (t : Bool) → (line_at bs ≡ None → line_at (bs ++ more) ≡ behind bs (line_at more))
        → cond t (Some ([], bs)) (longer b (line_at bs)) ≡ None → cond t (Some ([], bs ++ more)) (longer b (line_at (bs ++ more))) ≡ behind (b ∷ bs) (line_at more)
    go true rest e = absurd (none_not ([], bs) (sym e))
    go false rest e = ap (longer b) (rest (none (line_at bs) e)) ∙ next (line_at more)

limit_more : (limits : Limits) (bytes more : List ℕ) → 3 ≤ length bytes → line_limit limits (bytes ++ more) ≡ line_limit limits bytes
limit_more limits bytes more long = rw (take-append-le 3 bytes more long) refl

limit_least : (limits : Limits) (line : List ℕ) → 2 ≤ limits.line → 2 ≤ limits.get_line → 2 ≤ line_limit limits line
limit_least limits line a b = go _
  where
    go : (t : Bool) → 2 ≤ cond t limits.get_line limits.line
    go true = b
    go false = a

after_not : (limits : Limits) (s : Said) (rest : List ℕ) → after_line limits s rest ≡ Err TooLong → ⊥
after_not limits (Whole c) rest e = ok_not_err (c, rest) TooLong e
after_not limits (Data s f) rest e = go (ltb limits.item (item_len s)) (ltb (length rest) (s.len + 2)) e
  where
    go : (t u : Bool) → cond t (large s rest) (cond u (Err Short) (read s f rest)) ≡ Err TooLong → ⊥
    go true u e = ok_not_err (TooLarge s, rest) TooLong e
    go false true e = cc
    go false false e = ok_not_err _ TooLong e

line_refused : (limits : Limits) (bytes more : List ℕ) → 2 ≤ limits.line → 2 ≤ limits.get_line → line_of limits bytes (line_at bytes) ≡ Err TooLong → line_of limits (bytes ++ more) (line_at (bytes ++ more)) ≡ Err TooLong
line_refused limits bytes more l2 g2 e = go (line_at bytes) refl e
  where
    long_line : ltb (line_limit limits bytes) (length bytes) ≡ true → (z : List ℕ) → ltb (line_limit limits (bytes ++ z)) (length (bytes ++ z)) ≡ true
    long_line is z =
        let over : line_limit limits bytes < length bytes = ltb-true _ _ is in
        let least : 2 ≤ line_limit limits bytes = limit_least limits bytes l2 g2 in
        let same : line_limit limits (bytes ++ z) ≡ line_limit limits bytes = limit_more limits bytes z (omega (arith, over, least)) in
        lt-ltb _ _ (omega (arith, over, same, length-append bytes z))

    ends : ltb (line_limit limits bytes) (length bytes) ≡ true → (o : Option (List ℕ × List ℕ)) → line_of limits (bytes ++ more) (behind bytes o) ≡ Err TooLong
    ends is None = ap (λ (t : Bool). cond {A = Result (List ℕ × List ℕ) Fault} t (Err TooLong) (Err Short)) (long_line is more)
    ends is (Some x) = ap (λ (t : Bool). cond {A = Result (List ℕ × List ℕ) Fault} t (Err TooLong) (Ok (bytes ++ x.0, x.1))) (long_line is x.0)

    none : (t : Bool) → ltb (line_limit limits bytes) (length bytes) ≡ t → line_at bytes ≡ None → cond {A = Result (List ℕ × List ℕ) Fault} t (Err TooLong) (Err Short) ≡ Err TooLong → line_of limits (bytes ++ more) (line_at (bytes ++ more)) ≡ Err TooLong
    none true is at e = ap (line_of limits (bytes ++ more)) (line_behind bytes more at) ∙ ends is (line_at more)
    none false is at e = absurd cc

    some : (y : List ℕ × List ℕ) (t : Bool) → ltb (line_limit limits y.0) (length y.0) ≡ t → line_at bytes ≡ Some y → cond {A = Result (List ℕ × List ℕ) Fault} t (Err TooLong) (Ok y) ≡ Err TooLong → line_of limits (bytes ++ more) (line_at (bytes ++ more)) ≡ Err TooLong
    some y true is at e = ap (line_of limits (bytes ++ more)) (line_more bytes more y at) ∙ ap (λ (t : Bool). cond {A = Result (List ℕ × List ℕ) Fault} t (Err TooLong) (Ok (y.0, y.1 ++ more))) is
    some y false is at e = absurd (ok_not_err y TooLong e)

    go : (o : Option (List ℕ × List ℕ)) → line_at bytes ≡ o → line_of limits bytes o ≡ Err TooLong → line_of limits (bytes ++ more) (line_at (bytes ++ more)) ≡ Err TooLong
    go None at e = none (ltb (line_limit limits bytes) (length bytes)) refl at e
    go (Some y) at e = some y (ltb (line_limit limits y.0) (length y.0)) refl at e

pub still_refused : (limits : Limits) (bytes more : List ℕ) → 2 ≤ limits.line → 2 ≤ limits.get_line → command_at limits bytes ≡ Err TooLong → command_at limits (bytes ++ more) ≡ Err TooLong
unfolding command_at
still_refused limits bytes more l2 g2 e = go (line_of limits bytes (line_at bytes)) refl e
  where
    go : (r : Result (List ℕ × List ℕ) Fault) → line_of limits bytes (line_at bytes) ≡ r → (r >>= λ l. after_line limits (said_at (words (without_return l.0))) l.1) ≡ Err TooLong
        → (line_of limits (bytes ++ more) (line_at (bytes ++ more)) >>= λ l. after_line limits (said_at (words (without_return l.0))) l.1) ≡ Err TooLong
    go (Ok y) is e = absurd (after_not limits (said_at (words (without_return y.0))) y.1 e)
    go (Err d) is e = ap (λ (r : Result (List ℕ × List ℕ) Fault). r >>= λ l. after_line limits (said_at (words (without_return l.0))) l.1) (line_refused limits bytes more l2 g2 (is ∙ as_line d e))
      where
        as_line : (d : Fault) → ◌≡◌ {A = Result (Asked × List ℕ) Fault} (Err d) (Err TooLong) → ◌≡◌ {A = Result (List ℕ × List ℕ) Fault} (Err d) (Err TooLong)
        as_line d e = cc

-- ---- what was returned

pub leaves_fewer : (limits : Limits) (bytes : List ℕ) (x : Result (Command × Bor (List ℕ)) Fault) → Reads (λ x. (asked x.0, x.1.now)) x (command_at limits bytes) → IfOk x (λ x. length x.1.now < length bytes)
leaves_fewer limits bytes (Ok x) reads = fewer limits bytes (asked x.0, x.1.now) reads
leaves_fewer limits bytes (Err e) reads = tt

pub stays : (limits : Limits) (bytes : List ℕ) (x : Result (Command × Bor (List ℕ)) Fault) → Reads (λ x. (asked x.0, x.1.now)) x (command_at limits bytes)
    → IfOk x (λ x. (more : List ℕ) → command_at limits (bytes ++ more) ≡ Ok (asked x.0, x.1.now ++ more))
stays limits bytes (Ok x) reads = λ more. same_command limits bytes more (asked x.0, x.1.now) reads
stays limits bytes (Err e) reads = tt

pub holds_few : (limits : Limits) (bytes : List ℕ) (x : Result (Command × Bor (List ℕ)) Fault) → Reads (λ x. (asked x.0, x.1.now)) x (command_at limits bytes)
    → IfErr x (λ e. e ≡ Short → length bytes ≤ max limits.line limits.get_line + limits.item + 2)
holds_few limits bytes (Ok x) reads = tt
holds_few limits bytes (Err e) reads = λ short. bounded limits bytes (reads ∙ ap (λ (d : Fault). Err d) short)
