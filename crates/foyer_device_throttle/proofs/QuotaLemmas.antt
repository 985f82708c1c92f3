-- How a quota goes on.
use Rattle.std.proofs.Common.{◌≡◌, ℕ, suc, ◌+◌, ◌-◌, ◌*◌, ◌≤◌, List, [], ◌∷◌, ◌++◌, map, max, refl, sym, ◌∙◌, ap, add-mul, arith}
use Rattle.std.specs.Prelude.{ℤ, pos, ◌+ℤ◌, ◌-ℤ◌, All}
use Rattle.std.specs.Int.{int_min}
use Rattle.std.proofs.lemmas.Int.{ints, clamps}
use Rattle.foyer_device_throttle.specs.Quota.{Event, Recorded, Polled, Quota, billion, fresh, after, after_all, recorded_by}
use Rattle.foyer_device_throttle.specs.Meter.{Filled, quota_of, IsLedTo}

pub after_all_snoc : (limit : ℕ) (q : Quota) (es : List Event) (e : Event) → after_all limit q (es ++ e ∷ []) ≡ after limit (after_all limit q es) e
after_all_snoc limit q [] e = refl
after_all_snoc limit q (x ∷ es) e = after_all_snoc limit (after limit q x) es e

pub recorded_by_snoc : (es : List Event) (n : ℕ) → recorded_by (es ++ Recorded n ∷ []) ≡ recorded_by es + n
recorded_by_snoc [] n = omega arith
recorded_by_snoc (Recorded m ∷ es) n = let t = recorded_by_snoc es n in omega arith
recorded_by_snoc (Polled now ∷ es) n = recorded_by_snoc es n

pub recorded_by_poll : (es : List Event) (now : ℕ) → recorded_by (es ++ Polled now ∷ []) ≡ recorded_by es
recorded_by_poll [] now = refl
recorded_by_poll (Recorded m ∷ es) now = let t = recorded_by_poll es now in omega arith
recorded_by_poll (Polled then ∷ es) now = recorded_by_poll es now

abbrev the_quota : ℤ → ℕ → Quota
the_quota x y = record { billionths = x; moment = y }

same_quota : (a b : ℤ) (m n : ℕ) → a ≡ b → m ≡ n → the_quota a m ≡ the_quota b n
same_quota a b m n p q = ap (λ x. the_quota x m) p ∙ ap (λ y. the_quota b y) q

-- two fills of the times between three moments in order are one fill
two_fills : (b : ℤ) (x y z most : ℕ) → x + y ≡ z → int_min (int_min (b +ℤ pos x) (pos most) +ℤ pos y) (pos most) ≡ int_min (b +ℤ pos z) (pos most)
two_fills b x y z most e = omega (arith, ints, clamps)

times_add : (a b c l : ℕ) → a + b ≡ c → a * l + b * l ≡ c * l
times_add a b c l e = sym (add-mul a b l) ∙ ap (λ n. n * l) e

two_polls : (limit : ℕ) (q : Quota) (t now : ℕ) → t ≤ now → after limit (after limit q (Polled t)) (Polled now) ≡ after limit q (Polled now)
two_polls limit q t now low =
    let apart : (t - q.moment) + (now - max q.moment t) ≡ now - q.moment = omega arith in
    same_quota _ _ _ _
    (two_fills q.billionths ((t - q.moment) * limit) ((now - max q.moment t) * limit) ((now - q.moment) * limit) (limit * billion) (times_add (t - q.moment) (now - max q.moment t) (now - q.moment) limit apart))
    (omega arith)

pub last_poll : (limit : ℕ) (q : Quota) (nows : List ℕ) (now : ℕ) → All (λ t. t ≤ now) nows
    → after_all limit q (map (λ t. Polled t) nows ++ Polled now ∷ []) ≡ after limit q (Polled now)
last_poll limit q [] now all = refl
last_poll limit q (t ∷ nows) now all =
    last_poll limit (after limit q (Polled t)) nows now (λ k d less. all (suc k) d (omega arith))
    ∙ two_polls limit q t now (all 0 0 (omega arith))

pub polled : (limit begun recorded now : ℕ) (events : List Event) (f g : Filled) → quota_of g recorded ≡ after limit (quota_of f recorded) (Polled now)
    → IsLedTo limit begun events f recorded → IsLedTo limit begun (events ++ Polled now ∷ []) g recorded
polled limit begun recorded now events f g e led =
    (led.0 ∙ sym (recorded_by_poll events now), e ∙ ap (λ q. after limit q (Polled now)) led.1 ∙ sym (after_all_snoc limit (fresh begun) events (Polled now)))

pub recorded_more : (limit begun n recorded : ℕ) (events : List Event) (f : Filled) → IsLedTo limit begun events f recorded
    → IsLedTo limit begun (events ++ Recorded n ∷ []) f (recorded + n)
recorded_more limit begun n recorded events f led =
    let less : pos f.billionths -ℤ pos ((recorded + n) * billion) ≡ (pos f.billionths -ℤ pos (recorded * billion)) -ℤ pos (n * billion) = omega (arith, ints) in (
      ap (λ r. r + n) led.0 ∙ sym (recorded_by_snoc events n),
      same_quota _ _ _ _ less refl ∙ ap (λ q. after limit q (Recorded n)) led.1 ∙ sym (after_all_snoc limit (fresh begun) events (Recorded n)),
    )
