use Rattle.std.proofs.Common.{◌≡◌, ℕ, List, [], ◌∷◌, ◌++◌, sym, subst, Option}
use Rattle.std.specs.Prelude.{IfSome}
use Rattle.std.specs.Int.NonZero.{non_zero_usize_get}
use Rattle.std.specs.declared.num.NonZeroUsize.{NonZeroUsize}
use Rattle.foyer_device_throttle.specs.Quota.{Event, Polled, after}
use Rattle.foyer_device_throttle.specs.Meter.{IsLedTo, quota_of}
use Rattle.foyer_device_throttle.proofs.QuotaLemmas.{polled}
use Rattle.foyer_device_throttle.proofs.meter.Meter.poll.Goals as goal

pub returns-in-Some-clause-led : goal.returns-in-Some-clause-led
returns-in-Some-clause-led c =
    let old = c.args.self.now in
    let new = c.fill.new.self in
    let Led : Option NonZeroUsize → Type 0 = λ o. IfSome o (λ l. (begun : ℕ) (events : List Event) → IsLedTo (non_zero_usize_get l) begun events old c.args.recorded → IsLedTo (non_zero_usize_get l) begun (events ++ Polled c.args.now ∷ []) new c.args.recorded) in
    let Fills : ℕ → Type 0 = λ n. quota_of new c.args.recorded ≡ after n (quota_of old c.args.recorded) (Polled c.args.now) in
    subst Led (sym c.in-Some.is) (λ begun events led. polled _ begun c.args.recorded c.args.now events old new (subst Fills c.get.ensures.value c.fill.ensures.filled) led)
