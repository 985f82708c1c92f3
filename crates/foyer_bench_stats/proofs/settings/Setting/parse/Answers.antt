use Rattle.std.proofs.Common.{ℕ, ◌≡◌, List, false, sym, ◌∙◌, subst, rules}
use Rattle.foyer_bench_stats.specs.Settings.{IsNumberIn, takes}
use Rattle.foyer_bench_stats.specs.declared.settings.Setting.{Setting}
use Rattle.foyer_bench_stats.proofs.settings.Setting.parse.Goals as goal

-- a text has one number, so that none is taken if that one isn't
none_taken : (s : Setting) (text : List ℕ) (low high least greatest number : ℕ) → IsNumberIn text low high number → takes s number ≡ false → (n : ℕ) → IsNumberIn text least greatest n → takes s n ≡ false
none_taken s text low high least greatest number is refused n other = subst (λ k. takes s k ≡ false) (sym is.value ∙ other.value) refused

pub returns-in-None : goal.returns-in-None
returns-in-None c =
    let none : (n : ℕ) → ¬ IsNumberIn c.in-Some.text.now c.least.result c.greatest.result n = c.in-None.ensures in
    (c.in-Some.text.now, search rules, λ n is. absurd (none n (rw c.least.ensures (rw c.greatest.ensures is))))

pub returns-else-takes : goal.returns-else-takes
returns-else-takes c =
    let is : IsNumberIn c.in-Some.text.now c.least.result c.greatest.result c.in-Some-number.number = c.in-Some-number.ensures in
    let refused : takes c.in-Some-named.setting c.in-Some-number.number ≡ false = sym c.takes.ensures ∙ c.if-takes.false in
    (c.in-Some.text.now, search rules, λ n other. none_taken c.in-Some-named.setting c.in-Some.text.now _ _ _ _ c.in-Some-number.number is refused n other)
