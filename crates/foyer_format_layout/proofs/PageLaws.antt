-- Rounding up gives whole pages, the fewest that hold the bytes.
use Rattle.std.specs.Prelude.{◌≡◌, ℕ, ◌+◌, ◌*◌, ◌/◌, ◌%◌, ◌<◌, ◌≤◌}
use Rattle.std.proofs.Common.{arith, refl}
use Rattle.foyer_format_layout.specs.Page.{page_up}

pub page_up-zero : page_up 0 ≡ 0
unfolding page_up
page_up-zero = refl

pub page_up-whole : (n : ℕ) → page_up n ≡ (n + 4095) / 4096 * 4096
unfolding page_up
page_up-whole n = refl

pub page_up-holds : (n : ℕ) → n ≤ page_up n
unfolding page_up
page_up-holds n = omega arith

pub page_up-fewest : (n : ℕ) → page_up n < n + 4096
unfolding page_up
page_up-fewest n = omega arith

pub page_up-mono : (n m : ℕ) → n ≤ m → page_up n ≤ page_up m
unfolding page_up
page_up-mono n m le = omega arith

pub page_up-pages : (k : ℕ) → page_up (k * 4096) ≡ k * 4096
unfolding page_up
page_up-pages k = omega arith

pub page_up-even : (n : ℕ) → n % 4096 ≡ 0 → page_up n ≡ n
unfolding page_up
page_up-even n even = omega arith

pub even-page_up : (n : ℕ) → page_up n % 4096 ≡ 0
unfolding page_up
even-page_up n = omega arith

pub page_up-least : (n m : ℕ) → n ≤ m → m % 4096 ≡ 0 → page_up n ≤ m
unfolding page_up
page_up-least n m le even = omega arith

pub ruleset pages = (page_up-holds, page_up-fewest)

pub ruleset page_laws = (page_up-holds, even-page_up)
