-- How the partitions of a combined device grow.
use Rattle.std.proofs.Common.{◌≡◌, ◌≢◌, ℕ, zero, suc, ◌+◌, ◌-◌, ◌^◌, ◌<◌, ◌≤◌, ◌⊎◌, inl, inr, ⊎_elim, List, [], ◌∷◌, ◌++◌, map, take, drop, length, refl, sym, ◌∙◌, ap, subst, arith, get_or, set, Option, Some, None, Bool, true, false, add-one}
use Rattle.std.specs.Prelude.{slice_get, sum_by, ◌&&◌, ◌||◌, not, IsTrue}
use Rattle.std.specs.List.{list_all, list_any}
use Rattle.std.proofs.lemmas.Grind.{common_steps}
use Rattle.std.proofs.lemmas.List.{map-append, length-set, get_or-set_same, drop_all}
use Rattle.std.proofs.lemmas.List.Sums.{sum_by-set, sum_by_more, sum_by_more_le}
use Rattle.std.proofs.lemmas.Option.{slice_get-get_or, slice_get_within, get_or_from_slice_get}
use Rattle.foyer_device_partition.specs.Extent.{Extent, AreApart, IsApartFromAll, AreDisjoint, LieInFiles}
use Rattle.foyer_device_partition.specs.Combined.{shift, Continues, Combines}
use Rattle.foyer_device_partition.proofs.DropLemmas.{drop_push, disjoint_drop, within_drop}
use Rattle.foyer_device_page.specs.declared.error.Error.{Error}
use Rattle.foyer_device_page.specs.declared.error.Error.TheVariants as error

-- each is apart from b
abbrev pub AllApart : List Extent → Extent → Type 0
AllApart [] b = Unit {0}
AllApart (x ∷ xs) b = AreApart x b × AllApart xs b

last_apart : (a b : Extent) (xs : List Extent) → IsApartFromAll a (xs ++ b ∷ []) → AreApart a b
last_apart a b [] h = h.0
last_apart a b (x ∷ xs) h = last_apart a b xs h.1

disjoint_last : (b : Extent) (xs : List Extent) → AreDisjoint (xs ++ b ∷ []) → AllApart xs b
disjoint_last b [] h = tt
disjoint_last b (x ∷ xs) h = (last_apart x b xs h.0, disjoint_last b xs h.1)

from_push : (a b : Extent) (xs : List Extent) → IsApartFromAll a xs → AreApart a b → IsApartFromAll a (xs ++ b ∷ [])
from_push a b [] h ab = (ab, tt)
from_push a b (x ∷ xs) h ab = (h.0, from_push a b xs h.1 ab)

disjoint_push : (b : Extent) (xs : List Extent) → AreDisjoint xs → AllApart xs b → AreDisjoint (xs ++ b ∷ [])
disjoint_push b [] h all = (tt, tt)
disjoint_push b (x ∷ xs) h all = (from_push x b xs h.0 all.0, disjoint_push b xs h.1 all.1)

shift_apart : (k : ℕ) (a b : Extent) → AreApart a b → AreApart (shift k a) (shift k b)
shift_apart k a b h = ⊎_elim (λ n. inl (λ e. n (omega arith))) (λ r. inr r) h

all_shift : (k : ℕ) (b : Extent) (ys : List Extent) → AllApart ys b → AllApart (map (shift k) ys) (shift k b)
all_shift k b [] h = tt
all_shift k b (y ∷ ys) h = (shift_apart k y b h.0, all_shift k b ys h.1)

files_apart : (k : ℕ) (b : Extent) (xs : List Extent) → LieInFiles k xs → k ≤ b.file → AllApart xs b
files_apart k b [] h le = tt
files_apart k b (x ∷ xs) h le = (inl (λ e. absurd (omega (arith, h.0, le, e))), files_apart k b xs h.1 le)

all_append : (b : Extent) (n : ℕ) (xs : List Extent) → AllApart (take n xs) b → AllApart (drop n xs) b → AllApart xs b
all_append b zero xs h k = k
all_append b (suc n) [] h k = tt
all_append b (suc n) (x ∷ xs) h k = (h.0, all_append b n xs h.1 k)

within_push : (n : ℕ) (b : Extent) (xs : List Extent) → LieInFiles n xs → b.file < n → LieInFiles n (xs ++ b ∷ [])
within_push n b [] h low = (low, tt)
within_push n b (x ∷ xs) h low = (h.0, within_push n b xs h.1 low)

within_more : (n m : ℕ) (xs : List Extent) → LieInFiles n xs → n ≤ m → LieInFiles m xs
within_more n m [] h le = tt
within_more n m (x ∷ xs) h le = (omega (arith, h.0, le), within_more n m xs h.1 le)

pub within_last : (n : ℕ) (b : Extent) (xs : List Extent) → LieInFiles n (xs ++ b ∷ []) → b.file < n
within_last n b [] h = h.0
within_last n b (x ∷ xs) h = within_last n b xs h.1

take_push : {X : Type 0} (n : ℕ) (b : X) (xs : List X) → n ≤ length xs → take n (xs ++ b ∷ []) ≡ take n xs
take_push n b xs le = grind (arith, common_steps)

take_set : {X : Type 0} (n : ℕ) (y : X) (xs : List X) → take n (set xs n y) ≡ take n xs
take_set zero y xs = refl
take_set (suc n) y [] = refl
take_set {X = X} (suc n) y (x ∷ xs) = ap (λ (zs : List X). x ∷ zs) (take_set n y xs)

take_whole : {X : Type 0} (xs : List X) → take (length xs) xs ≡ xs
take_whole [] = refl
take_whole {X = X} (x ∷ xs) = ap (λ (zs : List X). x ∷ zs) (take_whole xs)

module _ {D : Type 0} (count : D → ℕ) (extents : D → List Extent) where
  -- the present device's files are among all
  pub present_files : (devices : List D) (present base n first files : ℕ) (all : List Extent) (d : D) → Combines count extents devices present base n first files all
      → slice_get devices present ≡ Some d → base + count d ≤ files
  present_files devices present base n first files all d h is =
      let lt = slice_get_within devices present d is in
      let more = sum_by_more_le count devices present d lt in
      let same = ap count (get_or_from_slice_get devices present d d is) in
      omega (arith, more, same, h.base_sum, h.files_sum)

  -- the next device becomes the present one
  pub next_device : (devices : List D) (present base n first files next_base next_n next_first : ℕ) (all : List Extent) (d : D) → Combines count extents devices present base n first files all
      → slice_get devices present ≡ Some d → next_base ≡ base + count d → next_n ≡ length all → ((e : D) → slice_get devices (present + 1) ≡ Some e → next_first ≡ length (extents e))
      → Combines count extents devices (present + 1) next_base next_n next_first files all
  next_device devices present base n first files next_base next_n next_first all d h is step whole start =
      let lt = slice_get_within devices present d is in
      let here = h.here d is in
      let more = sum_by_more count devices present d lt in
      let same = ap count (get_or_from_slice_get devices present d d is) in
      let within : LieInFiles next_base all = within_more (base + count d) next_base all here.within (omega arith) in
      let W : List Extent → Type 0 = λ zs. LieInFiles next_base zs in
      let P : ℕ → Type 0 = λ k. Combines count extents devices (present + 1) next_base k next_first files all in
      subst P (sym whole) record {
        apart = h.apart;
        enough = omega arith;
        before = subst W (sym (take_whole all)) within;
        within = h.within;
        here = λ e at.
            let first_is = start e at in record {
              given = omega arith;
              same = drop_all (length all) all (omega arith) ∙ sym (ap (map (shift next_base)) (drop_all next_first (extents e) (omega arith)));
              within = within_more next_base (next_base + count e) all within (omega arith);
            };
        order = omega arith;
        base_sum = omega (arith, more, same, h.base_sum, step);
        files_sum = h.files_sum;
      }

  -- the present device was asked and gave nothing
  pub keeps : (devices : List D) (present base n first files new_files : ℕ) (all : List Extent) (d e : D) → Combines count extents devices present base n first files all
      → slice_get devices present ≡ Some d → extents e ≡ extents d → count e ≡ count d → new_files ≡ files
      → Combines count extents (set devices present e) present base n first new_files all
  keeps devices present base n first files new_files all d e h is ee ce fe =
      let lt = slice_get_within devices present d is in
      let here = h.here d is in
      let sums = sum_by-set count devices present e d lt in
      let was = ap count (get_or_from_slice_get devices present d d is) in
      let C : D → Type 0 = λ x. Continues count extents base n first all x in
      let same : Continues count extents base n first all e = record {
        given = let k = ap length ee in omega (arith, here.given, k);
        same = here.same ∙ sym (ap (λ (zs : List Extent). map (shift base) (drop first zs)) ee);
        within = within_more (base + count d) (base + count e) all here.within (omega arith);
      } in
      record {
        apart = h.apart;
        enough = h.enough;
        before = h.before;
        within = within_more files new_files all h.within (omega arith);
        here = λ x at.
            let y : x ≡ e = sym (get_or_from_slice_get (set devices present e) present x e at) ∙ get_or-set_same devices present e e lt in subst C (sym y) same;
        order = let k = length-set devices present e in omega (arith, k, h.order);
        base_sum = h.base_sum ∙ ap (sum_by count) (sym (take_set present e devices));
        files_sum = omega (arith, sums, was, ce, fe, h.files_sum);
      }

  -- the present device was asked and gave one partition more
  pub gains : (devices : List D) (present base n first files new_files : ℕ) (all : List Extent) (d e : D) (x : Extent) → Combines count extents devices present base n first files all
      → slice_get devices present ≡ Some d → extents e ≡ extents d ++ x ∷ [] → AreDisjoint (extents e) → LieInFiles (count e) (extents e) → count d ≤ count e → new_files ≡ files + (count e - count d)
      → Combines count extents (set devices present e) present base n first new_files (all ++ shift base x ∷ [])
  gains devices present base n first files new_files all d e x h is ee apart low more fe =
      let b = shift base x in
      let lt = slice_get_within devices present d is in
      let here = h.here d is in
      let sums = sum_by-set count devices present e d lt in
      let was = ap count (get_or_from_slice_get devices present d d is) in
      let fits = present_files devices present base n first files all d h is in
      let ys = drop first (extents d) in
      let grown : drop first (extents e) ≡ ys ++ x ∷ [] = ap (drop first) ee ∙ drop_push first (extents d) x here.given in
      let P : List Extent → Type 0 = λ zs. AreDisjoint zs in
      let F : List Extent → Type 0 = λ zs. LieInFiles (count e) zs in
      let A : List Extent → Type 0 = λ zs. AllApart zs b in
      let last : x.file < count e = within_last (count e) x (extents d) (subst F ee low) in
      let tail : AllApart (drop n all) b = subst A (sym here.same) (all_shift base x ys (disjoint_last x ys (subst P grown (disjoint_drop first (extents e) apart)))) in
      let head : AllApart (take n all) b = files_apart base b (take n all) h.before (omega arith) in
      let W : List Extent → Type 0 = λ zs. LieInFiles base zs in
      let within : LieInFiles (base + count e) (all ++ b ∷ []) = within_push (base + count e) b all (within_more (base + count d) (base + count e) all here.within (omega arith)) (omega arith) in
      let C : D → Type 0 = λ y. Continues count extents base n first (all ++ b ∷ []) y in
      let same : Continues count extents base n first (all ++ b ∷ []) e = record {
        given = let k = ap length ee in grind (arith, common_steps, here.given, k);
        same = drop_push n all b h.enough ∙ ap (λ (zs : List Extent). zs ++ b ∷ []) here.same ∙ sym (map-append (shift base) ys (x ∷ [])) ∙ sym (ap (map (shift base)) grown);
        within = within;
      } in
      record {
        apart = disjoint_push b all h.apart (all_append b n all head tail);
        enough = let k = h.enough in grind (arith, common_steps, k);
        before = subst W (sym (take_push n b all h.enough)) h.before;
        within = within_more (base + count e) new_files (all ++ b ∷ []) within (omega (arith, fits, fe, more));
        here = λ z at.
            let y : z ≡ e = sym (get_or_from_slice_get (set devices present e) present z e at) ∙ get_or-set_same devices present e e lt in subst C (sym y) same;
        order = let k = length-set devices present e in omega (arith, k, h.order);
        base_sum = h.base_sum ∙ ap (sum_by count) (sym (take_set present e devices));
        files_sum = omega (arith, sums, was, fe, more, h.files_sum);
      }

or_true : (b : Bool) → (b || true) ≡ true
or_true true = refl
or_true false = refl

module _ {D : Type 0} (p : D → Bool) where
  all_suc : (xs : List D) (i : ℕ) (d : D) → slice_get xs i ≡ Some d → p d ≡ true → list_all p (drop (suc i) xs) ≡ list_all p (drop i xs)
  all_suc [] i d is has = cc
  all_suc (x ∷ xs) zero d is has = let same : x ≡ d = cc in let here : p x ≡ true = ap p same ∙ has in sym (ap (λ (b : Bool). b && list_all p xs) here)
  all_suc (x ∷ xs) (suc i) d is has = all_suc xs i d is has

  -- one that has the property doesn't count
  pub all_next : (xs : List D) (i : ℕ) (d : D) → slice_get xs i ≡ Some d → p d ≡ true → list_all p (drop (i + 1) xs) ≡ list_all p (drop i xs)
  all_next xs i d is has = ap (λ (k : ℕ). list_all p (drop k xs)) (add-one i) ∙ all_suc xs i d is has

  -- one that lacks it
  pub all_lacks : (xs : List D) (i : ℕ) (d : D) → slice_get xs i ≡ Some d → p d ≡ false → list_all p (drop i xs) ≡ false
  all_lacks [] i d is lacks = cc
  all_lacks (x ∷ xs) zero d is lacks = let same : x ≡ d = cc in let here : p x ≡ false = ap p same ∙ lacks in ap (λ (b : Bool). b && list_all p xs) here
  all_lacks (x ∷ xs) (suc i) d is lacks = all_lacks xs i d is lacks

  -- one that has it, at i or behind
  pub any_has : (xs : List D) (i k : ℕ) (d : D) → slice_get xs k ≡ Some d → p d ≡ true → i ≤ k → list_any p (drop i xs) ≡ true
  any_has [] i k d is has le = cc
  any_has (x ∷ xs) (suc i) (suc k) d is has le = any_has xs i k d is has (omega arith)
  any_has (x ∷ xs) (suc i) zero d is has le = absurd (omega arith)
  any_has (x ∷ xs) zero zero d is has le = let same : x ≡ d = cc in let here : p x ≡ true = ap p same ∙ has in ap (λ (b : Bool). b || list_any p xs) here
  any_has (x ∷ xs) zero (suc k) d is has le = let rest : list_any p xs ≡ true = any_has xs zero k d is has (omega arith) in ap (λ (b : Bool). p x || b) rest ∙ or_true (p x)

  -- one behind k is one behind i
  pub any_more : (xs : List D) (i k : ℕ) → i ≤ k → list_any p (drop k xs) ≡ true → list_any p (drop i xs) ≡ true
  any_more xs zero zero le some = some
  any_more [] zero (suc k) le some = some
  any_more (x ∷ xs) zero (suc k) le some = let rest : list_any p xs ≡ true = any_more xs zero k (omega arith) some in ap (λ (b : Bool). p x || b) rest ∙ or_true (p x)
  any_more xs (suc i) zero le some = absurd (omega arith)
  any_more [] (suc i) (suc k) le some = some
  any_more (x ∷ xs) (suc i) (suc k) le some = any_more xs i k (omega arith) some

pub or_last : (a b c : Bool) → c ≡ true → (a || (b || c)) ≡ true
or_last a b c is = ap (λ (d : Bool). a || (b || d)) is ∙ ap (λ (d : Bool). a || d) (or_true b) ∙ or_true a

-- why the present device, which has space, refused
pub refusal : {D : Type 0} (is_full lacks_space : D → Bool) (xs : List D) (i : ℕ) (d : D) (Good : Type 0) (e : Error) → slice_get xs i ≡ Some d → lacks_space d ≡ false
    → (e ≡ error.Config) ⊎ (e ≡ error.NoSpace) ⊎ (e ≡ error.Io) ⊎ (e ≡ error.Memory)
    → (e ≡ error.Config → (¬ Good) ⊎ IsTrue (is_full d)) → (e ≡ error.NoSpace → Good × IsTrue (lacks_space d))
    → ((e ≡ error.Config) × ((¬ Good) ⊎ IsTrue (list_any is_full (drop i xs)))) ⊎ (e ≡ error.Io) ⊎ (e ≡ error.Memory)
refusal is_full lacks_space xs i d Good e is has why full space =
    ⊎_elim
    (λ config. inl (config, ⊎_elim (λ bad. inl bad) (λ at. inr (any_has is_full xs i i d is at (omega arith))) (full config)))
    (λ rest. ⊎_elim (λ none. absurd (let lacking = (space none).1 in cc)) (λ other. inr other) rest) why
