-- Whatever an opening finds, it begins a world of the laws.
use Rattle.std.proofs.Common.{◌≡◌, ◌≢◌, ℕ, zero, suc, ◌+◌, ◌<◌, ◌≤◌, ◌==◌, ◌^◌, nat_lt, nat_le, Bool, true, false, ◌||◌, if◌then◌else◌, Option, Some, None, List, [], ◌∷◌, ◌++◌, refl, sym, ap, subst, ◌∙◌, ◌⊎◌, inl, inr, arith}
use Rattle.std.proofs.lemmas.Bool.{eqb-true, eqb-false, eq-eqb}
use Rattle.std.proofs.lemmas.Bool.Decides.{nat_tests}
use Rattle.foyer_format_layout.proofs.EachLaws.{each_join}
use Rattle.foyer_format_blob.specs.declared.blob.BlobEntryIndex.{BlobEntryIndex}
use Rattle.foyer_format_layout.specs.Each.{Each}
use Rattle.foyer_format_layout.specs.Position.{Sizes}
use Rattle.foyer_core_model.specs.Ids.{ids, is_id_in}
use Rattle.foyer_core_model.specs.Opened.{IsOpened as IsOpenedWorld, IsFound, AllFound, IsAlone, slot_among, is_clean, clean_among}
use Rattle.foyer_core_model.specs.Record.{Address, Slot, Indexed, Mark}
use Rattle.foyer_core_model.specs.Rules.{Rules}
use Rattle.foyer_core_model.specs.State as model_state
use Rattle.foyer_core_restart.specs.Opening.{Opened, Found, Stands, Marked, hash_of, sequence_of, first_or, winner, opened_at, slot_of, stand_in, all_stand, all_marked, greatest, is_empty, clean_from}
use Rattle.foyer_core_restart.specs.Placed.{IsPlaced, IsOpening}
use Rattle.foyer_core_restart.proofs.CleanLemmas.{clean_is}
use Rattle.foyer_core_restart.proofs.FoundLemmas.{clean_push}
use Rattle.foyer_core_laws.specs.Begins.{place_of, opened_state, opened_world}
use Rattle.foyer_core_laws.specs.CoreRules.{rules_of}
use Rattle.foyer_core_settings.specs.Sizes.{AreValid, sizes_in}
use Rattle.foyer_core_settings.specs.declared.settings.Settings.{Settings}

-- whether something was found of a hash
abbrev is_named : ℕ → List Found → Bool
is_named h [] = false
is_named h (x ∷ xs) = hash_of x == h || is_named h xs

-- the address of a hash before others, if it has one
abbrev found_if : ℕ → Option Slot → List (ℕ × Address) → List (ℕ × Address)
found_if h None rest = rest
found_if h (Some (Mark s)) rest = rest
found_if h (Some (Indexed a)) rest = (h, a) ∷ rest

-- each hash once, with the address that a map has of it
abbrev found_by : (ℕ → Option Slot) → List Found → List (ℕ × Address)
found_by slots [] = []
found_by slots (x ∷ xs) = if is_named (hash_of x) xs then found_by slots xs else found_if (hash_of x) (slots (hash_of x)) (found_by slots xs)

named_same : (h : ℕ) (x : Found) (xs : List Found) → hash_of x ≡ h → is_named (hash_of x) xs ≡ is_named h xs
named_same h x xs same = ap (λ q. is_named q xs) same

unnamed_wins : (h : ℕ) (xs : List Found) → is_named h xs ≡ false → winner h xs ≡ None
unnamed_wins h [] not = refl
unnamed_wins h (x ∷ xs) not = go (hash_of x == h) not (λ later. unnamed_wins h xs later)
  where
    go : (t : Bool) → (t || is_named h xs) ≡ false → (is_named h xs ≡ false → winner h xs ≡ None) → (if t then first_or x (winner h xs) else winner h xs) ≡ None
    go true bad none = absurd (cc)
    go false later none = none later

module _ (slots : ℕ → Option Slot) (unmarked : (h s : ℕ) → slots h ≡ Some (Mark s) → ⊥) where
  slot_found : (h : ℕ) (xs : List Found) → slot_among h (found_by slots xs) ≡ (if is_named h xs then slots h else None)
  slot_found h [] = refl
  slot_found h (x ∷ xs) = go (is_named (hash_of x) xs) refl (hash_of x == h) refl (slot_found h xs)
    where
      rest : List (ℕ × Address)
      rest = found_by slots xs

      first : hash_of x ≡ h → (o : Option Slot) → slots (hash_of x) ≡ o → is_named h xs ≡ false → slot_among h rest ≡ (if is_named h xs then slots h else None)
          → slot_among h (found_if (hash_of x) o rest) ≡ slots h
      first same None at not later = later ∙ ap (λ (t : Bool). if t then slots h else None) not ∙ sym (ap slots (sym same) ∙ at)
      first same (Some (Mark s)) at not later = absurd (unmarked (hash_of x) s at)
      first same (Some (Indexed a)) at not later =
          ap (λ (t : Bool). if t then Some (Indexed a) else slot_among h rest) (eq-eqb (hash_of x) h same) ∙ sym (ap slots (sym same) ∙ at)

      other : (hash_of x == h) ≡ false → (o : Option Slot) → slot_among h (found_if (hash_of x) o rest) ≡ slot_among h rest
      other ne None = refl
      other ne (Some (Mark s)) = refl
      other ne (Some (Indexed a)) = ap (λ (t : Bool). if t then Some (Indexed a) else slot_among h rest) ne

      go : (n : Bool) → is_named (hash_of x) xs ≡ n → (t : Bool) → (hash_of x == h) ≡ t → slot_among h rest ≡ (if is_named h xs then slots h else None)
          → slot_among h (if n then rest else found_if (hash_of x) (slots (hash_of x)) rest) ≡ (if t || is_named h xs then slots h else None)
      go true named true e later =
          let same : hash_of x ≡ h = eqb-true (hash_of x) h e in
          later ∙ ap (λ (t : Bool). if t then slots h else None) (sym (named_same h x xs same) ∙ named)
      go true named false e later = later
      go false named true e later =
          let same : hash_of x ≡ h = eqb-true (hash_of x) h e in
          first same (slots (hash_of x)) refl (sym (named_same h x xs same) ∙ named) later
      go false named false e later = other e (slots (hash_of x)) ∙ later

  alone_found : (h : ℕ) (xs : List Found) → is_named h xs ≡ false → IsAlone h (found_by slots xs)
  alone_found h [] not = tt
  alone_found h (x ∷ xs) not = go (hash_of x == h) refl not (λ later. alone_found h xs later)
    where
      rest : List (ℕ × Address)
      rest = found_by slots xs

      first : hash_of x ≢ h → IsAlone h rest → (o : Option Slot) → IsAlone h (found_if (hash_of x) o rest)
      first ne alone None = alone
      first ne alone (Some (Mark s)) = alone
      first ne alone (Some (Indexed a)) = (ne, alone)

      either : hash_of x ≢ h → IsAlone h rest → (n : Bool) → IsAlone h (if n then rest else found_if (hash_of x) (slots (hash_of x)) rest)
      either ne alone true = alone
      either ne alone false = first ne alone (slots (hash_of x))

      go : (t : Bool) → (hash_of x == h) ≡ t → (t || is_named h xs) ≡ false → (is_named h xs ≡ false → IsAlone h rest)
          → IsAlone h (if is_named (hash_of x) xs then rest else found_if (hash_of x) (slots (hash_of x)) rest)
      go true e bad alone = absurd (cc)
      go false e later alone = either (eqb-false (hash_of x) h e) (alone later) (is_named (hash_of x) xs)

  module _ {C : Type 0} (rules : Rules C) (core : model_state.State C) (good : (h : ℕ) (a : Address) → slots h ≡ Some (Indexed a) → IsFound rules core h a) where
    all_found : (xs : List Found) → AllFound rules core (found_by slots xs)
    all_found [] = tt
    all_found (x ∷ xs) = go (is_named (hash_of x) xs) refl (all_found xs)
      where
        rest : List (ℕ × Address)
        rest = found_by slots xs

        first : is_named (hash_of x) xs ≡ false → AllFound rules core rest → (o : Option Slot) → slots (hash_of x) ≡ o → AllFound rules core (found_if (hash_of x) o rest)
        first not are None at = are
        first not are (Some (Mark s)) at = are
        first not are (Some (Indexed a)) at = (good (hash_of x) a at, alone_found (hash_of x) xs not, are)

        go : (n : Bool) → is_named (hash_of x) xs ≡ n → AllFound rules core rest
            → AllFound rules core (if n then rest else found_if (hash_of x) (slots (hash_of x)) rest)
        go true named are = are
        go false named are = first named are (slots (hash_of x)) refl

-- what wins was found
record Wins (G : Found → Type 0) (h : ℕ) (xs : List Found) (x : Found) : Type 0 where
  good : G x
  hash : hash_of x ≡ h
  least : sequence_of x ≤ greatest xs

greatest_above : (x : Found) (xs : List Found) → (sequence_of x ≤ greatest (x ∷ xs)) × (greatest xs ≤ greatest (x ∷ xs))
greatest_above x xs = go (nat_le (greatest xs) (sequence_of x)) refl
  where
    go : (t : Bool) → nat_le (greatest xs) (sequence_of x) ≡ t
        → (sequence_of x ≤ (if t then sequence_of x else greatest xs)) × (greatest xs ≤ (if t then sequence_of x else greatest xs))
    go true e = let le : greatest xs ≤ sequence_of x = grind (arith, nat_tests) in (omega arith, le)
    go false e = let lt : sequence_of x < greatest xs = grind (arith, nat_tests) in (omega arith, omega arith)

winner_is : (G : Found → Type 0) (h : ℕ) (xs : List Found) → Each G xs → (y : Found) → winner h xs ≡ Some y → Wins G h xs y
winner_is G h [] all y is = absurd (cc)
winner_is G h (x ∷ xs) all y is = go (hash_of x == h) refl is (λ at. winner_is G h xs all.1 y at)
  where
    here : hash_of x ≡ h → Wins G h (x ∷ xs) x
    here same = record { good = all.0; hash = same; least = (greatest_above x xs).0 }

    later : Wins G h xs y → Wins G h (x ∷ xs) y
    later w =
        let below : greatest xs ≤ greatest (x ∷ xs) = (greatest_above x xs).1 in
        let on : sequence_of y ≤ greatest xs = w.least in
        record { good = w.good; hash = w.hash; least = omega arith }

    two : (winner h xs ≡ Some y → Wins G h xs y) → hash_of x ≡ h → (w : Option Found) → winner h xs ≡ w → first_or x w ≡ Some y → Wins G h (x ∷ xs) y
    two among same None at this = subst (λ z. Wins G h (x ∷ xs) z) (let e : x ≡ y = cc in e) (here same)
    two among same (Some z) at this = either (nat_lt (sequence_of z) (sequence_of x)) this
      where
        either : (t : Bool) → (if t then Some x else Some z) ≡ Some y → Wins G h (x ∷ xs) y
        either true this = subst (λ z. Wins G h (x ∷ xs) z) (let e : x ≡ y = cc in e) (here same)
        either false this = later (among (at ∙ this))

    go : (t : Bool) → (hash_of x == h) ≡ t → (if t then first_or x (winner h xs) else winner h xs) ≡ Some y → (winner h xs ≡ Some y → Wins G h xs y) → Wins G h (x ∷ xs) y
    go true e this among = two among (eqb-true (hash_of x) h e) (winner h xs) refl this
    go false e this among = later (among this)

-- an entry that stands in one of n blocks, which isn't clean
abbrev IsGood : (s : Sizes) (n : ℕ) (keeps : ℕ → List BlobEntryIndex) → Found → Type 0
IsGood s n keeps (Stands b e) = (b < n) × IsPlaced s e × (is_empty (keeps b) ≡ false)
IsGood s n keeps (Marked h q) = Unit {0}

module _ (s : Sizes) (n : ℕ) (keeps : ℕ → List BlobEntryIndex) (placed : (b : ℕ) → b < n → Each (IsPlaced s) (keeps b)) where
  good_in : (b : ℕ) → b < n → (es : List BlobEntryIndex) → Each (IsPlaced s) es → is_empty (keeps b) ≡ false → Each (IsGood s n keeps) (stand_in b es)
  good_in b lt [] are some = tt
  good_in b lt (e ∷ es) are some = ((lt, are.0, some), good_in b lt es are.1 some)

  good_here : (b : ℕ) → b < n → Each (IsGood s n keeps) (stand_in b (keeps b))
  good_here b lt = go (keeps b) refl (placed b lt)
    where
      go : (es : List BlobEntryIndex) → keeps b ≡ es → Each (IsPlaced s) es → Each (IsGood s n keeps) (stand_in b es)
      go [] is are = tt
      go (e ∷ es) is are = good_in b lt (e ∷ es) are (ap is_empty is)

  good_all : (from k : ℕ) → from + k ≤ n → Each (IsGood s n keeps) (all_stand from k keeps)
  good_all from zero le = tt
  good_all from (suc k) le =
      each_join (IsGood s n keeps) (stand_in from (keeps from)) (all_stand (from + 1) k keeps) (good_here from (omega arith)) (good_all (from + 1) k (omega (arith, le)))

  good_marked : (marks : List (ℕ × ℕ)) → Each (IsGood s n keeps) (all_marked marks)
  good_marked [] = tt
  good_marked (m ∷ ms) = (tt, good_marked ms)

  good_found : (marks : List (ℕ × ℕ)) → Each (IsGood s n keeps) (all_stand 0 n keeps ++ all_marked marks)
  good_found marks = each_join (IsGood s n keeps) (all_stand 0 n keeps) (all_marked marks) (good_all 0 n (let le : 0 + n ≤ n = omega arith in le)) (good_marked marks)

  -- the set of a block
  place_is : (b : ℕ) → b < n → place_of n (clean_from 0 n keeps) b ≡ (if is_empty (keeps b) then model_state.Clean else model_state.Evictable)
  place_is b lt =
      let there : nat_lt b n ≡ true = grind (arith, nat_tests) in
      ap (λ (t : Bool). if t then (if is_id_in b (clean_from 0 n keeps) then model_state.Clean else model_state.Evictable) else model_state.Clean) there
      ∙ ap (λ (t : Bool). if t then model_state.Clean else model_state.Evictable) (clean_is keeps n 0 b (omega arith) (omega arith))

  clean_place : (b : ℕ) → b < n → is_clean (place_of n (clean_from 0 n keeps) b) ≡ is_empty (keeps b)
  clean_place b lt = ap is_clean (place_is b lt) ∙ go (is_empty (keeps b))
    where
      go : (t : Bool) → is_clean (if t then model_state.Clean else model_state.Evictable) ≡ t
      go true = refl
      go false = refl

  among_append : (place : ℕ → model_state.BlockSet) (xs : List ℕ) (x : ℕ) → clean_among place (xs ++ x ∷ []) ≡ clean_among place xs ++ (if is_clean (place x) then x ∷ [] else [])
  among_append place [] x = refl
  among_append place (y ∷ ys) x = go (is_clean (place y)) (among_append place ys x)
    where
      go : (t : Bool) → clean_among place (ys ++ x ∷ []) ≡ clean_among place ys ++ (if is_clean (place x) then x ∷ [] else [])
          → (if t then y ∷ clean_among place (ys ++ x ∷ []) else clean_among place (ys ++ x ∷ []))
          ≡ (if t then y ∷ clean_among place ys else clean_among place ys) ++ (if is_clean (place x) then x ∷ [] else [])
      go true rest = ap (λ l. y ∷ l) rest
      go false rest = rest

  clean_listed : (k : ℕ) → k ≤ n → clean_from 0 k keeps ≡ clean_among (place_of n (clean_from 0 n keeps)) (ids k)
  clean_listed zero le = refl
  clean_listed (suc k) le =
      let place : ℕ → model_state.BlockSet = place_of n (clean_from 0 n keeps) in
      let at : 0 + k ≡ k = omega arith in
      clean_push 0 k keeps ∙ ap (λ b. clean_from 0 k keeps ++ (if is_empty (keeps b) then b ∷ [] else [])) at
      ∙ ap (λ (t : Bool). clean_from 0 k keeps ++ (if t then k ∷ [] else [])) (sym (clean_place k (omega arith)))
      ∙ ap (λ l. l ++ (if is_clean (place k) then k ∷ [] else [])) (clean_listed k (omega arith))
      ∙ sym (among_append place (ids k) k)

-- an evictable block is there
place_there : (n : ℕ) (clean : List ℕ) (b : ℕ) → (place_of n clean b ≡ model_state.Clean) ⊎ ((b < n) × (place_of n clean b ≡ model_state.Evictable))
place_there n clean b = go (nat_lt b n) refl (is_id_in b clean)
  where
    go : (t : Bool) → nat_lt b n ≡ t → (u : Bool)
        → ((if t then (if u then model_state.Clean else model_state.Evictable) else model_state.Clean) ≡ model_state.Clean)
        ⊎ ((b < n) × ((if t then (if u then model_state.Clean else model_state.Evictable) else model_state.Clean) ≡ model_state.Evictable))
    go true e true = inl refl
    go true e false = inr (grind (arith, nat_tests), refl)
    go false e u = inl refl

module _ (is_key is_value : List ℕ → Bool) (s : Settings) (sound : AreValid s) (marks : List (ℕ × ℕ)) (o : Opened) (is : IsOpening (sizes_in s) s.blocks marks o) where
  abbrev all : List Found
  all = all_stand 0 s.blocks is.keeps ++ all_marked marks

  won : (h : ℕ) (y : Found) → winner h all ≡ Some y → Wins (IsGood (sizes_in s) s.blocks is.keeps) h all y
  won h y at = winner_is (IsGood (sizes_in s) s.blocks is.keeps) h all (good_found (sizes_in s) s.blocks is.keeps is.placed marks) y at

  no_mark : (w : Option Found) (q : ℕ) → slot_of w ≡ Some (Mark q) → ⊥
  no_mark None q bad = cc
  no_mark (Some (Marked g t)) q bad = cc
  no_mark (Some (Stands b e)) q bad = cc

  unmarked : (h q : ℕ) → o.index h ≡ Some (Mark q) → ⊥
  unmarked h q bad = no_mark (winner h all) q (sym (is.index h) ∙ bad)

  -- what an address is
  pub stands_at : (h : ℕ) (a : Address) → o.index h ≡ Some (Indexed a) → IsFound (rules_of is_key is_value s sound) (opened_state (rules_of is_key is_value s sound) o) h a
  stands_at h a at = go (winner h all) refl (sym (is.index h) ∙ at)
    where
      go : (w : Option Found) → winner h all ≡ w → slot_of w ≡ Some (Indexed a)
          → IsFound (rules_of is_key is_value s sound) (opened_state (rules_of is_key is_value s sound) o) h a
      go None wins bad = absurd (cc)
      go (Some (Marked g t)) wins bad = absurd (cc)
      go (Some (Stands b e)) wins at =
          let w = won h (Stands b e) wins in
          let same : opened_at b e ≡ a = cc in
          let good : (b < s.blocks) × IsPlaced (sizes_in s) e × (is_empty (is.keeps b) ≡ false) = w.good in
          let place : place_of s.blocks o.clean b ≡ model_state.Evictable =
          ap (λ l. place_of s.blocks l b) is.clean ∙ place_is (sizes_in s) s.blocks is.keeps is.placed b good.0
          ∙ ap (λ (t : Bool). if t then model_state.Clean else model_state.Evictable) good.2 in
          let least : e.sequence ≤ greatest all = w.least in
          let next : o.next ≡ greatest all + 1 = is.next in
          let named : e.hash ≡ h = w.hash in
          let small : e.hash < 2 ^ 64 = (good.1).hash in
          subst (IsFound (rules_of is_key is_value s sound) (opened_state (rules_of is_key is_value s sound) o) h) same (record {
            hash = omega arith;
            filling = refl;
            sequence = omega arith;
            block = good.0;
            place = place;
            behind = (good.1).behind;
            within = (good.1).within;
          })

  abbrev found : List (ℕ × Address)
  found = found_by o.index all

  index_is : (h : ℕ) → o.index h ≡ slot_among h found
  index_is h = go (is_named h all) refl ∙ sym (slot_found o.index unmarked h all)
    where
      go : (t : Bool) → is_named h all ≡ t → o.index h ≡ (if t then o.index h else None)
      go true e = refl
      go false e = is.index h ∙ ap slot_of (unnamed_wins h all e)

  -- and so a run begins
  pub world_opened : (bytes : ℕ → ℕ → ℕ) → (found : List (ℕ × Address))
      × IsOpenedWorld (rules_of is_key is_value s sound) (opened_world (rules_of is_key is_value s sound) bytes o found)
  world_opened bytes = (
    found,
    record {
      found = found;
      all = all_found o.index unmarked (rules_of is_key is_value s sound) (opened_state (rules_of is_key is_value s sound) o) stands_at all;
      index = index_is;
      history = refl;
      kept = λ h. refl;
      place = λ b. place_there s.blocks o.clean b;
      clean = is.clean ∙ clean_listed (sizes_in s) s.blocks is.keeps is.placed s.blocks (let le : s.blocks ≤ s.blocks = omega arith in le)
          ∙ ap (λ l. clean_among (place_of s.blocks l) (ids s.blocks)) (sym is.clean);
      first = let next : o.next ≡ greatest all + 1 = is.next in omega arith;
      last = let below : o.next < 2 ^ 64 = is.below in omega arith;
      steps = refl;
      closed = refl;
      flushers = λ f. refl;
      waiting = refl;
      filling = λ b. refl;
      stats = λ b. refl;
      reclaims = λ b. refl;
      destroy = refl;
      filled = λ b. refl;
      begun_writes = refl;
      committed = refl;
      loads = λ n. refl;
      issued = refl;
      scans = λ b. refl;
      block_writes = λ f. refl;
      clean_states = λ b. refl;
    },
  )
