use Rattle.std.proofs.Common.{◌≡◌, ℕ, ◌+◌, ◌<◌, ◌≤◌, true, false, not, is_ok, List, [], ◌∷◌, ◌++◌, None, length, drop, get_or, vec_capacity, if◌then◌else◌, sym, ap, subst, ◌∙◌, arith, length-append, Option, Some, slice_get}
use Rattle.std.proofs.lemmas.List.{get_or_default}
use Rattle.std.proofs.lemmas.List.Elements.{All-push}
use Rattle.std.specs.List.{All, Contains}
use Rattle.foyer_block_index.specs.declared.seats.Seat.{Seat}
use Rattle.foyer_block_index.specs.Entries.{hashes}
use Rattle.std.specs.Option.{is_some, MatchOption}
use Rattle.foyer_block_index.specs.Probe.{Lacks, HasPlace}
use Rattle.foyer_block_index.specs.Shards.{Has}
use Rattle.foyer_block_index.specs.Seats.{seat, seats_in, RunTaken}
use Rattle.foyer_block_index.proofs.Seating.{seat_counted, taken_new, taken_there, seat_there}
use Rattle.foyer_block_index.proofs.seats.take_run.Goals.{then-is_none+else-is_err, else-is_none}
use Rattle.foyer_block_index.proofs.seats.take_run.Goals as goal

abbrev no_seat : Seat
no_seat = record { shard = 0; hash = 0 }

-- a refused push leaves what was taken
pub returns-then-is_err-clause-ours : goal.returns-then-is_err-clause-ours
returns-then-is_err-clause-ours g c =
    let hash : ℕ = (get_or c.args.seats.now c.each_seat.i no_seat).hash in
    let before : List ℕ = c.each_seat.news.items in
    let refused : is_ok c.push.result ≡ false = c.is_err.ensures.negation ∙ ap not c.if-is_err.true in
    let items : c.push.new.self.items ≡ before = c.push.ensures.items ∙ ap (λ b. if b then before ++ hash ∷ [] else before) refused in
    subst (λ l. All (λ h. Contains c.args.seats.now (seat c.args.number h)) l) (sym items) c.each_seat.invariant.ours

pub returns-then-is_err-clause-taken : goal.returns-then-is_err-clause-taken
returns-then-is_err-clause-taken g c =
    let hash : ℕ = (get_or c.args.seats.now c.each_seat.i no_seat).hash in
    let before : List ℕ = c.each_seat.news.items in
    let refused : is_ok c.push.result ≡ false = c.is_err.ensures.negation ∙ ap not c.if-is_err.true in
    let items : c.push.new.self.items ≡ before = c.push.ensures.items ∙ ap (λ b. if b then before ++ hash ∷ [] else before) refused in
    subst (λ l. RunTaken c.args.number c.args.shard.now c.args.seats.now l c.args.from c.each_seat.i) (sym items) c.each_seat.invariant.taken

pub returns-clause-taken : goal.returns-clause-taken
returns-clause-taken g c =
    let end : length c.args.seats.now ≡ c.each_seat.i = omega (arith, c.each_seat.invariant.reach, c.each_seat-test.false) in
    subst (λ k. RunTaken c.args.number c.args.shard.now c.args.seats.now c.each_seat.news.items c.args.from k) (sym end) c.each_seat.invariant.taken

-- no place was found
lacks_none : (o : Option ℕ) (A : Type 0) (B : ℕ → Type 0) → is_some o ≡ false → MatchOption o A B → A
lacks_none None A B e found = found
lacks_none (Some place) A B e found = absurd (cc)

-- a place was found
has_some : (o : Option ℕ) (hs : List ℕ) (h : ℕ) → is_some o ≡ true → MatchOption o (Lacks hs h) (λ place. slice_get hs place ≡ Some h) → HasPlace hs h
has_some None hs h e found = absurd (cc)
has_some (Some place) hs h e found = (place, found)

pub each_seat-preserved : goal.each_seat-preserved
each_seat-preserved g c =
    let number = c.args.number in
    let seats = c.args.seats.now in
    let shard = c.args.shard.now in
    let i = c.each_seat.i in
    let s : Seat = get_or seats i no_seat in
    let before : List ℕ = c.each_seat.news.items in
    let P = Lacks (hashes shard.entries) in
    let memory : 0 < vec_capacity c.each_seat.news = c.each_seat.invariant.memory in
    let within : i < length seats = c.each_seat-test.true in
    let from : c.args.from ≤ i = c.each_seat.auto.i in
    let same : s ≡ get_or seats i s = get_or_default seats i no_seat s within in
    let own : s.shard ≡ number = c.if-own-number.false in
    let few : length before + seats_in number (drop i seats) ≤ seats_in number (drop c.args.from seats) = c.each_seat.invariant.few in
    let one : seats_in number (drop i seats) ≡ 1 + seats_in number (drop (i + 1) seats) = seat_counted number seats i s within same own in
    elim c.if-is_none.branch [
      | then-is_none+else-is_err w ↦
          let went : is_ok w.push.result ≡ true = w.is_err.ensures.negation ∙ ap not w.if-is_err.false in
          let items : c.if-is_none.news.items ≡ before ++ s.hash ∷ [] =
          ap (λ v. v.items) w.news-is ∙ w.push.ensures.items ∙ ap (λ b. if b then before ++ s.hash ∷ [] else before) went in
          let longer : length c.if-is_none.news.items ≡ length before + 1 = ap (λ (l : List ℕ). length l) items ∙ length-append before (s.hash ∷ []) in
          let capacity : vec_capacity c.if-is_none.news ≡ vec_capacity w.push.new.self = ap (λ v. vec_capacity v) w.news-is in
          let grown : vec_capacity c.each_seat.news ≤ vec_capacity w.push.new.self = w.push.ensures.capacity in
          let lacks : P s.hash = lacks_none c.place.result (P s.hash) (λ place. slice_get (hashes shard.entries) place ≡ Some s.hash) (c.is_none.ensures ∙ ap not w.if-is_none.true) c.place.ensures in
          record {
            memory = omega arith;
            reach = omega arith;
            begun = λ some. omega arith;
            absent = subst (λ l. All P l) (sym items) (All-push P before s.hash c.each_seat.invariant.absent lacks);
            ours = subst (λ l. All (λ h. Contains seats (seat number h)) l) (sym items)
                (All-push (λ h. Contains seats (seat number h)) before s.hash c.each_seat.invariant.ours (seat_there number seats i s within same own));
            taken = subst (λ l. RunTaken number shard seats l c.args.from (i + 1)) (sym items)
                (taken_new number seats i s within same shard before c.args.from c.each_seat.invariant.taken own);
            few = omega arith;
          }
      | else-is_none w ↦
          let items : c.if-is_none.news.items ≡ before = ap (λ v. v.items) w.news-is in
          let longer : length c.if-is_none.news.items ≡ length before = ap (λ (l : List ℕ). length l) items in
          let capacity : vec_capacity c.if-is_none.news ≡ vec_capacity c.each_seat.news = ap (λ v. vec_capacity v) w.news-is in
          let has : Has shard s.hash = has_some c.place.result (hashes shard.entries) s.hash (c.is_none.ensures ∙ ap not w.if-is_none.false) c.place.ensures in
          record {
            memory = omega arith;
            reach = omega arith;
            begun = λ some. omega arith;
            absent = subst (λ l. All P l) (sym items) c.each_seat.invariant.absent;
            ours = subst (λ l. All (λ h. Contains seats (seat number h)) l) (sym items) c.each_seat.invariant.ours;
            taken = subst (λ l. RunTaken number shard seats l c.args.from (i + 1)) (sym items)
                (taken_there number seats i s within same shard before c.args.from c.each_seat.invariant.taken own has);
            few = omega arith;
          }
    ]
