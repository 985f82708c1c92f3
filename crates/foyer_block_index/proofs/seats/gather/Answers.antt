use Rattle.std.proofs.Common.{◌≡◌, ℕ, ◌+◌, ◌<◌, ◌≤◌, ◌%◌, true, false, not, is_ok, List, [], ◌∷◌, ◌++◌, None, length, drop, get_or, vec_capacity, if◌then◌else◌, refl, sym, ap, subst, ◌∙◌, arith}
use Rattle.std.proofs.lemmas.List.{get_or_default}
use Rattle.std.proofs.lemmas.List.Elements.{All-push}
use Rattle.foyer_block_index.specs.declared.indexer.HashedEntryAddress.{HashedEntryAddress}
use Rattle.foyer_block_index.specs.declared.seats.Seat.{Seat}
use Rattle.foyer_block_index.specs.Index.{belonging}
use Rattle.foyer_block_index.specs.Seats.{seat, seats_in, AreSeatsOf, Gathered}
use Rattle.foyer_block_index.specs.Shards.{source_at, IsOwnPending}
use Rattle.foyer_block_index.proofs.Seating.{fewer, few_seat, gathered_seat, gathered_none, own_pending}
use Rattle.foyer_block_index.proofs.seats.gather.Goals.{then-is_piece+else-is_err, else-is_piece}
use Rattle.foyer_block_index.proofs.seats.gather.Goals as goal

abbrev no_entry : HashedEntryAddress
no_entry = record { hash = 0; address = record { block = 0; offset = 0; len = 0; sequence = 0; filling = 0 } }

-- a refused push leaves what was gathered
pub returns-then-is_err-clause-ours : goal.returns-then-is_err-clause-ours
returns-then-is_err-clause-ours g c =
    let hash : ℕ = (get_or c.args.batch.now c.each_record.i no_entry).hash in
    let before : List Seat = c.each_record.seats.items in
    let refused : is_ok c.push.result ≡ false = c.is_err.ensures.negation ∙ ap not c.if-is_err.true in
    let items : c.push.new.self.items ≡ before = c.push.ensures.items ∙ ap (λ b. if b then before ++ seat (hash % c.args.shards) hash ∷ [] else before) refused in
    subst (λ l. AreSeatsOf c.args.shards c.args.batch.now c.args.sources.now l) (sym items) c.each_record.invariant.ours

pub returns-then-is_err-clause-gathered : goal.returns-then-is_err-clause-gathered
returns-then-is_err-clause-gathered g c =
    let hash : ℕ = (get_or c.args.batch.now c.each_record.i no_entry).hash in
    let before : List Seat = c.each_record.seats.items in
    let refused : is_ok c.push.result ≡ false = c.is_err.ensures.negation ∙ ap not c.if-is_err.true in
    let items : c.push.new.self.items ≡ before = c.push.ensures.items ∙ ap (λ b. if b then before ++ seat (hash % c.args.shards) hash ∷ [] else before) refused in
    subst (λ l. Gathered c.args.shards c.args.batch.now c.args.sources.now l c.args.from c.each_record.i) (sym items) c.each_record.invariant.gathered

pub returns-then-is_err-clause-few : goal.returns-then-is_err-clause-few
returns-then-is_err-clause-few g c = λ number.
    let hash : ℕ = (get_or c.args.batch.now c.each_record.i no_entry).hash in
    let before : List Seat = c.each_record.seats.items in
    let refused : is_ok c.push.result ≡ false = c.is_err.ensures.negation ∙ ap not c.if-is_err.true in
    let items : c.push.new.self.items ≡ before = c.push.ensures.items ∙ ap (λ b. if b then before ++ seat (hash % c.args.shards) hash ∷ [] else before) refused in
    subst (λ l. seats_in number l + belonging c.args.shards number (drop c.each_record.i c.args.batch.now) ≤ belonging c.args.shards number (drop c.args.from c.args.batch.now)) (sym items)
    (c.each_record.invariant.few number)

pub returns-clause-few : goal.returns-clause-few
returns-clause-few g c = λ number.
    let end : length c.args.batch.now ≡ c.each_record.i = omega (arith, c.each_record.invariant.reach, c.each_record-test.false) in
    subst (λ k. seats_in number c.each_record.seats.items + belonging c.args.shards number (drop k c.args.batch.now) ≤ belonging c.args.shards number (drop c.args.from c.args.batch.now)) (sym end)
    (c.each_record.invariant.few number)

pub each_record-preserved : goal.each_record-preserved
each_record-preserved g c =
    let n = c.args.shards in
    let batch = c.args.batch.now in
    let sources = c.args.sources.now in
    let i = c.each_record.i in
    let e : HashedEntryAddress = get_or batch i no_entry in
    let before : List Seat = c.each_record.seats.items in
    let memory : 0 < vec_capacity c.each_record.seats = c.each_record.invariant.memory in
    let within : i < length batch = c.each_record-test.true in
    let from : c.args.from ≤ i = c.each_record.auto.i in
    let same : e ≡ get_or batch i e = get_or_default batch i no_entry e within in
    elim c.if-is_piece.branch [
      | then-is_piece+else-is_err w ↦
          let went : is_ok w.push.result ≡ true = w.is_err.ensures.negation ∙ ap not w.if-is_err.false in
          let items : c.if-is_piece.seats.items ≡ before ++ seat (e.hash % n) e.hash ∷ [] =
          ap (λ v. v.items) w.seats-is ∙ w.push.ensures.items ∙ ap (λ b. if b then before ++ seat (e.hash % n) e.hash ∷ [] else before) went in
          let capacity : vec_capacity c.if-is_piece.seats ≡ vec_capacity w.push.new.self = ap (λ v. vec_capacity v) w.seats-is in
          let grown : vec_capacity c.each_record.seats ≤ vec_capacity w.push.new.self = w.push.ensures.capacity in
          let none : source_at sources i ≡ None = c.is_piece.ensures.0 w.if-is_piece.true in
          let own : IsOwnPending n (e.hash % n) batch sources e.hash = own_pending n (e.hash % n) batch sources i e within same refl none in
          record {
            memory = omega arith;
            reach = omega arith;
            begun = λ some. omega arith;
            ours = subst (λ l. AreSeatsOf n batch sources l) (sym items)
                (All-push (λ (s : Seat). IsOwnPending n s.shard batch sources s.hash) before (seat (e.hash % n) e.hash) c.each_record.invariant.ours own);
            gathered = subst (λ l. Gathered n batch sources l c.args.from (i + 1)) (sym items)
                (gathered_seat n batch sources before c.args.from i c.each_record.invariant.gathered e within same);
            few = λ number. subst (λ l. seats_in number l + belonging n number (drop (i + 1) batch) ≤ belonging n number (drop c.args.from batch)) (sym items)
                (few_seat n batch i no_entry within number before (belonging n number (drop c.args.from batch)) (c.each_record.invariant.few number));
          }
      | else-is_piece w ↦
          let items : c.if-is_piece.seats.items ≡ before = ap (λ v. v.items) w.seats-is in
          let capacity : vec_capacity c.if-is_piece.seats ≡ vec_capacity c.each_record.seats = ap (λ v. vec_capacity v) w.seats-is in
          record {
            memory = omega arith;
            reach = omega arith;
            begun = λ some. omega arith;
            ours = subst (λ l. AreSeatsOf n batch sources l) (sym items) c.each_record.invariant.ours;
            gathered = subst (λ l. Gathered n batch sources l c.args.from (i + 1)) (sym items)
                (gathered_none n batch sources before c.args.from i c.each_record.invariant.gathered e within same
                (λ none. let clash : true ≡ false = sym (c.is_piece.ensures.1 none) ∙ w.if-is_piece.false in cc));
            few = λ number. subst (λ l. seats_in number l + belonging n number (drop (i + 1) batch) ≤ belonging n number (drop c.args.from batch)) (sym items)
                (omega (arith, c.each_record.invariant.few number, fewer n batch i no_entry within number));
          }
    ]
