-- What steps and accesses make of the reads and writes that are due.
use Rattle.std.proofs.Common.{◌≡◌, ℕ, Bool, false, List, [], ◌∷◌, Option, Some, None, refl, sym, ap, ◌∙◌}
use Rattle.foyer_core_model.specs.Access.{Load, ReadState, ReadIssued, Reading, ReadDone, BlockWrites, Idle, Issued, InFlight, load_unless, loads_after, issued_after, block_writes_after, writes_of, writes_reported, at_load, read_torn}
use Rattle.foyer_core_model.specs.Event.{Event}
use Rattle.foyer_format_layout.specs.BlockBytes.{Write}
use Rattle.foyer_core_model.specs.Kept.{unless}
use Rattle.foyer_core_model.specs.Reply.{Reply, Read, Written, Next, Committed, Failed, Picked, Cleared}
use Rattle.foyer_core_model.specs.Step.{Ticket, Step, FlushBlock, FlushWrote}
use Rattle.foyer_core_model.proofs.Basics.{put_same, put_other}
use Rattle.foyer_core_run.specs.Due.{unread, unread_in, due}
use Rattle.foyer_core_run.specs.Running.{next_of}

-- reads

pub unread_unless : {C : Type 0} (f : Option ℕ → Option ℕ) (o : Option (Load C)) → unread (load_unless f o) ≡ unread o
unread_unless f None = refl
unread_unless f (Some l) = refl

torn_in : (c : ℕ → ℕ → Bool) (b : ℕ) (read_state : ReadState) (t : Ticket) → unread_in (read_torn c b read_state) t ≡ unread_in read_state t
torn_in c b ReadIssued t = refl
torn_in c b (Reading seen) t = refl
torn_in c b (ReadDone came) t = refl

pub unread_torn : {C : Type 0} (c : ℕ → ℕ → Bool) (o : Option (Load C)) → unread (at_load (read_torn c) o) ≡ unread o
unread_torn c None = refl
unread_torn c (Some l) = torn_in c l.ticket.address.block l.read_state l.ticket

-- a reply that issues no read
abbrev pub IssuesNoRead : {C : Type 0} → Reply C → Type 0
IssuesNoRead (Read t) = ⊥
IssuesNoRead reply = Unit {0}

pub issued_stays : {C : Type 0} (it : Reply C) (n : ℕ) → IssuesNoRead it → issued_after it n ≡ n
issued_stays (Read t) n none = absurd none
issued_stays it n none = refl

pub loads_stay : {C : Type 0} (it : Reply C) (H : List (Event C)) (kept : ℕ → Option ℕ) (n : ℕ) (loads : ℕ → Option (Load C)) (k : ℕ)
    → IssuesNoRead it → unread (loads_after it H kept n loads k) ≡ unread (loads k)
loads_stay (Read t) H kept n loads k none = absurd none
loads_stay (Picked b answers probation) H kept n loads k none = unread_unless (unless b) (loads k)
loads_stay (Cleared bs) H kept n loads k none = unread_unless (λ o. None) (loads k)
loads_stay it H kept n loads k none = refl

-- an unread load has its ticket
pub unread_is : {C : Type 0} (o : Option (Load C)) (t : Ticket) → unread o ≡ Some t
    → (p : Option (Event C)) × (k : Option ℕ) × (o ≡ Some (record { ticket = t; promise = p; read_state = ReadIssued; kept = k }))
unread_is None t e = absurd (let f : None ≡ Some t = e in cc)
unread_is {C} (Some l) t e = go l.read_state refl
  where
    go : (read_state : ReadState) → l.read_state ≡ read_state → (p : Option (Event C)) × (k : Option ℕ) × (Some l ≡ Some (record { ticket = t; promise = p; read_state = ReadIssued; kept = k }))
    go ReadIssued at =
        let f : Some l.ticket ≡ Some t = ap (λ p. unread_in p l.ticket) (sym at) ∙ e in
        let same : l.ticket ≡ t = cc in
        (l.promise, l.kept, ap (λ x. Some (record l { read_state = x })) at ∙ ap (λ x. Some (record { ticket = x; promise = l.promise; read_state = ReadIssued; kept = l.kept })) same)
    go (Reading seen) at = absurd (let f : None ≡ Some t = ap (λ p. unread_in p l.ticket) (sym at) ∙ e in cc)
    go (ReadDone came) at = absurd (let f : None ≡ Some t = ap (λ p. unread_in p l.ticket) (sym at) ∙ e in cc)

-- writes

-- a step that neither issues writes nor reports one
abbrev pub IsBeside : {C : Type 0} → Step C → Type 0
IsBeside (FlushBlock f) = ⊥
IsBeside (FlushWrote f ok) = ⊥
IsBeside given = Unit {0}

pub block_writes_stay : {C : Type 0} (it : Reply C) (given : Step C) (block_writes : ℕ → BlockWrites) → IsBeside given → block_writes_after it given block_writes ≡ block_writes
block_writes_stay (Written b ws) (FlushBlock f) block_writes none = absurd none
block_writes_stay (Written b ws) given block_writes none = refl
block_writes_stay Next (FlushWrote f ok) block_writes none = absurd none
block_writes_stay Next given block_writes none = refl
block_writes_stay (Committed n) (FlushWrote f ok) block_writes none = absurd none
block_writes_stay (Committed n) given block_writes none = refl
block_writes_stay Failed (FlushWrote f ok) block_writes none = absurd none
block_writes_stay Failed given block_writes none = refl
block_writes_stay it given block_writes none = refl

-- a reply that issues no writes
abbrev pub IssuesNoWrite : {C : Type 0} → Reply C → Type 0
IssuesNoWrite (Written b ws) = ⊥
IssuesNoWrite it = Unit {0}

pub block_writes_untold : {C : Type 0} (it : Reply C) (f : ℕ) (block_writes : ℕ → BlockWrites) → IssuesNoWrite it → block_writes_after it (FlushBlock f) block_writes ≡ block_writes
block_writes_untold (Written b ws) f block_writes none = absurd none
block_writes_untold it f block_writes none = refl

pub due_of : (b : ℕ) (ws : List Write) → due (writes_of b ws) ≡ next_of b ws
due_of b [] = refl
due_of b (w ∷ ws) = refl

abbrev writes_from : BlockWrites → Option (ℕ × List Write) → BlockWrites
writes_from pending None = pending
writes_from pending (Some p) = Issued p.0 [] p.1

-- what is due is issued, and nothing waits to be reported
pub due_is : (pending : BlockWrites) (b : ℕ) (w : Write) (ws : List Write) → due pending ≡ Some (b, w ∷ ws) → pending ≡ Issued b [] (w ∷ ws)
due_is Idle b w ws e = absurd (let f : None ≡ Some (b, w ∷ ws) = e in cc)
due_is (Issued c [] []) b w ws e = absurd (let f : None ≡ Some (b, w ∷ ws) = e in cc)
due_is (Issued c [] (v ∷ vs)) b w ws e =
    ap (writes_from Idle) e
due_is (Issued c (r ∷ rs) vs) b w ws e = absurd (let f : None ≡ Some (b, w ∷ ws) = e in cc)
due_is (InFlight c rs v vs) b w ws e = absurd (let f : None ≡ Some (b, w ∷ ws) = e in cc)

-- After a report that isn't answered by another write nothing is due of the flusher.
abbrev pub EndsWrites : {C : Type 0} → Reply C → Type 0
EndsWrites Next = ⊥
EndsWrites it = Unit {0}

-- a report changes only its flusher's writes
pub block_writes_elsewhere : {C : Type 0} (it : Reply C) (f g : ℕ) (ok : Bool) (block_writes : ℕ → BlockWrites) → (g ≡ f → ⊥)
    → block_writes_after it (FlushWrote f ok) block_writes g ≡ block_writes g
block_writes_elsewhere Next f g ok block_writes ne = put_other block_writes f (writes_reported (block_writes f)) g ne
block_writes_elsewhere (Committed n) f g ok block_writes ne = put_other block_writes f Idle g ne
block_writes_elsewhere Failed f g ok block_writes ne = put_other block_writes f Idle g ne
block_writes_elsewhere it f g ok block_writes ne = refl

due_issued : (b : ℕ) (ws : List Write) → due (Issued b [] ws) ≡ next_of b ws
due_issued b [] = refl
due_issued b (w ∷ ws) = refl

-- the next write of a block is due
pub due_next : (C : Type 0) (f : ℕ) (ok : Bool) (block_writes : ℕ → BlockWrites) (b : ℕ) (ws : List Write) → block_writes f ≡ Issued b (ok ∷ []) ws
    → due (block_writes_after {C = C} Next (FlushWrote f ok) block_writes f) ≡ next_of b ws
due_next C f ok block_writes b ws at = ap due (put_same block_writes f (writes_reported (block_writes f)) ∙ ap writes_reported at) ∙ due_issued b ws

-- nothing is due
pub due_ended : {C : Type 0} (it : Reply C) (f : ℕ) (ok : Bool) (block_writes : ℕ → BlockWrites) (b : ℕ) (ws : List Write) → EndsWrites it
    → block_writes f ≡ Issued b (ok ∷ []) ws → due (block_writes_after it (FlushWrote f ok) block_writes f) ≡ None
due_ended Next f ok block_writes b ws ends at = absurd ends
due_ended (Committed n) f ok block_writes b ws ends at = ap due (put_same block_writes f Idle)
due_ended Failed f ok block_writes b ws ends at = ap due (put_same block_writes f Idle)
due_ended it f ok block_writes b ws ends at = ap due at

-- and after one that failed
pub due_failed : {C : Type 0} (it : Reply C) (f : ℕ) (block_writes : ℕ → BlockWrites) (b : ℕ) → block_writes f ≡ Issued b (false ∷ []) []
    → due (block_writes_after it (FlushWrote f false) block_writes f) ≡ None
due_failed {C} Next f block_writes b at = due_next C f false block_writes b [] at
due_failed (Committed n) f block_writes b at = ap due (put_same block_writes f Idle)
due_failed Failed f block_writes b at = ap due (put_same block_writes f Idle)
due_failed it f block_writes b at = ap due at
