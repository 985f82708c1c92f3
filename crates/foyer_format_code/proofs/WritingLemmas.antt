-- What a writer keeps over two writes.
use Rattle.std.proofs.Common.{◌≡◌, ℕ, ◌+◌, ◌≤◌, List, ◌++◌, ◌∙◌, ap, Option, arith, sym}
use Rattle.std.specs.Prelude.{None, Some}
use Rattle.std.proofs.lemmas.List.{append_assoc}
use Rattle.std.specs.Io.KnownBytes.{Appends}
use Rattle.foyer_device_page.specs.declared.error.Error.{Error}
use Rattle.foyer_device_page.specs.declared.error.Error.TheVariants.{BufferSizeLimit}
use Rattle.foyer_device_page.specs.Error.{IsWriterFault}
use Rattle.foyer_format_code.specs.Writing.{Lacks, Takes, Extends, IsFaultAt}

pub extends_after : (r s t : Option ℕ) (n : ℕ) (a b c : Option (List ℕ)) (bs : List ℕ)
    → Takes r s n → Appends a b bs → Extends s t b c → Extends r t a c
extends_after None s t n a b c bs takes appends more = tt
extends_after (Some r) None t n a b c bs takes appends more = absurd takes
extends_after (Some r) (Some s) None n a b c bs takes appends more = absurd more
extends_after (Some r) (Some s) (Some t) n None b c bs takes appends more = tt
extends_after (Some r) (Some s) (Some t) n (Some xs) None c bs takes appends more = absurd appends
extends_after (Some r) (Some s) (Some t) n (Some xs) (Some ys) None bs takes appends more = absurd more
extends_after (Some r) (Some s) (Some t) n (Some xs) (Some ys) (Some zs) bs takes appends (m, is) =
    (bs ++ m, is ∙ ap (λ v. v ++ m) appends ∙ append_assoc xs bs m)

pub takes_after : (r s t : Option ℕ) (n m k : ℕ) → n + m ≡ k → Takes r s n → Takes s t m → Takes r t k
takes_after None s t n m k sum first second = tt
takes_after (Some r) None t n m k sum first second = absurd first
takes_after (Some r) (Some s) None n m k sum first second = absurd second
takes_after (Some r) (Some s) (Some t) n m k sum first second = omega arith

pub lacks_after : (r s : Option ℕ) (n m k : ℕ) → n + m ≡ k → Takes r s n → Lacks s m → Lacks r k
lacks_after None s n m k sum first second = tt
lacks_after (Some r) None n m k sum first second = absurd first
lacks_after (Some r) (Some s) n m k sum first second = omega arith

pub lacks_more : (r : Option ℕ) (n k : ℕ) → n ≤ k → Lacks r n → Lacks r k
lacks_more None n k more lacks = tt
lacks_more (Some r) n k more lacks = omega arith

limit_is_fault : (e : Error) → e ≡ BufferSizeLimit → IsWriterFault e
limit_is_fault e is = rw is tt

pub fault_after : (r s : Option ℕ) (n : ℕ) (e : Error) → Takes r s n → IsFaultAt s e → IsFaultAt r e
fault_after None None n e takes fault = fault
fault_after None (Some s) n e takes fault = limit_is_fault e fault
fault_after (Some r) None n e takes fault = absurd takes
fault_after (Some r) (Some s) n e takes fault = fault

pub appends_after : (a b c : Option (List ℕ)) (xs ys zs : List ℕ) → zs ≡ xs ++ ys → Appends a b xs → Appends b c ys → Appends a c zs
appends_after None b c xs ys zs is first second = tt
appends_after (Some a) None c xs ys zs is first second = absurd first
appends_after (Some a) (Some b) None xs ys zs is first second = absurd second
appends_after (Some a) (Some b) (Some c) xs ys zs is first second =
    second ∙ ap (λ t. t ++ ys) first ∙ append_assoc a xs ys ∙ ap (λ t. a ++ t) (sym is)

pub ruleset two_writes = (extends_after, takes_after, lacks_after, lacks_more, fault_after, appends_after)
