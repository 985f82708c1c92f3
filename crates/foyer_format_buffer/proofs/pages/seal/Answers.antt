use Rattle.std.proofs.Common.{◌≡◌, ℕ, ◌+◌, ◌-◌, List, ◌++◌, take, drop, length, ap, ◌∙◌, arith}
use Rattle.std.proofs.lemmas.List.{length-drop, length-take-le, drop-take}
use Rattle.foyer_format_blob.proofs.HeaderLemmas.{length-header_bytes}
use Rattle.foyer_format_blob.proofs.RecordBytes.{whole_record}
use Rattle.foyer_format_buffer.proofs.PagesLemmas.{written_part}
use Rattle.foyer_format_buffer.proofs.pages.seal.Goals as goal

pub returns-clause-record : goal.returns-clause-record
returns-clause-record c =
    let old = c.args.bytes.now in
    let start = c.args.start in
    let m : ℕ = c.args.end - (start + 36) in
    let body : List ℕ = take m (drop (start + 36) old) in
    let len : length body ≡ c.args.value_len + c.args.key_len =
    length-take-le m (drop (start + 36) old) (omega (arith, length-drop (start + 36) old)) ∙ omega arith in
    let made = written_part old c.write.new.buf start c.args.end m (omega arith) (omega arith) (ap length c.write.ensures ∙ length-header_bytes _) in
    let whole = whole_record c.args.hash c.args.sequence c.args.value_len c.args.key_len body len in
    let ends : c.args.end ≡ start + 36 + m = omega arith in
    let sliced : drop (start + 36) (take c.args.end old) ≡ body =
    ap (λ (k : ℕ). drop (start + 36) (take k old)) ends ∙ drop-take (start + 36) m old in
    let bytes = rw c.checksum64-checksum.ensures at c.write.ensures in
    rw sliced (made ∙ ap (λ (t : List ℕ). t ++ body) bytes ∙ whole)
