-- A header is read as it was written.
use Rattle.std.proofs.Common.{◌≡◌, ℕ, ◌+◌, ◌*◌, ◌/◌, ◌%◌, ◌<◌, ◌^◌, List, [], ◌++◌, Ok, refl, sym, ap, ◌∙◌, arith, length}
use Rattle.std.proofs.lemmas.List.{append-nil}
use Rattle.byteorder.specs.Endian.{big_bytes}
use Rattle.std.specs.Prelude.{◌==◌, true}
use Rattle.byteorder.specs.Numbers.{big_number-reads_back}
use Rattle.foyer_format_record.specs.Compression.{byte_of, compression_of}
use Rattle.foyer_format_record.specs.declared.compress.Compression.{Compression}
use Rattle.foyer_format_record.specs.declared.compress.Compression.TheVariants as compression
use Rattle.foyer_format_record.specs.declared.block.serde.EntryHeader.{EntryHeader}
use Rattle.foyer_format_record.specs.Header.{number_at, magic, header_bytes, header_of, FitsFields}

word_is_magic : (c : Compression) → ((magic * 256 + byte_of c) / 256 == magic) ≡ true
word_is_magic compression.None = refl
word_is_magic compression.Zstd = refl
word_is_magic compression.Lz4 = refl

word_names : (c : Compression) → compression_of ((magic * 256 + byte_of c) % 256) ≡ Ok c
word_names compression.None = refl
word_names compression.Zstd = refl
word_names compression.Lz4 = refl

word_fits : (c : Compression) → magic * 256 + byte_of c < 2 ^ 32
word_fits compression.None = omega arith
word_fits compression.Zstd = omega arith
word_fits compression.Lz4 = omega arith

header_is : (b : List ℕ) (h : EntryHeader) → number_at 0 4 b ≡ h.key_len → number_at 4 4 b ≡ h.value_len
    → number_at 8 8 b ≡ h.hash → number_at 16 8 b ≡ h.sequence → number_at 24 8 b ≡ h.checksum
    → number_at 32 4 b ≡ magic * 256 + byte_of h.compression → header_of b ≡ Ok h
unfolding header_of
header_is b h e1 e2 e3 e4 e5 e6 =
    rw (e6, word_is_magic h.compression, word_names h.compression, e1, e2, e3, e4, e5) refl

pub header_again : (h : EntryHeader) (rest : List ℕ) → FitsFields h → header_of (header_bytes h ++ rest) ≡ Ok h
unfolding header_bytes number_at
header_again h rest fits =
    let r5 : List ℕ = big_bytes 4 (magic * 256 + byte_of h.compression) ++ rest in
    let r4 : List ℕ = big_bytes 8 h.checksum ++ r5 in
    let r3 : List ℕ = big_bytes 8 h.sequence ++ r4 in
    let r2 : List ℕ = big_bytes 8 h.hash ++ r3 in
    let r1 : List ℕ = big_bytes 4 h.value_len ++ r2 in
    header_is (header_bytes h ++ rest) h
    (big_number-reads_back 4 h.key_len r1 fits.key_len)
    (big_number-reads_back 4 h.value_len r2 fits.value_len)
    (big_number-reads_back 8 h.hash r3 fits.hash)
    (big_number-reads_back 8 h.sequence r4 fits.sequence)
    (big_number-reads_back 8 h.checksum r5 fits.checksum)
    (big_number-reads_back 4 (magic * 256 + byte_of h.compression) rest (word_fits h.compression))

pub header_again_of : (b : List ℕ) (h : EntryHeader) → FitsFields h → b ≡ header_bytes h → header_of b ≡ Ok h
header_again_of b h fits is =
    ap header_of (is ∙ sym (append-nil (header_bytes h))) ∙ header_again h [] fits

pub length-header_bytes : (h : EntryHeader) → length (header_bytes h) ≡ 36
unfolding header_bytes
length-header_bytes h = refl
