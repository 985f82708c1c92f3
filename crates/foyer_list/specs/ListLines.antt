-- The lines that a list is printed as.
use Rattle.std.specs.Prelude.{ℕ, List, ◌++◌, codes, decimal}
use Rattle.foyer_block_scan.specs.declared.block.scanner.EntryInfo.{EntryInfo}
use Rattle.foyer_list.specs.declared.listing.ChainEnd.{ChainEnd}
use Rattle.foyer_list.specs.declared.listing.ChainEnd.TheVariants as end
use Rattle.foyer_list.specs.declared.verdict.Verdict.{Verdict}
use Rattle.foyer_list.specs.declared.verdict.Verdict.TheVariants as verdict

abbrev pub verdict_word : Verdict → List ℕ
verdict_word verdict.Wins = codes "wins"
verdict_word verdict.Loses = codes "loses"
verdict_word verdict.Dropped = codes "dropped"

abbrev pub block_text : ℕ → List ℕ
block_text block = codes "block " ++ (decimal block ++ codes "\n")

-- an entry: its hash, its sequence, where its record begins in the block and how long it is, and the verdict on it
abbrev pub entry_text : EntryInfo → Verdict → List ℕ
entry_text i v =
    codes "entry " ++ (decimal i.hash ++ (codes " " ++ (decimal (i.addr).sequence ++ (codes " " ++ (decimal (i.addr).offset
    ++ (codes " " ++ (decimal (i.addr).len ++ (codes " " ++ (verdict_word v ++ codes "\n")))))))))

abbrev pub end_text : ChainEnd → List ℕ
end_text end.BlockEnd = codes "end block-end\n"
end_text (end.FailedRead offset) = codes "end failed-read " ++ (decimal offset ++ codes "\n")
end_text (end.NoIndex offset) = codes "end no-index " ++ (decimal offset ++ codes "\n")
