use Rattle.std.proofs.Common.{◌≡◌, ◌+◌, ℕ, List, [], ◌∷◌, ◌++◌, ap, ◌∙◌, arith}
use Rattle.std.proofs.lemmas.List.Elements.{All-nil, All-push}
use Rattle.foyer_format_buffer.specs.Position.{FitsBlock, taken}
use Rattle.foyer_format_layout.specs.Page.{page_up}
use Rattle.foyer_format_buffer.specs.declared.BufferEntryInfo.{BufferEntryInfo}
use Rattle.foyer_format_layout.proofs.PageLaws.{page_up-least}
use Rattle.foyer_format_buffer.proofs.SplitLemmas.{taken_none, taken_one, taken-append}
use Rattle.test_format.proofs.tests.split.split.Goals as goal

-- one record more takes its pages more
pushed : (items infos : List BufferEntryInfo) (i : BufferEntryInfo) (n padded : ℕ) → items ≡ infos ++ i ∷ [] → taken infos ≡ n
    → padded ≡ page_up i.len → taken items ≡ n + padded
pushed items infos i n padded are sum is = ap taken are ∙ omega (arith, taken-append infos (i ∷ []), taken_one i)

pub records-init : goal.records-init
records-init c = rw c.new-infos.ensures.items (record { each = All-nil (FitsBlock c.args.ctx.now.sizes); sum = taken_none; small = omega arith })

pub records-preserved : goal.records-preserved
records-preserved c =
    let items = c.in_ok-push.ensures.items in
    let padded = c.aligned.ensures in
    record {
      each = rw items (All-push (FitsBlock c.args.ctx.now.sizes) c.records.infos.items _ c.records.invariant.each
          (record { some = omega (arith, c.if-len-eq0.false); room = omega (arith, c.requires.room, page_up-least _ 12288 c.if-len-gt12288.false (omega arith)) }));
      sum = pushed c.push.new.self.items c.records.infos.items _ c.records.room c.aligned.result items c.records.invariant.sum padded;
      small = omega (arith, c.records.invariant.small, padded, page_up-least _ 12288 c.if-len-gt12288.false (omega arith));
    }

pub split-requires : goal.split-requires
split-requires c =
    record { each = c.records.invariant.each; within = omega (arith, c.records.invariant.sum, c.if-len-room.false, c.len.ensures.value) }
