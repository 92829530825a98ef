use Rattle.std.proofs.Common.{◌+◌, ◌++◌, drop, ap, ◌∙◌, arith}
use Rattle.std.specs.List.{flat_map}
use Rattle.onll_words.specs.Texts.{line_text}
use Rattle.onll_text.specs.Bytes.{with_lines}
use Rattle.onll_text.specs.QueueText.{item_line, item_lines}
use Rattle.onll_text.proofs.QueueReadBack.{item_lines_more}
use Rattle.onll_text.proofs.Keeping.{part_front}
use Rattle.onll_text.proofs.queue.put_items.Goals as goal

pub returns-in_err-put_item-clause-within : goal.returns-in_err-put_item-clause-within
returns-in_err-put_item-clause-within c =
    let i = c.loop-i.i in
    let items = c.args.queue.now.items in
    let out = c.loop-i.out in
    let rest = item_lines (drop (i + 1) items) in
    part_front _ (out ++ line_text (item_line c.item.result)) (flat_map line_text rest) _
    (ap (λ x. with_lines (out ++ line_text (item_line x)) rest) c.item.ensures ∙ item_lines_more out items i 0 (omega arith) ∙ c.loop-i.invariant.lines) c.put_item.ensures.within
