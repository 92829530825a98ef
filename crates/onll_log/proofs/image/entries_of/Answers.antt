use Rattle.std.proofs.Common.{rules, ◌≡◌, ◌∙◌, sym, [], length, slice_index_or}
use Rattle.onll_words.specs.declared.line.Line.{Line}
use Rattle.onll_log.proofs.Decoding.{Read-step, named_lines}
use Rattle.onll_log.proofs.image.entries_of.Goals as goal

pub entry_of-requires-clause-named : goal.entry_of-requires-clause-named
entry_of-requires-clause-named c = let empty : Line = record { w = [] } in
    named_lines c.args.head.now c.len.result (slice_index_or c.args.lines.now c.loop-at.at empty).w c.split_at.result.1.now c.requires.threads (sym c.is_entry.ensures ∙ c.if-not-is_entry.false)

pub loop-at-preserved : goal.loop-at-preserved
loop-at-preserved c = let count : c.len.result ≡ length c.loop-at.entries.items = search rules in
    Read-step c.args.head.now c.args.lines.now c.split_at.result.1.now c.loop-at.entries.items c.push.new.self.items c.loop-at.at c.len.result _ c.in_ok-entry_of.field-0 c.is_entry.result
    c.loop-at.invariant c.loop-at-test.true c.split_at.ensures.back count c.is_entry.ensures c.if-not-is_entry.false c.in_ok-entry_of.ensures.line c.in_ok-entry_of.ensures.entry c.in_ok-push.ensures.items
