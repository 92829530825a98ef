use Rattle.onll_log.proofs.Decoding.{entry_test}
use Rattle.onll_log.proofs.entry.is_entry.Goals as goal

pub returns : goal.returns
returns c = entry_test c.args.head.now c.args.before c.args.line.now.w c.args.rest.now c.is_next.result c.has_room.result c.is_guarded.result
    c.is_next.ensures c.if-not-is_next.false c.has_room.ensures c.if-not-has_room.false c.is_guarded.ensures
