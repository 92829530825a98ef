use Rattle.onll_task.proofs.Sequences.{bytes_wrote}
use Rattle.onll_task.proofs.texts.write_bytes.Goals as goal

pub returns-in-Ok : goal.returns-in-Ok
returns-in-Ok g c = let w = c.in-Ok.ensures in
    bytes_wrote (g.S.Store.seen c.args.store.now) (g.S.Store.seen c.write.new.self) c.args.name.now c.args.bytes.now tt w.written w.others w.faults w.devices
