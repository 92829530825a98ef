use Rattle.std.proofs.Common.{sym, subst}
use Rattle.onll_task.specs.Reading.{Reads}
use Rattle.onll_task.proofs.Stages.{read_begins}
use Rattle.onll_shipping.specs.FollowJob.{stream_in, longest_stream}
use Rattle.onll_shipping.proofs.FirstBytes.{front_read}
use Rattle.onll_shipping.proofs.follow.stream_file.Goals as goal

pub returns-in-Ok-clause-begins : goal.returns-in-Ok-clause-begins
returns-in-Ok-clause-begins g c =
    read_begins _ (subst (Reads (g.S.Store.seen c.args.store.now) stream_in c.args.name.now) (sym c.truncate.ensures.items)
    (front_read (g.S.Store.seen c.args.store.now) c.args.name.now c.in-Ok.bytes.items longest_stream c.in-Ok.ensures.bytes)) c.in-Ok.ensures.same (c.in-Ok.ensures.faults, c.in-Ok.ensures.devices)
