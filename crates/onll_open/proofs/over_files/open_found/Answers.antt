use Rattle.std.proofs.Common.{length, sym, subst}
use Rattle.std.proofs.lemmas.Result.{err_from_is_err_and}
use Rattle.onll_merge.specs.Recovered.{recovered_in}
use Rattle.onll_model.specs.Limits.{most_updates}
use Rattle.onll_trace.specs.Plans.{HasRooms}
use Rattle.onll_open.proofs.GivenLogs.{all_roomy}
use Rattle.onll_open.proofs.RoomSteps.{has_rooms}
use Rattle.onll_open.proofs.over_files.open_found.Goals as goal

pub returns-in_err-opened-clause-refused : goal.returns-in_err-opened-clause-refused
returns-in_err-opened-clause-refused g c =
    let p = err_from_is_err_and c.from_residual.result c.from_residual.ensures.1 in
    rw (p.1, p.2) c.in_err-opened.ensures.refused

pub returns-in_err-opened-clause-faults : goal.returns-in_err-opened-clause-faults
returns-in_err-opened-clause-faults g c =
    let p = err_from_is_err_and c.from_residual.result c.from_residual.ensures.1 in
    rw (p.1, p.2) c.in_err-opened.ensures.faults

pub returns-in-Ok-clause-opened : goal.returns-in-Ok-clause-opened
returns-in-Ok-clause-opened g c =
    let b = g.O.Object.means in
    let means = g.S.Dev.Pmem.means in
    let opened = c.in_ok-opened.opened.items in
    let all = c.in_ok-opened.ensures.logs in
    record {
      first = c.in-Ok.ensures.object.0;
      base = cc (c.in-Ok.ensures.object.1);
      opened = opened;
      logs_are = all.are_logs;
      heads_are = all.heads_are;
      begun = c.in-Ok.ensures.passes;
      roomy = all_roomy b means c.in-Ok.onll opened c.args.rooms.now c.in-Ok.passes.items all.many c.in-Ok.ensures.passes all.lines;
      short = all.short;
    }

pub resume-requires-clause-rooms : goal.resume-requires-clause-rooms
resume-requires-clause-rooms g c κs bounds =
    let rooms = c.args.rooms.now in
    let found = recovered_in c.args.found.now.recovery in
    subst (λ ns. HasRooms ns rooms most_updates) (sym c.deref.ensures.value) (has_rooms (length rooms) found.nodes found.logs rooms c.requires.found.has.counts c.requires.found.room)
