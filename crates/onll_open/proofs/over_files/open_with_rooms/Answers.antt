use Rattle.std.proofs.Common.{◌≡◌, Some, length, rules, subst}
use Rattle.onll_open.specs.Heads.{heads_of}
use Rattle.onll_open.specs.Opening.{NothingLost, written_by}
use Rattle.onll_open.proofs.over_files.open_with_rooms.Goals as goal

pub returns-clause-kept : goal.returns-clause-kept
returns-clause-kept g c =
    let old = g.S.Store.seen c.args.store.now in
    let b = g.O.Object.means in
    let logs = c.args.logs.now in
    let threads = length c.args.rooms.now in
    let heads = heads_of g.O.Object.CODE (g.O.Described.description c.args.object) threads in
    let is : c.in_ok-asked.asked.items ≡ c.args.rooms.now = search rules in
    subst (λ rs. NothingLost b old logs heads threads (Some rs) (written_by heads c.open_asked.result) (g.S.Store.seen c.open_asked.new.store)) is c.open_asked.ensures.kept
