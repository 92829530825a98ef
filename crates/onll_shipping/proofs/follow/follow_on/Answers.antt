use Rattle.std.proofs.Common.{ℕ, ◌≡◌, List, [], length, sym, subst}
use Rattle.onll_log.specs.declared.head.LogHead.{LogHead}
use Rattle.onll_log.specs.Head.{heads_from}
use Rattle.onll_standby.specs.Stream.{AreStreamHeads, course}
use Rattle.onll_task.specs.Doing.{Task, Fulfils}
use Rattle.onll_task.proofs.Stages.{read_does, stop_does}
use Rattle.onll_shipping.specs.FollowJob.{followed_task}
use Rattle.onll_shipping.proofs.RunHeads.{run_heads_expected}
use Rattle.onll_shipping.proofs.follow.follow_on.Goals as goal

pub returns-in-Err : goal.returns-in-Err
returns-in-Err g c =
    let heads = heads_from c.args.stream.now.threads g.O.Object.CODE c.args.init.now 0 c.args.stream.now.threads in
    stop_does (λ (bytes : List ℕ). followed_task g.O.Object.means g.O.Texted.wording c.args.object (length bytes) (course g.O.Object.means heads bytes)) c.in-Err.ensures.begins

pub returns : goal.returns
returns g c =
    let b = g.O.Object.means in let w = g.O.Texted.wording in let object = c.args.object in
    let heads : List LogHead = heads_from c.args.stream.now.threads g.O.Object.CODE c.args.init.now 0 c.args.stream.now.threads in
    let are : c.in_ok-heads.heads.items ≡ heads = rw c.CODE.ensures at c.in_ok-heads.ensures.heads in
    let mid = g.S.Store.seen c.stream_file.new.store in
    let next : List ℕ → Task = λ bytes. followed_task b w object (length bytes) (course b heads bytes) in
    let one = subst (λ (z : List ℕ). Fulfils [] mid mid (followed_task b w object (length z) (course b c.in_ok-heads.heads.items z)) c.follow_bytes.result) c.deref.ensures.value (c.follow_bytes.ensures mid) in
    let two = subst (λ (hs : List LogHead). Fulfils [] mid mid (followed_task b w object (length c.in-Ok.bytes.items) (course b hs c.in-Ok.bytes.items)) c.follow_bytes.result) are one in
    read_does next c.in-Ok.ensures.begins two

pub follow_bytes-requires-clause-heads : goal.follow_bytes-requires-clause-heads
follow_bytes-requires-clause-heads g c κs bounds =
    subst AreStreamHeads (sym c.in_ok-heads.ensures.heads)
    (run_heads_expected c.CODE.result c.args.init.now c.args.stream.now.threads c.requires.threads.0 c.requires.threads.1)
