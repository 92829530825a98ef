use Rattle.std.proofs.Common.{map, string_bytes}
use Rattle.onll_jobs.specs.Seen.{seen_by}
use Rattle.onll_jobs.proofs.Kept.{promises_kept}
use Rattle.onll_jobs.proofs.program.onll.Goals as goal

pub returns : goal.returns
returns g c =
    promises_kept
    (seen_by (map string_bytes c.args.words.now) (g.S.Store.seen c.args.store.now) (g.S.Store.seen c.run.new.store)
    (g.K.Sink.held c.args.out.now) (g.K.Sink.held c.run.new.out))
    c.run.result c.status.result c.status.ensures c.run.ensures.says c.run.ensures.determined c.run.ensures.files
