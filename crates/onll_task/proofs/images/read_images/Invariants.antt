use Rattle.std.proofs.Common.{◌≡◌, ◌-◌, ◌*◌, ◌≤◌, length}
use Rattle.std.specs.List.{All}
use Rattle.onll_log.specs.ImageFile.{longest_image}
use Rattle.onll_open.specs.Names.{log_names}
use Rattle.onll_task.specs.Images.{AllBeginWith}
use Rattle.onll_task.proofs.ImageFiles.{ReadStanding}
use Rattle.onll_task.proofs.images.read_images.Given as goal

-- the images of the threads before were read
abbrev pub invariant-loop-thread : goal.invariant-loop-thread
invariant-loop-thread g l = record {
  so : ReadStanding (log_names l.logs 0 l.threads) (log_names l.logs l.thread (l.threads - l.thread)) (g.S.Store.seen l.fn.store) (g.S.Store.seen l.store) l.images.items l.counts.items;
  fronts : AllBeginWith l.logs 0 l.images.items (g.S.Store.seen l.store);
  few : All (λ count. 64 * count ≤ longest_image) l.counts.items;
  count : length l.images.items ≡ l.thread;
  many : length l.counts.items ≡ l.thread;
}
