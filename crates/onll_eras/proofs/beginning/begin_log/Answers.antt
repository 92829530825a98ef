use Rattle.std.proofs.Common.{◌≡◌, ◌∷◌, [], refl, rules}
use Rattle.onll_words.proofs.Decimals.{IsWord-decimal}
use Rattle.onll_log.specs.Head.{head_line}
use Rattle.onll_open.specs.Names.{log_name}
use Rattle.onll_task.specs.Doing.{keep_stage}
use Rattle.onll_task.proofs.Sequences.{none_begun}
use Rattle.onll_eras.specs.EraJob.{header_said}
use Rattle.onll_eras.proofs.beginning.begin_log.Goals as goal

pub kept_or-requires-clause-words : goal.kept_or-requires-clause-words
kept_or-requires-clause-words g c = (
  record { some = refl; bytes = refl },
  (record { some = refl; bytes = refl }, (IsWord-decimal c.args.thread, (record { some = refl; bytes = refl }, (IsWord-decimal 0, tt)))),
)

pub returns-in_err-name : goal.returns-in_err-name
returns-in_err-name g c = let name = log_name c.args.logs.now c.args.thread in
    none_begun (name ∷ []) (g.S.Store.seen c.args.store.now) (keep_stage name (head_line c.args.head ∷ []) 1 (header_said c.args.thread)) c.from_residual.ensures.1

pub returns : goal.returns
returns g c =
    let n : c.deref-2.result.now ≡ log_name c.args.logs.now c.args.thread = search rules in
    let m : c.deref.result.now ≡ c.deref-2.result.now = search rules in
    rw n at (c.kept_or.ensures (g.S.Store.seen c.args.store.now) (g.S.Store.seen c.keep_header-kept.new.store) (head_line c.args.head ∷ []) 1
    (rw m at c.keep_header-kept.ensures.ends) (rw m at c.keep_header-kept.ensures.others))
