use Rattle.std.proofs.Common.{◌≡◌, ◌+◌, ◌++◌, ◌∷◌, [], suc, inr, drop, map, sym, ap, ◌∙◌, subst, append_assoc, arith, rules, List, Option}
use Rattle.std.specs.Option.{option_or}
use Rattle.std.proofs.lemmas.Result.{err_from_is_err_and}
use Rattle.onll_log.specs.Grammar.{Content}
use Rattle.onll_log.specs.Cursor.{CursorState}
use Rattle.onll_merge.specs.declared.counts.LogCounts.{LogCounts}
use Rattle.onll_merge.specs.declared.fault.RecoverFault.{RecoverFault}
use Rattle.onll_merge.specs.Merge.{AllRise, disorder, top_of}
use Rattle.onll_merge.specs.Recovered.{log_counts}
use Rattle.onll_merge.specs.Standing.{contents_under}
use Rattle.onll_merge.proofs.Standings.{log_left, same_under, all_set}
use Rattle.onll_merge.proofs.first_pass.measure_all.Goals as goal

pub returns-in_err-found-clause-order : goal.returns-in_err-found-clause-order
returns-in_err-found-clause-order c =
    let logs = contents_under c.args.cursors.now in
    let log = c.loop-log.log in
    let left = log_left c.loop-log.cursors logs log c.index-cursors-log.result c.loop-log.invariant.same (omega arith) in
    let p = err_from_is_err_and c.from_residual.result c.from_residual.ensures.1 in
    rw (p.1, p.2) (inr (sym c.loop-log.invariant.order ∙ (ap (disorder log) left
    ∙ ap (λ (o : Option RecoverFault). option_or o (disorder (suc log) (drop (log + 1) logs))) c.in_err-found.ensures.order)))

pub loop-log-preserved : goal.loop-log-preserved
loop-log-preserved c =
    let logs = contents_under c.args.cursors.now in
    let log = c.loop-log.log in
    let cursors = c.loop-log.cursors in
    let counts = c.loop-log.logs.items in
    let d = c.index-cursors-log.result in
    let rest = drop (log + 1) logs in
    let found = c.in_ok-found.ensures in
    let left = log_left cursors logs log d c.loop-log.invariant.same (omega arith) in
    let up : suc log ≡ log + 1 = omega arith in
    let pushed : c.push.new.self.items ≡ counts ++ c.in_ok-found.found.counts ∷ [] = search rules in
    record {
      same = same_under cursors log c.measure.new.cursor d (omega arith) (ap (λ (x : CursorState). x.content) found.again) ∙ c.loop-log.invariant.same;
      first = all_set (λ (x : CursorState). x.passed ≡ 0) cursors log c.measure.new.cursor c.loop-log.invariant.first (ap (λ (x : CursorState). x.passed) found.again);
      order = sym (ap (λ n. disorder n rest) up) ∙ (sym (ap (λ (o : Option RecoverFault). option_or o (disorder (suc log) rest)) found.order)
          ∙ (sym (ap (disorder log) left) ∙ c.loop-log.invariant.order));
      rise = λ r. c.loop-log.invariant.rise (subst AllRise (sym left) (found.rises, r));
      counts = ap (λ (xs : List LogCounts). xs ++ map log_counts rest) pushed ∙ (append_assoc counts (c.in_ok-found.found.counts ∷ []) (map log_counts rest)
          ∙ (ap (λ (x : LogCounts). counts ++ x ∷ map log_counts rest) found.counts
          ∙ (ap (λ (cs : List Content). counts ++ map log_counts cs) (sym left) ∙ c.loop-log.invariant.counts)));
      top = omega (arith, ap top_of left, found.top, c.max-top.ensures, c.loop-log.invariant.top);
    }
