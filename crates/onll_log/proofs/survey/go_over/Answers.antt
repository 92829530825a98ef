use Rattle.std.proofs.Common.{ℕ, suc, List, ◌≡◌, ◌+◌, ◌∷◌, ◌<◌, drop, length, sym, ap, ◌∙◌, subst, arith}
use Rattle.std.specs.Option.{option_or}
use Rattle.onll_model.specs.Segment.{Segment}
use Rattle.onll_log.specs.Grammar.{Content}
use Rattle.onll_log.specs.Cursor.{CursorState, entries_left, lines_passed}
use Rattle.onll_log.specs.Survey.{disorder_from, top_in_log}
use Rattle.onll_log.proofs.Cursors.{viewed, not_viewed, gone_on}
use Rattle.onll_log.proofs.Surveys.{surveyed_all}
use Rattle.onll_log.proofs.survey.go_over.Goals as goal

pub loop-entry-preserved : goal.loop-entry-preserved
loop-entry-preserved c =
    let es = c.args.cursor.now.content.entries in
    let cur = c.loop-entry.cursor in
    let last = c.loop-entry.last in
    let e = c.in-Some.entry in
    let same = c.loop-entry.invariant.same in
    let v = viewed (lines_passed cur) (entries_left cur) e (sym c.in-Some.is ∙ c.peek.ensures) in
    let split : drop cur.passed es ≡ v.s ∷ v.more = subst (λ (x : Content). drop cur.passed x.entries ≡ v.s ∷ v.more) same v.split in
    let g = gone_on es cur.passed v.s v.more split in
    let there : cur.passed < length es = g.there in
    let passed : c.advance.new.self.passed ≡ cur.passed + 1 = ap (λ (x : CursorState). x.passed) c.advance.ensures in
    let up : suc cur.passed ≡ cur.passed + 1 = omega arith in
    let count = c.passed.ensures.count in
    let found = c.loop-entry.disorder in
    let next = c.disorder_with-disorder.result in
    let left : drop c.advance.new.self.passed es ≡ v.more = ap (λ n. drop n es) passed ∙ g.left in
    record {
      most = omega (arith, passed, there);
      same = ap (λ (x : CursorState). x.content) c.advance.ensures ∙ same;
      order = ap (λ (n : ℕ). option_or next (disorder_from n e.place (drop c.advance.new.self.passed es))) (passed ∙ sym up)
          ∙ (ap (λ (ss : List Segment). option_or next (disorder_from (suc cur.passed) e.place ss)) left
          ∙ (ap (λ (n : ℕ). option_or next (disorder_from (suc cur.passed) n v.more)) v.place
          ∙ (ap (λ (n : ℕ). option_or next (disorder_from (suc n) v.s.place v.more)) (sym count)
          ∙ (sym (c.disorder_with-disorder.ensures v.s v.more v.place v.count)
          ∙ (ap (λ (n : ℕ). option_or found (disorder_from n last (v.s ∷ v.more))) count
          ∙ (ap (λ (ss : List Segment). option_or found (disorder_from cur.passed last ss)) (sym split) ∙ c.loop-entry.invariant.order))))));
      top = omega (arith, ap top_in_log left, ap top_in_log split, v.place, c.loop-entry.invariant.top, c.max-top.ensures);
    }

pub returns : goal.returns
returns c =
    let cur = c.loop-entry.cursor in
    let none = not_viewed (lines_passed cur) (entries_left cur) (sym c.in_default.is ∙ c.peek.ensures) in
    record {
      survey = surveyed_all cur c.args.cursor.now.content (record { entries = c.passed-2.result; lines = c.used.result; top = c.loop-entry.top; disorder = c.loop-entry.disorder })
          c.loop-entry.invariant.same none c.loop-entry.invariant.most c.passed-2.ensures.count c.used.ensures c.loop-entry.last c.loop-entry.invariant.top c.loop-entry.invariant.order;
      same = c.loop-entry.invariant.same;
    }
