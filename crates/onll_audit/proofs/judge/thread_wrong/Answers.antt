use Rattle.std.proofs.Common.{refl, sym, ap, ◌∙◌, ◌+◌, ◌++◌, append_assoc, arith, Result, Option, Some, ℕ, map, length, drop, List, ◌≡◌}
use Rattle.std.proofs.lemmas.List.{length-map, append-nil}
use Rattle.std.proofs.lemmas.Option.{slice_get_read}
use Rattle.onll_audit.specs.declared.groups.CallLine.{CallLine}
use Rattle.onll_words.specs.declared.line.OpRow.{OpRow}
use Rattle.onll_audit.specs.declared.said.Said.{Said}
use Rattle.onll_audit.specs.declared.verdict.Why.{Why}
use Rattle.onll_audit.specs.declared.past.Past.{Past}
use Rattle.onll_audit.specs.Verdict.{on_judged, thread_wrong, next_past, row_said, rows_said}
use Rattle.onll_audit.specs.Values.{as_end}
use Rattle.onll_audit.proofs.Judging.{judged_by, on_line, past_end, one_more, few_placed, judged_said}
use Rattle.onll_audit.proofs.Rows.{said_more, said_end}
use Rattle.onll_audit.proofs.judge.thread_wrong.Goals as goal

pub returns-then-i-script-clause-wrong : goal.returns-then-i-script-clause-wrong
returns-then-i-script-clause-wrong g c =
    let e = c.args.evidence.now in
    let lines = map (λ (l : CallLine). l.line.now) c.args.lines.now in
    let many : length lines ≡ length c.args.lines.now = length-map c.args.lines.now (λ (l : CallLine). l.line.now) in
    sym (c.loop-i.invariant.whole
    ∙ past_end g.O.Object.means g.O.Texted.wording e.first.now e.nodes.now e.thread e.places.now (c.args.number + c.loop-i.i) c.loop-i.past
    c.args.script.now lines c.loop-i.i (omega (arith, many)) (omega arith))

pub returns-in-Err-clause-wrong : goal.returns-in-Err-clause-wrong
returns-in-Err-clause-wrong g c =
    let e = c.args.evidence.now in
    let n = c.args.number + c.loop-i.i in
    let lines = map (λ (l : CallLine). l.line.now) c.args.lines.now in
    let wrong = thread_wrong g.O.Object.means g.O.Texted.wording e.first.now e.nodes.now e.thread e.places.now in
    let i = c.loop-i.i in
    let call = c.index-script-i.result in
    let read = c.line_at-read.result.now in
    let rest = on_line g.O.Object.means g.O.Texted.wording e.first.now e.nodes.now e.thread e.places.now n
    c.loop-i.past c.args.script.now lines i read.line.now c.line_at-read.ensures.rest call (omega arith) c.index-script-i.is in
    let judged = judged_by g.O.Object.means g.O.Texted.wording e.first.now e.nodes.now e.places.now c.loop-i.past call e.thread i read.line.now (as_end read.end) _ c.loop-i.invariant.calls
    (c.requires.read i call read (slice_get_read c.args.script.now (length c.args.script.now) i call refl (omega arith) c.index-script-i.is) c.line_at-read.ensures.there)
    c.in_ok-said.ensures.said in
    sym (c.loop-i.invariant.whole ∙ rest
    ∙ ap (λ (r : Result Said Why). on_judged n r (λ x. wrong (n + 1) (next_past c.loop-i.past call x) (drop (i + 1) c.args.script.now) (drop (i + 1) lines)))
    (judged ∙ c.in-Err.is))

pub loop-i-preserved : goal.loop-i-preserved
loop-i-preserved g c =
    let e = c.args.evidence.now in
    let lines = map (λ (l : CallLine). l.line.now) c.args.lines.now in
    let n = c.args.number + c.loop-i.i in
    let i = c.loop-i.i in
    let read = c.line_at-read.result.now in
    let here = c.line_at-read.ensures.rest in
    let on = λ (past : Past) (k : ℕ). thread_wrong g.O.Object.means g.O.Texted.wording e.first.now e.nodes.now e.thread e.places.now k past
    (drop (i + 1) c.args.script.now) (drop (i + 1) lines) in
    let rest = on_line g.O.Object.means g.O.Texted.wording e.first.now e.nodes.now e.thread e.places.now n
    c.loop-i.past c.args.script.now lines i c.line_at-read.result.now.line.now here c.index-script-i.result (omega arith) c.index-script-i.is in
    let b = g.O.Object.means in
    let w = g.O.Texted.wording in
    let call = c.index-script-i.result in
    let line = c.line_at-read.result.now.line.now in
    let old = c.loop-i.rows.items in
    let left = rows_said b w e.thread (i + 1) (drop (i + 1) c.args.script.now) (drop (i + 1) lines) in
    let said : Said = c.in-Ok.said in
    let told = judged_by b w e.first.now e.nodes.now e.places.now c.loop-i.past call e.thread i line (as_end read.end) _ c.loop-i.invariant.calls
    (c.requires.read i call read (slice_get_read c.args.script.now (length c.args.script.now) i call refl (omega arith) c.index-script-i.is) c.line_at-read.ensures.there)
    c.in_ok-said.ensures.said ∙ c.in-Ok.is in
    let judged = judged_said b w e.first.now e.nodes.now e.places.now c.loop-i.past call said e.thread i line c.loop-i.invariant.calls told in
    let up : n + 1 ≡ c.args.number + (i + 1) = omega arith in
    record {
      whole = c.loop-i.invariant.whole ∙ rest
          ∙ ap (λ (r : Result Said Why). on_judged n r (λ x. on (next_past c.loop-i.past c.index-script-i.result x) (n + 1))) told
          ∙ ap (λ (past : Past). on past (n + 1)) (sym c.with-past.ensures)
          ∙ ap (on c.with-past.result) up;
      rows = ap (λ (rows : List OpRow). rows ++ left) c.in_ok-push_row-in-Ok.ensures ∙ append_assoc old (row_said b call (Some said)) left
          ∙ ap (λ (o : Option Said). old ++ (row_said b call o ++ left)) (sym judged)
          ∙ sym (ap (λ (rows : List OpRow). old ++ rows) (said_more b w e.thread i c.args.script.now lines line call here (omega arith) c.index-script-i.is))
          ∙ c.loop-i.invariant.rows;
      calls = ap (λ (past : Past). past.calls) c.with-past.ensures ∙ one_more c.loop-i.past call said ∙ ap (λ (n : ℕ). n + 1) c.loop-i.invariant.calls;
      placed = omega (
        arith,
        ap (λ (past : Past). past.placed) c.with-past.ensures,
        few_placed c.loop-i.past call said,
        c.loop-i.invariant.placed,
      );
      at = c.in_ok-said.ensures.at;
      object = c.in_ok-said.ensures.object;
    }

pub returns-clause-rows : goal.returns-clause-rows
returns-clause-rows g c =
    let lines = map (λ (l : CallLine). l.line.now) c.args.lines.now in
    let many : length lines ≡ length c.args.lines.now = length-map c.args.lines.now (λ (l : CallLine). l.line.now) in
    let old = c.loop-i.rows.items in
    sym (append-nil old)
    ∙ sym (ap (λ (rows : List OpRow). old ++ rows)
    (said_end g.O.Object.means g.O.Texted.wording c.args.evidence.now.thread c.loop-i.i c.args.script.now lines (omega (arith, many))))
    ∙ c.loop-i.invariant.rows
