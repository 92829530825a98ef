use Rattle.std.proofs.Common.{◌≡◌, ◌++◌, ◌∷◌, ◌+◌, drop, length, arith, ◌∙◌, sym, ap, subst}
use Rattle.std.specs.List.{All}
use Rattle.std.proofs.lemmas.List.Elements.{All-cons, All-nil}
use Rattle.std.proofs.lemmas.List.{drop_more, drop_all}
use Rattle.onll_model.specs.Fold.{fold_trace, fold_ends, fold_state}
use Rattle.onll_text.specs.Bytes.{with_lines}
use Rattle.onll_text.specs.Lines.{call_line, call_lines}
use Rattle.onll_text.specs.Reports.{EndReads}
use Rattle.onll_jobs.proofs.FoldSteps.{call_done, length-fold_ends}
use Rattle.onll_task.proofs.LineSteps.{begins_after}
use Rattle.onll_jobs.proofs.fold.put_calls.Goals as goal

pub loop-call-preserved : goal.loop-call-preserved
loop-call-preserved g c =
    let b = g.O.Object.means in
    let w = g.O.Texted.wording in
    let s = c.loop-call.object in
    let i = c.loop-call.call-index in
    let call = c.call-item.result in
    let calls = drop (i + 1) c.args.script.now in
    let trace = c.loop-call.trace.items in
    let out = c.loop-call.out in
    let k = c.loop-call.number in
    let end = c.in_ok-end.end in
    let e = drop_more c.args.script.now i call (omega arith) ∙ ap (λ x. x ∷ calls) (sym c.call-item.is) in
    let count : c.len.result ≡ length trace = omega arith in
    let done = call_done b w s c.fold_call.new.object trace c.fold_call.new.trace.items out c.call_line.new.self k c.len.result call calls c.in_ok-end.end
    count c.in_ok-end.ensures.state c.in_ok-end.ensures.trace c.in_ok-end.ensures.end c.in_ok-call_line.ensures.ok
    in record {
      state = done.state ∙ sym (ap (fold_state b s) e) ∙ c.loop-call.invariant.state;
      nodes = done.nodes ∙ sym (ap (λ t. trace ++ fold_trace b (length trace) t) e) ∙ c.loop-call.invariant.nodes;
      lines = done.lines ∙ sym (ap (λ t. with_lines out (call_lines w 0 k t (fold_ends b s (length trace) t))) e) ∙ c.loop-call.invariant.lines;
      ends_read = λ h. c.loop-call.invariant.ends_read (subst (All (EndReads w)) (sym (ap (fold_ends b s (length trace)) e ∙ done.ends)) (All-cons (EndReads w) end (fold_ends b c.fold_call.new.object (length c.fold_call.new.trace.items) calls) c.in_ok-call_line.ensures.reads h));
      begins = begins_after out c.call_line.new.self (call_line w 0 (k + 1) call c.in_ok-end.end) c.in_ok-call_line.ensures.ok;
      number = omega arith;
      count = omega (arith, done.count);
    }

pub returns-clause-ends : goal.returns-clause-ends
returns-clause-ends g c =
    let b = g.O.Object.means in
    let w = g.O.Texted.wording in
    let s = c.loop-call.object in
    let n = length c.loop-call.trace.items in
    record {
      few = omega (arith, length-fold_ends b c.args.object.now 0 c.args.script.now);
      reads = c.loop-call.invariant.ends_read (subst (λ calls. All (EndReads w) (fold_ends b s n calls)) (sym (drop_all c.loop-call.call-index c.args.script.now (omega arith))) (All-nil (EndReads w)));
    }
