use Rattle.std.proofs.Common.{ℕ, drop, get_or, arith, sym, subst, ap, ◌+◌, ◌++◌, ◌∙◌, ◌≡◌}
use Rattle.std.proofs.lemmas.List.{drop_more}
use Rattle.std.proofs.lemmas.List.Elements.{All-cons}
use Rattle.std.specs.List.{All}
use Rattle.onll_words.specs.Texts.{line_text}
use Rattle.onll_model.specs.declared.node.Node.{Node}
use Rattle.onll_log.specs.Cursor.{entries_left, first_nodes}
use Rattle.onll_merge.proofs.Standings.{get_is}
use Rattle.onll_text.specs.Bytes.{with_lines}
use Rattle.onll_jobs.specs.ShowJob.{row_line, row_lines, RowReads}
use Rattle.onll_task.proofs.LineSteps.{begins_after}
use Rattle.onll_jobs.proofs.ShowWords.{row_lines_more}
use Rattle.onll_jobs.proofs.show.put_rows.Goals as goal

pub loop-i-preserved : goal.loop-i-preserved
loop-i-preserved c =
    let i = c.loop-i.i in
    let place = c.args.below + i in
    let nodes = first_nodes (entries_left c.args.cursor.now) in
    let node = c.node.result in
    let is : get_or nodes i node ≡ node = get_is nodes i node node c.node.ensures in
    let line = c.in_ok-put_row.ensures.line ∙ ap (λ (n : Node). c.loop-i.out ++ line_text (row_line (place + 1) n)) (sym is) in
    let up : c.args.below + (i + 1) ≡ place + 1 = omega arith in
    record {
      lines = ap (λ (p : ℕ). with_lines c.put_row.new.out (row_lines p (drop (i + 1) nodes))) up
          ∙ (row_lines_more c.loop-i.out c.put_row.new.out place i nodes node (omega (arith, c.requires.count)) line ∙ c.loop-i.invariant.lines);
      begins = begins_after c.loop-i.out c.put_row.new.out (row_line (place + 1) node) c.in_ok-put_row.ensures.line;
      reads = λ rest. c.loop-i.invariant.reads (subst (All RowReads) (sym (drop_more nodes i node (omega (arith, c.requires.count))))
          (All-cons RowReads (get_or nodes i node) (drop (i + 1) nodes) (subst RowReads (sym is) c.in_ok-put_row.ensures.reads) rest));
    }
