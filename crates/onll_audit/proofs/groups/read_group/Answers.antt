use Rattle.std.proofs.Common.{rules, List, ℕ, true, [], ◌∷◌, ◌++◌, ◌≡◌, ◌∙◌, map, ap, sym}
use Rattle.std.proofs.lemmas.List.{map-append}
use Rattle.onll_audit.specs.declared.groups.CallLine.{CallLine}
use Rattle.onll_audit.specs.Form.{is_call_line, lines_while}
use Rattle.onll_audit.specs.Values.{as_left}
use Rattle.onll_audit.proofs.Running.{onto_lines, onto_yes, lines_read}
use Rattle.onll_audit.proofs.groups.read_group.Goals as goal

pub loop-next-preserved : goal.loop-next-preserved
loop-next-preserved g c =
    let w = g.O.Texted.wording in
    let f = λ (l : CallLine). l.line.now in
    let p = is_call_line w c.args.thread in
    let old = c.loop-next.group.items in
    let next = c.in-Some.next in
    let after = as_left next.after in
    let held : p next.line.now ≡ true = search rules in
    let more : map f c.push.new.self.items ≡ map f old ++ next.line.now ∷ [] = ap (map f) c.in_ok-push.ensures.items ∙ map-append f old (_ ∷ []) in
    record {
      whole = ap (λ (lines : List (List ℕ)). onto_lines lines (lines_while p after.number after.parts)) more
          ∙ sym (onto_yes p (map f old) (as_left c.loop-next.left) next.line.now after c.in-Some.ensures.line held)
          ∙ c.loop-next.invariant.whole;
      read = lines_read w c.args.thread c.args.script.now old c.push.new.self.items _ c.len.result c.in_ok-push.ensures.items (search rules)
          c.loop-next.invariant.read c.in_ok-end.ensures.end;
      within = search rules;
    }
