use Rattle.std.proofs.Common.{ℕ, ◌+◌, ◌≤◌, List, [], Some, sym, ap, ◌∙◌, subst, arith}
use Rattle.std.proofs.lemmas.List.{length-map}
use Rattle.onll_words.specs.declared.line.Line.{Line}
use Rattle.onll_pmem.specs.Pmem.{words_of}
use Rattle.onll_log.specs.Head.{word}
use Rattle.onll_log.specs.Grammar.{node_of_line}
use Rattle.onll_log.proofs.Cursors.{line_of, words_at}
use Rattle.onll_log.proofs.cursor.LogCursor.node.Goals as goal

pub bounds-self-inside-self-inside : goal.bounds-self-inside-self-inside
bounds-self-inside-self-inside c =
    let s = c.self.inside in
    let there = rw (← c.self.view_is) at c.requires in
    let h = line_of s.head (words_of s.lines.now) s.passed s.at s.next c.args.i c.self.invariant.stands there in
    omega (arith, h.within, length-map s.lines.now (λ (l : Line). l.w))

pub node_of-requires : goal.node_of-requires
node_of-requires c =
    let s = c.self.inside in
    let there = rw (← c.self.view_is) at c.requires in
    let h = line_of s.head (words_of s.lines.now) s.passed s.at s.next c.args.i c.self.invariant.stands there in
    let none : Line = record { w = [] } in
    let here = words_at s.lines.now (s.at + 1 + c.args.i) none in
    (subst (λ (l : List ℕ). 1 ≤ word l 0) here (h.low []), subst (λ (l : List ℕ). word l 0 ≤ 65536) here (h.high []))

pub returns : goal.returns
returns c =
    let s = c.self.inside in
    let there = rw (← c.self.view_is) at c.requires in
    let h = line_of s.head (words_of s.lines.now) s.passed s.at s.next c.args.i c.self.invariant.stands there in
    let none : Line = record { w = [] } in
    let here = words_at s.lines.now (s.at + 1 + c.args.i) none in
    rw (← c.self.view_is) (h.node [] ∙ (ap (λ (l : List ℕ). Some (node_of_line l)) here ∙ ap Some (sym c.node_of.ensures)))

pub overflow_add-self-inside-2 : goal.overflow_add-self-inside-2
overflow_add-self-inside-2 c =
    let s = c.self.inside in
    let there = rw (← c.self.view_is) at c.requires in
    let h = line_of s.head (words_of s.lines.now) s.passed s.at s.next c.args.i c.self.invariant.stands there in
    omega (arith, h.within, length-map s.lines.now (λ (l : Line). l.w))

pub offset_bounds-self-inside-self-inside : goal.offset_bounds-self-inside-self-inside
offset_bounds-self-inside-self-inside c =
    let s = c.self.inside in
    let there = rw (← c.self.view_is) at c.requires in
    let h = line_of s.head (words_of s.lines.now) s.passed s.at s.next c.args.i c.self.invariant.stands there in
    omega (arith, h.within, length-map s.lines.now (λ (l : Line). l.w))
