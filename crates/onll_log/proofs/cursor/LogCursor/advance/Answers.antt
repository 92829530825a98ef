use Rattle.std.proofs.Common.{arith}
use Rattle.std.proofs.lemmas.List.{length-map}
use Rattle.onll_words.specs.declared.line.Line.{Line}
use Rattle.onll_pmem.specs.Pmem.{words_of}
use Rattle.onll_log.proofs.Cursors.{further, within_further, known_further, was_looked}
use Rattle.onll_log.proofs.cursor.LogCursor.advance.Goals as goal

pub overflow_add-self-in-Some-next : goal.overflow_add-self-in-Some-next
overflow_add-self-in-Some-next c =
    let s = c.self.inside in
    omega (arith, within_further s.head (words_of s.lines.now) s.passed s.at s.next c.in-Some.head c.in-Some-next.entry c.self.invariant.stands c.in-Some.is c.in-Some-next.is, length-map s.lines.now (λ (l : Line). l.w))

pub overflow_add-self-in-Some-next-2 : goal.overflow_add-self-in-Some-next-2
overflow_add-self-in-Some-next-2 c =
    let s = c.self.inside in
    omega (arith, within_further s.head (words_of s.lines.now) s.passed s.at s.next c.in-Some.head c.in-Some-next.entry c.self.invariant.stands c.in-Some.is c.in-Some-next.is, length-map s.lines.now (λ (l : Line). l.w))

pub entry_at-self-inside-requires-clause-within : goal.entry_at-self-inside-requires-clause-within
entry_at-self-inside-requires-clause-within c =
    let s = c.self.inside in
    omega (arith, within_further s.head (words_of s.lines.now) s.passed s.at s.next c.in-Some.head c.in-Some-next.entry c.self.invariant.stands c.in-Some.is c.in-Some-next.is, length-map s.lines.now (λ (l : Line). l.w))

pub entry_at-self-inside-requires-clause-known : goal.entry_at-self-inside-requires-clause-known
entry_at-self-inside-requires-clause-known c =
    let s = c.self.inside in
    λ below. known_further s.head (words_of s.lines.now) s.passed s.at s.next c.in-Some.head c.in-Some-next.entry c.self.invariant.stands c.in-Some.is c.in-Some-next.is
    (omega (arith, below, c.max-self-inside.ensures, c.self.invariant.accepted))

pub invariant_of-self : goal.invariant_of-self
invariant_of-self c =
    let s = c.self.inside in
    let there = rw (← c.self.view_is) at c.requires in
    record {
      stands = further s.head (words_of s.lines.now) s.passed s.at s.next c.in-Some.head c.in-Some-next.entry c.entry_at-self-inside.result c.self.invariant.stands c.in-Some.is c.in-Some-next.is c.entry_at-self-inside.ensures;
      accepted = omega (arith, c.max-self-inside.ensures, c.self.invariant.accepted, there);
      surveyed = c.self.invariant.surveyed;
    }

pub returns-in_default-next : goal.returns-in_default-next
returns-in_default-next c =
    let s = c.self.inside in
    let there = rw (← c.self.view_is) at c.requires in
    let looked = was_looked s.head (words_of s.lines.now) s.passed s.at s.next c.self.invariant.stands there in
    let is = looked.3 in
    absurd (cc (is, c.in_default-next.is))
