use Rattle.std.proofs.Common.{◌≡◌, ◌+◌, ◌<◌, ◌^◌, length, filter}
use Rattle.onll_words.specs.Texts.{numbered, is_meaningful, lines_of}
use Rattle.onll_words.proofs.text.Lines.next_line.Given as goal

abbrev pub invariant-loop-self : goal.invariant-loop-self
invariant-loop-self l = record {
  left : filter is_meaningful (numbered (l.self-inside.gone + 1) (lines_of l.self-inside.rest.now)) ≡ l.fn.self;
  room : l.self-inside.gone + length l.self-inside.rest.now < 2 ^ 64;
}

abbrev pub decreases-loop-self : goal.decreases-loop-self
decreases-loop-self l = length l.self-inside.rest.now
