use Rattle.std.proofs.Common.{take}
use Rattle.std.specs.List.{All}
use Rattle.onll_words.specs.declared.line.Line.{Line}
use Rattle.onll_outside.specs.LineFiles.{IsWholeLine}
use Rattle.onll_task.proofs.recovered.whole_lines.Given as goal

-- the lines so far are whole
abbrev pub invariant-loop-line : goal.invariant-loop-line
invariant-loop-line l = All (λ (line : Line). IsWholeLine line.w) (take l.line-index l.lines)
