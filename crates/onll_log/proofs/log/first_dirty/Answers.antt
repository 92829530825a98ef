use Rattle.std.proofs.Common.{rules, ℕ, ◌≡◌, ◌<◌, ◌≤◌, ◌∙◌, ◌⊎◌, inl, inr, length, sym, arith}
use Rattle.std.proofs.lemmas.Bool.{cases_lt}
use borrow.Author.Count.{below_more}
use Rattle.onll_pmem.specs.Device.{line_at, zero_line}
use Rattle.onll_log.proofs.Writing.{zero_line-test, zero_lines-each}
use Rattle.onll_log.proofs.log.first_dirty.Goals as goal

pub loop-line-preserved : goal.loop-line-preserved
loop-line-preserved g c = below_more (λ (line : ℕ). line_at (g.P.Pmem.means c.args.device.now).read line ≡ zero_line) c.loop-line.line c.loop-line.invariant
    (zero_line-test c.read.result.w (line_at (g.P.Pmem.means c.args.device.now).read c.loop-line.line) c.read.ensures (search rules) (sym c.is_zero.ensures ∙ c.if-not-is_zero.false))

pub returns-clause-clean : goal.returns-clause-clean
returns-clause-clean g c = zero_lines-each (g.P.Pmem.means c.args.device.now).read (λ line within. zero_at line within (cases_lt line c.loop-line.line))
  where
    zero_at : (line : ℕ) → line < length (g.P.Pmem.means c.args.device.now).read → (line < c.loop-line.line) ⊎ (c.loop-line.line ≤ line)
        → line_at (g.P.Pmem.means c.args.device.now).read line ≡ zero_line
    zero_at line within (inl before) = c.loop-line.invariant line before
    zero_at line within (inr behind) = c.lines_to_test-line-end.ensures.zeros line (omega arith) within
