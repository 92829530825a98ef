use Rattle.std.proofs.Common.{◌≡◌, ℕ, suc, ◌+◌, ◌*◌, ◌<◌, ◌^◌, ◌-◌, length, drop, arith, subst, sym, ap, ◌∙◌}
use Rattle.onll_pmem.specs.Pmem.{words_of}
use Rattle.onll_log.specs.Masks.{bits_on, marks_in, marks}
use Rattle.onll_log.proofs.Bits.{marks-line, bits_on-none, lines_lt}
use Rattle.onll_log.proofs.mask.mask_word.Goals as goal

pub marks_below-mask-requires : goal.marks_below-mask-requires
marks_below-mask-requires c = lines_lt (length c.args.lines.now) c.loop-line.line c.loop-line.mask c.requires c.loop-line-test.true c.loop-line.invariant.2

pub loop-line-preserved : goal.loop-line-preserved
loop-line-preserved c =
    let e : 8 + 8 * (length c.args.lines.now - c.loop-line.line) ≡ 8 * (length c.args.lines.now - (c.loop-line.line - 1)) = omega arith in
    let next : suc (c.loop-line.line - 1) ≡ c.loop-line.line = omega arith in (
      omega arith,
      c.marks_below-mask.ensures.bits ∙ (ap (bits_on (marks_in _)) c.loop-line.invariant.1 ∙ sym (marks-line c.args.lines.now (c.loop-line.line - 1) c.loop-line.line _ next (omega arith))),
      subst (λ (n : ℕ). c.marks_below-mask.result < 2 ^ n) e (c.marks_below-mask.ensures.low (8 * (length c.args.lines.now - c.loop-line.line)) c.loop-line.invariant.2),
    )

pub returns : goal.returns
returns c = let none : c.loop-line.line ≡ 0 = omega arith in
    let all : c.loop-line.mask ≡ bits_on (marks (words_of c.args.lines.now)) 0 = c.loop-line.invariant.1 ∙ ap (λ (n : ℕ). bits_on (marks (words_of (drop n c.args.lines.now))) 0) none in
    ap (λ (n : ℕ). n + 2 ^ 63) (all ∙ bits_on-none (marks (words_of c.args.lines.now)))
