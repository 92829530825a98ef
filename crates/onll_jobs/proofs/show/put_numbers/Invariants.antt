use Rattle.std.proofs.Common.{◌≡◌, map, drop, decimal}
use Rattle.onll_text.specs.Bytes.{with_words}
use Rattle.onll_jobs.proofs.show.put_numbers.Given as goal

-- the numbers that are left make the words that all make
abbrev pub invariant-loop-number : goal.invariant-loop-number
invariant-loop-number l = with_words l.out (map decimal (drop l.number-index l.numbers)) ≡ with_words l.fn.out (map decimal l.numbers)
