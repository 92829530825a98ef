use Rattle.std.proofs.Common.{rules, ◌≡◌, ◌+◌, ◌<◌, List, [], ℕ, length, subst, sym, take}
use Rattle.onll_words.specs.declared.line.Line.{Line}
use Rattle.onll_pmem.specs.Pmem.{words_of}
use Rattle.onll_pmem.specs.File.{words_in_file}
use Rattle.onll_pmem.proofs.Files.{Bytes-more}
use Rattle.onll_pmem.proofs.file.bytes_of.Goals as goal

pub loop-i-preserved : goal.loop-i-preserved
loop-i-preserved c = let here : c.loop-i.i < length c.args.lines.now = search rules in let none : Line = record { w = [] } in
    subst (λ (ls : List (List ℕ)). words_in_file ls ≡ take (c.loop-i.i + 1) (words_of c.args.lines.now)) (sym c.in_ok-push.ensures.items)
    (Bytes-more c.loop-i.bytes.items c.args.lines.now c.loop-i.i c.line_bytes.result none here c.loop-i.invariant c.line_bytes.ensures.words)
