use Rattle.std.proofs.Common.{map, arith}
use Rattle.onll_words.specs.Lines.{words_of_bytes}
use Rattle.onll_pmem.specs.Pmem.{words_of}
use Rattle.onll_outside.proofs.Gathering.{only_zeros, gathered_lines, gathered_so}
use Rattle.onll_outside.proofs.gather.gather.Goals as goal

pub returns-then-count-eq0-clause-lines : goal.returns-then-count-eq0-clause-lines
returns-then-count-eq0-clause-lines c =
    only_zeros (words_of c.args.lines.now.front.items) (map words_of_bytes c.args.chunks.now) c.args.lines.now.count c.front_count-count.result _ c.requires.gathered.within (omega arith) c.front_count-count.ensures.zeros

pub returns-clause-gathered : goal.returns-clause-gathered
returns-clause-gathered c =
    gathered_so (words_of c.args.lines.now.front.items) (words_of c.put_front.new.lines.items) c.args.lines.now.count c.front_count-count.result c.args.chunks.now c.requires.gathered.within c.front_count-count.ensures.within
    c.front_count-count.ensures.zeros c.in_ok-put_front.ensures.words (omega arith) (c.in_ok-put_front.ensures.whole c.requires.gathered.each) c.front_count-count.ensures.least

pub returns-clause-lines : goal.returns-clause-lines
returns-clause-lines c =
    gathered_lines (words_of c.args.lines.now.front.items) (words_of c.put_front.new.lines.items) c.args.lines.now.count c.front_count-count.result c.args.chunks.now c.requires.gathered.within c.front_count-count.ensures.within
    c.front_count-count.ensures.zeros c.in_ok-put_front.ensures.words
