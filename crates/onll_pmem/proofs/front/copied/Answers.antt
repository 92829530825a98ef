use Rattle.std.proofs.Common.{rules, ◌≡◌, ◌<◌, length}
use Rattle.onll_pmem.proofs.Lines.{EightWords-push, words_of-more}
use Rattle.onll_pmem.proofs.front.copied.Goals as goal

pub loop-i-preserved : goal.loop-i-preserved
loop-i-preserved c = let here : c.loop-i.i < length c.args.lines.now = search rules in
    let eight : length c.line_of.result.w ≡ 8 = search rules in record {
      same = rw c.push_reserved.ensures.items (words_of-more c.loop-i.copy.items c.args.lines.now c.loop-i.i c.line_of.result here
          c.loop-i.invariant.same c.line_of.ensures);
      eight = rw c.push_reserved.ensures.items (EightWords-push c.loop-i.copy.items c.line_of.result c.loop-i.invariant.eight eight);
      room_for = search rules;
    }
