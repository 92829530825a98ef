use Rattle.onll_standby.proofs.Cut.{cut_lines}
use Rattle.onll_standby.proofs.Cutting.{same_lines, longer_part, one_line, no_part}
use Rattle.onll_standby.proofs.Lasting.{course_stays, course_clean}
use Rattle.onll_standby.proofs.Lining.{line_more}
use Rattle.onll_standby.proofs.laws.cut_law.Goals as goal

pub returns : goal.returns
returns g c = record {
  cut = λ heads. cut_lines g.O.Object.means heads;
  line = λ heads. line_more g.O.Object.means heads;
  bytes = λ bytes more full. (one_line bytes more full, no_part bytes more full);
  lasting = λ heads. course_stays g.O.Object.means heads;
  clean = λ heads. course_clean g.O.Object.means heads;
  part = λ bytes more short. (same_lines bytes more short, longer_part bytes more short);
}
