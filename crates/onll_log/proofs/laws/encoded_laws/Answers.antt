use Rattle.onll_log.proofs.Encoded.{is_head-head_line, head_of-head_line, entries_from-entries_lines, entries_from-zero_lines, content_of-log_lines, content_of-zero_lines, log_lines-more, length-entries_lines}
use Rattle.onll_log.proofs.Lines.{AreLines-log_image}
use Rattle.onll_log.proofs.laws.encoded_laws.Goals as goal

pub returns : goal.returns
returns c = record {
  head = λ head f. record { test = is_head-head_line head f; head_back = head_of-head_line head };
  entries = entries_from-entries_lines;
  zeros = entries_from-zero_lines;
  content = content_of-log_lines;
  empty = content_of-zero_lines;
  more = log_lines-more;
  eight = AreLines-log_image;
  lines = length-entries_lines;
}
