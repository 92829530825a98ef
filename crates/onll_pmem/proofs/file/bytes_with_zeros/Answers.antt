use Rattle.std.proofs.Common.{rules, ◌∙◌, ap}
use Rattle.onll_pmem.specs.File.{words_in_file}
use Rattle.onll_pmem.proofs.Files.{Bytes-resized}
use Rattle.onll_pmem.proofs.file.bytes_with_zeros.Goals as goal

pub returns : goal.returns
returns c = ap words_in_file c.in_ok-resize.ensures.items ∙ Bytes-resized c.in_ok-bytes.bytes.items c.args.front.now c.args.lines _ c.line_bytes.result c.in_ok-bytes.ensures c.requires (search rules) c.line_bytes.ensures.words
