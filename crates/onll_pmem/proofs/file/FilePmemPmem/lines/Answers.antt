use Rattle.std.proofs.Common.{subst, ap}
use Rattle.onll_pmem.specs.Pmem.{EightWords}
use Rattle.onll_pmem.specs.File.{FileState}
use Rattle.onll_pmem.proofs.Files.{EightWords-words_in_file}
use Rattle.onll_pmem.proofs.file.FilePmemPmem.lines.Goals as goal

pub returns-clause-eight : goal.returns-clause-eight
returns-clause-eight g c = subst EightWords (ap (λ (s : FileState). s.read) c.self.view_is) (EightWords-words_in_file c.self.inside.bytes.items)
