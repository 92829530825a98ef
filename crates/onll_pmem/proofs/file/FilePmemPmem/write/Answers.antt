use Rattle.std.proofs.Common.{List, ℕ, ap, ◌∙◌}
use Rattle.onll_pmem.specs.File.{FileState, written}
use Rattle.onll_pmem.proofs.Files.{words_in_file-set, KeepsFile-write}
use Rattle.onll_pmem.proofs.file.FilePmemPmem.write.Goals as goal

pub invariant_of-self : goal.invariant_of-self
invariant_of-self g c = KeepsFile-write c.self.inside.bytes.items c.self.inside.waiting.items c.self.inside.to c.self.inside.passed c.self.inside.failed c.args.line c.line_bytes.result c.self.invariant

pub returns : goal.returns
returns g c = let state : List (List ℕ) → FileState = λ read. record { read = read; passed = c.self.inside.passed; failed = c.self.inside.failed } in
    ap state (words_in_file-set c.self.inside.bytes.items c.args.line c.line_bytes.result c.args.value.w c.line_bytes.ensures.words) ∙ ap (λ (s : FileState). written s c.args.line c.args.value.w) c.self.view_is
