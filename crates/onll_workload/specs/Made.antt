-- What is said of a workload that was run: four lines, which are a function of the workload.

use Rattle.std.specs.Prelude.{ℕ, ◌*◌, ◌/◌, ◌^◌, ◌<◌, List, [], ◌∷◌, codes, decimal}
use Rattle.std.specs.List.{flat_map}
use Rattle.onll_words.specs.Texts.{line_text}
use Rattle.onll_workload.specs.declared.workload.Workload.{Workload}
use Rattle.onll_workload.specs.declared.summary.Summary.{Summary}
use Rattle.onll_workload.specs.Workload.{accounts, balance}

abbrev pub made_line : (threads updates reads : ℕ) → List (List ℕ)
made_line threads updates reads =
    codes "made" ∷ codes "threads" ∷ decimal threads ∷ codes "updates" ∷ decimal updates ∷ codes "reads" ∷ decimal reads ∷ []

abbrev pub counted_line : List ℕ → ℕ → List (List ℕ)
counted_line name n = name ∷ decimal n ∷ []

-- the lines of a summary
abbrev pub summary_lines : Summary → List (List (List ℕ))
summary_lines s =
    made_line s.threads s.updates s.reads
    ∷ counted_line (codes "fences") s.fences
    ∷ counted_line (codes "recovered") s.recovered
    ∷ counted_line (codes "total") s.total
    ∷ []

-- all its numbers are of 64 bits
pub record SummaryReads (s : Summary) : Type 0 where
  pub threads : s.threads < 2 ^ 64
  pub updates : s.updates < 2 ^ 64
  pub reads : s.reads < 2 ^ 64
  pub fences : s.fences < 2 ^ 64
  pub recovered : s.recovered < 2 ^ 64
  pub total : s.total < 2 ^ 64

-- the summary of a workload: each update has one fence and is recovered, each fourth one has a read, and the total stays
abbrev pub made_summary : Workload → Summary
made_summary w = record {
  threads = w.threads;
  updates = w.threads * w.updates;
  reads = w.threads * (w.updates / 4);
  fences = w.threads * w.updates;
  recovered = w.threads * w.updates;
  total = accounts * balance;
}

abbrev pub made_text : Workload → List ℕ
made_text w = flat_map line_text (summary_lines (made_summary w))
