-- What `make T N SEED` does: it runs a workload over devices in memory, and sums up what was made.

use Rattle.std.specs.Prelude.{[]}
use Rattle.onll_text.specs.Reports.{SaysOnly}
use Rattle.onll_task.specs.Doing.{Work, report_task}
use Rattle.onll_workload.specs.declared.workload.Workload.{Workload}
use Rattle.onll_workload.specs.Made.{summary_lines, SummaryReads, made_summary, made_text}

-- its summary is said, which is a function of the workload, and nothing else; no file is read or written
abbrev pub make_work : Workload → Work
make_work w = record {
  task = report_task (made_text w) (λ text. SaysOnly summary_lines SummaryReads text (made_summary w));
  writes = [];
}
