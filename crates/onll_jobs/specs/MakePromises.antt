-- What `make` promises of its answers.

use Rattle.std.specs.Prelude.{ℕ, ◌≡◌, ◌⊎◌, Some}
use Rattle.onll_outside.specs.Views.{Puts}
use Rattle.onll_workload.specs.declared.workload.Workload.{Workload}
use Rattle.onll_workload.specs.Made.{made_text}
use Rattle.onll_jobs.specs.Command.{Make, form_of}
use Rattle.onll_jobs.specs.Says.{SinkFailed}
use Rattle.onll_jobs.specs.Seen.{Seen}

-- Four lines are put, which are a function of the words; or the sink failed, or memory could not be had.
pub record MakePromises (seen : Seen) (status : ℕ) : Type 0 where
  pub made : (w : Workload) → form_of seen.words ≡ Some (Make w) → status ≡ 0 → Puts seen.sink seen.sink_after (made_text w)
  pub sink : (w : Workload) → form_of seen.words ≡ Some (Make w) → status ≡ 6 → SinkFailed seen
  pub answers : (w : Workload) → form_of seen.words ≡ Some (Make w) → (status ≡ 0) ⊎ (status ≡ 6) ⊎ (status ≡ 9)
