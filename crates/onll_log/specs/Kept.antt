-- What a thread's log keeps beside its device.
use Rattle.std.specs.Prelude.{ℕ, ◌≡◌, Bool, List, Some}
use Rattle.onll_model.specs.Segment.{Segment}
use Rattle.onll_pmem.specs.Pmem.{DeviceView}
use Rattle.onll_log.specs.declared.head.LogHead.{LogHead}
use Rattle.onll_log.specs.declared.survey.LogSurvey.{LogSurvey}
use Rattle.onll_log.specs.Survey.{survey_of}
use Rattle.onll_log.specs.Log.{KeepsLog}

-- the device holds the log, and what is kept of its entries as a whole is so
pub record KeepsWhole (d : DeviceView) (head : LogHead) (ss : List Segment)
    (survey : LogSurvey) (last fences : ℕ) (broken : Bool) : Type 0 where
  pub keeps : KeepsLog d head ss survey.lines survey.entries last fences broken
  pub surveyed : survey ≡ survey_of (record { head = Some head; entries = ss })
