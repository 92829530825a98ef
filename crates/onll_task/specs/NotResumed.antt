-- What is said where nothing goes on from the logs of an earlier generation.

use Rattle.std.specs.Prelude.{ℕ, List, [], ◌∷◌, codes, decimal, get_or}
use Rattle.onll_words.specs.Texts.{line_text}
use Rattle.onll_task.specs.declared.ending.Ending.TheVariants.{BadLog, Refused}
use Rattle.onll_merge.specs.declared.fault.StateFault.TheVariants.{NotOperation}
use Rattle.onll_merge.specs.Faults.{state_fault}
use Rattle.onll_start.specs.declared.fault.ResumeFault.{ResumeFault}
use Rattle.onll_start.specs.declared.fault.ResumeFault.TheVariants.{Images, OldFormat, NotOp, TooMany, NoMemory}
use Rattle.onll_text.specs.declared.reason.Reason.TheVariants as reasons
use Rattle.onll_text.specs.Refusal.{refused}
use Rattle.onll_task.specs.declared.ending.Ending.{Ending}
use Rattle.onll_task.specs.Printed.{refusal_text}
use Rattle.onll_task.specs.Faults.{fault_line}

-- a script whose thread has too many updates is refused; all else is said of the logs
abbrev pub resume_ending : ResumeFault → Ending
resume_ending (TooMany thread) = Refused
resume_ending (Images fault) = BadLog
resume_ending (OldFormat log) = BadLog
resume_ending (NotOp place) = BadLog
resume_ending NoMemory = BadLog

-- the line that says why no core goes on from images with the scripts of these files; want of memory, which no images give, has none
abbrev pub resume_text : List (List ℕ) → ResumeFault → List ℕ
resume_text names (TooMany thread) = refusal_text (get_or names thread []) (refused 0 reasons.TooMany)
resume_text names (Images fault) = fault_line (state_fault fault)
resume_text names (OldFormat log) = line_text (codes "log" ∷ decimal log ∷ codes "of" ∷ codes "format" ∷ decimal 1 ∷ [])
resume_text names (NotOp place) = fault_line (NotOperation place)
resume_text names NoMemory = []
