-- What the text of a done command says, by the exit of the call.

use Rattle.std.proofs.Common.{ℕ, List, ◌≡◌, refl, sym, ◌∙◌, arith}
use Rattle.onll_task.specs.declared.ending.Ending.{Ending}
use Rattle.onll_task.specs.declared.ending.Ending.TheVariants.{Done, Usage, Refused, BadLog, ReadFault, WriteFault, Faulty, Judged}
use Rattle.onll_task.specs.declared.ending.Exit.{Exit}
use Rattle.onll_task.specs.declared.ending.Exit.TheVariants.{Said, SinkFault, NoMemory}
use Rattle.onll_jobs.specs.Says.{work_of, ExitDetermined}
use Rattle.onll_jobs.specs.Seen.{Seen}
use Rattle.onll_jobs.specs.Command.{form_of}
use Rattle.onll_jobs.specs.Exits.{PutExits}
use Rattle.onll_task.specs.Printed.{exit_status}

pub put_determined : (seen : Seen) (ending : Ending) (text : List ℕ) (exit : Exit) → (ending ≡ Done → (work_of (form_of seen.words)).task.reports seen.store text) → PutExits seen.sink seen.sink_after ending text exit → ExitDetermined seen exit
put_determined seen ending text (Said said) h p e = record { text = text; says = h (sym p.0 ∙ said_done said e); put = p.1 }
  where
    said_done : (said : Ending) → Said said ≡ Said Done → said ≡ Done
    said_done s d = cc
put_determined seen ending text SinkFault h p e = cc e
put_determined seen ending text NoMemory h p e = cc e

pub exit_done : (exit : Exit) → exit_status exit ≡ 0 → exit ≡ Said Done
exit_done (Said Done) e = refl
exit_done (Said Usage) e = absurd (omega arith)
exit_done (Said Refused) e = absurd (omega arith)
exit_done (Said BadLog) e = absurd (omega arith)
exit_done (Said ReadFault) e = absurd (omega arith)
exit_done (Said WriteFault) e = absurd (omega arith)
exit_done (Said Faulty) e = absurd (omega arith)
exit_done (Said Judged) e = absurd (omega arith)
exit_done SinkFault e = absurd (omega arith)
exit_done NoMemory e = absurd (omega arith)
