use Rattle.std.proofs.Common.{◌≡◌, sym, subst, refl}
use Rattle.onll_words.proofs.Decimals.{IsWord-decimal}
use Rattle.onll_standby.specs.declared.fault.FeedFault.{FeedFault}
use Rattle.onll_task.specs.Stop.{StopSays}
use Rattle.onll_task.specs.declared.ending.Ending.TheVariants.{BadLog}
use Rattle.onll_shipping.specs.FollowJob.{stream_fault_line}
use Rattle.onll_shipping.proofs.bad_stream.bad_stream.Goals as goal

pub says_line-requires-clause-words : goal.says_line-requires-clause-words
says_line-requires-clause-words c = (record { some = refl; bytes = refl }, (record { some = refl; bytes = refl }, (IsWord-decimal c.in-NotThisRun.log, (record { some = refl; bytes = refl }, (record { some = refl; bytes = refl }, (record { some = refl; bytes = refl }, (record { some = refl; bytes = refl }, tt)))))))

pub says_line-requires-in-Clash-clause-words : goal.says_line-requires-in-Clash-clause-words
says_line-requires-in-Clash-clause-words c = (record { some = refl; bytes = refl }, (record { some = refl; bytes = refl }, (IsWord-decimal c.in-Clash.at, (record { some = refl; bytes = refl }, (IsWord-decimal c.in-Clash.place, (record { some = refl; bytes = refl }, tt))))))

pub says_line-requires-in-Stray-clause-words : goal.says_line-requires-in-Stray-clause-words
says_line-requires-in-Stray-clause-words c = (record { some = refl; bytes = refl }, (record { some = refl; bytes = refl }, (IsWord-decimal c.in-Stray.place, (record { some = refl; bytes = refl }, (record { some = refl; bytes = refl }, tt)))))

pub says_line-requires-in-NotOp-clause-words : goal.says_line-requires-in-NotOp-clause-words
says_line-requires-in-NotOp-clause-words c = (record { some = refl; bytes = refl }, (record { some = refl; bytes = refl }, (IsWord-decimal c.in-NotOp.place, (record { some = refl; bytes = refl }, (record { some = refl; bytes = refl }, (record { some = refl; bytes = refl }, tt))))))

pub returns-in-NotThisRun : goal.returns-in-NotThisRun
returns-in-NotThisRun c = subst (λ (fault : FeedFault). StopSays c.says_line.result (λ end said. (end ≡ BadLog) × (said ≡ stream_fault_line fault))) (sym c.in-NotThisRun.is) c.says_line.ensures

pub returns-in-Stray : goal.returns-in-Stray
returns-in-Stray c = subst (λ (fault : FeedFault). StopSays c.says_line-in-Stray.result (λ end said. (end ≡ BadLog) × (said ≡ stream_fault_line fault))) (sym c.in-Stray.is) c.says_line-in-Stray.ensures
