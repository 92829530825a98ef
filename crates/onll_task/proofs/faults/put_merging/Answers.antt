use Rattle.std.proofs.Common.{◌≡◌, ◌++◌, OnOk, refl, sym, subst}
use Rattle.onll_words.proofs.Decimals.{IsWord-decimal}
use Rattle.onll_merge.specs.declared.fault.RecoverFault.{RecoverFault}
use Rattle.onll_task.specs.Faults.{merging_line}
use Rattle.onll_task.proofs.faults.put_merging.Goals as goal

pub line-requires-clause-words : goal.line-requires-clause-words
line-requires-clause-words c =
    (record { some = refl; bytes = refl }, (IsWord-decimal c.in-NotThisRun.log, (record { some = refl; bytes = refl }, (record { some = refl; bytes = refl }, (record { some = refl; bytes = refl }, (record { some = refl; bytes = refl }, tt))))))

pub line-requires-in-Disorder-clause-words : goal.line-requires-in-Disorder-clause-words
line-requires-in-Disorder-clause-words c =
    (record { some = refl; bytes = refl }, (IsWord-decimal c.in-Disorder.log, (record { some = refl; bytes = refl }, (IsWord-decimal c.in-Disorder.entry, (record { some = refl; bytes = refl }, tt)))))

pub line-requires-in-Clash-clause-words : goal.line-requires-in-Clash-clause-words
line-requires-in-Clash-clause-words c =
    (record { some = refl; bytes = refl }, (IsWord-decimal c.in-Clash.place, (record { some = refl; bytes = refl }, (record { some = refl; bytes = refl }, (record { some = refl; bytes = refl }, (IsWord-decimal c.in-Clash.log, (record { some = refl; bytes = refl }, (IsWord-decimal c.in-Clash.other, tt))))))))

pub line-requires-in-Gap-clause-words : goal.line-requires-in-Gap-clause-words
line-requires-in-Gap-clause-words c =
    (record { some = refl; bytes = refl }, (IsWord-decimal c.in-Gap.place, (record { some = refl; bytes = refl }, tt)))

pub line-requires-in-Stray-clause-words : goal.line-requires-in-Stray-clause-words
line-requires-in-Stray-clause-words c =
    (record { some = refl; bytes = refl }, (IsWord-decimal c.in-Stray.place, (record { some = refl; bytes = refl }, (IsWord-decimal c.in-Stray.thread, (record { some = refl; bytes = refl }, (IsWord-decimal c.in-Stray.number, (record { some = refl; bytes = refl }, (IsWord-decimal c.in-Stray.wanted, tt))))))))

pub returns-in-NotThisRun : goal.returns-in-NotThisRun
returns-in-NotThisRun c =
    subst (λ (fault : RecoverFault). OnOk c.line.result (c.line.new.self ≡ c.args.out.now ++ merging_line fault)) (sym c.in-NotThisRun.is) c.line.ensures.ok

pub returns-in-Clash : goal.returns-in-Clash
returns-in-Clash c =
    subst (λ (fault : RecoverFault). OnOk c.line-in-Clash.result (c.line-in-Clash.new.self ≡ c.args.out.now ++ merging_line fault)) (sym c.in-Clash.is) c.line-in-Clash.ensures.ok
