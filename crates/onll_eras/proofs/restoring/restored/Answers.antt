use Rattle.std.proofs.Common.{rules, [], ℕ, List, Bool, ◌≡◌, ◌+◌, length, Ok, subst, sym}
use Rattle.std.specs.Prelude.{◌^◌}
use Rattle.std.specs.List.{flat_map}
use Rattle.std.proofs.lemmas.Bool.{lt-ltb}
use Rattle.onll_words.specs.Texts.{line_text}
use Rattle.onll_merge.specs.Recovered.{recovered_in}
use Rattle.onll_text.specs.Reports.{SaysOnly}
use Rattle.onll_task.specs.RecoverySaid.{data_with}
use Rattle.onll_task.specs.declared.ending.Ending.TheVariants.{BadLog}
use Rattle.onll_task.specs.Doing.{Fulfils, report_task, say_task}
use Rattle.onll_task.proofs.Stages.{report_does}
use Rattle.onll_eras.specs.EraJob.{either_task}
use Rattle.onll_eras.specs.EraReports.{at_end_text, newest_in, place_in, restore_lines, RestoreData, RestoreReads}
use Rattle.onll_eras.proofs.EraSays.{restore_says}
use Rattle.onll_eras.proofs.restoring.restored.Goals as goal

pub returns-in_ok-report-in-Some : goal.returns-in_ok-report-in-Some
returns-in_ok-report-in-Some g c store =
    let b = g.O.Object.means in
    let w = g.O.Texted.wording in
    let r = recovered_in c.args.recovery.now in
    let from = newest_in c.args.era.newest.now in
    let said : RestoreData _ = record { from = from; logs = data_with r c.args.object.now } in
    let text = c.in_ok-report-in-Some.field-0 in
    let reads = c.in_ok-report-in-Some.ensures.reads in
    let place : c.in-Some.place ≡ place_in from + length r.nodes = search rules in
    let says = restore_says b w from c.args.object.now r c.in-Some.place text.items place c.in_ok-report-in-Some.ensures.report reads in
    subst (λ (q : Bool). Fulfils [] store store (either_task q (report_task (flat_map line_text (restore_lines b w said)) (λ (t : List ℕ). SaysOnly (restore_lines b w) (RestoreReads b w) t said))
    (say_task BadLog at_end_text)) (Ok text)) (sym (lt-ltb (place_in from + length r.nodes) (2 ^ 64) reads.place)) (report_does store text says.printed says)
