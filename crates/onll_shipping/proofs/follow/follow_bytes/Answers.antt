use Rattle.std.proofs.Common.{ℕ, ◌≡◌, List, [], length, Option, None, Ok, sym, ap, subst, ◌∙◌}
use Rattle.std.specs.List.{flat_map}
use Rattle.onll_words.specs.Texts.{line_text}
use Rattle.onll_standby.specs.Stream.{Course, Shown, course}
use Rattle.onll_task.specs.Doing.{Fulfils}
use Rattle.onll_task.proofs.Stages.{report_does}
use Rattle.onll_shipping.specs.FollowJob.{FollowData, FollowReads, follow_data, follow_data_lines, course_task}
use Rattle.onll_shipping.proofs.Says.{follow_says}
use Rattle.onll_shipping.proofs.follow.follow_bytes.Goals as goal

pub returns-in-Ok : goal.returns-in-Ok
returns-in-Ok g c store =
    let b = g.O.Object.means in let w = g.O.Texted.wording in
    let bytes : List ℕ = c.args.bytes.now in let heads = c.args.heads.items in let start = c.args.object in
    let fed = c.in-Ok.ensures start heads c.in_ok-standby.ensures in
    let is : Course = course b heads bytes in
    let clean : is.shown ≡ None = fed.lines.held.shown in
    let taken = c.taken.ensures.so start heads bytes fed.so in
    let held = c.held.ensures start heads bytes fed.so in
    let followed = c.followed.ensures start heads bytes fed.so in
    let state = c.state-state.ensures start heads bytes fed.so in
    let said : FollowData _ = record { taken = c.taken.result; held = c.held.result; followed = c.followed.result; state = c.state-state.result.now } in
    let same_data : said ≡ follow_data b start (length bytes) is = λ i. record { taken = taken i; held = held i; followed = followed i; state = state i } in
    let text = c.in_ok-report-in-Ok.field-0 in
    let e = c.in_ok-report-in-Ok.ensures.report ∙ ap (λ (x : FollowData _). flat_map line_text (follow_data_lines w x)) same_data in
    let reads = subst (FollowReads w) same_data c.in_ok-report-in-Ok.ensures.reads in
    subst (λ (o : Option Shown). Fulfils [] store store (course_task b w start (length bytes) is o) (Ok text)) (sym clean)
    (report_does store text e (follow_says w text.items (follow_data b start (length bytes) is) e reads))
