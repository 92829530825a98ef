use Rattle.std.proofs.Common.{◌≡◌, Some, ap, sym, take, ◌∙◌}
use Rattle.std.proofs.lemmas.Option.{same_Some}
use Rattle.std.specs.Cow.{cow_slice_items}
use Rattle.onll_pmem.specs.Pmem.{words_of}
use Rattle.onll_log.specs.Grammar.{content_of}
use Rattle.onll_log.specs.Encoding.{log_lines}
use Rattle.onll_log.specs.Log.{entries_read}
use Rattle.onll_log.specs.Survey.{survey_of}
use Rattle.onll_log.proofs.Kept.{used_of_log, held_by_used}
use Rattle.onll_log.proofs.log.ThreadLog.image.Goals as goal

pub known-requires : goal.known-requires
known-requires g c =
    let d = g.P.Pmem.means c.self.inside.device in
    let head = c.self.inside.head in
    let entries = entries_read head d.read in
    let keeps = c.self.invariant.keeps in
    let h = keeps.holds in
    let lines : words_of (cow_slice_items c.in_ok-lines.lines) ≡ log_lines head entries =
    c.in_ok-lines.ensures ∙ (ap (λ n. take n d.read) keeps.used_is ∙ used_of_log d head entries c.self.inside.broken h) in
    λ content is.
    let same : record { head = Some head; entries = entries } ≡ content = same_Some _ content (sym (held_by_used head entries h.fits h.fit) ∙ (ap content_of (sym lines) ∙ is)) in
    c.self.invariant.surveyed ∙ ap survey_of same

pub returns-clause-lines : goal.returns-clause-lines
returns-clause-lines g c =
    let d = g.P.Pmem.means c.self.inside.device in
    let keeps = c.self.invariant.keeps in
    rw (← c.self.view_is) (c.known.ensures ∙ (c.in_ok-lines.ensures ∙ (ap (λ n. take n d.read) keeps.used_is
    ∙ used_of_log d c.self.inside.head (entries_read c.self.inside.head d.read) c.self.inside.broken keeps.holds)))

pub returns-clause-content : goal.returns-clause-content
returns-clause-content g c =
    let d = g.P.Pmem.means c.self.inside.device in
    let entries = entries_read c.self.inside.head d.read in
    let keeps = c.self.invariant.keeps in
    let h = keeps.holds in
    rw (← c.self.view_is) (ap content_of (c.known.ensures ∙ (c.in_ok-lines.ensures ∙ (ap (λ n. take n d.read) keeps.used_is
    ∙ used_of_log d c.self.inside.head entries c.self.inside.broken h))) ∙ held_by_used c.self.inside.head entries h.fits h.fit)
