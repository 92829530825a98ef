use Rattle.std.proofs.Common.{◌∙◌, List, Some, ap, sym, arith}
use Rattle.std.proofs.lemmas.List.{length-map}
use Rattle.onll_model.specs.Segment.{last_place}
use Rattle.onll_log.specs.declared.decoded.Entry.{Entry}
use Rattle.onll_log.specs.declared.survey.LogSurvey.{LogSurvey}
use Rattle.onll_log.specs.Decoded.{segments_in, segment_in}
use Rattle.onll_log.specs.Survey.{survey_of}
use Rattle.onll_log.proofs.Kept.{used-opened, entries_read-opened, KeepsLog-opened}
use Rattle.onll_log.proofs.log.ThreadLog.open.Goals as goal

pub survey-survey-requires : goal.survey-survey-requires
survey-survey-requires g c = let r = c.requires in let l = c.lines-lines.ensures in let few = c.lines-lines.type_inv in let lines = l.lines in
    let within = used-opened (g.P.Pmem.means c.args.device).read c.args.log.now c.in-Some.head l.eight c.in-Some.is r.found r.rest in omega arith

pub prove-unreachable-requires : goal.prove-unreachable-requires
prove-unreachable-requires g c = let r = c.requires in let l = c.lines-lines.ensures in let lines = l.lines in let more = c.if-prove.true in
    let used = ap (λ (x : LogSurvey). x.lines) c.survey-survey.ensures in
    let within = used-opened (g.P.Pmem.means c.args.device).read c.args.log.now c.in-Some.head l.eight c.in-Some.is r.found r.rest in omega arith

pub invariant_of-result : goal.invariant_of-result
invariant_of-result g c = let r = c.requires in let l = c.lines-lines.ensures in let few = c.lines-lines.type_inv in let lines = l.lines in
    let read = (g.P.Pmem.means c.args.device).read in
    let survey = c.survey-survey.ensures in
    let entries = entries_read-opened read c.args.log.now c.in-Some.head l.eight c.in-Some.is r.found r.rest in
    record {
      keeps = KeepsLog-opened (g.P.Pmem.means c.args.device) c.args.log.now c.in-Some.head c.survey-survey.result.lines c.survey-survey.result.entries c.last_of.result
          l.eight (omega arith) l.told r.few r.settled c.in-Some.is r.found r.rest (ap (λ (x : LogSurvey). x.lines) survey)
          (ap (λ (x : LogSurvey). x.entries) survey ∙ length-map c.args.log.now.entries segment_in)
          (c.last_of.ensures ∙ ap (λ (es : List Entry). last_place 0 (segments_in es)) c.as_slice.ensures);
      surveyed = survey ∙ (ap (λ h. survey_of (record { head = h; entries = segments_in c.args.log.now.entries })) c.in-Some.is
          ∙ ap (λ ss. survey_of (record { head = Some c.in-Some.head; entries = ss })) (sym entries));
    }

pub returns-clause-entries : goal.returns-clause-entries
returns-clause-entries g c = let r = c.requires in let l = c.lines-lines.ensures in
    entries_read-opened (g.P.Pmem.means c.args.device).read c.args.log.now c.in-Some.head l.eight c.in-Some.is r.found r.rest
