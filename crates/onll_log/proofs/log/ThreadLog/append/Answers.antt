use Rattle.std.proofs.Common.{ℕ, ◌+◌, ◌∙◌, length, Some, refl, sym, ap, arith}
use Rattle.std.proofs.lemmas.Result.{on_ok_weaker, on_err_weaker}
use Rattle.onll_model.specs.Segment.{Segment}
use Rattle.onll_log.specs.Log.{entries_read}
use Rattle.onll_log.specs.Survey.{survey_of}
use Rattle.onll_log.proofs.Kept.{few_fences, Appended-entry, FitsEntry-held}
use Rattle.onll_log.proofs.Surveys.{surveyed_more, kept_more}
use Rattle.onll_log.proofs.log.ThreadLog.append.Goals as goal

pub overflow_add-self-inside : goal.overflow_add-self-inside
overflow_add-self-inside g c = let few = (few_fences _ _ _ _ _ _ _ _ c.self.invariant.keeps).1 in omega arith

pub fence-fenced-requires : goal.fence-fenced-requires
fence-fenced-requires g c = let few = (few_fences _ _ _ _ _ _ _ _ c.self.invariant.keeps).0 in let same = c.put_entry.ensures.lines.fences in omega arith

pub invariant_of-self : goal.invariant_of-self
invariant_of-self g c = let r = rw (← c.self.view_is) at c.requires in
    let s : Segment = record { place = c.args.place; nodes = c.args.nodes.now } in let after = r.after in
    let fits = FitsEntry-held c.self.inside.head.threads c.args.place c.args.nodes.now r.some_nodes r.few_nodes (omega arith) r.place r.nodes c.put_entry.ensures.rows in
    let f = c.fence-fenced.ensures in
    let a = Appended-entry c.fence-fenced.result (g.P.Pmem.means c.self.inside.device) (g.P.Pmem.means c.put_entry.new.device) (g.P.Pmem.means c.fence-fenced.new.self) c.self.inside.head
    (entries_read c.self.inside.head (g.P.Pmem.means c.self.inside.device).read) s c.self.inside.survey.lines c.self.inside.survey.entries c.self.inside.last c.self.inside.fences
    c.self.inside.broken c.is_err-self-inside.result c.entry_head-first.result.w c.self.invariant.keeps r.whole fits r.room c.entry_head-first.ensures c.put_entry.ensures.lines
    f.read f.fences f.durable f.kept c.is_err-self-inside.ensures.value in
    kept_more _ c.self.inside.head _ c.self.inside.survey c.with_entry-self-inside.result c.args.place (length c.args.nodes.now) _ _ _ c.with_entry-self-inside.ensures a.keeps
    (surveyed_more c.self.inside.head (entries_read c.self.inside.head (g.P.Pmem.means c.self.inside.device).read) s c.self.inside.survey c.self.invariant.surveyed after
    ∙ ap (λ ss. survey_of (record { head = Some c.self.inside.head; entries = ss })) (sym a.entries))

pub returns : goal.returns
returns g c = let r = rw (← c.self.view_is) at c.requires in
    let s : Segment = record { place = c.args.place; nodes = c.args.nodes.now } in let after = r.after in
    let fits = FitsEntry-held c.self.inside.head.threads c.args.place c.args.nodes.now r.some_nodes r.few_nodes (omega arith) r.place r.nodes c.put_entry.ensures.rows in
    let f = c.fence-fenced.ensures in let p = c.put_entry.ensures.lines.faults in
    let a = Appended-entry c.fence-fenced.result (g.P.Pmem.means c.self.inside.device) (g.P.Pmem.means c.put_entry.new.device) (g.P.Pmem.means c.fence-fenced.new.self) c.self.inside.head
    (entries_read c.self.inside.head (g.P.Pmem.means c.self.inside.device).read) s c.self.inside.survey.lines c.self.inside.survey.entries c.self.inside.last c.self.inside.fences
    c.self.inside.broken c.is_err-self-inside.result c.entry_head-first.result.w c.self.invariant.keeps r.whole fits r.room c.entry_head-first.ensures c.put_entry.ensures.lines
    f.read f.fences f.durable f.kept c.is_err-self-inside.ensures.value in
    rw (← c.self.view_is) (record {
      head = refl;
      entries = a.entries;
      fences = refl;
      broken = c.is_err-self-inside.ensures.value;
      lines = a.lines;
      faults = on_ok_weaker c.fence-fenced.result (λ e. e ∙ p) f.ok;
      settled = a.settled;
      failed = on_err_weaker c.fence-fenced.result (λ e. e ∙ ap (λ (n : ℕ). n + 1) p) f.failed;
      pending = a.pending;
    })
