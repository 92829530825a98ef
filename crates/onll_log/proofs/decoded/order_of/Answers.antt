use Rattle.std.proofs.Common.{ℕ, suc, List, ◌≡◌, ◌+◌, ◌∷◌, length, drop, sym, refl, ap, ◌∙◌, arith}
use Rattle.std.specs.Option.{option_or}
use Rattle.std.proofs.lemmas.List.{drop_more}
use Rattle.onll_model.specs.Segment.{Segment}
use Rattle.onll_log.specs.Decoded.{segments_in, segment_in}
use Rattle.onll_log.specs.Survey.{disorder_from, top_in_log}
use Rattle.onll_log.proofs.decoded.order_of.Goals as goal

pub loop-before-preserved : goal.loop-before-preserved
loop-before-preserved c =
    let entries = c.args.entries.now in
    let i = c.loop-before.before in
    let e = c.index-entries-before.result in
    let s : Segment = segment_in e in
    let rest = segments_in (drop (i + 1) entries) in
    let split : segments_in (drop i entries) ≡ s ∷ rest = ap segments_in (drop_more entries i e c.loop-before-test.true ∙ ap (λ x. x ∷ drop (i + 1) entries) (sym c.index-entries-before.is)) in
    let found = c.loop-before.disorder in
    let next = c.disorder_with-disorder.result in
    let up : i + 1 ≡ suc i = omega arith in
    record {
      order = ap (λ (n : ℕ). option_or next (disorder_from n e.place rest)) up
          ∙ (sym (c.disorder_with-disorder.ensures s rest refl (ap length c.as_slice.ensures))
          ∙ (ap (λ (ss : List Segment). option_or found (disorder_from i c.loop-before.last ss)) (sym split) ∙ c.loop-before.invariant.order));
      top = omega (arith, ap top_in_log split, c.loop-before.invariant.top, c.max-top.ensures);
    }
