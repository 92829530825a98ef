use Rattle.std.proofs.Common.{◌≡◌, ℕ, suc, ◌+◌, ◌-◌, Bool, ◌∷◌, [], ◌++◌, length, Option, Some, sym, refl, ap, ◌∙◌, subst, arith, eq-eqb}
use Rattle.std.specs.Prelude.{if◌then◌else◌}
use Rattle.std.specs.List.{slice_get}
use Rattle.onll_model.specs.Frames.{Frame, Thread, Walk, Asking}
use Rattle.onll_model.specs.Events.{FlagUnset, after, after_by, at_unset_flag, doing, logging, resting_at}
use Rattle.onll_model.proofs.Lists.{set_here}
use Rattle.onll_trace.specs.StepLaw.{TraceStepLaw}
use Rattle.onll_trace.proofs.Steps as steps
use Rattle.onll_trace.proofs.Links as links
use Rattle.onll_trace.proofs.Sets as sets
use Rattle.onll_trace.proofs.Joins as joins

-- The law of the kinds of step, from the lemma of each.

-- what an unset flag makes of its thread
unset_one : (b : ℕ) (f : Frame) (t : ℕ) (th : Thread) → slice_get f.threads t ≡ Some th → slice_get (after b f (FlagUnset t)).threads t ≡ Some (at_unset_flag b th f.trace th.activity)
unset_one b f t th at = subst (λ (o : Option Thread). slice_get (after_by b f (FlagUnset t) o).threads t ≡ Some (at_unset_flag b th f.trace th.activity)) (sym at)
    (set_here f.threads t (at_unset_flag b th f.trace th.activity) th at)

walk_last : (b : ℕ) (f : Frame) (th : Thread) (p : ℕ) → th.activity ≡ Walk p (b + 1) → at_unset_flag b th f.trace th.activity ≡ logging th f.trace b p
walk_last b f th p is = ap (at_unset_flag b th f.trace) is ∙ ap (λ (c : Bool). if c then logging th f.trace b p else doing th (Walk p (b + 1 - 1))) (eq-eqb (b + 1) (b + 1) refl)

read_last : (b : ℕ) (f : Frame) (th : Thread) (front : ℕ) → th.activity ≡ Asking front (b + 1) → at_unset_flag b th f.trace th.activity ≡ resting_at th b
read_last b f th front is = ap (at_unset_flag b th f.trace) is ∙ ap (λ (c : Bool). if c then resting_at th b else doing th (Asking front (b + 1 - 1))) (eq-eqb (b + 1) (b + 1) refl)

pub step_law : TraceStepLaw
step_law = record {
  draft_stored = λ k slots id j word me h is short nine room. steps.drafts k slots id _ word j me h is short nine room refl;
  tail_loaded = λ k slots id me h is may. steps.looks k slots id me h is may;
  tail_recalled = λ k slots id me h is. joins.recalls k slots id me h is;
  row_loaded = λ k slots id i q j me h is nine cell. steps.reads k slots id i q j me h is nine cell;
  settled = λ k slots id i p n me h is logs here. steps.settles k slots id i p n me h is logs here;
  tail_exchanged = λ k slots id old new row me h is loaded olds draft seven room news.
      let one : length me.0.known + 1 ≡ suc (length me.0.known) = omega arith in
      links.links k slots id old new row me h is loaded olds (draft ∙ ap (λ (n : ℕ). row ++ old ∷ n ∷ []) one) seven room news;
  flag_loaded = λ k slots id i q me h x is next low node here.
      steps.flags_next k slots id i q me h x is (steps.loads_map (λ (d : ℕ). d ≡ q + 1) (λ (d : ℕ). d ≡ suc q) h.part.activity (λ d e. omega arith) next) low node here;
  walk_ended = λ b f t th p at is. unset_one b f t th at ∙ ap Some (walk_last b f th p is);
  read_ended = λ b f t th front at is. unset_one b f t th at ∙ ap Some (read_last b f th front is);
  flag_stored = λ k slots id i p n me h is fenced here. sets.sets k slots id i p n me h is fenced here;
  thread_dealt = λ k id t ss logs v is. joins.deals k id t ss logs v is;
  note_made = λ k id v h is. joins.tells k id v h is;
  note_learnt = λ k id v other w h p is may noted. joins.learns k id v other w h p is may noted;
  seat_gathered = λ k id v other w planned none_v none_w. joins.gathers k id v other w planned none_v none_w;
}
