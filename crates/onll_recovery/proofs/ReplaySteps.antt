use Rattle.std.proofs.Common.{ℕ, zero, suc, ◌≡◌, ◌+◌, ◌<◌, Bool, List, [], ◌∷◌, ◌++◌, Option, Some, None, length, drop, get_or, map, refl, sym, ap, ◌∙◌, subst, arith}
use Rattle.std.specs.List.{slice_get}
use Rattle.std.proofs.lemmas.List.{drop_more, append-nil}
use Rattle.onll_words.specs.Texts.{AreWords, line_text}
use Rattle.onll_words.proofs.Decimals.{IsWord-decimal}
use Rattle.onll_model.specs.declared.node.Node.{Node}
use Rattle.onll_model.specs.declared.call.Call.{Call}
use Rattle.onll_model.specs.declared.call.CallEnd.{CallEnd}
use Rattle.onll_model.specs.Object.{Behaviour}
use Rattle.onll_core.specs.declared.returned.Returned.{Returned}
use Rattle.std.specs.Option.{IfSome}
use Rattle.onll_core.specs.declared.returned.Current.{Current}
use Rattle.onll_core.specs.Fences.{fences_of}
use Rattle.onll_core.specs.Core.{CoreThread}
use Rattle.onll_core.specs.Outcomes.{returned_end, current_ends, current_in, ends_of}
use Rattle.onll_merge.specs.declared.counts.LogCounts.{LogCounts}
use Rattle.onll_text.specs.Wording.{Wording}
use Rattle.onll_text.specs.Bytes.{with_lines}
use Rattle.onll_text.specs.Lines.{call_lines, node_line, log_line, flagged_lines}
use Rattle.onll_text.proofs.Appending.{with_lines-one, with_lines-append}
use Rattle.onll_recovery.specs.ReplayJob.{begun_lines, crash_line, fenced_lines}

-- The parts of a replay's report, as they are appended one after the other.

pub crash_in_words : (keep : ℕ) → AreWords (crash_line keep)
crash_in_words keep = (record { some = refl; bytes = refl }, (IsWord-decimal keep, tt))

-- one node's line with its flag before those of the rest
pub flagged_more : {State Op Query Reply : Type 0} (b : Behaviour State Op Query Reply) (w : Wording State Op Query Reply) (out text : List ℕ) (i : ℕ) (nodes : List Node) (flags : List Bool) (n : Node) (flag : Bool)
    → i < length nodes → i < length flags → text ≡ out ++ line_text (node_line b w (i + 1) (get_or nodes i n) (Some (get_or flags i flag)))
    → with_lines text (flagged_lines b w (i + 1) (drop (i + 1) nodes) (drop (i + 1) flags)) ≡ with_lines out (flagged_lines b w i (drop i nodes) (drop i flags))
flagged_more b w out text i nodes flags n flag h k e =
    let rest = flagged_lines b w (i + 1) (drop (i + 1) nodes) (drop (i + 1) flags) in
    ap (λ t. with_lines t rest) e
    ∙ sym (with_lines-one out (node_line b w (i + 1) (get_or nodes i n) (Some (get_or flags i flag))) rest)
    ∙ sym (ap (λ (l : List Node). with_lines out (flagged_lines b w i l (get_or flags i flag ∷ drop (i + 1) flags))) (drop_more nodes i n h))
    ∙ sym (ap (λ (l : List Bool). with_lines out (flagged_lines b w i (drop i nodes) l)) (drop_more flags i flag k))

-- ---- the calls of a thread
module _ {State Op Query Reply : Type 0} where
  drop_none : (ends : List (CallEnd State Op Query Reply)) (i : ℕ) → slice_get ends i ≡ None → drop i ends ≡ []
  drop_none [] zero e = refl
  drop_none [] (suc i) e = refl
  drop_none (x ∷ ends) zero e = absurd (cc)
  drop_none (x ∷ ends) (suc i) e = drop_none ends i e

  -- no further call has begun
  pub calls_done : (w : Wording State Op Query Reply) (out : List ℕ) (thread i : ℕ) (calls : List (Call State Op Query Reply)) (ends : List (CallEnd State Op Query Reply)) → slice_get ends i ≡ None
      → out ≡ with_lines out (call_lines w thread i (drop i calls) (drop i ends))
  calls_done w out thread i calls ends at =
      sym (append-nil out) ∙ sym (ap (λ (l : List (CallEnd State Op Query Reply)). with_lines out (call_lines w thread i (drop i calls) l)) (drop_none ends i at))

-- ---- the threads
module _ {State Op Query Reply : Type 0} where
  pub if_at : (P : CoreThread State Op Query Reply → Type 0) (ths : List (CoreThread State Op Query Reply)) (t : ℕ) (th : CoreThread State Op Query Reply) → slice_get ths t ≡ Some th → IfSome (slice_get ths t) P → P th
  if_at P ths t th e h = subst (λ (o : Option (CoreThread State Op Query Reply)). IfSome o P) e h

  pub thread_at : (ths : List (CoreThread State Op Query Reply)) (t : ℕ) → t < length ths → (th : CoreThread State Op Query Reply) × (slice_get ths t ≡ Some th) × (drop t ths ≡ th ∷ drop (suc t) ths)
  thread_at [] t h = absurd (omega arith)
  thread_at (th ∷ ths) zero h = (th, refl, refl)
  thread_at (x ∷ ths) (suc t) h = thread_at ths t (omega arith)

  -- one thread's lines before those of the rest
  pub thread_more : (w : Wording State Op Query Reply) (out text : List ℕ) (t : ℕ) (ths : List (CoreThread State Op Query Reply)) (script : List (Call State Op Query Reply)) (rs : List (Returned State Op Query Reply)) (current : Current)
      → t < length ths → IfSome (slice_get ths t) (λ th. script ≡ th.script) → IfSome (slice_get ths t) (λ th. rs ≡ th.returned) → IfSome (slice_get ths t) (λ th. current ≡ current_in th.phase)
      → text ≡ with_lines out (call_lines w t 0 script (map returned_end rs ++ current_ends current))
      → with_lines text (begun_lines w (t + 1) (drop (t + 1) ths)) ≡ with_lines out (begun_lines w t (drop t ths))
  thread_more w out text t ths script rs current h hs hr hc e =
      let x = thread_at ths t h in
      let th = x.0 in
      let s : t + 1 ≡ suc t = omega arith in
      let rest = begun_lines w (t + 1) (drop (t + 1) ths) in
      let es : script ≡ th.script = if_at (λ z. script ≡ z.script) ths t th x.1 hs in
      let er : rs ≡ th.returned = if_at (λ z. rs ≡ z.returned) ths t th x.1 hr in
      let ec : current ≡ current_in th.phase = if_at (λ z. current ≡ current_in z.phase) ths t th x.1 hc in
      ap (λ z. with_lines z rest) e
      ∙ ap (λ (l : List (Call State Op Query Reply)). with_lines (with_lines out (call_lines w t 0 l (map returned_end rs ++ current_ends current))) rest) es
      ∙ ap (λ (l : List (Returned State Op Query Reply)). with_lines (with_lines out (call_lines w t 0 th.script (map returned_end l ++ current_ends current))) rest) er
      ∙ ap (λ (k : Current). with_lines (with_lines out (call_lines w t 0 th.script (map returned_end th.returned ++ current_ends k))) rest) ec
      ∙ sym (with_lines-append out (call_lines w t 0 th.script (ends_of th)) rest)
      ∙ ap (λ j. with_lines out (call_lines w t 0 th.script (ends_of th) ++ begun_lines w (t + 1) (drop j ths))) s
      ∙ sym (ap (λ (l : List (CoreThread State Op Query Reply)). with_lines out (begun_lines w t l)) x.2)

  -- one log's line before those of the rest
  pub fenced_more : (out text : List ℕ) (t : ℕ) (logs : List LogCounts) (ths : List (CoreThread State Op Query Reply)) (none d : LogCounts) (fences : ℕ) → t < length logs → t < length ths
      → IfSome (slice_get ths t) (λ th. fences ≡ fences_of th) → d ≡ get_or logs t none
      → text ≡ out ++ line_text (log_line t d.entries d.lines (Some fences))
      → with_lines text (fenced_lines (t + 1) (drop (t + 1) logs) (drop (t + 1) ths)) ≡ with_lines out (fenced_lines t (drop t logs) (drop t ths))
  fenced_more out text t logs ths none d fences h k hf same e =
      let x = thread_at ths t k in
      let th = x.0 in
      let s : t + 1 ≡ suc t = omega arith in
      let rest = fenced_lines (t + 1) (drop (t + 1) logs) (drop (t + 1) ths) in
      let made = if_at (λ z. fences ≡ fences_of z) ths t th x.1 hf in
      let ef : fences ≡ fences_of th = made in
      let line : ℕ → List (List ℕ) = (λ n. log_line t d.entries d.lines (Some n)) in
      ap (λ z. with_lines z rest) e
      ∙ sym (with_lines-one out (line fences) rest)
      ∙ ap (λ n. with_lines out (line n ∷ rest)) ef
      ∙ ap (λ j. with_lines out (line (fences_of th) ∷ fenced_lines (t + 1) (drop (t + 1) logs) (drop j ths))) s
      ∙ ap (λ (y : LogCounts). with_lines out (fenced_lines t (y ∷ drop (t + 1) logs) (th ∷ drop (suc t) ths))) same
      ∙ sym (ap (λ (l : List LogCounts). with_lines out (fenced_lines t l (th ∷ drop (suc t) ths))) (drop_more logs t none h))
      ∙ sym (ap (λ (l : List (CoreThread State Op Query Reply)). with_lines out (fenced_lines t (drop t logs) l)) x.2)

  -- the same, where the threads are counted by themselves
  pub fenced_next : (out text : List ℕ) (t i : ℕ) (logs : List LogCounts) (ths : List (CoreThread State Op Query Reply)) (none d : LogCounts) (fences : ℕ) → t ≡ i → i < length logs → i < length ths
      → IfSome (slice_get ths t) (λ th. fences ≡ fences_of th) → d ≡ get_or logs i none
      → text ≡ out ++ line_text (log_line t d.entries d.lines (Some fences))
      → with_lines text (fenced_lines (t + 1) (drop (i + 1) logs) (drop (t + 1) ths)) ≡ with_lines out (fenced_lines t (drop i logs) (drop t ths))
  fenced_next out text t i logs ths none d fences same h k hf is e =
      subst (λ j. with_lines text (fenced_lines (t + 1) (drop (j + 1) logs) (drop (t + 1) ths)) ≡ with_lines out (fenced_lines t (drop j logs) (drop t ths))) same
      (fenced_more out text t logs ths none d fences (omega (arith, same, h)) (omega (arith, same, k)) hf (subst (λ j. d ≡ get_or logs j none) (sym same) is) e)
