use Rattle.std.proofs.Common.{ℕ, zero, suc, ◌≡◌, ◌+◌, ◌<◌, ◌≤◌, ◌^◌, List, [], ◌∷◌, ◌++◌, Some, length, drop, get_or, map, sym, ap, ◌∙◌, subst, arith}
use Rattle.std.specs.Option.{IfSome}
use Rattle.std.specs.List.{All, slice_get}
use Rattle.std.proofs.lemmas.List.{drop_more}
use Rattle.std.proofs.lemmas.List.Elements.{All-cons}
use Rattle.std.proofs.lemmas.Option.{same_Some}
use Rattle.onll_model.specs.declared.node.Node.{Node}
use Rattle.onll_model.specs.declared.call.Call.{Call}
use Rattle.onll_model.specs.declared.call.CallEnd.{CallEnd}
use Rattle.onll_model.specs.Object.{Behaviour}
use Rattle.onll_model.specs.Legal.{EachEnd, AreLegalThreads}
use Rattle.onll_core.specs.declared.returned.Returned.{Returned}
use Rattle.onll_core.specs.declared.returned.Current.{Current}
use Rattle.onll_core.specs.Fences.{fences_of}
use Rattle.onll_core.specs.Core.{CoreThread}
use Rattle.onll_core.specs.Outcomes.{returned_end, current_ends, current_in, ends_of, script_of}
use Rattle.onll_merge.specs.declared.counts.LogCounts.{LogCounts}
use Rattle.onll_text.specs.Wording.{Wording}
use Rattle.onll_text.specs.Reports.{EndsRead, EachReads, LogReads}
use Rattle.onll_text.specs.Lines.{LogData}
use Rattle.onll_recovery.specs.ReplayJob.{counts_of}
use Rattle.onll_recovery.proofs.ReplaySteps.{if_at, thread_at}

-- What the commands print reads back, one part after the other.

-- a thread has no more outcomes than calls
few_ends : {State Op Query Reply : Type 0} (P : Call State Op Query Reply → CallEnd State Op Query Reply → Type 0) (calls : List (Call State Op Query Reply)) (ends : List (CallEnd State Op Query Reply)) → EachEnd P calls ends → length ends ≤ length calls
few_ends P calls [] h = omega arith
few_ends P [] (e ∷ ends) h = absurd h
few_ends P (c ∷ calls) (e ∷ ends) h = let rest = few_ends P calls ends h.1 in omega (arith, rest)

module _ {State Op Query Reply : Type 0} where
  pub few_at : (b : Behaviour State Op Query Reply) (s : State) (base : ℕ) (trace : List Node) (u : ℕ) (ths : List (CoreThread State Op Query Reply)) → AreLegalThreads b s base trace u (map script_of ths) (map ends_of ths)
      → (t : ℕ) (th : CoreThread State Op Query Reply) → slice_get ths t ≡ Some th → length (ends_of th) ≤ length th.script
  few_at b s base trace u [] h t th e = cc e
  few_at b s base trace u (x ∷ ths) h zero th e =
      subst (λ (z : CoreThread State Op Query Reply). length (ends_of z) ≤ length z.script) (same_Some x th e) (few_ends _ x.script (ends_of x) h.0.replies)
  few_at b s base trace u (x ∷ ths) h (suc t) th e = few_at b s base trace (u + 1) ths h.1 t th e

  -- a thread has no more outcomes than its script has calls
  pub few_here : (t : ℕ) (ths : List (CoreThread State Op Query Reply)) (script : List (Call State Op Query Reply)) (rs : List (Returned State Op Query Reply)) (current : Current)
      → t < length ths → IfSome (slice_get ths t) (λ th. script ≡ th.script) → IfSome (slice_get ths t) (λ th. rs ≡ th.returned) → IfSome (slice_get ths t) (λ th. current ≡ current_in th.phase)
      → ((u : ℕ) (th : CoreThread State Op Query Reply) → slice_get ths u ≡ Some th → length (ends_of th) ≤ length th.script)
      → length (map returned_end rs ++ current_ends current) ≤ length script
  few_here t ths script rs current h hs hr hc few =
      let x = thread_at ths t h in
      let th = x.0 in
      let es : script ≡ th.script = if_at (λ z. script ≡ z.script) ths t th x.1 hs in
      let er : rs ≡ th.returned = if_at (λ z. rs ≡ z.returned) ths t th x.1 hr in
      let ec : current ≡ current_in th.phase = if_at (λ z. current ≡ current_in z.phase) ths t th x.1 hc in
      let own : length (map returned_end rs ++ current_ends current) ≡ length (ends_of th) = (λ j. length (map returned_end (er j) ++ current_ends (ec j))) in
      omega (arith, few t th x.1, own, ap length es)

  -- one thread's outcomes before those of the rest
  pub thread_reads : (w : Wording State Op Query Reply) (t : ℕ) (ths : List (CoreThread State Op Query Reply)) (script : List (Call State Op Query Reply)) (rs : List (Returned State Op Query Reply)) (current : Current)
      → t < length ths → IfSome (slice_get ths t) (λ th. script ≡ th.script) → IfSome (slice_get ths t) (λ th. rs ≡ th.returned) → IfSome (slice_get ths t) (λ th. current ≡ current_in th.phase)
      → EndsRead w script (map returned_end rs ++ current_ends current)
      → EachReads w (map script_of (drop (t + 1) ths)) (map ends_of (drop (t + 1) ths)) → EachReads w (map script_of (drop t ths)) (map ends_of (drop t ths))
  thread_reads w t ths script rs current h hs hr hc reads rest =
      let x = thread_at ths t h in
      let th = x.0 in
      let s : t + 1 ≡ suc t = omega arith in
      let es : script ≡ th.script = if_at (λ z. script ≡ z.script) ths t th x.1 hs in
      let er : rs ≡ th.returned = if_at (λ z. rs ≡ z.returned) ths t th x.1 hr in
      let ec : current ≡ current_in th.phase = if_at (λ z. current ≡ current_in z.phase) ths t th x.1 hc in
      let own : EndsRead w th.script (ends_of th) =
      subst (λ (l : List (Call State Op Query Reply)). EndsRead w l (ends_of th)) es
      (subst (λ (k : Current). EndsRead w script (map returned_end th.returned ++ current_ends k)) ec
      (subst (λ (l : List (Returned State Op Query Reply)). EndsRead w script (map returned_end l ++ current_ends current)) er reads)) in
      let more : EachReads w (map script_of (drop (suc t) ths)) (map ends_of (drop (suc t) ths)) = subst (λ j. EachReads w (map script_of (drop j ths)) (map ends_of (drop j ths))) s rest in
      subst (λ (l : List (CoreThread State Op Query Reply)). EachReads w (map script_of l) (map ends_of l)) (sym x.2) (own, more)

  -- one log's numbers before those of the rest
  pub logs_more : (t : ℕ) (logs : List LogCounts) (ths : List (CoreThread State Op Query Reply)) (none d : LogCounts) (fences : ℕ) → t < length logs → t < length ths
      → IfSome (slice_get ths t) (λ th. fences ≡ fences_of th) → d ≡ get_or logs t none → d.entries < 2 ^ 64 → d.lines < 2 ^ 64 → fences < 2 ^ 64
      → All LogReads (counts_of (drop (t + 1) logs) (drop (t + 1) ths)) → All LogReads (counts_of (drop t logs) (drop t ths))
  logs_more t logs ths none d fences h k hf same entries used fits rest =
      let x = thread_at ths t k in
      let th = x.0 in
      let s : t + 1 ≡ suc t = omega arith in
      let made = if_at (λ z. fences ≡ fences_of z) ths t th x.1 hf in
      let few : fences_of th < 2 ^ 64 = subst (λ n. n < 2 ^ 64) made fits in
      let left : drop t logs ≡ d ∷ drop (t + 1) logs = drop_more logs t none h ∙ ap (λ (y : LogCounts). y ∷ drop (t + 1) logs) (sym same) in
      let told : LogData = record { entries = d.entries; lines = d.lines; fences = fences_of th } in
      let more : All LogReads (counts_of (drop (t + 1) logs) (drop (suc t) ths)) = subst (λ j. All LogReads (counts_of (drop (t + 1) logs) (drop j ths))) s rest in
      subst (λ (l : List (CoreThread State Op Query Reply)). All LogReads (counts_of (drop t logs) l)) (sym x.2)
      (subst (λ (l : List LogCounts). All LogReads (counts_of l (th ∷ drop (suc t) ths))) (sym left)
      (All-cons LogReads told (counts_of (drop (t + 1) logs) (drop (suc t) ths)) (record { entries = entries; lines = used; fences = few }) more))
