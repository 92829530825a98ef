use Rattle.std.proofs.Common.{ℕ, suc, ◌≡◌, ◌≢◌, ◌+◌, ◌-◌, ◌*◌, ◌<◌, ◌≤◌, ⊎_elim, List, length, set, get_or, Option, Some, sym, refl, ap, ◌∙◌, subst, arith}
use Rattle.std.specs.Prelude.{IfSome}
use Rattle.std.specs.List.{slice_get}
use Rattle.std.proofs.lemmas.List.{length-set}
use Rattle.std.proofs.lemmas.Option.{slice_get_read}
use Rattle.onll_model.specs.Object.{Behaviour}
use Rattle.onll_model.proofs.Lists.{at_set, same_some}
use Rattle.onll_core.specs.declared.returned.Returned.{Returned}
use Rattle.onll_core.specs.declared.local.Local.{Local}
use Rattle.onll_core.specs.Core.{CoreThread, CoreState}
use Rattle.onll_core.specs.CoreFrame.{seen_in}
use Rattle.onll_pmem.specs.Device.{Write, WriteBack, after_step}
use Rattle.onll_core.specs.declared.phase.Phase.{Phase}
use Rattle.onll_core.specs.declared.phase.Phase.TheVariants as phases
use Rattle.onll_model.specs.declared.call.Call.{Call}
use Rattle.onll_model.specs.declared.call.Call.TheVariants.{Update}
use Rattle.onll_core.specs.Step.{put, turned, begun, on_device, logged, line_of_entry, after_back, act, next_call, step_by, step_of}
use Rattle.onll_core.specs.Next.{IsNext, IsUpdating}
use Rattle.onll_core.proofs.Ready.{FitsLog, MayWrite, MayWriteBack}
use Rattle.onll_core.proofs.Ready.{line_fits, may_write, may_write_back, fence_fits}
use Rattle.onll_core.specs.Consistent.{IsConsistent}
use Rattle.onll_core.specs.Reached.{IsReached}
use Rattle.onll_core.specs.Kept.{IsLocal, HoldOwn, KeepsCore}
use Rattle.onll_core.proofs.Kept.{step_consistent}
use Rattle.onll_core.proofs.Owns.{step_own}
use Rattle.onll_core.specs.Fences.{fences_of}
use Rattle.onll_core.proofs.ReachedCores.{step_reached, reached_counts}

-- What a core keeps beside its state is kept by a step of its code.

-- the clock as the code sets it
pub set_clock : {State Op Query Reply : Type 0} (s : CoreState State Op Query Reply) (n : ℕ) → s.clock ≡ suc n → s ≡ record s { clock = n + 1 }
set_clock s n e = let clock : s.clock ≡ n + 1 = omega arith in λ i. record s { clock = clock i }

module _ {State Op Query Reply : Type 0} (b : Behaviour State Op Query Reply) (nodes flags : ℕ) (locals : List (Local State Op Query Reply)) (c : CoreState State Op Query Reply) (k : KeepsCore b nodes flags locals c)
    (t : ℕ) (th : CoreThread State Op Query Reply) (at : slice_get c.threads t ≡ Some th) where
  -- a step that changes one thread and what that thread has for itself
  pub kept_step : (new : CoreState State Op Query Reply) (w : CoreThread State Op Query Reply) (nodes' flags' : ℕ) (own : List (Local State Op Query Reply)) → step_of b c t ≡ new → new.threads ≡ set c.threads t w
      → nodes ≤ nodes' → flags ≤ flags' → length own ≡ length locals
      → ((l : Local State Op Query Reply) → slice_get own t ≡ Some l → IsLocal b new t w l)
      → ((u : ℕ) (v : CoreThread State Op Query Reply) (l : Local State Op Query Reply) → u ≢ t → slice_get c.threads u ≡ Some v → slice_get own u ≡ Some l → IsLocal b new u v l)
      → KeepsCore b nodes' flags' own new
  kept_step new w nodes' flags' own step threads more_nodes more_flags many here there =
      let size : length new.threads ≡ length c.threads = ap length threads ∙ length-set c.threads t w in
      let a = k.nodes_room in
      let f = k.flags_room in
      let n = k.as_many in
      record {
        consistent = subst (λ (n : ℕ). IsConsistent n new) (sym size) (subst (IsConsistent (length c.threads)) step (step_consistent b (length c.threads) c t k.consistent));
        reached = subst (λ (n : ℕ). IsReached b n new) (sym size) (subst (IsReached b (length c.threads)) step (step_reached b (length c.threads) c t k.reached));
        own = subst (HoldOwn b) step (step_own b c t k.own);
        nodes_room = subst (λ (n : ℕ). 4096 * n ≤ nodes') (sym size) (omega arith);
        flags_room = subst (λ (n : ℕ). 4096 * n ≤ flags') (sym size) (omega arith);
        as_many = many ∙ (n ∙ sym size);
        replicas = λ u v e l le. ⊎_elim
            (λ (h : (u ≡ t) × (w ≡ v)). subst (λ (i : ℕ). IsLocal b new i v l) (sym h.0) (subst (λ (z : CoreThread State Op Query Reply). IsLocal b new t z l) h.1 (here l (subst (λ (i : ℕ). slice_get own i ≡ Some l) h.0 le))))
            (λ (h : (u ≢ t) × (slice_get c.threads u ≡ Some v)). there u v l h.0 h.1 le)
            (at_set c.threads t u w v (subst (λ (ths : List (CoreThread State Op Query Reply)). slice_get ths u ≡ Some v) threads e));
      }

  -- nothing returns and no node is linked
  pub kept_put : (w : CoreThread State Op Query Reply) → w.returned ≡ th.returned → step_of b c t ≡ put c t w → KeepsCore b nodes flags locals (put c t w)
  kept_put w same step = kept_step (put c t w) w nodes flags locals step refl (omega arith) (omega arith) refl
      (λ l le. let old = k.replicas t th at l le in record { state = old.state; seen = subst (λ (rs : List (Returned State Op Query Reply)). l.place ≤ seen_in c.base rs) (sym same) old.seen; linked = old.linked })
      (λ u v l other e le. let old = k.replicas u v e l le in record { state = old.state; seen = old.seen; linked = old.linked })

-- A thread as it stands in the list that the code reads is the one that a clause speaks of.
pub at_read : {A : Type 0} (xs : List A) (i : ℕ) (x : A) → i < length xs → x ≡ get_or xs i x → slice_get xs i ≡ Some x
at_read xs i x l e = slice_get_read xs (length xs) i x refl l e

-- A step that changes one thread alone, as the code makes it: what it keeps, and that it is the step.
pub record Made {State Op Query Reply : Type 0} (b : Behaviour State Op Query Reply) (nodes flags : ℕ) (locals : List (Local State Op Query Reply)) (new step : CoreState State Op Query Reply) : Type 0 where
  pub kept : KeepsCore b nodes flags locals new
  pub done : new ≡ step

module _ {State Op Query Reply : Type 0} (b : Behaviour State Op Query Reply) (nodes flags : ℕ) (locals : List (Local State Op Query Reply)) (c : CoreState State Op Query Reply) (k : KeepsCore b nodes flags locals c)
    (now : CoreState State Op Query Reply) (view : c ≡ now) (t : ℕ) (th : CoreThread State Op Query Reply) (there : t < length now.threads) (read : th ≡ get_or c.threads t th) where
  pub reads : slice_get c.threads t ≡ Some th
  reads = at_read c.threads t th (subst (λ (s : CoreState State Op Query Reply). t < length s.threads) (sym view) there) read

  -- a fact of the thread that a clause speaks of
  pub of_thread : (P : CoreState State Op Query Reply → CoreThread State Op Query Reply → Type 0) → IfSome (slice_get now.threads t) (P now) → P c th
  of_thread P h = subst (λ (o : Option (CoreThread State Op Query Reply)). IfSome o (P c)) reads (subst (λ (s : CoreState State Op Query Reply). IfSome (slice_get s.threads t) (P s)) (sym view) h)

  -- and a fact that a clause is to say of it
  pub to_thread : (P : CoreState State Op Query Reply → CoreThread State Op Query Reply → Type 0) → P c th → IfSome (slice_get now.threads t) (P now)
  to_thread P h = subst (λ (s : CoreState State Op Query Reply). IfSome (slice_get s.threads t) (P s)) view (subst (λ (o : Option (CoreThread State Op Query Reply)). IfSome o (P c)) (sym reads) h)

  -- the fences of this generation
  pub fences_told : (n : ℕ) → n + th.before ≡ th.device.fences → IfSome (slice_get now.threads t) (λ z. n ≡ fences_of z)
  fences_told n e = to_thread (λ s z. n ≡ fences_of z) (let m = reached_counts b (length c.threads) c k.reached t th reads in omega arith)

  -- the step changes this thread alone, and nothing of it returns
  pub made_put : (w : CoreThread State Op Query Reply) → w.returned ≡ th.returned → step_of b c t ≡ put c t w → Made b nodes flags locals (record (put c t w) { clock = c.clock + 1 }) (step_of b now t)
  made_put w same mine =
      let clock = set_clock (put c t w) c.clock refl in
      record {
        kept = subst (KeepsCore b nodes flags locals) clock (kept_put b nodes flags locals c k t th reads w same mine);
        done = sym clock ∙ (sym mine ∙ ap (λ (s : CoreState State Op Query Reply). step_of b s t) view);
      }

  -- what the thread does next
  pub next_is : (call : Call State Op Query Reply) (ph : Phase) → IsNext now t call ph → (next_call th ≡ Some call) × (th.phase ≡ ph)
  next_is call ph n =
      let at : slice_get now.threads t ≡ Some th = subst (λ (s : CoreState State Op Query Reply). slice_get s.threads t ≡ Some th) view reads in
      let same : n.thread ≡ th = same_some n.thread th (sym n.here ∙ at) in
      subst (λ (z : CoreThread State Op Query Reply). (next_call z ≡ Some call) × (z.phase ≡ ph)) same (n.call_is, n.phase_is)

  pub step_is : (call : Call State Op Query Reply) (ph : Phase) → IsNext now t call ph → step_of b c t ≡ act b c t th (Some call) ph
  step_is call ph n = let h = next_is call ph n in
      ap (step_by b c t) reads ∙ λ i. act b c t th (h.0 i) (h.1 i)

  pub turn_made : (w : CoreThread State Op Query Reply) (ph : Phase) → w ≡ turned th ph → IfSome (slice_get now.threads t) (λ z. step_of b now t ≡ put now t (turned z ph))
      → Made b nodes flags locals (record (put c t w) { clock = c.clock + 1 }) (step_of b now t)
  turn_made w ph is step = made_put w (ap (λ (z : CoreThread State Op Query Reply). z.returned) is) (of_thread (λ s z. step_of b s t ≡ put s t (turned z ph)) step ∙ ap (put c t) (sym is))

  pub begin_made : (w : CoreThread State Op Query Reply) (ph : Phase) → w ≡ begun th c.clock ph → IfSome (slice_get now.threads t) (λ z. step_of b now t ≡ put now t (begun z now.clock ph))
      → Made b nodes flags locals (record (put c t w) { clock = c.clock + 1 }) (step_of b now t)
  begin_made w ph is step = made_put w (ap (λ (z : CoreThread State Op Query Reply). z.returned) is) (of_thread (λ s z. step_of b s t ≡ put s t (begun z s.clock ph)) step ∙ ap (put c t) (sym is))

  -- ---- the log
  pub line_fits_here : (p d j : ℕ) → IsUpdating now t (phases.Line p d j) → FitsLog (length c.threads) c t th p d
  line_fits_here p d j u = line_fits (length c.threads) c k.consistent t th reads p d j (next_is (Update u.op) (phases.Line p d j) u.next).1

  pub may_write_here : (p d j : ℕ) → IsUpdating now t (phases.Line p d j) → MayWrite c th p d j
  may_write_here p d j u = may_write (length c.threads) c k.consistent t th reads p d j (next_is (Update u.op) (phases.Line p d j) u.next).1

  pub write_made : (p d j : ℕ) → (u : IsUpdating now t (phases.Line p d j)) → (line : List ℕ) → IfSome (slice_get now.threads t) (λ z. line ≡ line_of_entry z now.trace p d j)
      → (w : CoreThread State Op Query Reply) → w ≡ on_device th (after_step th.device (Write (th.used + j) line)) (phases.Back p d j) → Made b nodes flags locals (record (put c t w) { clock = c.clock + 1 }) (step_of b now t)
  write_made p d j u line is w e =
      let same : line ≡ line_of_entry th c.trace p d j = of_thread (λ s z. line ≡ line_of_entry z s.trace p d j) is in
      made_put w (ap (λ (z : CoreThread State Op Query Reply). z.returned) e)
      (step_is (Update u.op) (phases.Line p d j) u.next ∙ ap (put c t) ((λ i. on_device th (after_step th.device (Write (th.used + j) (sym same i))) (phases.Back p d j)) ∙ sym e))

  pub may_write_back_here : (p d j : ℕ) → IsUpdating now t (phases.Back p d j) → MayWriteBack th p d j
  may_write_back_here p d j u = may_write_back (length c.threads) c k.consistent t th reads p d j (next_is (Update u.op) (phases.Back p d j) u.next).1

  pub back_made : (p d j : ℕ) → (u : IsUpdating now t (phases.Back p d j)) → (ph : Phase) → ph ≡ after_back p d j
      → (w : CoreThread State Op Query Reply) → w ≡ on_device th (after_step th.device (WriteBack (th.used + j))) ph → Made b nodes flags locals (record (put c t w) { clock = c.clock + 1 }) (step_of b now t)
  back_made p d j u ph is w e = made_put w (ap (λ (z : CoreThread State Op Query Reply). z.returned) e)
      (step_is (Update u.op) (phases.Back p d j) u.next ∙ ap (put c t) ((λ i. on_device th (after_step th.device (WriteBack (th.used + j))) (sym is i)) ∙ sym e))

  pub fence_fits_here : (p d : ℕ) → IsUpdating now t (phases.Fence p d) → FitsLog (length c.threads) c t th p d
  fence_fits_here p d u = fence_fits (length c.threads) c k.consistent t th reads p d (next_is (Update u.op) (phases.Fence p d) u.next).1

  pub fence_made : (p d : ℕ) → (u : IsUpdating now t (phases.Fence p d)) → (w : CoreThread State Op Query Reply) → w ≡ logged th (p - d) (phases.Set p d)
      → Made b nodes flags locals (record (put c t w) { clock = c.clock + 1 }) (step_of b now t)
  fence_made p d u w e = made_put w (ap (λ (z : CoreThread State Op Query Reply). z.returned) e) (step_is (Update u.op) (phases.Fence p d) u.next ∙ ap (put c t) (sym e))
