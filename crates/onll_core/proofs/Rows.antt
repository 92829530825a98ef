use Rattle.std.proofs.Common.{ℕ, zero, suc, ◌≡◌, ◌≢◌, ◌+◌, ◌-◌, ◌*◌, ◌<◌, ◌≤◌, Bool, true, false, true≢false, List, [], ◌∷◌, ◌++◌, length, take, drop, set, get_or, Option, Some, sym, refl, ap, ◌∙◌, subst, arith, eq-eqb, length-append}
use Rattle.std.specs.Prelude.{IfSome, if◌then◌else◌, count_by}
use Rattle.std.specs.List.{slice_get}
use Rattle.std.proofs.lemmas.List.{length-set, take-append-drop}
use mathlib.Core.Logic.{dite}
use native.Mathlib.Decide.{ℕ_discrete}
use Rattle.onll_words.specs.declared.line.OpRow.{OpRow}
use Rattle.onll_model.specs.declared.node.Node.{Node}
use Rattle.onll_model.specs.declared.call.Call.{Call}
use Rattle.onll_model.specs.declared.call.Call.TheVariants.{Update, Ask}
use Rattle.onll_model.specs.Object.{Behaviour}
use Rattle.onll_model.specs.Segment.{nodes_between}
use Rattle.onll_model.specs.Trace.{is_of_thread, state_after, after_row, reply_after, answer_after}
use Rattle.onll_model.specs.Frames.{is_available, Thread, Follows}
use Rattle.onll_model.specs.Events.{next_node}
use Rattle.onll_model.proofs.Lists.{same_some, inside, present, set_here, set_else, take_before, all_append}
use Rattle.onll_model.proofs.States.{state_after-append}
use Rattle.onll_model.proofs.Traces.{count_own, count_other}
use Rattle.onll_model.proofs.FrameParts.{in_trace}
use Rattle.onll_model.proofs.Counting.{few_in_all}
use Rattle.onll_core.specs.declared.phase.Phase.{Phase}
use Rattle.onll_core.specs.declared.phase.Phase.TheVariants as phases
use Rattle.onll_core.specs.declared.returned.Returned.{Returned}
use Rattle.onll_core.specs.declared.local.Local.{Local}
use Rattle.onll_core.specs.Core.{CoreThread, CoreState}
use Rattle.onll_core.specs.CoreFrame.{seen_in, frame_of, frame_thread, thread_at, activity_in}
use Rattle.onll_core.specs.Step.{put, turned, linked, flagged, returning, answered, after_exchange, step_of}
use Rattle.onll_core.specs.Next.{IsNext, IsUpdating}
use Rattle.onll_core.specs.Consistent.{IsConsistent}
use Rattle.onll_core.specs.Kept.{IsLocal, HoldsOp, KeepsCore, moved}
use Rattle.onll_core.proofs.Ready.{MayLink, MaySet}
use Rattle.onll_core.proofs.CoreFrames.{part_at}
use Rattle.onll_core.proofs.Windows.{few_of_thread}
use Rattle.onll_pmem.specs.Device.{line_at, FillsWords}
use Rattle.onll_log.specs.declared.head.LogHead.{LogHead}
use Rattle.onll_log.specs.Encoding.{entry_lines, FitsEntry}
use Rattle.onll_core.specs.Step.{line_of_entry}
use Rattle.onll_core.proofs.Ready.{FitsLog}
use Rattle.onll_core.proofs.Ready.{is_small, may_link, may_set, may_look, back_fits, may_write_back}
use Rattle.onll_core.proofs.Closings.{Made, kept_step, set_clock, at_read, reads, of_thread, next_is, step_is, line_fits_here, may_write_here}

-- The rows of the table that link a node or return.

-- ---- replicas
-- moved forward, a replica is the object after the nodes up to the new place
pub forward : {State Op Query Reply : Type 0} (b : Behaviour State Op Query Reply) (s : State) (xs : List Node) (from to : ℕ) → from ≤ to → state_after b (state_after b s (take from xs)) (nodes_between xs from to) ≡ state_after b s (take to xs)
forward b s xs from to l =
    sym (state_after-append b s (take from xs) (nodes_between xs from to)) ∙
    ap (state_after b s) (ap (λ (ys : List Node). ys ++ drop from (take to xs)) (sym (shorter from to xs l)) ∙ take-append-drop from (take to xs))
  where
    shorter : (n m : ℕ) (ys : List Node) → n ≤ m → take n (take m ys) ≡ take n ys
    shorter zero m ys h = refl
    shorter (suc n) zero ys h = absurd (omega arith)
    shorter (suc n) (suc m) [] h = refl
    shorter (suc n) (suc m) (y ∷ ys) h = ap (λ (zs : List Node). y ∷ zs) (shorter n m ys (omega arith))

-- the nodes up to a place are those below it and its own
take_next : (xs : List Node) (q : ℕ) (x : Node) → slice_get xs q ≡ Some x → take (suc q) xs ≡ take q xs ++ x ∷ []
take_next [] q x e = absurd (cc)
take_next (y ∷ xs) zero x e = ap (λ (z : Node). z ∷ []) (same_some y x e)
take_next (y ∷ xs) (suc q) x e = ap (λ (zs : List Node). y ∷ zs) (take_next xs q x e)

-- after the operation that stands at a place
pub after_own : {State Op Query Reply : Type 0} (b : Behaviour State Op Query Reply) (s : State) (xs : List Node) (p : ℕ) (op : Op) → 1 ≤ p → HoldsOp b xs p op → b.next (state_after b s (take (p - 1) xs)) op ≡ state_after b s (take p xs)
after_own b s xs zero op l h = absurd (omega arith)
after_own {State} b s xs (suc q) op l h =
    let e : suc q - 1 ≡ q = omega arith in
    ap (λ (n : ℕ). b.next (state_after b s (take n xs)) op) e ∙
    sym (ap (state_after b s) (take_next xs q h.node h.here) ∙ (state_after-append b s (take q xs) (h.node ∷ []) ∙ ap (after_row b (state_after b s (take q xs))) h.row))

-- what is returned last has been seen
pub seen_last : {State Op Query Reply : Type 0} (base : ℕ) (rs : List (Returned State Op Query Reply)) (r : Returned State Op Query Reply) → r.place ≤ seen_in base (rs ++ r ∷ [])
seen_last base [] r = omega arith
seen_last base (x ∷ rs) r = let h = seen_last base rs r in omega arith

-- ---- what a thread has seen
module _ {State Op Query Reply : Type 0} (count : ℕ) (c : CoreState State Op Query Reply) (k : IsConsistent count c) (t : ℕ) (th : CoreThread State Op Query Reply) (at : slice_get c.threads t ≡ Some th) where
  pub seen_low : seen_in c.base th.returned ≤ length c.trace
  seen_low = in_trace count (frame_of c) k.sound (seen_in c.base th.returned) (k.sound.seen t (frame_thread c.base c.trace th) (part_at c t th at th.phase refl))

  follows : (ph : Phase) → th.phase ≡ ph → Follows c.trace (seen_in c.base th.returned) (activity_in ph)
  follows ph e = k.sound.follows t (thread_at c.base c.trace th ph) (part_at c t th at ph e)

  apart : (p : ℕ) → is_available c.flags p ≡ false → seen_in c.base th.returned ≢ p
  apart p unset e = true≢false (sym (k.sound.seen t (frame_thread c.base c.trace th) (part_at c t th at th.phase refl)) ∙ (ap (is_available c.flags) e ∙ unset))

  -- the own node that isn't flagged is above it
  pub set_unseen : (p d : ℕ) → th.phase ≡ phases.Set p d → seen_in c.base th.returned < p
  set_unseen p d is =
      let here = part_at c t th at (phases.Set p d) is in
      let v : Thread = thread_at c.base c.trace th (phases.Set p d) in
      let unset = (k.sound.latest t v here p (k.sound.opened t v here p refl)).1 refl in
      let n = apart p unset in
      let f = follows (phases.Set p d) is in
      omega arith

  pub look_seen : (f d : ℕ) → th.phase ≡ phases.Ask f d → seen_in c.base th.returned ≤ d
  look_seen f d is = (follows (phases.Ask f d) is).0

  pub look_base : (f d : ℕ) → th.phase ≡ phases.Ask f d → is_available c.flags d ≡ false → d ≤ c.base + 1 → seen_in c.base th.returned ≤ c.base
  look_base f d is unset low = let n = apart d unset in let h = look_seen f d is in omega arith

-- ---- a node is linked
module _ {State Op Query Reply : Type 0} (b : Behaviour State Op Query Reply) (nodes flags : ℕ) (locals : List (Local State Op Query Reply)) (c : CoreState State Op Query Reply) (k : KeepsCore b nodes flags locals c)
    (now : CoreState State Op Query Reply) (view : c ≡ now) (t : ℕ) (call : Call State Op Query Reply) (ph : Phase) (n : IsNext now t call ph) where
  pub next_at : slice_get c.threads t ≡ Some n.thread
  next_at = subst (λ (s : CoreState State Op Query Reply). slice_get s.threads t ≡ Some n.thread) (sym view) n.here

  pub next_local : (l : Local State Op Query Reply) → l ≡ get_or locals t l → IsLocal b c t n.thread l
  next_local l e = let i = inside c.threads t n.thread next_at in let m = k.as_many in k.replicas t n.thread next_at l (at_read locals t l (omega arith) e)

module _ {State Op Query Reply : Type 0} (b : Behaviour State Op Query Reply) (nodes flags : ℕ) (locals : List (Local State Op Query Reply)) (c : CoreState State Op Query Reply) (k : KeepsCore b nodes flags locals c)
    (now : CoreState State Op Query Reply) (view : c ≡ now) (t : ℕ) (op : Op) (l : ℕ) (n : IsNext now t (Update op) (phases.Exchange l)) where
  here : slice_get c.threads t ≡ Some n.thread
  here = next_at b nodes flags locals c k now view t (Update op) (phases.Exchange l) n

  may : MayLink c t l
  may = may_link (length c.threads) c k.consistent t n.thread here op n.call_is l n.phase_is

  pub linked_few : (own : Local State Op Query Reply) → own ≡ get_or locals t own → own.linked + 1 ≤ 4096
  linked_few own e = let h = (next_local b nodes flags locals c k now view t (Update op) (phases.Exchange l) n own e).linked in let m = may.number in omega arith

  pub one_more : length c.trace < 4096 * length c.threads
  one_more =
      let row : OpRow = record { w = [] } in
      let x : Node = next_node c.trace t row in
      let number = may.number in
      let own = count_own t c.trace x refl in
      let low = inside c.threads t n.thread here in
      let all = few_in_all 4096 (length c.threads) (c.trace ++ x ∷ [])
      (λ u lower. dite (ℕ_discrete u t) (λ same. subst (λ (z : ℕ). count_by (is_of_thread z) (c.trace ++ x ∷ []) ≤ 4096) (sym same) (omega arith))
      (λ other. let a = few_of_thread (length c.threads) c k.consistent u lower in let m = count_other u c.trace x (λ e. other (sym e)) in omega arith))
      (all_append (λ (z : Node). z.thread < length c.threads) c.trace (x ∷ []) k.consistent.sound.below (low, tt)) in
      omega (arith, length-append c.trace (x ∷ []))

  pub nodes_left : (held : ℕ) → held ≡ length c.trace → held < nodes
  nodes_left held e = let m = one_more in let r = k.nodes_room in omega arith

  pub flags_left : (held : ℕ) → held ≡ length c.flags → held < flags
  flags_left held e = let m = one_more in let r = k.flags_room in let s = k.consistent.sound.flags in omega arith

-- what a thread has for itself, where another thread's node is linked
grown : {State Op Query Reply : Type 0} (b : Behaviour State Op Query Reply) (c new : CoreState State Op Query Reply) (x : Node) (u : ℕ) (v : CoreThread State Op Query Reply) (own : Local State Op Query Reply)
    → new.initial ≡ c.initial → new.base ≡ c.base → new.trace ≡ c.trace ++ x ∷ [] → x.thread ≢ u → own.place ≤ length c.trace → IsLocal b c u v own → IsLocal b new u v own
grown b c new x u v own initial base trace other low old = record {
  state = old.state ∙ ap (λ (s : _). state_after b s (take own.place c.trace)) (sym initial) ∙ ap (state_after b new.initial) (sym (ap (take own.place) trace ∙ take_before c.trace (x ∷ []) own.place low));
  seen = subst (λ (n : ℕ). own.place ≤ seen_in n v.returned) (sym base) old.seen;
  linked = old.linked ∙ sym (ap (count_by (is_of_thread u)) trace ∙ count_other u c.trace x other);
}

module _ {State Op Query Reply : Type 0} (b : Behaviour State Op Query Reply) (nodes flags : ℕ) (locals : List (Local State Op Query Reply)) (c : CoreState State Op Query Reply) (k : KeepsCore b nodes flags locals c)
    (now : CoreState State Op Query Reply) (view : c ≡ now) (t : ℕ) (th : CoreThread State Op Query Reply) (there : t < length now.threads) (read : th ≡ get_or c.threads t th)
    (own : Local State Op Query Reply) (mine : own ≡ get_or locals t own) where
  at : slice_get c.threads t ≡ Some th
  at = reads b nodes flags locals c k now view t th there read

  own_at : slice_get locals t ≡ Some own
  own_at = let i = inside c.threads t th at in let m = k.as_many in at_read locals t own (omega arith) mine

  pub is_local : IsLocal b c t th own
  is_local = k.replicas t th at own own_at

  now_is : {x y : CoreState State Op Query Reply} → y ≡ x → step_of b c t ≡ y → x ≡ step_of b now t
  now_is e step = sym e ∙ (sym step ∙ ap (λ (s : CoreState State Op Query Reply). step_of b s t) view)

  pub link_made : (op : Op) (l : ℕ) → IsNext now t (Update op) (phases.Exchange l) → length now.trace ≡ l → (trace : List Node) (fs : List Bool) (w : CoreThread State Op Query Reply) (nodes' flags' : ℕ)
      → trace ≡ c.trace ++ record { thread = t; number = own.linked + 1; row = b.row_of op } ∷ [] → fs ≡ c.flags ++ false ∷ [] → (ph : Phase) → ph ≡ after_exchange c.base l → w ≡ turned th ph → nodes' ≡ nodes → flags' ≡ flags
      → Made b nodes' flags' (set locals t (record { object = own.object; place = own.place; linked = own.linked + 1 })) (record { initial = c.initial; base = c.base; trace = trace; flags = fs; clock = c.clock + 1; threads = set c.threads t w }) (step_of b now t)
  link_made op l n same trace fs w nodes' flags' trace_is flags_is ph ph_is w_is more_nodes more_flags =
      let x : Node = next_node c.trace t (b.row_of op) in
      let w0 : CoreThread State Op Query Reply = turned th (after_exchange c.base l) in
      let new : CoreState State Op Query Reply = linked c t x w0 in
      let own' : Local State Op Query Reply = record { object = own.object; place = own.place; linked = own.linked + 1 } in
      let size : length c.trace ≡ l = ap (λ (s : CoreState State Op Query Reply). length s.trace) view ∙ same in
      let step : step_of b c t ≡ new = step_is b nodes flags locals c k now view t th there read (Update op) (phases.Exchange l) n ∙
      ap (λ (q : Bool). if q then linked c t (next_node c.trace t (b.row_of op)) (turned th (after_exchange c.base l)) else put c t (turned th (phases.Tail l))) (eq-eqb (length c.trace) l size) in
      let count : own.linked + 1 ≡ count_by (is_of_thread t) c.trace + 1 = (let h = is_local.linked in omega arith) in
      let trace_same : new.trace ≡ trace = sym (trace_is ∙ λ i. c.trace ++ record { thread = t; number = count i; row = b.row_of op } ∷ []) in
      let w_same : w0 ≡ w = sym (w_is ∙ ap (turned th) ph_is) in
      let flags_same : new.flags ≡ fs = sym flags_is in
      let clock : suc c.clock ≡ c.clock + 1 = omega arith in
      let all : new ≡ record { initial = c.initial; base = c.base; trace = trace; flags = fs; clock = c.clock + 1; threads = set c.threads t w } =
      (λ i. record { initial = c.initial; base = c.base; trace = trace_same i; flags = flags_same i; clock = clock i; threads = set c.threads t (w_same i) }) in
      let low : (u : ℕ) (v : CoreThread State Op Query Reply) → slice_get c.threads u ≡ Some v → (o : Local State Op Query Reply) → IsLocal b c u v o → o.place ≤ length c.trace
      = (λ u v e o h. let a = seen_low (length c.threads) c k.consistent u v e in let s = h.seen in omega arith) in
      let kept : KeepsCore b nodes' flags' (set locals t own') new = kept_step b nodes flags locals c k t th at new w0 nodes' flags' (set locals t own') step refl (omega arith) (omega arith) (length-set locals t own')
      (λ o oe. let is : own' ≡ o = same_some own' o (sym (set_here locals t own' own own_at) ∙ oe) in
      subst (IsLocal b new t w0) is (record {
        state = is_local.state ∙ ap (state_after b c.initial) (sym (take_before c.trace (x ∷ []) own.place (low t th at own is_local)));
        seen = is_local.seen;
        linked = (let m = count_own t c.trace x refl in let h = is_local.linked in omega arith);
      }))
      (λ u v o other e oe. let old = k.replicas u v e o (sym (set_else locals t u own' other) ∙ oe) in
      grown b c new x u v o refl refl refl (λ q. other (sym q)) (low u v e o old) old) in
      record { kept = subst (KeepsCore b nodes' flags' (set locals t own')) all kept; done = now_is all step }

  -- ---- a call returns
  pub running_here : (call : Call State Op Query Reply) (ph : Phase) → IsNext now t call ph → length th.returned < length th.script
  running_here call ph n = inside th.script (length th.returned) call (next_is b nodes flags locals c k now view t th there read call ph n).0

  pub answer_made : (query : Query) (place began : ℕ) → IfSome (slice_get now.threads t) (λ z. step_of b now t ≡ answered b now t z began place query) → own.place ≤ place
      → (reply : Reply) (l : Local State Op Query Reply) (w : CoreThread State Op Query Reply)
      → reply ≡ b.answer (state_after b own.object (nodes_between c.trace own.place place)) query → l ≡ moved b own c.trace place → w ≡ returning th place reply began c.clock
      → Made b nodes flags (set locals t l) (record { initial = c.initial; base = c.base; trace = c.trace; flags = c.flags; clock = c.clock + 1; threads = set c.threads t w }) (step_of b now t)
  answer_made query place began step' ahead reply l w reply_is l_is w_is =
      let state : state_after b own.object (nodes_between c.trace own.place place) ≡ state_after b c.initial (take place c.trace)
      = ap (λ (s : State). state_after b s (nodes_between c.trace own.place place)) is_local.state ∙ forward b c.initial c.trace own.place place ahead in
      let right : reply ≡ answer_after b c.initial (take place c.trace) query = reply_is ∙ ap (λ (s : State). b.answer s query) state in
      let w_same : returning th place (answer_after b c.initial (take place c.trace) query) began c.clock ≡ w = sym (w_is ∙ ap (λ (r : Reply). returning th place r began c.clock) right) in
      let step : step_of b c t ≡ put c t w = of_thread b nodes flags locals c k now view t th there read (λ s z. step_of b s t ≡ answered b s t z began place query) step' ∙ ap (put c t) w_same in
      let clock = set_clock (put c t w) c.clock refl in
      let kept : KeepsCore b nodes flags (set locals t l) (put c t w) = kept_step b nodes flags locals c k t th at (put c t w) w nodes flags (set locals t l) step refl (omega arith) (omega arith) (length-set locals t l)
      (λ o oe. let is : l ≡ o = same_some l o (sym (set_here locals t l own own_at) ∙ oe) in
      subst (IsLocal b (put c t w) t w) (sym l_is ∙ is) (record {
        state = state;
        seen = subst (λ (z : CoreThread State Op Query Reply). place ≤ seen_in c.base z.returned) (sym w_is) (seen_last c.base th.returned (record { place = place; reply = reply; began = began; ended = c.clock }));
        linked = is_local.linked;
      }))
      (λ u v o other e oe. let old = k.replicas u v e o (sym (set_else locals t u l other) ∙ oe) in record { state = old.state; seen = old.seen; linked = old.linked }) in
      record { kept = subst (KeepsCore b nodes flags (set locals t l)) clock kept; done = now_is clock step }

  pub set_made : (op : Op) (p d : ℕ) → IsNext now t (Update op) (phases.Set p d) → (reply : Reply) (l : Local State Op Query Reply) (w : CoreThread State Op Query Reply) (began : ℕ)
      → reply ≡ b.reply (state_after b own.object (nodes_between c.trace own.place (p - 1))) op
      → l ≡ record { object = b.next (state_after b own.object (nodes_between c.trace own.place (p - 1))) op; place = p; linked = own.linked }
      → began ≡ th.began → w ≡ returning th p reply began c.clock
      → Made b nodes flags (set locals t l) (record { initial = c.initial; base = c.base; trace = c.trace; flags = set c.flags (p - 1) true; clock = c.clock + 1; threads = set c.threads t w }) (step_of b now t)
  set_made op p d n reply l w began reply_is l_is began_is w_is =
      let nx = next_is b nodes flags locals c k now view t th there read (Update op) (phases.Set p d) n in
      let unseen = set_unseen (length c.threads) c k.consistent t th at p d nx.1 in
      let one = (may_set (length c.threads) c k.consistent t th at p d nx.1).from_one in
      let ahead : own.place ≤ p - 1 = (let s = is_local.seen in omega arith) in
      let state : state_after b own.object (nodes_between c.trace own.place (p - 1)) ≡ state_after b c.initial (take (p - 1) c.trace)
      = ap (λ (s : State). state_after b s (nodes_between c.trace own.place (p - 1))) is_local.state ∙ forward b c.initial c.trace own.place (p - 1) ahead in
      let right : reply ≡ reply_after b c.initial (take (p - 1) c.trace) op = reply_is ∙ ap (λ (s : State). b.reply s op) state in
      let holds : HoldsOp b c.trace p op = k.own t th at op p nx.0 (ap Rattle.onll_core.specs.Kept.own_place nx.1) in
      let w_same : returning th p (reply_after b c.initial (take (p - 1) c.trace) op) th.began c.clock ≡ w = sym (w_is ∙ λ i. returning th p (right i) (began_is i) c.clock) in
      let step : step_of b c t ≡ flagged c t p w = step_is b nodes flags locals c k now view t th there read (Update op) (phases.Set p d) n ∙ ap (flagged c t p) w_same in
      let clock = set_clock (flagged c t p w) c.clock refl in
      let kept : KeepsCore b nodes flags (set locals t l) (flagged c t p w) = kept_step b nodes flags locals c k t th at (flagged c t p w) w nodes flags (set locals t l) step refl (omega arith) (omega arith) (length-set locals t l)
      (λ o oe. let is : l ≡ o = same_some l o (sym (set_here locals t l own own_at) ∙ oe) in
      subst (IsLocal b (flagged c t p w) t w) (sym l_is ∙ is) (record {
        state = ap (λ (s : State). b.next s op) state ∙ after_own b c.initial c.trace p op one holds;
        seen = subst (λ (z : CoreThread State Op Query Reply). p ≤ seen_in c.base z.returned) (sym w_is) (seen_last c.base th.returned (record { place = p; reply = reply; began = began; ended = c.clock }));
        linked = is_local.linked;
      }))
      (λ u v o other e oe. let old = k.replicas u v e o (sym (set_else locals t u l other) ∙ oe) in record { state = old.state; seen = old.seen; linked = old.linked }) in
      record { kept = subst (KeepsCore b nodes flags (set locals t l)) clock kept; done = now_is clock step }

-- ---- what the code finds before a step
module _ {State Op Query Reply : Type 0} (b : Behaviour State Op Query Reply) (nodes flags : ℕ) (locals : List (Local State Op Query Reply)) (c : CoreState State Op Query Reply) (k : KeepsCore b nodes flags locals c)
    (now : CoreState State Op Query Reply) (view : c ≡ now) where
  pub now_consistent : IsConsistent (length now.threads) now
  now_consistent = subst (λ (s : CoreState State Op Query Reply). IsConsistent (length s.threads) s) view k.consistent

  module _ (t : ℕ) (call : Call State Op Query Reply) (ph : Phase) (n : IsNext now t call ph) where
    if_next : (P : CoreThread State Op Query Reply → Type 0) → P n.thread → IfSome (slice_get now.threads t) P
    if_next P p = subst (λ (o : Option (CoreThread State Op Query Reply)). IfSome o P) (sym n.here) p

    -- a call that is there has not returned
    pub not_returned : length n.thread.returned < length n.thread.script
    not_returned = inside n.thread.script (length n.thread.returned) call n.call_is

    pub if_running : IfSome (slice_get now.threads t) (λ z. length z.returned < length z.script)
    if_running = if_next (λ z. length z.returned < length z.script) not_returned

  -- a read that finds no node above the base
  pub tail_unseen : (t : ℕ) (query : Query) → IsNext now t (Ask query) phases.Idle → (front : ℕ) → front ≡ length c.trace → front ≤ c.base → IfSome (slice_get now.threads t) (λ z. seen_in now.base z.returned ≤ c.base)
  tail_unseen t query n front e low =
      let s = seen_low (length now.threads) now now_consistent t n.thread n.here in
      let same : length c.trace ≡ length now.trace = ap (λ (z : CoreState State Op Query Reply). length z.trace) view in
      if_next t (Ask query) phases.Idle n (λ z. seen_in now.base z.returned ≤ c.base) (omega arith)

  pub flag_unseen : (t : ℕ) (query : Query) (f d : ℕ) → IsNext now t (Ask query) (phases.Ask f d) → IfSome (slice_get now.threads t) (λ z. seen_in now.base z.returned ≤ d)
  flag_unseen t query f d n = if_next t (Ask query) (phases.Ask f d) n (λ z. seen_in now.base z.returned ≤ d) (look_seen (length now.threads) now now_consistent t n.thread n.here f d n.phase_is)

  pub flag_low : (t : ℕ) (query : Query) (f d : ℕ) → IsNext now t (Ask query) (phases.Ask f d) → d ≤ length now.trace
  flag_low t query f d n = let m = may_look (length now.threads) now now_consistent t n.thread n.here f d n.phase_is in let a = m.below in let z = m.in_trace in omega arith

  pub base_unseen : (t : ℕ) (query : Query) (f d : ℕ) → IsNext now t (Ask query) (phases.Ask f d) → is_available c.flags d ≡ false → d ≤ c.base + 1 → IfSome (slice_get now.threads t) (λ z. seen_in now.base z.returned ≤ c.base)
  base_unseen t query f d n unset low =
      let same : c.base ≡ now.base = ap (λ (z : CoreState State Op Query Reply). z.base) view in
      let s = look_base (length now.threads) now now_consistent t n.thread n.here f d n.phase_is (sym (ap (λ (z : CoreState State Op Query Reply). is_available z.flags d) view) ∙ unset) (omega arith) in
      if_next t (Ask query) (phases.Ask f d) n (λ z. seen_in now.base z.returned ≤ c.base) (omega arith)

  pub base_low : c.base ≤ length now.trace
  base_low = subst (λ (z : CoreState State Op Query Reply). c.base ≤ length z.trace) view k.consistent.based.long

  -- an update that sets its flag
  pub own_set : (t : ℕ) (op : Op) (p d : ℕ) → IsNext now t (Update op) (phases.Set p d) → MaySet c p
  own_set t op p d n = may_set (length c.threads) c k.consistent t n.thread (next_at b nodes flags locals c k now view t (Update op) (phases.Set p d) n) p d n.phase_is

  pub own_unseen : (t : ℕ) (op : Op) (p d : ℕ) → IsNext now t (Update op) (phases.Set p d) → (own : Local State Op Query Reply) → own ≡ get_or locals t own → own.place < p
  own_unseen t op p d n own mine =
      let at = next_at b nodes flags locals c k now view t (Update op) (phases.Set p d) n in
      let l = next_local b nodes flags locals c k now view t (Update op) (phases.Set p d) n own mine in
      let s = l.seen in
      let u = set_unseen (length c.threads) c k.consistent t n.thread at p d n.phase_is in
      omega arith

  -- where a read is answered, the replica stands at or below
  pub answer_ahead : (t : ℕ) → t < length now.threads → (own : Local State Op Query Reply) → own ≡ get_or locals t own → (place : ℕ) → IfSome (slice_get now.threads t) (λ z. seen_in now.base z.returned ≤ place) → own.place ≤ place
  answer_ahead t there own mine place h =
      let low : t < length c.threads = subst (λ (s : CoreState State Op Query Reply). t < length s.threads) (sym view) there in
      let x = present c.threads t low in
      let m = k.as_many in
      let l = k.replicas t x.0 x.1 own (at_read locals t own (omega arith) mine) in
      let seen = l.seen in
      let unseen : seen_in c.base x.0.returned ≤ place = subst (λ (o : Option (CoreThread State Op Query Reply)). IfSome o (λ z. seen_in c.base z.returned ≤ place)) x.1
      (subst (λ (s : CoreState State Op Query Reply). IfSome (slice_get s.threads t) (λ z. seen_in s.base z.returned ≤ place)) (sym view) h) in
      omega arith

  -- the numbers of a write-back
  pub back_small : (t p d j : ℕ) → IsUpdating now t (phases.Back p d j) → (d < p) × (j ≤ 65536)
  back_small t p d j u =
      let n = u.next in
      let kn = now_consistent in
      let fits = back_fits (length now.threads) now kn t n.thread n.here p d j n.phase_is in
      let low = fits.lower in
      let high = fits.in_trace in
      let all = (is_small (length now.threads) now kn t n.thread n.here).places in
      let m = (may_write_back (length now.threads) now kn t n.thread n.here p d j n.phase_is).number in
      (low, omega arith)

-- ---- the lines of an entry
module _ {State Op Query Reply : Type 0} (b : Behaviour State Op Query Reply) (nodes flags : ℕ) (locals : List (Local State Op Query Reply)) (c : CoreState State Op Query Reply) (k : KeepsCore b nodes flags locals c)
    (now : CoreState State Op Query Reply) (view : c ≡ now) (t : ℕ) (th : CoreThread State Op Query Reply) (there : t < length now.threads) (read : th ≡ get_or c.threads t th)
    (p d j : ℕ) (u : IsUpdating now t (phases.Line p d j)) where
  thread_at_line : slice_get c.threads t ≡ Some th
  thread_at_line = reads b nodes flags locals c k now view t th there read

  fits : FitsLog (length c.threads) c t th p d
  fits = line_fits_here b nodes flags locals c k now view t th there read p d j u

  pub entry_format : (head : LogHead) → head ≡ th.head → (1 ≤ head.format) × (head.format ≤ 2)
  entry_format head e = subst (λ (h : LogHead). (1 ≤ h.format) × (h.format ≤ 2)) (sym e) fits.head.format

  pub entry_threads : (head : LogHead) → head ≡ th.head → head.threads ≤ 16
  entry_threads head e = subst (λ (h : LogHead). h.threads ≤ 16) (sym e) fits.head.threads

  pub entry_fits : (head : LogHead) → head ≡ th.head → (ns : List Node) → ns ≡ nodes_between c.trace d p → FitsEntry head.threads (record { place = p; nodes = ns })
  entry_fits head e ns is = subst (λ (h : LogHead). FitsEntry h.threads (record { place = p; nodes = ns })) (sym e) (subst (λ (xs : List Node). FitsEntry th.head.threads (record { place = p; nodes = xs })) (sym is) fits.entry)

  pub entry_before : th.logged ≤ 65536
  entry_before = let s = is_small (length c.threads) c k.consistent t th thread_at_line in let a = s.logged in let z = s.places in omega arith

  pub entry_number : (ns : List Node) → ns ≡ nodes_between c.trace d p → j ≤ length ns
  entry_number ns is = let m = (may_write_here b nodes flags locals c k now view t th there read p d j u).number in let s = fits.nodes in let e = ap length is in omega arith

  pub entry_told : (line : List ℕ) (head : LogHead) → head ≡ th.head → (before : ℕ) → before ≡ th.logged → (ns : List Node) → ns ≡ nodes_between c.trace d p
      → line ≡ line_at (entry_lines head before (record { place = p; nodes = ns })) j → IfSome (slice_get now.threads t) (λ z. line ≡ line_of_entry z now.trace p d j)
  entry_told line head he before be ns ne e =
      let mine : line ≡ line_of_entry th c.trace p d j = e ∙ λ i. line_at (entry_lines (he i) (be i) (record { place = p; nodes = ne i })) j in
      subst (λ (s : CoreState State Op Query Reply). IfSome (slice_get s.threads t) (λ z. line ≡ line_of_entry z s.trace p d j)) view
      (subst (λ (o : Option (CoreThread State Op Query Reply)). IfSome o (λ z. line ≡ line_of_entry z c.trace p d j)) (sym thread_at_line) mine)

  pub write_fills : (line : List ℕ) → IfSome (slice_get now.threads t) (λ z. line ≡ line_of_entry z now.trace p d j) → FillsWords (line_at th.device.read (th.used + j)) line
  write_fills line is = subst (FillsWords (line_at th.device.read (th.used + j)))
      (sym (of_thread b nodes flags locals c k now view t th there read (λ s z. line ≡ line_of_entry z s.trace p d j) is))
      (may_write_here b nodes flags locals c k now view t th there read p d j u).fills
