use Rattle.std.proofs.Common.{◌≡◌, ℕ, ◌+◌, ◌<◌, ◌≤◌, Bool, true, false, List, [], ◌∷◌, ◌++◌, length, set, get_or, Option, Some, None, Result, refl, sym, ap, ◌∙◌, subst, arith}
use Rattle.std.specs.Prelude.{IfSome, is_ok}
use Rattle.std.specs.List.{slice_get}
use Rattle.onll_words.specs.declared.line.OpRow.{OpRow}
use Rattle.onll_model.specs.declared.node.Node.{Node}
use Rattle.onll_model.specs.declared.call.Call.TheVariants.{Update}
use Rattle.onll_model.specs.Object.{Behaviour}
use Rattle.onll_model.specs.Trace.{reply_after}
use Rattle.onll_model.specs.Segment.{nodes_between}
use Rattle.onll_model.specs.Events.{next_node}
use Rattle.onll_pmem.specs.declared.pmem.FenceFailed.{FenceFailed}
use Rattle.onll_pmem.specs.Pmem.{DeviceView}
use Rattle.onll_log.specs.Log.{LogState}
use Rattle.onll_locked.specs.declared.ends.LockedEnd.{LockedEnd}
use Rattle.onll_locked.specs.declared.ends.Next.{Next}
use Rattle.onll_locked.specs.declared.ends.Next.TheVariants as nexts
use Rattle.onll_locked.specs.Locked.{LockedThread, LockedState, next_call, failed_at, own_places, update_end, EndHasNode, HasNoNode}
use Rattle.onll_locked.specs.DoNext.{with_end, after_end, after_node, IsThreadLog, IsNewestPlace, HasDone, EndsSo}
use Rattle.onll_locked.specs.Kept.{KeepsLocked}
use Rattle.onll_locked.proofs.Places.{next_inside}
use Rattle.onll_locked.proofs.Keeping.{kept_node, kept_end, end_free, one_more, short, few_own, end_has_node}
use Rattle.onll_locked.proofs.Updates.{at_read, said_of, say_of, MayAppend, HasAppended, below_low, may_append, has_done, is_ready}

-- What the code of a call has made, from what the calls in it promise.

-- an update
pub record UpdateMade {State Op Query Reply Device : Type 0} (b : Behaviour State Op Query Reply) (nodes flags : ℕ) (object : State) (new now : LockedState State Op Query Reply) (t : ℕ) (log log' : LogState Device) (was is : DeviceView) (next : Next) : Type 0 where
  pub kept : KeepsLocked b nodes flags object new
  pub done : IfSome (slice_get now.threads t) (λ th. HasDone b now t th new log log' was is next)
  pub ready : IsThreadLog new t log' (length is.read)

module _ {State Op Query Reply : Type 0} (b : Behaviour State Op Query Reply) (nodes flags : ℕ) (object : State) (c : LockedState State Op Query Reply) (k : KeepsLocked b nodes flags object c) (now : LockedState State Op Query Reply) (view : c ≡ now)
    (t : ℕ) (th : LockedThread State Op Query Reply) (there : t < length now.threads) (read : th ≡ get_or c.threads t th) where
  pub reads : slice_get c.threads t ≡ Some th
  reads = at_read c.threads t th (subst (λ (s : LockedState State Op Query Reply). t < length s.threads) (sym view) there) read

  pub reads_now : slice_get now.threads t ≡ Some th
  reads_now = subst (λ (s : LockedState State Op Query Reply). slice_get s.threads t ≡ Some th) view reads

  -- ---- a call that has no node
  module _ (e : LockedEnd State Op Query Reply) (fits : IfSome (slice_get now.threads t) (λ z. EndsSo b now z (next_call z) e)) where
    so : EndsSo b c th (next_call th) e
    so = subst (λ (s : LockedState State Op Query Reply). EndsSo b s th (next_call th) e) (sym view) (said_of (λ (z : LockedThread State Op Query Reply). EndsSo b now z (next_call z) e) (slice_get now.threads t) th reads_now fits)

    pub end_put_free : HasNoNode (next_call th) e
    end_put_free = end_free b nodes flags object c k t th reads e so

    pub end_inside : length th.ends < length th.script
    end_inside = by (next_call th) refl end_put_free
      where
        by : (o : Option _) → next_call th ≡ o → HasNoNode o e → length th.ends < length th.script
        by None is free = absurd free
        by (Some call) is free = next_inside th call is

    pub end_kept : (w : LockedThread State Op Query Reply) → w ≡ with_end th e → KeepsLocked b nodes flags object (record { initial = c.initial; trace = c.trace; flags = c.flags; threads = set c.threads t w })
    end_kept w is = subst (λ (z : LockedThread State Op Query Reply). KeepsLocked b nodes flags object (record { initial = c.initial; trace = c.trace; flags = c.flags; threads = set c.threads t z })) (sym is) (kept_end b nodes flags object c k t th reads e so)

    pub end_made : (w : LockedThread State Op Query Reply) → w ≡ with_end th e → IfSome (slice_get now.threads t) (λ z. record { initial = c.initial; trace = c.trace; flags = c.flags; threads = set c.threads t w } ≡ after_end now t z e)
    end_made w is = say_of (λ (z : LockedThread State Op Query Reply). record { initial = c.initial; trace = c.trace; flags = c.flags; threads = set c.threads t w } ≡ after_end now t z e) (slice_get now.threads t) th reads_now
        (λ i. record { initial = (view i).initial; trace = (view i).trace; flags = (view i).flags; threads = set (view i).threads t (is i) })

  -- ---- an update that has one
  module _ (op : Op) (next : IfSome (slice_get now.threads t) (λ z. (next_call z ≡ Some (Update op)) × (failed_at z.ends ≡ None))) where
    facts : (next_call th ≡ Some (Update op)) × (failed_at th.ends ≡ None)
    facts = said_of (λ (z : LockedThread State Op Query Reply). (next_call z ≡ Some (Update op)) × (failed_at z.ends ≡ None)) (slice_get now.threads t) th reads_now next

    pub is_whole : failed_at th.ends ≡ None
    is_whole = facts.1

    pub is_inside : length th.ends < length th.script
    is_inside = next_inside th (Update op) facts.0

    pub ordered_few : (ordered : ℕ) → ordered ≡ length (own_places th) → ordered + 1 ≤ 4096
    ordered_few ordered e = let f = few_own b nodes flags object c k t th reads op facts.0 facts.1 in let n = (k.threads t th reads).counts.nodes in omega arith

    pub nodes_left : (n : ℕ) → n ≡ length c.trace → n < nodes
    nodes_left n e = let s = short b nodes flags object c k t th reads op facts.0 facts.1 in let r = k.nodes_room in omega arith

    pub flags_left : (n : ℕ) → n ≡ length c.flags → n < flags
    flags_left n e = let s = short b nodes flags object c k t th reads op facts.0 facts.1 in let r = k.flags_room in let m = k.as_many in omega arith

    module _ (ordered : ℕ) (row : OpRow) (ordered_is : ordered ≡ length (own_places th)) (row_is : row ≡ b.row_of op) (items : List Node) (items_is : items ≡ c.trace ++ record { thread = t; number = ordered + 1; row = row } ∷ [])
        (below : ℕ) (newest : IsNewestPlace c.flags below) where
      abbrev longer : List Node
      longer = c.trace ++ next_node c.trace t (b.row_of op) ∷ []

      longer_is : items ≡ longer
      longer_is = items_is ∙ (λ i. c.trace ++ record { thread = t; number = (ordered_is ∙ (k.threads t th reads).counts.nodes) i + 1; row = row_is i } ∷ [])

      size : length items ≡ length c.trace + 1
      size = ap length longer_is ∙ one_more b nodes flags object c k t th reads op facts.0 facts.1

      pub below_within : below ≤ length items
      below_within = let l = below_low b nodes flags object c k t th reads op facts.0 facts.1 below newest in let s = size in omega arith

      module _ {Device : Type 0} (log : LogState Device) (lines : ℕ) (ready : IsThreadLog now t log lines) (place : ℕ) (place_is : place ≡ length items) (ns : List Node) (ns_is : ns ≡ nodes_between items below (length items)) where
        ready_c : IsThreadLog c t log lines
        ready_c = subst (λ (s : LockedState State Op Query Reply). IsThreadLog s t log lines) (sym view) ready

        pub may : MayAppend log lines place ns
        may = may_append b nodes flags object c k t th reads op facts.0 facts.1 below newest log lines ready_c place ns (place_is ∙ ap length longer_is) (ns_is ∙ ap (λ (l : List Node). nodes_between l below (length l)) longer_is)

        module _ {Unit : Type 0} (log' : LogState Device) (was is : DeviceView) (lines_is : lines ≡ length was.read) (r : Result Unit FenceFailed) (appended : HasAppended log log' was is (record { place = place; nodes = ns }) r)
            (fenced : Bool) (fenced_is : fenced ≡ is_ok r) (reply : Reply) (reply_is : reply ≡ b.reply object op) (e : LockedEnd State Op Query Reply) (e_is : e ≡ update_end place reply fenced) where
          here : update_end {State = State} {Op = Op} {Query = Query} place reply fenced ≡ update_end {State = State} {Op = Op} {Query = Query} (length c.trace + 1) (reply_after b c.initial c.trace op) fenced
          here = λ i. update_end ((place_is ∙ size) i) ((reply_is ∙ ap (λ (s : State). b.reply s op) k.state) i) fenced

          end_is : e ≡ update_end (length c.trace + 1) (reply_after b c.initial c.trace op) fenced
          end_is = e_is ∙ here

          pub has_node : EndHasNode (next_call th) e
          has_node = subst (EndHasNode (next_call th)) (sym end_is) (end_has_node b nodes flags object c k t th reads op facts.0 facts.1 fenced)

          pub update_made : (w : LockedThread State Op Query Reply) (marks : List Bool) (object' : State) (nodes' flags' : ℕ) (answer : Next) → w ≡ with_end th e → marks ≡ c.flags ++ fenced ∷ [] → object' ≡ b.next object op → nodes' ≡ nodes → flags' ≡ flags
              → (fenced ≡ true → answer ≡ nexts.Answered) → (fenced ≡ false → answer ≡ nexts.FenceFailed place)
              → UpdateMade b nodes' flags' object' (record { initial = c.initial; trace = items; flags = marks; threads = set c.threads t w }) now t log log' was is answer
          update_made w marks object' nodes' flags' answer w_is marks_is object_is nodes_is flags_is ok failed =
              let end : LockedEnd State Op Query Reply = update_end (length c.trace + 1) (reply_after b c.initial c.trace op) fenced in
              let new : LockedState State Op Query Reply = record { initial = c.initial; trace = items; flags = marks; threads = set c.threads t w } in
              let after : LockedState State Op Query Reply = after_node c t th (b.row_of op) fenced end in
              let same : after ≡ new = sym (λ i. record { initial = c.initial; trace = longer_is i; flags = marks_is i; threads = set c.threads t ((w_is ∙ ap (with_end th) end_is) i) }) in
              let whole_entry = subst (λ (s : _). HasAppended log log' was is s r) (λ i. record { place = (place_is ∙ ap length longer_is) i; nodes = (ns_is ∙ ap (λ (l : List Node). nodes_between l below (length l)) longer_is) i }) appended in
              record {
                kept = subst (λ (z : ℕ × ℕ × State × LockedState State Op Query Reply). KeepsLocked b z.0 z.1 z.2 z.3) (λ i. (sym nodes_is i, sym flags_is i, sym object_is i, same i)) (kept_node b nodes flags object c k t th reads op facts.0 facts.1 fenced);
                done = say_of (λ (z : LockedThread State Op Query Reply). HasDone b now t z new log log' was is answer) (slice_get now.threads t) th reads_now
                    (subst (λ (z : LockedState State Op Query Reply × LockedState State Op Query Reply). HasDone b z.0 t th z.1 log log' was is answer) (λ i. (view i, same i))
                    (has_done b nodes flags object c k t th reads op facts.0 facts.1 below newest log lines ready_c log' was is lines_is r whole_entry fenced fenced_is answer ok (λ h. failed h ∙ ap nexts.FenceFailed (place_is ∙ size))));
                ready = subst (λ (s : LockedState State Op Query Reply). IsThreadLog s t log' (length is.read)) same (is_ready b nodes flags object c k t th reads op facts.0 facts.1 below newest log lines ready_c log' was is lines_is r whole_entry fenced fenced_is);
              }
