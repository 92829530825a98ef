-- One call more, and none, on the pass of a thread that decides as it goes.
use Rattle.std.proofs.Common.{ℕ, suc, zero, List, [], ◌∷◌, ◌++◌, ◌≡◌, length, Some, None, Result, Ok, Err, refl, sym, ap, ◌∙◌, subst, arith, append_assoc, append-nil, length-append}
use Rattle.std.specs.List.{AllByRecursion, slice_get}
use Rattle.onll_model.specs.declared.node.Node.{Node}
use Rattle.onll_model.specs.declared.call.Call.{Call}
use Rattle.onll_model.specs.declared.call.Call.TheVariants.{Update, Ask}
use Rattle.onll_model.specs.declared.call.CallEnd.{CallEnd}
use Rattle.onll_model.specs.declared.call.CallEnd.TheVariants.{Answered, FenceFailed, Broken}
use Rattle.onll_model.specs.Object.{Behaviour}
use Rattle.onll_model.specs.Legal.{HasReply, HasAnswer, EachEnd, BrokenAfterFailure, placed_updates}
use Rattle.onll_pmem.specs.Pmem.{DeviceView}
use Rattle.onll_trace.specs.Plans.{Plan}
use Rattle.onll_trace.specs.Spots.{base_of}
use Rattle.onll_shared.specs.declared.calls.Receipt.{Receipt}
use Rattle.onll_shared.specs.declared.calls.UpdateFault.{UpdateFault}
use Rattle.onll_shared.specs.declared.calls.UpdateFault.TheVariants as faults
use Rattle.onll_shared.specs.Calls.{HasOnlyLooked, HasUpdated, HasRead}
use Rattle.onll_shared.specs.Passes.{OnllView, PassView, IsTied}
use Rattle.onll_run.specs.Outcomes.{RunsSo, CallDone, StandsIn}
use Rattle.onll_run.specs.Workers.{HasWorked}
use Rattle.onll_run.proofs.Outcomes.{replies_longer, answers_longer}
use Rattle.onll_run.proofs.Calling.{runs_more, call_gone_on, gone_then, gone_same, gone_self}
use Rattle.onll_threads.specs.Acts.{HasActed, HasReadSo, calls_of, ends_of, received, reply_in, seen_in}

got_after : {A : Type 0} (xs : List A) (x : A) (ys : List A) (n : ℕ) → n ≡ length xs → slice_get (xs ++ x ∷ ys) n ≡ Some x
got_after [] x ys n e = ap (slice_get (x ∷ ys)) e
got_after (z ∷ xs) x ys zero e = absurd (omega (arith, e))
got_after (z ∷ xs) x ys (suc n) e = got_after xs x ys n (omega (arith, e))

module _ {State Op Query Reply Device : Type 0} (b : Behaviour State Op Query Reply) (means : Device → DeviceView) (onll : OnllView State) (calls : List (Call State Op Query Reply)) (ends : List (CallEnd State Op Query Reply))
    (first old new : PassView State Device) (h : HasActed b means onll calls ends first old) (t : IsTied b means onll new) where
  -- one call more
  pub act_call : (c : Call State Op Query Reply) (e : CallEnd State Op Query Reply) → CallDone b means onll c old new e → HasActed b means onll (calls ++ c ∷ []) (ends ++ e ∷ []) first new
  act_call c e done = record {
    tied = t;
    runs = λ rest. subst (λ cs. RunsSo b onll.first cs (ends ++ e ∷ []) new) (sym (append_assoc calls (c ∷ []) rest))
        (runs_more b means onll (calls ++ c ∷ rest) ends old new h.tied t (h.runs (c ∷ rest)) c e (got_after calls c rest (length ends) h.many) done);
    many = let n = h.many in omega (arith, n, length-append ends (e ∷ []), length-append calls (c ∷ []));
    gone_on = gone_then means first old new h.gone_on (call_gone_on b means onll c e old new done);
  }

  -- what was done so far, where others' nodes may be known now
  runs_looked : HasOnlyLooked old new → (cs : List (Call State Op Query Reply)) → RunsSo b onll.first cs ends old → RunsSo b onll.first cs ends new
  runs_looked l cs so =
      let base : base_of old.spot ≡ base_of new.spot = ap (λ (k : Plan). length k.base) (sym l.same.plan) in
      let long = l.same.longer in
      let s : ℕ = old.spot.me.part.seen in
      let known = h.tied.lawful.told.part.seen.1 in
      record {
        legal = record {
          places = so.legal.places ∙ (sym h.tied.lawful.told.own ∙ (sym l.own ∙ t.lawful.told.own));
          replies = subst (λ (ks : List Node). EachEnd (HasReply b onll.first ks) cs ends) long.1 (replies_longer b onll.first (base_of old.spot) old.spot.known long.0 s known cs ends so.low so.legal.replies);
          answers = subst (λ (z : ℕ × List Node). EachEnd (HasAnswer b onll.first z.0 z.1) cs ends) (λ i. (base i, long.1 i)) (answers_longer b onll.first (base_of old.spot) old.spot.known long.0 s known cs ends so.low so.legal.answers);
          reads_in_order = so.legal.reads_in_order;
          broken = so.legal.broken;
          over = so.legal.over;
        };
        low = subst (λ n. AllByRecursion (StandsIn n) ends) (sym l.seen) so.low;
        over = so.over;
        failed = so.failed ∙ sym l.broken;
      }

  pub act_none : HasOnlyLooked old new → HasActed b means onll (calls ++ []) (ends ++ []) first new
  act_none l = subst (λ (z : List (Call State Op Query Reply) × List (CallEnd State Op Query Reply)). HasActed b means onll z.0 z.1 first new) (λ i. (sym (append-nil calls) i, sym (append-nil ends) i)) (record {
    tied = t;
    runs = λ rest. runs_looked l (calls ++ rest) (h.runs rest);
    many = h.many;
    gone_on = gone_then means first old new h.gone_on (gone_same means old new l.same l.own l.log l.broken);
  })

  looked_same : (last : PassView State Device) → HasOnlyLooked old last → new ≡ last → HasOnlyLooked old new
  looked_same last l e = subst (HasOnlyLooked old) (sym e) l

  -- an update, by its answer
  pub act_update : (op : Op) (r : Result Reply UpdateFault) → HasUpdated b means onll op old new (received (seen_in new) r)
      → HasActed b means onll (calls ++ calls_of op r) (ends ++ ends_of (seen_in new) r) first new
  act_update op (Ok reply) u = act_call (Update op) (Answered reply (seen_in new)) u
  act_update op (Err (faults.FenceFailed place)) u = act_call (Update op) (FenceFailed place) u
  act_update op (Err (faults.Broken place)) u = act_call (Update op) (Broken place) u
  act_update op (Err faults.NodesFull) u = act_none (looked_same u.last u.looked u.tried.1)
  act_update op (Err (faults.LogFull free)) u = act_none (looked_same u.last u.looked u.tried.1)

  -- a read
  pub act_read : (query : Query) (reply : Reply) → HasReadSo b means onll query old new reply
      → HasActed b means onll (calls ++ Ask query ∷ []) (ends ++ Answered reply (seen_in new) ∷ []) first new
  act_read query reply r = act_call (Ask query) (Answered reply (seen_in new)) r

-- the place of an update that was answered is seen
module _ {State Op Query Reply Device : Type 0} (b : Behaviour State Op Query Reply) (means : Device → DeviceView)
    (onll : OnllView State) (op : Op) (old new : PassView State Device) where
  pub at_seen : (r : Result (Receipt State Op Query Reply) UpdateFault) → HasUpdated b means onll op old new r
      → received (seen_in new) (reply_in r) ≡ r
  at_seen (Ok receipt) u = let s = u.tried.seen in λ i. Ok (record { place = s i; reply = receipt.reply })
  at_seen (Err fault) u = refl

  pub updated_seen : (r : Result (Receipt State Op Query Reply) UpdateFault) (given : Result Reply UpdateFault)
      → given ≡ reply_in r → HasUpdated b means onll op old new r → HasUpdated b means onll op old new (received (seen_in new) given)
  updated_seen r given e u =
      subst (HasUpdated b means onll op old new) (sym (at_seen r u) ∙ ap (received (seen_in new)) (sym e)) u

module _ {State Op Query Reply Device : Type 0} (b : Behaviour State Op Query Reply) (means : Device → DeviceView)
    (onll : OnllView State) (query : Query) (old new : PassView State Device) where
  -- the place of a read is seen
  pub read_seen : (place front : ℕ) (reply : Reply) → HasRead b means onll query old new place front reply
      → HasReadSo b means onll query old new reply
  read_seen place front reply r =
      (front, subst (λ (p : ℕ). HasRead b means onll query old new p front reply) (sym r.seen) r)

-- ---- the beginning and the end
module _ {State Op Query Reply Device : Type 0} (b : Behaviour State Op Query Reply) (means : Device → DeviceView) (onll : OnllView State) where
  none_broken : (calls : List (Call State Op Query Reply)) → BrokenAfterFailure None calls []
  none_broken [] = tt
  none_broken (c ∷ calls) = tt

  none_placed : (calls : List (Call State Op Query Reply)) → placed_updates b calls [] ≡ []
  none_placed [] = refl
  none_placed (c ∷ calls) = refl

  -- a pass that has ordered nothing
  pub unused : (pass : PassView State Device) → IsTied b means onll pass → pass.spot.me.own ≡ [] → pass.broken ≡ None → HasActed b means onll [] [] pass pass
  unused pass t own whole = record {
    tied = t;
    runs = λ rest. record {
      legal = record {
        places = none_placed rest ∙ (sym own ∙ t.lawful.told.own);
        replies = tt;
        answers = tt;
        reads_in_order = tt;
        broken = none_broken rest;
        over = tt;
      };
      low = tt;
      over = tt;
      failed = sym whole;
    };
    many = refl;
    gone_on = gone_self means pass;
  }

  -- what a thread did, as what one does that had a script of its calls
  pub worked : (calls : List (Call State Op Query Reply)) (ends : List (CallEnd State Op Query Reply)) (old new : PassView State Device) → HasActed b means onll calls ends old new → HasWorked b means onll calls ends old new
  worked calls ends old new h = record {
    tied = h.tied;
    runs = subst (λ cs. RunsSo b onll.first cs ends new) (append-nil calls) (h.runs []);
    many = h.many;
    gone_on = h.gone_on;
  }
