use Rattle.std.proofs.Common.{◌≡◌, ◌≢◌, ℕ, suc, ◌+◌, ◌-◌, ◌<◌, ◌≤◌, List, [], ◌∷◌, ◌++◌, length, map, Option, Some, None, refl, sym, ap, ◌∙◌, subst, arith, append-nil, length-append}
use Rattle.std.specs.Prelude.{IfSome}
use Rattle.std.specs.List.{slice_get}
use Rattle.std.specs.Option.{option_or}
use Rattle.std.proofs.lemmas.List.{length-map}
use Rattle.onll_model.specs.declared.node.Node.{Node}
use Rattle.onll_model.specs.declared.call.Call.{Call}
use Rattle.onll_model.specs.declared.call.Call.TheVariants.{Update, Ask}
use Rattle.onll_model.specs.declared.call.CallEnd.{CallEnd}
use Rattle.onll_model.specs.declared.call.CallEnd.TheVariants as ends
use Rattle.onll_model.specs.Object.{Behaviour}
use Rattle.onll_model.specs.Trace.{reply_after, answer_after}
use Rattle.onll_model.specs.Legal.{place_in, placed_updates, placed_rows, EachEnd, EachLaterEnd, HasReply, HasAnswer, InOrder, BrokenAfterFailure, OverButLast, IsLegalThread, AreLegalThreads}
use Rattle.onll_model.proofs.Lists.{take_before, same_some, some_not_none}
use Rattle.onll_model.proofs.Ends.{each_end_more, each_later_more, each_end_map, rows_other}
use Rattle.onll_locked.specs.declared.ends.LockedEnd.{LockedEnd}
use Rattle.onll_locked.specs.declared.ends.LockedEnd.TheVariants.{Answered, FenceFailed, Broken}
use Rattle.onll_locked.specs.Locked.{LockedThread, end_of, failed_at, ends_of, script_of}
use Rattle.onll_locked.specs.Kept.{IsWithin}

-- A thread's part of the report, with one outcome more, and with a longer trace.

if_above : (n m : ℕ) (o : Option ℕ) → n ≤ m → IfSome o (λ p. m < p) → IfSome o (λ p. n < p)
if_above n m None l h = h
if_above n m (Some p) l h = omega arith

module _ {State Op Query Reply : Type 0} where
  pub end_more : (ends : List (LockedEnd State Op Query Reply)) (e : LockedEnd State Op Query Reply) → map end_of (ends ++ e ∷ []) ≡ map end_of ends ++ end_of e ∷ []
  end_more [] e = refl
  end_more (x ∷ ends) e = ap (λ (l : List (CallEnd State Op Query Reply)). end_of x ∷ l) (end_more ends e)

  -- the next outcome belongs to the next call
  pub next_is : (calls : List (Call State Op Query Reply)) (ends : List (LockedEnd State Op Query Reply)) (c : Call State Op Query Reply) → slice_get calls (length ends) ≡ Some c → slice_get calls (length (map end_of ends)) ≡ Some c
  next_is calls ends c at = ap (slice_get calls) (length-map ends end_of) ∙ at

  each_end_with : (P Q R : Call State Op Query Reply → CallEnd State Op Query Reply → Type 0) (calls : List (Call State Op Query Reply)) (ends : List (CallEnd State Op Query Reply))
      → ((c : Call State Op Query Reply) (e : CallEnd State Op Query Reply) → P c e → Q c e → R c e) → EachEnd P calls ends → EachEnd Q calls ends → EachEnd R calls ends
  each_end_with P Q R calls [] f h k = tt
  each_end_with P Q R [] (e ∷ ends) f h k = h
  each_end_with P Q R (c ∷ calls) (e ∷ ends) f h k = (f c e h.0 k.0, each_end_with P Q R calls ends f h.1 k.1)

  -- ---- places
  within_more : (n m : ℕ) (c : Call State Op Query Reply) (e : CallEnd State Op Query Reply) → n ≤ m → IsWithin n c e → IsWithin m c e
  within_more n m c (ends.Answered reply place) l h = omega arith
  within_more n m c ends.Running l h = tt
  within_more n m c (ends.Ordered place) l h = tt
  within_more n m c (ends.FenceFailed place) l h = tt
  within_more n m c (ends.Broken place) l h = tt

  pub within_longer : (n m : ℕ) (calls : List (Call State Op Query Reply)) (ends : List (CallEnd State Op Query Reply)) → n ≤ m → EachEnd (IsWithin n) calls ends → EachEnd (IsWithin m) calls ends
  within_longer n m calls ends l h = each_end_map (IsWithin n) (IsWithin m) calls ends (λ c e w. within_more n m c e l w) h

  -- a read is in order after what was answered up to its place
  read_order : (n : ℕ) (query : Query) (reply : Reply) (place : ℕ) (c : Call State Op Query Reply) (e : CallEnd State Op Query Reply) → n ≤ place → IsWithin n c e → InOrder c e (Ask query) (ends.Answered reply place)
  read_order n query reply place c (ends.Answered r p) l h = omega arith
  read_order n query reply place (Update op) ends.Running l h = tt
  read_order n query reply place (Ask q) ends.Running l h = tt
  read_order n query reply place (Update op) (ends.Ordered p) l h = tt
  read_order n query reply place (Ask q) (ends.Ordered p) l h = tt
  read_order n query reply place (Update op) (ends.FenceFailed p) l h = tt
  read_order n query reply place (Ask q) (ends.FenceFailed p) l h = tt
  read_order n query reply place (Update op) (ends.Broken p) l h = tt
  read_order n query reply place (Ask q) (ends.Broken p) l h = tt

  -- and an update after what was answered below it
  update_order : (n : ℕ) (op : Op) (end : CallEnd State Op Query Reply) (c : Call State Op Query Reply) (e : CallEnd State Op Query Reply) → IfSome (place_in end) (λ p. n < p) → IsWithin n c e → InOrder c e (Update op) end
  update_order n op end (Update o) (ends.Answered r p) above h = tt
  update_order n op end (Ask q) (ends.Answered r p) above h = if_above p n (place_in end) h above
  update_order n op end (Update o) ends.Running above h = tt
  update_order n op end (Ask q) ends.Running above h = tt
  update_order n op end (Update o) (ends.Ordered p) above h = tt
  update_order n op end (Ask q) (ends.Ordered p) above h = tt
  update_order n op end (Update o) (ends.FenceFailed p) above h = tt
  update_order n op end (Ask q) (ends.FenceFailed p) above h = tt
  update_order n op end (Update o) (ends.Broken p) above h = tt
  update_order n op end (Ask q) (ends.Broken p) above h = tt

  pub reads_order : (n : ℕ) (query : Query) (reply : Reply) (place : ℕ) (calls : List (Call State Op Query Reply)) (before : List (CallEnd State Op Query Reply)) → n ≤ place → EachEnd (IsWithin n) calls before → EachEnd (λ d f. InOrder d f (Ask query) (ends.Answered reply place)) calls before
  reads_order n query reply place calls before l h = each_end_map (IsWithin n) (λ d f. InOrder d f (Ask query) (ends.Answered reply place)) calls before (λ c e w. read_order n query reply place c e l w) h

  pub updates_order : (n : ℕ) (op : Op) (end : CallEnd State Op Query Reply) (calls : List (Call State Op Query Reply)) (before : List (CallEnd State Op Query Reply)) → IfSome (place_in end) (λ p. n < p) → EachEnd (IsWithin n) calls before → EachEnd (λ d f. InOrder d f (Update op) end) calls before
  updates_order n op end calls before above h = each_end_map (IsWithin n) (λ d f. InOrder d f (Update op) end) calls before (λ c e w. update_order n op end c e above w) h

  -- ---- failures
  -- an outcome that may come where a fence has failed at this place, or none has
  abbrev pub MayEnd : Option ℕ → Call State Op Query Reply → LockedEnd State Op Query Reply → Type 0
  MayEnd None (Update op) (Answered place reply) = Unit {0}
  MayEnd None (Update op) (FenceFailed place) = Unit {0}
  MayEnd (Some failed) (Update op) (Broken place) = place ≡ failed
  MayEnd failed (Ask query) (Answered place reply) = Unit {0}
  MayEnd failed c e = ⊥

  broken_last : (failed : Option ℕ) (calls : List (Call State Op Query Reply)) (c : Call State Op Query Reply) (e : LockedEnd State Op Query Reply) → MayEnd failed c e → BrokenAfterFailure failed (c ∷ calls) (end_of e ∷ [])
  broken_last None calls (Update op) (Answered place reply) m = tt
  broken_last None calls (Update op) (FenceFailed place) m = tt
  broken_last None calls (Update op) (Broken place) m = absurd m
  broken_last (Some p) calls (Update op) (Answered place reply) m = absurd m
  broken_last (Some p) calls (Update op) (FenceFailed place) m = absurd m
  broken_last (Some p) calls (Update op) (Broken place) m = (m, tt)
  broken_last None calls (Ask query) (Answered place reply) m = tt
  broken_last None calls (Ask query) (FenceFailed place) m = absurd m
  broken_last None calls (Ask query) (Broken place) m = absurd m
  broken_last (Some p) calls (Ask query) (Answered place reply) m = tt
  broken_last (Some p) calls (Ask query) (FenceFailed place) m = absurd m
  broken_last (Some p) calls (Ask query) (Broken place) m = absurd m

  pub broken_more : (failed : Option ℕ) (calls : List (Call State Op Query Reply)) (before : List (LockedEnd State Op Query Reply)) (c : Call State Op Query Reply) (e : LockedEnd State Op Query Reply)
      → BrokenAfterFailure failed calls (map end_of before) → slice_get calls (length before) ≡ Some c → MayEnd (option_or failed (failed_at before)) c e → BrokenAfterFailure failed calls (map end_of (before ++ e ∷ []))
  broken_more failed [] [] c e h at m = some_not_none c (sym at)
  broken_more failed [] (f ∷ before) c e h at m = some_not_none c (sym at)
  broken_more failed (d ∷ calls) [] c e h at m = subst (λ (z : Call State Op Query Reply). BrokenAfterFailure failed (z ∷ calls) (end_of e ∷ [])) (sym (same_some d c at)) (broken_last failed calls c e (subst (λ (z : Option ℕ). MayEnd z c e) (or_none failed) m))
    where
      or_none : (z : Option ℕ) → option_or z None ≡ z
      or_none None = refl
      or_none (Some x) = refl
  broken_more None (Update op ∷ calls) (Answered place reply ∷ before) c e h at m = broken_more None calls before c e h at m
  broken_more None (Update op ∷ calls) (FenceFailed place ∷ before) c e h at m = broken_more (Some place) calls before c e h at m
  broken_more None (Update op ∷ calls) (Broken place ∷ before) c e h at m = absurd h
  broken_more (Some p) (Update op ∷ calls) (Answered place reply ∷ before) c e h at m = absurd h
  broken_more (Some p) (Update op ∷ calls) (FenceFailed place ∷ before) c e h at m = absurd h
  broken_more (Some p) (Update op ∷ calls) (Broken place ∷ before) c e h at m = (h.0, broken_more (Some p) calls before c e h.1 at m)
  broken_more None (Ask query ∷ calls) (Answered place reply ∷ before) c e h at m = broken_more None calls before c e h at m
  broken_more (Some p) (Ask query ∷ calls) (Answered place reply ∷ before) c e h at m = broken_more (Some p) calls before c e h at m
  broken_more None (Ask query ∷ calls) (FenceFailed place ∷ before) c e h at m = absurd h
  broken_more (Some p) (Ask query ∷ calls) (FenceFailed place ∷ before) c e h at m = absurd h
  broken_more None (Ask query ∷ calls) (Broken place ∷ before) c e h at m = absurd h
  broken_more (Some p) (Ask query ∷ calls) (Broken place ∷ before) c e h at m = absurd h

  all_over : (before : List (LockedEnd State Op Query Reply)) → OverButLast (map end_of before)
  all_over [] = tt
  all_over (e ∷ []) = tt
  all_over (Answered place reply ∷ f ∷ before) = (tt, all_over (f ∷ before))
  all_over (FenceFailed place ∷ f ∷ before) = (tt, all_over (f ∷ before))
  all_over (Broken place ∷ f ∷ before) = (tt, all_over (f ∷ before))

  module _ (b : Behaviour State Op Query Reply) (s : State) where
    -- a longer trace leaves what was answered as it is
    reply_longer : (trace more : List Node) (c : Call State Op Query Reply) (e : CallEnd State Op Query Reply) → IsWithin (length trace) c e → HasReply b s trace c e → HasReply b s (trace ++ more) c e
    reply_longer trace more (Update op) (ends.Answered reply place) w h = h ∙ ap (λ (l : List Node). reply_after b s l op) (sym (take_before trace more (place - 1) (omega arith)))
    reply_longer trace more (Update op) ends.Running w h = tt
    reply_longer trace more (Update op) (ends.Ordered place) w h = tt
    reply_longer trace more (Update op) (ends.FenceFailed place) w h = tt
    reply_longer trace more (Update op) (ends.Broken place) w h = tt
    reply_longer trace more (Ask query) e w h = tt

    answer_longer : (trace more : List Node) (c : Call State Op Query Reply) (e : CallEnd State Op Query Reply) → IsWithin (length trace) c e → HasAnswer b s 0 trace c e → HasAnswer b s 0 (trace ++ more) c e
    answer_longer trace more (Ask query) (ends.Answered reply place) w h = (h.0, omega (arith, length-append trace more), h.2 ∙ ap (λ (l : List Node). answer_after b s l query) (sym (take_before trace more place w)))
    answer_longer trace more (Ask query) ends.Running w h = tt
    answer_longer trace more (Ask query) (ends.Ordered place) w h = tt
    answer_longer trace more (Ask query) (ends.FenceFailed place) w h = tt
    answer_longer trace more (Ask query) (ends.Broken place) w h = tt
    answer_longer trace more (Update op) e w h = tt

    module _ (trace : List Node) (t : ℕ) (calls : List (Call State Op Query Reply)) (before : List (LockedEnd State Op Query Reply)) (law : IsLegalThread b s 0 trace t calls (map end_of before)) (within : EachEnd (IsWithin (length trace)) calls (map end_of before)) where
      replies_longer : (more : List Node) → EachEnd (HasReply b s (trace ++ more)) calls (map end_of before)
      replies_longer more = each_end_with (IsWithin (length trace)) (HasReply b s trace) (HasReply b s (trace ++ more)) calls (map end_of before) (λ c e w h. reply_longer trace more c e w h) within law.replies

      answers_longer : (more : List Node) → EachEnd (HasAnswer b s 0 (trace ++ more)) calls (map end_of before)
      answers_longer more = each_end_with (IsWithin (length trace)) (HasAnswer b s 0 trace) (HasAnswer b s 0 (trace ++ more)) calls (map end_of before) (λ c e w h. answer_longer trace more c e w h) within law.answers

      -- another thread's node
      pub legal_other : (x : Node) → x.thread ≢ t → IsLegalThread b s 0 (trace ++ x ∷ []) t calls (map end_of before)
      legal_other x other = record {
        places = law.places ∙ sym (rows_other t 0 trace x other);
        replies = replies_longer (x ∷ []);
        answers = answers_longer (x ∷ []);
        reads_in_order = law.reads_in_order;
        broken = law.broken;
        over = law.over;
      }

      -- one outcome more
      pub legal_more : (more : List Node) (c : Call State Op Query Reply) (e : LockedEnd State Op Query Reply) → slice_get calls (length before) ≡ Some c
          → placed_updates b calls (map end_of before ++ end_of e ∷ []) ≡ placed_rows t 0 (trace ++ more) → HasReply b s (trace ++ more) c (end_of e) → HasAnswer b s 0 (trace ++ more) c (end_of e)
          → EachEnd (λ d f. InOrder d f c (end_of e)) calls (map end_of before) → MayEnd (failed_at before) c e → IsLegalThread b s 0 (trace ++ more) t calls (map end_of (before ++ e ∷ []))
      legal_more more c e at places reply answer order may =
          let m = sym (end_more before e) in
          let next = next_is calls before c at in
          record {
            places = ap (placed_updates b calls) (end_more before e) ∙ places;
            replies = subst (EachEnd (HasReply b s (trace ++ more)) calls) m (each_end_more (HasReply b s (trace ++ more)) calls (map end_of before) c (end_of e) (replies_longer more) next reply);
            answers = subst (EachEnd (HasAnswer b s 0 (trace ++ more)) calls) m (each_end_more (HasAnswer b s 0 (trace ++ more)) calls (map end_of before) c (end_of e) (answers_longer more) next answer);
            reads_in_order = subst (EachLaterEnd InOrder calls) m (each_later_more InOrder calls (map end_of before) c (end_of e) law.reads_in_order next order);
            broken = broken_more None calls before c e law.broken at may;
            over = all_over (before ++ e ∷ []);
          }

      -- and the trace as it is
      pub legal_end : (c : Call State Op Query Reply) (e : LockedEnd State Op Query Reply) → slice_get calls (length before) ≡ Some c
          → placed_updates b calls (map end_of before ++ end_of e ∷ []) ≡ placed_updates b calls (map end_of before) → HasReply b s trace c (end_of e) → HasAnswer b s 0 trace c (end_of e)
          → EachEnd (λ d f. InOrder d f c (end_of e)) calls (map end_of before) → MayEnd (failed_at before) c e → IsLegalThread b s 0 trace t calls (map end_of (before ++ e ∷ []))
      legal_end c e at places reply answer order may =
          let same = append-nil trace in
          subst (λ (l : List Node). IsLegalThread b s 0 l t calls (map end_of (before ++ e ∷ []))) same
          (legal_more [] c e at (places ∙ (law.places ∙ ap (placed_rows t 0) (sym same))) (subst (λ (l : List Node). HasReply b s l c (end_of e)) (sym same) reply) (subst (λ (l : List Node). HasAnswer b s 0 l c (end_of e)) (sym same) answer) order may)

  threads_legal : (b : Behaviour State Op Query Reply) (s : State) (base : ℕ) (trace : List Node) (n : ℕ) (ths : List (LockedThread State Op Query Reply))
      → ((t : ℕ) (th : LockedThread State Op Query Reply) → slice_get ths t ≡ Some th → IsLegalThread b s base trace (n + t) th.script (ends_of th)) → AreLegalThreads b s base trace n (map script_of ths) (map ends_of ths)
  threads_legal b s base trace n [] h = tt
  threads_legal b s base trace n (th ∷ ths) h = let first : n + 0 ≡ n = omega arith in (
    subst (λ (m : ℕ). IsLegalThread b s base trace m th.script (ends_of th)) first (h 0 th refl),
    threads_legal b s base trace (n + 1) ths (λ t w e. let k : n + suc t ≡ n + 1 + t = omega arith in subst (λ (m : ℕ). IsLegalThread b s base trace m w.script (ends_of w)) k (h (suc t) w e)),
  )

  pub all_legal : (b : Behaviour State Op Query Reply) (s : State) (trace : List Node) (ths : List (LockedThread State Op Query Reply))
      → ((t : ℕ) (th : LockedThread State Op Query Reply) → slice_get ths t ≡ Some th → IsLegalThread b s 0 trace t th.script (ends_of th)) → AreLegalThreads b s 0 trace 0 (map script_of ths) (map ends_of ths)
  all_legal b s trace ths h = threads_legal b s 0 trace 0 ths (λ t th e. let z : t ≡ 0 + t = omega arith in subst (λ (u : ℕ). IsLegalThread b s 0 trace u th.script (ends_of th)) z (h t th e))
