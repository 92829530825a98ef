-- The outcomes of one thread, with one more, and over a longer trace.
use Rattle.std.proofs.Common.{◌≡◌, ℕ, zero, suc, ◌-◌, ◌<◌, ◌≤◌, List, [], ◌∷◌, ◌++◌, length, drop, Option, Some, None, refl, sym, ap, ◌∙◌, subst, arith, length-append, get_or}
use Rattle.std.specs.Prelude.{IfSome}
use Rattle.std.specs.Option.{option_or}
use Rattle.std.specs.List.{AllByRecursion, slice_get}
use Rattle.onll_model.specs.declared.node.Node.{Node}
use Rattle.onll_model.specs.declared.call.Call.{Call}
use Rattle.onll_model.specs.declared.call.Call.TheVariants.{Update, Ask}
use Rattle.onll_model.specs.declared.call.CallEnd.{CallEnd}
use Rattle.onll_model.specs.declared.call.CallEnd.TheVariants.{Answered, Running, Ordered, FenceFailed, Broken}
use Rattle.onll_model.specs.Object.{Behaviour}
use Rattle.onll_model.specs.Trace.{reply_after, answer_after}
use Rattle.onll_model.specs.Legal.{place_in, placed_updates, placed_rows, EachEnd, EachLaterEnd, HasReply, HasAnswer, InOrder, BrokenAfterFailure, IsOver, OverButLast, IsLegalThread}
use Rattle.onll_model.proofs.Lists.{same_some, some_not_none, take_before}
use Rattle.onll_model.proofs.Ends.{each_end_more, each_later_more}
use Rattle.onll_run.specs.Outcomes.{StandsIn, failed_in}

if_some_map : (o : Option ℕ) (P Q : ℕ → Type 0) → ((p : ℕ) → P p → Q p) → IfSome o P → IfSome o Q
if_some_map None P Q f h = tt
if_some_map (Some p) P Q f h = f p h

module _ {State Op Query Reply : Type 0} where
  -- whether the last outcome fits doesn't depend on the calls that have none yet
  last_alone : (k : Option ℕ) (c : Call State Op Query Reply) (calls : List (Call State Op Query Reply)) (e : CallEnd State Op Query Reply) → BrokenAfterFailure k (c ∷ []) (e ∷ [])
      → BrokenAfterFailure k (c ∷ calls) (e ∷ [])
  last_alone None (Update op) calls (Answered reply place) h = h
  last_alone None (Update op) calls Running h = h
  last_alone None (Update op) calls (Ordered place) h = h
  last_alone None (Update op) calls (FenceFailed place) h = h
  last_alone None (Update op) calls (Broken place) h = h
  last_alone None (Ask query) calls (Answered reply place) h = h
  last_alone None (Ask query) calls Running h = h
  last_alone None (Ask query) calls (Ordered place) h = h
  last_alone None (Ask query) calls (FenceFailed place) h = h
  last_alone None (Ask query) calls (Broken place) h = h
  last_alone (Some p) (Update op) calls (Answered reply place) h = h
  last_alone (Some p) (Update op) calls Running h = h
  last_alone (Some p) (Update op) calls (Ordered place) h = h
  last_alone (Some p) (Update op) calls (FenceFailed place) h = h
  last_alone (Some p) (Update op) calls (Broken place) h = h
  last_alone (Some p) (Ask query) calls (Answered reply place) h = h
  last_alone (Some p) (Ask query) calls Running h = h
  last_alone (Some p) (Ask query) calls (Ordered place) h = h
  last_alone (Some p) (Ask query) calls (FenceFailed place) h = h
  last_alone (Some p) (Ask query) calls (Broken place) h = h

  -- one outcome more
  broken_more : (k : Option ℕ) (calls : List (Call State Op Query Reply)) (ends : List (CallEnd State Op Query Reply)) (c : Call State Op Query Reply) (e : CallEnd State Op Query Reply) → BrokenAfterFailure k calls ends
      → slice_get calls (length ends) ≡ Some c → BrokenAfterFailure (option_or k (failed_in ends)) (c ∷ []) (e ∷ [])
      → BrokenAfterFailure k calls (ends ++ e ∷ [])
  broken_more k [] [] c e h at p = some_not_none c (sym at)
  broken_more None (d ∷ calls) [] c e h at p = last_alone None d calls e (subst (λ (z : Call State Op Query Reply). BrokenAfterFailure None (z ∷ []) (e ∷ [])) (sym (same_some d c at)) p)
  broken_more (Some q) (d ∷ calls) [] c e h at p = last_alone (Some q) d calls e (subst (λ (z : Call State Op Query Reply). BrokenAfterFailure (Some q) (z ∷ []) (e ∷ [])) (sym (same_some d c at)) p)
  broken_more None [] (f ∷ ends) c e h at p = absurd h
  broken_more None (Update op ∷ calls) (Answered reply place ∷ ends) c e h at p = broken_more None calls ends c e h at p
  broken_more None (Update op ∷ calls) (Running ∷ ends) c e h at p = broken_more None calls ends c e h at p
  broken_more None (Update op ∷ calls) (Ordered place ∷ ends) c e h at p = broken_more None calls ends c e h at p
  broken_more None (Update op ∷ calls) (FenceFailed place ∷ ends) c e h at p = broken_more (Some place) calls ends c e h at p
  broken_more None (Update op ∷ calls) (Broken place ∷ ends) c e h at p = absurd h
  broken_more None (Ask query ∷ calls) (Answered reply place ∷ ends) c e h at p = broken_more None calls ends c e h at p
  broken_more None (Ask query ∷ calls) (Running ∷ ends) c e h at p = broken_more None calls ends c e h at p
  broken_more None (Ask query ∷ calls) (Ordered place ∷ ends) c e h at p = absurd h
  broken_more None (Ask query ∷ calls) (FenceFailed place ∷ ends) c e h at p = absurd h
  broken_more None (Ask query ∷ calls) (Broken place ∷ ends) c e h at p = absurd h
  broken_more (Some q) [] (f ∷ ends) c e h at p = absurd h
  broken_more (Some q) (Update op ∷ calls) (Answered reply place ∷ ends) c e h at p = absurd h
  broken_more (Some q) (Update op ∷ calls) (Running ∷ ends) c e h at p = absurd h
  broken_more (Some q) (Update op ∷ calls) (Ordered place ∷ ends) c e h at p = absurd h
  broken_more (Some q) (Update op ∷ calls) (FenceFailed place ∷ ends) c e h at p = absurd h
  broken_more (Some q) (Update op ∷ calls) (Broken place ∷ ends) c e h at p = (h.0, broken_more (Some q) calls ends c e h.1 at p)
  broken_more (Some q) (Ask query ∷ calls) (Answered reply place ∷ ends) c e h at p = broken_more (Some q) calls ends c e h at p
  broken_more (Some q) (Ask query ∷ calls) (Running ∷ ends) c e h at p = broken_more (Some q) calls ends c e h at p
  broken_more (Some q) (Ask query ∷ calls) (Ordered place ∷ ends) c e h at p = absurd h
  broken_more (Some q) (Ask query ∷ calls) (FenceFailed place ∷ ends) c e h at p = absurd h
  broken_more (Some q) (Ask query ∷ calls) (Broken place ∷ ends) c e h at p = absurd h

  -- the failed place, with one outcome more
  pub failed_more : (ends : List (CallEnd State Op Query Reply)) (e : CallEnd State Op Query Reply) → failed_in (ends ++ e ∷ []) ≡ option_or (failed_in ends) (failed_in (e ∷ []))
  failed_more [] e = refl
  failed_more (Answered reply place ∷ ends) e = failed_more ends e
  failed_more (Running ∷ ends) e = failed_more ends e
  failed_more (Ordered place ∷ ends) e = failed_more ends e
  failed_more (FenceFailed place ∷ ends) e = refl
  failed_more (Broken place ∷ ends) e = failed_more ends e

  pub stands_more : (s n : ℕ) → s ≤ n → (e : CallEnd State Op Query Reply) → StandsIn s e → StandsIn n e
  stands_more s n l (Answered reply place) h = omega arith
  stands_more s n l Running h = tt
  stands_more s n l (Ordered place) h = tt
  stands_more s n l (FenceFailed place) h = tt
  stands_more s n l (Broken place) h = tt

  -- a read that is answered at or above what was seen
  pub reads_above : (seen place : ℕ) (query : Query) (reply : Reply) → seen ≤ place → (d : Call State Op Query Reply) (f : CallEnd State Op Query Reply) → StandsIn seen f
      → InOrder d f (Ask query) (Answered reply place)
  reads_above seen place query reply l (Update o) (Answered r p) h = omega arith
  reads_above seen place query reply l (Update o) Running h = tt
  reads_above seen place query reply l (Update o) (Ordered p) h = tt
  reads_above seen place query reply l (Update o) (FenceFailed p) h = tt
  reads_above seen place query reply l (Update o) (Broken p) h = tt
  reads_above seen place query reply l (Ask q) (Answered r p) h = omega arith
  reads_above seen place query reply l (Ask q) Running h = tt
  reads_above seen place query reply l (Ask q) (Ordered p) h = tt
  reads_above seen place query reply l (Ask q) (FenceFailed p) h = tt
  reads_above seen place query reply l (Ask q) (Broken p) h = tt

  -- an update with a place above what was seen, or with none
  pub updates_above : (seen : ℕ) (op : Op) (e : CallEnd State Op Query Reply) → IfSome (place_in e) (λ place. seen < place) → (d : Call State Op Query Reply) (f : CallEnd State Op Query Reply) → StandsIn seen f
      → InOrder d f (Update op) e
  updates_above seen op e above (Update o) (Answered r p) h = tt
  updates_above seen op e above (Update o) Running h = tt
  updates_above seen op e above (Update o) (Ordered p) h = tt
  updates_above seen op e above (Update o) (FenceFailed p) h = tt
  updates_above seen op e above (Update o) (Broken p) h = tt
  updates_above seen op e above (Ask q) (Answered r p) h = if_some_map (place_in e) (λ place. seen < place) (λ place. p < place) (λ place l. omega arith) above
  updates_above seen op e above (Ask q) Running h = tt
  updates_above seen op e above (Ask q) (Ordered p) h = tt
  updates_above seen op e above (Ask q) (FenceFailed p) h = tt
  updates_above seen op e above (Ask q) (Broken p) h = tt

  -- a fact of each outcome with its call, and one of each outcome
  pub each_end_with : (P : Call State Op Query Reply → CallEnd State Op Query Reply → Type 0) (Q : CallEnd State Op Query Reply → Type 0) (R : Call State Op Query Reply → CallEnd State Op Query Reply → Type 0) (calls : List (Call State Op Query Reply)) (ends : List (CallEnd State Op Query Reply))
      → ((c : Call State Op Query Reply) (e : CallEnd State Op Query Reply) → P c e → Q e → R c e) → EachEnd P calls ends → AllByRecursion Q ends → EachEnd R calls ends
  each_end_with P Q R calls [] f h k = tt
  each_end_with P Q R [] (e ∷ ends) f h k = h
  each_end_with P Q R (c ∷ calls) (e ∷ ends) f h k = (f c e h.0 k.0, each_end_with P Q R calls ends f h.1 k.1)

  over_but_last : (ends : List (CallEnd State Op Query Reply)) → AllByRecursion IsOver ends → OverButLast ends
  over_but_last [] h = tt
  over_but_last (e ∷ []) h = tt
  over_but_last (e ∷ f ∷ ends) h = (h.0, over_but_last (f ∷ ends) h.1)

  module _ (b : Behaviour State Op Query Reply) (first : State) (base : ℕ) (trace more : List Node) (seen : ℕ) (low : seen ≤ length trace) where
    reply_longer : (c : Call State Op Query Reply) (e : CallEnd State Op Query Reply) → HasReply b first trace c e → StandsIn seen e → HasReply b first (trace ++ more) c e
    reply_longer (Update op) (Answered reply place) h k = h ∙ ap (λ (l : List Node). reply_after b first l op) (sym (take_before trace more (place - 1) (omega arith)))
    reply_longer (Update op) Running h k = tt
    reply_longer (Update op) (Ordered place) h k = tt
    reply_longer (Update op) (FenceFailed place) h k = tt
    reply_longer (Update op) (Broken place) h k = tt
    reply_longer (Ask query) (Answered reply place) h k = tt
    reply_longer (Ask query) Running h k = tt
    reply_longer (Ask query) (Ordered place) h k = tt
    reply_longer (Ask query) (FenceFailed place) h k = tt
    reply_longer (Ask query) (Broken place) h k = tt

    answer_longer : (c : Call State Op Query Reply) (e : CallEnd State Op Query Reply) → HasAnswer b first base trace c e → StandsIn seen e → HasAnswer b first base (trace ++ more) c e
    answer_longer (Ask query) (Answered reply place) h k = (h.0, omega (arith, length-append trace more), h.2 ∙ ap (λ (l : List Node). answer_after b first l query) (sym (take_before trace more place (omega arith))))
    answer_longer (Ask query) Running h k = tt
    answer_longer (Ask query) (Ordered place) h k = tt
    answer_longer (Ask query) (FenceFailed place) h k = tt
    answer_longer (Ask query) (Broken place) h k = tt
    answer_longer (Update op) (Answered reply place) h k = tt
    answer_longer (Update op) Running h k = tt
    answer_longer (Update op) (Ordered place) h k = tt
    answer_longer (Update op) (FenceFailed place) h k = tt
    answer_longer (Update op) (Broken place) h k = tt

    pub replies_longer : (calls : List (Call State Op Query Reply)) (ends : List (CallEnd State Op Query Reply)) → AllByRecursion (StandsIn seen) ends → EachEnd (HasReply b first trace) calls ends
        → EachEnd (HasReply b first (trace ++ more)) calls ends
    replies_longer calls ends k h = each_end_with (HasReply b first trace) (StandsIn seen) (HasReply b first (trace ++ more)) calls ends reply_longer h k

    pub answers_longer : (calls : List (Call State Op Query Reply)) (ends : List (CallEnd State Op Query Reply)) → AllByRecursion (StandsIn seen) ends → EachEnd (HasAnswer b first base trace) calls ends
        → EachEnd (HasAnswer b first base (trace ++ more)) calls ends
    answers_longer calls ends k h = each_end_with (HasAnswer b first base trace) (StandsIn seen) (HasAnswer b first base (trace ++ more)) calls ends answer_longer h k

    -- over a longer trace with no further node of the thread
    pub legal_longer : (t : ℕ) (calls : List (Call State Op Query Reply)) (ends : List (CallEnd State Op Query Reply)) → AllByRecursion (StandsIn seen) ends
        → placed_rows t base (drop base (trace ++ more)) ≡ placed_rows t base (drop base trace)
        → IsLegalThread b first base trace t calls ends → IsLegalThread b first base (trace ++ more) t calls ends
    legal_longer t calls ends k rows l = record {
      places = l.places ∙ sym rows;
      replies = replies_longer calls ends k l.replies;
      answers = answers_longer calls ends k l.answers;
      reads_in_order = l.reads_in_order;
      broken = l.broken;
      over = l.over;
    }

  module _ (b : Behaviour State Op Query Reply) (first : State) (base : ℕ) where
    -- one outcome more: its places, reply, answer and order
    pub legal_more : (t : ℕ) (calls : List (Call State Op Query Reply)) (ends : List (CallEnd State Op Query Reply)) (c : Call State Op Query Reply) (e : CallEnd State Op Query Reply) (long : List Node)
        → slice_get calls (length ends) ≡ Some c → AllByRecursion IsOver (ends ++ e ∷ [])
        → placed_updates b calls (ends ++ e ∷ []) ≡ placed_rows t base (drop base long)
        → EachEnd (HasReply b first long) calls ends → HasReply b first long c e → EachEnd (HasAnswer b first base long) calls ends → HasAnswer b first base long c e
        → EachLaterEnd InOrder calls ends → EachEnd (λ d f. InOrder d f c e) calls ends → BrokenAfterFailure None calls ends → BrokenAfterFailure (failed_in ends) (c ∷ []) (e ∷ [])
        → IsLegalThread b first base long t calls (ends ++ e ∷ [])
    legal_more t calls ends c e long at over places rs r asks a order o broken last = record {
      places = places;
      replies = each_end_more (HasReply b first long) calls ends c e rs at r;
      answers = each_end_more (HasAnswer b first base long) calls ends c e asks at a;
      reads_in_order = each_later_more InOrder calls ends c e order at o;
      broken = broken_more None calls ends c e broken at last;
      over = over_but_last (ends ++ e ∷ []) over;
    }

-- what stands at a place of a list
pub got_at : {A : Type 0} (xs : List A) (i : ℕ) (x : A) → x ≡ get_or xs i x → i < length xs → slice_get xs i ≡ Some x
got_at [] i x e l = absurd (omega arith)
got_at (y ∷ xs) zero x e l = ap Some (sym e)
got_at (y ∷ xs) (suc i) x e l = got_at xs i x e (omega arith)
