use Rattle.std.proofs.Common.{◌≡◌, ◌≢◌, ℕ, suc, ◌+◌, ◌-◌, ◌<◌, ◌≤◌, max, List, [], ◌∷◌, ◌++◌, length, take, drop, map, Option, Some, None, refl, sym, ap, ◌∙◌, subst, arith, append-nil, length-append}
use Rattle.std.specs.Prelude.{IfSome}
use Rattle.std.specs.List.{slice_get}
use Rattle.std.proofs.lemmas.List.{length-map, length-drop, drop-append-le}
use Rattle.onll_words.specs.declared.line.OpRow.{OpRow}
use Rattle.onll_model.specs.declared.node.Node.{Node}
use Rattle.onll_model.specs.declared.call.Call.{Call}
use Rattle.onll_model.specs.declared.call.Call.TheVariants.{Update, Ask}
use Rattle.onll_model.specs.declared.call.CallEnd.{CallEnd}
use Rattle.onll_model.specs.declared.call.CallEnd.TheVariants as ends
use Rattle.onll_model.specs.Object.{Behaviour}
use Rattle.onll_model.specs.Trace.{reply_after, answer_after}
use Rattle.onll_model.specs.Legal.{place_in, placed_updates, placed_rows, EachEnd, EachLaterEnd, HasReply, HasAnswer, InOrder, BrokenAfterFailure, OverButLast, IsLegalThread}
use Rattle.onll_model.specs.Events.{next_node}
use Rattle.onll_model.proofs.Lists.{take_before}
use Rattle.onll_model.proofs.Ends.{each_end_more, each_later_more, placed_update, placed_ask, placed_running, rows_own, rows_other}
use Rattle.onll_core.specs.declared.returned.Returned.{Returned}
use Rattle.onll_core.specs.declared.returned.Current.{Current}
use Rattle.onll_core.specs.declared.returned.Current.TheVariants as currents
use Rattle.onll_core.specs.CoreFrame.{seen_in}
use Rattle.onll_core.specs.Outcomes.{returned_end, current_ends}

-- What is known of a thread's calls: their outcomes are legal so far, whatever comes.

-- the running call is one that can be what it is
abbrev pub Suits : {State Op Query Reply : Type 0} → Current → Option (Call State Op Query Reply) → Type 0
Suits currents.Idle call = Unit {0}
Suits currents.Running None = ⊥
Suits currents.Running (Some call) = Unit {0}
Suits (currents.Ordered p) None = ⊥
Suits (currents.Ordered p) (Some (Update op)) = Unit {0}
Suits (currents.Ordered p) (Some (Ask query)) = ⊥

pub record IsLawful {State Op Query Reply : Type 0} (b : Behaviour State Op Query Reply) (s : State) (base : ℕ) (trace : List Node) (t : ℕ) (calls : List (Call State Op Query Reply)) (returned : List (Returned State Op Query Reply)) (current : Current) : Type 0 where
  pub places : placed_updates b calls (map returned_end returned ++ current_ends current) ≡ placed_rows t base (drop base trace)
  pub replies : EachEnd (HasReply b s trace) calls (map returned_end returned)
  pub answers : EachEnd (HasAnswer b s base trace) calls (map returned_end returned)
  pub reads_in_order : EachLaterEnd InOrder calls (map returned_end returned)
  pub suits : Suits current (slice_get calls (length returned))

if_some_map : (P Q : ℕ → Type 0) (o : Option ℕ) → ((p : ℕ) → P p → Q p) → IfSome o P → IfSome o Q
if_some_map P Q None f h = tt
if_some_map P Q (Some p) f h = f p h

module _ {State Op Query Reply : Type 0} where
  map_more : (rs : List (Returned State Op Query Reply)) (r : Returned State Op Query Reply) → map returned_end (rs ++ r ∷ []) ≡ map returned_end rs ++ returned_end r ∷ []
  map_more [] r = refl
  map_more (x ∷ rs) r = ap (λ l. returned_end x ∷ l) (map_more rs r)

  -- the next outcome belongs to the next call
  next_is : (calls : List (Call State Op Query Reply)) (rs : List (Returned State Op Query Reply)) (c : Call State Op Query Reply) → slice_get calls (length rs) ≡ Some c → slice_get calls (length (map returned_end rs)) ≡ Some c
  next_is calls rs c e = ap (slice_get calls) (length-map rs returned_end) ∙ e

  -- an outcome of an update stands above the reads before it, if it has a place
  above_reads : (P : Call State Op Query Reply → CallEnd State Op Query Reply → Type 0) (base : ℕ) (op : Op) (e : CallEnd State Op Query Reply) (calls : List (Call State Op Query Reply)) (rs : List (Returned State Op Query Reply))
      → EachEnd P calls (map returned_end rs) → IfSome (place_in e) (λ p. seen_in base rs < p) → EachEnd (λ d f. InOrder d f (Update op) e) calls (map returned_end rs)
  above_reads P base op e calls [] h above = tt
  above_reads P base op e [] (r ∷ rs) h above = h
  above_reads P base op e (Update o ∷ calls) (r ∷ rs) h above = (tt, above_reads P base op e calls rs h.1 (if_some_map (λ p. max r.place (seen_in base rs) < p) (λ p. seen_in base rs < p) (place_in e) (λ p l. omega arith) above))
  above_reads P base op e (Ask q ∷ calls) (r ∷ rs) h above = (
    if_some_map (λ p. max r.place (seen_in base rs) < p) (λ p. r.place < p) (place_in e) (λ p l. omega arith) above,
    above_reads P base op e calls rs h.1 (if_some_map (λ p. max r.place (seen_in base rs) < p) (λ p. seen_in base rs < p) (place_in e) (λ p l. omega arith) above),
  )

  -- an answered read stands at or above what came before it
  above_all : (P : Call State Op Query Reply → CallEnd State Op Query Reply → Type 0) (base : ℕ) (query : Query) (reply : Reply) (place : ℕ) (calls : List (Call State Op Query Reply)) (rs : List (Returned State Op Query Reply))
      → EachEnd P calls (map returned_end rs) → seen_in base rs ≤ place → EachEnd (λ d f. InOrder d f (Ask query) (ends.Answered reply place)) calls (map returned_end rs)
  above_all P base query reply place calls [] h above = tt
  above_all P base query reply place [] (r ∷ rs) h above = h
  above_all P base query reply place (c ∷ calls) (r ∷ rs) h above = (omega arith, above_all P base query reply place calls rs h.1 (omega arith))

  -- a running read may stand anywhere yet
  above_none : (P : Call State Op Query Reply → CallEnd State Op Query Reply → Type 0) (query : Query) (calls : List (Call State Op Query Reply)) (rs : List (Returned State Op Query Reply))
      → EachEnd P calls (map returned_end rs) → EachEnd (λ d f. InOrder d f (Ask query) ends.Running) calls (map returned_end rs)
  above_none P query calls [] h = tt
  above_none P query [] (r ∷ rs) h = h
  above_none P query (Update o ∷ calls) (r ∷ rs) h = (tt, above_none P query calls rs h.1)
  above_none P query (Ask q ∷ calls) (r ∷ rs) h = (tt, above_none P query calls rs h.1)

  -- nothing is broken, and all but the last is over

  unbroken : (P : Call State Op Query Reply → CallEnd State Op Query Reply → Type 0) (calls : List (Call State Op Query Reply)) (rs : List (Returned State Op Query Reply)) (current : Current)
      → EachEnd P calls (map returned_end rs) → Suits current (slice_get calls (length rs)) → BrokenAfterFailure None calls (map returned_end rs ++ current_ends current)
  unbroken P calls [] currents.Idle h s = tt
  unbroken P [] [] currents.Running h s = absurd s
  unbroken P (Update op ∷ calls) [] currents.Running h s = tt
  unbroken P (Ask query ∷ calls) [] currents.Running h s = tt
  unbroken P [] [] (currents.Ordered p) h s = absurd s
  unbroken P (Update op ∷ calls) [] (currents.Ordered p) h s = tt
  unbroken P (Ask query ∷ calls) [] (currents.Ordered p) h s = absurd s
  unbroken P [] (r ∷ rs) current h s = absurd h
  unbroken P (Update op ∷ calls) (r ∷ rs) current h s = unbroken P calls rs current h.1 s
  unbroken P (Ask query ∷ calls) (r ∷ rs) current h s = unbroken P calls rs current h.1 s

  over : (rs : List (Returned State Op Query Reply)) (current : Current) → OverButLast (map returned_end rs ++ current_ends {State = State} {Op = Op} {Query = Query} {Reply = Reply} current)
  over [] currents.Idle = tt
  over [] currents.Running = tt
  over [] (currents.Ordered p) = tt
  over (r ∷ []) currents.Idle = tt
  over (r ∷ []) currents.Running = (tt, tt)
  over (r ∷ []) (currents.Ordered p) = (tt, tt)
  over (r ∷ q ∷ rs) current = (tt, over (q ∷ rs) current)

  module _ (b : Behaviour State Op Query Reply) (s : State) (base : ℕ) where
    -- a longer trace leaves what is returned as it is

    replies_longer : (trace more : List Node) (calls : List (Call State Op Query Reply)) (rs : List (Returned State Op Query Reply)) → seen_in base rs ≤ length trace
        → EachEnd (HasReply b s trace) calls (map returned_end rs) → EachEnd (HasReply b s (trace ++ more)) calls (map returned_end rs)
    replies_longer trace more calls [] low h = tt
    replies_longer trace more [] (r ∷ rs) low h = h
    replies_longer trace more (Update op ∷ calls) (r ∷ rs) low h =
        (h.0 ∙ ap (λ (l : List Node). reply_after b s l op) (sym (take_before trace more (r.place - 1) (omega arith))), replies_longer trace more calls rs (omega arith) h.1)
    replies_longer trace more (Ask query ∷ calls) (r ∷ rs) low h = (tt, replies_longer trace more calls rs (omega arith) h.1)

    answers_longer : (trace more : List Node) (calls : List (Call State Op Query Reply)) (rs : List (Returned State Op Query Reply)) → seen_in base rs ≤ length trace
        → EachEnd (HasAnswer b s base trace) calls (map returned_end rs) → EachEnd (HasAnswer b s base (trace ++ more)) calls (map returned_end rs)
    answers_longer trace more calls [] low h = tt
    answers_longer trace more [] (r ∷ rs) low h = h
    answers_longer trace more (Update op ∷ calls) (r ∷ rs) low h = (tt, answers_longer trace more calls rs (omega arith) h.1)
    answers_longer trace more (Ask query ∷ calls) (r ∷ rs) low h =
        ((h.0.0, omega (arith, length-append trace more), h.0.2 ∙ ap (λ (l : List Node). answer_after b s l query) (sym (take_before trace more r.place (omega arith)))), answers_longer trace more calls rs (omega arith) h.1)

    module _ (trace : List Node) (t : ℕ) (calls : List (Call State Op Query Reply)) (rs : List (Returned State Op Query Reply)) where
      -- a call begins
      pub lawful_begun : (c : Call State Op Query Reply) → slice_get calls (length rs) ≡ Some c → IsLawful b s base trace t calls rs currents.Idle → IsLawful b s base trace t calls rs currents.Running
      lawful_begun c is law = record {
        places = placed_running b calls (map returned_end rs) c (next_is calls rs c is) ∙ (ap (placed_updates b calls) (sym (append-nil (map returned_end rs))) ∙ law.places);
        replies = law.replies;
        answers = law.answers;
        reads_in_order = law.reads_in_order;
        suits = subst (Suits currents.Running) (sym is) tt;
      }

      -- the exchange has linked the own node
      pub lawful_linked : (op : Op) → slice_get calls (length rs) ≡ Some (Update op) → base ≤ length trace → seen_in base rs ≤ length trace → IsLawful b s base trace t calls rs currents.Running
          → IsLawful b s base (trace ++ next_node trace t (b.row_of op) ∷ []) t calls rs (currents.Ordered (suc (length trace)))
      lawful_linked op is long low law =
          let x : Node = next_node trace t (b.row_of op) in
          let e : CallEnd State Op Query Reply = ends.Ordered (suc (length trace)) in
          let above = length-drop base trace in
          let p : suc (length trace) ≡ base + length (drop base trace) + 1 = omega arith in
          record {
            places = placed_update b calls (map returned_end rs) op e (next_is calls rs (Update op) is)
                ∙ (ap (λ (l : List (OpRow × ℕ)). l ++ (b.row_of op, suc (length trace)) ∷ []) (sym (placed_running b calls (map returned_end rs) (Update op) (next_is calls rs (Update op) is)) ∙ law.places)
                ∙ (ap (λ (n : ℕ). placed_rows t base (drop base trace) ++ (b.row_of op, n) ∷ []) p
                ∙ (sym (rows_own t base (drop base trace) x refl) ∙ ap (placed_rows t base) (sym (drop-append-le base trace (x ∷ []) long)))));
            replies = replies_longer trace (x ∷ []) calls rs low law.replies;
            answers = answers_longer trace (x ∷ []) calls rs low law.answers;
            reads_in_order = law.reads_in_order;
            suits = subst (Suits (currents.Ordered (suc (length trace)))) (sym is) tt;
          }

      -- another thread has linked a node
      pub lawful_other : (current : Current) (x : Node) → x.thread ≢ t → base ≤ length trace → seen_in base rs ≤ length trace → IsLawful b s base trace t calls rs current → IsLawful b s base (trace ++ x ∷ []) t calls rs current
      lawful_other current x other long low law = record {
        places = law.places ∙ (sym (rows_other t base (drop base trace) x other) ∙ ap (placed_rows t base) (sym (drop-append-le base trace (x ∷ []) long)));
        replies = replies_longer trace (x ∷ []) calls rs low law.replies;
        answers = answers_longer trace (x ∷ []) calls rs low law.answers;
        reads_in_order = law.reads_in_order;
        suits = law.suits;
      }

      -- an update returns
      pub update_returned : (op : Op) (p : ℕ) (r : Returned State Op Query Reply) → slice_get calls (length rs) ≡ Some (Update op) → seen_in base rs < p → r.place ≡ p → r.reply ≡ reply_after b s (take (p - 1) trace) op
          → IsLawful b s base trace t calls rs (currents.Ordered p) → IsLawful b s base trace t calls (rs ++ r ∷ []) currents.Idle
      update_returned op p r is below place reply law =
          let before : List (CallEnd State Op Query Reply) = map returned_end rs in
          let is' = next_is calls rs (Update op) is in
          let m = sym (map_more rs r) in
          record {
            places = ap (placed_updates b calls) (append-nil (map returned_end (rs ++ r ∷ [])) ∙ map_more rs r) ∙ (placed_update b calls before op (returned_end r) is'
                ∙ (ap (λ (n : ℕ). placed_updates b calls before ++ (b.row_of op, n) ∷ []) place ∙ (sym (placed_update b calls before op (ends.Ordered p) is') ∙ law.places)));
            replies = subst (EachEnd (HasReply b s trace) calls) m (each_end_more (HasReply b s trace) calls before (Update op) (returned_end r) law.replies is' (reply ∙ ap (λ (n : ℕ). reply_after b s (take (n - 1) trace) op) (sym place)));
            answers = subst (EachEnd (HasAnswer b s base trace) calls) m (each_end_more (HasAnswer b s base trace) calls before (Update op) (returned_end r) law.answers is' tt);
            reads_in_order = subst (EachLaterEnd InOrder calls) m (each_later_more InOrder calls before (Update op) (returned_end r) law.reads_in_order is' (above_reads (HasReply b s trace) base op (returned_end r) calls rs law.replies (omega arith)));
            suits = tt;
          }

      -- a read returns
      read_returned : (query : Query) (r : Returned State Op Query Reply) → slice_get calls (length rs) ≡ Some (Ask query) → base ≤ r.place → seen_in base rs ≤ r.place → r.place ≤ length trace → r.reply ≡ answer_after b s (take r.place trace) query
          → placed_updates b calls (map returned_end rs) ≡ placed_rows t base (drop base trace) → (current : Current) → IsLawful b s base trace t calls rs current → IsLawful b s base trace t calls (rs ++ r ∷ []) currents.Idle
      read_returned query r is above below high reply places current law =
          let before : List (CallEnd State Op Query Reply) = map returned_end rs in
          let is' = next_is calls rs (Ask query) is in
          let m = sym (map_more rs r) in
          record {
            places = ap (placed_updates b calls) (append-nil (map returned_end (rs ++ r ∷ [])) ∙ map_more rs r) ∙ (placed_ask b calls before query (returned_end r) is' ∙ places);
            replies = subst (EachEnd (HasReply b s trace) calls) m (each_end_more (HasReply b s trace) calls before (Ask query) (returned_end r) law.replies is' tt);
            answers = subst (EachEnd (HasAnswer b s base trace) calls) m (each_end_more (HasAnswer b s base trace) calls before (Ask query) (returned_end r) law.answers is' (above, high, reply));
            reads_in_order = subst (EachLaterEnd InOrder calls) m (each_later_more InOrder calls before (Ask query) (returned_end r) law.reads_in_order is' (above_all (HasReply b s trace) base query r.reply r.place calls rs law.replies below));
            suits = tt;
          }

      -- a read returns in its first step, and after more of them

      pub read_at_once : (query : Query) (r : Returned State Op Query Reply) → slice_get calls (length rs) ≡ Some (Ask query) → base ≤ r.place → seen_in base rs ≤ r.place → r.place ≤ length trace → r.reply ≡ answer_after b s (take r.place trace) query
          → IsLawful b s base trace t calls rs currents.Idle → IsLawful b s base trace t calls (rs ++ r ∷ []) currents.Idle
      read_at_once query r is above below high reply law = read_returned query r is above below high reply (ap (placed_updates b calls) (sym (append-nil (map returned_end rs))) ∙ law.places) currents.Idle law

      pub read_later : (query : Query) (r : Returned State Op Query Reply) → slice_get calls (length rs) ≡ Some (Ask query) → base ≤ r.place → seen_in base rs ≤ r.place → r.place ≤ length trace → r.reply ≡ answer_after b s (take r.place trace) query
          → IsLawful b s base trace t calls rs currents.Running → IsLawful b s base trace t calls (rs ++ r ∷ []) currents.Idle
      read_later query r is above below high reply law = read_returned query r is above below high reply (sym (placed_running b calls (map returned_end rs) (Ask query) (next_is calls rs (Ask query) is)) ∙ law.places) currents.Running law

      -- what is known gives the thread's part of the report

      add_current : (P : Call State Op Query Reply → CallEnd State Op Query Reply → Type 0) → ((c : Call State Op Query Reply) → P c ends.Running) → ((c : Call State Op Query Reply) (p : ℕ) → P c (ends.Ordered p))
          → (current : Current) (o : Option (Call State Op Query Reply)) → slice_get calls (length rs) ≡ o → Suits current o → EachEnd P calls (map returned_end rs) → EachEnd P calls (map returned_end rs ++ current_ends current)
      add_current P f g currents.Idle o is suits h = subst (EachEnd P calls) (sym (append-nil (map returned_end rs))) h
      add_current P f g currents.Running None is suits h = absurd suits
      add_current P f g currents.Running (Some c) is suits h = each_end_more P calls (map returned_end rs) c ends.Running h (next_is calls rs c is) (f c)
      add_current P f g (currents.Ordered p) None is suits h = absurd suits
      add_current P f g (currents.Ordered p) (Some c) is suits h = each_end_more P calls (map returned_end rs) c (ends.Ordered p) h (next_is calls rs c is) (g c p)

      running_reply : (c : Call State Op Query Reply) → HasReply b s trace c ends.Running
      running_reply (Update op) = tt
      running_reply (Ask query) = tt

      ordered_reply : (c : Call State Op Query Reply) (p : ℕ) → HasReply b s trace c (ends.Ordered p)
      ordered_reply (Update op) p = tt
      ordered_reply (Ask query) p = tt

      running_answer : (c : Call State Op Query Reply) → HasAnswer b s base trace c ends.Running
      running_answer (Update op) = tt
      running_answer (Ask query) = tt

      ordered_answer : (c : Call State Op Query Reply) (p : ℕ) → HasAnswer b s base trace c (ends.Ordered p)
      ordered_answer (Update op) p = tt
      ordered_answer (Ask query) p = tt

      in_order : (current : Current) (o : Option (Call State Op Query Reply)) → slice_get calls (length rs) ≡ o → Suits current o → ((p : ℕ) → current ≡ currents.Ordered p → seen_in base rs < p) → EachEnd (HasReply b s trace) calls (map returned_end rs)
          → EachLaterEnd InOrder calls (map returned_end rs) → EachLaterEnd InOrder calls (map returned_end rs ++ current_ends current)
      in_order currents.Idle o is suits below has h = subst (EachLaterEnd InOrder calls) (sym (append-nil (map returned_end rs))) h
      in_order currents.Running None is suits below has h = absurd suits
      in_order currents.Running (Some (Update op)) is suits below has h = each_later_more InOrder calls (map returned_end rs) (Update op) ends.Running h (next_is calls rs (Update op) is) (above_reads (HasReply b s trace) base op ends.Running calls rs has tt)
      in_order currents.Running (Some (Ask query)) is suits below has h = each_later_more InOrder calls (map returned_end rs) (Ask query) ends.Running h (next_is calls rs (Ask query) is) (above_none (HasReply b s trace) query calls rs has)
      in_order (currents.Ordered p) None is suits below has h = absurd suits
      in_order (currents.Ordered p) (Some (Update op)) is suits below has h = each_later_more InOrder calls (map returned_end rs) (Update op) (ends.Ordered p) h (next_is calls rs (Update op) is) (above_reads (HasReply b s trace) base op (ends.Ordered p) calls rs has (below p refl))
      in_order (currents.Ordered p) (Some (Ask query)) is suits below has h = absurd suits

      pub lawful_legal : (current : Current) → IsLawful b s base trace t calls rs current → ((p : ℕ) → current ≡ currents.Ordered p → seen_in base rs < p) → IsLegalThread b s base trace t calls (map returned_end rs ++ current_ends current)
      lawful_legal current law below = record {
        places = law.places;
        replies = add_current (HasReply b s trace) running_reply ordered_reply current (slice_get calls (length rs)) refl law.suits law.replies;
        answers = add_current (HasAnswer b s base trace) running_answer ordered_answer current (slice_get calls (length rs)) refl law.suits law.answers;
        reads_in_order = in_order current (slice_get calls (length rs)) refl law.suits below law.replies law.reads_in_order;
        broken = unbroken (HasReply b s trace) calls rs current law.replies law.suits;
        over = over rs current;
      }
