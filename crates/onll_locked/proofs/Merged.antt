use Rattle.std.proofs.Common.{◌≡◌, ℕ, zero, suc, ◌+◌, ◌-◌, ◌≤◌, inl, ⊎_elim, List, [], ◌∷◌, ◌++◌, length, take, set, Option, Some, None, Ok, refl, sym, ap, ◌∙◌, subst, arith, length-append, count_by, Bool}
use Rattle.std.specs.Prelude.{IfSome}
use Rattle.std.specs.List.{AllByRecursion, slice_get}
use mathlib.Core.Logic.{dite}
use Rattle.onll_model.specs.declared.node.Node.{Node}
use Rattle.onll_model.specs.declared.call.Call.{Call}
use Rattle.onll_model.specs.declared.call.Call.TheVariants.{Update, Ask}
use Rattle.onll_words.specs.declared.line.OpRow.{OpRow}
use Rattle.onll_model.specs.Trace.{is_of_thread}
use Rattle.onll_model.specs.Object.{Behaviour}
use Rattle.onll_model.specs.Segment.{Segment, Agrees, LiesIn, Rises, nodes_between}
use Rattle.onll_model.specs.Events.{next_node, window}
use Rattle.onll_model.proofs.Lists.{same_some, some_not_none, all_map, all_at, all_append, set_same, length_window}
use Rattle.onll_model.proofs.Segments.{rises_snoc, agrees_longer, lies_left, lies_right, lies_either}
use Rattle.onll_model.proofs.Traces.{numbered_longer}
use Rattle.onll_pmem.specs.Pmem.{DeviceView}
use Rattle.onll_log.specs.declared.head.LogHead.{LogHead}
use Rattle.onll_log.specs.Grammar.{Content}
use Rattle.onll_log.specs.Log.{LogState}
use Rattle.onll_merge.specs.Merge.{top_of, merge}
use Rattle.onll_merge.specs.Laws.{all_segments, EachSegment, HeadsFit}
use Rattle.onll_merge.proofs.Fronts.{merge-front, top_of-lies}
use Rattle.onll_merge.proofs.FrameLogs.{within_logs}
use Rattle.onll_locked.specs.declared.ends.Next.{Next}
use Rattle.onll_locked.specs.declared.ends.Next.TheVariants as nexts
use Rattle.onll_locked.specs.Locked.{LockedThread, LockedState, next_call, IsUpdate}
use Rattle.onll_locked.specs.DoNext.{IsLogged, CallIsAnswered, HasDone}
use Rattle.onll_locked.specs.Whole.{HoldWhole, AreEmpty, content_read}
use Rattle.onll_locked.specs.Laws.{AnswersSo}

-- The logs of all threads hold the whole trace.

-- ---- before any call
empty_none : (P : Segment → Type 0) (ss : List Segment) → ss ≡ [] → AllByRecursion P ss
empty_none P ss e = subst (AllByRecursion P) (sym e) tt

empty_each : (P : Segment → Type 0) (logs : List Content) → AreEmpty logs → EachSegment P logs
empty_each P logs h = all_map (λ (log : Content). log.entries ≡ []) (λ (log : Content). AllByRecursion P log.entries) logs (λ log e. empty_none P log.entries e) h

pub begun_whole : (heads : List LogHead) (logs : List Content) → HeadsFit logs heads → AreEmpty logs → HoldWhole [] heads logs
begun_whole heads logs fit h = record {
  heads_fit = fit;
  agree = empty_each (Agrees []) logs h;
  rise = all_map (λ (log : Content). log.entries ≡ []) (λ (log : Content). Rises 0 log.entries) logs (λ log e. subst (Rises 0) (sym e) tt) h;
  cover = λ q low high. absurd (omega arith);
  numbered = tt;
}

-- ---- the merge
take_whole : (n : ℕ) (xs : List Node) → length xs ≤ n → take n xs ≡ xs
take_whole zero [] l = refl
take_whole zero (x ∷ xs) l = absurd (omega arith)
take_whole (suc n) [] l = refl
take_whole (suc n) (x ∷ xs) l = ap (λ (ys : List Node). x ∷ ys) (take_whole n xs (omega arith))

pub merged_whole : (trace : List Node) (heads : List LogHead) (logs : List Content) → HoldWhole trace heads logs → merge heads logs ≡ Ok trace
merged_whole trace heads logs h =
    let high = within_logs trace logs h.agree in
    let low : length trace ≤ top_of logs = dite (native.Mathlib.Decide.dec_le (length trace) 0) (λ none. omega arith) (λ some_node. top_of-lies logs (length trace) (h.cover (length trace) (omega arith) (omega arith))) in
    merge-front trace heads logs (record { heads_fit = h.heads_fit; agree = h.agree; rise = h.rise; cover = λ q l u. h.cover q l (omega arith); numbered = h.numbered }) ∙ ap Ok (take_whole (top_of logs) trace low)

-- ---- one log has one entry more
all_set : (P : Content → Type 0) (logs : List Content) (t : ℕ) (y : Content) → AllByRecursion P logs → P y → AllByRecursion P (set logs t y)
all_set P [] t y h p = tt
all_set P (x ∷ logs) zero y h p = (p, h.1)
all_set P (x ∷ logs) (suc t) y h p = (h.0, all_set P logs t y h.1 p)

heads_set : (logs : List Content) (heads : List LogHead) (t : ℕ) (old new : Content) → slice_get logs t ≡ Some old → new.head ≡ old.head → HeadsFit logs heads → HeadsFit (set logs t new) heads
heads_set [] heads t old new at same h = tt
heads_set (x ∷ logs) [] zero old new at same h = tt
heads_set (x ∷ logs) [] (suc t) old new at same h = tt
heads_set (x ∷ logs) (y ∷ heads) zero old new at same h = (subst (λ (o : Option LogHead). IfSome o (λ head. head ≡ y)) (sym (same ∙ ap (λ (z : Content). z.head) (sym (same_some x old at)))) h.0, h.1)
heads_set (x ∷ logs) (y ∷ heads) (suc t) old new at same h = (h.0, heads_set logs heads t old new at same h.1)

lies_set : (q : ℕ) (logs : List Content) (t : ℕ) (old new : Content) → slice_get logs t ≡ Some old → (LiesIn q old.entries → LiesIn q new.entries) → LiesIn q (all_segments logs) → LiesIn q (all_segments (set logs t new))
lies_set q [] t old new at f l = l
lies_set q (x ∷ logs) zero old new at f l = ⊎_elim
    (λ (a : LiesIn q x.entries). lies_left q new.entries (all_segments logs) (f (subst (λ (z : Content). LiesIn q z.entries) (same_some x old at) a)))
    (λ (b : LiesIn q (all_segments logs)). lies_right q new.entries (all_segments logs) b)
    (lies_either q x.entries (all_segments logs) l)
lies_set q (x ∷ logs) (suc t) old new at f l = ⊎_elim
    (λ (a : LiesIn q x.entries). lies_left q x.entries (all_segments (set logs t new)) a)
    (λ (b : LiesIn q (all_segments logs)). lies_right q x.entries (all_segments (set logs t new)) (lies_set q logs t old new at f b))
    (lies_either q x.entries (all_segments logs) l)

lies_new : (q : ℕ) (logs : List Content) (t : ℕ) (old new : Content) → slice_get logs t ≡ Some old → LiesIn q new.entries → LiesIn q (all_segments (set logs t new))
lies_new q [] t old new at l = some_not_none old (sym at)
lies_new q (x ∷ logs) zero old new at l = lies_left q new.entries (all_segments logs) l
lies_new q (x ∷ logs) (suc t) old new at l = lies_right q x.entries (all_segments (set logs t new)) (lies_new q logs t old new at l)

module _ {Device : Type 0} (trace : List Node) (x : Node) (numbered : x.number ≡ count_by (is_of_thread x.thread) trace + 1) (flags : List Bool) (log log' : LogState Device) (was is : DeviceView)
    (logged : IsLogged flags (trace ++ x ∷ []) log log' was is) (t : ℕ) (heads : List LogHead) (logs : List Content) (at : slice_get logs t ≡ Some (content_read log)) (h : HoldWhole trace heads logs) where
  abbrev longer : List Node
  longer = trace ++ x ∷ []

  abbrev entry : Segment
  entry = window longer logged.below (length longer)

  size : length longer ≡ length trace + 1
  size = length-append trace (x ∷ [])

  entry_size : length entry.nodes ≡ length longer - logged.below
  entry_size = length_window longer logged.below (length longer) (let o = logged.own in omega arith) (omega arith)

  entry_agrees : Agrees longer entry
  entry_agrees =
      let o = logged.own in
      let s = entry_size in
      let from : length longer - length entry.nodes ≡ logged.below = omega arith in
      record { some_nodes = omega arith; from_one = omega arith; in_trace = omega arith; nodes = ap (λ (d : ℕ). nodes_between longer d (length longer)) (sym from) }

  old_agrees : AllByRecursion (Agrees longer) log.entries
  old_agrees = all_map (Agrees trace) (Agrees longer) log.entries (λ s a. agrees_longer trace (x ∷ []) s a) (all_at (λ (c : Content). AllByRecursion (Agrees trace) c.entries) logs h.agree t (content_read log) at)

  pub logged_whole : HoldWhole longer heads (set logs t (content_read log'))
  logged_whole =
      let s = size in
      let n = entry_size in
      let o = logged.own in
      let above = logged.above in
      record {
        heads_fit = heads_set logs heads t (content_read log) (content_read log') at (ap Some logged.head) h.heads_fit;
        agree = all_set (λ (c : Content). AllByRecursion (Agrees longer) c.entries) logs t (content_read log')
            (all_map (λ (c : Content). AllByRecursion (Agrees trace) c.entries) (λ (c : Content). AllByRecursion (Agrees longer) c.entries) logs (λ c a. all_map (Agrees trace) (Agrees longer) c.entries (λ g b. agrees_longer trace (x ∷ []) g b) a) h.agree)
            (subst (AllByRecursion (Agrees longer)) (sym logged.entries) (all_append (Agrees longer) log.entries (entry ∷ []) old_agrees (entry_agrees, tt)));
        rise = all_set (λ (c : Content). Rises 0 c.entries) logs t (content_read log') h.rise
            (subst (Rises 0) (sym logged.entries) (rises_snoc 0 log.entries entry (all_at (λ (c : Content). Rises 0 c.entries) logs h.rise t (content_read log) at) (omega arith)));
        cover = λ q low high. dite (native.Mathlib.Decide.dec_le q (length trace))
            (λ old. lies_set q logs t (content_read log) (content_read log') at (λ l. subst (LiesIn q) (sym logged.entries) (lies_left q log.entries (entry ∷ []) l)) (h.cover q low old))
            (λ new. lies_new q logs t (content_read log) (content_read log') at (subst (LiesIn q) (sym logged.entries) (lies_right q log.entries (entry ∷ []) (inl (omega arith, omega arith)))));
        numbered = numbered_longer trace x h.numbered numbered;
      }

-- ---- any call
module _ {State Op Query Reply Device : Type 0} (b : Behaviour State Op Query Reply) (c new : LockedState State Op Query Reply) (t : ℕ) (th : LockedThread State Op Query Reply) (log log' : LogState Device) (was is : DeviceView) where
  module _ (heads : List LogHead) (logs : List Content) (at : slice_get logs t ≡ Some (content_read log)) (h : HoldWhole c.trace heads logs) where
    abbrev Still : Type 0
    Still = HoldWhole new.trace heads (set logs t (content_read log'))

    stays : new.trace ≡ c.trace → log' ≡ log → Still
    stays trace same = subst (λ (z : List Node × List Content). HoldWhole z.0 heads z.1) (λ i. (sym trace i, sym (ap (λ (l : LogState Device). set logs t (content_read l)) same ∙ set_same logs t (content_read log) at) i)) h

    grows : (row : OpRow) → new.trace ≡ c.trace ++ next_node c.trace t row ∷ [] → IsLogged c.flags new.trace log log' was is → Still
    grows row trace logged = subst (λ (l : List Node). HoldWhole l heads (set logs t (content_read log'))) (sym trace)
        (logged_whole c.trace (next_node c.trace t row) refl c.flags log log' was is (subst (λ (l : List Node). IsLogged c.flags l log log' was is) trace logged) t heads logs at h)

    answered_whole : (call : Option (Call State Op Query Reply)) → CallIsAnswered b c t th new log log' was is call → Still
    answered_whole None d = absurd d
    answered_whole (Some (Update op)) d = grows (b.row_of op) (ap (λ (s : LockedState State Op Query Reply). s.trace) d.state) d.logged
    answered_whole (Some (Ask query)) d = stays (ap (λ (s : LockedState State Op Query Reply). s.trace) d.state) d.log_stays

    pub done_whole : (next : Next) → HasDone b c t th new log log' was is next → Still
    done_whole nexts.Answered d = answered_whole (next_call th) d
    done_whole nexts.Done d = stays (ap (λ (s : LockedState State Op Query Reply). s.trace) d.state) d.log_stays
    done_whole (nexts.FenceFailed place) d = grows (b.row_of d.op) (ap (λ (s : LockedState State Op Query Reply). s.trace) d.state) d.logged
    done_whole (nexts.Broken place) d = stays (ap (λ (s : LockedState State Op Query Reply). s.trace) d.state) d.log_stays

  -- ---- when each answer comes
  answered_so : (call : Option (Call State Op Query Reply)) → next_call th ≡ call → CallIsAnswered b c t th new log log' was is call → AnswersSo b Device c new t th was is nexts.Answered
  answered_so None e d = absurd d
  answered_so (Some (Update op)) e d = record {
    at_end = (λ h. absurd (cc), λ h. some_not_none (Update op) (sym e ∙ h));
    broken = λ place. (λ h. absurd (cc), λ h. some_not_none place (sym h.1 ∙ d.whole));
    failed = λ place h. absurd (cc);
  }
  answered_so (Some (Ask query)) e d = record {
    at_end = (λ h. absurd (cc), λ h. some_not_none (Ask query) (sym e ∙ h));
    broken = λ place. (λ h. absurd (cc), λ h. absurd (subst IsUpdate e h.0));
    failed = λ place h. absurd (cc);
  }

  pub done_answers : (next : Next) → HasDone b c t th new log log' was is next → AnswersSo b Device c new t th was is next
  done_answers nexts.Answered d = answered_so (next_call th) refl d
  done_answers nexts.Done d = record {
    at_end = (λ h. d.call, λ h. refl);
    broken = λ place. (λ h. absurd (cc), λ h. absurd (subst IsUpdate d.call h.0));
    failed = λ place h. absurd (cc);
  }
  done_answers (nexts.FenceFailed p) d = record {
    at_end = (λ h. absurd (cc), λ h. some_not_none (Update d.op) (sym d.call ∙ h));
    broken = λ place. (λ h. absurd (cc), λ h. some_not_none place (sym h.1 ∙ d.whole));
    failed = λ place h. let f = d.faults in omega arith;
  }
  done_answers (nexts.Broken p) d = record {
    at_end = (λ h. absurd (cc), λ h. some_not_none (Update d.op) (sym d.call ∙ h));
    broken = λ place. (λ h. let same : p ≡ place = (cc) in (subst IsUpdate (sym d.call) tt, d.failed ∙ ap Some same), λ h. ap nexts.Broken (same_some p place (sym d.failed ∙ h.1)));
    failed = λ place h. absurd (cc);
  }
