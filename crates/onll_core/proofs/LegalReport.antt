use Rattle.std.proofs.Common.{◌≡◌, ℕ, zero, suc, ◌+◌, ◌<◌, ◌≤◌, List, [], ◌∷◌, length, take, map, Some, refl, sym, ap, ◌∙◌, subst, arith, length-append}
use Rattle.std.specs.List.{AllByRecursion, slice_get}
use Rattle.std.proofs.lemmas.List.{length-map, drop_all}
use Rattle.onll_model.specs.declared.node.Node.{Node}
use Rattle.onll_model.specs.declared.call.Call.{Call}
use Rattle.onll_model.specs.declared.call.CallEnd.{CallEnd}
use Rattle.onll_model.specs.Object.{Behaviour}
use Rattle.onll_model.specs.Legal.{placed_rows, EachEnd, HasReply, IsLegalThread, AreLegalThreads}
use Rattle.onll_model.proofs.Ends.{none_placed}
use Rattle.onll_core.specs.declared.returned.Returned.{Returned}
use Rattle.onll_core.specs.declared.returned.Current.{Current}
use Rattle.onll_core.specs.declared.returned.Current.TheVariants as currents
use Rattle.onll_core.specs.Core.{CoreThread, CoreState}
use Rattle.onll_core.specs.CoreFrame.{frame_thread}
use Rattle.onll_core.specs.Consistent.{IsConsistent}
use Rattle.onll_core.specs.Outcomes.{current_in, current_of, current_ends, returned_end, ends_of, script_of, IsLegalCore, IsFreshCore}
use Rattle.onll_core.specs.CallTimes.{returned_calls, current_calls, timed_calls}
use Rattle.onll_core.proofs.Phases.{seen_below}
use Rattle.onll_core.proofs.Lawful.{IsLawful, lawful_legal}
use Rattle.onll_core.proofs.LawfulSteps.{AreLawful}

-- The report of a core whose calls are lawful is legal, and nothing is said against one where no call has begun.

threads_legal : {State Op Query Reply : Type 0} (b : Behaviour State Op Query Reply) (s : State) (base : ℕ) (trace : List Node) (n : ℕ) (ths : List (CoreThread State Op Query Reply))
    → ((t : ℕ) (th : CoreThread State Op Query Reply) → slice_get ths t ≡ Some th → IsLegalThread b s base trace (n + t) th.script (ends_of th)) → AreLegalThreads b s base trace n (map script_of ths) (map ends_of ths)
threads_legal b s base trace n [] h = tt
threads_legal b s base trace n (th ∷ ths) h = let first : n + 0 ≡ n = omega arith in (
  subst (λ (m : ℕ). IsLegalThread b s base trace m th.script (ends_of th)) first (h 0 th refl),
  threads_legal b s base trace (n + 1) ths (λ t w e. let k : n + suc t ≡ n + 1 + t = omega arith in subst (λ (m : ℕ). IsLegalThread b s base trace m w.script (ends_of w)) k (h (suc t) w e)),
)

length_front : {A : Type 0} (n : ℕ) (xs : List A) → n ≤ length xs → length (take n xs) ≡ n
length_front zero xs l = refl
length_front (suc n) [] l = absurd (omega arith)
length_front (suc n) (x ∷ xs) l = ap suc (length_front n xs (omega arith))

pub lawful_report : {State Op Query Reply : Type 0} (b : Behaviour State Op Query Reply) (count : ℕ) (c : CoreState State Op Query Reply) → IsConsistent count c → AreLawful b c → IsLegalCore b c
lawful_report b count c k all =
    let long : length (take c.base c.trace) ≡ c.base = length_front c.base c.trace k.based.long in
    let many : count ≡ length (map script_of c.threads) = sym k.sound.threads ∙ (length-map c.threads (frame_thread c.base c.trace) ∙ sym (length-map c.threads script_of)) in
    record {
      begins = ap (λ (n : ℕ). take n c.trace) long;
      numbered = k.sound.numbered;
      threads = subst (λ (n : ℕ). AllByRecursion (λ (x : Node). x.thread < n) c.trace) many k.sound.below;
      outcomes = subst (λ (n : ℕ). AreLegalThreads b c.initial n c.trace 0 (map script_of c.threads) (map ends_of c.threads)) (sym long)
          (threads_legal b c.initial c.base c.trace 0 c.threads
          (λ t th e. let z : t ≡ 0 + t = omega arith in subst (λ (u : ℕ). IsLegalThread b c.initial c.base c.trace u th.script (ends_of th)) z
          (lawful_legal b c.initial c.base c.trace t th.script th.returned (current_of th) (all.each t th e) (λ p o. seen_below count c k t th e p o))));
    }

pub fresh_lawful : {State Op Query Reply : Type 0} (b : Behaviour State Op Query Reply) (c : CoreState State Op Query Reply) → IsFreshCore c → AreLawful b c
fresh_lawful {State} {Op} {Query} {Reply} b c fresh = record {
  each = λ t th e. subst (λ (x : List (Returned State Op Query Reply) × _). IsLawful b c.initial c.base c.trace t th.script x.0 x.1)
      (λ i. (sym (fresh.returned t th e) i, ap current_in (sym (fresh.idle t th e)) i)) record {
        places = none_placed b th.script ∙ ap (placed_rows t c.base) (sym (drop_all c.base c.trace (let n = fresh.trace in omega arith)));
        replies = tt;
        answers = tt;
        reads_in_order = tt;
        suits = tt;
      };
}

-- every call that has begun is counted

counted : {State Op Query Reply : Type 0} (P : Call State Op Query Reply → CallEnd State Op Query Reply → Type 0) (calls : List (Call State Op Query Reply)) (rs : List (Returned State Op Query Reply)) → EachEnd P calls (map returned_end rs) → length (returned_calls calls rs) ≡ length (map returned_end rs)
counted P [] [] h = refl
counted P (x ∷ calls) [] h = refl
counted P [] (r ∷ rs) h = absurd h
counted P (x ∷ calls) (r ∷ rs) h = ap suc (counted P calls rs h.1)

current_counted : (State Op Query Reply : Type 0) (began : ℕ) (now : Current) → length (current_calls began now) ≡ length (current_ends {State = State} {Op = Op} {Query = Query} {Reply = Reply} now)
current_counted State Op Query Reply began currents.Idle = refl
current_counted State Op Query Reply began currents.Running = refl
current_counted State Op Query Reply began (currents.Ordered p) = refl

pub all_counted : {State Op Query Reply : Type 0} (b : Behaviour State Op Query Reply) (c : CoreState State Op Query Reply) → AreLawful b c → (t : ℕ) (th : CoreThread State Op Query Reply) → slice_get c.threads t ≡ Some th → length (timed_calls th) ≡ length (ends_of th)
all_counted {State} {Op} {Query} {Reply} b c all t th at = let law = all.each t th at in
    let n = counted (HasReply b c.initial c.trace) th.script th.returned law.replies in
    let m = current_counted State Op Query Reply th.began (current_of th) in
    omega (arith, length-append (returned_calls th.script th.returned) (current_calls th.began (current_of th)), length-append (map returned_end th.returned) (current_ends {State = State} {Op = Op} {Query = Query} {Reply = Reply} (current_of th)))
