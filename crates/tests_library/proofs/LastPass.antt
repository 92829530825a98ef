-- Passes of which the last one made a call.
use Rattle.std.proofs.Common.{suc, List, [], ◌∷◌, ◌++◌, ◌≡◌, length, map, refl, sym, ap, ◌∙◌, subst}
use Rattle.std.specs.List.{AllByRecursion, Contains}
use Rattle.onll_model.specs.Object.{Behaviour}
use Rattle.onll_pmem.specs.Pmem.{DeviceView}
use Rattle.onll_trace.specs.Spots.{SpotView, IsOf}
use Rattle.onll_trace.specs.Closing.{AreAll}
use Rattle.onll_shared.specs.Passes.{OnllView, PassView, IsTied, spot_of}

pub last_of : {A : Type 0} (P : A → Type 0) (front : List A) (x : A) → AllByRecursion P (front ++ x ∷ []) → P x
last_of P [] x h = h.0
last_of P (y ∷ ys) x h = last_of P ys x h.1

pub back_with : {A : Type 0} (P : A → Type 0) (front : List A) (old new : A) → AllByRecursion P (front ++ old ∷ []) → P new → AllByRecursion P (front ++ new ∷ [])
back_with P [] old new h n = (n, tt)
back_with P (y ∷ ys) old new h n = (h.0, back_with P ys old new h.1 n)

module _ {State Op Query Reply Device : Type 0} (b : Behaviour State Op Query Reply) (means : Device → DeviceView) (onll : OnllView State) where
  of_tied : (passes : List (PassView State Device)) → AllByRecursion (IsTied b means onll) passes → AllByRecursion (IsOf onll.trace) (map spot_of passes)
  of_tied [] h = tt
  of_tied (p ∷ ps) h = (h.0.of, of_tied ps h.1)

  threads_same : (front : List (PassView State Device)) (old new : PassView State Device) → new.spot.me.thread ≡ old.spot.me.thread
      → map (λ (p : SpotView). p.me.thread) (map spot_of (front ++ old ∷ [])) ≡ map (λ (p : SpotView). p.me.thread) (map spot_of (front ++ new ∷ []))
  threads_same [] old new e = ap (λ t. t ∷ []) (sym e)
  threads_same (p ∷ ps) old new e = ap (λ ts. p.spot.me.thread ∷ ts) (threads_same ps old new e)

  count_same : (front : List (PassView State Device)) (old new : PassView State Device) → length (map spot_of (front ++ new ∷ [])) ≡ length (map spot_of (front ++ old ∷ []))
  count_same [] old new = refl
  count_same (p ∷ ps) old new = ap suc (count_same ps old new)

  -- all are there still
  pub all_back : (front : List (PassView State Device)) (old new : PassView State Device) → new.spot.me.thread ≡ old.spot.me.thread → AllByRecursion (IsTied b means onll) (front ++ new ∷ [])
      → AreAll onll.trace (map spot_of (front ++ old ∷ [])) → AreAll onll.trace (map spot_of (front ++ new ∷ []))
  all_back front old new e tied all = record {
    of = of_tied (front ++ new ∷ []) tied;
    count = count_same front old new ∙ all.count;
    each = λ t low. subst (λ ts. Contains ts t) (threads_same front old new e) (all.each t low);
  }
