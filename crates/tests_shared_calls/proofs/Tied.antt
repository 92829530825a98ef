use Rattle.std.proofs.Common.{◌≡◌, ℕ, zero, suc, ◌+◌, ◌<◌, List, [], ◌∷◌, ◌++◌, length, map, refl, sym, ap, ◌∙◌, subst, arith}
use Rattle.std.specs.List.{AllByRecursion, Contains, slice_index_or}
use Rattle.onll_model.specs.Object.{Behaviour}
use Rattle.onll_pmem.specs.Pmem.{DeviceView}
use Rattle.onll_trace.specs.Spots.{SpotView, IsOf}
use Rattle.onll_shared.specs.Passes.{OnllView, PassView, IsTied, spot_of}
use Rattle.tests_shared_calls.specs.Tied.{AreTied}

-- Passes of all threads, before and after calls.

abbrev thread_of : SpotView → ℕ
thread_of p = p.me.thread

module _ {State Op Query Reply Device : Type 0} (b : Behaviour State Op Query Reply) (means : Device → DeviceView)
    (onll : OnllView State) where
  -- each pass is the same thread's, and tied
  abbrev Again : List (PassView State Device) → List (PassView State Device) → Type 0
  Again [] [] = Unit {0}
  Again [] (q ∷ qs) = ⊥
  Again (p ∷ ps) [] = ⊥
  Again (p ∷ ps) (q ∷ qs) = (IsTied b means onll q × (q.spot.me.thread ≡ p.spot.me.thread)) × Again ps qs

  again_tied : (ps qs : List (PassView State Device)) → Again ps qs → AllByRecursion (IsTied b means onll) qs
  again_tied [] [] a = tt
  again_tied [] (q ∷ qs) a = absurd a
  again_tied (p ∷ ps) [] a = tt
  again_tied (p ∷ ps) (q ∷ qs) a = (a.0.0, again_tied ps qs a.1)

  again_long : (ps qs : List (PassView State Device)) → Again ps qs → length (map spot_of qs) ≡ length (map spot_of ps)
  again_long [] [] a = refl
  again_long [] (q ∷ qs) a = absurd a
  again_long (p ∷ ps) [] a = absurd a
  again_long (p ∷ ps) (q ∷ qs) a = ap suc (again_long ps qs a.1)

  again_threads : (ps qs : List (PassView State Device)) → Again ps qs → map thread_of (map spot_of ps) ≡ map thread_of (map spot_of qs)
  again_threads [] [] a = refl
  again_threads [] (q ∷ qs) a = absurd a
  again_threads (p ∷ ps) [] a = absurd a
  again_threads (p ∷ ps) (q ∷ qs) a = λ k. sym a.0.1 k ∷ again_threads ps qs a.1 k

  of_all : (ps : List (PassView State Device)) → AllByRecursion (IsTied b means onll) ps → AllByRecursion (IsOf onll.trace) (map spot_of ps)
  of_all [] all = tt
  of_all (p ∷ ps) all = (all.0.of, of_all ps all.1)

  are_again : (ps qs : List (PassView State Device)) → AreTied b means onll ps → Again ps qs → AreTied b means onll qs
  are_again ps qs t a = let tied = again_tied ps qs a in record {
    all = record {
      of = of_all qs tied;
      count = again_long ps qs a ∙ t.all.count;
      each = λ u low. subst (λ (us : List ℕ). Contains us u) (again_threads ps qs a) (t.all.each u low);
    };
    tied = tied;
  }

  -- ---- passes by their index
  index_tied : (ps : List (PassView State Device)) (i : ℕ) (d : PassView State Device) → AllByRecursion (IsTied b means onll) ps → i < length ps → IsTied b means onll (slice_index_or ps i d)
  index_tied [] i d all low = absurd (omega arith)
  index_tied (p ∷ ps) zero d all low = all.0
  index_tied (p ∷ ps) (suc i) d all low = index_tied ps i d all.1 (omega arith)

  pub tied_at : (ps : List (PassView State Device)) (i : ℕ) (x : PassView State Device) → AreTied b means onll ps → i < length ps → x ≡ slice_index_or ps i x → IsTied b means onll x
  tied_at ps i x t low is = subst (IsTied b means onll) (sym is) (index_tied ps i x t.tied low)

  again_listed : (ps qs : List (PassView State Device)) → length qs ≡ length ps
      → ((i : ℕ) (d : PassView State Device) → i < length ps → IsTied b means onll (slice_index_or qs i d) × ((slice_index_or qs i d).spot.me.thread ≡ (slice_index_or ps i d).spot.me.thread))
      → Again ps qs
  again_listed [] [] n each = tt
  again_listed [] (q ∷ qs) n each = absurd (omega arith)
  again_listed (p ∷ ps) [] n each = absurd (omega arith)
  again_listed (p ∷ ps) (q ∷ qs) n each = (each 0 q (omega arith), again_listed ps qs (omega arith) (λ i d low. each (suc i) d (omega arith)))

  pub all_again : (ps qs : List (PassView State Device)) → AreTied b means onll ps → length qs ≡ length ps
      → ((i : ℕ) (d : PassView State Device) → i < length ps → IsTied b means onll (slice_index_or qs i d) × ((slice_index_or qs i d).spot.me.thread ≡ (slice_index_or ps i d).spot.me.thread))
      → AreTied b means onll qs
  all_again ps qs t n each = are_again ps qs t (again_listed ps qs n each)

  -- ---- the last pass
  again_last : (front : List (PassView State Device)) (p q : PassView State Device) → AllByRecursion (IsTied b means onll) (front ++ p ∷ []) → IsTied b means onll q → q.spot.me.thread ≡ p.spot.me.thread → Again (front ++ p ∷ []) (front ++ q ∷ [])
  again_last [] p q all t same = ((t, same), tt)
  again_last (x ∷ front) p q all t same = ((all.0, refl), again_last front p q all.1 t same)

  pub last_again : (old new front : List (PassView State Device)) (p q : PassView State Device) → AreTied b means onll old → old ≡ front ++ p ∷ [] → new ≡ front ++ q ∷ [] → IsTied b means onll q → q.spot.me.thread ≡ p.spot.me.thread → AreTied b means onll new
  last_again old new front p q t old_is new_is tied same =
      let first = subst (AreTied b means onll) old_is t in
      subst (AreTied b means onll) (sym new_is) (are_again (front ++ p ∷ []) (front ++ q ∷ []) first (again_last front p q first.tied tied same))
