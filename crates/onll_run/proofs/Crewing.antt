-- Workers that are made of scripts and passes, and what all of them did.
use Rattle.std.proofs.Common.{◌≡◌, ℕ, zero, suc, ◌<◌, List, [], ◌∷◌, ◌++◌, length, map, refl, sym, ap, ◌∙◌, subst, arith, append-nil, length-append, vec_capacity}
use Rattle.std.specs.Prelude.{reverse, slice_index_or, IfOk, Result, Ok, Err}
use Rattle.std.specs.List.{AllByRecursion}
use Rattle.onll_model.specs.declared.call.Call.{Call}
use Rattle.onll_model.specs.Object.{Behaviour}
use Rattle.onll_model.proofs.Lists.{all_append}
use Rattle.onll_pmem.specs.Pmem.{DeviceView}
use Rattle.onll_shared.specs.Passes.{OnllView, PassView}
use Rattle.onll_shared.proofs.Making.{map_reverse, all_reverse, moved}
use Rattle.onll_run.specs.declared.worker.Worker.{Worker}
use Rattle.onll_run.specs.declared.worker.WorkerEnd.{WorkerEnd}
use Rattle.onll_run.specs.Workers.{IsReadyPass, CanWork, HasWorked}
use Rattle.onll_run.specs.Crew.{script_in, pass_in, IsNewWorker, AreWorkers, AreReadyPasses, AreDone}

-- what three clauses give together
pub if_all : {A E : Type 0} (r : Result A E) (P Q S T : A → Type 0) → ((x : A) → P x → Q x → S x → T x) → IfOk r P → IfOk r Q → IfOk r S → IfOk r T
if_all (Ok x) P Q S T f p q s = f x p q s
if_all (Err e) P Q S T f p q s = tt

module _ {R State Device G Op Query Reply : Type 0} (b : Behaviour State Op Query Reply) (means : Device → DeviceView) (onll : OnllView State) where
  can_at : (ws : List (Worker R State Device G Op Query Reply)) → AllByRecursion (IsNewWorker onll) ws → AreReadyPasses b means onll (map script_in ws) (map pass_in ws)
      → (t : ℕ) (d : Worker R State Device G Op Query Reply) → t < length ws → let w = slice_index_or ws t d in CanWork b means w.onll.now w.script.items w.pass w.ends.items (vec_capacity w.ends)
  can_at [] n r t d l = absurd (omega arith)
  can_at (w ∷ ws) n r zero d l = record {
    ready = subst (λ (o : OnllView State). IsReadyPass b means o w.script.items w.pass) (sym n.0.onll_is) r.0;
    empty = n.0.empty;
    many = n.0.many;
  }
  can_at (w ∷ ws) n r (suc t) d l = can_at ws n.1 r.1 t d (omega arith)

  pub can_all : (scripts : List (List (Call State Op Query Reply))) (passes : List (PassView State Device)) (ws : List (Worker R State Device G Op Query Reply))
      → AreWorkers onll scripts passes ws → AreReadyPasses b means onll scripts passes
      → (t : ℕ) (d : Worker R State Device G Op Query Reply) → t < length ws → let w = slice_index_or ws t d in CanWork b means w.onll.now w.script.items w.pass w.ends.items (vec_capacity w.ends)
  can_all scripts passes ws a r = can_at ws a.new (subst (λ (z : List (List (Call State Op Query Reply)) × List (PassView State Device)). AreReadyPasses b means onll z.0 z.1) (λ i. (sym a.scripts_are i, sym a.passes_are i)) r)

  done_at : (ws : List (Worker R State Device G Op Query Reply)) (all : List (WorkerEnd State Device Op Query Reply)) → AllByRecursion (IsNewWorker onll) ws → length all ≡ length ws
      → ((t : ℕ) (d : WorkerEnd State Device Op Query Reply) (e : Worker R State Device G Op Query Reply) → t < length ws → (slice_index_or all t d).script ≡ (slice_index_or ws t e).script)
      → ((t : ℕ) (d : WorkerEnd State Device Op Query Reply) (e : Worker R State Device G Op Query Reply) → t < length ws → let w = slice_index_or ws t e in let done = slice_index_or all t d in HasWorked b means w.onll.now w.script.items done.ends.items w.pass done.pass)
      → AreDone b means onll (map script_in ws) (map pass_in ws) all
  done_at [] [] n l s h = tt
  done_at [] (x ∷ all) n l s h = absurd (omega arith)
  done_at (w ∷ ws) [] n l s h = absurd (omega arith)
  done_at (w ∷ ws) (x ∷ all) n l s h = (
    ap (λ v. v.items) (s 0 x w (omega arith)),
    subst (λ (o : OnllView State). HasWorked b means o w.script.items x.ends.items w.pass x.pass) n.0.onll_is (h 0 x w (omega arith)),
    done_at ws all n.1 (omega arith) (λ t d e k. s (suc t) d e (omega arith)) (λ t d e k. h (suc t) d e (omega arith)),
  )

  pub done_all : (scripts : List (List (Call State Op Query Reply))) (passes : List (PassView State Device)) (ws : List (Worker R State Device G Op Query Reply)) (all : List (WorkerEnd State Device Op Query Reply))
      → AreWorkers onll scripts passes ws → length all ≡ length ws
      → ((t : ℕ) (d : WorkerEnd State Device Op Query Reply) (e : Worker R State Device G Op Query Reply) → t < length ws → (slice_index_or all t d).script ≡ (slice_index_or ws t e).script)
      → ((t : ℕ) (d : WorkerEnd State Device Op Query Reply) (e : Worker R State Device G Op Query Reply) → t < length ws → let w = slice_index_or ws t e in let done = slice_index_or all t d in HasWorked b means w.onll.now w.script.items done.ends.items w.pass done.pass)
      → AreDone b means onll scripts passes all
  done_all scripts passes ws all a l s h = subst (λ (z : List (List (Call State Op Query Reply)) × List (PassView State Device)). AreDone b means onll z.0 z.1 all) (λ i. (a.scripts_are i, a.passes_are i)) (done_at ws all a.new l s h)

module _ {R State Device G Op Query Reply : Type 0} (onll : OnllView State) (scripts0 : List (List (Call State Op Query Reply))) (passes0 : List (PassView State Device)) where
  -- workers in the making, the last one first
  pub record IsMaking (scripts : List (List (Call State Op Query Reply))) (passes : List (PassView State Device)) (ws : List (Worker R State Device G Op Query Reply)) : Type 0 where
    pub scripts_are : scripts ++ reverse (map script_in ws) ≡ scripts0
    pub passes_are : passes ++ reverse (map pass_in ws) ≡ passes0
    pub many : length scripts ≡ length passes
    pub new : AllByRecursion (IsNewWorker onll) ws

  pub making_none : length scripts0 ≡ length passes0 → IsMaking scripts0 passes0 []
  making_none e = record { scripts_are = append-nil scripts0; passes_are = append-nil passes0; many = e; new = tt }

  module _ (scripts : List (List (Call State Op Query Reply))) (passes : List (PassView State Device)) (ws : List (Worker R State Device G Op Query Reply)) (m : IsMaking scripts passes ws) where
    pub making_one : (scripts' : List (List (Call State Op Query Reply))) (passes' : List (PassView State Device)) (s : List (Call State Op Query Reply)) (p : PassView State Device) (w : Worker R State Device G Op Query Reply)
        → scripts ≡ scripts' ++ s ∷ [] → passes ≡ passes' ++ p ∷ [] → w.script.items ≡ s → w.pass ≡ p → IsNewWorker onll w
        → (ws' : List (Worker R State Device G Op Query Reply)) → ws' ≡ ws ++ w ∷ [] → IsMaking scripts' passes' ws'
    making_one scripts' passes' s p w e f g h n ws' put = subst (IsMaking scripts' passes') (sym put) record {
      scripts_are = moved script_in scripts' s ws w scripts0 (ap (λ l. l ++ reverse (map script_in ws)) (sym e) ∙ m.scripts_are) g;
      passes_are = moved pass_in passes' p ws w passes0 (ap (λ l. l ++ reverse (map pass_in ws)) (sym f) ∙ m.passes_are) h;
      many = let k = m.many in let a = ap length e in let c = ap length f in omega (arith, length-append scripts' (s ∷ []), length-append passes' (p ∷ []));
      new = all_append (IsNewWorker onll) ws (w ∷ []) m.new (n, tt);
    }

    none_long : {A : Type 0} (xs : List A) → length xs ≡ 0 → xs ≡ []
    none_long [] e = refl
    none_long (x ∷ xs) e = absurd (omega arith)

    pub making_all : (result : List (Worker R State Device G Op Query Reply)) → passes ≡ [] → result ≡ reverse ws → AreWorkers onll scripts0 passes0 result
    making_all result e is = subst (AreWorkers onll scripts0 passes0) (sym is) record {
      scripts_are = map_reverse script_in ws ∙ (ap (λ l. l ++ reverse (map script_in ws)) (sym (none_long scripts (m.many ∙ ap length e))) ∙ m.scripts_are);
      passes_are = map_reverse pass_in ws ∙ (ap (λ l. l ++ reverse (map pass_in ws)) (sym e) ∙ m.passes_are);
      new = all_reverse (IsNewWorker onll) ws m.new;
    }
