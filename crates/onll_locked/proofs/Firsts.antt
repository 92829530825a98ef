use Rattle.std.proofs.Common.{◌≡◌, ℕ, zero, suc, ◌+◌, ◌*◌, ◌≤◌, Bool, List, [], ◌∷◌, length, map, Some, refl, sym, ap, ◌∙◌, subst, arith, count_by, false}
use Rattle.std.specs.List.{All, slice_get}
use Rattle.std.proofs.lemmas.List.{length-map}
use Rattle.std.proofs.lemmas.List.Elements.{All-head, All-tail}
use Rattle.onll_model.specs.declared.node.Node.{Node}
use Rattle.onll_model.specs.declared.call.Call.{Call}
use Rattle.onll_model.specs.Object.{Behaviour}
use Rattle.onll_model.specs.Calls.{updates_in}
use Rattle.onll_model.specs.Trace.{is_of_thread}
use Rattle.onll_model.specs.Legal.{placed_rows}
use Rattle.onll_model.specs.Frames.{is_available}
use Rattle.onll_model.proofs.Lists.{some_not_none, same_some}
use Rattle.onll_model.proofs.Ends.{none_placed}
use Rattle.onll_model.proofs.Traces.{node_place}
use Rattle.std.specs.Prelude.{is_some}
use Rattle.onll_model.specs.Segment.{last_place}
use Rattle.onll_log.specs.Grammar.{lines_in}
use Rattle.onll_log.specs.Log.{LogState, free_of}
use Rattle.onll_locked.specs.DoNext.{IsThreadLog}
use Rattle.onll_locked.proofs.Updates.{say_of}
use Rattle.onll_locked.specs.Locked.{own_places, failed_at, updates_left, LockedThread, LockedState, first_thread, first_state, last_in}
use Rattle.onll_locked.specs.Kept.{KeepsThread, KeepsLocked}
use Rattle.onll_locked.proofs.Places.{no_places}

-- What is kept before any call.

get_map : {A B : Type 0} (f : A → B) (xs : List A) (i : ℕ) (x : A) → slice_get xs i ≡ Some x → slice_get (map f xs) i ≡ Some (f x)
get_map f [] i x e = some_not_none x (sym e)
get_map f (y ∷ xs) zero x e = ap (λ z. Some (f z)) (same_some y x e)
get_map f (y ∷ xs) (suc i) x e = get_map f xs i x e

module _ {State Op Query Reply : Type 0} where
  first_of : {A : Type 0} (f : A → List (Call State Op Query Reply)) (xs : List A) → All (λ (x : A). updates_in (f x) ≤ 4096) xs → (t : ℕ) (th : LockedThread State Op Query Reply) → slice_get (map first_thread (map f xs)) t ≡ Some th
      → (script : List (Call State Op Query Reply)) × (first_thread script ≡ th) × (updates_in script ≤ 4096)
  first_of f [] few t th at = some_not_none th (sym at)
  first_of f (x ∷ xs) few zero th at = (f x, same_some (first_thread (f x)) th at, All-head (λ z. updates_in (f z) ≤ 4096) x xs few)
  first_of f (x ∷ xs) few (suc t) th at = first_of f xs (All-tail (λ z. updates_in (f z) ≤ 4096) x xs few) t th at

  first_kept : (b : Behaviour State Op Query Reply) (c : LockedState State Op Query Reply) → c.trace ≡ [] → c.flags ≡ [] → (t : ℕ) (script : List (Call State Op Query Reply)) → updates_in script ≤ 4096 → KeepsThread b c t (first_thread script)
  first_kept b c empty unset t script few =
      let none = ap length (no_places {State = State} {Op = Op} {Query = Query} {Reply = Reply} script) in
      record {
        legal = record { places = none_placed b script ∙ sym (ap (λ (l : List Node). placed_rows t 0 l) empty); replies = tt; answers = tt; reads_in_order = tt; broken = tt; over = tt };
        within = tt;
        counts = record { nodes = none ∙ sym (ap (λ (l : List Node). count_by (is_of_thread t) l) empty); updates = omega arith };
        settled = λ h. ap (λ (l : List ℕ). is_available c.flags (last_in 0 l)) (no_places {State = State} {Op = Op} {Query = Query} {Reply = Reply} script);
        last = λ p h. some_not_none p (sym h);
      }

  pub created_keeps : {A : Type 0} (b : Behaviour State Op Query Reply) (initial object : State) (f : A → List (Call State Op Query Reply)) (xs : List A) (count nodes flags : ℕ) (trace : List Node) (marks : List Bool) (threads : List (LockedThread State Op Query Reply))
      → length xs ≤ 16 → All (λ (x : A). updates_in (f x) ≤ 4096) xs → initial ≡ object → count ≡ length xs → (trace ≡ []) × (nodes ≡ 4096 * count) → (marks ≡ []) × (flags ≡ 4096 * count) → threads ≡ map first_thread (map f xs)
      → KeepsLocked b nodes flags object (record { initial = initial; trace = trace; flags = marks; threads = threads })
  created_keeps b initial object f xs count nodes flags trace marks threads few updates same many empty unset made =
      let c : LockedState State Op Query Reply = first_state initial (map f xs) in
      let size : length c.threads ≡ length xs = length-map (map f xs) first_thread ∙ length-map xs f in
      let a = empty.1 in
      let g = unset.1 in
      let kept : KeepsLocked b nodes flags object c = record {
        state = sym same;
        few = omega arith;
        numbered = tt;
        fits = tt;
        as_many = refl;
        flags_tell = λ t th at p x here own. let n = node_place [] p x here in let low = n.0 in let high = n.1 in absurd (omega arith);
        threads = λ t th at. let s = first_of f xs updates t th at in subst (KeepsThread b c t) s.1 (first_kept b c refl refl t s.0 s.2);
        nodes_room = omega arith;
        flags_room = omega arith;
      } in
      subst (λ (z : List Node × List Bool × List (LockedThread State Op Query Reply)). KeepsLocked b nodes flags object (record { initial = initial; trace = z.0; flags = z.1; threads = z.2 })) (λ i. (sym empty.0 i, sym unset.0 i, sym made i)) kept

  -- ---- a new log
  pub first_log : {Device : Type 0} (initial : State) (scripts : List (List (Call State Op Query Reply))) (script : List (Call State Op Query Reply)) (t : ℕ) (log : LogState Device) (lines : ℕ)
      → slice_get scripts t ≡ Some script → log.head.thread ≡ t → log.head.threads ≡ length scripts → log.entries ≡ [] → log.broken ≡ false → 1 + (length scripts + 1) * updates_in script ≤ lines
      → IsThreadLog (first_state initial scripts) t log lines
  first_log initial scripts script t log lines at thread threads empty whole room =
      let c : LockedState State Op Query Reply = first_state initial scripts in
      let here : slice_get c.threads t ≡ Some (first_thread script) = get_map first_thread scripts t script at in
      let many : length c.threads ≡ length scripts = length-map scripts first_thread in
      let none = no_places {State = State} {Op = Op} {Query = Query} {Reply = Reply} script in
      let used = ap lines_in empty in
      record {
        thread = thread;
        threads = threads ∙ sym many;
        broken = say_of (λ (z : LockedThread State Op Query Reply). log.broken ≡ is_some (failed_at z.ends)) (slice_get c.threads t) (first_thread script) here whole;
        last = say_of (λ (z : LockedThread State Op Query Reply). last_place 0 log.entries ≡ last_in 0 (own_places z)) (slice_get c.threads t) (first_thread script) here (ap (last_place 0) empty ∙ sym (ap (last_in 0) none));
        room = say_of (λ (z : LockedThread State Op Query Reply). (length c.threads + 1) * updates_left z ≤ free_of lines log.entries) (slice_get c.threads t) (first_thread script) here
            (subst (λ (n : ℕ). (n + 1) * updates_in script ≤ free_of lines log.entries) (sym many) (omega arith));
      }
