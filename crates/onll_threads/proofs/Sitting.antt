-- What was done at a seat, from its beginning to the end of a work.
use Rattle.std.proofs.Common.{List, [], ◌++◌, ◌≡◌, Option, Some, refl, sym, ap, ◌∙◌, subst}
use Rattle.onll_model.specs.declared.call.Call.{Call}
use Rattle.onll_model.specs.declared.call.CallEnd.{CallEnd}
use Rattle.onll_model.specs.Object.{Behaviour}
use Rattle.onll_pmem.specs.Pmem.{DeviceView}
use Rattle.onll_shared.specs.Passes.{OnllView, PassView}
use Rattle.onll_threads.specs.Acts.{Acts, HasActed, IsUnused, SeatView, seat_of}
use Rattle.onll_threads.specs.Crews.{WasDone}
use Rattle.onll_threads.specs.Seats.{ActsAt, Did, HasCalled, KeepsPromise}

pub some_same : {A : Type 0} (x y : A) → Some x ≡ Some y → x ≡ y
some_same x y e = (cc)

module _ {State Op Query Reply Device : Type 0} (b : Behaviour State Op Query Reply) (means : Device → DeviceView)
    (first : Option (SeatView State Device)) where
  acted_at : (calls : List (Call State Op Query Reply)) (ends : List (CallEnd State Op Query Reply)) (onll : OnllView State)
      (old new : PassView State Device) → Acts b means onll calls ends old new
      → ActsAt b means first calls ends (seat_of onll old) (seat_of onll new)
  acted_at calls ends onll old new a before befores d = record {
    began = d.began;
    began_is = d.began_is;
    same = d.same;
    acted = a d.began.pass before befores d.acted;
  }

  -- what was done on the pass, as what was done at the seat, which was seen as this
  pub acts_at : (calls : List (Call State Op Query Reply)) (ends : List (CallEnd State Op Query Reply)) (onll : OnllView State)
      (old new : PassView State Device) (seat : SeatView State Device) → seat ≡ seat_of onll old
      → Acts b means onll calls ends old new → ActsAt b means first calls ends seat (seat_of onll new)
  acts_at calls ends onll old new seat e a =
      subst (λ (s : SeatView State Device). ActsAt b means first calls ends s (seat_of onll new)) (sym e)
      (acted_at calls ends onll old new a)

  pub done_more : (calls : List (Call State Op Query Reply)) (ends : List (CallEnd State Op Query Reply)) (onll : OnllView State)
      (old new : PassView State Device) → HasCalled b means first (seat_of onll old) → Acts b means onll calls ends old new
      → HasCalled b means first (seat_of onll new)
  done_more calls ends onll old new h a =
      record { calls = h.calls ++ calls; ends = h.ends ++ ends; did = acted_at calls ends onll old new a h.calls h.ends h.did }

  -- a seat at which nothing was done
  pub did_none : (onll : OnllView State) (pass : PassView State Device) → first ≡ Some (seat_of onll pass)
      → IsUnused b means onll pass → Did b means first [] [] (seat_of onll pass)
  did_none onll pass e u = record { began = seat_of onll pass; began_is = e; same = refl; acted = u }

  pub done_none : (onll : OnllView State) (pass : PassView State Device) → first ≡ Some (seat_of onll pass)
      → IsUnused b means onll pass → HasCalled b means first (seat_of onll pass)
  done_none onll pass e u = record { calls = []; ends = []; did = did_none onll pass e u }

  -- what a work did at the seat, as what was done on the pass
  pub was_done : {Answer : Type 0} (promise : List (Call State Op Query Reply) → List (CallEnd State Op Query Reply) → Answer → Type 0)
      (onll : OnllView State) (pass : PassView State Device) (now : SeatView State Device) (answer : Answer)
      → first ≡ Some (seat_of onll pass) → KeepsPromise b means first promise now answer
      → WasDone b means onll promise pass now.pass answer
  was_done promise onll pass now answer e h =
      let began : h.did.began ≡ seat_of onll pass = some_same h.did.began (seat_of onll pass) (sym h.did.began_is ∙ e) in
      let object : now.onll ≡ onll = h.did.same ∙ ap (λ (s : SeatView State Device). s.onll) began in
      record {
        calls = h.calls;
        ends = h.ends;
        acted = subst (λ (z : OnllView State × PassView State Device). HasActed b means z.0 h.calls h.ends z.1 now.pass)
            (λ i. (object i, (began i).pass)) h.did.acted;
        kept = h.kept;
      }
