-- How much the calls count that a work made at its seat, one call after the other, and what all works say of theirs.
use Rattle.std.proofs.Common.{ℕ, List, [], ◌∷◌, ◌++◌, ◌≡◌, ◌+◌, length, Option, Result, Ok, Err, refl, sym, ◌∙◌, subst, arith}
use Rattle.onll_model.specs.declared.call.Call.{Call}
use Rattle.onll_model.specs.declared.call.Call.TheVariants.{Update, Ask}
use Rattle.onll_model.specs.declared.call.CallEnd.{CallEnd}
use Rattle.onll_model.specs.declared.call.CallEnd.TheVariants.{Answered, Broken, FenceFailed, Ordered, Running}
use Rattle.onll_model.specs.Object.{Behaviour}
use Rattle.onll_pmem.specs.Pmem.{DeviceView}
use Rattle.onll_shared.specs.declared.calls.UpdateFault.{UpdateFault}
use Rattle.onll_shared.specs.declared.calls.UpdateFault.TheVariants as faults
use Rattle.onll_balance.specs.Measure.{back_by, out_by, tally_of}
use Rattle.onll_threads.specs.Acts.{SeatView, calls_of, ends_of}
use Rattle.onll_threads.specs.Seats.{ActsAt, Did, KeepsPromise}
use Rattle.onll_keeps.specs.Tallies.{HasTallied, SaysBoth, back_of, out_of}

module _ (State Query : Type 0) {Op Reply : Type 0} where
  -- what an update counts is what its reply says that it took out
  pub out_counted : (out : Op → Reply → ℕ) (op : Op) (place : ℕ) (r : Result Reply UpdateFault)
      → tally_of (out_by out) (calls_of {State = State} {Query = Query} op r) (ends_of place r) ≡ out_of out op r
  out_counted out op place (Ok reply) = omega arith
  out_counted out op place (Err faults.NodesFull) = refl
  out_counted out op place (Err (faults.LogFull free)) = refl
  out_counted out op place (Err (faults.FenceFailed failed)) = refl
  out_counted out op place (Err (faults.Broken failed)) = refl

  -- and put in, at most
  pub back_counted : (back : Op → Reply → ℕ) (most : Op → ℕ) (op : Op) (place : ℕ) (r : Result Reply UpdateFault)
      → tally_of (back_by back most) (calls_of {State = State} {Query = Query} op r) (ends_of place r) ≡ back_of back most op r
  back_counted back most op place (Ok reply) = omega arith
  back_counted back most op place (Err faults.NodesFull) = refl
  back_counted back most op place (Err (faults.LogFull free)) = refl
  back_counted back most op place (Err (faults.FenceFailed failed)) = omega arith
  back_counted back most op place (Err (faults.Broken failed)) = refl

module _ {State Op Query Reply : Type 0} where
  -- calls that were made after others count as they do by themselves
  pub tally_on : (count : Call State Op Query Reply → CallEnd State Op Query Reply → ℕ) (calls more : List (Call State Op Query Reply))
      (ends es : List (CallEnd State Op Query Reply)) → length ends ≡ length calls
      → tally_of count (calls ++ more) (ends ++ es) ≡ tally_of count calls ends + tally_of count more es
  tally_on count [] more [] es e = omega arith
  tally_on count [] more (x ∷ ends) es e = absurd (omega (arith, e))
  tally_on count (c ∷ calls) more [] es e = absurd (omega (arith, e))
  tally_on count (c ∷ calls) more (x ∷ ends) es e = let rest = tally_on count calls more ends es (omega (arith, e)) in omega (arith, rest)

  -- calls put nothing in where no operation does
  pub none_back : (calls : List (Call State Op Query Reply)) (ends : List (CallEnd State Op Query Reply))
      → tally_of (back_by (λ op reply. 0) (λ op. 0)) calls ends ≡ 0
  none_back [] ends = refl
  none_back (c ∷ calls) [] = refl
  none_back (Update op ∷ calls) (Answered reply place ∷ ends) = let rest = none_back calls ends in omega (arith, rest)
  none_back (Update op ∷ calls) (Running ∷ ends) = let rest = none_back calls ends in omega (arith, rest)
  none_back (Update op ∷ calls) (Ordered place ∷ ends) = let rest = none_back calls ends in omega (arith, rest)
  none_back (Update op ∷ calls) (FenceFailed place ∷ ends) = let rest = none_back calls ends in omega (arith, rest)
  none_back (Update op ∷ calls) (Broken place ∷ ends) = let rest = none_back calls ends in omega (arith, rest)
  none_back (Ask query ∷ calls) (e ∷ ends) = let rest = none_back calls ends in omega (arith, rest)

module _ {State Op Query Reply Device : Type 0} {b : Behaviour State Op Query Reply} {means : Device → DeviceView}
    {first : Option (SeatView State Device)} where
  -- nothing counts yet
  pub none_tallied : {count : Call State Op Query Reply → CallEnd State Op Query Reply → ℕ} {now : SeatView State Device}
      → Did b means first [] [] now → HasTallied b means first count 0 now
  none_tallied did = record { calls = []; ends = []; did = did; sum_is = refl }

  -- these calls count too
  pub tallied_on : {count : Call State Op Query Reply → CallEnd State Op Query Reply → ℕ} {calls : List (Call State Op Query Reply)}
      {ends : List (CallEnd State Op Query Reply)} {old new : SeatView State Device} {n : ℕ} (m : ℕ)
      → ActsAt b means first calls ends old new → n + tally_of count calls ends ≡ m → HasTallied b means first count n old
      → HasTallied b means first count m new
  tallied_on {count} {calls} {ends} m acts sum h = record {
    calls = h.calls ++ calls;
    ends = h.ends ++ ends;
    did = acts h.calls h.ends h.did;
    sum_is = (let both = tally_on count h.calls calls h.ends ends h.did.acted.many in let before = h.sum_is in
        omega (arith, both, before, sum));
  }

  -- a read takes nothing out
  pub tallied_read : {out : Op → Reply → ℕ} {query : Query} {end : CallEnd State Op Query Reply} {old new : SeatView State Device} {n : ℕ}
      → ActsAt b means first (Ask query ∷ []) (end ∷ []) old new → HasTallied b means first (out_by out) n old
      → HasTallied b means first (out_by out) n new
  tallied_read {n = n} acts h = tallied_on n acts (omega arith) h

  -- an update took out what its reply says
  pub tallied_out : {out : Op → Reply → ℕ} {old new : SeatView State Device} {n : ℕ} (op : Op) (place : ℕ) (r : Result Reply UpdateFault)
      → ActsAt b means first (calls_of op r) (ends_of place r) old new → HasTallied b means first (out_by out) n old
      → HasTallied b means first (out_by out) (n + out_of out op r) new
  tallied_out {out} {n = n} op place r acts h =
      let e = out_counted State Query out op place r in tallied_on (n + out_of out op r) acts (omega (arith, e)) h

  -- and put in what its reply says, or at most what it may
  pub tallied_back : {back : Op → Reply → ℕ} {most : Op → ℕ} {old new : SeatView State Device} {n : ℕ} (op : Op) (place : ℕ)
      (r : Result Reply UpdateFault) → ActsAt b means first (calls_of op r) (ends_of place r) old new
      → HasTallied b means first (back_by back most) n old → HasTallied b means first (back_by back most) (n + back_of back most op r) new
  tallied_back {back} {most} {n = n} op place r acts h =
      let e = back_counted State Query back most op place r in
      tallied_on (n + back_of back most op r) acts (omega (arith, e)) h

  -- what was tallied is what is promised
  pub says_tally : {count : Call State Op Query Reply → CallEnd State Op Query Reply → ℕ} {Answer : Type 0} (said : Answer → ℕ)
      {now : SeatView State Device} {n : ℕ} (answer : Answer) → n ≡ said answer → HasTallied b means first count n now
      → KeepsPromise b means first (λ calls ends a. tally_of count calls ends ≡ said a) now answer
  says_tally said answer e h = record { calls = h.calls; ends = h.ends; did = h.did; kept = h.sum_is ∙ e }

-- What an answer says of two tallies that a work keeps beside each other: what its calls took out, and what they put in.
module _ {State Op Query Reply Device : Type 0} {b : Behaviour State Op Query Reply} {means : Device → DeviceView}
    {first : Option (SeatView State Device)} {Answer : Type 0} (out back : Op → Reply → ℕ) (most : Op → ℕ) (outs backs : Answer → ℕ) where
  -- these calls count too
  both_on : {calls : List (Call State Op Query Reply)} {ends : List (CallEnd State Op Query Reply)} {old new : SeatView State Device}
      (answer next : Answer) → ActsAt b means first calls ends old new → outs answer + tally_of (out_by out) calls ends ≡ outs next
      → backs answer + tally_of (back_by back most) calls ends ≡ backs next
      → KeepsPromise b means first (SaysBoth out back most outs backs) old answer
      → KeepsPromise b means first (SaysBoth out back most outs backs) new next
  both_on {calls} {ends} answer next acts taken put h = record {
    calls = h.calls ++ calls;
    ends = h.ends ++ ends;
    did = acts h.calls h.ends h.did;
    kept = (let many = h.did.acted.many in
        let out_sum = tally_on (out_by out) h.calls calls h.ends ends many in
        let back_sum = tally_on (back_by back most) h.calls calls h.ends ends many in
        let said = h.kept.0 in
        let returned = h.kept.1 in
        (omega (arith, out_sum, said, taken), omega (arith, back_sum, returned, put)));
  }

  -- an update counts what its reply says, or at most what it may have put in
  pub both_updated : {old new : SeatView State Device} {answer next : Answer} (op : Op) (place : ℕ) (r : Result Reply UpdateFault)
      → ActsAt b means first (calls_of op r) (ends_of place r) old new → outs next ≡ outs answer + out_of out op r
      → backs next ≡ backs answer + back_of back most op r
      → KeepsPromise b means first (SaysBoth out back most outs backs) old answer
      → KeepsPromise b means first (SaysBoth out back most outs backs) new next
  both_updated {answer = answer} {next = next} op place r acts taken put h =
      let out_sum = out_counted State Query out op place r in
      let back_sum = back_counted State Query back most op place r in
      both_on answer next acts (omega (arith, out_sum, taken)) (omega (arith, back_sum, put)) h

  -- a read takes nothing out and puts nothing in
  pub both_read : {query : Query} {end : CallEnd State Op Query Reply} {old new : SeatView State Device} {answer : Answer}
      → ActsAt b means first (Ask query ∷ []) (end ∷ []) old new
      → KeepsPromise b means first (SaysBoth out back most outs backs) old answer
      → KeepsPromise b means first (SaysBoth out back most outs backs) new answer
  both_read {answer = answer} acts h = both_on answer answer acts (omega arith) (omega arith) h

  -- nothing counts yet
  pub none_both : {now : SeatView State Device} {answer : Answer} → outs answer ≡ 0 → backs answer ≡ 0 → Did b means first [] [] now
      → KeepsPromise b means first (SaysBoth out back most outs backs) now answer
  none_both taken put did = record { calls = []; ends = []; did = did; kept = (sym taken, sym put) }

  -- an answer that says the same
  pub both_again : {now : SeatView State Device} (answer : Answer) {next : Answer} → outs answer ≡ outs next → backs answer ≡ backs next
      → KeepsPromise b means first (SaysBoth out back most outs backs) now answer
      → KeepsPromise b means first (SaysBoth out back most outs backs) now next
  both_again answer taken put h =
      record { calls = h.calls; ends = h.ends; did = h.did; kept = (h.kept.0 ∙ taken, h.kept.1 ∙ put) }

-- what was done at a seat, where a loop or a branch gives it another name
module _ {State Op Query Reply Device Answer : Type 0} {b : Behaviour State Op Query Reply} {means : Device → DeviceView}
    {first : Option (SeatView State Device)}
    {promise : List (Call State Op Query Reply) → List (CallEnd State Op Query Reply) → Answer → Type 0} where
  pub at_seat : {now new : SeatView State Device} {answer : Answer} → now ≡ new → KeepsPromise b means first promise new answer
      → KeepsPromise b means first promise now answer
  at_seat {answer = answer} e h = subst (λ (s : SeatView State Device). KeepsPromise b means first promise s answer) (sym e) h
