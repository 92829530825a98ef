-- Each answered call of a legal history stands in its trace.
use Rattle.std.proofs.Common.{ℕ, ◌+◌, ◌≤◌, Bool, true, false, if◌then◌else◌, List, [], ◌∷◌, ◌++◌, length, drop, sym, subst, arith}
use Rattle.std.specs.List.{AllByRecursion}
use Rattle.onll_words.specs.declared.line.OpRow.{OpRow}
use Rattle.onll_model.specs.Object.{Behaviour}
use Rattle.onll_model.specs.declared.node.Node.{Node}
use Rattle.onll_model.specs.declared.call.Call.{Call}
use Rattle.onll_model.specs.declared.call.CallEnd.{CallEnd}
use Rattle.onll_model.specs.declared.call.Call.TheVariants.{Update, Ask}
use Rattle.onll_model.specs.declared.call.CallEnd.TheVariants.{Answered, Running, Ordered, FenceFailed, Broken}
use Rattle.onll_model.specs.Trace.{is_of_thread}
use Rattle.onll_model.specs.Legal.{placed_updates, placed_rows, EachEnd, HasAnswer, AreLegalThreads}
use Rattle.onll_model.proofs.Lists.{length_dropped}
use Rattle.onll_run.specs.Outcomes.{StandsIn}

abbrev PlacedIn : ℕ → List (OpRow × ℕ) → Type 0
PlacedIn top = AllByRecursion (λ (x : OpRow × ℕ). x.1 ≤ top)

rows_in : (t below top : ℕ) (ns : List Node) → below + length ns ≤ top → PlacedIn top (placed_rows t below ns)
rows_in t below top [] h = tt
rows_in t below top (n ∷ ns) h = by (is_of_thread t n) (rows_in t (below + 1) top ns (omega (arith, h)))
  where
    by : (q : Bool) → PlacedIn top (placed_rows t (below + 1) ns) → PlacedIn top ((if q then (n.row, below + 1) ∷ [] else []) ++ placed_rows t (below + 1) ns)
    by true rest = (omega (arith, h), rest)
    by false rest = rest

module _ {State Op Query Reply : Type 0} (b : Behaviour State Op Query Reply) where
  ends_in : (had : State) (m : ℕ) (trace : List Node) (calls : List (Call State Op Query Reply)) (ends : List (CallEnd State Op Query Reply)) → EachEnd (HasAnswer b had m trace) calls ends → PlacedIn (length trace) (placed_updates b calls ends)
      → AllByRecursion (StandsIn (length trace)) ends
  ends_in had m trace calls [] h p = tt
  ends_in had m trace [] (e ∷ ends) h p = absurd h
  ends_in had m trace (Update op ∷ calls) (Answered reply place ∷ ends) h p = (p.0, ends_in had m trace calls ends h.1 p.1)
  ends_in had m trace (Update op ∷ calls) (Running ∷ ends) h p = (tt, ends_in had m trace calls ends h.1 p)
  ends_in had m trace (Update op ∷ calls) (Ordered place ∷ ends) h p = (tt, ends_in had m trace calls ends h.1 p.1)
  ends_in had m trace (Update op ∷ calls) (FenceFailed place ∷ ends) h p = (tt, ends_in had m trace calls ends h.1 p.1)
  ends_in had m trace (Update op ∷ calls) (Broken place ∷ ends) h p = (tt, ends_in had m trace calls ends h.1 p)
  ends_in had m trace (Ask query ∷ calls) (Answered reply place ∷ ends) h p = (h.0.1, ends_in had m trace calls ends h.1 p)
  ends_in had m trace (Ask query ∷ calls) (Running ∷ ends) h p = (tt, ends_in had m trace calls ends h.1 p)
  ends_in had m trace (Ask query ∷ calls) (Ordered place ∷ ends) h p = (tt, ends_in had m trace calls ends h.1 p)
  ends_in had m trace (Ask query ∷ calls) (FenceFailed place ∷ ends) h p = (tt, ends_in had m trace calls ends h.1 p)
  ends_in had m trace (Ask query ∷ calls) (Broken place ∷ ends) h p = (tt, ends_in had m trace calls ends h.1 p)

  pub all_in : (had : State) (m : ℕ) (trace : List Node) → m ≤ length trace → (u : ℕ) (scripts : List (List (Call State Op Query Reply))) (ends : List (List (CallEnd State Op Query Reply))) → AreLegalThreads b had m trace u scripts ends
      → AllByRecursion (λ (es : List (CallEnd State Op Query Reply)). AllByRecursion (StandsIn (length trace)) es) ends
  all_in had m trace low u [] [] h = tt
  all_in had m trace low u [] (es ∷ ends) h = absurd h
  all_in had m trace low u (calls ∷ scripts) [] h = absurd h
  all_in had m trace low u (calls ∷ scripts) (es ∷ ends) h =
      let long = length_dropped m trace low in (
        ends_in had m trace calls es h.0.answers (subst (PlacedIn (length trace)) (sym h.0.places) (rows_in u m (length trace) (drop m trace) (omega (arith, long)))),
        all_in had m trace low (u + 1) scripts ends h.1,
      )
