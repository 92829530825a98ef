use Rattle.std.proofs.Common.{◌≡◌, ℕ, zero, suc, ◌+◌, ◌-◌, ◌<◌, ◌≤◌, List, [], ◌∷◌, ◌++◌, length, map, Some, sym, refl, ap, ◌∙◌, subst, inl, inr, arith, length-append}
use Rattle.std.specs.List.{slice_get, Contains}
use Rattle.onll_words.specs.declared.line.OpRow.{OpRow}
use Rattle.onll_model.specs.declared.node.Node.{Node}
use Rattle.onll_model.specs.declared.mark.Mark.{Mark}
use Rattle.onll_model.specs.Segment.{Segment, Covers, nodes_between}
use Rattle.onll_model.specs.Marks.{marked}
use Rattle.onll_model.specs.Frames.{IsSoundSegment, fenced_segments, resumed_frame}
use Rattle.onll_model.specs.FrameLaws.{IsResumable}
use Rattle.onll_model.proofs.FirstFrames.{resumed_sound}
use Rattle.onll_model.proofs.Lists.{at_end, at_before, same_some, some_not_none}
use Rattle.onll_trace.specs.Plans.{CanResume, HasRooms}
use Rattle.onll_trace.specs.Rule.{count_of}
use Rattle.onll_trace.specs.Spots.{TraceView, SpotView, AreNewSpots, HasRoom, fresh_spot}
use Rattle.onll_trace.specs.Closing.{AreAll}
use Rattle.tests_base.specs.Orders.{AreBoth, IsResting}

-- The spots of a trace of two threads.

-- the spots of a trace of two threads that have made no step, taken from the end
module _ (b : TraceView) (ps rest none : List SpotView) (first second : SpotView) (zeroth one_more : List Segment) (threads : b.plan.threads ≡ 2) (logs : b.plan.logs ≡ zeroth ∷ one_more ∷ []) (new : AreNewSpots b ps) (last : ps ≡ rest ++ second ∷ []) (before : rest ≡ none ++ first ∷ []) where
  two : length ps ≡ 2
  two = new.count ∙ ap (λ (l : List (List Segment)). length l) logs

  one : length rest ≡ 1
  one = let n = ap length last in let t = two in omega (arith, length-append rest (second ∷ []))

  pub first_is : first ≡ fresh_spot b 0 zeroth
  first_is = let n = ap length before in let o = one in let z : length none ≡ 0 = omega (arith, length-append none (first ∷ [])) in
      let at_rest : slice_get rest 0 ≡ Some first = ap (slice_get rest) (sym z) ∙ (ap (λ (xs : List SpotView). slice_get xs (length none)) before ∙ at_end none first) in
      let low : 0 < length rest = omega arith in
      let at_ps : slice_get ps 0 ≡ Some first = ap (λ (xs : List SpotView). slice_get xs 0) last ∙ (at_before rest (second ∷ []) 0 low ∙ at_rest) in
      same_some first (fresh_spot b 0 zeroth) (sym at_ps ∙ new.each 0 zeroth (ap (λ (l : List (List Segment)). slice_get l 0) logs))

  pub second_is : second ≡ fresh_spot b 1 one_more
  second_is = let at_ps : slice_get ps 1 ≡ Some second = ap (slice_get ps) (sym one) ∙ (ap (λ (xs : List SpotView). slice_get xs (length rest)) last ∙ at_end rest second) in
      same_some second (fresh_spot b 1 one_more) (sym at_ps ∙ new.each 1 one_more (ap (λ (l : List (List Segment)). slice_get l 1) logs))

  ready : (t : ℕ) (ss : List Segment) (p : SpotView) → p ≡ fresh_spot b t ss → IsResting b p
  ready t ss p e = subst (IsResting b) (sym e) record { of = record { table = refl; plan = refl }; rests = refl; free = refl; bare = refl }

  pub new_ready : IsResting b first × IsResting b second
  new_ready = (ready 0 zeroth first first_is, ready 1 one_more second second_is)

  pub new_both : AreBoth b first second
  new_both = record {
    two = threads;
    first = new_ready.0.of;
    second = new_ready.1.of;
    threads = (ap (λ (p : SpotView). p.me.thread) first_is, ap (λ (p : SpotView). p.me.thread) second_is);
  }

  -- a thread has a row left that has one for more nodes than the base has of it
  pub new_room : ((t : ℕ) → t < 2 → count_of t b.plan.base < b.plan.nodes) → HasRoom first × HasRoom second
  new_room more = let low : 0 < 2 = omega arith in let high : 1 < 2 = omega arith in let a = more 0 low in let c = more 1 high in
      (subst HasRoom (sym first_is) (zero_more a), subst HasRoom (sym second_is) (zero_more c))
    where
      zero_more : {m n : ℕ} → m < n → m + 0 < n
      zero_more l = omega arith

pub are_all : (b : TraceView) (first second : SpotView) → AreBoth b first second → AreAll b (second ∷ first ∷ [])
are_all b first second a = record { of = (a.second, (a.first, tt)); count = sym a.two; each = λ t low. found t (let two = a.two in omega arith) }
  where
    found : (t : ℕ) → t < 2 → Contains (map (λ (p : SpotView). p.me.thread) (second ∷ first ∷ [])) t
    found zero low = let at : 1 < 2 = omega arith in (1, at, a.threads.0)
    found (suc zero) low = let at : 0 < 2 = omega arith in (0, at, a.threads.1)
    found (suc (suc t)) low = absurd (omega arith)

-- a trace that goes on from three nodes

module _ (row : OpRow) where
  abbrev pub base : List Node
  base = record { thread = 0; number = 1; row = row } ∷ record { thread = 1; number = 1; row = row } ∷ record { thread = 0; number = 2; row = row } ∷ []

  abbrev pub marks : List Mark
  marks = record { thread = 0; place = 1; count = 1 } ∷ record { thread = 1; place = 2; count = 1 } ∷ record { thread = 0; place = 3; count = 1 } ∷ []

  abbrev logs : List (List Segment)
  logs = marked 2 base marks

  abbrev fenced : List Segment
  fenced = fenced_segments (resumed_frame base logs).threads

  covers : (p : ℕ) → p ≤ 3 → Covers fenced p
  covers p le zero low high = absurd (omega arith)
  covers p le (suc zero) low high = let a : 1 ≤ 1 = omega arith in let b : 1 < 1 + 1 = omega arith in inl (a, b)
  covers p le (suc (suc zero)) low high = let a : 2 ≤ 2 = omega arith in let b : 2 < 2 + 1 = omega arith in inr (inr (inl (a, b)))
  covers p le (suc (suc (suc zero))) low high = let a : 3 ≤ 3 = omega arith in let b : 3 < 3 + 1 = omega arith in inr (inl (a, b))
  covers p le (suc (suc (suc (suc q)))) low high = absurd (omega arith)

  -- a segment of one node
  sound : (p : ℕ) (s : Segment) → p ≤ 3 → 1 ≤ p → s.place ≡ p → length s.nodes ≡ 1 → s.nodes ≡ nodes_between base (s.place - length s.nodes) s.place → IsSoundSegment 2 base fenced s
  sound p s le low at long nodes = record {
    agrees = record { some_nodes = omega arith; from_one = omega arith; in_trace = omega arith; nodes = nodes };
    few = omega arith;
    below = covers (s.place - length s.nodes) (omega arith);
  }

  resumable : IsResumable 2 base logs
  resumable = let a : 0 < 2 = omega arith in let b : 1 < 2 = omega arith in let l1 : 1 ≤ 3 = omega arith in let l2 : 2 ≤ 3 = omega arith in let l3 : 3 ≤ 3 = omega arith in let one : 1 ≤ 1 = omega arith in let two : 1 ≤ 2 = omega arith in let up : 2 ≤ 3 = omega arith in record {
    threads = refl;
    numbered = (refl, (refl, (refl, tt)));
    below = (a, (b, (a, tt)));
    segments = ((sound 1 _ l1 one refl refl refl, (sound 3 _ l3 l1 refl refl refl, tt)), ((sound 2 _ l2 two refl refl refl, tt), tt));
    rising = ((one, (up, tt)), ((two, tt), tt));
    covered = covers 3 l3;
  }

  counts : (t room : ℕ) → slice_get (2 ∷ 2 ∷ []) t ≡ Some room → (count_of t base ≤ 2) × (room ≡ 2)
  counts zero room e = let z : count_of 0 base ≡ 2 = refl in (omega arith, sym (same_some 2 room e))
  counts (suc zero) room e = let z : count_of 1 base ≡ 1 = refl in (omega arith, sym (same_some 2 room e))
  counts (suc (suc t)) room e = some_not_none room (sym e)

  pub can_resume : CanResume base marks (2 ∷ 2 ∷ [])
  can_resume = let a : 0 < 2 = omega arith in let b : 1 < 2 = omega arith in let l : 1 ≤ 2 = omega arith in let few : 2 ≤ 16 = omega arith in record {
    threads = (l, few);
    marks = (a, (b, (a, tt)));
    sound = resumed_sound 2 base logs resumable;
    rooms = λ t room e. let c = counts t room e in let c0 = c.0 in let c1 = c.1 in omega arith;
  }

  -- so many rows as the rooms ask leave each thread one for its next node
  pub rooms_left : (nodes : ℕ) → HasRooms base (2 ∷ 2 ∷ []) nodes → (t : ℕ) → t < 2 → count_of t base < nodes
  rooms_left nodes h zero low = let z = h 0 2 refl in omega arith
  rooms_left nodes h (suc zero) low = let z = h 1 2 refl in omega arith
  rooms_left nodes h (suc (suc t)) low = absurd (omega arith)
