use Rattle.std.proofs.Common.{◌≡◌, ◌≢◌, ℕ, ◌+◌, ◌-◌, ◌<◌, ◌≤◌, ◌==◌, Bool, true, false, List, [], ◌∷◌, ◌++◌, length, sym, refl, ap, ◌∙◌, subst, arith, eq-eqb, ne_eqb, length-append}
use Rattle.std.specs.Prelude.{if◌then◌else◌}
use mathlib.Core.Logic.{dite, ◌↔◌}
use mathlib.Core.List.{IsPrefix}
use native.Mathlib.Decide.{ℕ_discrete}
use Rattle.onll_words.specs.declared.line.OpRow.{OpRow}
use Rattle.onll_model.specs.declared.node.Node.{Node}
use Rattle.onll_model.specs.Frames.{Thread, Activity, Loaded, Walk, Logging, Fenced, Asking}
use Rattle.onll_model.specs.Events.{doing, resting_at, logging, linking, asking, at_set_flag, at_unset_flag, after_fence, LoadsNext, MayLoad}
use Rattle.onll_trace.specs.declared.trace.Post.{Post}
use Rattle.onll_trace.specs.Plans.{Plan}
use Rattle.onll_trace.specs.Rule.{name_at, count_of}
use Rattle.onll_trace.specs.Hands.{after_look, after_flag, after_settle, after_set_flag, with_draft, tail_loaded, own_node, flag_set, failed_first}
use Rattle.onll_trace.specs.Spots.{TraceView, SpotView, IsOf, MayDraft, MayLook, MayAsk, HasRoom, HasMet, HasMetAbove, HasLooked, HasLostLink, IsLawful, base_of, activity_of, becoming, linked, learnt, NoteView, HasLearnt}
use Rattle.onll_trace.proofs.Lists.{name_prefix}
use Rattle.tests_base.specs.Orders.{IsResting, HasFront, IsWalking, IsLogging}

-- From the contracts of a trace to what a caller keeps.

pub may_draft : (t : TraceView) (p : SpotView) → IsResting t p → HasRoom p → MayDraft p
may_draft t p r room = record { rests = r.rests; free = r.free; room = room }

-- a trace that began anew has a row left for a thread that has ordered fewer nodes
pub has_room : (t : TraceView) (p : SpotView) (times : ℕ) → IsResting t p → times ≤ t.plan.nodes → t.plan.base ≡ [] → length p.me.own < times → HasRoom p
has_room t p times r most anew few = let base : p.plan.base ≡ [] = ap (λ (k : Plan). k.base) r.of.plan ∙ anew in let nodes = ap (λ (k : Plan). k.nodes) r.of.plan in
    subst (λ (xs : List Node). count_of p.me.thread xs + length p.me.own < p.plan.nodes) (sym base) (omega arith)

-- with a drafted row the look is an update's
loaded_by : (b : ℕ) (draft : List ℕ) (th : Thread) (l : ℕ) → length draft ≡ 7 → tail_loaded b draft th l ≡ doing th (Loaded l)
loaded_by b [] th l e = absurd (omega arith)
loaded_by b (w ∷ ws) th l e = refl

pub may_look : (t : TraceView) (p d : SpotView) (row : OpRow) → length row.w ≡ 7 → IsResting t p → d ≡ becoming p p.known (with_draft p.me row.w) → MayLook d.me.draft d.me.part
may_look t p d row seven r is = subst (λ (z : SpotView). MayLook z.me.draft z.me.part) (sym is) (by_draft row.w seven)
  where
    by_draft : (ws : List ℕ) → length ws ≡ 7 → MayLook ws p.me.part
    by_draft [] e = absurd (omega arith)
    by_draft (w ∷ ws) e = (r.free, subst MayLoad (sym r.rests) tt)

pub front_found : (t : TraceView) (p d q : SpotView) (row : OpRow) (front : Post) → length row.w ≡ 7 → IsResting t p → d ≡ becoming p p.known (with_draft p.me row.w) → HasLooked d front.name front.place q
    → ((front.name ≡ 0) ↔ (front.place ≡ base_of q)) → IsLawful q → IsOf t q → HasFront t q front
front_found t p d q row front seven r is h alone lawful of =
    let place : ℕ = front.place in
    let all : q ≡ becoming p q.known (after_look (base_of p) (with_draft p.me row.w) (length q.known)) = h.becomes ∙ ap (λ (z : SpotView). becoming z q.known (after_look (base_of z) z.me (length q.known))) is in
    let same : base_of q ≡ base_of p = ap base_of all in
    let same_d : base_of d ≡ base_of p = ap base_of is in
    let part : q.me.part ≡ doing p.me.part (Loaded place) = ap (λ (z : SpotView). z.me.part) all ∙ (loaded_by (base_of p) row.w p.me.part (length q.known) seven ∙ ap (λ (l : ℕ). doing p.me.part (Loaded l)) (sym h.place_is)) in record {
      of = of;
      free = ap (λ (th : Thread). th.stuck) part ∙ r.free;
      drafted = ap (λ (z : SpotView). length z.me.draft) all ∙ seven;
      loaded = ap (λ (th : Thread). th.activity) part;
      front_is = h.name_is ∙ ap (λ (m : ℕ). name_at m q.known place) (same_d ∙ sym same);
      base_alone = alone;
      lawful = lawful;
    }

-- the exchange

link_free : (c : Bool) (b : ℕ) (th : Thread) (xs : List Node) (l : ℕ) → (if c then logging th xs b (l + 1) else doing th (Walk (l + 1) l)).stuck ≡ th.stuck
link_free true b th xs l = refl
link_free false b th xs l = refl

pub link_done : (t : TraceView) (q u : SpotView) (front : Post) → HasFront t q front → IsOf t u → u ≡ linked q → IsWalking t u.me.thread u front
link_done t q u front k of is =
    let place : ℕ = front.place in
    let l : ℕ = length q.known in
    let pl : place ≡ l = loaded_length k in
    let x : Node = own_node q.me q.known in
    let known : u.known ≡ q.known ++ x ∷ [] = ap (λ (z : SpotView). z.known) is in
    let same : base_of u ≡ base_of q = ap base_of is in
    let b : ℕ = base_of q in
    let th : Thread = q.me.part in
    let xs : List Node = q.known ++ x ∷ [] in
    let part : u.me.part ≡ linking b th xs l = ap (λ (z : SpotView). z.me.part) is in
    let long = k.lawful.told.long in let len : length u.known ≡ l + 1 = ap length known ∙ (length-append q.known (x ∷ []) ∙ omega arith) in record {
      of = of;
      thread = refl;
      free = ap (λ (w : Thread). w.stuck) part ∙ (link_free (l == b) b th xs l ∙ k.free);
      bare = ap (λ (z : SpotView). z.me.draft) is;
      met = ((omega arith), (omega arith), k.front_is ∙ (sym (name_prefix b q.known xs place (x ∷ [], refl) (omega arith)) ∙ (λ i. name_at (sym same i) (sym known i) place)));
      base_alone = ((λ e. k.base_alone.0 e ∙ sym same), (λ e. k.base_alone.1 (e ∙ same)));
      on = λ some. (place + 1, ap (λ (w : Thread). w.activity) (part ∙ ap (λ (c : Bool). if c then logging th xs b (l + 1) else doing th (Walk (l + 1) l)) (ne_eqb l b (λ e. some (k.base_alone.1 (pl ∙ e))))) ∙ ap (λ (n : ℕ). Walk (n + 1) n) (sym pl));
      over = λ none. (l + 1, l + 1 - b, ap (λ (w : Thread). w.activity) (part ∙ ap (λ (c : Bool). if c then logging th xs b (l + 1) else doing th (Walk (l + 1) l)) (eq-eqb l b (sym pl ∙ k.base_alone.0 none))));
    }
  where
    loaded_length : HasFront t q front → front.place ≡ length q.known
    loaded_length k = let so = subst (λ (a : Activity). Rattle.onll_trace.specs.Stands.LooksSo (base_of q) q.known q.me.look a) k.loaded k.lawful.look in sym so.1

pub link_moved : (t : TraceView) (q u : SpotView) (front : Post) → HasFront t q front → IsOf t u → HasLostLink q u → IsResting t u
link_moved t q u front k of m = record {
  of = of;
  rests = ap activity_of m.becomes;
  free = ap (λ (z : SpotView). z.me.part.stuck) m.becomes ∙ k.free;
  bare = ap (λ (z : SpotView). z.me.draft) m.becomes;
}

pub same_thread : (q u : SpotView) → HasLostLink q u → u.me.thread ≡ q.me.thread
same_thread q u m = ap (λ (z : SpotView). z.me.thread) m.becomes

-- the walk

pub walk_above : (t : TraceView) (n : ℕ) (q : SpotView) (post : Post) → IsWalking t n q post → post.name ≢ 0 → HasMetAbove q post.name post.place
walk_above t n q post r not = let a = r.met.0 in (dite (ℕ_discrete post.place (base_of q)) (λ e. absurd (not (r.base_alone.1 e))) (λ n. omega arith), r.met.1, r.met.2)

pub walk_next : (t : TraceView) (n : ℕ) (q : SpotView) (post : Post) → IsWalking t n q post → post.name ≢ 0 → LoadsNext (λ d. d ≡ post.place) (activity_of q)
walk_next t n q post r not = subst (LoadsNext (λ d. d ≡ post.place)) (sym (r.on not).1) refl

module _ (t : TraceView) (n : ℕ) (q u : SpotView) (post : Post) (r : IsWalking t n q post) (not : post.name ≢ 0) where
  abbrev top : ℕ
  top = (r.on not).0

  pub walk_ends : IsOf t u → u ≡ becoming q q.known (after_flag (base_of q) q.known q.me true) → IsLogging t n u
  walk_ends of is = let part : u.me.part ≡ logging q.me.part q.known post.place top = ap (λ (z : SpotView). z.me.part) is ∙ ap (at_set_flag q.me.part q.known) (r.on not).1 in record {
    of = of;
    thread = ap (λ (z : SpotView). z.me.thread) is ∙ r.thread;
    free = ap (λ (w : Thread). w.stuck) part ∙ r.free;
    bare = ap (λ (z : SpotView). z.me.draft) is ∙ r.bare;
    logs = (top, top - post.place, ap (λ (w : Thread). w.activity) part);
  }

  abbrev step : Bool → Thread
  step c = if c then logging q.me.part q.known (base_of q) top else doing q.me.part (Walk top (post.place - 1))

  same_stuck : (c : Bool) → (step c).stuck ≡ q.me.part.stuck
  same_stuck true = refl
  same_stuck false = refl

  pub walk_on : (next : Post) → IsOf t u → u ≡ becoming q q.known (after_flag (base_of q) q.known q.me false) → next.place ≡ post.place - 1 → HasMet u next.name next.place → ((next.name ≡ 0) ↔ (next.place ≡ base_of u)) → IsWalking t n u next
  walk_on next of is one met alone =
      let up = walk_above t n q post r not in let low = up.0 in
      let same : base_of u ≡ base_of q = ap base_of is in
      let part : u.me.part ≡ step (post.place == base_of q + 1) = ap (λ (z : SpotView). z.me.part) is ∙ ap (at_unset_flag (base_of q) q.me.part q.known) (r.on not).1 in record {
        of = of;
        thread = ap (λ (z : SpotView). z.me.thread) is ∙ r.thread;
        free = ap (λ (w : Thread). w.stuck) part ∙ (same_stuck (post.place == base_of q + 1) ∙ r.free);
        bare = ap (λ (z : SpotView). z.me.draft) is ∙ r.bare;
        met = met;
        base_alone = alone;
        on = λ some. (top, ap (λ (w : Thread). w.activity) (part ∙ ap step (ne_eqb post.place (base_of q + 1) (λ e. some (alone.1 (let z = same in omega arith))))) ∙ ap (Walk top) (sym one));
        over = λ none. let e = alone.0 none in let z = same in (top, top - base_of q, ap (λ (w : Thread). w.activity) (part ∙ ap step (eq-eqb post.place (base_of q + 1) (omega arith))));
      }

-- the end of an update

pub may_settle : (t : TraceView) (n : ℕ) (w : SpotView) → IsLogging t n w → (p : ℕ) × (n : ℕ) × (activity_of w ≡ Logging p n)
may_settle t n w h = h.logs

settled_part : (t : TraceView) (n : ℕ) (w z : SpotView) (h : IsLogging t n w) → z ≡ becoming w w.known (after_settle w.me) → z.me.part ≡ after_fence w.me.part (Logging h.logs.0 h.logs.1)
settled_part t n w z h is = ap (λ (v : SpotView). v.me.part) is ∙ ap (after_fence w.me.part) h.logs.2

pub may_set : (t : TraceView) (n : ℕ) (w z : SpotView) → IsLogging t n w → z ≡ becoming w w.known (after_settle w.me) → (p : ℕ) × (n : ℕ) × (activity_of z ≡ Fenced p n)
may_set t n w z h is = (h.logs.0, h.logs.1, ap (λ (th : Thread). th.activity) (settled_part t n w z h is))

pub finished : (t : TraceView) (n : ℕ) (w z r : SpotView) → IsLogging t n w → z ≡ becoming w w.known (after_settle w.me) → r ≡ becoming z z.known (after_set_flag z.me) → IsOf t r → IsResting t r
finished t n w z r h settled set of =
    let fence = settled_part t n w z h settled in
    let part : r.me.part ≡ resting_at z.me.part h.logs.0 = ap (λ (v : SpotView). v.me.part) set ∙ ap (flag_set z.me.part) (ap (λ (th : Thread). th.activity) fence) in record {
      of = of;
      rests = ap (λ (th : Thread). th.activity) part;
      free = ap (λ (th : Thread). th.stuck) part ∙ (ap (λ (th : Thread). th.stuck) fence ∙ h.free);
      bare = ap (λ (v : SpotView). v.me.draft) set ∙ (ap (λ (v : SpotView). v.me.draft) settled ∙ h.bare);
    }

-- what a note tells

pub may_learn : (t : TraceView) (p : SpotView) → IsResting t p → MayAsk (activity_of p)
may_learn t p r = subst MayAsk (sym r.rests) tt

pub learnt_ready : (t : TraceView) (p : SpotView) (m : NoteView) (q : SpotView) → IsResting t p → IsOf t q → q ≡ learnt p m → IsResting t q
learnt_ready t p m q r of is = record {
  of = of;
  rests = ap activity_of is;
  free = ap (λ (z : SpotView). z.me.part.stuck) is ∙ (ap (λ (a : Activity). (Rattle.onll_model.specs.Events.after_fail p.me.part a).stuck) r.rests ∙ r.free);
  bare = ap (λ (z : SpotView). z.me.draft) is ∙ r.bare;
}

pub learnt_all : (p q : SpotView) (m : NoteView) (known : List Node) (seen : ℕ) → HasLearnt p m q → (m.known ≡ known) × (m.place ≡ seen) → IsPrefix known q.known × (seen ≤ q.me.part.seen)
learnt_all p q m known seen h e = let s = h.seen in let e1 = e.1 in (subst (λ (xs : List Node). IsPrefix xs q.known) e.0 h.told, omega arith)

-- a read's first load

pub may_ask : (t : TraceView) (p : SpotView) → IsResting t p → MayLook p.me.draft p.me.part
may_ask t p r = subst (λ (ws : List ℕ). MayLook ws p.me.part) (sym r.bare) (subst MayAsk (sym r.rests) tt)

asked : (t : TraceView) (p q : SpotView) (name place : ℕ) → IsResting t p → HasLooked p name place q → q.me.part ≡ asking (base_of p) (failed_first p.me.part) place
asked t p q name place r h = ap (λ (z : SpotView). z.me.part) h.becomes ∙ (ap (λ (ws : List ℕ). tail_loaded (base_of p) ws p.me.part (length q.known)) r.bare ∙ ap (asking (base_of p) (failed_first p.me.part)) (sym h.place_is))

pub asks_above : (p q : SpotView) (name place : ℕ) → HasLooked p name place q → ((name ≡ 0) ↔ (place ≡ base_of q)) → IsLawful q → name ≢ 0 → HasMetAbove q name place
asks_above p q name place h alone lawful not = let long = lawful.told.long in let pl = h.place_is in let same : base_of q ≡ base_of p = ap base_of h.becomes in
    (dite (ℕ_discrete place (base_of q)) (λ e. absurd (not (alone.1 e))) (λ n. omega arith), omega arith, h.name_is ∙ ap (λ (m : ℕ). name_at m q.known place) (sym same))

pub asks_next : (t : TraceView) (p q : SpotView) (name place : ℕ) → IsResting t p → HasLooked p name place q → ((name ≡ 0) ↔ (place ≡ base_of q)) → name ≢ 0 → LoadsNext (λ d. d ≡ place) (activity_of q)
asks_next t p q name place r h alone not = let same : base_of q ≡ base_of p = ap base_of h.becomes in let th : Thread = failed_first p.me.part in
    subst (λ (w : Thread). LoadsNext (λ d. d ≡ place) w.activity) (sym (asked t p q name place r h ∙ ap (λ (c : Bool). if c then resting_at th (base_of p) else doing th (Asking place place)) (ne_eqb place (base_of p) (λ e. not (alone.1 (e ∙ sym same)))))) refl
