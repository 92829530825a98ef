use Rattle.std.proofs.Common.{◌≡◌, ℕ, zero, suc, ◌<◌, ◌≤◌, inl, inr, ⊎_elim, Bool, true, false, List, [], ◌∷◌, ◌++◌, length, map, take, Option, Some, None, Ok, option_to_list, refl, sym, ap, ◌∙◌, subst, arith, append-nil}
use Rattle.std.specs.List.{AllByRecursion, slice_get}
use Rattle.std.proofs.lemmas.List.{length-map}
use Rattle.onll_model.specs.declared.node.Node.{Node}
use Rattle.onll_model.specs.Object.{Behaviour}
use Rattle.onll_model.specs.Segment.{Segment, Agrees, LiesIn}
use Rattle.onll_model.specs.Frames.{Thread, Frame, Rest, Logging, IsLast, is_available, open_at, open_place}
use Rattle.onll_model.proofs.Lists.{same_some, some_not_none, inside, all_at, all_right, take_all}
use Rattle.onll_model.proofs.Traces.{node_present}
use Rattle.onll_model.proofs.FrameParts.{unflagged_last}
use Rattle.onll_model.proofs.Segments.{lies_left, lies_right}
use Rattle.onll_pmem.specs.Device.{Mixed, zero_lines}
use Rattle.onll_pmem.specs.Pmem.{DeviceView, Told}
use Rattle.onll_pmem.proofs.Mixes.{Mixed-same, FillsLines-self}
use Rattle.onll_log.specs.Encoding.{FitEntries, entry_lines}
use Rattle.onll_log.specs.Grammar.{Content}
use Rattle.onll_log.specs.Log.{free_of}
use Rattle.onll_log.specs.Torn.{log_image}
use Rattle.onll_log.proofs.Torn.{log_image-more}
use Rattle.onll_merge.specs.Merge.{top_of}
use Rattle.onll_merge.specs.Laws.{all_segments}
use Rattle.onll_merge.proofs.Fronts.{top_of-lies}
use Rattle.onll_trace.specs.declared.trace.Ended.{Ended}
use Rattle.onll_trace.specs.Spots.{IsLawful}
use Rattle.onll_trace.specs.Closing.{AreAll, HasEnded}
use Rattle.onll_shared.specs.Passes.{OnllView, PassView, IsTied, IsBetween, spot_of}
use Rattle.onll_shared.specs.Crash.{HasLog, IsLeft}
use Rattle.onll_shared.specs.Ends.{HasClosed, broken_of, content_in}
use Rattle.onll_shared.proofs.Parts.{pending_of}
use Rattle.onll_shared.proofs.Chosen.{AreChosen, get_map, map_get, index_of, contained, all_get, shown_at, pass_of, available_held, merged_front, within_trace}

-- A shared object at its end, by the ties of its passes.

-- between calls a thread's place place is where its pass is broken
open_of : (broken : Option ℕ) (th : Thread) → IsBetween broken th → open_place th ≡ broken
open_of None th h = λ i. open_at (h.1 i) (h.0 i)
open_of (Some p) th h = ⊎_elim
    (λ (k : (n : ℕ) × (th.activity ≡ Logging p n) × (th.stuck ≡ None)). (λ i. open_at (k.2 i) (k.1 i)))
    (λ (k : (th.activity ≡ Rest) × (th.stuck ≡ Some p)). (λ i. open_at (k.1 i) (k.0 i)))
    h

module _ {State Op Query Reply Device : Type 0} (b : Behaviour State Op Query Reply) (means : Device → DeviceView) (onll : OnllView State) where
  -- the log of a pass between its calls
  pub log_of_tied : (pass : PassView State Device) → IsTied b means onll pass → HasLog pass
  log_of_tied pass t = record { fits = t.holds.fits; format = t.format; fit = subst (FitEntries pass.log.head.threads) t.entries t.holds.fit }

  -- and what its device may leave
  pub left_of_tied : (pass : PassView State Device) (told : Told) (image : List (List ℕ)) → IsTied b means onll pass → (means pass.log.device).told ≡ Some told → Mixed told.fenced (means pass.log.device).read image → IsLeft pass.log.head pass.spot.me.part image
  left_of_tied pass told image t e m = by_pending pass.spot.me.part.pending refl
    where
      durable : told.fenced ≡ log_image pass.log.head pass.spot.me.part.fenced (free_of (length (means pass.log.device).read) pass.spot.me.part.fenced)
      durable = t.fenced told e

      read_is : (o : Option Segment) → pass.spot.me.part.pending ≡ o → (means pass.log.device).read ≡ log_image pass.log.head (pass.spot.me.part.fenced ++ option_to_list o) (free_of (length (means pass.log.device).read) (pass.spot.me.part.fenced ++ option_to_list o))
      read_is o is = t.holds.read ∙ ap (λ (ss : List Segment). log_image pass.log.head ss (free_of (length (means pass.log.device).read) ss)) (t.entries ∙ ap (λ (z : Option Segment). pass.spot.me.part.fenced ++ option_to_list z) is)

      by_pending : (o : Option Segment) → pass.spot.me.part.pending ≡ o → IsLeft pass.log.head pass.spot.me.part image
      by_pending None is =
          let same : (means pass.log.device).read ≡ told.fenced = read_is None is ∙ (ap (λ (ss : List Segment). log_image pass.log.head ss (free_of (length (means pass.log.device).read) ss)) (append-nil pass.spot.me.part.fenced) ∙ sym durable) in
          inl (record {
            zeros = free_of (length (means pass.log.device).read) pass.spot.me.part.fenced;
            image_is = Mixed-same told.fenced image (subst (λ (l : List (List ℕ)). Mixed told.fenced l image) same m) ∙ durable;
          })
      by_pending (Some s) is =
          let n : ℕ = free_of (length (means pass.log.device).read) (pass.spot.me.part.fenced ++ s ∷ []) in
          let whole : List (List ℕ) = entry_lines pass.log.head (length pass.spot.me.part.fenced) s ++ zero_lines n in
          inr (record {
            segment = s;
            pending = is;
            before = free_of (length (means pass.log.device).read) pass.spot.me.part.fenced;
            after = n;
            written = whole;
            among = FillsLines-self whole;
            mixed = subst (λ (z : List (List ℕ) × List (List ℕ)). Mixed z.0 z.1 image) (λ i. (durable i, (read_is (Some s) is ∙ log_image-more pass.log.head pass.spot.me.part.fenced s n) i)) m;
          })

  all_logs : (passes : List (PassView State Device)) → AllByRecursion (IsTied b means onll) passes → AllByRecursion HasLog passes
  all_logs [] a = tt
  all_logs (p ∷ ps) a = (log_of_tied p a.0, all_logs ps a.1)

  all_lawful : (passes : List (PassView State Device)) → AllByRecursion (IsTied b means onll) passes → AllByRecursion IsLawful (map spot_of passes)
  all_lawful [] a = tt
  all_lawful (p ∷ ps) a = (a.0.lawful, all_lawful ps a.1)

  -- the logs as read
  all_read : (passes : List (PassView State Device)) → AllByRecursion (IsTied b means onll) passes → AreChosen passes (map content_in passes)
  all_read [] a = tt
  all_read (p ∷ ps) a = ((refl, inr a.0.entries), all_read ps a.1)

  lies_read : (passes : List (PassView State Device)) (i : ℕ) (p : PassView State Device) → slice_get passes i ≡ Some p → (q : ℕ) → LiesIn q p.log.entries → LiesIn q (all_segments (map content_in passes))
  lies_read [] i p e q l = some_not_none p (sym e)
  lies_read (x ∷ ps) zero p e q l = lies_left q x.log.entries (all_segments (map content_in ps)) (subst (λ (v : PassView State Device). LiesIn q v.log.entries) (sym (same_some x p e)) l)
  lies_read (x ∷ ps) (suc i) p e q l = lies_right q x.log.entries (all_segments (map content_in ps)) (lies_read ps i p e q l)

  module _ (passes : List (PassView State Device)) (trace : List Ended) (ended : HasEnded onll.trace (map spot_of passes) trace) (all : AreAll onll.trace (map spot_of passes)) (tied : AllByRecursion (IsTied b means onll) passes) where
    abbrev f : Frame
    f = ended.frame

    abbrev logs : List Content
    logs = map content_in passes

    -- a node's flag is unset where its thread's pass is broken
    broken_at : (p : ℕ) → 1 ≤ p → p ≤ length f.trace → is_available f.flags p ≡ false → (i : ℕ) × (v : PassView State Device) × (slice_get passes i ≡ Some v) × (v.broken ≡ Some p)
    broken_at zero low high unset = absurd (omega arith)
    broken_at (suc q) low high unset =
        let x = node_present f.trace (suc q) low high in
        let t = all_at (λ (n : Node). n.thread < onll.trace.plan.threads) f.trace ended.sound.sound.below q x.0 x.1 in
        let v = pass_of f onll.trace passes ended.sound.sound all ended.spots x.0.thread t in
        let here = shown_at f passes ended.spots v.0 v.1 v.2 in
        let last = unflagged_last onll.trace.plan.threads f ended.sound.sound (suc q) x.0 x.1 unset in
        let mine : IsLast f.trace v.1.spot.me.thread (suc q) = subst (λ (u : ℕ). IsLast f.trace u (suc q)) (sym v.3) last in
        let place = (ended.sound.sound.latest v.1.spot.me.thread v.1.spot.me.part here.part (suc q) mine).0 unset in
        let tie = all_get (IsTied b means onll) passes tied v.0 v.1 v.2 in
        (v.0, v.1, v.2, sym (open_of v.1.broken v.1.spot.me.part tie.between) ∙ place)

    -- and it is unset there
    unset_at : (p i : ℕ) (v : PassView State Device) → slice_get passes i ≡ Some v → v.broken ≡ Some p → is_available f.flags p ≡ false
    unset_at p i v e is =
        let here = shown_at f passes ended.spots i v e in
        let tie = all_get (IsTied b means onll) passes tied i v e in
        let place = open_of v.broken v.spot.me.part tie.between ∙ is in
        let last = ended.sound.sound.opened v.spot.me.thread v.spot.me.part here.part p place in
        (ended.sound.sound.latest v.spot.me.thread v.spot.me.part here.part p last).1 place

    -- every place is in a log as read
    place_read : (p : ℕ) → 1 ≤ p → p ≤ length f.trace → (q : Bool) → is_available f.flags p ≡ q → p ≤ top_of logs
    place_read p low high true set = available_held f onll.trace passes ended.sound.sound all ended.spots logs (all_read passes tied) p set
    place_read p low high false unset =
        let v = broken_at p low high unset in
        let tie = all_get (IsTied b means onll) passes tied v.0 v.1 v.2 in
        let part : Thread = v.1.spot.me.part in
        let s = pending_of p part (subst (λ (k : Option ℕ). IsBetween k part) v.3 tie.between) tie.lawful.told.part.pending in
        let agree = all_right (Agrees v.1.spot.known) part.fenced (s.0 ∷ []) (subst (λ (o : Option Segment). AllByRecursion (Agrees v.1.spot.known) (part.fenced ++ option_to_list o)) s.1 tie.lawful.told.part.agree) in
        let some = agree.0.some_nodes in let at = s.2 in
        let within : LiesIn p (s.0 ∷ []) = inl (omega arith, omega arith) in
        let whole : LiesIn p (part.fenced ++ option_to_list (Some s.0)) = lies_right p part.fenced (s.0 ∷ []) within in
        let mine : LiesIn p v.1.log.entries = subst (LiesIn p) (sym (tie.entries ∙ ap (λ (o : Option Segment). part.fenced ++ option_to_list o) s.1)) whole in
        top_of-lies logs p (lies_read passes v.0 v.1 v.2 p mine)

    all_places : (n : ℕ) → n ≡ length f.trace → n ≤ top_of logs
    all_places zero e = omega arith
    all_places (suc n) e = place_read (suc n) (omega arith) (omega arith) (is_available f.flags (suc n)) refl

    pub closed : HasClosed onll.trace passes trace
    closed = record {
      ended = ended;
      flags = λ p low high. (
        (λ unset. let v = broken_at p low high unset in
            let n = inside passes v.0 v.1 v.2 in
            let here : slice_get (map broken_of passes) v.0 ≡ Some (Some p) = get_map broken_of passes v.0 v.1 v.2 ∙ ap Some v.3 in
            (v.0, (let m = length-map passes broken_of in omega arith), index_of (map broken_of passes) v.0 (Some p) (Some p) here)),
        (λ c. let k = contained (map broken_of passes) (Some p) c in
            let v = map_get broken_of passes k.0 (Some p) k.1 in
            unset_at p k.0 v.0 v.1 v.2),
      );
      merged =
          let top = all_places (length f.trace) refl in
          let within = within_trace f onll.trace passes ended.sound.sound all ended.spots logs (all_read passes tied) in
          let n : top_of logs ≡ length f.trace = omega arith in
          merged_front f onll.trace passes ended.sound.sound all ended.spots logs (all_read passes tied) ∙ ap (λ (ns : List Node). Ok ns) (ap (λ (m : ℕ). take m f.trace) n ∙ take_all f.trace);
      moment = record {
        sound = ended.sound;
        all = all;
        shown = ended.spots;
        lawful = all_lawful passes tied;
        logs = all_logs passes tied;
      };
    }
