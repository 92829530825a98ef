use Rattle.std.proofs.Common.{◌≡◌, ◌≢◌, ℕ, zero, suc, ◌≤◌, true, false, List, [], ◌∷◌, ◌++◌, length, map, replicate, Some, None, refl, sym, ◌∙◌, subst, arith, append-nil, true≢false}
use Rattle.std.proofs.lemmas.List.{length-map, length-replicate, get_or-replicate}
use Rattle.std.specs.List.{AllByRecursion, slice_get}
use Rattle.onll_model.specs.declared.node.Node.{Node}
use Rattle.onll_model.specs.Segment.{Segment, Covers, Rises, last_place}
use Rattle.onll_model.specs.Frames.{Frame, Thread, IsAvailable, is_available, IsSoundSegment, fenced_segments, segments_of, open_place, IsQuiet, IsSettled, IsPending, Follows, resumed_thread, resumed_frame}
use Rattle.onll_model.specs.FrameLaws.{SoundOver, IsResumable}
use Rattle.onll_model.proofs.Lists.{same_some, some_not_none, all_map}
use Rattle.onll_model.proofs.Traces.{node_place}
use Rattle.onll_model.proofs.Flags.{available_low}

-- The first frames: of a run that goes on from a base, and of one that begins anew.

all_available : (n p : ℕ) → p ≤ n → is_available (replicate n true) p ≡ true
all_available n zero le = refl
all_available n (suc p) le = get_or-replicate n p true false (omega arith)

-- each thread of the first frame is at rest
resumed_at : (b : ℕ) (logs : List (List Segment)) (P : Thread → Type 0) → AllByRecursion (λ (ss : List Segment). P (resumed_thread b ss)) logs → (t : ℕ) (th : Thread)
    → slice_get (map (resumed_thread b) logs) t ≡ Some th → P th
resumed_at b [] P all t th e = some_not_none th (sym e)
resumed_at b (ss ∷ logs) P all zero th e = subst P (same_some (resumed_thread b ss) th e) all.0
resumed_at b (ss ∷ logs) P all (suc t) th e = resumed_at b logs P all.1 t th e

-- what holds of any segments
every_log : (Q : List Segment → Type 0) (logs : List (List Segment)) → ((ss : List Segment) → Q ss) → AllByRecursion Q logs
every_log Q [] f = tt
every_log Q (ss ∷ logs) f = (f ss, every_log Q logs f)

-- sound segments end in the trace
last_low : (count d : ℕ) (trace : List Node) (fenced ss : List Segment) → AllByRecursion (IsSoundSegment count trace fenced) ss → d ≤ length trace → last_place d ss ≤ length trace
last_low count d trace fenced [] all low = low
last_low count d trace fenced (s ∷ ss) all low = last_low count s.place trace fenced ss all.1 all.0.agrees.in_trace

pub resumed_sound : (count : ℕ) (base : List Node) (logs : List (List Segment)) → IsResumable count base logs → SoundOver count (length base) (resumed_frame base logs)
resumed_sound count base logs r =
    let b : ℕ = length base in
    let f : Frame = resumed_frame base logs in
    let sizes : length f.flags ≡ b = length-replicate b true in
    let alone : (ss : List Segment) → ss ++ [] ≡ ss = (λ ss. append-nil ss) in
    let available : (p : ℕ) → p ≤ b → IsAvailable f p = all_available b in
    let covers : (p : ℕ) → p ≤ b → Covers (fenced_segments f.threads) p = (λ p le q low high. r.covered q low (omega arith)) in
    record {
      sound = record {
        flags = sizes;
        threads = length-map logs (resumed_thread b) ∙ r.threads;
        numbered = r.numbered;
        below = r.below;
        earlier = λ p q x y e _ _ _. available p ((node_place base p x e).1);
        latest = λ t th e p last. (
          (λ unset. absurd (true≢false (sym (available p ((node_place base p last.node last.here).1)) ∙ unset))),
          λ opens. absurd (closed t th e p opens),
        );
        opened = λ t th e p opens. absurd (closed t th e p opens);
        quiet = resumed_at b logs (λ th. th.stuck ≢ None → IsQuiet th.activity) (every_log _ logs (λ ss _. tt));
        segments = resumed_at b logs (λ th. AllByRecursion (IsSoundSegment count base (fenced_segments f.threads)) (segments_of th))
            (all_map _ _ logs (λ ss all. subst (AllByRecursion (IsSoundSegment count base (fenced_segments f.threads))) (sym (alone ss)) all) r.segments);
        covered = λ p e. covers p (let h = available_low f.flags p e in omega arith);
        rising = resumed_at b logs (λ th. Rises 0 (segments_of th)) (all_map _ _ logs (λ ss all. subst (Rises 0) (sym (alone ss)) all) r.rising);
        settled = resumed_at b logs (λ th. IsSettled th.seen th.fenced th.activity)
            (all_map _ _ logs (λ ss all. last_low count 0 base (fenced_segments f.threads) ss all (omega arith)) r.segments);
        pending = resumed_at b logs (λ th. IsPending th.pending th.stuck th.activity) (every_log _ logs (λ ss. refl));
        follows = resumed_at b logs (λ th. Follows base th.seen th.activity) (every_log _ logs (λ ss. tt));
        seen = resumed_at b logs (λ th. IsAvailable f th.seen) (every_log _ logs (λ ss. available b (omega arith)));
        notes = tt;
      };
      based = record {
        long = omega arith;
        available = available;
        all_seen = resumed_at b logs (λ th. b ≤ th.seen) (every_log _ logs (λ ss. omega arith));
      };
    }
  where
    closed : (t : ℕ) (th : Thread) → slice_get (map (resumed_thread (length base)) logs) t ≡ Some th → (p : ℕ) → open_place th ≢ Some p
    closed t th e p opens = let none = resumed_at (length base) logs (λ z. open_place z ≡ None) (every_log _ logs (λ ss. refl)) t th e in absurd (let both = sym none ∙ opens in (cc))

pub created_resumable : (count : ℕ) → IsResumable count [] (replicate count [])
created_resumable count = record {
  threads = length-replicate count [];
  numbered = tt;
  below = tt;
  segments = empty count;
  rising = empty' count;
  covered = λ q low high. absurd (omega arith);
}
  where
    empty : (n : ℕ) → AllByRecursion (λ (ss : List Segment). AllByRecursion (IsSoundSegment count [] (fenced_segments (resumed_frame [] (replicate count [])).threads)) ss) (replicate n [])
    empty zero = tt
    empty (suc n) = (tt, empty n)

    empty' : (n : ℕ) → AllByRecursion (λ (ss : List Segment). Rises 0 ss) (replicate n [])
    empty' zero = tt
    empty' (suc n) = (tt, empty' n)

pub created_sound : (count : ℕ) → SoundOver count 0 (resumed_frame [] (replicate count []))
created_sound count = resumed_sound count [] (replicate count []) (created_resumable count)
