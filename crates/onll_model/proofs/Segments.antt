use Rattle.std.proofs.Common.{◌≡◌, ℕ, zero, suc, ◌+◌, ◌-◌, ◌≤◌, ◌⊎◌, inl, inr, List, [], ◌∷◌, ◌++◌, length, drop, set, Some, refl, sym, ap, ◌∙◌, subst, ⊎_elim, arith, length-append}
use Rattle.std.specs.List.{slice_get}
use Rattle.onll_model.specs.declared.node.Node.{Node}
use Rattle.onll_model.specs.Segment.{Segment, Agrees, Within, LiesIn, Covers, Rises, last_place}
use Rattle.onll_model.specs.Frames.{Thread, fenced_segments}
use Rattle.onll_model.proofs.Lists.{same_some, some_not_none, take_before}

-- On segments: how they rise, which places lie in them.

pub rises_snoc : (d : ℕ) (ss : List Segment) (s : Segment) → Rises d ss → last_place d ss + length s.nodes ≤ s.place → Rises d (ss ++ s ∷ [])
rises_snoc d [] s r l = (l, tt)
rises_snoc d (x ∷ ss) s r l = (r.0, rises_snoc x.place ss s r.1 l)

pub last_snoc : (d : ℕ) (ss : List Segment) (s : Segment) → last_place d (ss ++ s ∷ []) ≡ s.place
last_snoc d [] s = refl
last_snoc d (x ∷ ss) s = last_snoc x.place ss s

-- a segment of a trace is one of each longer trace
pub agrees_longer : (trace more : List Node) (s : Segment) → Agrees trace s → Agrees (trace ++ more) s
agrees_longer trace more s a = let low = a.in_trace in record {
  some_nodes = a.some_nodes;
  from_one = a.from_one;
  in_trace = omega (arith, length-append trace more);
  nodes = a.nodes ∙ ap (drop (s.place - length s.nodes)) (sym (take_before trace more s.place low));
}

pub lies_left : (q : ℕ) (xs ys : List Segment) → LiesIn q xs → LiesIn q (xs ++ ys)
lies_left q [] ys h = absurd h
lies_left q (x ∷ xs) ys h = ⊎_elim (λ (w : Within q x). inl w) (λ (l : LiesIn q xs). inr (lies_left q xs ys l)) h

pub lies_right : (q : ℕ) (xs ys : List Segment) → LiesIn q ys → LiesIn q (xs ++ ys)
lies_right q [] ys h = h
lies_right q (x ∷ xs) ys h = inr (lies_right q xs ys h)

pub lies_either : (q : ℕ) (xs ys : List Segment) → LiesIn q (xs ++ ys) → LiesIn q xs ⊎ LiesIn q ys
lies_either q [] ys h = inr h
lies_either q (x ∷ xs) ys h = ⊎_elim (λ (w : Within q x). inl (inl w))
    (λ (l : LiesIn q (xs ++ ys)). ⊎_elim (λ (a : LiesIn q xs). inl (inr a)) (λ (b : LiesIn q ys). inr b) (lies_either q xs ys l)) h

-- a place lies in some segment, which has a place in the list, and the other way round
pub lies_at : (q : ℕ) (ss : List Segment) → LiesIn q ss → (i : ℕ) × (s : Segment) × (slice_get ss i ≡ Some s) × Within q s
lies_at q [] h = absurd h
lies_at q (s ∷ ss) h = ⊎_elim (λ (w : Within q s). (0, s, refl, w)) (λ (l : LiesIn q ss). let r = lies_at q ss l in (suc r.0, r.1, r.2, r.3)) h

-- what lies in a thread's fenced segments lies in those of all
pub lies_of_thread : (q : ℕ) (ths : List Thread) (t : ℕ) (th : Thread) → slice_get ths t ≡ Some th → LiesIn q th.fenced → LiesIn q (fenced_segments ths)
lies_of_thread q [] t th e l = some_not_none th (sym e)
lies_of_thread q (x ∷ ths) zero th e l = lies_left q x.fenced (fenced_segments ths) (subst (λ (z : Thread). LiesIn q z.fenced) (sym (same_some x th e)) l)
lies_of_thread q (x ∷ ths) (suc t) th e l = lies_right q x.fenced (fenced_segments ths) (lies_of_thread q ths t th e l)

pub lies_in_thread : (q : ℕ) (ths : List Thread) → LiesIn q (fenced_segments ths) → (t : ℕ) × (th : Thread) × (slice_get ths t ≡ Some th) × LiesIn q th.fenced
lies_in_thread q [] h = absurd h
lies_in_thread q (x ∷ ths) h = ⊎_elim (λ (a : LiesIn q x.fenced). (0, x, refl, a))
    (λ (b : LiesIn q (fenced_segments ths)). let r = lies_in_thread q ths b in (suc r.0, r.1, r.2, r.3)) (lies_either q x.fenced (fenced_segments ths) h)

-- what lies in the first thread's segments lies in the second one's too
abbrev pub Grows : Thread → Thread → Type 0
Grows th w = (q : ℕ) → LiesIn q th.fenced → LiesIn q w.fenced

pub same_grows : (th w : Thread) → w.fenced ≡ th.fenced → Grows th w
same_grows th w e q l = subst (LiesIn q) (sym e) l

-- so all that is covered stays covered where a thread is changed so
pub covers_still : (ths : List Thread) (t : ℕ) (th w : Thread) → slice_get ths t ≡ Some th → Grows th w → (p : ℕ) → Covers (fenced_segments ths) p → Covers (fenced_segments (set ths t w)) p
covers_still ths t th w at more p c q low high = lies_set ths t at (c q low high)
  where
    lies_set : (ths : List Thread) (t : ℕ) → slice_get ths t ≡ Some th → LiesIn q (fenced_segments ths) → LiesIn q (fenced_segments (set ths t w))
    lies_set [] t e l = absurd l
    lies_set (x ∷ ths) zero e l = ⊎_elim
        (λ (a : LiesIn q x.fenced). lies_left q w.fenced (fenced_segments ths) (more q (subst (λ (z : Thread). LiesIn q z.fenced) (same_some x th e) a)))
        (λ (b : LiesIn q (fenced_segments ths)). lies_right q w.fenced (fenced_segments ths) b)
        (lies_either q x.fenced (fenced_segments ths) l)
    lies_set (x ∷ ths) (suc t) e l = ⊎_elim
        (λ (a : LiesIn q x.fenced). lies_left q x.fenced (fenced_segments (set ths t w)) a)
        (λ (b : LiesIn q (fenced_segments ths)). lies_right q x.fenced (fenced_segments (set ths t w)) (lies_set ths t e b))
        (lies_either q x.fenced (fenced_segments ths) l)
