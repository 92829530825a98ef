use Rattle.std.proofs.Common.{◌≡◌, ◌≢◌, ℕ, zero, suc, ◌+◌, ◌<◌, ◌≤◌, eqb, cond, Bool, List, [], ◌∷◌, ◌++◌, length, get_or, set, Some, sym, refl, ap, ◌∙◌, subst, arith, eq-eqb, ne_eqb, length-append}
use Rattle.std.specs.List.{AllByRecursion, slice_get}
use mathlib.Core.Option.{some}
use mathlib.Core.Logic.{dite}
use native.Mathlib.Decide.{ℕ_discrete}
use lib.ListN.{get_elem?}
use Rattle.atomic_table.proofs.Lists.{set_here, set_else, at_longer}
use Rattle.onll_model.proofs.Lists.{inside, at_before, at_end, all_at, all_map, all_append}
use Rattle.onll_trace.specs.Views.{Hand, Stamp, View}
use Rattle.onll_trace.specs.Rule.{HasStamp, IsStamp, IsFreshHand, AreFresh}
use Rattle.onll_trace.proofs.Rows.{get_or-behind, get_or-before}
use Rattle.onll_trace.proofs.Told.{all_both}
use Rattle.onll_trace.proofs.Seats.{seats, seats_more, same_view, at_inside}

-- No look is stale, after each step.

-- the stamps of a seat whose view changes
pub stamp_set : (vs : List View) (i : ℕ) (v w : View) → get_elem? vs i ≡ some v → (s : Stamp) → ((j : ℕ) → slice_get v.stamps j ≡ Some s → (m : ℕ) × (slice_get w.stamps m ≡ Some s)) → HasStamp vs s → HasStamp (set vs i w) s
stamp_set vs i v w at s keep x = dite (ℕ_discrete x.0 i)
    (λ e. let is : x.1 ≡ v = same_view vs i x.1 v (ap (get_elem? vs) (sym e) ∙ x.3) at in let m = keep x.2 (ap (λ (u : View). slice_get u.stamps x.2) (sym is) ∙ x.4) in
    (i, w, m.0, set_here vs i w (at_inside vs i v at), m.1))
    (λ not. (x.0, x.1, x.2, set_else vs i x.0 w not ∙ x.3, x.4))

-- a seat's view changes, which keeps its stamps, and no thread looks
abbrev pub fresh_set : (b n : ℕ) (vs : List View) (i : ℕ) (v w : View) → get_elem? vs i ≡ some v → (r : AreFresh b n vs) → ((s : Stamp) (j : ℕ) → slice_get v.stamps j ≡ Some s → (m : ℕ) × (slice_get w.stamps m ≡ Some s))
    → AllByRecursion (IsStamp n r.looks_at) w.stamps → AllByRecursion (IsFreshHand r.looks r.looks_at b n) w.hands → AreFresh b n (set vs i w)
fresh_set b n vs i v w at r keep stamps hands = record {
  looks = r.looks;
  looks_at = r.looks_at;
  stamped = λ p low high. let s : Stamp = record { place = p; looks = r.looks_at p } in stamp_set vs i v w at s (keep s) (r.stamped p low high);
  stamps = seats (λ j u. AllByRecursion (IsStamp n r.looks_at) u.stamps) vs i w stamps (λ j u _ e. r.stamps j u e);
  hands = seats (λ j u. AllByRecursion (IsFreshHand r.looks r.looks_at b n) u.hands) vs i w hands (λ j u _ e. r.hands j u e);
}

pub same_stamps : (v w : View) → w.stamps ≡ v.stamps → (s : Stamp) (j : ℕ) → slice_get v.stamps j ≡ Some s → (m : ℕ) × (slice_get w.stamps m ≡ Some s)
same_stamps v w same s j e = (j, ap (λ (ss : List Stamp). slice_get ss j) same ∙ e)

abbrev pub fresh_seat : (b n : ℕ) (vs : List View) (i : ℕ) (v w : View) → get_elem? vs i ≡ some v → (r : AreFresh b n vs) → w.stamps ≡ v.stamps → AllByRecursion (IsFreshHand r.looks r.looks_at b n) w.hands → AreFresh b n (set vs i w)
fresh_seat b n vs i v w at r same hands = fresh_set b n vs i v w at r (same_stamps v w same) (subst (AllByRecursion (IsStamp n r.looks_at)) (sym same) (r.stamps i v at)) hands

-- the hand changes, and its look has the same count and front
pub fresh_hand : (b n : ℕ) (vs : List View) (i : ℕ) (v w : View) (h g : Hand) → get_elem? vs i ≡ some v → v.hands ≡ h ∷ [] → w.hands ≡ g ∷ [] → w.stamps ≡ v.stamps → g.thread ≡ h.thread → g.look.count ≡ h.look.count → g.look.front ≡ h.look.front
    → AreFresh b n vs → AreFresh b n (set vs i w)
fresh_hand b n vs i v w h g at is now same thread count front r = let x = (subst (AllByRecursion (IsFreshHand r.looks r.looks_at b n)) is (r.hands i v at)).0 in let xf = x.front in
    fresh_seat b n vs i v w at r same (subst (AllByRecursion (IsFreshHand r.looks r.looks_at b n)) (sym now) (
      record {
        count = count ∙ (x.count ∙ ap r.looks (sym thread));
        front = omega arith;
        earlier = λ p low high. let z = x.earlier p low high in let t = ap (λ (u : ℕ). get_or (r.looks_at p) u 0) thread in omega arith;
        later = λ p low high up. ap (λ (u : ℕ). get_or (r.looks_at p) u 0) thread ∙ (x.later p low high (omega arith) ∙ sym count);
      },
      tt,
    ))

-- a look that meets all nodes
pub fresh_look : (b n : ℕ) (vs : List View) (i : ℕ) (v w : View) (h g : Hand) → get_elem? vs i ≡ some v → v.hands ≡ h ∷ [] → w.hands ≡ g ∷ [] → w.stamps ≡ v.stamps → g.thread ≡ h.thread → g.look.count ≡ h.look.count + 1 → g.look.front ≡ n
    → ((j : ℕ) (u : View) → j ≢ i → get_elem? vs j ≡ some u → AllByRecursion (λ (x : Hand). x.thread ≢ h.thread) u.hands) → AreFresh b n vs → AreFresh b n (set vs i w)
fresh_look b n vs i v w h g at is now same thread count front apart r = record {
  looks = looks;
  looks_at = r.looks_at;
  stamped = λ p low high. let s : Stamp = record { place = p; looks = r.looks_at p } in stamp_set vs i v w at s (same_stamps v w same s) (r.stamped p low high);
  stamps = seats (λ j u. AllByRecursion (IsStamp n r.looks_at) u.stamps) vs i w (subst (AllByRecursion (IsStamp n r.looks_at)) (sym same) (r.stamps i v at)) (λ j u _ e. r.stamps j u e);
  hands = seats (λ j u. AllByRecursion (IsFreshHand looks r.looks_at b n) u.hands) vs i w (subst (AllByRecursion (IsFreshHand looks r.looks_at b n)) (sym now) (mine, tt))
      (λ j u away e. all_both (IsFreshHand r.looks r.looks_at b n) (λ (x : Hand). x.thread ≢ h.thread) (IsFreshHand looks r.looks_at b n) u.hands (λ x f not. still x f not) (r.hands j u e) (apart j u away e));
}
  where
    looks : ℕ → ℕ
    looks u = cond (eqb u h.thread) (h.look.count + 1) (r.looks u)

    old : IsFreshHand r.looks r.looks_at b n h
    old = (subst (AllByRecursion (IsFreshHand r.looks r.looks_at b n)) is (r.hands i v at)).0

    mine : IsFreshHand looks r.looks_at b n g
    mine = record {
      count = count ∙ sym (ap (λ (c : Bool). cond {A = ℕ} c (h.look.count + 1) (r.looks g.thread)) (eq-eqb g.thread h.thread thread));
      front = omega arith;
      earlier = λ p low high. let z = old.earlier p low high in let t = ap (λ (u : ℕ). get_or (r.looks_at p) u 0) thread in omega arith;
      later = λ p low high up. absurd (omega arith);
    }

    still : (x : Hand) → IsFreshHand r.looks r.looks_at b n x → x.thread ≢ h.thread → IsFreshHand looks r.looks_at b n x
    still x f not = record { count = f.count ∙ sym (ap (λ (c : Bool). cond {A = ℕ} c (h.look.count + 1) (r.looks x.thread)) (ne_eqb x.thread h.thread not)); front = f.front; earlier = f.earlier; later = f.later }

-- how many looks each of the threads has made, as a list
abbrev pub counts : ℕ → (ℕ → ℕ) → List ℕ
counts zero g = []
counts (suc t) g = counts t g ++ g t ∷ []

length_counts : (n : ℕ) (g : ℕ → ℕ) → length (counts n g) ≡ n
length_counts zero g = refl
length_counts (suc n) g = let h = length_counts n g in omega (arith, length-append (counts n g) (g n ∷ []))

counts_at : (n : ℕ) (g : ℕ → ℕ) (t : ℕ) → t < n → get_or (counts n g) t 0 ≡ g t
counts_at zero g t l = absurd (omega arith)
counts_at (suc n) g t l = let m = length_counts n g in dite (ℕ_discrete t n)
    (λ e. let z : t ≡ length (counts n g) + 0 = omega arith in ap (λ (u : ℕ). get_or (counts n g ++ g n ∷ []) u 0) z ∙ (get_or-behind (counts n g) (g n ∷ []) 0 ∙ ap g (sym e)))
    (λ not. get_or-before (counts n g) (g n ∷ []) t (omega arith) ∙ counts_at n g t (omega arith))

-- a node is linked
pub fresh_link : (b n m count : ℕ) (vs : List View) (i : ℕ) (v w : View) (h g : Hand) (r : AreFresh b n vs) → m ≡ n + 1 → get_elem? vs i ≡ some v → v.hands ≡ h ∷ [] → w.hands ≡ g ∷ [] → w.stamps ≡ v.stamps ++ record { place = m; looks = counts count r.looks } ∷ []
    → g.thread ≡ h.thread → g.look.count ≡ h.look.count → g.look.front ≡ h.look.front → ((j : ℕ) (u : View) → get_elem? vs j ≡ some u → AllByRecursion (λ (x : Hand). x.thread < count) u.hands) → AreFresh b m (set vs i w)
fresh_link b n m count vs i v w h g r next at is now same thread count_is front below = record {
  looks = r.looks;
  looks_at = looks_at;
  stamped = stamped;
  stamps = seats (λ j u. AllByRecursion (IsStamp m looks_at) u.stamps) vs i w
      (subst (AllByRecursion (IsStamp m looks_at)) (sym same) (all_append (IsStamp m looks_at) v.stamps (stamp ∷ []) (wider v.stamps (r.stamps i v at)) ((omega arith, sym here), tt)))
      (λ j u _ e. wider u.stamps (r.stamps j u e));
  hands = seats (λ j u. AllByRecursion (IsFreshHand r.looks looks_at b m) u.hands) vs i w
      (subst (AllByRecursion (IsFreshHand r.looks looks_at b m)) (sym now) (mine, tt))
      (λ j u _ e. all_both (λ (x : Hand). x.thread < count) (IsFreshHand r.looks r.looks_at b n) (IsFreshHand r.looks looks_at b m) u.hands (λ x l f. longer x l f) (below j u e) (r.hands j u e));
}
  where
    row : List ℕ
    row = counts count r.looks

    looks_at : ℕ → List ℕ
    looks_at p = cond (eqb p m) row (r.looks_at p)

    stamp : Stamp
    stamp = record { place = m; looks = row }

    here : looks_at m ≡ row
    here = ap (λ (c : Bool). cond {A = List ℕ} c row (r.looks_at m)) (eq-eqb m m refl)

    else : (p : ℕ) → p ≢ m → looks_at p ≡ r.looks_at p
    else p not = ap (λ (c : Bool). cond {A = List ℕ} c row (r.looks_at p)) (ne_eqb p m not)

    stamped : (p : ℕ) → b < p → p ≤ m → HasStamp (set vs i w) record { place = p; looks = looks_at p }
    stamped p low high = dite (ℕ_discrete p m)
        (λ e. let z : stamp ≡ record { place = p; looks = looks_at p } = (λ y. record { place = sym e y; looks = (sym here ∙ ap looks_at (sym e)) y }) in
        (i, w, length v.stamps, set_here vs i w (at_inside vs i v at), ap (λ (ss : List Stamp). slice_get ss (length v.stamps)) same ∙ (at_end v.stamps stamp ∙ ap (λ (s : Stamp). Some s) z)))
        (λ not. let s : Stamp = record { place = p; looks = looks_at p } in let z : record { place = p; looks = r.looks_at p } ≡ s = ap (λ (l : List ℕ). record { place = p; looks = l }) (sym (else p not)) in
        stamp_set vs i v w at s (λ j e. (j, ap (λ (ss : List Stamp). slice_get ss j) same ∙ (at_before v.stamps (stamp ∷ []) j (inside v.stamps j s e) ∙ e))) (subst (HasStamp vs) z (r.stamped p low (omega arith))))

    wider : (ss : List Stamp) → AllByRecursion (IsStamp n r.looks_at) ss → AllByRecursion (IsStamp m looks_at) ss
    wider ss all = all_map (IsStamp n r.looks_at) (IsStamp m looks_at) ss (λ s a. let l = a.0 in (omega arith, a.1 ∙ sym (else s.place (λ e. omega arith)))) all

    longer : (x : Hand) → x.thread < count → IsFreshHand r.looks r.looks_at b n x → IsFreshHand r.looks looks_at b m x
    longer x l f = let fr = f.front in record {
      count = f.count;
      front = omega arith;
      earlier = λ p low high. dite (ℕ_discrete p m)
          (λ e. let z = new x l f p e in omega arith)
          (λ not. let z = f.earlier p low (omega arith) in let y = ap (λ (ls : List ℕ). get_or ls x.thread 0) (else p not) in omega arith);
      later = λ p low high up. dite (ℕ_discrete p m)
          (λ e. new x l f p e)
          (λ not. ap (λ (ls : List ℕ). get_or ls x.thread 0) (else p not) ∙ f.later p low (omega arith) up);
    }
      where
        new : (x : Hand) → x.thread < count → IsFreshHand r.looks r.looks_at b n x → (p : ℕ) → p ≡ m → get_or (looks_at p) x.thread 0 ≡ x.look.count
        new x l f p e = ap (λ (q : ℕ). get_or (looks_at q) x.thread 0) e ∙ (ap (λ (ls : List ℕ). get_or ls x.thread 0) here ∙ (counts_at count r.looks x.thread l ∙ sym f.count))

    mine : IsFreshHand r.looks looks_at b m g
    mine = let x = longer h (subst (AllByRecursion (λ (x : Hand). x.thread < count)) is (below i v at)).0 (subst (AllByRecursion (IsFreshHand r.looks r.looks_at b n)) is (r.hands i v at)).0 in let xf = x.front in record {
      count = count_is ∙ (x.count ∙ ap r.looks (sym thread));
      front = omega arith;
      earlier = λ p low high. let z = x.earlier p low high in let t = ap (λ (u : ℕ). get_or (looks_at p) u 0) thread in omega arith;
      later = λ p low high up. ap (λ (u : ℕ). get_or (looks_at p) u 0) thread ∙ (x.later p low high (omega arith) ∙ sym count_is);
    }

-- a seat more, which has linked nothing
pub fresh_more : (b n : ℕ) (vs : List View) (w : View) (r : AreFresh b n vs) → w.stamps ≡ [] → AllByRecursion (IsFreshHand r.looks r.looks_at b n) w.hands → AreFresh b n (vs ++ w ∷ [])
fresh_more b n vs w r none hands = record {
  looks = r.looks;
  looks_at = r.looks_at;
  stamped = λ p low high. let x = r.stamped p low high in (x.0, x.1, x.2, at_longer vs (w ∷ []) x.0 x.1 x.3, x.4);
  stamps = seats_more (λ j u. AllByRecursion (IsStamp n r.looks_at) u.stamps) vs w (subst (AllByRecursion (IsStamp n r.looks_at)) (sym none) tt) (λ j u e. r.stamps j u e);
  hands = seats_more (λ j u. AllByRecursion (IsFreshHand r.looks r.looks_at b n) u.hands) vs w hands (λ j u e. r.hands j u e);
}

-- a note is gone
pub fresh_spent : (b n : ℕ) (vs : List View) (i : ℕ) (v w : View) → get_elem? vs i ≡ some v → v.stamps ≡ [] → w.stamps ≡ [] → w.hands ≡ [] → AreFresh b n vs → AreFresh b n (set vs i w)
fresh_spent b n vs i v w at none now handless r = fresh_seat b n vs i v w at r (now ∙ sym none) (subst (AllByRecursion (IsFreshHand r.looks r.looks_at b n)) (sym handless) tt)

behind : (xs ys : List Stamp) (j : ℕ) (s : Stamp) → slice_get ys j ≡ Some s → (m : ℕ) × (slice_get (xs ++ ys) m ≡ Some s)
behind [] ys j s e = (j, e)
behind (x ∷ xs) ys j s e = let h = behind xs ys j s e in (suc h.0, h.1)

-- one seat takes in another one's stamps and hands
pub fresh_gathered : (b n : ℕ) (vs : List View) (i j : ℕ) (v w both spent : View) → get_elem? vs i ≡ some v → get_elem? vs j ≡ some w → i ≢ j → both.stamps ≡ v.stamps ++ w.stamps → both.hands ≡ v.hands ++ w.hands → spent.stamps ≡ [] → spent.hands ≡ []
    → AreFresh b n vs → AreFresh b n (set (set vs i both) j spent)
fresh_gathered b n vs i j v w both spent at there apart stamps hands none handless r = record {
  looks = r.looks;
  looks_at = r.looks_at;
  stamped = λ p low high. moved record { place = p; looks = r.looks_at p } (r.stamped p low high);
  stamps = seats (λ y u. AllByRecursion (IsStamp n r.looks_at) u.stamps) (set vs i both) j spent (subst (AllByRecursion (IsStamp n r.looks_at)) (sym none) tt)
      (λ y u _ e. seats (λ y u. AllByRecursion (IsStamp n r.looks_at) u.stamps) vs i both
      (subst (AllByRecursion (IsStamp n r.looks_at)) (sym stamps) (all_append (IsStamp n r.looks_at) v.stamps w.stamps (r.stamps i v at) (r.stamps j w there))) (λ y u _ e. r.stamps y u e) y u e);
  hands = seats (λ y u. AllByRecursion (IsFreshHand r.looks r.looks_at b n) u.hands) (set vs i both) j spent (subst (AllByRecursion (IsFreshHand r.looks r.looks_at b n)) (sym handless) tt)
      (λ y u _ e. seats (λ y u. AllByRecursion (IsFreshHand r.looks r.looks_at b n) u.hands) vs i both
      (subst (AllByRecursion (IsFreshHand r.looks r.looks_at b n)) (sym hands) (all_append (IsFreshHand r.looks r.looks_at b n) v.hands w.hands (r.hands i v at) (r.hands j w there))) (λ y u _ e. r.hands y u e) y u e);
}
  where
    here : get_elem? (set (set vs i both) j spent) i ≡ some both
    here = set_else (set vs i both) j i spent apart ∙ set_here vs i both (at_inside vs i v at)

    moved : (s : Stamp) → HasStamp vs s → HasStamp (set (set vs i both) j spent) s
    moved s x = dite (ℕ_discrete x.0 j)
        (λ e. let is : x.1 ≡ w = same_view vs j x.1 w (ap (get_elem? vs) (sym e) ∙ x.3) there in let m = behind v.stamps w.stamps x.2 s (ap (λ (u : View). slice_get u.stamps x.2) (sym is) ∙ x.4) in
        (i, both, m.0, here, ap (λ (ss : List Stamp). slice_get ss m.0) stamps ∙ m.1))
        (λ off. dite (ℕ_discrete x.0 i)
        (λ e. let is : x.1 ≡ v = same_view vs i x.1 v (ap (get_elem? vs) (sym e) ∙ x.3) at in let z = ap (λ (u : View). slice_get u.stamps x.2) (sym is) ∙ x.4 in
        (i, both, x.2, here, ap (λ (ss : List Stamp). slice_get ss x.2) stamps ∙ (at_before v.stamps w.stamps x.2 (inside v.stamps x.2 s z) ∙ z)))
        (λ not. (x.0, x.1, x.2, set_else (set vs i both) j x.0 spent off ∙ (set_else vs i x.0 both not ∙ x.3), x.4)))

-- who counts a look has met all nodes
pub meets_all : (b n : ℕ) (vs : List View) (i : ℕ) (v w : View) (h g : Hand) → get_elem? vs i ≡ some v → v.hands ≡ h ∷ [] → w.hands ≡ g ∷ [] → w.stamps ≡ v.stamps → g.thread ≡ h.thread → h.look.count < g.look.count → b ≤ g.look.front
    → AreFresh b n vs → AreFresh b n (set vs i w) → g.look.front ≡ n
meets_all b n vs i v w h g at is now same thread more low r s = let front = new.front in dite (native.Mathlib.Decide.dec_le n g.look.front)
    (λ le. omega arith)
    (λ gt. let x = r.stamped n (omega arith) (omega arith) in let y = stamp_set vs i v w at record { place = n; looks = r.looks_at n } (same_stamps v w same record { place = n; looks = r.looks_at n }) x in
    let one : r.looks_at n ≡ s.looks_at n = (all_at (IsStamp n s.looks_at) y.1.stamps (s.stamps y.0 y.1 y.3) y.2 record { place = n; looks = r.looks_at n } y.4).1 in
    let a = old.earlier n (omega arith) (omega arith) in let c = new.later n (omega arith) (omega arith) (omega arith) in
    let e : get_or (r.looks_at n) h.thread 0 ≡ get_or (s.looks_at n) g.thread 0 = (λ z. get_or (one z) (sym thread z) 0) in absurd (omega arith))
  where
    old : IsFreshHand r.looks r.looks_at b n h
    old = (subst (AllByRecursion (IsFreshHand r.looks r.looks_at b n)) is (r.hands i v at)).0

    new : IsFreshHand s.looks s.looks_at b n g
    new = (subst (AllByRecursion (IsFreshHand s.looks s.looks_at b n)) now (s.hands i w (set_here vs i w (at_inside vs i v at)))).0
