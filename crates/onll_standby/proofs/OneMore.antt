-- What is held with one entry more.
use Rattle.std.proofs.Common.{◌≡◌, ℕ, zero, suc, ◌+◌, ◌-◌, ◌≤◌, ◌==◌, Bool, true, false, List, [], ◌∷◌, ◌++◌, length, get_or, set, sym, refl, ap, subst, ◌∙◌, arith, Option, Some, None, eqb-true, cond, append_assoc, append-nil}
use Rattle.std.specs.Option.{option_or}
use Rattle.std.proofs.lemmas.List.{get_or-set_same, get_or-set_other, length-set}
use mathlib.Core.Logic.{dite}
use native.Mathlib.Decide.{ℕ_discrete}
use Rattle.onll_model.specs.declared.node.Node.{Node}
use Rattle.onll_model.specs.Object.{Behaviour}
use Rattle.onll_model.specs.Segment.{Segment}
use Rattle.onll_model.specs.Recovered.{where_some}
use Rattle.onll_merge.specs.Merge.{node_among, node_in_segment, node_in_log, same_node}
use Rattle.onll_merge.proofs.Places.{node_among-skip, node_among-first, node_among-below}
use Rattle.onll_merge.proofs.Asked.{both, same_words-eq, by_option}
use Rattle.onll_standby.specs.declared.fault.FeedFault.{FeedFault}
use Rattle.onll_standby.specs.declared.fault.FeedFault.TheVariants.{Stray}
use Rattle.onll_standby.specs.Held.{HeldEntry, segments_held, node_held, node_then, nodes_from, greatest_place, covered, number_follows, row_fault, followed_above, node_fault_above, nodes_followed, node_fault, is_alike, clash_among, clash_with}
use Rattle.onll_standby.specs.Places.{held_at, with_nodes}

-- ---- options
or_none : {A : Type 0} (o : Option A) → option_or o None ≡ o
or_none None = refl
or_none (Some x) = refl

or_or : {A : Type 0} (a b c : Option A) → option_or (option_or a b) c ≡ option_or a (option_or b c)
or_or None b c = refl
or_or (Some x) b c = refl

-- ---- the node of a place
node_in_log-snoc : (ss : List Segment) (s : Segment) (p : ℕ) → node_in_log (ss ++ s ∷ []) p ≡ option_or (node_in_log ss p) (node_in_segment s p)
node_in_log-snoc [] s p = or_none (node_in_segment s p)
node_in_log-snoc (x ∷ ss) s p = ap (option_or (node_in_segment x p)) (node_in_log-snoc ss s p) ∙ sym (or_or (node_in_segment x p) (node_in_log ss p) (node_in_segment s p))

segments_held-snoc : (es : List HeldEntry) (e : HeldEntry) → segments_held (es ++ e ∷ []) ≡ segments_held es ++ e.segment ∷ []
segments_held-snoc [] e = refl
segments_held-snoc (x ∷ es) e = ap (λ (l : List Segment). x.segment ∷ l) (segments_held-snoc es e)

pub node_held-snoc : (es : List HeldEntry) (e : HeldEntry) (p : ℕ) → node_held (es ++ e ∷ []) p ≡ option_or (node_held es p) (node_in_segment e.segment p)
node_held-snoc es e p = ap (λ (ss : List Segment). node_in_log ss p) (segments_held-snoc es e) ∙ node_in_log-snoc (segments_held es) e.segment p

-- ---- nodes that are put
pub put_at : (slots : List (Option Node)) (below : ℕ) (xs : List Node) (q : ℕ) → below + length xs ≤ length slots
    → held_at (with_nodes slots below xs) (suc q) ≡ option_or (node_among (below + length xs) xs (suc q)) (held_at slots (suc q))
put_at slots below [] q l = refl
put_at slots below (x ∷ xs) q l =
    let first : option_or (node_among (below + 1 + length xs) xs (suc q)) (get_or (set slots below (Some x)) q None)
    ≡ option_or (node_among (below + suc (length xs)) (x ∷ xs) (suc q)) (get_or slots q None) = dite (ℕ_discrete q below)
    (λ (is : q ≡ below).
    let here : suc q + length xs ≡ below + suc (length xs) = omega arith in
    let low : node_among (below + 1 + length xs) xs (suc q) ≡ None = node_among-below (below + 1 + length xs) xs (suc q) (omega arith) in
    ap (λ (o : Option Node). option_or o (get_or (set slots below (Some x)) q None)) low
    ∙ (ap (λ (k : ℕ). get_or (set slots below (Some x)) k None) is ∙ (get_or-set_same slots below (Some x) None (omega arith)
    ∙ ap (λ (o : Option Node). option_or o (get_or slots q None)) (sym (node_among-first (below + suc (length xs)) x xs (suc q) here)))))
    (λ (not : q ≡ below → ⊥).
    let k : below + 1 + length xs ≡ below + suc (length xs) = omega arith in
    ap (λ (n : ℕ). option_or (node_among n xs (suc q)) (get_or (set slots below (Some x)) q None)) k
    ∙ (ap (option_or (node_among (below + suc (length xs)) xs (suc q))) (get_or-set_other slots below q (Some x) None not)
    ∙ ap (λ (o : Option Node). option_or o (get_or slots q None)) (sym (node_among-skip (below + suc (length xs)) x xs (suc q) (λ e. not (omega arith)))))) in
    let n = length-set slots below (Some x) in
    put_at (set slots below (Some x)) (below + 1) xs q (omega arith) ∙ first

-- ---- no clash
same_node-eq : (x y : Node) → same_node x y ≡ true → x ≡ y
same_node-eq x y e = let a = both (x.thread == y.thread) _ e in let b = both (x.number == y.number) _ a.1 in let t = eqb-true x.thread y.thread a.0 in let n = eqb-true x.number y.number b.0 in let w = same_words-eq x.row.w y.row.w b.1 in
    λ i. record { thread = t i; number = n i; row = record { w = w i } }

tested : (t : Bool) (rest : Option ℕ) (p : ℕ) → cond {A = Option ℕ} t rest (Some p) ≡ None → (t ≡ true) × (rest ≡ None)
tested true rest p e = (refl, e)
tested false rest p e = absurd (cc)

alike_or : (held : Option Node) (x : Node) (rest : Option Node) → is_alike held x ≡ true → option_or (Some x) held ≡ option_or held (Some x)
alike_or None x rest e = refl
alike_or (Some y) x rest e = ap Some (same_node-eq x y e)

-- where none of the nodes differs from what is held, it does not matter which is asked first
pub either_first : (held : ℕ → Option Node) (below last : ℕ) (xs : List Node) (p : ℕ) → last ≡ below + length xs → clash_among held (below + 1) xs ≡ None
    → option_or (node_among last xs p) (held p) ≡ option_or (held p) (node_among last xs p)
either_first held below last [] p e c = sym (or_none (held p))
either_first held below last (x ∷ xs) p e c =
    let t = tested (is_alike (held (below + 1)) x) (clash_among held (below + 1 + 1) xs) (below + 1) c in
    dite (ℕ_discrete (p + length xs) last)
    (λ (is : p + length xs ≡ last).
    let here : p ≡ below + 1 = omega arith in
    let first = node_among-first last x xs p is in
    ap (λ (o : Option Node). option_or o (held p)) first ∙ (alike_or (held p) x None (ap (λ (k : ℕ). is_alike (held k) x) here ∙ t.0) ∙ ap (option_or (held p)) (sym first)))
    (λ (not : p + length xs ≡ last → ⊥).
    let skip = node_among-skip last x xs p not in
    ap (λ (o : Option Node). option_or o (held p)) skip ∙ (either_first held (below + 1) last xs p (omega arith) t.1 ∙ ap (option_or (held p)) (sym skip)))

-- ---- by place
abbrev pub AreAlike : (ℕ → Option Node) → (ℕ → Option Node) → Type 0
AreAlike f g = (q : ℕ) → f (suc q) ≡ g (suc q)

pub clash-alike : (f g : ℕ → Option Node) → AreAlike f g → (q : ℕ) (xs : List Node) → clash_among f (q + 1) xs ≡ clash_among g (q + 1) xs
clash-alike f g a q [] = refl
clash-alike f g a q (x ∷ xs) = let k : suc q ≡ q + 1 = omega arith in
    let here : f (q + 1) ≡ g (q + 1) = subst (λ (n : ℕ). f n ≡ g n) k (a q) in
    let rest = clash-alike f g a (q + 1) xs in
    λ i. cond {A = Option ℕ} (is_alike (here i) x) (rest i) (Some (q + 1))

pub nodes-alike : (f g : ℕ → Option Node) → AreAlike f g → (k q : ℕ) → nodes_from f k (q + 1) ≡ nodes_from g k (q + 1)
nodes-alike f g a zero q = refl
nodes-alike f g a (suc k) q = let n : suc q ≡ q + 1 = omega arith in
    let here : f (q + 1) ≡ g (q + 1) = subst (λ (n : ℕ). f n ≡ g n) n (a q) in
    let rest = nodes-alike f g a k (q + 1) in
    λ i. node_then (here i) (rest i)

-- where more is held, the nodes are those from before, and then what follows them
pub nodes-longer : (f g : ℕ → Option Node) → ((p : ℕ) (x : Node) → f p ≡ Some x → g p ≡ Some x) → (k p : ℕ)
    → nodes_from g k p ≡ nodes_from f k p ++ nodes_from g (k - length (nodes_from f k p)) (p + length (nodes_from f k p))
nodes-longer f g more zero p = refl
nodes-longer f g more (suc k) p = let P : Option Node → Type 0 = λ o. nodes_from g (suc k) p ≡ node_then o (nodes_from f k (p + 1)) ++ nodes_from g (suc k - length (node_then o (nodes_from f k (p + 1)))) (p + length (node_then o (nodes_from f k (p + 1)))) in
    by_option P (f p)
    (λ _. let z : suc k - 0 ≡ suc k = omega arith in let y : p + 0 ≡ p = omega arith in λ i. nodes_from g (sym z i) (sym y i))
    (λ x e. let ys : List Node = nodes_from f k (p + 1) in
    let n : k - length ys ≡ suc k - suc (length ys) = omega arith in let q : p + 1 + length ys ≡ p + suc (length ys) = omega arith in
    ap (λ (o : Option Node). node_then o (nodes_from g k (p + 1))) (more p x e)
    ∙ (ap (λ (l : List Node). x ∷ l) (nodes-longer f g more k (p + 1))
    ∙ (λ i. x ∷ (ys ++ nodes_from g (n i) (q i)))))

-- ---- what is followed
module _ {State Op Query Reply : Type 0} (b : Behaviour State Op Query Reply) where
  both_followed : (o : Option Op) (t : Bool) (below xs ys zs : List Node) (x : Node) (rest : Option FeedFault) (place : ℕ)
      → cond {A = Option FeedFault} t (row_fault o place rest) (Some (Stray place)) ≡ None
      → (rest ≡ None) × (cond {A = List Node} t (where_some o (x ∷ zs)) [] ≡ x ∷ zs) × ((other : Option FeedFault) → cond {A = Option FeedFault} t (row_fault o place other) (Some (Stray place)) ≡ other)
  both_followed None true below xs ys zs x rest place e = absurd (cc)
  both_followed (Some op) true below xs ys zs x rest place e = (e, refl, λ other. refl)
  both_followed o false below xs ys zs x rest place e = absurd (cc)

  -- nodes without a fault, and then others
  pub followed-more : (below xs ys : List Node) → node_fault_above b below xs ≡ None
      → (followed_above b below (xs ++ ys) ≡ xs ++ followed_above b (below ++ xs) ys) × (node_fault_above b below (xs ++ ys) ≡ node_fault_above b (below ++ xs) ys)
  followed-more below [] ys e = (ap (λ (l : List Node). followed_above b l ys) (sym (append-nil below)), ap (λ (l : List Node). node_fault_above b l ys) (sym (append-nil below)))
  followed-more below (x ∷ xs) ys e =
      let next : List Node = below ++ x ∷ [] in
      let h = both_followed (b.op_at x.row) (number_follows below x) below xs ys (followed_above b next (xs ++ ys)) x (node_fault_above b next xs) (length below + 1) e in
      let r = followed-more next xs ys h.0 in
      let j = append_assoc below (x ∷ []) xs in (
        h.1 ∙ (ap (λ (l : List Node). x ∷ l) r.0 ∙ ap (λ (l : List Node). x ∷ (xs ++ followed_above b l ys)) j),
        h.2 (node_fault_above b next (xs ++ ys)) ∙ (r.1 ∙ ap (λ (l : List Node). node_fault_above b l ys) j),
      )

  pub followed-all : (below xs : List Node) → node_fault_above b below xs ≡ None → followed_above b below xs ≡ xs
  followed-all below xs e = ap (followed_above b below) (sym (append-nil xs)) ∙ ((followed-more below xs [] e).0 ∙ append-nil xs)

  -- ---- one entry more
  more_held : (es : List HeldEntry) (e : HeldEntry) (p : ℕ) (x : Node) → node_held es p ≡ Some x → node_held (es ++ e ∷ []) p ≡ Some x
  more_held es e p x is = node_held-snoc es e p ∙ ap (λ (o : Option Node). option_or o (node_in_segment e.segment p)) is

  -- what entries cover with one more, where what was covered has no fault: slots that hold the same say what follows
  pub covered_more : (threads : ℕ) (es : List HeldEntry) (e : HeldEntry) (slots : List (Option Node)) → node_fault b threads es ≡ None → AreAlike (held_at slots) (node_held (es ++ e ∷ []))
      → (nodes_followed b threads (es ++ e ∷ []) ≡ covered threads es ++ followed_above b (covered threads es) (nodes_from (held_at slots) (greatest_place threads - length (covered threads es)) (length (covered threads es) + 1)))
      × (node_fault b threads (es ++ e ∷ []) ≡ node_fault_above b (covered threads es) (nodes_from (held_at slots) (greatest_place threads - length (covered threads es)) (length (covered threads es) + 1)))
  covered_more threads es e slots clean alike =
      let c : List Node = covered threads es in
      let k : ℕ = greatest_place threads - length c in
      let n : 1 + length c ≡ length c + 1 = omega arith in
      let all : covered threads (es ++ e ∷ []) ≡ c ++ nodes_from (held_at slots) k (length c + 1) =
      nodes-longer (node_held es) (node_held (es ++ e ∷ [])) (more_held es e) (greatest_place threads) 1
      ∙ (ap (λ (p : ℕ). c ++ nodes_from (node_held (es ++ e ∷ [])) k p) n
      ∙ ap (λ (l : List Node). c ++ l) (nodes-alike (node_held (es ++ e ∷ [])) (held_at slots) (λ q. sym (alike q)) k (length c))) in
      let r = followed-more [] c (nodes_from (held_at slots) k (length c + 1)) clean in
      (ap (followed_above b []) all ∙ r.0, ap (node_fault_above b []) all ∙ r.1)

-- the nodes of an entry that clashes with none, put where the others are held
pub put_alike : (slots : List (Option Node)) (es : List HeldEntry) (e : HeldEntry) → AreAlike (held_at slots) (node_held es) → length e.segment.nodes ≤ e.segment.place → e.segment.place ≤ length slots
    → clash_with es e.segment ≡ None → AreAlike (held_at (with_nodes slots (e.segment.place - length e.segment.nodes) e.segment.nodes)) (node_held (es ++ e ∷ []))
put_alike slots es e alike low high none q =
    let s : Segment = e.segment in
    let below : ℕ = s.place - length s.nodes in
    let last : s.place ≡ below + length s.nodes = omega arith in
    let from : below + 1 ≡ s.place + 1 - length s.nodes = omega arith in
    put_at slots below s.nodes q (omega arith)
    ∙ (ap (λ (n : ℕ). option_or (node_among n s.nodes (suc q)) (held_at slots (suc q))) (sym last)
    ∙ (ap (option_or (node_in_segment s (suc q))) (alike q)
    ∙ (either_first (node_held es) below s.place s.nodes (suc q) last (ap (λ (p : ℕ). clash_among (node_held es) p s.nodes) from ∙ none)
    ∙ sym (node_held-snoc es e (suc q)))))
