-- The object goes on, node by node.
use Rattle.std.proofs.Common.{◌≡◌, ℕ, zero, suc, ◌+◌, ◌-◌, ◌<◌, ◌≤◌, Bool, true, false, List, [], ◌∷◌, ◌++◌, length, get_or, set, sym, refl, ap, subst, ◌∙◌, arith, Option, Some, None, eq-eqb, cond, append_assoc, append-nil, length-append}
use Rattle.std.specs.Prelude.{count_by, IsSome, Ok, Err}
use Rattle.std.proofs.lemmas.List.{get_or-set_same, get_or-set_other}
use mathlib.Core.Logic.{dite}
use native.Mathlib.Decide.{ℕ_discrete}
use Rattle.onll_model.specs.declared.node.Node.{Node}
use Rattle.onll_model.specs.Object.{Behaviour}
use Rattle.onll_model.specs.Limits.{most_threads}
use Rattle.onll_model.specs.Trace.{is_of_thread, after_row, state_after}
use Rattle.onll_model.specs.Recovered.{where_some}
use Rattle.onll_model.proofs.Traces.{count_own, count_other}
use Rattle.onll_standby.specs.declared.fault.FeedFault.{FeedFault}
use Rattle.onll_standby.specs.declared.fault.FeedFault.TheVariants.{Stray}
use Rattle.onll_standby.specs.declared.applied.Applied.{Applied}
use Rattle.onll_standby.specs.Held.{number_follows, row_fault, followed_above, node_fault_above, node_then, nodes_from}
use Rattle.onll_standby.specs.Places.{held_at}
use Rattle.onll_standby.specs.Applied.{StandsAfter, IsFollowed, IsNotFollowed, HasAdvanced}

module _ {State Op Query Reply : Type 0} (b : Behaviour State Op Query Reply) (start : State) where
  state_snoc : (s : State) (xs : List Node) (x : Node) → state_after b s (xs ++ x ∷ []) ≡ after_row b (state_after b s xs) (b.op_at x.row)
  state_snoc s [] x = refl
  state_snoc s (y ∷ xs) x = state_snoc (after_row b s (b.op_at y.row)) xs x

  -- ---- one node
  pub followed_one : (nodes : List Node) (x : Node) (op : Op) (f : Applied State Op Query Reply) (object : State) → StandsAfter b start nodes f → x.thread < most_threads → length f.counts ≡ most_threads
      → x.number ≡ get_or f.counts x.thread 0 + 1 → b.op_at x.row ≡ Some op → object ≡ b.next f.object op
      → IsFollowed b start nodes x (record { object = object; followed = f.followed + 1; counts = set f.counts x.thread x.number })
  followed_one nodes x op f object s small many number is next =
      let n : x.number ≡ count_by (is_of_thread x.thread) nodes + 1 = number ∙ ap (λ (k : ℕ). k + 1) (s.counts x.thread small) in
      let own = count_own x.thread nodes x refl in
      let length_is = length-append nodes (x ∷ []) in
      let before = s.followed in
      record {
        number = eq-eqb _ _ n;
        operation = subst IsSome (sym is) refl;
        stands = record {
          object = next ∙ (ap (λ (z : State). b.next z op) s.object ∙ sym (state_snoc start nodes x ∙ ap (after_row b (state_after b start nodes)) is));
          followed = omega arith;
          counts = λ t few. dite (ℕ_discrete x.thread t)
              (λ (e : x.thread ≡ t). ap (λ (k : ℕ). get_or (set f.counts x.thread x.number) k 0) (sym e) ∙ (get_or-set_same f.counts x.thread x.number 0 (omega arith)
              ∙ (n ∙ (sym (own ∙ sym (Rattle.std.proofs.Common.add-one _)) ∙ ap (λ (k : ℕ). count_by (is_of_thread k) (nodes ++ x ∷ [])) e))))
              (λ (e : x.thread ≡ t → ⊥). get_or-set_other f.counts x.thread t x.number 0 (λ same. e (sym same)) ∙ (s.counts t few ∙ sym (count_other t nodes x e)));
        };
      }

  -- ---- nodes
  -- what a followed node leaves of those after it
  first_followed : (o : Option Op) (nodes xs : List Node) (x : Node) (t : Bool) → t ≡ true → IsSome o → (cond {A = List Node} t (where_some o (x ∷ xs)) [] ≡ x ∷ xs)
  first_followed None nodes xs x t e i = absurd (cc)
  first_followed (Some op) nodes xs x t e i = ap (λ (z : Bool). cond {A = List Node} z (x ∷ xs) []) e

  fault_followed : (o : Option Op) (rest other : Option FeedFault) (place : ℕ) (t : Bool) → t ≡ true → IsSome o → (cond {A = Option FeedFault} t (row_fault o place rest) other ≡ rest)
  fault_followed None rest other place t e i = absurd (cc)
  fault_followed (Some op) rest other place t e i = ap (λ (z : Bool). cond {A = Option FeedFault} z rest other) e

  -- and what one that is not followed leaves
  none_followed : (o : Option Op) (xs ys : List Node) (x : Node) (t : Bool) (rest : Option FeedFault) (place : ℕ) (e : FeedFault) → cond {A = Option FeedFault} t (row_fault o place None) (Some (Stray place)) ≡ Some e
      → (cond {A = List Node} t (where_some o ys) [] ≡ []) × (cond {A = Option FeedFault} t (row_fault o place rest) (Some (Stray place)) ≡ Some e)
  none_followed None xs ys x true rest place e h = (refl, h)
  none_followed (Some op) xs ys x true rest place e h = absurd (cc)
  none_followed o xs ys x false rest place e h = (refl, h)

  -- ---- the loop
  abbrev more_nodes : List (Option Node) → ℕ → List Node → List Node
  more_nodes slots room nodes = nodes_from (held_at slots) room (length nodes + 1)

  -- from these nodes it has come over some more, and what is left follows them
  pub record Comes (nodes : List Node) (room : ℕ) (slots : List (Option Node)) (f : Applied State Op Query Reply) : Type 0 where
    pub done : List Node
    pub rest : ℕ
    pub stands : StandsAfter b start (nodes ++ done) f
    pub within : length slots ≤ length (nodes ++ done) + rest
    pub followed : followed_above b nodes (more_nodes slots room nodes) ≡ done ++ followed_above b (nodes ++ done) (more_nodes slots rest (nodes ++ done))
    pub fault : node_fault_above b nodes (more_nodes slots room nodes) ≡ node_fault_above b (nodes ++ done) (more_nodes slots rest (nodes ++ done))

  pub comes_first : (nodes : List Node) (room : ℕ) (slots : List (Option Node)) (f : Applied State Op Query Reply) → StandsAfter b start nodes f → length slots ≤ length nodes + room → Comes nodes room slots f
  comes_first nodes room slots f s l = let e = append-nil nodes in record {
    done = [];
    rest = room;
    stands = subst (λ (ns : List Node). StandsAfter b start ns f) (sym e) s;
    within = subst (λ (ns : List Node). length slots ≤ length ns + room) (sym e) l;
    followed = ap (λ (ns : List Node). followed_above b ns (more_nodes slots room ns)) (sym e);
    fault = ap (λ (ns : List Node). node_fault_above b ns (more_nodes slots room ns)) (sym e);
  }

  -- a node that is held is the next one
  pub get_past : (slots : List (Option Node)) (q : ℕ) → length slots ≤ q → get_or slots q None ≡ None
  get_past [] q l = refl
  get_past (o ∷ os) zero l = absurd (omega arith)
  get_past (o ∷ os) (suc q) l = get_past os q (omega arith)

  next_node : (slots : List (Option Node)) (rest : ℕ) (nodes : List Node) (x : Node) → length slots ≤ length nodes + rest → held_at slots (length nodes + 1) ≡ Some x
      → (left : ℕ) × (rest ≡ suc left) × (more_nodes slots rest nodes ≡ x ∷ nodes_from (held_at slots) left (length nodes + 1 + 1))
  next_node slots zero nodes x l e = let k : length nodes + 1 ≡ suc (length nodes) = omega arith in
      let past : held_at slots (length nodes + 1) ≡ None = ap (held_at slots) k ∙ get_past slots (length nodes) (omega arith) in absurd (cc)
  next_node slots (suc left) nodes x l e = (left, refl, ap (λ (o : Option Node). node_then o (nodes_from (held_at slots) left (length nodes + 1 + 1))) e)

  pub comes_more : (nodes : List Node) (room : ℕ) (slots : List (Option Node)) (f g : Applied State Op Query Reply) (x : Node) (c : Comes nodes room slots f)
      → held_at slots (f.followed + 1) ≡ Some x → IsFollowed b start (nodes ++ c.done) x g → Comes nodes room slots g
  comes_more nodes room slots f g x c held is =
      let now : List Node = nodes ++ c.done in
      let at : f.followed + 1 ≡ length now + 1 = ap (λ (k : ℕ). k + 1) c.stands.followed in
      let next = next_node slots c.rest now x c.within (sym (ap (held_at slots) at) ∙ held) in
      let left : ℕ = next.0 in
      let joined : nodes ++ (c.done ++ x ∷ []) ≡ now ++ x ∷ [] = sym (append_assoc nodes c.done (x ∷ [])) in
      let l = length-append now (x ∷ []) in
      let k : length now + 1 + 1 ≡ length (now ++ x ∷ []) + 1 = omega arith in
      let r = next.1 in
      let w = c.within in
      let then : List Node = nodes_from (held_at slots) left (length now + 1 + 1) in
      let same : then ≡ more_nodes slots left (now ++ x ∷ []) = ap (nodes_from (held_at slots) left) k in
      let ys : List Node = followed_above b (now ++ x ∷ []) then in
      record {
        done = c.done ++ x ∷ [];
        rest = left;
        stands = subst (λ (ns : List Node). StandsAfter b start ns g) (sym joined) is.stands;
        within = subst (λ (ns : List Node). length slots ≤ length ns + left) (sym joined) (omega arith);
        followed = c.followed ∙ (ap (λ (ns : List Node). c.done ++ followed_above b now ns) next.2
            ∙ (ap (λ (ns : List Node). c.done ++ ns) (first_followed (b.op_at x.row) now ys x (number_follows now x) is.number is.operation)
            ∙ (sym (append_assoc c.done (x ∷ []) ys)
            ∙ (ap (λ (ns : List Node). (c.done ++ x ∷ []) ++ followed_above b (now ++ x ∷ []) ns) same
            ∙ ap (λ (ns : List Node). (c.done ++ x ∷ []) ++ followed_above b ns (more_nodes slots left ns)) (sym joined)))));
        fault = c.fault ∙ (ap (node_fault_above b now) next.2
            ∙ (fault_followed (b.op_at x.row) (node_fault_above b (now ++ x ∷ []) then) (Some (Stray (length now + 1))) (length now + 1) (number_follows now x) is.number is.operation
            ∙ (ap (node_fault_above b (now ++ x ∷ [])) same
            ∙ ap (λ (ns : List Node). node_fault_above b ns (more_nodes slots left ns)) (sym joined))));
      }

  -- where the next place holds none it is done
  pub comes_last : (nodes : List Node) (room : ℕ) (slots : List (Option Node)) (f : Applied State Op Query Reply) → Comes nodes room slots f → held_at slots (f.followed + 1) ≡ None
      → HasAdvanced b start nodes room slots (Ok tt) f
  comes_last nodes room slots f c none =
      let now : List Node = nodes ++ c.done in
      let at : f.followed + 1 ≡ length now + 1 = ap (λ (k : ℕ). k + 1) c.stands.followed in
      let no_more : more_nodes slots c.rest now ≡ [] = empty c.rest (length now + 1) (sym (ap (held_at slots) at) ∙ none) in
      let all : followed_above b nodes (more_nodes slots room nodes) ≡ c.done = c.followed ∙ (ap (λ (ns : List Node). c.done ++ followed_above b now ns) no_more ∙ append-nil c.done) in
      record {
        stands = subst (λ (ns : List Node). StandsAfter b start (nodes ++ ns) f) (sym all) c.stands;
        fault = c.fault ∙ ap (node_fault_above b now) no_more;
      }
    where
      empty : (rest p : ℕ) → held_at slots p ≡ None → nodes_from (held_at slots) rest p ≡ []
      empty zero p e = refl
      empty (suc rest) p e = ap (λ (o : Option Node). node_then o (nodes_from (held_at slots) rest (p + 1))) e

  -- and where the node there is not followed
  pub comes_stop : (nodes : List Node) (room : ℕ) (slots : List (Option Node)) (f g : Applied State Op Query Reply) (x : Node) (e : FeedFault) (c : Comes nodes room slots f)
      → held_at slots (f.followed + 1) ≡ Some x → IsNotFollowed b start (nodes ++ c.done) x e g → HasAdvanced b start nodes room slots (Err e) g
  comes_stop nodes room slots f g x e c held is =
      let now : List Node = nodes ++ c.done in
      let at : f.followed + 1 ≡ length now + 1 = ap (λ (k : ℕ). k + 1) c.stands.followed in
      let next = next_node slots c.rest now x c.within (sym (ap (held_at slots) at) ∙ held) in
      let then : List Node = nodes_from (held_at slots) next.0 (length now + 1 + 1) in
      let stops = none_followed (b.op_at x.row) now (x ∷ followed_above b (now ++ x ∷ []) then) x (number_follows now x) (node_fault_above b (now ++ x ∷ []) then) (length now + 1) e is.fault in
      let all : followed_above b nodes (more_nodes slots room nodes) ≡ c.done = c.followed ∙ (ap (λ (ns : List Node). c.done ++ followed_above b now ns) next.2 ∙ (ap (λ (ns : List Node). c.done ++ ns) stops.0 ∙ append-nil c.done)) in
      record {
        stands = subst (λ (ns : List Node). StandsAfter b start (nodes ++ ns) g) (sym all) is.stands;
        fault = c.fault ∙ (ap (node_fault_above b now) next.2 ∙ stops.1);
      }
