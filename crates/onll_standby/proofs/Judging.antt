-- What is found of an entry against what is held.
use Rattle.std.proofs.Common.{◌≡◌, ℕ, ◌+◌, ◌-◌, ◌<◌, ◌≤◌, Bool, true, false, List, [], ◌∷◌, ◌++◌, length, get_or, set, sym, refl, ap, subst, ◌∙◌, arith, Option, Some, None, cond, append-nil, length-append, eq-eqb, ne_eqb}
use Rattle.std.specs.Prelude.{Ok, Err}
use Rattle.std.specs.Option.{option_map}
use Rattle.std.proofs.lemmas.Bool.{le-leb}
use Rattle.std.proofs.lemmas.List.{get_or-set_same, get_or-set_other, length-set}
use mathlib.Core.Logic.{dite}
use native.Mathlib.Decide.{ℕ_discrete}
use Rattle.onll_model.specs.declared.node.Node.{Node}
use Rattle.onll_model.specs.Object.{Behaviour}
use Rattle.onll_model.specs.Limits.{most_threads}
use Rattle.onll_model.specs.Segment.{Segment, last_place}
use Rattle.onll_model.proofs.Segments.{last_snoc}
use Rattle.onll_standby.specs.declared.fault.FeedFault.{FeedFault}
use Rattle.onll_standby.specs.declared.fault.FeedFault.TheVariants.{Disorder, Clash}
use Rattle.onll_standby.specs.declared.applied.Applied.{Applied}
use Rattle.onll_standby.specs.declared.holdings.LogTail.{LogTail}
use Rattle.onll_standby.specs.declared.holdings.Holdings.{Holdings}
use Rattle.onll_standby.specs.Held.{HeldEntry, log_held, node_held, greatest_place, covered, nodes_followed, node_fault, clash_among, clash_with, goes_up, entry_fault}
use Rattle.onll_standby.specs.Places.{held_at, with_nodes}
use Rattle.onll_standby.specs.Applied.{StandsAfter, HasAdvanced}
use Rattle.onll_standby.specs.Holdings.{AreLogTails, AreHeldNodes, KeepsEntries, StopsAtNode}
use Rattle.onll_standby.proofs.Entries.{log_held-append}
use Rattle.onll_standby.proofs.OneMore.{clash-alike, covered_more, put_alike}

-- ---- the fault of an entry
pub fault_clash : (es : List HeldEntry) (at : ℕ) (e : HeldEntry) (last : ℕ) (slots : List (Option Node)) (o : Option ℕ) → last ≡ last_place 0 (log_held e.thread es)
    → last + length e.segment.nodes ≤ e.segment.place → AreHeldNodes es slots → o ≡ clash_among (held_at slots) (e.segment.place - length e.segment.nodes + 1) e.segment.nodes
    → option_map (Clash at) o ≡ entry_fault es at e
fault_clash es at e last slots o is up alike asked =
    let s : Segment = e.segment in
    let from : s.place - length s.nodes + 1 ≡ s.place + 1 - length s.nodes = omega arith in
    let goes : goes_up es e ≡ true = le-leb (last_place 0 (log_held e.thread es) + length s.nodes) s.place (omega arith) in
    let clash : o ≡ clash_with es s = asked ∙ (clash-alike (held_at slots) (node_held es) alike (s.place - length s.nodes) s.nodes ∙ ap (λ (p : ℕ). clash_among (node_held es) p s.nodes) from) in
    ap (option_map (Clash at)) clash ∙ sym (ap (λ (t : Bool). cond {A = Option FeedFault} t (option_map (Clash at) (clash_with es s)) (Some (Disorder at))) goes)

-- an entry without a fault clashes with none
no_fault : (t : Bool) (o : Option ℕ) (at : ℕ) → cond {A = Option FeedFault} t (option_map (Clash at) o) (Some (Disorder at)) ≡ None → o ≡ None
no_fault true None at e = refl
no_fault true (Some p) at e = absurd (cc)
no_fault false o at e = absurd (cc)

pub no_clash_of : (es : List HeldEntry) (at : ℕ) (e : HeldEntry) → entry_fault es at e ≡ None → clash_with es e.segment ≡ None
no_clash_of es at e h = no_fault (goes_up es e) (clash_with es e.segment) at h

-- ---- the ends of the logs
log_other : (t : ℕ) (es : List HeldEntry) (e : HeldEntry) → (e.thread ≡ t → ⊥) → log_held t (es ++ e ∷ []) ≡ log_held t es
log_other t es e n = log_held-append t es (e ∷ []) ∙ (ap (λ (b : Bool). log_held t es ++ (cond {A = List Segment} b (e.segment ∷ []) [] ++ [])) (ne_eqb e.thread t n) ∙ append-nil (log_held t es))

log_own : (t : ℕ) (es : List HeldEntry) (e : HeldEntry) → e.thread ≡ t → log_held t (es ++ e ∷ []) ≡ log_held t es ++ e.segment ∷ []
log_own t es e n = log_held-append t es (e ∷ []) ∙ ap (λ (b : Bool). log_held t es ++ (cond {A = List Segment} b (e.segment ∷ []) [] ++ [])) (eq-eqb e.thread t n)

pub logs_more : (es : List HeldEntry) (e : HeldEntry) (logs : List LogTail) (entries : ℕ) → AreLogTails es logs → length logs ≡ most_threads → e.thread < most_threads
    → ((d : LogTail) → entries ≡ (get_or logs e.thread d).entries + 1)
    → AreLogTails (es ++ e ∷ []) (set logs e.thread (record { entries = entries; last = e.segment.place }))
logs_more es e logs entries are many small count t d few = dite (ℕ_discrete e.thread t)
    (λ (own : e.thread ≡ t).
    let before = are e.thread d small in
    let log = log_own t es e own in
    let n : length (log_held t (es ++ e ∷ [])) ≡ length (log_held t es) + 1 = ap (λ (l : List Segment). length l) log ∙ length-append (log_held t es) (e.segment ∷ []) in
    let k : entries ≡ length (log_held t es) + 1 = count d ∙ (ap (λ (z : LogTail). z.entries + 1) before ∙ ap (λ (u : ℕ). length (log_held u es) + 1) own) in
    let last : last_place 0 (log_held t (es ++ e ∷ [])) ≡ e.segment.place = ap (last_place 0) log ∙ last_snoc 0 (log_held t es) e.segment in
    ap (λ (u : ℕ). get_or (set logs e.thread (record { entries = entries; last = e.segment.place })) u d) (sym own)
    ∙ (get_or-set_same logs e.thread (record { entries = entries; last = e.segment.place }) d (omega arith)
    ∙ (λ i. record { entries = (k ∙ sym n) i; last = sym last i })))
    (λ (other : e.thread ≡ t → ⊥).
    let log = log_other t es e other in
    get_or-set_other logs e.thread t (record { entries = entries; last = e.segment.place }) d (λ same. other (sym same))
    ∙ (are t d few ∙ (λ i. record { entries = length (sym log i); last = last_place 0 (sym log i) })))

-- ---- slots that are filled
pub long : (os : List (Option Node)) (below : ℕ) (xs : List Node) → length (with_nodes os below xs) ≡ length os
long os below [] = refl
long os below (x ∷ xs) = long (set os below (Some x)) (below + 1) xs ∙ length-set os below (Some x)

-- ---- one entry more
module _ {State Op Query Reply : Type 0} (b : Behaviour State Op Query Reply) (start : State) (threads : ℕ) (es : List HeldEntry) (e : HeldEntry) (at : ℕ)
    (old : Holdings State Op Query Reply) (keeps : KeepsEntries b start threads es old) (no : entry_fault es at e ≡ None)
    (low : length e.segment.nodes ≤ e.segment.place) (high : e.segment.place ≤ length old.places) where
  abbrev slots : List (Option Node)
  slots = with_nodes old.places (e.segment.place - length e.segment.nodes) e.segment.nodes

  abbrev HasRoom : List (Option Node) → Type 0
  HasRoom given = length given ≤ length (covered threads es) + (greatest_place threads - length (covered threads es))

  abbrev left : ℕ
  left = greatest_place threads - length (covered threads es)

  alike : AreHeldNodes (es ++ e ∷ []) slots
  alike = put_alike old.places es e keeps.places low high (no_clash_of es at e no)

  pub room : length slots ≤ length (covered threads es) + left
  room = let n = long old.places (e.segment.place - length e.segment.nodes) e.segment.nodes in let r = keeps.room in omega arith

  -- all nodes that are covered then are followed
  pub admitted : (applied : Applied State Op Query Reply) (logs : List LogTail) (held : ℕ) → HasAdvanced b start (covered threads es) left slots (Ok tt) applied → AreLogTails (es ++ e ∷ []) logs → held ≡ old.held + 1
      → KeepsEntries b start threads (es ++ e ∷ []) (record { applied = applied; places = slots; logs = logs; held = held })
  admitted applied logs held a are count =
      let c = covered_more b threads es e slots keeps.clean alike in
      let n = long old.places (e.segment.place - length e.segment.nodes) e.segment.nodes in let r = keeps.room in let h = keeps.held in let l = length-append es (e ∷ []) in
      let clean : node_fault b threads (es ++ e ∷ []) ≡ None = c.1 ∙ a.fault in
      let all : nodes_followed b threads (es ++ e ∷ []) ≡ covered threads (es ++ e ∷ []) = Rattle.onll_standby.proofs.OneMore.followed-all b [] (covered threads (es ++ e ∷ [])) clean in
      record {
        logs = are;
        places = alike;
        room = omega arith;
        held = omega arith;
        applied = subst (λ (ns : List Node). StandsAfter b start ns applied) (sym c.0 ∙ all) a.stands;
        clean = clean;
      }

  -- one of them is not
  pub stopped : (applied : Applied State Op Query Reply) (logs : List LogTail) (f : FeedFault) → HasAdvanced b start (covered threads es) left slots (Err f) applied
      → StopsAtNode b start threads es e f (record { applied = applied; places = slots; logs = logs; held = old.held })
  stopped applied logs f a =
      let c = covered_more b threads es e slots keeps.clean alike in
      record {
        fault = c.1 ∙ a.fault;
        held = keeps.held;
        applied = subst (λ (ns : List Node). StandsAfter b start ns applied) (sym c.0) a.stands;
      }

  -- the same of slots that are given by an equation
  pub admitted_in : (given : List (Option Node)) → given ≡ slots → (applied : Applied State Op Query Reply) (logs : List LogTail) (held : ℕ) → (HasRoom given → HasAdvanced b start (covered threads es) left given (Ok tt) applied)
      → AreLogTails (es ++ e ∷ []) logs → held ≡ old.held + 1 → KeepsEntries b start threads (es ++ e ∷ []) (record { applied = applied; places = given; logs = logs; held = held })
  admitted_in given is applied logs held a are count =
      let r : HasRoom given = subst HasRoom (sym is) room in
      let P : List (Option Node) → Type 0 = λ z. HasAdvanced b start (covered threads es) left z (Ok tt) applied in
      let Q : List (Option Node) → Type 0 = λ z. KeepsEntries b start threads (es ++ e ∷ []) (record { applied = applied; places = z; logs = logs; held = held }) in
      subst Q (sym is) (admitted applied logs held (subst P is (a r)) are count)

  pub stopped_in : (given : List (Option Node)) → given ≡ slots → (applied : Applied State Op Query Reply) (logs : List LogTail) (f : FeedFault) → (HasRoom given → HasAdvanced b start (covered threads es) left given (Err f) applied)
      → StopsAtNode b start threads es e f (record { applied = applied; places = given; logs = logs; held = old.held })
  stopped_in given is applied logs f a =
      let r : HasRoom given = subst HasRoom (sym is) room in
      let P : List (Option Node) → Type 0 = λ z. HasAdvanced b start (covered threads es) left z (Err f) applied in
      let Q : List (Option Node) → Type 0 = λ z. StopsAtNode b start threads es e f (record { applied = applied; places = z; logs = logs; held = old.held }) in
      subst Q (sym is) (stopped applied logs f (subst P is (a r)))
