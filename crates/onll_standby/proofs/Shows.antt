-- Which faults a stream shows, and what is followed of one that shows none.
use Rattle.std.proofs.Common.{◌≡◌, ℕ, zero, suc, ◌+◌, Bool, true, false, List, [], ◌∷◌, ◌++◌, length, refl, ap, subst, ◌∙◌, Option, Some, None, cond, IfSome, ◌≢◌}
use Rattle.std.specs.Prelude.{nat_le}
use Rattle.std.specs.Option.{option_map}
use Rattle.onll_model.specs.declared.node.Node.{Node}
use Rattle.onll_model.specs.Object.{Behaviour}
use Rattle.onll_log.specs.declared.head.LogHead.{LogHead}
use Rattle.onll_log.specs.Head.{word}
use Rattle.onll_log.specs.ImageFile.{whole_lines}
use Rattle.onll_standby.specs.declared.fault.FeedFault.{FeedFault}
use Rattle.onll_standby.specs.declared.fault.FeedFault.TheVariants.{NoMemory, Disorder, Clash, Stray}
use Rattle.onll_standby.specs.Held.{HeldEntry, greatest_place, covered, number_follows, row_fault, node_fault_above, nodes_followed, node_fault, clash_with, goes_up, entry_fault}
use Rattle.onll_standby.specs.Stream.{Course, Shown, opens, is_whole, head_named, before_it, entry_of, byte_at, foreign_line, entries_course, after_heads, course}
use Rattle.onll_standby.proofs.Cut.{stepped}
use Rattle.onll_standby.proofs.OneMore.{followed-all}
use Rattle.onll_standby.proofs.Stepping.{empty_nodes}

-- ---- want of memory is none of them
abbrev IsOther : Option FeedFault → Type 0
IsOther o = IfSome o (λ f. f ≢ NoMemory)

abbrev ShowsOther : Option Shown → Type 0
ShowsOther o = IfSome o (λ x. x.fault ≢ NoMemory)

entry_other : (t : Bool) (o : Option ℕ) (at : ℕ) → IsOther (cond {A = Option FeedFault} t (option_map (Clash at) o) (Some (Disorder at)))
entry_other true None at = tt
entry_other true (Some p) at = λ e. absurd (cc)
entry_other false o at = λ e. absurd (cc)

module _ {State Op Query Reply : Type 0} (b : Behaviour State Op Query Reply) where
  node_other : (below xs : List Node) → IsOther (node_fault_above b below xs)
  node_other below [] = tt
  node_other below (x ∷ xs) = by_number (number_follows below x) (b.op_at x.row) (node_other (below ++ x ∷ []) xs)
    where
      by_number : (t : Bool) (o : Option Op) → IsOther (node_fault_above b (below ++ x ∷ []) xs) → IsOther (cond {A = Option FeedFault} t (row_fault o (length below + 1) (node_fault_above b (below ++ x ∷ []) xs)) (Some (Stray (length below + 1))))
      by_number true (Some op) later = later
      by_number true None later = λ e. absurd (cc)
      by_number false o later = λ e. absurd (cc)

  module _ (heads : List LogHead) where
    step_other : (o w k : Bool) (es : List HeldEntry) (e : HeldEntry) (at end : ℕ) (f g : Option FeedFault) (waiting : List (List ℕ)) (next : Course)
        → IsOther f → IsOther g → ShowsOther next.shown → ShowsOther (stepped b heads o w k es e at end f g waiting next).shown
    step_other false w k es e at end f g waiting next p q r = λ i. absurd (cc)
    step_other true false k es e at end f g waiting next p q r = tt
    step_other true true false es e at end f g waiting next p q r = λ i. absurd (cc)
    step_other true true true es e at end (Some fault) g waiting next p q r = p
    step_other true true true es e at end None (Some fault) waiting next p q r = q
    step_other true true true es e at end None None waiting next p q r = r

    entries_other : (es : List HeldEntry) (at skip : ℕ) (ls : List (List ℕ)) → ShowsOther (entries_course b heads es at skip ls).shown
    entries_other es at skip [] = tt
    entries_other es at (suc skip) (l ∷ ls) = entries_other es at skip ls
    entries_other es at zero (l ∷ ls) =
        step_other (opens (head_named heads l) (before_it es l) l) (nat_le (word l 4) (length ls)) (is_whole (head_named heads l) (before_it es l) l ls)
        es (entry_of l ls) at (at + suc (word l 4)) (entry_fault es (byte_at at) (entry_of l ls)) (node_fault b (length heads) (es ++ entry_of l ls ∷ [])) (l ∷ ls)
        (entries_course b heads (es ++ entry_of l ls ∷ []) (at + suc (word l 4)) (word l 4) ls)
        (entry_other (goes_up es (entry_of l ls)) (clash_with es (entry_of l ls).segment) (byte_at at))
        (node_other [] (covered (length heads) (es ++ entry_of l ls ∷ [])))
        (entries_other (es ++ entry_of l ls ∷ []) (at + suc (word l 4)) (word l 4) ls)

    heads_other : (o : Option ℕ) (ls : List (List ℕ)) → ShowsOther (after_heads b heads o ls).shown
    heads_other (Some i) ls = λ e. absurd (cc)
    heads_other None ls = entries_other [] (length heads) (length heads) ls

    pub never_memory : (bytes : List ℕ) (x : Shown) → (course b heads bytes).shown ≡ Some x → x.fault ≢ NoMemory
    never_memory bytes x e = subst ShowsOther e (heads_other (foreign_line 0 heads (whole_lines bytes)) (whole_lines bytes))

    -- ---- without a fault all that is covered is followed
    record IsClean (c : Course) : Type 0 where
      clean : node_fault b (length heads) c.entries ≡ None
      nodes : c.nodes ≡ nodes_followed b (length heads) c.entries

    step_clean : (o w k : Bool) (es : List HeldEntry) (e : HeldEntry) (at end : ℕ) (f g : Option FeedFault) (waiting : List (List ℕ)) (next : Course)
        → node_fault b (length heads) es ≡ None → (g ≡ None → next.shown ≡ None → IsClean next)
        → (stepped b heads o w k es e at end f g waiting next).shown ≡ None → IsClean (stepped b heads o w k es e at end f g waiting next)
    step_clean false w k es e at end f g waiting next c r i = absurd (cc)
    step_clean true false k es e at end f g waiting next c r i = record { clean = c; nodes = refl }
    step_clean true true false es e at end f g waiting next c r i = absurd (cc)
    step_clean true true true es e at end (Some fault) g waiting next c r i = absurd (cc)
    step_clean true true true es e at end None (Some fault) waiting next c r i = absurd (cc)
    step_clean true true true es e at end None None waiting next c r i = r refl i

    entries_clean : (es : List HeldEntry) (at skip : ℕ) (ls : List (List ℕ)) → node_fault b (length heads) es ≡ None
        → (entries_course b heads es at skip ls).shown ≡ None → IsClean (entries_course b heads es at skip ls)
    entries_clean es at skip [] c i = record { clean = c; nodes = refl }
    entries_clean es at (suc skip) (l ∷ ls) c i = entries_clean es at skip ls c i
    entries_clean es at zero (l ∷ ls) c i =
        step_clean (opens (head_named heads l) (before_it es l) l) (nat_le (word l 4) (length ls)) (is_whole (head_named heads l) (before_it es l) l ls)
        es (entry_of l ls) at (at + suc (word l 4)) (entry_fault es (byte_at at) (entry_of l ls)) (node_fault b (length heads) (es ++ entry_of l ls ∷ [])) (l ∷ ls)
        (entries_course b heads (es ++ entry_of l ls ∷ []) (at + suc (word l 4)) (word l 4) ls) c
        (λ g j. entries_clean (es ++ entry_of l ls ∷ []) (at + suc (word l 4)) (word l 4) ls g j) i

    none_first : node_fault b (length heads) [] ≡ None
    none_first = ap (node_fault_above b []) (empty_nodes (greatest_place (length heads)))

    heads_clean : (o : Option ℕ) (ls : List (List ℕ)) → (after_heads b heads o ls).shown ≡ None → IsClean (after_heads b heads o ls)
    heads_clean (Some i) ls e = absurd (cc)
    heads_clean None ls e = entries_clean [] (length heads) (length heads) ls none_first e

    pub follows_covered : (bytes : List ℕ) → (course b heads bytes).shown ≡ None → (course b heads bytes).nodes ≡ covered (length heads) (course b heads bytes).entries
    follows_covered bytes e =
        let k = heads_clean (foreign_line 0 heads (whole_lines bytes)) (whole_lines bytes) e in
        k.nodes ∙ followed-all b [] (covered (length heads) (course b heads bytes).entries) k.clean
