-- One line more of a stream.
use Rattle.std.proofs.Common.{◌≡◌, ℕ, zero, suc, ◌+◌, ◌-◌, ◌<◌, ◌≤◌, Bool, true, false, List, [], ◌∷◌, ◌++◌, length, get_or, sym, refl, ap, ◌∙◌, arith, Option, Some, None, cond, length-append}
use Rattle.std.specs.Prelude.{nat_le}
use Rattle.std.proofs.lemmas.Bool.{lt-leb}
use Rattle.onll_model.specs.Object.{Behaviour}
use Rattle.onll_log.specs.declared.head.LogHead.{LogHead}
use Rattle.onll_log.specs.Head.{word, head_line}
use Rattle.onll_log.specs.Grammar.{same_words}
use Rattle.onll_standby.specs.declared.fault.FeedFault.TheVariants.{NotThisRun, Refused}
use Rattle.onll_standby.specs.Held.{HeldEntry, nodes_followed, node_fault, entry_fault}
use Rattle.onll_standby.specs.Stream.{Course, Shown, foreign_line, opens, is_whole, head_named, before_it, entry_of, byte_at, waits, shows, entries_course, after_heads, lines_course}
use Rattle.onll_standby.specs.Laws.{goes_on}
use Rattle.onll_standby.proofs.Cut.{stepped, cut}

-- ---- header lines
tested : (t : Bool) (rest : Option ℕ) (i : ℕ) → cond {A = Option ℕ} t rest (Some i) ≡ None → (t ≡ true) × (rest ≡ None)
tested true rest i e = (refl, e)
tested false rest i e = absurd (cc)

foreign_none : (i : ℕ) (hs : List LogHead) → foreign_line i hs [] ≡ None
foreign_none i [] = refl
foreign_none i (h ∷ hs) = refl

pub foreign_more : (i : ℕ) (hs : List LogHead) (ls : List (List ℕ)) (l : List ℕ) (d : LogHead) → foreign_line i hs ls ≡ None → length ls < length hs
    → foreign_line i hs (ls ++ l ∷ []) ≡ cond {A = Option ℕ} (same_words l (head_line (get_or hs (length ls) d))) None (Some (i + length ls))
foreign_more i [] ls l d e low = absurd (omega arith)
foreign_more i (h ∷ hs) [] l d e low = let n : i ≡ i + 0 = omega arith in let r = foreign_none (suc i) hs in λ j. cond {A = Option ℕ} (same_words l (head_line h)) (r j) (Some (n j))
foreign_more i (h ∷ hs) (x ∷ ls) l d e low =
    let t = tested (same_words x (head_line h)) (foreign_line (suc i) hs ls) i e in
    let rest = foreign_more (suc i) hs ls l d t.1 (omega arith) in
    let n : suc i + length ls ≡ i + suc (length ls) = omega arith in
    ap (λ (b : Bool). cond {A = Option ℕ} b (foreign_line (suc i) hs (ls ++ l ∷ [])) (Some i)) t.0
    ∙ (rest ∙ ap (λ (k : ℕ). cond {A = Option ℕ} (same_words l (head_line (get_or hs (length ls) d))) None (Some k)) n)

pub foreign_long : (i : ℕ) (hs : List LogHead) (ls more : List (List ℕ)) → length hs ≤ length ls → foreign_line i hs (ls ++ more) ≡ foreign_line i hs ls
foreign_long i [] ls more l = refl
foreign_long i (h ∷ hs) [] more l = absurd (omega arith)
foreign_long i (h ∷ hs) (x ∷ ls) more l = ap (λ (o : Option ℕ). cond {A = Option ℕ} (same_words x (head_line h)) o (Some i)) (foreign_long (suc i) hs ls more (omega arith))

module _ {State Op Query Reply : Type 0} (b : Behaviour State Op Query Reply) (heads : List LogHead) where
  by_foreign : (o : Option ℕ) (ls : List (List ℕ)) → (after_heads b heads o ls).shown ≡ None → o ≡ None
  by_foreign None ls e = refl
  by_foreign (Some i) ls e = absurd (cc)

  -- lines without a fault begin with the header lines
  pub no_foreign : (ls : List (List ℕ)) → (lines_course b heads ls).shown ≡ None → foreign_line 0 heads ls ≡ None
  no_foreign ls e = by_foreign (foreign_line 0 heads ls) ls e

  -- no entry yet
  pub short_course : (es : List HeldEntry) (at skip : ℕ) (ls : List (List ℕ)) → length ls ≤ skip → entries_course b heads es at skip ls ≡ waits b heads es []
  short_course es at skip [] l = refl
  short_course es at zero (x ∷ ls) l = absurd (omega arith)
  short_course es at (suc skip) (x ∷ ls) l = short_course es at skip ls (omega arith)

  module _ (ls : List (List ℕ)) (l : List ℕ) (clean : (lines_course b heads ls).shown ≡ None) where
    -- one header line more
    pub heads_course : length ls ≤ length heads → lines_course b heads ls ≡ waits b heads [] []
    heads_course few = ap (λ (o : Option ℕ). after_heads b heads o ls) (no_foreign ls clean) ∙ short_course [] (length heads) (length heads) ls few

    pub head_more : (d : LogHead) → length ls < length heads → same_words l (head_line (get_or heads (length ls) d)) ≡ true → lines_course b heads (ls ++ l ∷ []) ≡ waits b heads [] []
    head_more d few same =
        let n = length-append ls (l ∷ []) in
        let f : foreign_line 0 heads (ls ++ l ∷ []) ≡ None = foreign_more 0 heads ls l d (no_foreign ls clean) few ∙ ap (λ (t : Bool). cond {A = Option ℕ} t None (Some (0 + length ls))) same in
        ap (λ (o : Option ℕ). after_heads b heads o (ls ++ l ∷ [])) f ∙ short_course [] (length heads) (length heads) (ls ++ l ∷ []) (omega arith)

    pub head_foreign : (d : LogHead) → length ls < length heads → same_words l (head_line (get_or heads (length ls) d)) ≡ false
        → lines_course b heads (ls ++ l ∷ []) ≡ shows b heads [] [] (NotThisRun (length ls)) (length ls + 1)
    head_foreign d few other =
        let z : 0 + length ls ≡ length ls = omega arith in
        let f : foreign_line 0 heads (ls ++ l ∷ []) ≡ Some (length ls) = foreign_more 0 heads ls l d (no_foreign ls clean) few
        ∙ (ap (λ (t : Bool). cond {A = Option ℕ} t None (Some (0 + length ls))) other ∙ ap (λ (k : ℕ). Some k) z) in
        ap (λ (o : Option ℕ). after_heads b heads o (ls ++ l ∷ [])) f

    -- one line more after the header lines: only the lines of the unfinished entry are looked at again
    pub line_more : length heads ≤ length ls → lines_course b heads (ls ++ l ∷ [])
        ≡ entries_course b heads (lines_course b heads ls).entries (length ls - length (lines_course b heads ls).rest) 0 ((lines_course b heads ls).rest ++ l ∷ [])
    line_more all =
        let n : ℕ = length heads in
        let c : Course = entries_course b heads [] n n ls in
        let none = no_foreign ls clean in
        let is : lines_course b heads ls ≡ c = ap (λ (o : Option ℕ). after_heads b heads o ls) none in
        let k : n + length ls - n ≡ length ls = omega arith in
        let still : c.shown ≡ None = sym (ap (λ (z : Course). z.shown) is) ∙ clean in
        ap (λ (o : Option ℕ). after_heads b heads o (ls ++ l ∷ [])) (foreign_long 0 heads ls (l ∷ []) all ∙ none)
        ∙ (cut b heads [] n n ls (l ∷ []) all
        ∙ (ap (λ (o : Option Shown). goes_on b heads o c (l ∷ []) (n + length ls - n)) still
        ∙ (ap (λ (m : ℕ). entries_course b heads c.entries (m - length c.rest) 0 (c.rest ++ l ∷ [])) k
        ∙ ap (λ (z : Course). entries_course b heads z.entries (length ls - length z.rest) 0 (z.rest ++ l ∷ [])) (sym is))))

  -- ---- an entry that is not whole
  -- its header line can begin one of its log or not
  pub opened_course : (es : List HeldEntry) (at : ℕ) (l : List ℕ) → 1 ≤ word l 4 → opens (head_named heads l) (before_it es l) l ≡ true → entries_course b heads es at 0 (l ∷ []) ≡ waits b heads es (l ∷ [])
  opened_course es at l some o =
      let w : nat_le (word l 4) 0 ≡ false = lt-leb (word l 4) 0 (omega arith) in
      λ i. stepped b heads (o i) (w i) (is_whole (head_named heads l) (before_it es l) l []) es (entry_of l []) at (at + suc (word l 4)) (entry_fault es (byte_at at) (entry_of l []))
      (node_fault b (length heads) (es ++ entry_of l [] ∷ [])) (l ∷ []) (entries_course b heads (es ++ entry_of l [] ∷ []) (at + suc (word l 4)) (word l 4) [])

  pub refused_course : (es : List HeldEntry) (at : ℕ) (l : List ℕ) → opens (head_named heads l) (before_it es l) l ≡ false
      → entries_course b heads es at 0 (l ∷ []) ≡ shows b heads es (nodes_followed b (length heads) es) (Refused (byte_at at)) (at + 1)
  refused_course es at l o =
      λ i. stepped b heads (o i) (nat_le (word l 4) 0) (is_whole (head_named heads l) (before_it es l) l []) es (entry_of l []) at (at + suc (word l 4)) (entry_fault es (byte_at at) (entry_of l []))
      (node_fault b (length heads) (es ++ entry_of l [] ∷ [])) (l ∷ []) (entries_course b heads (es ++ entry_of l [] ∷ []) (at + suc (word l 4)) (word l 4) [])

  pub unfinished_course : (es : List HeldEntry) (at : ℕ) (h : List ℕ) (ns : List (List ℕ)) → length ns < word h 4 → opens (head_named heads h) (before_it es h) h ≡ true → entries_course b heads es at 0 (h ∷ ns) ≡ waits b heads es (h ∷ ns)
  unfinished_course es at h ns few o =
      let w : nat_le (word h 4) (length ns) ≡ false = lt-leb (word h 4) (length ns) few in
      λ i. stepped b heads (o i) (w i) (is_whole (head_named heads h) (before_it es h) h ns) es (entry_of h ns) at (at + suc (word h 4)) (entry_fault es (byte_at at) (entry_of h ns))
      (node_fault b (length heads) (es ++ entry_of h ns ∷ [])) (h ∷ ns) (entries_course b heads (es ++ entry_of h ns ∷ []) (at + suc (word h 4)) (word h 4) ns)
