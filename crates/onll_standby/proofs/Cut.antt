-- However a stream is cut, it comes to the same.
use Rattle.std.proofs.Common.{◌≡◌, ℕ, zero, suc, ◌+◌, ◌-◌, ◌*◌, ◌≤◌, Bool, true, false, List, [], ◌∷◌, ◌++◌, length, take, drop, refl, sym, ap, ◌∙◌, ⊎_elim, arith, Option, Some, None, length-append, ◌==◌}
use Rattle.std.specs.Prelude.{◌&&◌, nat_le, if◌then◌else◌, map}
use Rattle.std.proofs.lemmas.Bool.{le-leb, leb-true, cases_Bool}
use Rattle.std.proofs.lemmas.List.{take-append-le}
use Rattle.onll_model.specs.Object.{Behaviour}
use Rattle.onll_model.specs.Limits.{most_updates}
use Rattle.onll_log.specs.declared.head.LogHead.{LogHead}
use Rattle.onll_log.specs.Head.{word}
use Rattle.onll_log.specs.Encoding.{entry_magic, guard}
use Rattle.onll_log.specs.Grammar.{same_words, all_named, is_entry, node_of_line}
use Rattle.onll_standby.specs.declared.fault.FeedFault.{FeedFault}
use Rattle.onll_standby.specs.declared.fault.FeedFault.TheVariants.{Refused}
use Rattle.onll_standby.specs.Held.{HeldEntry, entry_fault, node_fault, nodes_followed}
use Rattle.onll_standby.specs.Stream.{Course, opens, is_whole, head_named, before_it, entry_of, byte_at, waits, shows, judged, entries_course}
use Rattle.onll_standby.specs.Laws.{goes_on}

-- ---- an entry whose lines are there is the same before more lines
-- the test for an entry, by whether its lines are there and by these lines
abbrev tested : LogHead → ℕ → List ℕ → Bool → List (List ℕ) → Bool
tested head before line there lines =
    (word line 0 == entry_magic)
    && ((word line 1 == head.thread)
    && ((word line 2 == before + 1)
    && (nat_le 1 (word line 4) && (nat_le (word line 4) head.threads
    && (nat_le (word line 4) (word line 3) && (nat_le (word line 3) (most_updates * head.threads)
    && (there
    && (all_named (most_updates * head.threads) lines
    && same_words (drop 5 line) (guard head (take 5 line) lines)))))))))

pub there_more : (n : ℕ) (ls more : List (List ℕ)) → n ≤ length ls → nat_le n (length (ls ++ more)) ≡ nat_le n (length ls)
there_more n ls more l = let k = length-append ls more in le-leb n (length (ls ++ more)) (omega arith) ∙ sym (le-leb n (length ls) l)

is_entry-more : (head : LogHead) (before : ℕ) (line : List ℕ) (ls more : List (List ℕ)) → word line 4 ≤ length ls → is_entry head before line (ls ++ more) ≡ is_entry head before line ls
is_entry-more head before line ls more l = let p = there_more (word line 4) ls more l in let q = take-append-le (word line 4) ls more l in λ i. tested head before line (p i) (q i)

is_whole-more : (o : Option LogHead) (before : ℕ) (line : List ℕ) (ls more : List (List ℕ)) → word line 4 ≤ length ls → is_whole o before line (ls ++ more) ≡ is_whole o before line ls
is_whole-more None before line ls more l = refl
is_whole-more (Some head) before line ls more l = is_entry-more head before line ls more l

entry_of-more : (line : List ℕ) (ls more : List (List ℕ)) → word line 4 ≤ length ls → entry_of line (ls ++ more) ≡ entry_of line ls
entry_of-more line ls more l = ap (λ (lines : List (List ℕ)). record { thread = word line 1; segment = record { place = word line 3; nodes = map node_of_line lines } }) (take-append-le (word line 4) ls more l)

module _ {State Op Query Reply : Type 0} (b : Behaviour State Op Query Reply) (heads : List LogHead) where
  -- ---- one step of the course
  -- by whether the header line can begin an entry, whether the entry's lines are there, and whether it is one; by its faults
  abbrev pub stepped : Bool → Bool → Bool → List HeldEntry → HeldEntry → ℕ → ℕ → Option FeedFault → Option FeedFault → List (List ℕ) → Course → Course
  stepped o w k es e at end f g waiting next =
      if o
      then (if w
      then (if k
      then judged b heads es e end f g next
      else shows b heads es (nodes_followed b (length heads) es) (Refused (byte_at at)) end)
      else waits b heads es waiting)
      else shows b heads es (nodes_followed b (length heads) es) (Refused (byte_at at)) (at + 1)

  -- what follows a whole entry goes on, and nothing follows a fault
  push : (o k : Bool) (es : List HeldEntry) (e : HeldEntry) (at end : ℕ) (f g : Option FeedFault) (waiting : List (List ℕ)) (next : Course) (more : List (List ℕ)) (all : ℕ)
      → stepped o true k es e at end f g waiting (goes_on b heads next.shown next more all)
      ≡ goes_on b heads (stepped o true k es e at end f g waiting next).shown (stepped o true k es e at end f g waiting next) more all
  push false k es e at end f g waiting next more all = refl
  push true false es e at end f g waiting next more all = refl
  push true true es e at end (Some fault) g waiting next more all = refl
  push true true es e at end None (Some fault) waiting next more all = refl
  push true true es e at end None None waiting next more all = refl

  -- where the entry's lines are not there yet, it is begun again once there are more
  wait : (o k : Bool) (es : List HeldEntry) (e : HeldEntry) (at end : ℕ) (f g : Option FeedFault) (l : List ℕ) (ls : List (List ℕ)) (next : Course) (more : List (List ℕ)) (whole : Course)
      → entries_course b heads es at 0 (l ∷ (ls ++ more)) ≡ whole
      → (o ≡ false → whole ≡ shows b heads es (nodes_followed b (length heads) es) (Refused (byte_at at)) (at + 1))
      → whole ≡ goes_on b heads (stepped o false k es e at end f g (l ∷ ls) next).shown (stepped o false k es e at end f g (l ∷ ls) next) more (at + suc (length ls) - 0)
  wait false k es e at end f g l ls next more whole is stops = stops refl
  wait true k es e at end f g l ls next more whole is stops =
      let n : at + suc (length ls) - 0 - suc (length ls) ≡ at = omega arith in
      sym is ∙ ap (λ (m : ℕ). entries_course b heads es m 0 (l ∷ (ls ++ more))) (sym n)

  -- one line that may begin an entry, and the lines that follow it
  module _ (es : List HeldEntry) (at : ℕ) (x : List ℕ) (ls more : List (List ℕ)) where
    abbrev opened : Bool
    opened = opens (head_named heads x) (before_it es x) x

    abbrev count : ℕ
    count = word x 4

    -- the step over any lines that follow
    abbrev step_over : Bool → List (List ℕ) → Course
    step_over w lines = stepped opened w (is_whole (head_named heads x) (before_it es x) x lines) es (entry_of x lines) at (at + suc count)
        (entry_fault es (byte_at at) (entry_of x lines)) (node_fault b (length heads) (es ++ entry_of x lines ∷ [])) (x ∷ lines)
        (entries_course b heads (es ++ entry_of x lines ∷ []) (at + suc count) count lines)

    cut_there : count ≤ length ls
        → entries_course b heads (es ++ entry_of x ls ∷ []) (at + suc count) count (ls ++ more)
        ≡ goes_on b heads (entries_course b heads (es ++ entry_of x ls ∷ []) (at + suc count) count ls).shown (entries_course b heads (es ++ entry_of x ls ∷ []) (at + suc count) count ls) more (at + suc count + length ls - count)
        → entries_course b heads es at 0 (x ∷ (ls ++ more))
        ≡ goes_on b heads (entries_course b heads es at 0 (x ∷ ls)).shown (entries_course b heads es at 0 (x ∷ ls)) more (at + suc (length ls) - 0)
    cut_there le later =
        let t : nat_le count (length ls) ≡ true = le-leb count (length ls) le in
        let w : nat_le count (length (ls ++ more)) ≡ true = there_more count ls more le ∙ t in
        let k = is_whole-more (head_named heads x) (before_it es x) x ls more le in
        let e : entry_of x (ls ++ more) ≡ entry_of x ls = entry_of-more x ls more le in
        let X : Course = entries_course b heads (es ++ entry_of x ls ∷ []) (at + suc count) count ls in
        let m : ℕ = at + suc (length ls) - 0 in
        let n : at + suc count + length ls - count ≡ m = omega arith in
        let next : entries_course b heads (es ++ entry_of x (ls ++ more) ∷ []) (at + suc count) count (ls ++ more) ≡ goes_on b heads X.shown X more m =
        ap (λ (z : HeldEntry). entries_course b heads (es ++ z ∷ []) (at + suc count) count (ls ++ more)) e ∙ (later ∙ ap (goes_on b heads X.shown X more) n) in
        let left : step_over (nat_le count (length (ls ++ more))) (ls ++ more)
        ≡ stepped opened true (is_whole (head_named heads x) (before_it es x) x ls) es (entry_of x ls) at (at + suc count)
        (entry_fault es (byte_at at) (entry_of x ls)) (node_fault b (length heads) (es ++ entry_of x ls ∷ [])) (x ∷ (ls ++ more)) (goes_on b heads X.shown X more m) =
        λ i. stepped opened (w i) (k i) es (e i) at (at + suc count) (entry_fault es (byte_at at) (e i)) (node_fault b (length heads) (es ++ e i ∷ [])) (x ∷ (ls ++ more)) (next i) in
        let right : step_over (nat_le count (length ls)) ls ≡ step_over true ls = ap (λ (z : Bool). step_over z ls) t in
        left ∙ (push opened (is_whole (head_named heads x) (before_it es x) x ls) es (entry_of x ls) at (at + suc count)
        (entry_fault es (byte_at at) (entry_of x ls)) (node_fault b (length heads) (es ++ entry_of x ls ∷ [])) (x ∷ ls) X more m
        ∙ ap (λ (c : Course). goes_on b heads c.shown c more m) (sym right))

    cut_not_there : nat_le count (length ls) ≡ false
        → entries_course b heads es at 0 (x ∷ (ls ++ more))
        ≡ goes_on b heads (entries_course b heads es at 0 (x ∷ ls)).shown (entries_course b heads es at 0 (x ∷ ls)) more (at + suc (length ls) - 0)
    cut_not_there t =
        let m : ℕ = at + suc (length ls) - 0 in
        let right : step_over (nat_le count (length ls)) ls ≡ step_over false ls = ap (λ (z : Bool). step_over z ls) t in
        wait opened (is_whole (head_named heads x) (before_it es x) x ls) es (entry_of x ls) at (at + suc count)
        (entry_fault es (byte_at at) (entry_of x ls)) (node_fault b (length heads) (es ++ entry_of x ls ∷ [])) x ls
        (entries_course b heads (es ++ entry_of x ls ∷ []) (at + suc count) count ls) more
        (entries_course b heads es at 0 (x ∷ (ls ++ more))) refl
        (λ (q : opened ≡ false). ap (λ (z : Bool). stepped z (nat_le count (length (ls ++ more))) (is_whole (head_named heads x) (before_it es x) x (ls ++ more)) es (entry_of x (ls ++ more)) at (at + suc count)
        (entry_fault es (byte_at at) (entry_of x (ls ++ more))) (node_fault b (length heads) (es ++ entry_of x (ls ++ more) ∷ [])) (x ∷ (ls ++ more))
        (entries_course b heads (es ++ entry_of x (ls ++ more) ∷ []) (at + suc count) count (ls ++ more))) q)
        ∙ ap (λ (c : Course). goes_on b heads c.shown c more m) (sym right)

  -- ---- the whole course
  pub cut : (es : List HeldEntry) (at skip : ℕ) (lines more : List (List ℕ)) → skip ≤ length lines
      → entries_course b heads es at skip (lines ++ more)
      ≡ goes_on b heads (entries_course b heads es at skip lines).shown (entries_course b heads es at skip lines) more (at + length lines - skip)
  cut es at zero [] more l = let n : at + 0 - 0 - 0 ≡ at = omega arith in ap (λ (m : ℕ). entries_course b heads es m 0 more) (sym n)
  cut es at (suc skip) [] more l = absurd (omega arith)
  cut es at (suc skip) (x ∷ ls) more l =
      let c : Course = entries_course b heads es at skip ls in
      let n : at + length ls - skip ≡ at + suc (length ls) - suc skip = omega arith in
      cut es at skip ls more (omega arith) ∙ ap (goes_on b heads c.shown c more) n
  cut es at zero (x ∷ ls) more l = ⊎_elim
      (λ (t : nat_le (word x 4) (length ls) ≡ true). let le = leb-true (word x 4) (length ls) t in
      cut_there es at x ls more le (cut (es ++ entry_of x ls ∷ []) (at + suc (word x 4)) (word x 4) ls more le))
      (λ (t : nat_le (word x 4) (length ls) ≡ false). cut_not_there es at x ls more t)
      (cases_Bool (nat_le (word x 4) (length ls)))

  pub cut_lines : (es : List HeldEntry) (at : ℕ) (lines more : List (List ℕ))
      → entries_course b heads es at 0 (lines ++ more)
      ≡ goes_on b heads (entries_course b heads es at 0 lines).shown (entries_course b heads es at 0 lines) more (at + length lines)
  cut_lines es at lines more = let c : Course = entries_course b heads es at 0 lines in let n : at + length lines - 0 ≡ at + length lines = omega arith in
      cut es at 0 lines more (omega arith) ∙ ap (goes_on b heads c.shown c more) n
