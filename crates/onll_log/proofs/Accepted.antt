-- What the test for an entry says, and what it makes of the lines.
use Rattle.std.proofs.Common.{ℕ, zero, suc, ◌≡◌, ◌≢◌, ◌+◌, ◌*◌, ◌≤◌, Bool, true, false, List, [], ◌∷◌, length, take, drop, sym, refl, ap, ◌∙◌, subst, ⊎_elim, eq-eqb, eqb-true, true≢false, ◌==◌, cond}
use Rattle.std.specs.Prelude.{◌&&◌}
use Rattle.std.proofs.lemmas.Bool.{leb-true, le-leb, cases_Bool}
use Rattle.onll_model.specs.Segment.{Segment}
use Rattle.onll_log.specs.declared.head.LogHead.{LogHead}
use Rattle.onll_log.specs.Head.{word}
use Rattle.onll_log.specs.Encoding.{entry_magic, guard}
use Rattle.onll_log.specs.Grammar.{same_words, all_named, is_entry, segment_of, entries_from}

-- ---- tests
pub both_true : (a b : Bool) → a && b ≡ true → (a ≡ true) × (b ≡ true)
both_true true b e = (refl, e)
both_true false b e = absurd (true≢false (sym e))

pub and_true : (a b : Bool) → a ≡ true → b ≡ true → a && b ≡ true
and_true a b e f = ap (λ (c : Bool). c && b) e ∙ f

pub same_words-equal : (xs ys : List ℕ) → same_words xs ys ≡ true → xs ≡ ys
same_words-equal [] [] e = refl
same_words-equal [] (y ∷ ys) e = absurd (true≢false (sym e))
same_words-equal (x ∷ xs) [] e = absurd (true≢false (sym e))
same_words-equal (x ∷ xs) (y ∷ ys) e = let h = both_true (x == y) (same_words xs ys) e in let here : x ≡ y = eqb-true x y h.0 in let rest : xs ≡ ys = same_words-equal xs ys h.1 in (cc)

pub same_words-self : (xs : List ℕ) → same_words xs xs ≡ true
same_words-self [] = refl
same_words-self (x ∷ xs) = and_true (x == x) (same_words xs xs) (eq-eqb x x refl) (same_words-self xs)

-- ---- an entry at a line
-- each part of the test as a statement
pub record Accepted (head : LogHead) (before : ℕ) (line : List ℕ) (rest : List (List ℕ)) : Type 0 where
  pub magic : word line 0 ≡ entry_magic
  pub own : word line 1 ≡ head.thread
  pub next : word line 2 ≡ before + 1
  pub some_nodes : 1 ≤ word line 4
  pub few_nodes : word line 4 ≤ head.threads
  pub from_one : word line 4 ≤ word line 3
  pub place : word line 3 ≤ 4096 * head.threads
  pub whole : word line 4 ≤ length rest
  pub named : all_named (4096 * head.threads) (take (word line 4) rest) ≡ true
  pub guarded : drop 5 line ≡ guard head (take 5 line) (take (word line 4) rest)

pub Accepted-if : (head : LogHead) (before : ℕ) (line : List ℕ) (rest : List (List ℕ)) → is_entry head before line rest ≡ true → Accepted head before line rest
Accepted-if head before line rest e =
    let a = both_true _ _ e in let b = both_true _ _ a.1 in let c = both_true _ _ b.1 in let d = both_true _ _ c.1 in let f = both_true _ _ d.1 in
    let g = both_true _ _ f.1 in let i = both_true _ _ g.1 in let j = both_true _ _ i.1 in let k = both_true _ _ j.1 in
    record {
      magic = eqb-true _ _ a.0;
      own = eqb-true _ _ b.0;
      next = eqb-true _ _ c.0;
      some_nodes = leb-true _ _ d.0;
      few_nodes = leb-true _ _ f.0;
      from_one = leb-true _ _ g.0;
      place = leb-true _ _ i.0;
      whole = leb-true _ _ j.0;
      named = k.0;
      guarded = same_words-equal _ _ k.1;
    }

pub is_entry-Accepted : (head : LogHead) (before : ℕ) (line : List ℕ) (rest : List (List ℕ)) → Accepted head before line rest → is_entry head before line rest ≡ true
is_entry-Accepted head before line rest f =
    and_true _ _ (eq-eqb _ _ f.magic) (and_true _ _ (eq-eqb _ _ f.own) (and_true _ _ (eq-eqb _ _ f.next) (and_true _ _ (le-leb _ _ f.some_nodes)
    (and_true _ _ (le-leb _ _ f.few_nodes) (and_true _ _ (le-leb _ _ f.from_one) (and_true _ _ (le-leb _ _ f.place) (and_true _ _ (le-leb _ _ f.whole)
    (and_true _ _ f.named (subst (λ (z : List ℕ). same_words (drop 5 line) z ≡ true) f.guarded (same_words-self (drop 5 line)))))))))))

-- ---- the entries of lines
-- where an entry is accepted it is the first, and the others follow its lines
pub entries_from-entry : (head : LogHead) (before : ℕ) (line : List ℕ) (rest : List (List ℕ)) → is_entry head before line rest ≡ true
    → entries_from head before 0 (line ∷ rest) ≡ segment_of line rest ∷ entries_from head (suc before) (word line 4) rest
entries_from-entry head before line rest e = ap (λ (b : Bool). cond {A = List Segment} b (segment_of line rest ∷ entries_from head (suc before) (word line 4) rest) []) e

-- where none is accepted the log ends
pub entries_from-none : (head : LogHead) (before : ℕ) (line : List ℕ) (rest : List (List ℕ)) → is_entry head before line rest ≡ false
    → entries_from head before 0 (line ∷ rest) ≡ []
entries_from-none head before line rest e = ap (λ (b : Bool). cond {A = List Segment} b (segment_of line rest ∷ entries_from head (suc before) (word line 4) rest) []) e

-- skipped lines are as good as dropped
pub entries_from-drop : (head : LogHead) (before skip : ℕ) (lines : List (List ℕ)) → entries_from head before skip lines ≡ entries_from head before 0 (drop skip lines)
entries_from-drop head before zero lines = refl
entries_from-drop head before (suc skip) [] = refl
entries_from-drop head before (suc skip) (l ∷ ls) = entries_from-drop head before skip ls

-- a line that doesn't begin with the entry's magic begins no entry
pub is_entry-no_magic : (head : LogHead) (before : ℕ) (line : List ℕ) (rest : List (List ℕ)) → word line 0 ≢ entry_magic → is_entry head before line rest ≡ false
is_entry-no_magic head before line rest n = ⊎_elim
    (λ (t : is_entry head before line rest ≡ true). absurd (n (Accepted-if head before line rest t).magic))
    (λ (e : is_entry head before line rest ≡ false). e)
    (cases_Bool (is_entry head before line rest))
