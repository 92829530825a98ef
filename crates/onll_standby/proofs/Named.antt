-- Node lines whose names are those of a run.
use Rattle.std.proofs.Common.{◌≡◌, ℕ, zero, suc, ◌+◌, ◌<◌, true, List, [], ◌∷◌, length, get_or, set, take, drop, map, ap, subst, arith}
use Rattle.std.specs.List.{All}
use Rattle.std.proofs.lemmas.Bool.{leb-true}
use Rattle.std.proofs.lemmas.List.{drop_more}
use Rattle.onll_words.specs.declared.line.Line.{Line}
use Rattle.onll_model.specs.declared.node.Node.{Node}
use Rattle.onll_pmem.specs.Pmem.{words_of}
use Rattle.onll_log.specs.Head.{word}
use Rattle.onll_log.specs.Grammar.{all_named, node_of_line}
use Rattle.onll_log.proofs.Accepted.{both_true}
use Rattle.onll_standby.specs.Places.{IsOfRun}

pub named_of_run : (ls : List (List ℕ)) → all_named 65536 ls ≡ true → All IsOfRun (map node_of_line ls)
named_of_run [] e k d l = absurd (omega arith)
named_of_run (x ∷ ls) e zero d l = let a = both_true _ _ e in let b = both_true _ _ a.1 in let low = leb-true 1 (word x 0) a.0 in let high = leb-true (word x 0) 65536 b.0 in omega arith
named_of_run (x ∷ ls) e (suc k) d l = let a = both_true _ _ e in let b = both_true _ _ a.1 in named_of_run ls b.1 k d (omega arith)

pub named_rest : (ls : List Line) (i : ℕ) (d : Line) → i < length ls → all_named 65536 (words_of (drop i ls)) ≡ true → all_named 65536 (words_of (drop (i + 1) ls)) ≡ true
named_rest ls i d l e = let h : all_named 65536 (words_of (get_or ls i d ∷ drop (i + 1) ls)) ≡ true = subst (λ (z : List Line). all_named 65536 (words_of z) ≡ true) (drop_more ls i d l) e in
    (both_true _ _ (both_true _ _ h).1).1

-- a node more of the lines so far
set_next : (xs : List Node) (ls : List Line) (i : ℕ) (x : Node) (d : Line) → i < length xs → i < length ls → take i xs ≡ map node_of_line (words_of (take i ls)) → x ≡ node_of_line (get_or ls i d).w
    → take (suc i) (set xs i x) ≡ map node_of_line (words_of (take (suc i) ls))
set_next [] ls i x d a b h e = absurd (omega arith)
set_next (y ∷ ys) [] i x d a b h e = absurd (omega arith)
set_next (y ∷ ys) (l ∷ ls) zero x d a b h e = ap (λ (z : Node). z ∷ []) e
set_next (y ∷ ys) (l ∷ ls) (suc i) x d a b h e = let here : y ≡ node_of_line l.w = (cc) in let rest : take i ys ≡ map node_of_line (words_of (take i ls)) = (cc) in
    let more = set_next ys ls i x d (omega arith) (omega arith) rest e in λ j. here j ∷ more j

pub set_more : (xs : List Node) (ls : List Line) (i : ℕ) (x : Node) (d : Line) → i < length xs → i < length ls → take i xs ≡ map node_of_line (words_of (take i ls)) → x ≡ node_of_line (get_or ls i d).w
    → take (i + 1) (set xs i x) ≡ map node_of_line (words_of (take (i + 1) ls))
set_more xs ls i x d a b h e = let k : suc i ≡ i + 1 = omega arith in subst (λ (n : ℕ). take n (set xs i x) ≡ map node_of_line (words_of (take n ls))) k (set_next xs ls i x d a b h e)
