-- Lines that are written and handed over to the next fence.
use Rattle.std.proofs.Common.{ℕ, zero, suc, ◌≡◌, ◌+◌, ◌-◌, ◌<◌, ◌≤◌, ◌==◌, true, false, List, [], ◌∷◌, ◌++◌, length, get_or, set, replicate, take, sym, refl, ap, ◌∙◌, subst, arith, eqb-true}
use Rattle.std.specs.Prelude.{Option, Some, None}
use Rattle.std.proofs.lemmas.List.{ext_get_or, get_or-replicate, length-replicate, length-map, length-take-le, map_more}
use Rattle.std.proofs.Math.Seq.{get_or-append_right}
use Rattle.onll_words.specs.declared.line.Line.{Line}
use Rattle.onll_model.specs.declared.node.Node.{Node}
use Rattle.onll_model.specs.Names.{words_of_node}
use Rattle.onll_pmem.specs.Device.{line_at, zero_line, zero_lines}
use Rattle.onll_pmem.specs.Pmem.{Told, DeviceView, words_of, told_written, told_backed, ToldBacked, ToldSettled}
use Rattle.onll_pmem.proofs.Devices.{KeepsTold-backed}
use Rattle.onll_pmem.proofs.Lines.{length-words_of}
use Rattle.onll_log.specs.Encoding.{node_lines}
use Rattle.onll_log.specs.Grammar.{is_zero_line}
use Rattle.onll_log.specs.Log.{placed_lines, PutsLines}
use Rattle.onll_log.proofs.Accepted.{both_true}
use Rattle.onll_log.proofs.Placed.{placed_lines-one, placed_lines-append}

-- ---- lines of zeros
zero_words : (n : ℕ) (ws : List ℕ) → length ws ≡ n → is_zero_line ws ≡ true → ws ≡ replicate n 0
zero_words zero [] l e = refl
zero_words zero (w ∷ ws) l e = absurd (omega arith)
zero_words (suc n) [] l e = absurd (omega arith)
zero_words (suc n) (w ∷ ws) l e = let h = both_true (w == 0) (is_zero_line ws) e in let here : w ≡ 0 = eqb-true w 0 h.0 in let rest : ws ≡ replicate n 0 = zero_words n ws (omega arith) h.1 in (cc)

pub zero_line-test : (ws line : List ℕ) → ws ≡ line → length ws ≡ 8 → is_zero_line ws ≡ true → line ≡ zero_line
zero_line-test ws line e l t = sym e ∙ zero_words 8 ws l t

pub zero_lines-each : (lines : List (List ℕ)) → ((line : ℕ) → line < length lines → line_at lines line ≡ zero_line) → lines ≡ zero_lines (length lines)
zero_lines-each lines h = ext_get_or [] lines (zero_lines (length lines)) (sym (length-replicate (length lines) zero_line)) (λ line l. h line l ∙ sym (get_or-replicate (length lines) line zero_line [] l))

-- behind the lines that are held there are zeros
pub line_at-behind : (read : List (List ℕ)) (front : List Line) (line : ℕ) → read ≡ words_of front ++ zero_lines (length read - length front)
    → length front ≤ line → line < length read → line_at read line ≡ zero_line
line_at-behind read front line same behind within =
    let n : length (words_of front) ≡ length front = length-words_of front in
    ap (λ (ls : List (List ℕ)). line_at ls line) same
    ∙ (get_or-append_right (words_of front) (zero_lines (length read - length front)) line [] (omega arith)
    ∙ get_or-replicate (length read - length front) (line - length (words_of front)) zero_line [] (omega arith))

-- ---- one line
ToldSettled-put : (told : Option Told) (line : ℕ) (durable : List (List ℕ)) → ToldSettled told durable → ToldSettled (told_backed (told_written told line) line) durable
ToldSettled-put None line durable h t e = absurd (cc)
ToldSettled-put (Some u) line durable h t e = only (record u { backed = set (set u.backed line false) line true }) (h u refl) t e
  where
    only : (v : Told) → v.fenced ≡ durable → (w : Told) → Some v ≡ Some w → w.fenced ≡ durable
    only v here w same = let is : v ≡ w = (cc) in subst (λ (x : Told). x.fenced ≡ durable) is here

-- written and then written back
pub Puts-one : (old mid new : DeviceView) (line : ℕ) (value : List ℕ) → line < length old.read
    → mid.read ≡ set old.read line value → mid.fences ≡ old.fences → mid.faults ≡ old.faults → mid.told ≡ told_written old.told line
    → new.read ≡ mid.read → new.fences ≡ mid.fences → new.faults ≡ mid.faults → new.told ≡ told_backed mid.told line
    → PutsLines old new line (value ∷ [])
Puts-one old mid new line value l read fences faults told read2 fences2 faults2 told2 =
    let told_is : told_backed (told_written old.told line) line ≡ new.told = sym (told2 ∙ ap (λ (t : Option Told). told_backed t line) told) in
    let read_is : set old.read line value ≡ new.read = sym (read2 ∙ read) in
    record {
      read = sym read_is ∙ placed_lines-one old.read line value l;
      fences = fences2 ∙ fences;
      faults = faults2 ∙ faults;
      backed = λ a. subst (λ (t : Option Told). ToldBacked t new.read) told_is (subst (λ (ls : List (List ℕ)). ToldBacked (told_backed (told_written old.told line) line) ls) read_is ((KeepsTold-backed old.told old.read a).written line value));
      fenced = λ durable s. subst (λ (t : Option Told). ToldSettled t durable) told_is (ToldSettled-put old.told line durable s);
    }

pub Puts-then : (old mid new : DeviceView) (from next : ℕ) (xs ys : List (List ℕ)) → from + length xs ≤ length old.read → next ≡ from + length xs
    → PutsLines old mid from xs → PutsLines mid new next ys → PutsLines old new from (xs ++ ys)
Puts-then old mid new from next xs ys l e p q = record {
  read = q.read ∙ (ap (λ (ls : List (List ℕ)). placed_lines ls next ys) p.read ∙ (ap (λ (n : ℕ). placed_lines (placed_lines old.read from xs) n ys) e ∙ placed_lines-append old.read from xs ys l));
  fences = q.fences ∙ p.fences;
  faults = q.faults ∙ p.faults;
  backed = λ a. q.backed (p.backed a);
  fenced = λ durable s. q.fenced durable (p.fenced durable s);
}

-- the line of one node more
pub Puts-node : (old mid new : DeviceView) (from i : ℕ) (nodes : List Node) (d : Node) (value : List ℕ) → from + length nodes ≤ length old.read → i < length nodes → value ≡ words_of_node (get_or nodes i d)
    → PutsLines old mid from (node_lines (take i nodes)) → PutsLines mid new (from + i) (value ∷ []) → PutsLines old new from (node_lines (take (i + 1) nodes))
Puts-node old mid new from i nodes d value l i_in e p q =
    let so_far : length (node_lines (take i nodes)) ≡ i = length-map (take i nodes) words_of_node ∙ length-take-le i nodes (omega arith) in
    let to : node_lines (take i nodes) ++ value ∷ [] ≡ node_lines (take (i + 1) nodes) = ap (λ (v : List ℕ). node_lines (take i nodes) ++ v ∷ []) e ∙ sym (map_more words_of_node nodes i d i_in) in
    subst (PutsLines old new from) to (Puts-then old mid new from (from + i) (node_lines (take i nodes)) (value ∷ []) (omega arith) (omega arith) p q)
