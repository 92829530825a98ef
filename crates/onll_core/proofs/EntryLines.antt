use Rattle.std.proofs.Common.{ℕ, zero, suc, ◌≡◌, ◌≢◌, ◌+◌, ◌-◌, ◌<◌, ◌≤◌, List, [], ◌∷◌, length, get_or, sym, refl, ap, ◌∙◌, arith}
use Rattle.onll_model.specs.declared.node.Node.{Node}
use Rattle.onll_model.specs.Names.{words_of_node}
use Rattle.onll_model.specs.Segment.{Segment}
use Rattle.onll_pmem.specs.Device.{line_at}
use Rattle.onll_log.specs.declared.head.LogHead.{LogHead}
use Rattle.onll_log.specs.Encoding.{entry_line, entry_lines, node_lines}

-- An entry's lines, one by one.

pub first_line : (head : LogHead) (before : ℕ) (s : Segment) (line : ℕ) → line ≡ 0 → (w : List ℕ) → w ≡ entry_line head (before + 1 - 1) s → w ≡ line_at (entry_lines head before s) line
first_line head before s line zeroth w e =
    let n : before + 1 - 1 ≡ before = omega arith in
    e ∙ (ap (λ (m : ℕ). entry_line head m s) n ∙ sym (ap (line_at (entry_lines head before s)) zeroth))

node_line : (ns : List Node) (i : ℕ) (x : Node) → i < length ns → words_of_node (get_or ns i x) ≡ line_at (node_lines ns) i
node_line [] i x l = absurd (omega arith)
node_line (n ∷ ns) zero x l = refl
node_line (n ∷ ns) (suc i) x l = node_line ns i x (omega arith)

pub later_line : (head : LogHead) (before : ℕ) (s : Segment) (line : ℕ) → line ≢ 0 → line ≤ length s.nodes → (x : Node) (w : List ℕ) → w ≡ words_of_node (get_or s.nodes (line - 1) x) → w ≡ line_at (entry_lines head before s) line
later_line head before s line later within x w e =
    let n : line ≡ suc (line - 1) = omega arith in
    e ∙ (node_line s.nodes (line - 1) x (omega arith) ∙ sym (ap (line_at (entry_lines head before s)) n))
