-- What is printed reads back, one part after the other.

use Rattle.std.proofs.Common.{ℕ, zero, suc, ◌≡◌, ◌+◌, ◌<◌, ◌≤◌, ◌^◌, Bool, true, false, List, [], ◌∷◌, Some, None, length, drop, get_or, map, sym, ap, ◌∙◌, subst, arith}
use Rattle.std.specs.List.{All, slice_get}
use Rattle.std.proofs.lemmas.List.{drop_more, drop_all}
use Rattle.std.proofs.lemmas.List.Elements.{All-cons, All-nil}
use Rattle.std.proofs.lemmas.Option.{same_Some}
use Rattle.onll_model.specs.declared.call.CallEnd.{CallEnd}
use Rattle.onll_merge.specs.declared.counts.LogCounts.{LogCounts}
use Rattle.onll_text.specs.Wording.{Wording}
use Rattle.onll_text.specs.Reports.{EndReads}
use Rattle.onll_task.specs.RecoverySaid.{HeldReads, held_with, held_of}

module _ {State Op Query Reply : Type 0} where
  -- one outcome before those that are left, and none where none is left
  pub end_reads : (w : Wording State Op Query Reply) (i : ℕ) (ends : List (CallEnd State Op Query Reply)) (end : CallEnd State Op Query Reply) → slice_get ends i ≡ Some end → EndReads w end
      → All (EndReads w) (drop (i + 1) ends) → All (EndReads w) (drop i ends)
  end_reads w i [] end e reads rest = cc e
  end_reads w zero (x ∷ ends) end e reads rest = All-cons (EndReads w) x ends (subst (EndReads w) (sym (same_Some x end e)) reads) rest
  end_reads w (suc i) (x ∷ ends) end e reads rest =
      let up : suc i + 1 ≡ suc (i + 1) = omega arith in
      end_reads w i ends end e reads (subst (λ j. All (EndReads w) (drop j (x ∷ ends))) up rest)

  pub no_end : (w : Wording State Op Query Reply) (i : ℕ) (ends : List (CallEnd State Op Query Reply)) → slice_get ends i ≡ None → All (EndReads w) (drop i ends)
  no_end w zero [] e = All-nil (EndReads w)
  no_end w (suc i) [] e = All-nil (EndReads w)
  no_end w zero (x ∷ ends) e = cc e
  no_end w (suc i) (x ∷ ends) e = no_end w i ends e

  pub ends_done : (w : Wording State Op Query Reply) (i : ℕ) (ends : List (CallEnd State Op Query Reply)) → length ends ≤ i → All (EndReads w) (drop i ends)
  ends_done w i ends most = subst (All (EndReads w)) (sym (drop_all i ends most)) (All-nil (EndReads w))

-- a log's numbers, where it has a head
held_reads : (head : Bool) (entries lines : ℕ) → entries < 2 ^ 64 → lines < 2 ^ 64 → HeldReads (held_with head entries lines)
held_reads false entries lines g h = tt
held_reads true entries lines g h = (g, h)

-- one of them before those of the rest
pub helds_more : (i : ℕ) (logs : List LogCounts) (none d : LogCounts) → i < length logs → d ≡ get_or logs i none → d.entries < 2 ^ 64 → d.lines < 2 ^ 64
    → All HeldReads (map held_of (drop (i + 1) logs)) → All HeldReads (map held_of (drop i logs))
helds_more i logs none d h same entries used rest =
    let left : drop i logs ≡ d ∷ drop (i + 1) logs = drop_more logs i none h ∙ ap (λ (y : LogCounts). y ∷ drop (i + 1) logs) (sym same) in
    subst (λ (l : List LogCounts). All HeldReads (map held_of l)) (sym left)
    (All-cons HeldReads (held_of d) (map held_of (drop (i + 1) logs)) (held_reads d.head d.entries d.lines entries used) rest)
