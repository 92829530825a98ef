use Rattle.std.proofs.Common.{ℕ, suc, Bool, true, false, List, [], ◌∷◌, ◌++◌, ◌≡◌, ◌+◌, ◌^◌, ◌<◌, ◌≤◌, ◌==◌, ◌&&◌, nat_lt, cond, length, map, decimal, codes, replicate, slice_set, All, refl, sym, ap, ◌∙◌, arith, inl, inr, Ok, Result, append_assoc, length-append, drop}
use Rattle.std.proofs.Math.Seq.{get_or-append_seam, set-append_seam}
use Rattle.std.proofs.lemmas.List.Elements.{All-head, All-tail}
use Rattle.std.proofs.lemmas.Bool.{cases_lt}
use Rattle.std.proofs.lemmas.Bool.Decides.{nat_tests}
use Rattle.onll_words.specs.Texts.{Numbered, numbered, joined, AreWords}
use Rattle.onll_lease.specs.declared.entry.LeaseEntry.{LeaseEntry}
use Rattle.onll_lease.specs.Entry.{IsEntry, OfNumbers, no_lease}
use Rattle.onll_lease.specs.Lease.{IsLease, entry_at}
use Rattle.onll_text.specs.declared.reason.Reason.{Reason}
use Rattle.onll_text.specs.declared.reason.Reason.TheVariants.{OutOfRange, Repeated}
use Rattle.onll_text.specs.declared.any_object.AnyObject.TheVariants as objects
use Rattle.onll_text.specs.declared.any_object.Kind.TheVariants as kinds
use Rattle.onll_text.specs.Refusal.{Refusal, ◌>>=◌, only_if, at_line}
use Rattle.onll_text.specs.LeaseText.{held_line, entry_lines, held_lines, entry_of, with_held, with_held_line}
use Rattle.onll_text.specs.LeaseLaws.{lease_in_lines, lease_is_short}
use Rattle.onll_text.specs.CallKind.{calls_of}
use Rattle.onll_text.specs.Init.{head_of}
use Rattle.onll_text.specs.Making.{after_lines}
use Rattle.onll_text.specs.ReadBack.{ReadsBack}
use Rattle.onll_text.specs.WordsAgain.{four_numbers-decimal}
use Rattle.onll_text.proofs.ReadBack.{capacity_of-decimal, after_lines-joined, init_of-flat_map, within_text}
use Rattle.std.proofs.lemmas.List.{drop_more}
use Rattle.onll_words.proofs.Decimals.{IsWord-decimal}
use Rattle.onll_text.specs.Bytes.{with_lines}
use Rattle.onll_text.proofs.Appending.{with_lines-append}

-- ---- the lines as they are put
pub held_line_in_words : (r : ℕ) (e : LeaseEntry) → AreWords (held_line r e)
held_line_in_words r e =
    (record { some = refl; bytes = refl }, (IsWord-decimal r, (IsWord-decimal e.token, (IsWord-decimal e.holder, (IsWord-decimal e.until, tt)))))

-- the lines of one resource before those of the rest
pub held_lines_more : (bytes : List ℕ) (entries : List LeaseEntry) (r : ℕ) → r < length entries
    → with_lines (with_lines bytes (entry_lines r (entry_at entries r))) (held_lines (r + 1) (drop (r + 1) entries)) ≡ with_lines bytes (held_lines r (drop r entries))
held_lines_more bytes entries r h =
    sym (with_lines-append bytes (entry_lines r (entry_at entries r)) (held_lines (r + 1) (drop (r + 1) entries)))
    ∙ sym (ap (λ t. with_lines bytes (held_lines r t)) (drop_more entries r no_lease h))

from_zero : (n : ℕ) → n ≤ 4096 → 0 + n ≤ 4096
from_zero n h = omega arith

-- the first line

head_of-lease : (n : ℕ) → 1 ≤ n → n ≤ 4096 → head_of (codes "lease" ∷ decimal n ∷ []) ≡ Ok (record { kind = kinds.Lease; capacity = n })
head_of-lease n least greatest = ap (λ (v : Result ℕ Reason). v >>= λ k. Ok (record { kind = kinds.Lease; capacity = k })) (capacity_of-decimal n least greatest)

-- the lines of the resources

-- the first resources have their entries, and n more were never granted
abbrev so_far : List LeaseEntry → ℕ → List LeaseEntry
so_far done n = done ++ replicate n no_lease

-- a resource that is in range and unnamed is put in
with_held-fits : (made : List LeaseEntry) (r : ℕ) (e : LeaseEntry) → (nat_lt r (length made) && nat_lt 0 e.token) ≡ true → ((entry_at made r).token == 0) ≡ true
    → with_held made r e ≡ Ok (slice_set made r e)
with_held-fits made r e e₁ e₂ =
    ap (λ t. only_if t OutOfRange made >>= (λ m. only_if ((entry_at m r).token == 0) Repeated (slice_set m r e))) e₁
    ∙ ap (λ t. only_if t Repeated (slice_set made r e)) e₂

next_in_range : (done : List LeaseEntry) (n t : ℕ) → 1 ≤ t → (nat_lt (length done) (length (so_far done (suc n))) && nat_lt 0 t) ≡ true
next_in_range done n t h =
    let more : length done < length (so_far done (suc n)) = omega (arith, length-append done (no_lease ∷ replicate n no_lease)) in
    grind (arith, nat_tests)

next_unnamed : (done : List LeaseEntry) (n : ℕ) → ((entry_at (so_far done (suc n)) (length done)).token == 0) ≡ true
next_unnamed done n = ap (λ (e : LeaseEntry). e.token == 0) (get_or-append_seam done no_lease (replicate n no_lease) no_lease)

next_set : (done : List LeaseEntry) (n : ℕ) (e : LeaseEntry) → slice_set (so_far done (suc n)) (length done) e ≡ so_far (done ++ e ∷ []) n
next_set done n e = set-append_seam done no_lease (replicate n no_lease) e ∙ sym (append_assoc done (e ∷ []) (replicate n no_lease))

-- the next resource's line puts its entry in
next_held : (done : List LeaseEntry) (n : ℕ) (e : LeaseEntry) → 1 ≤ e.token → OfNumbers e → length done < 2 ^ 64
    → with_held_line (so_far done (suc n)) (held_line (length done) e) ≡ Ok (so_far (done ++ e ∷ []) n)
next_held done n e given h few =
    let made : List LeaseEntry = so_far done (suc n) in
    ap (λ (v : Result (ℕ × ℕ × ℕ × ℕ) Reason). v >>= λ q. with_held made q.0 (entry_of q.1 q.2 q.3)) (four_numbers-decimal (length done) e.token e.holder e.until few h.token h.holder h.until)
    ∙ with_held-fits made (length done) e (next_in_range done n e.token given) (next_unnamed done n)
    ∙ ap (λ (t : List LeaseEntry). Ok t) (next_set done n e)

-- a resource that was never granted is as it was made
never_granted : (e : LeaseEntry) → e.token ≡ 0 → IsEntry e → e ≡ no_lease
never_granted e t h = ap (λ n. entry_of n e.holder e.until) t ∙ ap (λ n. entry_of 0 n e.until) (h t).0 ∙ ap (λ n. entry_of 0 0 n) (h t).1

left_out : (done : List LeaseEntry) (n : ℕ) (e : LeaseEntry) → e ≡ no_lease → so_far done (suc n) ≡ so_far (done ++ e ∷ []) n
left_out done n e same = ap (λ (x : LeaseEntry). done ++ x ∷ replicate n no_lease) (sym same) ∙ sym (append_assoc done (e ∷ []) (replicate n no_lease))

-- the lines of one resource, and then those of the rest
next_entry : (k : ℕ) (done : List LeaseEntry) (e : LeaseEntry) (n : ℕ) (rest : List (List (List ℕ))) (all : List LeaseEntry) → IsEntry e → OfNumbers e → length done < 2 ^ 64
    → ((j : ℕ) → after_lines with_held_line (so_far (done ++ e ∷ []) n) (numbered j (map joined rest)) ≡ Ok all)
    → after_lines with_held_line (so_far done (suc n)) (numbered k (map joined (entry_lines (length done) e ++ rest))) ≡ Ok all
next_entry k done e n rest all valid h few more =
    let made : List LeaseEntry = so_far done (suc n) in
    let read : Bool → Result (List LeaseEntry) Refusal =
    λ b. after_lines with_held_line made (numbered k (map joined (cond b [] (held_line (length done) e ∷ []) ++ rest))) in
    elim (cases_lt 0 e.token) [
      | inl given ↦
          let test : (e.token == 0) ≡ false = grind (arith, nat_tests) in
          let lines : List Numbered = numbered (k + 1) (map joined rest) in
          ap read test
          ∙ after_lines-joined with_held_line made k (held_line (length done) e) lines (held_line_in_words (length done) e)
          ∙ ap (λ (v : Result (List LeaseEntry) Reason). at_line k v >>= λ m. after_lines with_held_line m lines) (next_held done n e (omega arith) h few)
          ∙ more (k + 1)
      | inr none ↦
          let zero : e.token ≡ 0 = omega arith in
          let test : (e.token == 0) ≡ true = grind (arith, nat_tests) in
          ap read test
          ∙ ap (λ (m : List LeaseEntry). after_lines with_held_line m (numbered k (map joined rest))) (left_out done n e (never_granted e zero valid))
          ∙ more k
    ]

-- the lines of the resources that are left put their entries in
after_lines-held : (k : ℕ) (done es : List LeaseEntry) → length done + length es ≤ 4096 → All IsEntry es → All OfNumbers es
    → after_lines with_held_line (so_far done (length es)) (numbered k (map joined (held_lines (length done) es))) ≡ Ok (done ++ es)
after_lines-held k done [] few valid h = refl
after_lines-held k done (e ∷ es) few valid h =
    let a : length (done ++ e ∷ []) ≡ length done + 1 = omega (arith, length-append done (e ∷ [])) in
    let more : (j : ℕ) → after_lines with_held_line (so_far (done ++ e ∷ []) (length es)) (numbered j (map joined (held_lines (length done + 1) es))) ≡ Ok (done ++ e ∷ es) =
    λ j. ap (λ r. after_lines with_held_line (so_far (done ++ e ∷ []) (length es)) (numbered j (map joined (held_lines r es)))) (sym a)
    ∙ after_lines-held j (done ++ e ∷ []) es (omega arith) (All-tail IsEntry e es valid) (All-tail OfNumbers e es h)
    ∙ ap (λ (t : List LeaseEntry). Ok t) (append_assoc done (e ∷ []) es) in
    next_entry k done e (length es) (held_lines (length done + 1) es) (done ++ e ∷ es) (All-head IsEntry e es valid) (All-head OfNumbers e es h) (omega arith) more

-- what is printed of a lease table reads as that table
pub lease_reads_back : (s : List LeaseEntry) → IsLease s → ReadsBack (calls_of kinds.Lease).wording objects.Lease s
lease_reads_back s h =
    init_of-flat_map (codes "lease" ∷ decimal (length s) ∷ []) (held_lines 0 s) (record { kind = kinds.Lease; capacity = length s }) (lease_in_lines s) (within_text (lease_is_short s h)) (head_of-lease (length s) h.least h.greatest)
    ∙ ap (λ (v : Result (List LeaseEntry) Refusal). v >>= λ entries. Ok (objects.Lease entries)) (after_lines-held 2 [] s (from_zero (length s) h.greatest) h.valid h.numbers)
