-- Which lines of an image decide what it holds.

use Rattle.std.proofs.Common.{ℕ, zero, suc, ◌≡◌, ◌+◌, ◌*◌, ◌≤◌, ◌&&◌, Bool, true, false, true≢false, List, [], ◌∷◌, ◌++◌, length, max, take, cond, Option, Some, None, refl, sym, ap, ◌∙◌, subst, arith, ⊎_elim, nat_le, map}
use Rattle.std.specs.Prelude.{IsSome}
use Rattle.std.proofs.lemmas.Bool.{cases_Bool}
use Rattle.std.proofs.lemmas.List.{take-append-le, length-take, length-take-le, length-map, length-append}
use Rattle.onll_pmem.specs.Device.{zero_line, zero_lines}
use Rattle.onll_model.specs.Segment.{Segment}
use Rattle.onll_log.specs.declared.head.LogHead.{LogHead}
use Rattle.onll_log.specs.Head.{word, is_head, head_of}
use Rattle.onll_log.specs.Encoding.{guard}
use Rattle.onll_log.specs.Grammar.{Content, all_named, is_entry, segment_of, node_of_line, entries_from, lines_in, is_zero_line, are_zero_lines, content_of, format_in}
use Rattle.onll_log.specs.Tested.{used_in}
use Rattle.onll_log.proofs.Accepted.{Accepted-if, is_entry-Accepted, is_entry-no_magic, entries_from-entry, entries_from-none, both_true}

-- ---- an entry before other lines
-- what accepts an entry looks at the lines of its nodes alone
accepted_before : (head : LogHead) (before : ℕ) (l : List ℕ) (rest other : List (List ℕ)) → is_entry head before l rest ≡ true
    → word l 4 ≤ length other → take (word l 4) other ≡ take (word l 4) rest → is_entry head before l other ≡ true
accepted_before head before l rest other e whole same =
    let a = Accepted-if head before l rest e in
    is_entry-Accepted head before l other (record {
      magic = a.magic;
      own = a.own;
      next = a.next;
      some_nodes = a.some_nodes;
      few_nodes = a.few_nodes;
      from_one = a.from_one;
      place = a.place;
      whole = whole;
      named = ap (all_named (4096 * head.threads)) same ∙ a.named;
      guarded = a.guarded ∙ ap (guard head (take 5 l)) (sym same);
    })

segment_before : (l : List ℕ) (rest other : List (List ℕ)) → take (word l 4) other ≡ take (word l 4) rest → segment_of l other ≡ segment_of l rest
segment_before l rest other same = ap (λ (ls : List (List ℕ)). let s : Segment = record { place = word l 3; nodes = map node_of_line ls } in s) same

-- a front of a longer front
take_front : {A : Type 0} (k n : ℕ) (xs : List A) → k ≤ n → take k (take n xs) ≡ take k xs
take_front zero n xs h = refl
take_front (suc k) zero xs h = absurd (omega arith)
take_front (suc k) (suc n) [] h = refl
take_front (suc k) (suc n) (x ∷ xs) h = ap (λ l. x ∷ l) (take_front k n xs (omega arith))

-- ---- the entries of the lines that they take
cut_entries : (head : LogHead) (before skip : ℕ) (ls : List (List ℕ)) → entries_from head before skip (take (skip + lines_in (entries_from head before skip ls)) ls) ≡ entries_from head before skip ls
cut_entries head before zero [] = refl
cut_entries head before (suc skip) [] =
    let up : suc skip + 0 ≡ suc skip = omega arith in ap (λ (n : ℕ). entries_from head before (suc skip) (take n (let none : List (List ℕ) = [] in none))) up
cut_entries head before (suc skip) (l ∷ ls) =
    let m = lines_in (entries_from head before skip ls) in
    let up : suc skip + m ≡ suc (skip + m) = omega arith in
    ap (λ (n : ℕ). entries_from head before (suc skip) (take n (l ∷ ls))) up ∙ cut_entries head before skip ls
cut_entries head before zero (l ∷ ls) = ⊎_elim (accepted (cut_entries head (suc before) (word l 4) ls)) refused (cases_Bool (is_entry head before l ls))
  where
    more : List Segment
    more = entries_from head (suc before) (word l 4) ls

    front : List (List ℕ)
    front = take (word l 4 + lines_in more) ls

    accepted : entries_from head (suc before) (word l 4) (take (word l 4 + lines_in more) ls) ≡ more → is_entry head before l ls ≡ true → entries_from head before zero (take (0 + lines_in (entries_from head before zero (l ∷ ls))) (l ∷ ls)) ≡ entries_from head before zero (l ∷ ls)
    accepted rest t =
        let a = Accepted-if head before l ls t in
        let all = entries_from-entry head before l ls t in
        let nodes : length (segment_of l ls).nodes ≡ word l 4 = length-map (take (word l 4) ls) node_of_line ∙ length-take-le (word l 4) ls a.whole in
        let lines : 0 + lines_in (entries_from head before zero (l ∷ ls)) ≡ suc (word l 4 + lines_in more) = omega (arith, ap lines_in all, nodes) in
        let same : take (word l 4) front ≡ take (word l 4) ls = take_front (word l 4) (word l 4 + lines_in more) ls (omega arith) in
        let whole : word l 4 ≤ length front = let w = a.whole in omega (arith, length-take (word l 4 + lines_in more) ls) in
        let there = accepted_before head before l ls front t whole same in
        ap (λ (n : ℕ). entries_from head before zero (take n (l ∷ ls))) lines
        ∙ (entries_from-entry head before l front there
        ∙ (ap (λ (s : Segment). s ∷ entries_from head (suc before) (word l 4) front) (segment_before l ls front same)
        ∙ (ap (λ (ss : List Segment). segment_of l ls ∷ ss) rest ∙ sym all)))

    refused : is_entry head before l ls ≡ false → entries_from head before zero (take (0 + lines_in (entries_from head before zero (l ∷ ls))) (l ∷ ls)) ≡ entries_from head before zero (l ∷ ls)
    refused f =
        let none = entries_from-none head before l ls f in
        let lines : 0 + lines_in (entries_from head before zero (l ∷ ls)) ≡ 0 = omega (arith, ap lines_in none) in
        ap (λ (n : ℕ). entries_from head before zero (take n (l ∷ ls))) lines ∙ sym none

-- ---- zeros at the end
zeros_entries : (head : LogHead) (before skip n : ℕ) → entries_from head before skip (zero_lines n) ≡ []
zeros_entries head before zero zero = refl
zeros_entries head before (suc skip) zero = refl
zeros_entries head before zero (suc n) = entries_from-none head before zero_line (zero_lines n) (is_entry-no_magic head before zero_line (zero_lines n) (λ e. omega arith))
zeros_entries head before (suc skip) (suc n) = zeros_entries head before skip n

-- lines that have names end before zeros
named_before : (top k n : ℕ) (ls : List (List ℕ)) → all_named top (take k (ls ++ zero_lines n)) ≡ true → k ≤ length (ls ++ zero_lines n) → k ≤ length ls
named_before top zero n ls e h = omega arith
named_before top (suc k) zero [] e h = absurd (omega arith)
named_before top (suc k) (suc n) [] e h = absurd (true≢false (sym e))
named_before top (suc k) n (l ∷ ls) e h =
    let a = both_true (nat_le 1 (word l 0)) _ e in
    let b = both_true (nat_le (word l 0) top) _ a.1 in
    let rest = named_before top k n ls b.1 (omega arith) in
    omega arith

entry_zeros : (head : LogHead) (before n : ℕ) (l : List ℕ) (ls : List (List ℕ)) → is_entry head before l (ls ++ zero_lines n) ≡ is_entry head before l ls
entry_zeros head before n l ls = ⊎_elim
    (λ (t : is_entry head before l ls ≡ true). longer t ∙ sym t)
    (λ (f : is_entry head before l ls ≡ false). ⊎_elim
    (λ (t : is_entry head before l (ls ++ zero_lines n) ≡ true). absurd (true≢false (sym (shorter t) ∙ f)))
    (λ (g : is_entry head before l (ls ++ zero_lines n) ≡ false). g ∙ sym f)
    (cases_Bool (is_entry head before l (ls ++ zero_lines n))))
    (cases_Bool (is_entry head before l ls))
  where
    longer : is_entry head before l ls ≡ true → is_entry head before l (ls ++ zero_lines n) ≡ true
    longer t =
        let whole = (Accepted-if head before l ls t).whole in
        accepted_before head before l ls (ls ++ zero_lines n) t (omega (arith, whole, length-append ls (zero_lines n))) (take-append-le (word l 4) ls (zero_lines n) whole)

    shorter : is_entry head before l (ls ++ zero_lines n) ≡ true → is_entry head before l ls ≡ true
    shorter t =
        let a = Accepted-if head before l (ls ++ zero_lines n) t in
        let whole = named_before (4096 * head.threads) (word l 4) n ls a.named a.whole in
        accepted_before head before l (ls ++ zero_lines n) ls t whole (sym (take-append-le (word l 4) ls (zero_lines n) whole))

entries_zeros : (head : LogHead) (before skip n : ℕ) (ls : List (List ℕ)) → entries_from head before skip (ls ++ zero_lines n) ≡ entries_from head before skip ls
entries_zeros head before zero n [] = zeros_entries head before zero n
entries_zeros head before (suc skip) n [] = zeros_entries head before (suc skip) n
entries_zeros head before (suc skip) n (l ∷ ls) = entries_zeros head before skip n ls
entries_zeros head before zero n (l ∷ ls) = ⊎_elim
    (λ (t : is_entry head before l ls ≡ true).
    let a = Accepted-if head before l ls t in
    entries_from-entry head before l (ls ++ zero_lines n) (entry_zeros head before n l ls ∙ t)
    ∙ (ap (λ (s : Segment). s ∷ entries_from head (suc before) (word l 4) (ls ++ zero_lines n)) (segment_before l ls (ls ++ zero_lines n) (take-append-le (word l 4) ls (zero_lines n) a.whole))
    ∙ (ap (λ (ss : List Segment). segment_of l ls ∷ ss) (entries_zeros head (suc before) (word l 4) n ls) ∙ sym (entries_from-entry head before l ls t))))
    (λ (f : is_entry head before l ls ≡ false).
    entries_from-none head before l (ls ++ zero_lines n) (entry_zeros head before n l ls ∙ f) ∙ sym (entries_from-none head before l ls f))
    (cases_Bool (is_entry head before l ls))

zeros_zeros : (n : ℕ) (ls : List (List ℕ)) → are_zero_lines (ls ++ zero_lines n) ≡ are_zero_lines ls
zeros_zeros zero [] = refl
zeros_zeros (suc n) [] = zeros_zeros n []
zeros_zeros n (l ∷ ls) = ap (λ b. is_zero_line l && b) (zeros_zeros n ls)

-- ---- what an image holds
abbrev held : List ℕ → Bool → List Segment → Bool → Option Content
held l b entries z = cond {A = Option Content} b (Some (record { head = Some (head_of l); entries = entries })) (cond {A = Option Content} z (Some (record { head = None; entries = [] })) None)

pub content_zeros : (n : ℕ) (ls : List (List ℕ)) → (ls ≡ [] → n ≡ 0) → content_of (ls ++ zero_lines n) ≡ content_of ls
content_zeros n [] none = ap (λ k. content_of (zero_lines k)) (none refl)
content_zeros n (l ∷ ls) none =
    ap (λ es. held l (is_head l) es (are_zero_lines (l ∷ (ls ++ zero_lines n)))) (entries_zeros (head_of l) 0 0 n ls)
    ∙ ap (λ z. held l (is_head l) (entries_from (head_of l) 0 0 ls) (is_zero_line l && z)) (zeros_zeros n ls)

pub front_format : (n : ℕ) (ls : List (List ℕ)) → (ls ≡ [] → n ≡ 0) → format_in (ls ++ zero_lines n) ≡ format_in ls
front_format n [] none = ap (λ k. format_in (zero_lines k)) (none refl)
front_format n (l ∷ ls) none = refl

-- the first lines of an image, which begins with this one, by what it holds
pub record IsCut (image : List (List ℕ)) (cut : List (List ℕ)) : Type 0 where
  pub content : content_of cut ≡ content_of image
  pub format : IsSome (content_of image) → format_in cut ≡ format_in image

with_head : (l : List ℕ) (ls : List (List ℕ)) → is_head l ≡ true → IsCut (l ∷ ls) (take (used_in (content_of (l ∷ ls))) (l ∷ ls))
with_head l ls t =
    let es = entries_from (head_of l) 0 0 ls in
    let m = lines_in es in
    let is : content_of (l ∷ ls) ≡ Some (record { head = Some (head_of l); entries = es }) = ap (λ b. held l b es (are_zero_lines (l ∷ ls))) t in
    let up : max 1 (1 + m) ≡ suc m = omega arith in
    let none : m ≡ 0 + m = omega arith in
    let taken : take (used_in (content_of (l ∷ ls))) (l ∷ ls) ≡ l ∷ take m ls = ap (λ o. take (used_in o) (l ∷ ls)) is ∙ ap (λ k. take k (l ∷ ls)) up in
    subst (IsCut (l ∷ ls)) (sym taken) (record {
      content = ap (λ b. held l b (entries_from (head_of l) 0 0 (take m ls)) (are_zero_lines (l ∷ take m ls))) t
          ∙ (ap (λ ss. let o : Option Content = Some (record { head = Some (head_of l); entries = ss }) in o) (ap (λ k. entries_from (head_of l) 0 0 (take k ls)) none ∙ cut_entries (head_of l) 0 0 ls) ∙ sym is);
      format = λ known. refl;
    })

with_zeros : (l : List ℕ) (ls : List (List ℕ)) → is_head l ≡ false → are_zero_lines (l ∷ ls) ≡ true → IsCut (l ∷ ls) (take (used_in (content_of (l ∷ ls))) (l ∷ ls))
with_zeros l ls f z =
    let es = entries_from (head_of l) 0 0 ls in
    let is : content_of (l ∷ ls) ≡ Some (record { head = None; entries = [] }) = ap (λ b. held l b es (are_zero_lines (l ∷ ls))) f ∙ ap (held l false es) z in
    let taken : take (used_in (content_of (l ∷ ls))) (l ∷ ls) ≡ l ∷ [] = ap (λ o. take (used_in o) (l ∷ ls)) is in
    let one : are_zero_lines (l ∷ []) ≡ true = ap (λ b. b && true) (both_true (is_zero_line l) (are_zero_lines ls) z).0 in
    subst (IsCut (l ∷ ls)) (sym taken) (record {
      content = ap (λ b. held l b (entries_from (head_of l) 0 0 []) (are_zero_lines (l ∷ []))) f ∙ (ap (held l false []) one ∙ sym is);
      format = λ known. refl;
    })

with_neither : (l : List ℕ) (ls : List (List ℕ)) → is_head l ≡ false → are_zero_lines (l ∷ ls) ≡ false → IsCut (l ∷ ls) (take (used_in (content_of (l ∷ ls))) (l ∷ ls))
with_neither l ls f z =
    let es = entries_from (head_of l) 0 0 ls in
    let is : content_of (l ∷ ls) ≡ None = ap (λ b. held l b es (are_zero_lines (l ∷ ls))) f ∙ ap (held l false es) z in
    let taken : take (used_in (content_of (l ∷ ls))) (l ∷ ls) ≡ [] = ap (λ o. take (used_in o) (l ∷ ls)) is in
    subst (IsCut (l ∷ ls)) (sym taken) (record { content = sym is; format = λ known. absurd (true≢false (sym (subst IsSome is known))) })

pub is_cut : (image : List (List ℕ)) → IsCut image (take (used_in (content_of image)) image)
is_cut [] = record { content = refl; format = λ known. absurd (true≢false (sym known)) }
is_cut (l ∷ ls) = ⊎_elim
    (with_head l ls)
    (λ (f : is_head l ≡ false). ⊎_elim (with_zeros l ls f) (with_neither l ls f) (cases_Bool (are_zero_lines (l ∷ ls))))
    (cases_Bool (is_head l))
