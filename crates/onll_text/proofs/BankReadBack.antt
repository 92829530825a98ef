use Rattle.std.proofs.Common.{ℕ, suc, Bool, true, false, List, [], ◌∷◌, ◌++◌, ◌≡◌, ◌+◌, ◌^◌, ◌<◌, ◌≤◌, nat_lt, not, length, map, sum, decimal, codes, replicate, refl, sym, ap, ◌∙◌, arith, Ok, Some, Result, append_assoc, length-append, slice_get, slice_set, zero-add, drop, slice_index_or}
use Rattle.std.specs.List.{flat_map}
use Rattle.std.proofs.Math.Seq.{get_or-append_seam, set-append_seam}
use Rattle.std.proofs.lemmas.List.Sums.{sum_by-cons, sum_by-append}
use Rattle.std.proofs.lemmas.List.Folds.{sum_by-replicate}
use Rattle.std.proofs.lemmas.Bool.Decides.{nat_tests}
use Rattle.onll_words.specs.Texts.{Numbered, numbered, joined, line_text, AreWords}
use Rattle.onll_bank.specs.Bank.{IsBank, greatest_total, is_account, raised}
use Rattle.onll_text.specs.declared.reason.Reason.{Reason}
use Rattle.onll_text.specs.declared.reason.Reason.TheVariants.{OutOfRange, Repeated, TooLarge}
use Rattle.onll_text.specs.declared.any_object.AnyObject.TheVariants as objects
use Rattle.onll_text.specs.declared.any_object.Kind.TheVariants as kinds
use Rattle.onll_text.specs.Refusal.{Refusal, ◌>>=◌, only_if, at_line}
use Rattle.onll_text.specs.BankText.{Accounts, is_marked, is_named, account_line, account_lines, with_account, with_account_line}
use Rattle.onll_text.specs.BankLaws.{bank_in_lines, bank_is_short}
use Rattle.onll_text.specs.CallKind.{calls_of}
use Rattle.onll_text.specs.Init.{head_of}
use Rattle.onll_text.specs.Making.{after_lines}
use Rattle.onll_text.specs.ReadBack.{ReadsBack}
use Rattle.onll_text.specs.WordsAgain.{two_numbers-decimal}
use Rattle.onll_text.proofs.ReadBack.{capacity_of-decimal, after_lines-joined, init_of-flat_map, within_text}
use Rattle.std.proofs.lemmas.List.{drop_more}
use Rattle.onll_words.proofs.Decimals.{IsWord-decimal}
use Rattle.onll_text.specs.Bytes.{with_lines}

-- ---- the lines as they are put
pub account_line_in_words : (a balance : ℕ) → AreWords (account_line a balance)
account_line_in_words a balance = (record { some = refl; bytes = refl }, (IsWord-decimal a, (IsWord-decimal balance, tt)))

-- one account's line before those of the rest
pub account_lines_more : (bytes balances : List ℕ) (a : ℕ) → a < length balances
    → with_lines (bytes ++ line_text (account_line a (slice_index_or balances a 0))) (account_lines (a + 1) (drop (a + 1) balances)) ≡ with_lines bytes (account_lines a (drop a balances))
account_lines_more bytes balances a h =
    append_assoc bytes (line_text (account_line a (slice_index_or balances a 0))) (flat_map line_text (account_lines (a + 1) (drop (a + 1) balances)))
    ∙ sym (ap (λ t. with_lines bytes (account_lines a t)) (drop_more balances a 0 h))

from_zero : (n : ℕ) → n ≤ 4096 → 0 + n ≤ 4096
from_zero n h = omega arith

-- the first line

head_of-bank : (n : ℕ) → 1 ≤ n → n ≤ 4096 → head_of (codes "bank" ∷ decimal n ∷ []) ≡ Ok (record { kind = kinds.Bank; capacity = n })
head_of-bank n some few = ap (λ (v : Result ℕ Reason). v >>= λ k. Ok (record { kind = kinds.Bank; capacity = k })) (capacity_of-decimal n some few)

-- the lines of the accounts

-- an account that is in range, unnamed and not too large is put in
with_account-fits : (made : Accounts) (a x : ℕ) → is_account made.balances a ≡ true → is_named made a ≡ false → nat_lt greatest_total (sum made.balances + x) ≡ false
    → with_account made (a, x) ≡ Ok (record { balances = raised made.balances a x; named = slice_set made.named a true })
with_account-fits made a x e₁ e₂ e₃ =
    ap (λ t. only_if t OutOfRange made >>= (λ m. only_if (not (is_named m a)) Repeated m) >>= (λ m. only_if (not (nat_lt greatest_total (sum m.balances + x))) TooLarge (record { balances = raised m.balances a x; named = slice_set m.named a true }))) e₁
    ∙ ap (λ t. only_if (not t) Repeated made >>= (λ m. only_if (not (nat_lt greatest_total (sum m.balances + x))) TooLarge (record { balances = raised m.balances a x; named = slice_set m.named a true }))) e₂
    ∙ ap (λ t. only_if (not t) TooLarge (record { balances = raised made.balances a x; named = slice_set made.named a true })) e₃

-- the first accounts have their balances and marks, and n more have none
abbrev so_far : List ℕ → List Bool → ℕ → Accounts
so_far done marks n = record { balances = done ++ replicate n 0; named = marks ++ replicate n false }

slice_get-append_seam : {X : Type 0} (xs : List X) (y : X) (ys : List X) → slice_get (xs ++ y ∷ ys) (length xs) ≡ Some y
slice_get-append_seam [] y ys = refl
slice_get-append_seam (x ∷ xs) y ys = slice_get-append_seam xs y ys

lt_test : (m n : ℕ) → m < n → nat_lt m n ≡ true
lt_test m n h = grind (arith, nat_tests)

ge_test : (m n : ℕ) → n ≤ m → nat_lt m n ≡ false
ge_test m n h = grind (arith, nat_tests)

next_in_range : (done : List ℕ) (n : ℕ) → is_account (done ++ replicate (suc n) 0) (length done) ≡ true
next_in_range done n = lt_test (length done) (length (done ++ replicate (suc n) 0)) (omega (arith, length-append done (0 ∷ replicate n 0)))

sum_so_far : (done : List ℕ) (n : ℕ) → sum (done ++ replicate n 0) ≡ sum done
sum_so_far done n = omega (arith, sum_by-append (λ x. x) done (replicate n 0), sum_by-replicate (λ x. x) n 0)

next_fits : (done : List ℕ) (n x : ℕ) → sum done + x ≤ greatest_total → nat_lt greatest_total (sum (done ++ replicate n 0) + x) ≡ false
next_fits done n x h = ge_test greatest_total (sum (done ++ replicate n 0) + x) (omega (arith, sum_so_far done n))

next_unnamed : (done : List ℕ) (marks : List Bool) (n : ℕ) → length marks ≡ length done → is_named (so_far done marks (suc n)) (length done) ≡ false
next_unnamed done marks n e =
    ap (λ k. is_marked (slice_get (marks ++ false ∷ replicate n false) k)) (sym e) ∙ ap is_marked (slice_get-append_seam marks false (replicate n false))

next_marked : (marks : List Bool) (n a : ℕ) → length marks ≡ a → slice_set (marks ++ replicate (suc n) false) a true ≡ (marks ++ true ∷ []) ++ replicate n false
next_marked marks n a e =
    ap (λ k. slice_set (marks ++ false ∷ replicate n false) k true) (sym e)
    ∙ set-append_seam marks false (replicate n false) true
    ∙ sym (append_assoc marks (true ∷ []) (replicate n false))

next_raised : (done : List ℕ) (n x : ℕ) → raised (done ++ replicate (suc n) 0) (length done) x ≡ (done ++ x ∷ []) ++ replicate n 0
next_raised done n x =
    ap (λ y. slice_set (done ++ 0 ∷ replicate n 0) (length done) (y + x)) (get_or-append_seam done 0 (replicate n 0) 0)
    ∙ set-append_seam done 0 (replicate n 0) (0 + x)
    ∙ ap (λ y. done ++ y ∷ replicate n 0) (zero-add x)
    ∙ sym (append_assoc done (x ∷ []) (replicate n 0))

-- the next account's line puts its balance in
next_account : (done : List ℕ) (marks : List Bool) (n x : ℕ) → length marks ≡ length done → length done < 2 ^ 64 → sum done + x ≤ greatest_total
    → with_account_line (so_far done marks (suc n)) (account_line (length done) x) ≡ Ok (so_far (done ++ x ∷ []) (marks ++ true ∷ []) n)
next_account done marks n x e few fits =
    let made : Accounts = so_far done marks (suc n) in
    ap (λ (v : Result (ℕ × ℕ) Reason). v >>= with_account made) (two_numbers-decimal (length done) x few (omega arith))
    ∙ with_account-fits made (length done) x (next_in_range done n) (next_unnamed done marks n e) (next_fits done (suc n) x fits)
    ∙ ap (λ (b : List ℕ). Ok (record { balances = b; named = slice_set made.named (length done) true })) (next_raised done n x)
    ∙ ap (λ (m : List Bool). Ok (record { balances = (done ++ x ∷ []) ++ replicate n 0; named = m })) (next_marked marks n (length done) e)

-- the lines of the accounts that are left put their balances in
after_lines-accounts : (k : ℕ) (done : List ℕ) (marks : List Bool) (xs : List ℕ) → length marks ≡ length done → length done + length xs ≤ 4096 → sum done + sum xs ≤ greatest_total
    → (after_lines with_account_line (so_far done marks (length xs)) (numbered k (map joined (account_lines (length done) xs))) >>= λ made. Ok (objects.Bank made.balances)) ≡ Ok (objects.Bank (done ++ xs))
after_lines-accounts k done marks [] e few fits = refl
after_lines-accounts k done marks (x ∷ xs) e few fits =
    let total : sum (x ∷ xs) ≡ x + sum xs = sum_by-cons (λ n. n) x xs in
    let more : sum (done ++ x ∷ []) ≡ sum done + x = omega (arith, sum_by-append (λ n. n) done (x ∷ []), sum_by-cons (λ n. n) x []) in
    let a : length (done ++ x ∷ []) ≡ length done + 1 = omega (arith, length-append done (x ∷ [])) in
    let m : length (marks ++ true ∷ []) ≡ length (done ++ x ∷ []) = omega (arith, length-append marks (true ∷ [])) in
    let rest : ℕ → List Numbered = λ b. numbered (k + 1) (map joined (account_lines b xs)) in
    ap (λ (v : Result Accounts Refusal). v >>= λ made. Ok (objects.Bank made.balances))
    (after_lines-joined with_account_line (so_far done marks (suc (length xs))) k (account_line (length done) x) (rest (length done + 1)) (account_line_in_words (length done) x))
    ∙ ap (λ (v : Result Accounts Reason). at_line k v >>= (λ more. after_lines with_account_line more (rest (length done + 1))) >>= λ made. Ok (objects.Bank made.balances))
    (next_account done marks (length xs) x e (omega arith) (omega arith))
    ∙ ap (λ b. after_lines with_account_line (so_far (done ++ x ∷ []) (marks ++ true ∷ []) (length xs)) (rest b) >>= λ made. Ok (objects.Bank made.balances)) (sym a)
    ∙ after_lines-accounts (k + 1) (done ++ x ∷ []) (marks ++ true ∷ []) xs m (omega arith) (omega arith)
    ∙ ap (λ balances. Ok (objects.Bank balances)) (append_assoc done (x ∷ []) xs)

-- what is printed of a bank reads as that bank
pub bank_reads_back : (s : List ℕ) → IsBank s → ReadsBack (calls_of kinds.Bank).wording objects.Bank s
bank_reads_back s h =
    init_of-flat_map (codes "bank" ∷ decimal (length s) ∷ []) (account_lines 0 s) (record { kind = kinds.Bank; capacity = length s }) (bank_in_lines s) (within_text (bank_is_short s h)) (head_of-bank (length s) h.least h.greatest)
    ∙ after_lines-accounts 2 [] [] s refl (from_zero (length s) h.greatest) (omega (arith, h.total))
