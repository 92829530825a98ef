-- The row of an operation is of that operation alone.

use Rattle.std.proofs.Common.{ℕ, Bool, true, false, List, [], ◌∷◌, ◌++◌, ◌≡◌, ◌==◌, ◌&&◌, Option, Some, None, cond, length, length-append, refl, ap, ◌∙◌, arith}
use Rattle.std.proofs.lemmas.Bool.Decides.{nat_tests}
use Rattle.onll_words.specs.declared.line.OpRow.{OpRow}
use Rattle.onll_words.specs.Short.{ShortText, packed, unpacked}
use Rattle.onll_words.proofs.Packing.{unpacked-packed, packed-unpacked, length-packed}
use Rattle.onll_map.specs.declared.operation.MapOp.{MapOp}
use Rattle.onll_map.specs.declared.operation.MapOp.TheVariants.{Put, Del}
use Rattle.onll_map.specs.Rows.{map_row, put_of, del_of, op_of_words, map_op_at}

put_row : (ks vs : List ℕ) → length ks ≡ 3 → length vs ≡ 3 → op_of_words (1 ∷ ks ++ vs) ≡ put_of (unpacked ks) (unpacked vs)
put_row (a ∷ b ∷ c ∷ []) (d ∷ e ∷ f ∷ []) h g = refl
put_row (a ∷ b ∷ c ∷ []) [] h g = absurd (omega arith)
put_row (a ∷ b ∷ c ∷ []) (d ∷ []) h g = absurd (omega arith)
put_row (a ∷ b ∷ c ∷ []) (d ∷ e ∷ []) h g = absurd (omega arith)
put_row (a ∷ b ∷ c ∷ []) (d ∷ e ∷ f ∷ x ∷ xs) h g = absurd (omega arith)
put_row [] vs h g = absurd (omega arith)
put_row (a ∷ []) vs h g = absurd (omega arith)
put_row (a ∷ b ∷ []) vs h g = absurd (omega arith)
put_row (a ∷ b ∷ c ∷ x ∷ xs) vs h g = absurd (omega arith)

del_row : (ks : List ℕ) → length ks ≡ 3 → op_of_words (2 ∷ ks ++ 0 ∷ 0 ∷ 0 ∷ []) ≡ del_of (unpacked ks)
del_row (a ∷ b ∷ c ∷ []) h = refl
del_row [] h = absurd (omega arith)
del_row (a ∷ []) h = absurd (omega arith)
del_row (a ∷ b ∷ []) h = absurd (omega arith)
del_row (a ∷ b ∷ c ∷ x ∷ xs) h = absurd (omega arith)

pub op_of_its_row : (op : MapOp) → map_op_at (map_row op) ≡ Some op
op_of_its_row (Put k v) =
    put_row (packed k.bytes) (packed v.bytes) (length-packed k.bytes) (length-packed v.bytes)
    ∙ ap (λ o. put_of o (unpacked (packed v.bytes))) (unpacked-packed k) ∙ ap (put_of (Some k)) (unpacked-packed v)
op_of_its_row (Del k) = del_row (packed k.bytes) (length-packed k.bytes) ∙ ap del_of (unpacked-packed k)

-- the words of an operation whose texts are read from words
put_words : (ks vs : List ℕ) (o p : Option ShortText) (op : MapOp) → unpacked ks ≡ o → unpacked vs ≡ p
    → put_of o p ≡ Some op → (map_row op).w ≡ 1 ∷ ks ++ vs
put_words ks vs (Some k) (Some v) op h g e =
    let same : Put k v ≡ op = cc e in
    let left = packed-unpacked ks k h in
    let right = packed-unpacked vs v g in
    rw (← same) (ap (λ xs. 1 ∷ xs ++ packed v.bytes) left ∙ ap (λ ys. 1 ∷ ks ++ ys) right)
put_words ks vs (Some k) None op h g e = cc
put_words ks vs None p op h g e = cc

del_words : (ks : List ℕ) (o : Option ShortText) (op : MapOp) → unpacked ks ≡ o → del_of o ≡ Some op
    → (map_row op).w ≡ 2 ∷ ks ++ 0 ∷ 0 ∷ 0 ∷ []
del_words ks (Some k) op h e =
    let same : Del k ≡ op = cc e in
    let left = packed-unpacked ks k h in
    rw (← same) (ap (λ xs. 2 ∷ xs ++ 0 ∷ 0 ∷ 0 ∷ []) left)
del_words ks None op h e = cc

-- the first word of a put's row, where the test of it holds
put_tested : (n a b c d e f : ℕ) → (n == 1) ≡ true → 1 ∷ a ∷ b ∷ c ∷ d ∷ e ∷ f ∷ [] ≡ n ∷ a ∷ b ∷ c ∷ d ∷ e ∷ f ∷ []
put_tested n a b c d e f h = let hn : n ≡ 1 = grind (arith, nat_tests) in cc

-- the words of a delete's row, where the test of them holds
del_tested : (n a b c d e f : ℕ) → (n == 2 && (d == 0) && (e == 0) && (f == 0)) ≡ true
    → 2 ∷ a ∷ b ∷ c ∷ 0 ∷ 0 ∷ 0 ∷ [] ≡ n ∷ a ∷ b ∷ c ∷ d ∷ e ∷ f ∷ []
del_tested n a b c d e f h =
    let hn : n ≡ 2 = grind (arith, nat_tests) in
    let hd : d ≡ 0 = grind (arith, nat_tests) in
    let he : e ≡ 0 = grind (arith, nat_tests) in
    let hf : f ≡ 0 = grind (arith, nat_tests) in
    cc

-- the rows of these words, by the tests in turn
by_tests : (t u : Bool) (ws : List ℕ) (o p : Option MapOp) (op : MapOp) → (t ≡ true → o ≡ Some op → (map_row op).w ≡ ws)
    → (u ≡ true → p ≡ Some op → (map_row op).w ≡ ws)
    → cond t o (cond u p None) ≡ Some op → (map_row op).w ≡ ws
by_tests true u ws o p op f g e = f refl e
by_tests false true ws o p op f g e = g refl e
by_tests false false ws o p op f g e = cc

words_of_its_op : (ws : List ℕ) (op : MapOp) → op_of_words ws ≡ Some op → (map_row op).w ≡ ws
words_of_its_op (n ∷ a ∷ b ∷ c ∷ d ∷ e ∷ f ∷ []) op h =
    let ks : List ℕ = a ∷ b ∷ c ∷ [] in
    let vs : List ℕ = d ∷ e ∷ f ∷ [] in
    by_tests (n == 1) (n == 2 && (d == 0) && (e == 0) && (f == 0)) (n ∷ a ∷ b ∷ c ∷ d ∷ e ∷ f ∷ [])
    (put_of (unpacked ks) (unpacked vs)) (del_of (unpacked ks)) op
    (λ t o. put_words ks vs (unpacked ks) (unpacked vs) op refl refl o ∙ put_tested n a b c d e f t)
    (λ t o. del_words ks (unpacked ks) op refl o ∙ del_tested n a b c d e f t)
    h
words_of_its_op _ op h = cc

pub row_of_its_op : (row : OpRow) (op : MapOp) → map_op_at row ≡ Some op → map_row op ≡ row
row_of_its_op row op e = ap (λ (w : List ℕ). record { w = w }) (words_of_its_op row.w op e)

pub seven_words : (op : MapOp) → length (map_row op).w ≡ 7
seven_words (Put k v) = omega (arith, length-append (packed k.bytes) (packed v.bytes), length-packed k.bytes, length-packed v.bytes)
seven_words (Del k) = omega (arith, length-append (packed k.bytes) (0 ∷ 0 ∷ 0 ∷ []), length-packed k.bytes)
