use Rattle.std.proofs.Common.{ℕ, suc, ◌≡◌, ◌+◌, ◌-◌, ◌<◌, List, [], ◌∷◌, ◌++◌, length, replicate, take, ap, ◌∙◌, arith, append_assoc, count_by}
use Rattle.std.proofs.lemmas.List.{take_all, map-append}
use Rattle.onll_words.specs.declared.line.Line.{Line}
use Rattle.onll_model.specs.declared.node.Node.{Node}
use Rattle.onll_model.specs.Trace.{is_of_thread}
use Rattle.onll_pmem.specs.Pmem.{words_of}
use Rattle.onll_pmem.specs.Device.{zero_line, zero_lines}
use Rattle.onll_pmem.proofs.Lines.{words_of-replicate}
use Rattle.onll_core.specs.declared.local.Local.{Local}
use Rattle.onll_core.specs.Found.{locals_from}

-- Lists that the code makes one by one.

-- one replica more is made
pub locals_more : {State Op Query Reply : Type 0} (object : State) (nodes : List Node) (t count : ℕ) (made made' : List (Local State Op Query Reply)) (x : Local State Op Query Reply) → t < count
    → x ≡ record { object = object; place = length nodes; linked = count_by (is_of_thread t) nodes } → made' ≡ made ++ x ∷ []
    → made' ++ locals_from object nodes (t + 1) (count - (t + 1)) ≡ made ++ locals_from object nodes t (count - t)
locals_more {State} {Op} {Query} {Reply} object nodes t count made made' x low x_is made_is =
    let n : ℕ = count - (t + 1) in
    let next : t + 1 ≡ suc t = omega arith in
    let left : suc n ≡ count - t = omega arith in
    let rest : ℕ → ℕ → List (Local State Op Query Reply) = (λ u m. locals_from object nodes u m) in
    ap (λ (ys : List (Local State Op Query Reply)). ys ++ rest (t + 1) n) made_is
    ∙ (append_assoc made (x ∷ []) (rest (t + 1) n)
    ∙ ((λ i. made ++ x_is i ∷ rest (next i) n) ∙ ap (λ (m : ℕ). made ++ rest t m) left))

-- lines and then zeros
pub zeros_after : (front made : List Line) (n m room : ℕ) → made ≡ front → m ≡ length made → n ≡ length front + room
    → words_of (take n made ++ replicate (n - m) (record { w = zero_line })) ≡ words_of front ++ zero_lines room
zeros_after front made n m room same long total =
    let size : length made ≡ length front = ap length same in
    let left : n - m ≡ room = omega arith in
    map-append (λ (line : Line). line.w) (take n made) (replicate (n - m) (record { w = zero_line }))
    ∙ (λ i. words_of (take_all n made (omega arith) i) ++ (words_of-replicate (n - m) (record { w = zero_line }) ∙ ap zero_lines left) i)
    ∙ ap (λ (ls : List Line). words_of ls ++ zero_lines room) same
