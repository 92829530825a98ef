use Rattle.std.proofs.Common.{rules, ℕ, List, Bool, ◌≡◌, ◌∙◌, ap, sym, drop, take, ◌∷◌, [], slice_index}
use Rattle.std.specs.Prelude.{◌&&◌}
use Rattle.onll_pmem.specs.Pmem.{words_of}
use Rattle.onll_log.specs.Encoding.{guard}
use Rattle.onll_log.specs.Grammar.{same_words}
use Rattle.onll_log.proofs.Decoding.{same_words-pointwise, last_words}
use Rattle.onll_log.proofs.entry.is_guarded.Goals as goal

pub returns-then-are_named : goal.returns-then-are_named
returns-then-are_named c =
    let w : List ℕ = c.args.line.now.w in
    let named = sym c.are_named.ensures ∙ c.if-are_named.true in
    let same : c.eq.result ≡ same_words (drop 5 c.args.line.now.w) (guard c.args.head.now (take 5 c.args.line.now.w) (words_of c.args.lines.now)) =
    c.eq.ensures ∙ same_words-pointwise (slice_index w 5 ∷ slice_index w 6 ∷ slice_index w 7 ∷ []) c.guard.result ∙ ap (λ (ws : List ℕ). same_words ws c.guard.result) (last_words w (search rules)) ∙ ap (same_words (drop 5 c.args.line.now.w)) c.guard.ensures in
    same ∙ sym (ap (λ (b : Bool). b && same_words (drop 5 c.args.line.now.w) (guard c.args.head.now (take 5 c.args.line.now.w) (words_of c.args.lines.now))) named)
