-- What images hold, one after the other.
use Rattle.std.proofs.Common.{ℕ, ◌≡◌, ◌+◌, ◌<◌, ◌^◌, ◌++◌, ◌∷◌, [], List, Result, Ok, Err, map, length, drop, get_or, sym, ap, ◌∙◌, append_assoc}
use Rattle.std.proofs.lemmas.List.{drop_more}
use Rattle.onll_log.specs.declared.head.LogHead.{LogHead}
use Rattle.onll_log.specs.Head.{head_for}
use Rattle.onll_log.specs.declared.decoded.Decoded.{Decoded}
use Rattle.onll_log.specs.Decoded.{content_in}
use Rattle.onll_log.specs.Grammar.{Content, used_by, format_in}
use Rattle.onll_merge.specs.declared.fault.ImagesFault.{ImagesFault}
use Rattle.onll_merge.specs.Recovered.{heads_for}

-- what was decoded before the rest; a fault of the rest stays
abbrev pub onto : List Content → Result (List Content) ImagesFault → Result (List Content) ImagesFault
onto front (Ok contents) = Ok (front ++ contents)
onto front (Err fault) = Err fault

-- each of these logs uses a number of lines that fits a word
abbrev pub FewUsed : Decoded → Type 0
FewUsed d = used_by (content_in d) < 2 ^ 64

-- one head more
pub head_more : {V : Type 0} (lines : V → List (List ℕ)) (code threads i : ℕ) (init : List ℕ) (heads : List LogHead) (images : List V) (image : V) (head : LogHead) → i < length images → image ≡ get_or images i image
    → head ≡ head_for (format_in (lines image)) i threads code init
    → (heads ++ head ∷ []) ++ heads_for code init threads (i + 1) (map lines (drop (i + 1) images)) ≡ heads ++ heads_for code init threads i (map lines (drop i images))
head_more {V} lines code threads i init heads images image head h same e =
    let rest = heads_for code init threads (i + 1) (map lines (drop (i + 1) images)) in
    append_assoc heads (head ∷ []) rest
    ∙ ap (λ (x : LogHead). heads ++ x ∷ rest) e
    ∙ ap (λ (x : V). heads ++ head_for (format_in (lines x)) i threads code init ∷ rest) same
    ∙ ap (λ (l : List V). heads ++ heads_for code init threads i (map lines l)) (sym (drop_more images i image h))
