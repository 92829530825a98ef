-- Lines that stand for images are recovered as these are.

use Rattle.std.proofs.Common.{ℕ, suc, List, [], ◌∷◌, ◌++◌, ◌≡◌, ◌+◌, ◌<◌, ◌≤◌, length, take, get_or, Option, Some, None, Result, Ok, Err, ap, refl, sym, subst, ◌∙◌}
use Rattle.std.proofs.lemmas.List.{take_more, take_all}
use Rattle.std.specs.Prelude.{IsSome}
use Rattle.onll_model.specs.Object.{Behaviour}
use Rattle.onll_log.specs.declared.head.LogHead.{LogHead}
use Rattle.onll_log.specs.Head.{head_for}
use Rattle.onll_log.specs.Grammar.{Content, content_of, format_in}
use Rattle.onll_merge.specs.declared.fault.ImagesFault.{ImagesFault}
use Rattle.onll_merge.specs.Recovered.{content_before, contents_from, heads_for, expected_heads, merged, with_operations, state_recovered}
use Rattle.onll_task.specs.Images.{Decides, AllDecide}
use Rattle.onll_task.proofs.ImageFiles.{standing_more}

-- as many
pub stand_many : (lines images : List (List (List ℕ))) → AllDecide lines images → length lines ≡ length images
stand_many [] [] s = refl
stand_many [] (image ∷ images) s = absurd s
stand_many (l ∷ lines) [] s = absurd s
stand_many (l ∷ lines) (image ∷ images) s = ap suc (stand_many lines images s.1)

-- they hold the same, or the same is no log
pub contents_stand : (i : ℕ) (lines images : List (List (List ℕ))) → AllDecide lines images → contents_from i lines ≡ contents_from i images
contents_stand i [] [] s = refl
contents_stand i [] (image ∷ images) s = absurd s
contents_stand i (l ∷ lines) [] s = absurd s
contents_stand i (l ∷ lines) (image ∷ images) s =
    ap (λ c. content_before i c (contents_from (i + 1) lines)) s.0.content ∙ ap (content_before i (content_of image)) (contents_stand (i + 1) lines images s.1)

-- where all are logs the same heads are expected
abbrev AllLogs : Result (List Content) ImagesFault → Type 0
AllLogs (Ok contents) = Unit {0}
AllLogs (Err fault) = ⊥

first_log : (i : ℕ) (c : Option Content) (rest : Result (List Content) ImagesFault) → AllLogs (content_before i c rest) → IsSome c × AllLogs rest
first_log i None rest h = absurd h
first_log i (Some c) (Ok cs) h = (refl, tt)
first_log i (Some c) (Err e) h = absurd h

heads_stand : (code threads i : ℕ) (init : List ℕ) (lines images : List (List (List ℕ))) → AllDecide lines images → AllLogs (contents_from i images)
    → heads_for code init threads i lines ≡ heads_for code init threads i images
heads_stand code threads i init [] [] s h = refl
heads_stand code threads i init [] (image ∷ images) s h = absurd s
heads_stand code threads i init (l ∷ lines) [] s h = absurd s
heads_stand code threads i init (l ∷ lines) (image ∷ images) s h =
    let f = first_log i (content_of image) (contents_from (i + 1) images) h in
    ap (λ n. head_for n i threads code init ∷ heads_for code init threads (i + 1) lines) (s.0.format f.0)
    ∙ ap (λ (hs : List LogHead). head_for (format_in image) i threads code init ∷ hs) (heads_stand code threads (i + 1) init lines images s.1 f.1)

same_merged : (a b : List LogHead) (contents : Result (List Content) ImagesFault) → (AllLogs contents → a ≡ b) → merged a contents ≡ merged b contents
same_merged a b (Ok contents) same = ap (λ hs. merged hs (let c : Result (List Content) ImagesFault = Ok contents in c)) (same tt)
same_merged a b (Err fault) same = refl

pub state_stands : {State Op Query Reply : Type 0} (b : Behaviour State Op Query Reply) (code : ℕ) (init : List ℕ) (lines images : List (List (List ℕ))) → AllDecide lines images
    → state_recovered b (expected_heads code init lines) lines ≡ state_recovered b (expected_heads code init images) images
state_stands b code init lines images s =
    let all = heads_for code init (length images) 0 images in
    ap (λ n. with_operations b (merged (heads_for code init n 0 lines) (contents_from 0 lines))) (stand_many lines images s)
    ∙ (ap (λ cs. with_operations b (merged (heads_for code init (length images) 0 lines) cs)) (contents_stand 0 lines images s)
    ∙ ap (with_operations b) (same_merged (heads_for code init (length images) 0 lines) all (contents_from 0 images) (heads_stand code (length images) 0 init lines images s)))

-- images of a crash, with the heads of its logs
pub crash_stands : {State Op Query Reply : Type 0} (b : Behaviour State Op Query Reply) (heads : List LogHead) (lines images : List (List (List ℕ))) → AllDecide lines images
    → state_recovered b heads lines ≡ state_recovered b heads images
crash_stands b heads lines images s = ap (λ contents. with_operations b (merged heads contents)) (contents_stand 0 lines images s)

-- lines that stand for one image more
pub stand_next : (lines more images : List (List (List ℕ))) (l : List (List ℕ)) (i : ℕ) → i < length images → AllDecide lines (take i images) → Decides l (get_or images i []) → more ≡ lines ++ l ∷ []
    → AllDecide more (take (i + 1) images)
stand_next lines more images l i less so one e =
    subst (λ ls. AllDecide ls (take (i + 1) images)) (sym e)
    (subst (AllDecide (lines ++ l ∷ [])) (sym (take_more images i [] less)) (standing_more lines (take i images) l (get_or images i []) so one))

pub all_stand : (lines images : List (List (List ℕ))) (i : ℕ) → length images ≤ i → AllDecide lines (take i images) → AllDecide lines images
all_stand lines images i most so = subst (AllDecide lines) (take_all i images most) so
