use Rattle.std.proofs.Common.{ℕ, ◌≡◌, ◌+◌, ◌*◌, ◌≤◌, Bool, true, false, List, [], ◌∷◌, map, Option, Some, None, Result, Ok, Err, sym, refl, ap, ◌∙◌}
use Rattle.std.specs.Prelude.{◌||◌, max, nat_lt, if◌then◌else◌}
use Rattle.std.proofs.lemmas.Bool.{ltb-false}
use Rattle.onll_log.specs.Grammar.{Content, content_of}
use Rattle.onll_merge.specs.declared.fault.ImagesFault.{ImagesFault}
use Rattle.onll_merge.specs.declared.fault.RecoverFault.{RecoverFault}
use Rattle.onll_merge.specs.declared.fault.ImagesFault.TheVariants.{Recover}
use Rattle.onll_merge.specs.Recovered.{content_before, contents_from}
use Rattle.onll_start.specs.declared.fault.ResumeFault.{ResumeFault}
use Rattle.onll_start.specs.Start.{most_lines, is_too_many}

-- What the logs of images hold, and that a thread has room for its script.

-- ---- contents
before_ok : (i : ℕ) (o : Option Content) (r : Result (List Content) ImagesFault) (logs : List Content) → content_before i o r ≡ Ok logs
    → (c : Content) × (cs : List Content) × (o ≡ Some c) × (r ≡ Ok cs) × (logs ≡ c ∷ cs)
before_ok i None r logs e = absurd (cc)
before_ok i (Some c) (Err fault) logs e = absurd (cc)
before_ok i (Some c) (Ok cs) logs e = (c, cs, refl, refl, (cc))

-- what images hold, image by image
pub contents_are : (i : ℕ) (images : List (List (List ℕ))) (logs : List Content) → contents_from i images ≡ Ok logs → map content_of images ≡ map Some logs
contents_are i [] logs e = let none : [] ≡ logs = (cc) in ap (map Some) none
contents_are i (image ∷ images) logs e =
    let x = before_ok i (content_of image) (contents_from (i + 1) images) logs e in
    let rest = contents_are (i + 1) images x.1 x.3 in
    let here = x.2 in
    (λ j. here j ∷ rest j) ∙ ap (map Some) (sym x.4)

-- an image that is no log is all that refuses them
before_never : (i : ℕ) (o : Option Content) (r : Result (List Content) ImagesFault) (fault : RecoverFault) → ((f : RecoverFault) → r ≡ Err (Recover f) → ⊥) → content_before i o r ≡ Err (Recover fault) → ⊥
before_never i None r fault h e = absurd (cc)
before_never i (Some c) (Ok cs) fault h e = absurd (cc)
before_never i (Some c) (Err f) fault h e = h fault (cc)

pub contents_never : (i : ℕ) (images : List (List (List ℕ))) (fault : RecoverFault) → contents_from i images ≡ Err (Recover fault) → ⊥
contents_never i [] fault e = absurd (cc)
contents_never i (image ∷ images) fault e = before_never i (content_of image) (contents_from (i + 1) images) fault (λ f h. contents_never (i + 1) images f h) e

-- ---- room
neither : (a b : Bool) → a || b ≡ false → (a ≡ false) × (b ≡ false)
neither true b e = absurd (cc)
neither false b e = (refl, e)

pub unless_some : (q : Bool) (x : ResumeFault) (rest : Option ResumeFault) → (if q then Some x else rest) ≡ None → (q ≡ false) × (rest ≡ None)
unless_some true x rest e = absurd (cc)
unless_some false x rest e = (refl, e)

pub has_room : (threads recovered lines updates : ℕ) → is_too_many threads recovered lines updates ≡ false → (recovered + updates ≤ 4096) × (max 1 lines + updates * (threads + 1) ≤ most_lines)
has_room threads recovered lines updates e =
    let x = neither (nat_lt 4096 (recovered + updates)) (nat_lt most_lines (max 1 lines + updates * (threads + 1))) e in
    (ltb-false 4096 (recovered + updates) x.0, ltb-false most_lines (max 1 lines + updates * (threads + 1)) x.1)
