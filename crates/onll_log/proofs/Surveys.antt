-- A log's entries seen as a whole.
use Rattle.std.proofs.Common.{◌≡◌, ℕ, suc, ◌+◌, ◌≤◌, Bool, true, false, cond, List, [], ◌∷◌, ◌++◌, length, max, take, drop, Option, Some, None, sym, refl, ap, ◌∙◌, subst, arith}
use Rattle.std.specs.Prelude.{nat_lt, IfSome}
use Rattle.std.specs.Option.{option_or, option_map}
use Rattle.std.proofs.lemmas.List.{length-drop, length-append}
use Rattle.onll_model.specs.Segment.{Segment, Rises, last_place}
use Rattle.onll_log.specs.declared.head.LogHead.{LogHead}
use Rattle.onll_log.specs.declared.survey.LogSurvey.{LogSurvey}
use Rattle.onll_log.specs.Grammar.{Content, content_of, used_by, used_with}
use Rattle.onll_log.specs.Cursor.{CursorState, entries_left, lines_passed}
use Rattle.onll_log.specs.Survey.{disorder_from, survey_of, top_in_log, with_entry, entries_known, Surveys}
use Rattle.onll_log.specs.Tested.{used_in}
use Rattle.onll_log.specs.Log.{KeepsLog}
use Rattle.onll_log.specs.Kept.{KeepsWhole}
use Rattle.onll_pmem.specs.Pmem.{DeviceView}
use Rattle.onll_log.proofs.Cursors.{all_gone}
use Rattle.onll_log.proofs.Deciding.{is_cut}
use Rattle.onll_log.proofs.Kept.{lines_in-more}

-- ---- the order of entries
fits_not : (a b : ℕ) → nat_lt a b ≡ false → b ≤ a
fits_not a b h = grind arith

fits : (a b : ℕ) → b ≤ a → nat_lt a b ≡ false
fits a b h = grind arith

not_found : {A : Type 0} (b : Bool) (o : Option A) (x : A) → cond {A = Option A} b (Some x) o ≡ None → (b ≡ false) × (o ≡ None)
not_found true o x e = absurd (cc)
not_found false o x e = (refl, e)

-- entries rise where none is out of order
pub rises_from : (before last : ℕ) (ss : List Segment) → disorder_from before last ss ≡ None → Rises last ss
rises_from before last [] h = tt
rises_from before last (s ∷ ss) h =
    let p = not_found (nat_lt s.place (last + length s.nodes)) (disorder_from (suc before) s.place ss) (suc before) h in
    (fits_not s.place (last + length s.nodes) p.0, rises_from (suc before) s.place ss p.1)

-- and where they rise, none is
pub in_order : (before last : ℕ) (ss : List Segment) → Rises last ss → disorder_from before last ss ≡ None
in_order before last [] r = refl
in_order before last (s ∷ ss) r =
    ap (λ (b : Bool). cond {A = Option ℕ} b (Some (suc before)) (disorder_from (suc before) s.place ss)) (fits s.place (last + length s.nodes) r.0)
    ∙ in_order (suc before) s.place ss r.1

-- ---- what a cursor found that went past all entries
or_none : (o : Option ℕ) → option_or o None ≡ o
or_none None = refl
or_none (Some n) = refl

surveys_same : (a b : LogSurvey) → a.entries ≡ b.entries → a.lines ≡ b.lines → a.top ≡ b.top → a.disorder ≡ b.disorder → a ≡ b
surveys_same a b e l t d = λ i. record { entries = e i; lines = l i; top = t i; disorder = d i }

pub surveyed_all : (c : CursorState) (content : Content) (survey : LogSurvey) → c.content ≡ content → entries_left c ≡ [] → c.passed ≤ length content.entries
    → survey.entries ≡ c.passed → survey.lines ≡ lines_passed c → (last : ℕ) → max survey.top (top_in_log (drop c.passed content.entries)) ≡ top_in_log content.entries
    → option_or survey.disorder (disorder_from c.passed last (drop c.passed content.entries)) ≡ disorder_from 0 0 content.entries
    → survey ≡ survey_of content
surveyed_all c content survey same none most e l last t d =
    let es = c.content.entries in
    let passed : c.passed ≡ length content.entries = omega (arith, length-drop c.passed es, ap length none, ap (λ (x : Content). length x.entries) same, most) in
    let left : drop c.passed content.entries ≡ [] = ap (λ (x : Content). drop c.passed x.entries) (sym same) ∙ none in
    surveys_same survey (survey_of content)
    (e ∙ passed)
    (l ∙ (ap (used_with c.content.head) (all_gone es c.passed none) ∙ ap used_by same))
    (let z = ap top_in_log left in omega (arith, t, z))
    (sym (or_none survey.disorder) ∙ (sym (ap (λ (ss : List Segment). option_or survey.disorder (disorder_from c.passed last ss)) left) ∙ d))

-- what is known of all entries of a log tells no more entries than there are
pub few_known : (survey : Option LogSurvey) (c : Content) → IfSome survey (λ s. s ≡ survey_of c) → entries_known survey ≤ length c.entries
few_known None c is = omega arith
few_known (Some s) c is = omega (arith, ap (λ (x : LogSurvey). x.entries) is)

-- ---- one entry more
top_more : (ss : List Segment) (s : Segment) → top_in_log (ss ++ s ∷ []) ≡ max (top_in_log ss) s.place
top_more [] s = omega arith
top_more (x ∷ ss) s = omega (arith, top_more ss s)

disorder_more : (before last : ℕ) (ss : List Segment) (s : Segment) → last_place last ss + length s.nodes ≤ s.place
    → disorder_from before last (ss ++ s ∷ []) ≡ disorder_from before last ss
disorder_more before last [] s above =
    ap (λ (b : Bool). cond {A = Option ℕ} b (Some (suc before)) None) (fits s.place (last + length s.nodes) above)
disorder_more before last (x ∷ ss) s above =
    ap (λ (o : Option ℕ). cond {A = Option ℕ} (nat_lt x.place (last + length x.nodes)) (Some (suc before)) o) (disorder_more (suc before) x.place ss s above)

-- a log with an entry more, which begins above the last one
pub surveyed_more : (head : LogHead) (ss : List Segment) (s : Segment) (survey : LogSurvey) → survey ≡ survey_of (record { head = Some head; entries = ss })
    → last_place 0 ss + length s.nodes ≤ s.place
    → with_entry survey s.place (length s.nodes) ≡ survey_of (record { head = Some head; entries = ss ++ s ∷ [] })
surveyed_more head ss s survey is above =
    ap (λ (x : LogSurvey). with_entry x s.place (length s.nodes)) is
    ∙ surveys_same _ _ (sym (length-append ss (s ∷ []))) (omega (arith, lines_in-more ss s)) (sym (top_more ss s)) (sym (disorder_more 0 0 ss s above))

pub kept_more : (d : DeviceView) (head : LogHead) (ss : List Segment) (survey next : LogSurvey) (place count last fences : ℕ) (broken : Bool)
    → next ≡ with_entry survey place count → KeepsLog d head ss (survey.lines + (1 + count)) (survey.entries + 1) last fences broken
    → with_entry survey place count ≡ survey_of (record { head = Some head; entries = ss }) → KeepsWhole d head ss next last fences broken
kept_more d head ss survey next place count last fences broken is keeps surveyed =
    subst (λ (x : LogSurvey). KeepsWhole d head ss x last fences broken) (sym is) (record { keeps = keeps; surveyed = surveyed })

-- ---- what is known of an image is so of the lines that decide what it holds
pub tested : (image lines : List (List ℕ)) (survey : Option LogSurvey) → lines ≡ take (used_in (content_of image)) image
    → survey ≡ option_map survey_of (content_of image) → Surveys lines survey
tested image lines survey cut is = λ c held.
    let same : content_of image ≡ Some c = sym (is_cut image).content ∙ (ap content_of (sym cut) ∙ held) in
    let so : survey ≡ Some (survey_of c) = is ∙ ap (option_map survey_of) same in
    subst (λ (o : Option LogSurvey). IfSome o (λ s. s ≡ survey_of c)) (sym so) refl
