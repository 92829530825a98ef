use Rattle.std.proofs.Common.{subst, ℕ, Bool, true, false, List, [], ◌∷◌, ◌++◌, ◌≡◌, ◌+◌, ◌≤◌, ◌&&◌, nat_lt, nat_le, cond, codes, refl, ap, ◌∙◌, arith, append_assoc, Result, Ok, Err}
use Rattle.std.specs.List.{All}
use Rattle.std.specs.Str.{bytes_eq}
use Rattle.std.proofs.lemmas.List.Elements.{All-nil, All-cons}
use Rattle.std.proofs.lemmas.List.Sums.{sum_by-cons}
use Rattle.std.proofs.lemmas.Bool.Decides.{nat_tests}
use Rattle.onll_words.specs.Texts.{Numbered, words_of}
use Rattle.onll_model.specs.declared.turn.Turn.{Turn}
use Rattle.onll_text.specs.declared.schedule.Schedule.{Schedule}
use Rattle.onll_text.specs.declared.schedule.ScheduleLine.{ScheduleLine}
use Rattle.onll_text.specs.declared.schedule.ScheduleLine.TheVariants.{Steps, Crash}
use Rattle.onll_text.specs.declared.reason.Reason.{Reason}
use Rattle.onll_text.specs.declared.reason.Reason.TheVariants.{OutOfRange, TooMany}
use Rattle.onll_text.specs.Refusal.{Refusal, ◌>>=◌, only_if, at_line}
use Rattle.onll_text.specs.Words.{one_number}
use Rattle.onll_text.specs.Schedule.{most_steps, turn_of, turn_after, line_after, ended_by, after_turns, from_line, schedule_in, steps_in, IsTurn, IsPlayable}
use Rattle.onll_text.proofs.Accepted.{accepted, accepted_if, accepted_line}

-- turns before a schedule

pub after_turns-none : (s : Result Schedule Refusal) → after_turns [] s ≡ s
after_turns-none (Ok s) = refl
after_turns-none (Err refusal) = refl

pub after_turns-append : (xs ys : List Turn) (s : Result Schedule Refusal) → after_turns (xs ++ ys) s ≡ after_turns xs (after_turns ys s)
after_turns-append xs ys (Ok s) = ap (λ ts. Ok (record { turns = ts; keep = s.keep })) (append_assoc xs ys s.turns)
after_turns-append xs ys (Err refusal) = refl

pub ruleset turns_before = (after_turns-none, after_turns-append)

-- what was accepted

is_turn : (threads : ℕ) (turn : Turn) → (nat_lt turn.thread threads && nat_le 1 turn.count && nat_le turn.count most_steps) ≡ true → IsTurn threads turn
is_turn threads turn h = record { thread = grind (arith, nat_tests); some = grind (arith, nat_tests); few = grind (arith, nat_tests) }

fits_behind : (steps count : ℕ) → nat_le (steps + count) most_steps ≡ true → steps + count ≤ most_steps
fits_behind steps count h = grind (arith, nat_tests)

-- a turn that was accepted
turn_is_lawful : (threads steps : ℕ) (words : List (List ℕ)) (turn : Turn) → turn_after threads steps words ≡ Ok turn → IsTurn threads turn × (steps + turn.count ≤ most_steps)
turn_is_lawful threads steps words turn e =
    let in_range : Turn → Result Turn Reason = λ t. only_if (nat_lt t.thread threads && nat_le 1 t.count && nat_le t.count most_steps) OutOfRange t in
    let fits = accepted (turn_of words >>= in_range) (λ t. only_if (nat_le (steps + t.count) most_steps) TooMany t) turn e in
    let ranges = accepted (turn_of words) in_range fits.0 fits.1 in
    let few = accepted_if (nat_le (steps + fits.0.count) most_steps) TooMany fits.0 turn fits.2 in
    let range = accepted_if (nat_lt ranges.0.thread threads && nat_le 1 ranges.0.count && nat_le ranges.0.count most_steps) OutOfRange ranges.0 fits.0 ranges.2 in (
      subst (IsTurn threads) (range.1 ∙ few.1) (is_turn threads ranges.0 range.0),
      subst (λ (t : Turn). steps + t.count ≤ most_steps) few.1 (fits_behind steps fits.0.count few.0),
    )

-- what holds of what an accepted line says
abbrev IsLawful : ℕ → ℕ → ScheduleLine → Type 0
IsLawful threads steps (Steps turn) = IsTurn threads turn × (steps + turn.count ≤ most_steps)
IsLawful threads steps (Crash keep) = Unit {0}

turn_told : (threads steps : ℕ) (words : List (List ℕ)) (told : ScheduleLine) → (turn_after threads steps words >>= λ turn. Ok (Steps turn)) ≡ Ok told → IsLawful threads steps told
turn_told threads steps words (Steps turn) e =
    let read = accepted (turn_after threads steps words) (λ (t : Turn). Ok (Steps t)) (Steps turn) e in
    let same : read.0 ≡ turn = cc read.2 in
    turn_is_lawful threads steps words turn (read.1 ∙ ap Ok same)
turn_told threads steps words (Crash keep) e = tt

crash_told : (threads steps : ℕ) (args : List (List ℕ)) (told : ScheduleLine) → (one_number args >>= λ keep. Ok (Crash keep)) ≡ Ok told → IsLawful threads steps told
crash_told threads steps args (Crash keep) e = tt
crash_told threads steps args (Steps turn) e =
    let read = accepted (one_number args) (λ (k : ℕ). Ok (Crash k)) (Steps turn) e in
    cc read.2

told_by : (threads steps : ℕ) (first : List ℕ) (args : List (List ℕ)) (told : ScheduleLine) (is_crash : Bool)
    → cond is_crash (one_number args >>= λ keep. Ok (Crash keep)) (turn_after threads steps (first ∷ args) >>= λ turn. Ok (Steps turn)) ≡ Ok told → IsLawful threads steps told
told_by threads steps first args told true e = crash_told threads steps args told e
told_by threads steps first args told false e = turn_told threads steps (first ∷ args) told e

line_told : (threads steps : ℕ) (words : List (List ℕ)) (told : ScheduleLine) → line_after threads steps words ≡ Ok told → IsLawful threads steps told
line_told threads steps [] told e = cc e
line_told threads steps (first ∷ args) told e = told_by threads steps first args told (bytes_eq first (codes "crash")) e

-- what holds of the schedule of the lines that are left, after so many steps
abbrev Follows : ℕ → ℕ → Schedule → Type 0
Follows threads steps s = All (IsTurn threads) s.turns × (steps + steps_in s.turns ≤ most_steps)

crash_follows : (threads steps keep : ℕ) (lines : List Numbered) (s : Schedule) → steps ≤ most_steps → ended_by keep lines ≡ Ok s → Follows threads steps s
crash_follows threads steps keep [] s h e =
    let same : record { turns = []; keep = keep } ≡ s = cc e in
    subst (Follows threads steps) same (All-nil (IsTurn threads), omega arith)
crash_follows threads steps keep (l ∷ lines) s h e = cc e

turn_follows : (threads steps : ℕ) (turn : Turn) (rest : Result Schedule Refusal) (s : Schedule) → IsTurn threads turn
    → ((r : Schedule) → rest ≡ Ok r → Follows threads (steps + turn.count) r) → after_turns (turn ∷ []) rest ≡ Ok s → Follows threads steps s
turn_follows threads steps turn (Err refusal) s h f e = cc e
turn_follows threads steps turn (Ok r) s h f e =
    let same : record { turns = turn ∷ r.turns; keep = r.keep } ≡ s = cc e in
    let after = f r refl in
    subst (Follows threads steps) same (All-cons (IsTurn threads) turn r.turns h after.0, omega (arith, sum_by-cons (λ (t : Turn). t.count) turn r.turns, after.1))

line_follows : (threads steps : ℕ) (told : ScheduleLine) (lines : List Numbered) (after : ℕ → Result Schedule Refusal) (s : Schedule) → steps ≤ most_steps → IsLawful threads steps told
    → ((count : ℕ) (r : Schedule) → steps + count ≤ most_steps → after count ≡ Ok r → Follows threads (steps + count) r) → from_line told lines after ≡ Ok s → Follows threads steps s
line_follows threads steps (Steps turn) lines after s h k f e = turn_follows threads steps turn (after turn.count) s k.0 (λ r d. f turn.count r k.1 d) e
line_follows threads steps (Crash keep) lines after s h k f e = crash_follows threads steps keep lines s h e

lines_follow : (threads steps : ℕ) (lines : List Numbered) (s : Schedule) → steps ≤ most_steps → schedule_in threads steps lines ≡ Ok s → Follows threads steps s
lines_follow threads steps [] s h e = cc e
lines_follow threads steps (l ∷ lines) s h e =
    let after : ℕ → Result Schedule Refusal = λ count. schedule_in threads (steps + count) lines in
    let read = accepted (at_line l.number (line_after threads steps (words_of l.line))) (λ (told : ScheduleLine). from_line told lines after) s e in
    let told = line_told threads steps (words_of l.line) read.0 (accepted_line l.number (line_after threads steps (words_of l.line)) read.0 read.1) in
    line_follows threads steps read.0 lines after s h told (λ count r few d. lines_follow threads (steps + count) lines r few d) read.2

-- the schedule of a text can be played
pub schedule_is_playable : (threads : ℕ) (lines : List Numbered) (s : Schedule) → schedule_in threads 0 lines ≡ Ok s → IsPlayable threads s
schedule_is_playable threads lines s e = let follows = lines_follow threads 0 lines s (omega arith) e in record { turns = follows.0; steps = omega (arith, follows.1) }
