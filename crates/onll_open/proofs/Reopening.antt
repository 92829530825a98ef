-- Logs that are gone on from: what holds them is what their files begin with, and what the devices that are made of these read.
use Rattle.std.proofs.Common.{ℕ, zero, suc, Bool, true, false, true≢false, List, [], ◌∷◌, ◌++◌, ◌≡◌, ◌+◌, ◌-◌, ◌<◌, ◌≤◌, ◌^◌, max, length, map, drop, get_or, cond, Option, Some, None, is_some, inl, inr, ◌⊎◌, refl, sym, ap, ◌∙◌, subst, arith, append_assoc, append-nil, length-append}
use Rattle.std.specs.List.{AllByRecursion}
use Rattle.std.specs.Option.{IfSome}
use Rattle.std.proofs.lemmas.List.{drop_more, drop_at, length-replicate, append_cancel_left}
use Rattle.onll_model.specs.Segment.{Segment}
use Rattle.onll_pmem.specs.Device.{zero_line, zero_lines}
use Rattle.onll_pmem.specs.Pmem.{DeviceView}
use Rattle.onll_log.specs.declared.head.LogHead.{LogHead}
use Rattle.onll_log.specs.Head.{head_of, is_head, AreHeads}
use Rattle.onll_log.specs.Grammar.{Content, content_of, entries_from, are_zero_lines, lines_in, used_with, used_by}
use Rattle.onll_log.specs.Log.{IsNewest}
use Rattle.onll_log.specs.Tested.{used_in}
use Rattle.onll_log.proofs.Deciding.{content_zeros}
use Rattle.onll_merge.specs.declared.counts.LogCounts.{LogCounts}
use Rattle.onll_merge.specs.Laws.{HeadsFit}
use Rattle.onll_merge.specs.Recovered.{log_counts}
use Rattle.onll_outside.specs.Views.{StoreView, SameOthers, SameFiles, IsFresh, BeginsWith, AreWipedWords, AreZeros, KeptOrZeros, MayWipe, word_bytes, image_bytes, with_zeros}
use Rattle.onll_run.specs.Making.{StandsBy, HeldBefore, AllCanOpen}
use Rattle.onll_open.specs.Names.{log_name}
use Rattle.onll_open.specs.Files.{BeginsAs, FilesBegin, KeepsFront, KeepFronts, front_in}
use Rattle.onll_open.specs.Misfits.{head_of_content}
use Rattle.onll_open.specs.declared.fault.DeviceFault.{DeviceFault}
use Rattle.onll_open.specs.declared.fault.DeviceFault.TheVariants.{NotMade, NotReopened, NoMemory}
use Rattle.onll_open.specs.Devices.{AreReopened, AreHeld, AreWithin, HasHeadLine, HaveHeadLines, HeadIs, IsDeviceAt, IsDeviceOf, front_by, fronts_by}
use Rattle.onll_open.specs.Rooms.{lines_for, lines_with}
use Rattle.onll_open.proofs.Handing.{IsUnused, name_differs, unused_more}
use Rattle.onll_open.proofs.ReadImages.{begins_there}

-- ---- files that begin with lines
-- where there are such lines
pub begins_some : (store : StoreView) (name : List ℕ) (front : List (List ℕ)) → 0 < length front → BeginsAs store name front → BeginsWith store name (image_bytes front)
begins_some store name [] some h = absurd (omega (arith, some))
begins_some store name (line ∷ front) some h = h

-- one file changes, and those after it don't
begins_later : (logs : List ℕ) (last t : ℕ) (fronts : List (List (List ℕ))) (mid new : StoreView) → last < t → t + length fronts < 2 ^ 64 → SameOthers (log_name logs last) mid new → FilesBegin logs t fronts mid → FilesBegin logs t fronts new
begins_later logs last t [] mid new less few others h = tt
begins_later logs last t (front ∷ fronts) mid new less few others h =
    let differs : log_name logs t ≡ log_name logs last → ⊥ = λ same. let is = name_differs logs t last (omega (arith, few)) (omega (arith, less, few)) same in absurd (omega (arith, is, less)) in (
      begins_there mid new (log_name logs t) front others.tells (others.file (log_name logs t) differs) h.0,
      begins_later logs last (suc t) fronts mid new (omega (arith, less)) (omega (arith, few)) others h.1,
    )

-- ---- files that keep these lines
keeps_none : (store : StoreView) (name : List ℕ) (front : List (List ℕ)) → BeginsAs store name front → KeepsFront name front store store
keeps_none store name [] h = inl refl
keeps_none store name (line ∷ front) h = λ on. let b = h on in record { was = b.0; rest = b.0; before = b.1; now = b.1; wiped = λ word. inl refl }

pub keep_none : (logs : List ℕ) (t : ℕ) (fronts : List (List (List ℕ))) (store : StoreView) → FilesBegin logs t fronts store → KeepFronts logs t fronts store store
keep_none logs t [] store h = tt
keep_none logs t (front ∷ fronts) store h = (keeps_none store (log_name logs t) front h.0, keep_none logs (suc t) fronts store h.1)

zeros_since : (name : List ℕ) (old mid new : StoreView) → new.file name ≡ mid.file name → KeptOrZeros name old mid → KeptOrZeros name old new
zeros_since name old mid new file (inl same) = inl (file ∙ same)
zeros_since name old mid new file (inr z) = inr (z.0, file ∙ z.1, z.2)

pub keeps_since : (name : List ℕ) (front : List (List ℕ)) (old mid new : StoreView) → new.file name ≡ mid.file name → KeepsFront name front old mid → KeepsFront name front old new
keeps_since name [] old mid new file h = zeros_since name old mid new file h
keeps_since name (line ∷ front) old mid new file h = λ on. let w = h on in record { was = w.was; rest = w.rest; before = w.before; now = file ∙ w.now; wiped = w.wiped }

word_wiped : (was mid now : List ℕ) → (mid ≡ was) ⊎ AreZeros mid → (now ≡ mid) ⊎ AreZeros now → (now ≡ was) ⊎ AreZeros now
word_wiped was mid now (inl e) (inl f) = inl (f ∙ e)
word_wiped was mid now (inr z) (inl f) = inr (subst AreZeros (sym f) z)
word_wiped was mid now h (inr z) = inr z

wipes_two : (name front : List ℕ) (old mid new : StoreView) → mid.tells ≡ old.tells → MayWipe name front old mid → MayWipe name front mid new → MayWipe name front old new
wipes_two name front old mid new tells h k on =
    let a = h on in
    let b = k (tells ∙ on) in
    let rests : front ++ a.rest ≡ front ++ b.was = (let both = sym a.now ∙ b.before in cc both) in
    let same : a.rest ≡ b.was = append_cancel_left front a.rest b.was rests in
    record {
      was = a.was;
      rest = b.rest;
      before = a.before;
      now = b.now;
      wiped = λ word. word_wiped (word_bytes a.was word) (word_bytes b.was word) (word_bytes b.rest word) (subst (λ r. AreWipedWords a.was r) same a.wiped word) (b.wiped word);
    }

zeros_two : (name : List ℕ) (old mid new : StoreView) → KeptOrZeros name old mid → KeptOrZeros name mid new → KeptOrZeros name old new
zeros_two name old mid new h (inl same) = zeros_since name old mid new same h
zeros_two name old mid new h (inr z) = inr z

keeps_two : (name : List ℕ) (front : List (List ℕ)) (old mid new : StoreView) → mid.tells ≡ old.tells → KeepsFront name front old mid → KeepsFront name front mid new → KeepsFront name front old new
keeps_two name [] old mid new tells h k = zeros_two name old mid new h k
keeps_two name (line ∷ front) old mid new tells h k = wipes_two name (image_bytes (line ∷ front)) old mid new tells h k

keep_later : (logs : List ℕ) (last t : ℕ) (fronts : List (List (List ℕ))) (old mid new : StoreView) → last < t → t + length fronts < 2 ^ 64 → SameOthers (log_name logs last) mid new → KeepFronts logs t fronts old mid → KeepFronts logs t fronts old new
keep_later logs last t [] old mid new less few others h = tt
keep_later logs last t (front ∷ fronts) old mid new less few others h =
    let differs : log_name logs t ≡ log_name logs last → ⊥ = λ same. let is = name_differs logs t last (omega (arith, few)) (omega (arith, less, few)) same in absurd (omega (arith, is, less)) in (
      keeps_since (log_name logs t) front old mid new (others.file (log_name logs t) differs) h.0,
      keep_later logs last (suc t) fronts old mid new (omega (arith, less)) (omega (arith, few)) others h.1,
    )

-- the file at this place keeps its lines, and no other changes
pub keep_next : (logs : List ℕ) (t i last : ℕ) (fronts : List (List (List ℕ))) (old mid new : StoreView) → t + i ≡ last → i < length fronts → t + length fronts < 2 ^ 64 → mid.tells ≡ old.tells
    → KeepsFront (log_name logs last) (get_or fronts i []) mid new → SameOthers (log_name logs last) mid new → KeepFronts logs t fronts old mid → KeepFronts logs t fronts old new
keep_next logs t i last [] old mid new e low few tells w others h = absurd (omega (arith, low))
keep_next logs t zero last (front ∷ fronts) old mid new e low few tells w others h =
    let here : last ≡ t = omega (arith, e) in (
      keeps_two (log_name logs t) front old mid new tells h.0 (subst (λ n. KeepsFront (log_name logs n) front mid new) here w),
      keep_later logs last (suc t) fronts old mid new (omega (arith, here)) (omega (arith, few)) others h.1,
    )
keep_next logs t (suc i) last (front ∷ fronts) old mid new e low few tells w others h =
    let differs : log_name logs t ≡ log_name logs last → ⊥ = λ same. let is = name_differs logs t last (omega (arith, few)) (omega (arith, e, low, few)) same in absurd (omega (arith, is, e)) in (
      keeps_since (log_name logs t) front old mid new (others.file (log_name logs t) differs) h.0,
      keep_next logs (suc t) i last fronts old mid new (omega (arith, e)) (omega (arith, low)) (omega (arith, few)) tells w others h.1,
    )

pub keep_same : (logs : List ℕ) (t : ℕ) (fronts : List (List (List ℕ))) (old mid new : StoreView) → SameFiles mid new → KeepFronts logs t fronts old mid → KeepFronts logs t fronts old new
keep_same logs t [] old mid new same h = tt
keep_same logs t (front ∷ fronts) old mid new same h =
    (keeps_since (log_name logs t) front old mid new (same.file (log_name logs t)) h.0, keep_same logs (suc t) fronts old mid new same h.1)

-- ---- the lines that files begin with, by how much their logs hold
front_as : (log : Content) (lines : List (List ℕ)) → content_of lines ≡ Some log → front_by (is_some log.head) lines ≡ front_in lines
front_as log lines e = ap (λ (o : Option Content). front_by (is_some (head_of_content o)) lines) (sym e)

pub fronts_as : (logs : List Content) (images : List (List (List ℕ))) → map content_of images ≡ map Some logs → fronts_by (map log_counts logs) images ≡ map front_in images
fronts_as [] [] e = refl
fronts_as [] (image ∷ images) e = absurd (omega (arith, ap length e))
fronts_as (log ∷ logs) [] e = refl
fronts_as (log ∷ logs) (image ∷ images) e =
    let here : content_of image ≡ Some log = (cc) in
    let rest : map content_of images ≡ map Some logs = (cc) in
    let front = front_as log image here in
    let more = fronts_as logs images rest in
    (λ i. front i ∷ more i)

-- the lines with which a device begins, and how many
pub front_at : (held : List LogCounts) (images : List (List (List ℕ))) (t : ℕ) (none : LogCounts) → length held ≡ length images → t < length images
    → get_or (fronts_by held images) t [] ≡ front_by (get_or held t none).head (get_or images t [])
front_at [] [] t none many low = absurd (omega (arith, low))
front_at [] (image ∷ images) t none many low = absurd (omega (arith, many))
front_at (log ∷ held) [] t none many low = absurd (omega (arith, low))
front_at (log ∷ held) (image ∷ images) zero none many low = refl
front_at (log ∷ held) (image ∷ images) (suc t) none many low = front_at held images t none (omega (arith, many)) (omega (arith, low))

pub fronts_many : (held : List LogCounts) (images : List (List (List ℕ))) → length held ≡ length images → length (fronts_by held images) ≡ length images
fronts_many [] [] many = refl
fronts_many [] (image ∷ images) many = absurd (omega (arith, many))
fronts_many (log ∷ held) [] many = absurd (omega (arith, many))
fronts_many (log ∷ held) (image ∷ images) many = ap suc (fronts_many held images (omega (arith, many)))

pub within_many : (images : List (List (List ℕ))) (lines : List ℕ) → AreWithin images lines → length lines ≡ length images
within_many [] [] h = refl
within_many [] (n ∷ lines) h = absurd h
within_many (image ∷ images) [] h = absurd h
within_many (image ∷ images) (n ∷ lines) h = ap suc (within_many images lines h.1)

pub within_at : (images : List (List (List ℕ))) (lines : List ℕ) (t : ℕ) → AreWithin images lines → t < length images → length (get_or images t []) ≤ get_or lines t 0
within_at [] lines t h low = absurd (omega (arith, low))
within_at (image ∷ images) [] t h low = absurd h
within_at (image ∷ images) (n ∷ lines) zero h low = h.0
within_at (image ∷ images) (n ∷ lines) (suc t) h low = within_at images lines t h.1 (omega (arith, low))

pub begins_at : (logs : List ℕ) (t i : ℕ) (fronts : List (List (List ℕ))) (store : StoreView) → i < length fronts → FilesBegin logs t (drop i fronts) store → BeginsAs store (log_name logs t) (get_or fronts i [])
begins_at logs t i fronts store low h = (subst (λ fs. FilesBegin logs t fs store) (drop_more fronts i [] low) h).0

-- ---- one device more
module _ {Device : Type 0} (means : Device → DeviceView) where
  -- the devices of the threads before were reopened
  pub record ReopenedSo (fronts : List (List (List ℕ))) (lines : List ℕ) (devices : List Device) (thread : ℕ) : Type 0 where
    pub made : (rest : List Device) → AreReopened means (drop thread fronts) (drop thread lines) rest → AreReopened means fronts lines (devices ++ rest)
    pub count : length devices ≡ thread
    pub unused : AllByRecursion (IsUnused means) devices

  pub reopened_start : (fronts : List (List (List ℕ))) (lines : List ℕ) (devices : List Device) → devices ≡ [] → ReopenedSo fronts lines devices 0
  reopened_start fronts lines devices none = record {
    made = λ rest h. subst (λ (l : List Device). AreReopened means fronts lines (l ++ rest)) (sym none) h;
    count = ap length none;
    unused = subst (AllByRecursion (IsUnused means)) (sym none) tt;
  }

  pub reopened_next : (fronts : List (List (List ℕ))) (lines : List ℕ) (devices pushed : List Device) (d : Device) (thread n : ℕ) (front : List (List ℕ)) → thread < length fronts → thread < length lines → n ≡ get_or lines thread 0
      → front ≡ get_or fronts thread [] → pushed ≡ devices ++ d ∷ [] → ReopenedSo fronts lines devices thread → IsFresh (with_zeros front n) (means d) → ReopenedSo fronts lines pushed (thread + 1)
  reopened_next fronts lines devices pushed d thread n front low short is begins p so fresh = record {
    made = λ rest h.
        let here : AreReopened means (front ∷ drop (thread + 1) fronts) (n ∷ drop (thread + 1) lines) (d ∷ rest) = (fresh, h) in
        let fs : front ∷ drop (thread + 1) fronts ≡ drop thread fronts = ap (λ (f : List (List ℕ)). f ∷ drop (thread + 1) fronts) begins ∙ sym (drop_more fronts thread [] low) in
        let ns : n ∷ drop (thread + 1) lines ≡ drop thread lines = ap (λ m. m ∷ drop (thread + 1) lines) is ∙ sym (drop_more lines thread 0 short) in
        let first : AreReopened means (drop thread fronts) (drop thread lines) (d ∷ rest) =
        subst (λ l. AreReopened means (drop thread fronts) l (d ∷ rest)) ns (subst (λ f. AreReopened means f (n ∷ drop (thread + 1) lines) (d ∷ rest)) fs here) in
        subst (AreReopened means fronts lines) (sym (ap (λ (l : List Device). l ++ rest) p ∙ append_assoc devices (d ∷ []) rest)) (so.made (d ∷ rest) first);
    count = ap length p ∙ length-append devices (d ∷ []) ∙ ap (λ m. m + 1) so.count;
    unused = unused_more means devices pushed d (with_zeros front n) p fresh so.unused;
  }

  pub reopened_end : (fronts : List (List (List ℕ))) (lines : List ℕ) (devices : List Device) (thread : ℕ) → drop thread fronts ≡ [] → drop thread lines ≡ [] → ReopenedSo fronts lines devices thread → AreReopened means fronts lines devices
  reopened_end fronts lines devices thread none nothing so =
      let last : AreReopened means (drop thread fronts) (drop thread lines) [] =
      subst (λ f. AreReopened means f (drop thread lines) []) (sym none) (subst (λ l. AreReopened means [] l []) (sym nothing) tt) in
      subst (AreReopened means fronts lines) (append-nil devices) (so.made [] last)

-- the files that are left begin with their lines still
pub begins_next : (logs : List ℕ) (thread : ℕ) (fronts : List (List (List ℕ))) (mid new : StoreView) → thread < length fronts → length fronts < 2 ^ 64 → SameOthers (log_name logs thread) mid new → FilesBegin logs thread (drop thread fronts) mid
    → FilesBegin logs (thread + 1) (drop (thread + 1) fronts) new
begins_next logs thread fronts mid new low few others h =
    let rest = subst (λ fs. FilesBegin logs thread fs mid) (drop_more fronts thread [] low) h in
    let long = ap length (drop_more fronts thread [] low) in
    let all = dropped thread fronts (omega (arith, low)) in
    let next : suc thread ≡ thread + 1 = omega arith in
    subst (λ n. FilesBegin logs n (drop (thread + 1) fronts) new) next (begins_later logs thread (suc thread) (drop (thread + 1) fronts) mid new (omega arith) (omega (arith, long, all, few)) others rest.1)
  where
    dropped : (n : ℕ) (fs : List (List (List ℕ))) → n ≤ length fs → length (drop n fs) + n ≡ length fs
    dropped zero fs h = omega arith
    dropped (suc n) [] h = absurd (omega (arith, h))
    dropped (suc n) (f ∷ fs) h = let rest = dropped n fs (omega (arith, h)) in omega (arith, rest)

-- ---- what images hold
abbrev head_in : Option Content → Option LogHead
head_in None = None
head_in (Some c) = c.head

abbrev entries_in : Option Content → List Segment
entries_in None = []
entries_in (Some c) = c.entries

some_none : {A : Type 0} (x : A) → Some x ≡ None → ⊥
some_none x e = true≢false (ap is_some e)

empty_by : (b z : Bool) (head : LogHead) (es : List Segment) (c : Content)
    → cond {A = Option Content} b (Some (record { head = Some head; entries = es })) (cond {A = Option Content} z (Some (record { head = None; entries = [] })) None) ≡ Some c → c.head ≡ None → c.entries ≡ []
empty_by true z head es c e n = absurd (some_none head (ap head_in e ∙ n))
empty_by false true head es c e n = sym (ap entries_in e)
empty_by false false head es c e n = absurd (some_none c (sym e))

-- a log without a head has no entry
empty_log : (image : List (List ℕ)) (c : Content) → content_of image ≡ Some c → c.head ≡ None → c.entries ≡ []
empty_log [] c e n = absurd (some_none c (sym e))
empty_log (l ∷ ls) c e n = empty_by (is_head l) (are_zero_lines (l ∷ ls)) (head_of l) (entries_from (head_of l) 0 0 ls) c e n

-- What is so of a log and the lines of its image: they hold it, they are as many as decide that, and its head is of format 2.
pub record IsSound (log : Content) (image : List (List ℕ)) : Type 0 where
  pub holds : content_of image ≡ Some log
  pub most : length image ≤ max 1 (used_by log)
  pub least : used_by log ≤ length image
  pub newest : IfSome log.head (λ head. head.format ≡ 2)

abbrev pub AreSound : List Content → List (List (List ℕ)) → Type 0
AreSound [] [] = Unit {0}
AreSound (log ∷ logs) (image ∷ images) = IsSound log image × AreSound logs images
AreSound logs images = ⊥

format_2 : (o : Option LogHead) (head : LogHead) → IfSome o (λ found. found ≡ head) → head.format ≡ 2 → IfSome o (λ found. found.format ≡ 2)
format_2 None head e f = tt
format_2 (Some found) head e f = ap (λ (h : LogHead). h.format) e ∙ f

pub are_sound : (count t : ℕ) (heads : List LogHead) (logs : List Content) (images : List (List (List ℕ))) → length heads ≡ length logs → AreHeads count t heads → HeadsFit logs heads
    → AllByRecursion (λ image. length image ≤ used_in (content_of image)) images → AreHeld images logs → AreSound logs images
are_sound count t heads [] [] many hs fit used held = tt
are_sound count t heads [] (image ∷ images) many hs fit used held = absurd held
are_sound count t heads (log ∷ logs) [] many hs fit used held = absurd held
are_sound count t [] (log ∷ logs) (image ∷ images) many hs fit used held = absurd (omega (arith, many))
are_sound count t (head ∷ heads) (log ∷ logs) (image ∷ images) many hs fit used held = (
  record {
    holds = held.0.holds;
    most = subst (λ c. length image ≤ used_in c) held.0.holds used.0;
    least = held.0.least;
    newest = format_2 log.head head fit.0 hs.0.format;
  },
  are_sound count (t + 1) heads logs images (omega (arith, many)) hs.1 fit.1 used.1 held.1,
)

-- a log with a head uses all these lines
pub all_used : (log : Content) (image : List (List ℕ)) (head : LogHead) → IsSound log image → log.head ≡ Some head → (length image ≡ used_by log) × (1 ≤ length image)
all_used log image head s e =
    let used : used_by log ≡ 1 + lines_in log.entries = ap (λ (o : Option LogHead). used_with o log.entries) e in
    let most = s.most in
    let least = s.least in
    (omega (arith, used, most, least), omega (arith, used, most, least))

-- so a log with a head has a line
pub head_lines : (logs : List Content) (images : List (List (List ℕ))) → AreSound logs images → HaveHeadLines (map log_counts logs) images
head_lines [] images s = tt
head_lines (log ∷ logs) [] s = tt
head_lines (log ∷ logs) (image ∷ images) s = (by log.head refl, head_lines logs images s.1)
  where
    by : (o : Option LogHead) → log.head ≡ o → HasHeadLine (is_some log.head) image
    by None e = subst (λ (o : Option LogHead). HasHeadLine (is_some o) image) (sym e) tt
    by (Some head) e = subst (λ (o : Option LogHead). HasHeadLine (is_some o) image) (sym e) (all_used log image head s.0 e).1

-- ---- a device that was not had
no_front : (head : Bool) (image : List (List ℕ)) → HasHeadLine head image → front_by head image ≡ [] → head ≡ false
no_front false image line e = refl
no_front true image line e = let none = ap length e in absurd (omega (arith, line, none))

some_front : (head : Bool) (image front : List (List ℕ)) (first : List ℕ) → front_by head image ≡ first ∷ front → head ≡ true
some_front false image front first e = absurd (omega (arith, ap length e))
some_front true image front first e = refl

made_for : (held : List LogCounts) (images : List (List (List ℕ))) (t : ℕ) → length held ≡ length images → t < length images → HaveHeadLines held images → get_or (fronts_by held images) t [] ≡ [] → HeadIs false t held
made_for [] [] t many low lines e = absurd (omega (arith, low))
made_for [] (image ∷ images) t many low lines e = absurd (omega (arith, many))
made_for (log ∷ held) [] t many low lines e = absurd (omega (arith, many))
made_for (log ∷ held) (image ∷ images) zero many low lines e = no_front log.head image lines.0 e
made_for (log ∷ held) (image ∷ images) (suc t) many low lines e = made_for held images t (omega (arith, many)) (omega (arith, low)) lines.1 e

again_for : (held : List LogCounts) (images : List (List (List ℕ))) (t : ℕ) (front : List (List ℕ)) (first : List ℕ) → length held ≡ length images → t < length images → get_or (fronts_by held images) t [] ≡ first ∷ front
    → HeadIs true t held
again_for [] [] t front first many low e = absurd (omega (arith, low))
again_for [] (image ∷ images) t front first many low e = absurd (omega (arith, many))
again_for (log ∷ held) [] t front first many low e = absurd (omega (arith, many))
again_for (log ∷ held) (image ∷ images) zero front first many low e = some_front log.head image front first e
again_for (log ∷ held) (image ∷ images) (suc t) front first many low e = again_for held images t front first (omega (arith, many)) (omega (arith, low)) e

pub device_of_head : (held : List LogCounts) (images : List (List (List ℕ))) (t : ℕ) (fault : DeviceFault) → length held ≡ length images → t < length images → HaveHeadLines held images
    → IsDeviceAt (get_or (fronts_by held images) t []) t fault → IsDeviceOf held fault
device_of_head held images t fault many low lines h = by (get_or (fronts_by held images) t []) refl fault h
  where
    by : (front : List (List ℕ)) → get_or (fronts_by held images) t [] ≡ front → (fault : DeviceFault) → IsDeviceAt front t fault → IsDeviceOf held fault
    by [] e (NotMade thread) h = subst (λ n. HeadIs false n held) (sym h) (made_for held images t many low lines e)
    by [] e (NotReopened thread) h = absurd h
    by [] e NoMemory h = tt
    by (first ∷ front) e (NotMade thread) h = absurd h
    by (first ∷ front) e (NotReopened thread) h = subst (λ n. HeadIs true n held) (sym h) (again_for held images t front first many low e)
    by (first ∷ front) e NoMemory h = tt

-- ---- what devices read
zeros_are : (n : ℕ) → are_zero_lines (zero_lines n) ≡ true
zeros_are zero = refl
zeros_are (suc n) = zeros_are n

pub long_zeros : (front : List (List ℕ)) (n : ℕ) → length front ≤ n → length (with_zeros front n) ≡ n
long_zeros front n low =
    let all = length-append front (zero_lines (n - length front)) in
    let zeros : length (zero_lines (n - length front)) ≡ n - length front = length-replicate (n - length front) zero_line in
    omega (arith, all, zeros, low)

pub front_short : (head : Bool) (image : List (List ℕ)) → length (front_by head image) ≤ length image
front_short false image = omega arith
front_short true image = omega arith

pub stands_at : (log : Content) (image : List (List ℕ)) (n : ℕ) → IsSound log image → 1 ≤ n → length image ≤ n → HeldBefore log (with_zeros (front_by (is_some log.head) image) n)
stands_at log image n s some_ low = by log.head refl
  where
    by : (o : Option LogHead) → log.head ≡ o → StandsBy o log (with_zeros (front_by (is_some o) image) n)
    by None e =
        let long : length (with_zeros [] n) ≡ n = long_zeros [] n (omega arith) in
        let all : n - 0 ≡ length (with_zeros [] n) = omega (arith, long) in
        (empty_log image log s.holds e, record { some_line = omega (arith, long, some_); zeros = ap zero_lines all })
    by (Some head) e =
        let used = all_used log image head s e in
        let zeros = zero_lines (n - length image) in
        record {
          holds = content_zeros (n - length image) image (λ none. absurd (let empty = ap length none in let one = used.1 in omega (arith, empty, one))) ∙ s.holds;
          newest = subst IsNewest (sym e) (subst (λ (p : Option LogHead). IfSome p (λ h. h.format ≡ 2)) e s.newest);
          rest = ap are_zero_lines (drop_at image zeros (used_by log) used.0) ∙ zeros_are (n - length image);
        }

-- ---- rooms
pub are_within : (threads : ℕ) (logs : List Content) (images : List (List (List ℕ))) (rooms : List ℕ) → AreSound logs images → length rooms ≡ length logs → AreWithin images (lines_for threads (map log_counts logs) rooms)
are_within threads [] [] rooms s e = tt
are_within threads [] (image ∷ images) rooms s e = absurd s
are_within threads (log ∷ logs) [] rooms s e = absurd s
are_within threads (log ∷ logs) (image ∷ images) [] s e = absurd (omega (arith, e))
are_within threads (log ∷ logs) (image ∷ images) (room ∷ rooms) s e = (let most = s.0.most in omega (arith, most), are_within threads logs images rooms s.1 (omega (arith, e)))

module _ {Device : Type 0} (means : Device → DeviceView) where
  -- a device for a log reads as it, and has so many lines
  pub record IsReady (log : Content) (lines : ℕ) (d : Device) : Type 0 where
    pub fences : (means d).fences ≡ 0
    pub faults : (means d).faults ≡ 0
    pub stands : HeldBefore log (means d).read
    pub many : length (means d).read ≡ lines

  abbrev pub AreReady : List Content → List ℕ → List Device → Type 0
  AreReady [] [] [] = Unit {0}
  AreReady (log ∷ logs) (n ∷ lines) (d ∷ ds) = IsReady log n d × AreReady logs lines ds
  AreReady logs lines ds = ⊥

  is_ready : (threads : ℕ) (log : Content) (image : List (List ℕ)) (room : ℕ) (d : Device) → IsSound log image
      → IsFresh (with_zeros (front_by (is_some log.head) image) (lines_with threads (used_by log) room)) (means d) → IsReady log (lines_with threads (used_by log) room) d
  is_ready threads log image room d s fresh =
      let n : ℕ = lines_with threads (used_by log) room in
      let most = s.most in
      let low : length image ≤ n = omega (arith, most) in
      let short = front_short (is_some log.head) image in
      record {
        fences = fresh.fences;
        faults = fresh.faults;
        stands = subst (HeldBefore log) (sym fresh.read) (stands_at log image n s (omega arith) low);
        many = ap length fresh.read ∙ long_zeros (front_by (is_some log.head) image) n (omega (arith, low, short));
      }

  pub can_open : (count t threads : ℕ) (heads : List LogHead) (logs : List Content) (images : List (List (List ℕ))) (rooms : List ℕ) (devices : List Device) → AreSound logs images → length rooms ≡ length logs → length heads ≡ length logs
      → AreHeads count t heads → HeadsFit logs heads
      → AreReopened means (fronts_by (map log_counts logs) images) (lines_for threads (map log_counts logs) rooms) devices → AllCanOpen means heads logs devices × AreReady logs (lines_for threads (map log_counts logs) rooms) devices
  can_open count t threads [] [] [] rooms [] s many heads hs fit r = (tt, tt)
  can_open count t threads (h ∷ heads) [] [] rooms [] s many e hs fit r = absurd (omega (arith, e))
  can_open count t threads heads [] [] rooms (d ∷ ds) s many e hs fit r = absurd r
  can_open count t threads heads [] (image ∷ images) rooms ds s many e hs fit r = absurd s
  can_open count t threads heads (log ∷ logs) [] rooms ds s many e hs fit r = absurd s
  can_open count t threads heads (log ∷ logs) (image ∷ images) [] ds s many e hs fit r = absurd (omega (arith, many))
  can_open count t threads [] (log ∷ logs) (image ∷ images) (room ∷ rooms) ds s many e hs fit r = absurd (omega (arith, e))
  can_open count t threads (h ∷ heads) (log ∷ logs) (image ∷ images) (room ∷ rooms) [] s many e hs fit r = absurd r
  can_open count t threads (h ∷ heads) (log ∷ logs) (image ∷ images) (room ∷ rooms) (d ∷ ds) s many e hs fit r =
      let here = is_ready threads log image room d s.0 r.0 in
      let rest = can_open count (t + 1) threads heads logs images rooms ds s.1 (omega (arith, many)) (omega (arith, e)) hs.1 fit.1 r.1 in (
        (record { fits = hs.0.fits; head_is = fit.0; fences = here.fences; faults = here.faults; settled = r.0.settled; stands = here.stands }, rest.0),
        (here, rest.1),
      )

-- the image at this place, and that of its log
pub here_at : {A : Type 0} (xs : List A) (i : ℕ) (x none : A) → i < length xs → x ≡ get_or xs i x → get_or xs i none ≡ x
here_at [] i x none low at = absurd (omega (arith, low))
here_at (y ∷ xs) zero x none low at = sym at
here_at (y ∷ xs) (suc i) x none low at = here_at xs i x none (omega (arith, low)) at
