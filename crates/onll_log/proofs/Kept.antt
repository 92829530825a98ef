-- A log over a device: what making it leaves, and what an append leaves.
use Rattle.std.proofs.Common.{ℕ, zero, suc, ◌≡◌, ◌+◌, ◌-◌, ◌*◌, ◌^◌, ◌<◌, ◌≤◌, Bool, true, false, true≢false, List, [], ◌∷◌, ◌++◌, length, get_or, take, drop, sym, refl, ap, ◌∙◌, subst, arith, append-nil, length-append, Result, Ok, Err}
use Rattle.std.specs.Prelude.{OnOk, OnErr, Option, Some, is_err}
use Rattle.std.specs.List.{All}
use Rattle.std.proofs.lemmas.List.{length-map, length-replicate, take_at}
use Rattle.std.proofs.Math.Seq.{take-append_seam}
use Rattle.std.proofs.lemmas.List.Elements.{recursion_from_All}
use Rattle.onll_model.specs.declared.node.Node.{Node}
use Rattle.onll_model.specs.Segment.{Segment, last_place}
use Rattle.onll_pmem.specs.Device.{line_at, zero_line, zero_lines, AllBacked, FillsLines}
use Rattle.onll_pmem.specs.Pmem.{Told, DeviceView, EightWords, told_fenced, ToldLines, ToldBacked, ToldSettled}
use Rattle.onll_pmem.proofs.Devices.{AllBacked-even, KeepsTold-backed, ToldBacked-fence, ToldSettled-fence}
use Rattle.onll_log.specs.declared.head.LogHead.{LogHead}
use Rattle.onll_log.specs.Head.{FitsHead, head_line}
use Rattle.onll_log.specs.Encoding.{CanHold, FitsNode, FitsEntry, FitEntries, entry_line, entry_lines, log_lines, node_lines}
use Rattle.onll_log.specs.declared.decoded.Decoded.{Decoded}
use Rattle.onll_log.specs.declared.decoded.Entry.{Entry}
use Rattle.onll_log.specs.Decoded.{segment_in, segments_in, content_in}
use Rattle.onll_log.specs.Grammar.{content_of, are_zero_lines, lines_in, used_with, used_by}
use Rattle.onll_log.specs.Written.{IsWritten}
use Rattle.onll_log.specs.Torn.{IsLine, Holds, log_image}
use Rattle.onll_log.specs.Log.{entries_read, free_of, but_last, placed_lines, PutsLines, HoldsLog, KeepsLog, EndsInZeros, IsClean, HasHeader, IsMade, Appends}
use Rattle.onll_log.proofs.Lines.{AreLines-entry_lines}
use Rattle.onll_log.proofs.Encoded.{entries_from-entries_lines, entries_from-zero_lines, length-entry_lines, length-log_lines, FitEntries-append}
use Rattle.onll_log.proofs.Torn.{log_image-more, Holds-log_image}
use Rattle.onll_log.proofs.Written.{IsWritten-Holds, log_image-Holds}
use Rattle.onll_log.proofs.Placed.{placed_lines-zeros, FillsLines-zeros, line_at-placed, length-placed_lines}

-- ---- logs as read
-- the entries of a log are those that were put in
pub entries_read-log_image : (head : LogHead) (ss : List Segment) (zeros : ℕ) → FitEntries head.threads ss → entries_read head (log_image head ss zeros) ≡ ss
entries_read-log_image head ss zeros f = entries_from-entries_lines head ss (zero_lines zeros) f ∙ (ap (λ (l : List Segment). ss ++ l) (entries_from-zero_lines head (length ss) zeros) ∙ append-nil ss)

pub length-log_image : (head : LogHead) (ss : List Segment) (zeros : ℕ) → length (log_image head ss zeros) ≡ 1 + lines_in ss + zeros
length-log_image head ss zeros = omega (arith, length-append (log_lines head ss) (zero_lines zeros), length-log_lines head ss, length-replicate zeros zero_line)

-- the used lines of a device that holds a log are the log's, and hold it
pub used_of_log : (d : DeviceView) (head : LogHead) (ss : List Segment) (broken : Bool) → HoldsLog d head ss broken
    → take (1 + lines_in ss) d.read ≡ log_lines head ss
used_of_log d head ss broken h =
    ap (take (1 + lines_in ss)) h.read
    ∙ (ap (λ n. take n (log_lines head ss ++ zero_lines (free_of (length d.read) ss))) (sym (length-log_lines head ss))
    ∙ take-append_seam (log_lines head ss) (zero_lines (free_of (length d.read) ss)))

pub held_by_used : (head : LogHead) (ss : List Segment) → FitsHead head → FitEntries head.threads ss → Holds (log_lines head ss) head ss
held_by_used head ss h f = ap content_of (sym (append-nil (log_lines head ss))) ∙ Holds-log_image head ss 0 h f

-- ---- one entry more
pub lines_in-more : (ss : List Segment) (s : Segment) → lines_in (ss ++ s ∷ []) ≡ lines_in ss + suc (length s.nodes)
lines_in-more [] s = omega arith
lines_in-more (r ∷ ss) s = let h = lines_in-more ss s in omega arith

pub last_place-more : (last : ℕ) (ss : List Segment) (s : Segment) → last_place last (ss ++ s ∷ []) ≡ s.place
last_place-more last [] s = refl
last_place-more last (r ∷ ss) s = last_place-more r.place ss s

pub but_last-more : (ss : List Segment) (s : Segment) → but_last (ss ++ s ∷ []) ≡ ss
but_last-more ss s = take_at ss (s ∷ []) (length (ss ++ s ∷ []) - 1) (omega (arith, length-append ss (s ∷ [])))

-- an entry takes two lines or more
pub lines_in-two : (threads : ℕ) (ss : List Segment) → FitEntries threads ss → 2 * length ss ≤ lines_in ss
lines_in-two threads [] f = omega arith
lines_in-two threads (s ∷ ss) f = let h = lines_in-two threads ss f.1 in let some_nodes = f.0.some_nodes in omega arith

-- a segment whose numbers fit
pub FitsEntry-held : (threads place : ℕ) (nodes : List Node) → 1 ≤ length nodes → length nodes ≤ threads → length nodes ≤ place → place ≤ 4096 * threads
    → All (CanHold threads) nodes → All (λ n. length n.row.w ≡ 7) nodes → FitsEntry threads (record { place = place; nodes = nodes })
FitsEntry-held threads place nodes some_nodes few_nodes from_one up_to held rows = record {
  some_nodes = some_nodes;
  few_nodes = few_nodes;
  from_one = from_one;
  place = up_to;
  nodes = recursion_from_All (FitsNode threads) nodes (λ k d l. let h = held k d l in let number = h.1 in let thread = h.0 in let row = rows k d l in record { thread = thread; number = number; row = row });
}

-- ---- what is told
pub ToldBacked-settled : (told : Option Told) (read : List (List ℕ)) → ToldLines told read → ToldSettled told read → ToldBacked told read
ToldBacked-settled told read lines settled t e = subst (λ (fenced : List (List ℕ)). AllBacked t.backed fenced read) (sym (settled t e)) (AllBacked-even t.backed read (lines t e))

-- ---- a log is made
pub HasHeader-written : (old mid new : DeviceView) (head : LogHead) (line : List ℕ) → IsClean old.read → line ≡ head_line head → PutsLines old mid 0 (line ∷ []) → new.read ≡ mid.read → new.fences ≡ mid.fences + 1 → HasHeader old new head
HasHeader-written old mid new head line clean e p read fences = record {
  clean = clean;
  read = header;
  count = let some_line = clean.some_line in omega (arith, length-log_image head [] (length old.read - 1), ap length header);
  fences = fences ∙ ap (λ (n : ℕ). n + 1) p.fences;
}
  where
    header : new.read ≡ log_image head [] (length old.read - 1)
    header = read ∙ (p.read ∙ (ap (λ (ls : List (List ℕ)). placed_lines ls 0 (line ∷ [])) clean.zeros ∙ (placed_lines-zeros [] 0 (line ∷ []) (length old.read) refl ∙ ap (λ (l : List ℕ). l ∷ zero_lines (length old.read - 1)) e)))

pub entries_read-HasHeader : (old new : DeviceView) (head : LogHead) → HasHeader old new head → entries_read head new.read ≡ []
entries_read-HasHeader old new head h = ap (entries_read head) h.read ∙ entries_read-log_image head [] (length old.read - 1) tt

-- a fence that succeeds
pub ToldSettled-fenced : (mid new : DeviceView) → ToldBacked mid.told mid.read → new.read ≡ mid.read → new.told ≡ told_fenced mid.told mid.read → ToldSettled new.told new.read
ToldSettled-fenced mid new a read told = subst (λ (ls : List (List ℕ)). ToldSettled new.told ls) (sym read) (subst (λ (t : Option Told). ToldSettled t mid.read) (sym told) (KeepsTold-backed mid.told mid.read a).settled)

pub ToldBacked-fenced : (mid new : DeviceView) → ToldBacked mid.told mid.read → new.read ≡ mid.read → new.told ≡ told_fenced mid.told mid.read → ToldBacked new.told new.read
ToldBacked-fenced mid new a read told = subst (λ (ls : List (List ℕ)). ToldBacked new.told ls) (sym read) (subst (λ (t : Option Told). ToldBacked t mid.read) (sym told) (KeepsTold-backed mid.told mid.read a).fenced)

pub KeepsLog-made : (old new : DeviceView) (head : LogHead) → FitsHead head → old.fences < 2 ^ 32 → length old.read < 2 ^ 64 → IsMade old new head → ToldBacked new.told new.read
    → KeepsLog new head (entries_read head new.read) 1 0 0 0 false
KeepsLog-made old new head f few lines m a =
    let len = m.header.count in let some_line = m.header.clean.some_line in let fences = m.header.fences in
    let to : length old.read - 1 ≡ free_of (length new.read) [] = omega arith in
    subst (λ (ss : List Segment). KeepsLog new head ss 1 0 0 0 false) (sym (entries_read-HasHeader old new head m.header)) (record {
      holds = record {
        fits = f;
        fit = tt;
        within = omega arith;
        read = m.header.read ∙ ap (log_image head []) to;
        settled = λ _. m.settled;
        pending = λ e. absurd (true≢false (sym e));
      };
      lines = omega arith;
      used_is = refl;
      count_is = refl;
      last_is = refl;
      backed = a;
      few = omega arith;
      fewer = omega arith;
    })

-- ---- a log is opened
-- lines that hold a log, with zeros after it
pub IsLog-opened : (read : List (List ℕ)) (log : Decoded) (head : LogHead) → EightWords read → log.head ≡ Some head → content_of read ≡ Some (content_in log) → EndsInZeros read (content_in log)
    → IsWritten read head (segments_in log.entries) × ((used_by (content_in log) ≡ 1 + lines_in (segments_in log.entries)) × (read ≡ log_image head (segments_in log.entries) (free_of (length read) (segments_in log.entries))))
IsLog-opened read log head eight h found zeros =
    let ss : List Segment = segments_in log.entries in
    let eights = recursion_from_All IsLine read eight in
    let used : used_by (content_in log) ≡ 1 + lines_in ss = ap (λ (o : Option LogHead). used_with o ss) h in
    let holds : Holds read head ss = found ∙ ap (λ (o : Option LogHead). Some (record { head = o; entries = ss })) h in (
      IsWritten-Holds read head ss eights holds,
      (used, log_image-Holds read head ss eights holds (subst (λ (n : ℕ). are_zero_lines (drop n read) ≡ true) used zeros)),
    )

pub used-opened : (read : List (List ℕ)) (log : Decoded) (head : LogHead) → EightWords read → log.head ≡ Some head → content_of read ≡ Some (content_in log) → EndsInZeros read (content_in log) → used_by (content_in log) ≤ length read
used-opened read log head eight h found zeros =
    let ss : List Segment = segments_in log.entries in let o = IsLog-opened read log head eight h found zeros in let used = o.1.0 in
    let len = length-log_lines head ss in let all = ap length o.0.lines ∙ length-append (log_lines head ss) (drop (used_with (Some head) ss) read) in omega arith

pub last_place-last : (es : List Entry) (first k : ℕ) (d : Entry) → length es ≡ suc k → last_place first (segments_in es) ≡ (get_or es k d).place
last_place-last [] first k d l = absurd (omega arith)
last_place-last (e ∷ []) first zero d l = refl
last_place-last (e ∷ f ∷ es) first zero d l = absurd (omega arith)
last_place-last (e ∷ []) first (suc k) d l = absurd (omega arith)
last_place-last (e ∷ f ∷ es) first (suc k) d l = last_place-last (f ∷ es) e.place k d (omega arith)

pub entries_read-opened : (read : List (List ℕ)) (log : Decoded) (head : LogHead) → EightWords read → log.head ≡ Some head → content_of read ≡ Some (content_in log) → EndsInZeros read (content_in log)
    → entries_read head read ≡ segments_in log.entries
entries_read-opened read log head eight h found zeros =
    let ss : List Segment = segments_in log.entries in let o = IsLog-opened read log head eight h found zeros in
    ap (entries_read head) o.1.1 ∙ entries_read-log_image head ss (free_of (length read) ss) o.0.fit_entries

pub KeepsLog-opened : (d : DeviceView) (log : Decoded) (head : LogHead) (used count last : ℕ) → EightWords d.read → length d.read < 2 ^ 64 → ToldLines d.told d.read → d.fences < 2 ^ 32 → ToldSettled d.told d.read
    → log.head ≡ Some head → content_of d.read ≡ Some (content_in log) → EndsInZeros d.read (content_in log)
    → used ≡ used_by (content_in log) → count ≡ length log.entries → last ≡ last_place 0 (segments_in log.entries)
    → KeepsLog d head (entries_read head d.read) used count last 0 false
KeepsLog-opened d log head used count last eight lines told few settled h found zeros u n l =
    let ss : List Segment = segments_in log.entries in let o = IsLog-opened d.read log head eight h found zeros in let used_is = o.1.0 in
    let len : length (log_lines head ss) ≡ 1 + lines_in ss = length-log_lines head ss in
    let all = ap length o.0.lines ∙ length-append (log_lines head ss) (drop (used_with (Some head) ss) d.read) in
    subst (λ (ts : List Segment). KeepsLog d head ts used count last 0 false) (sym (entries_read-opened d.read log head eight h found zeros)) (record {
      holds = record {
        fits = o.0.fits_head;
        fit = o.0.fit_entries;
        within = omega arith;
        read = o.1.1;
        settled = λ _. settled;
        pending = λ e. absurd (true≢false (sym e));
      };
      lines = lines;
      used_is = u ∙ used_is;
      count_is = n ∙ sym (length-map log.entries segment_in);
      last_is = l;
      backed = ToldBacked-settled d.told d.read told settled;
      few = omega arith;
      fewer = omega arith;
    })

-- ---- an entry is appended
-- the lines that the append wrote
pub Puts-entry : (old mid : DeviceView) (head : LogHead) (ss : List Segment) (s : Segment) (used count : ℕ) (first : List ℕ) → used ≡ 1 + lines_in ss → count ≡ length ss
    → first ≡ entry_line head (count + 1 - 1) s → PutsLines old mid used (first ∷ node_lines s.nodes) → PutsLines old mid (1 + lines_in ss) (entry_lines head (length ss) s)
Puts-entry old mid head ss s used count first u n e p =
    let number : count + 1 - 1 ≡ length ss = omega arith in
    let line : first ≡ entry_line head (length ss) s = e ∙ ap (λ (k : ℕ). entry_line head k s) number in
    subst (λ (l : List ℕ). PutsLines old mid (1 + lines_in ss) (l ∷ node_lines s.nodes)) line (subst (λ (k : ℕ). PutsLines old mid k (first ∷ node_lines s.nodes)) u p)

pub Appends-written : (old mid new : DeviceView) (head : LogHead) (ss : List Segment) (s : Segment) → HoldsLog old head ss false → FitsEntry head.threads s → length s.nodes + 1 ≤ free_of (length old.read) ss
    → PutsLines old mid (1 + lines_in ss) (entry_lines head (length ss) s) → new.read ≡ mid.read → new.fences ≡ mid.fences + 1
    → Appends old new (1 + lines_in ss) (entry_lines head (length ss) s)
Appends-written old mid new head ss s h f room p read fences =
    let within = h.within in
    let len = length-entry_lines head (length ss) s in
    let fits : length (entry_lines head (length ss) s) ≤ free_of (length old.read) ss = omega arith in
    let placed : log_lines head ss ++ (entry_lines head (length ss) s ++ zero_lines (free_of (length old.read) ss - length (entry_lines head (length ss) s))) ≡ new.read =
    sym (read ∙ (p.read ∙ (ap (λ (ls : List (List ℕ)). placed_lines ls (1 + lines_in ss) (entry_lines head (length ss) s)) h.read
    ∙ placed_lines-zeros (log_lines head ss) (1 + lines_in ss) (entry_lines head (length ss) s) (free_of (length old.read) ss) (length-log_lines head ss)))) in
    record {
      read = read ∙ p.read;
      count = ap length (read ∙ p.read) ∙ length-placed_lines old.read (1 + lines_in ss) (entry_lines head (length ss) s) (omega arith);
      fills = subst (λ (ls : List (List ℕ)). FillsLines old.read ls) placed (subst (λ (ls : List (List ℕ)). FillsLines ls (log_lines head ss ++ (entry_lines head (length ss) s ++ zero_lines (free_of (length old.read) ss - length (entry_lines head (length ss) s))))) (sym h.read)
          (FillsLines-zeros (log_lines head ss) (entry_lines head (length ss) s) (free_of (length old.read) ss) (AreLines-entry_lines head (length ss) s f) fits));
      others = λ line other. ap (λ (ls : List (List ℕ)). line_at ls line) (read ∙ p.read) ∙ line_at-placed old.read (1 + lines_in ss) (entry_lines head (length ss) s) line (omega arith) other;
      fences = fences ∙ ap (λ (n : ℕ). n + 1) p.fences;
    }

pub read-Appends : (old new : DeviceView) (head : LogHead) (ss : List Segment) (s : Segment) → HoldsLog old head ss false → length s.nodes + 1 ≤ free_of (length old.read) ss
    → Appends old new (1 + lines_in ss) (entry_lines head (length ss) s) → new.read ≡ log_image head (ss ++ s ∷ []) (free_of (length old.read) (ss ++ s ∷ []))
read-Appends old new head ss s h room a =
    let within = h.within in let len = length-entry_lines head (length ss) s in let more = lines_in-more ss s in
    let left : free_of (length old.read) ss - length (entry_lines head (length ss) s) ≡ free_of (length old.read) (ss ++ s ∷ []) = omega arith in
    a.read ∙ (ap (λ (ls : List (List ℕ)). placed_lines ls (1 + lines_in ss) (entry_lines head (length ss) s)) h.read
    ∙ (placed_lines-zeros (log_lines head ss) (1 + lines_in ss) (entry_lines head (length ss) s) (free_of (length old.read) ss) (length-log_lines head ss)
    ∙ (ap (λ (k : ℕ). log_lines head ss ++ (entry_lines head (length ss) s ++ zero_lines k)) left ∙ sym (log_image-more head ss s (free_of (length old.read) (ss ++ s ∷ []))))))

pub entries_read-Appends : (old new : DeviceView) (head : LogHead) (ss : List Segment) (s : Segment) → HoldsLog old head ss false → FitsEntry head.threads s → length s.nodes + 1 ≤ free_of (length old.read) ss
    → Appends old new (1 + lines_in ss) (entry_lines head (length ss) s) → entries_read head new.read ≡ ss ++ s ∷ []
entries_read-Appends old new head ss s h f room a = ap (entries_read head) (read-Appends old new head ss s h room a)
    ∙ entries_read-log_image head (ss ++ s ∷ []) (free_of (length old.read) (ss ++ s ∷ [])) (FitEntries-append head.threads ss (s ∷ []) h.fit (f, tt))

-- what the fence after the writes answers
pub record Fenced {T E : Type 0} (r : Result T E) (old mid new : DeviceView) : Type 0 where
  pub durable : OnOk r (new.told ≡ told_fenced mid.told mid.read)
  pub kept : OnErr r (new.told ≡ mid.told)
  pub read : new.read ≡ mid.read
  pub backed : ToldBacked mid.told mid.read
  pub pending : ToldSettled mid.told old.read

pub ToldBacked-Fenced : {T E : Type 0} (r : Result T E) (old mid new : DeviceView) → Fenced r old mid new → ToldBacked new.told new.read
ToldBacked-Fenced r old mid new f = subst (λ (ls : List (List ℕ)). ToldBacked new.told ls) (sym f.read) (ToldBacked-fence r mid.told new.told mid.read f.durable f.kept f.backed)

pub settled-Fenced : {T E : Type 0} (r : Result T E) (old mid new : DeviceView) → Fenced r old mid new → OnOk r (ToldSettled new.told new.read)
settled-Fenced {T} {E} (Ok x) old mid new f = subst (λ (ls : List (List ℕ)). ToldSettled new.told ls) (sym f.read) (ToldSettled-fence {T = T} {E = E} (Ok x) mid.told new.told mid.read f.durable f.backed)
settled-Fenced (Err e) old mid new f = tt

pub pending-Fenced : {T E : Type 0} (r : Result T E) (old mid new : DeviceView) → Fenced r old mid new → OnErr r (ToldSettled new.told old.read)
pending-Fenced (Ok x) old mid new f = tt
pending-Fenced (Err e) old mid new f = subst (λ (t : Option Told). ToldSettled t old.read) (sym f.kept) f.pending

whole : {T E : Type 0} (r : Result T E) (P : Type 0) → OnOk r P → is_err r ≡ false → P
whole (Ok x) P h e = h
whole (Err x) P h e = absurd (true≢false e)

broke : {T E : Type 0} (r : Result T E) (P : Type 0) → OnErr r P → is_err r ≡ true → P
broke (Ok x) P h e = absurd (true≢false (sym e))
broke (Err x) P h e = h

pub KeepsLog-more : {T E : Type 0} (r : Result T E) (old mid new : DeviceView) (head : LogHead) (ss : List Segment) (s : Segment) (used count last fences : ℕ) (broken : Bool)
    → KeepsLog old head ss used count last fences false → FitsEntry head.threads s → length s.nodes + 1 ≤ free_of (length old.read) ss
    → Appends old new (1 + lines_in ss) (entry_lines head (length ss) s) → Fenced r old mid new → broken ≡ is_err r
    → KeepsLog new head (entries_read head new.read) (used + (1 + length s.nodes)) (count + 1) s.place (fences + 1) broken
KeepsLog-more r old mid new head ss s used count last fences broken k f room a fenced b =
    let h = k.holds in let within = h.within in let more = lines_in-more ss s in let used_is = k.used_is in let count_is = k.count_is in let few = k.few in let fewer = k.fewer in
    let len = a.count in let longer = length-append ss (s ∷ []) in let lines = k.lines in let once = a.fences in
    let read : new.read ≡ log_image head (ss ++ s ∷ []) (free_of (length new.read) (ss ++ s ∷ [])) =
    read-Appends old new head ss s h room a ∙ ap (λ (n : ℕ). log_image head (ss ++ s ∷ []) (free_of n (ss ++ s ∷ []))) (sym len) in
    let before : old.read ≡ log_image head (but_last (ss ++ s ∷ [])) (free_of (length new.read) (but_last (ss ++ s ∷ []))) =
    h.read ∙ (ap (λ (n : ℕ). log_image head ss (free_of n ss)) (sym len) ∙ ap (λ (ts : List Segment). log_image head ts (free_of (length new.read) ts)) (sym (but_last-more ss s))) in
    subst (λ (ts : List Segment). KeepsLog new head ts (used + (1 + length s.nodes)) (count + 1) s.place (fences + 1) broken) (sym (entries_read-Appends old new head ss s h f room a)) (record {
      holds = record {
        fits = h.fits;
        fit = FitEntries-append head.threads ss (s ∷ []) h.fit (f, tt);
        within = omega arith;
        read = read;
        settled = λ e. whole r (ToldSettled new.told new.read) (settled-Fenced r old mid new fenced) (sym b ∙ e);
        pending = λ e. subst (λ (ls : List (List ℕ)). ToldSettled new.told ls) before (broke r (ToldSettled new.told old.read) (pending-Fenced r old mid new fenced) (sym b ∙ e));
      };
      lines = omega arith;
      used_is = omega arith;
      count_is = omega arith;
      last_is = sym (last_place-more 0 ss s);
      backed = ToldBacked-Fenced r old mid new fenced;
      few = omega arith;
      fewer = omega arith;
    })

-- what an append leaves, by what its calls answered
pub record Appended {T E : Type 0} (r : Result T E) (old new : DeviceView) (head : LogHead) (ss : List Segment) (s : Segment) (used count fences : ℕ) (broken : Bool) : Type 0 where
  pub keeps : KeepsLog new head (entries_read head new.read) (used + (1 + length s.nodes)) (count + 1) s.place (fences + 1) broken
  pub entries : entries_read head new.read ≡ ss ++ s ∷ []
  pub lines : Appends old new (1 + lines_in ss) (entry_lines head (length ss) s)
  pub settled : OnOk r (ToldSettled new.told new.read)
  pub pending : OnErr r (ToldSettled new.told old.read)

pub Appended-entry : {T E : Type 0} (r : Result T E) (old mid new : DeviceView) (head : LogHead) (ss : List Segment) (s : Segment) (used count last fences : ℕ) (was broken : Bool) (first : List ℕ)
    → KeepsLog old head ss used count last fences was → was ≡ false → FitsEntry head.threads s → length s.nodes + 1 ≤ free_of (length old.read) ss
    → first ≡ entry_line head (count + 1 - 1) s → PutsLines old mid used (first ∷ node_lines s.nodes)
    → new.read ≡ mid.read → new.fences ≡ mid.fences + 1 → OnOk r (new.told ≡ told_fenced mid.told mid.read) → OnErr r (new.told ≡ mid.told) → broken ≡ is_err r
    → Appended r old new head ss s used count fences broken
Appended-entry r old mid new head ss s used count last fences was broken first k w f room line p read fenced durable kept b =
    let kept_log : KeepsLog old head ss used count last fences false = subst (KeepsLog old head ss used count last fences) w k in
    let puts = Puts-entry old mid head ss s used count first k.used_is k.count_is line p in
    let a = Appends-written old mid new head ss s kept_log.holds f room puts read fenced in
    let d : Fenced r old mid new = record { durable = durable; kept = kept; read = read; backed = p.backed k.backed; pending = p.fenced old.read (kept_log.holds.settled refl) } in
    record {
      keeps = KeepsLog-more r old mid new head ss s used count last fences broken kept_log f room a d b;
      entries = entries_read-Appends old new head ss s kept_log.holds f room a;
      lines = a;
      settled = settled-Fenced r old mid new d;
      pending = pending-Fenced r old mid new d;
    }

-- there is room for another fence
pub few_fences : (d : DeviceView) (head : LogHead) (ss : List Segment) (used count last fences : ℕ) (broken : Bool) → KeepsLog d head ss used count last fences broken → (d.fences < 2 ^ 64 - 1) × (2 * count < 2 ^ 64)
few_fences d head ss used count last fences broken k =
    let two = lines_in-two head.threads ss k.holds.fit in let few = k.few in let fewer = k.fewer in let lines = k.lines in let within = k.holds.within in let counted = k.count_is in (omega arith, omega arith)
