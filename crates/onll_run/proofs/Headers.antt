-- Logs that are opened or begun one after the other, and devices that are handed back.
use Rattle.std.proofs.Common.{◌≡◌, ℕ, zero, suc, ◌+◌, ◌<◌, ◌≤◌, List, [], ◌∷◌, ◌++◌, length, map, take, drop, get_or, Option, Some, None, refl, sym, ap, ◌∙◌, subst, arith, length-drop}
use Rattle.std.specs.Prelude.{reverse}
use Rattle.std.proofs.lemmas.List.{reverse-append, reverse-reverse, length-reverse, length-map, drop_more}
use Rattle.std.proofs.lemmas.List.Sums.{sum_by-cons}
use Rattle.onll_pmem.specs.Pmem.{DeviceView}
use Rattle.onll_log.specs.declared.head.LogHead.{LogHead}
use Rattle.onll_log.specs.declared.decoded.Decoded.{Decoded}
use Rattle.onll_log.specs.Decoded.{content_in}
use Rattle.onll_log.specs.Grammar.{Content}
use Rattle.onll_log.specs.Log.{LogState, IsHeaderPending}
use Rattle.onll_merge.specs.Merge.{contents_in}
use Rattle.onll_outside.specs.Views.{one_fault}
use Rattle.onll_run.specs.Left.{one_begun, begun_logs}
use Rattle.onll_run.specs.Making.{CanOpen, AllCanOpen, OpensOn, IsOpen, AreOpen, HeadersTo, HeaderFailed, fences_of, faults_of, device_of}

none_long : {A : Type 0} (xs : List A) → length xs ≡ 0 → xs ≡ []
none_long [] e = refl
none_long (x ∷ xs) e = absurd (omega arith)

module _ {Device : Type 0} (means : Device → DeviceView) where
  -- ---- one device
  opened_fences : (o : Option LogHead) (h : LogHead) (old new : Device) → OpensOn means o h old new → (means old).fences ≡ 0 → (means new).fences ≡ one_begun o
  opened_fences None h old new p z = let f = p.header.fences in omega arith
  opened_fences (Some found) h old new p z = ap (λ (d : Device). (means d).fences) p ∙ z

  pub opened_faults : (o : Option LogHead) (h : LogHead) (old new : Device) → OpensOn means o h old new → (means new).faults ≡ (means old).faults
  opened_faults None h old new p = p.faults
  opened_faults (Some found) h old new p = ap (λ (d : Device). (means d).faults) p

  pub opened_lines : (o : Option LogHead) (h : LogHead) (old new : Device) → OpensOn means o h old new → length (means new).read ≡ length (means old).read
  opened_lines None h old new p = p.header.count
  opened_lines (Some found) h old new p = ap (λ (d : Device). length (means d).read) p

  pub open_fences : (h : LogHead) (b : Content) (d : Device) (l : LogState Device) → (means d).fences ≡ 0 → IsOpen means h b d l → (means l.device).fences ≡ one_begun b.head
  open_fences h b d l z n = opened_fences b.head h d l.device n.on z

  -- ---- logs of the first heads are open over the first devices; these heads, logs and devices are left
  abbrev pub OpenTo : List LogHead → List Content → List Device → List (LogState Device) → List LogHead → List Content → List Device → Type 0
  OpenTo heads befores devices [] hs bs ds = (heads ≡ hs) × (befores ≡ bs) × (devices ≡ ds)
  OpenTo (h ∷ heads) (b ∷ befores) (d ∷ devices) (l ∷ logs) hs bs ds = IsOpen means h b d l × OpenTo heads befores devices logs hs bs ds
  OpenTo heads befores devices (l ∷ logs) hs bs ds = ⊥

  -- one log more
  open_one : (heads : List LogHead) (befores : List Content) (devices : List Device) (logs : List (LogState Device)) (h : LogHead) (hs : List LogHead) (b : Content) (bs : List Content) (d : Device) (ds : List Device) (l : LogState Device)
      → OpenTo heads befores devices logs (h ∷ hs) (b ∷ bs) (d ∷ ds) → IsOpen means h b d l → OpenTo heads befores devices (logs ++ l ∷ []) hs bs ds
  open_one heads befores devices [] h hs b bs d ds l o n =
      subst (λ (z : List LogHead × List Content × List Device). OpenTo z.0 z.1 z.2 (l ∷ []) hs bs ds) (λ i. (sym o.0 i, sym o.1 i, sym o.2 i)) (n, (refl, refl, refl))
  open_one [] befores devices (x ∷ logs) h hs b bs d ds l o n = absurd o
  open_one (y ∷ heads) [] devices (x ∷ logs) h hs b bs d ds l o n = absurd o
  open_one (y ∷ heads) (z ∷ befores) [] (x ∷ logs) h hs b bs d ds l o n = absurd o
  open_one (y ∷ heads) (z ∷ befores) (w ∷ devices) (x ∷ logs) h hs b bs d ds l o n = (o.0, open_one heads befores devices logs h hs b bs d ds l o.1 n)

  -- none is left
  open_all : (heads : List LogHead) (befores : List Content) (devices : List Device) (logs : List (LogState Device)) → OpenTo heads befores devices logs [] [] [] → AreOpen means heads befores devices logs
  open_all [] [] [] [] o = tt
  open_all [] [] (d ∷ devices) [] o = let e = ap length o.2 in absurd (omega arith)
  open_all [] (b ∷ befores) devices [] o = let e = ap length o.1 in absurd (omega arith)
  open_all (h ∷ heads) befores devices [] o = let e = ap length o.0 in absurd (omega arith)
  open_all [] befores devices (x ∷ logs) o = absurd o
  open_all (h ∷ heads) [] devices (x ∷ logs) o = absurd o
  open_all (h ∷ heads) (b ∷ befores) [] (x ∷ logs) o = absurd o
  open_all (h ∷ heads) (b ∷ befores) (d ∷ devices) (x ∷ logs) o = (o.0, open_all heads befores devices logs o.1)

  -- what is left can be opened, and is as long as it is to be
  left_open : (heads : List LogHead) (befores : List Content) (devices : List Device) (logs : List (LogState Device)) (hs : List LogHead) (bs : List Content) (ds : List Device) → OpenTo heads befores devices logs hs bs ds
      → AllCanOpen means heads befores devices → AllCanOpen means hs bs ds
  left_open heads befores devices [] hs bs ds o a = subst (λ (z : List LogHead × List Content × List Device). AllCanOpen means z.0 z.1 z.2) (λ i. (o.0 i, o.1 i, o.2 i)) a
  left_open [] befores devices (x ∷ logs) hs bs ds o a = absurd o
  left_open (h ∷ heads) [] devices (x ∷ logs) hs bs ds o a = absurd o
  left_open (h ∷ heads) (b ∷ befores) [] (x ∷ logs) hs bs ds o a = absurd o
  left_open (h ∷ heads) (b ∷ befores) (d ∷ devices) (x ∷ logs) hs bs ds o a = left_open heads befores devices logs hs bs ds o.1 a.1

  open_long : (heads : List LogHead) (befores : List Content) (devices : List Device) (logs : List (LogState Device)) (hs : List LogHead) (bs : List Content) (ds : List Device) → OpenTo heads befores devices logs hs bs ds
      → (length heads ≡ length logs + length hs) × (length devices ≡ length logs + length ds)
  open_long heads befores devices [] hs bs ds o = (let e = ap length o.0 in omega arith, let e = ap length o.2 in omega arith)
  open_long [] befores devices (x ∷ logs) hs bs ds o = absurd o
  open_long (h ∷ heads) [] devices (x ∷ logs) hs bs ds o = absurd o
  open_long (h ∷ heads) (b ∷ befores) [] (x ∷ logs) hs bs ds o = absurd o
  open_long (h ∷ heads) (b ∷ befores) (d ∷ devices) (x ∷ logs) hs bs ds o = let r = open_long heads befores devices logs hs bs ds o.1 in (let e = r.0 in omega arith, let e = r.1 in omega arith)

  can_long : (heads : List LogHead) (befores : List Content) (devices : List Device) → AllCanOpen means heads befores devices → (length befores ≡ length heads) × (length devices ≡ length heads)
  can_long [] [] [] a = (refl, refl)
  can_long [] [] (d ∷ devices) a = absurd a
  can_long [] (b ∷ befores) devices a = absurd a
  can_long (h ∷ heads) [] devices a = absurd a
  can_long (h ∷ heads) (b ∷ befores) [] a = absurd a
  can_long (h ∷ heads) (b ∷ befores) (d ∷ devices) a = let r = can_long heads befores devices a.1 in (ap suc r.0, ap suc r.1)

  -- ---- a header whose fence failed
  failed_here : (heads : List LogHead) (befores : List Content) (devices : List Device) (logs : List (LogState Device)) (h : LogHead) (hs : List LogHead) (b : Content) (bs : List Content) (d : Device) (ds : List Device) (new : Device)
      → OpenTo heads befores devices logs (h ∷ hs) (b ∷ bs) (d ∷ ds) → b.head ≡ None → IsHeaderPending (means d) (means new) h → HeadersTo means (length logs) heads befores devices (map device_of logs ++ new ∷ ds)
  failed_here heads befores devices [] h hs b bs d ds new o e p =
      subst (λ (z : List LogHead × List Content × List Device). HeadersTo means 0 z.0 z.1 z.2 (new ∷ ds)) (λ i. (sym o.0 i, sym o.1 i, sym o.2 i)) (e, p, refl)
  failed_here [] befores devices (x ∷ logs) h hs b bs d ds new o e p = absurd o
  failed_here (y ∷ heads) [] devices (x ∷ logs) h hs b bs d ds new o e p = absurd o
  failed_here (y ∷ heads) (z ∷ befores) [] (x ∷ logs) h hs b bs d ds new o e p = absurd o
  failed_here (y ∷ heads) (z ∷ befores) (w ∷ devices) (x ∷ logs) h hs b bs d ds new o e p = (o.0.on, failed_here heads befores devices logs h hs b bs d ds new o.1 e p)

  fences_more : (d : Device) (ds : List Device) → fences_of means (d ∷ ds) ≡ (means d).fences + fences_of means ds
  fences_more d ds = sum_by-cons (λ (x : Device). (means x).fences) d ds

  faults_more : (d : Device) (ds : List Device) → faults_of means (d ∷ ds) ≡ one_fault (means d).faults + faults_of means ds
  faults_more d ds = sum_by-cons (λ (x : Device). one_fault (means x).faults) d ds

  -- devices on which nothing was done
  none_done : (heads : List LogHead) (befores : List Content) (devices : List Device) → AllCanOpen means heads befores devices → (fences_of means devices ≡ 0) × (faults_of means devices ≡ 0)
  none_done [] [] [] a = (refl, refl)
  none_done [] [] (d ∷ devices) a = absurd a
  none_done [] (b ∷ befores) devices a = absurd a
  none_done (h ∷ heads) [] devices a = absurd a
  none_done (h ∷ heads) (b ∷ befores) [] a = absurd a
  none_done (h ∷ heads) (b ∷ befores) (d ∷ devices) a =
      let r = none_done heads befores devices a.1 in
      let r0 = r.0 in let r1 = r.1 in
      let e0 = fences_more d devices in let e1 = faults_more d devices in
      let f0 = a.0.fences in
      let f1 : one_fault (means d).faults ≡ 0 = ap one_fault a.0.faults in
      (omega arith, omega arith)

  -- how often the devices were fenced up to a header whose fence failed
  fences_to : (t : ℕ) (heads : List LogHead) (befores : List Content) (olds news : List Device) → AllCanOpen means heads befores olds → HeadersTo means t heads befores olds news → fences_of means news ≡ begun_logs (take (t + 1) befores)
  fences_to zero [] befores olds news a h = absurd h
  fences_to zero (k ∷ heads) [] olds news a h = absurd h
  fences_to zero (k ∷ heads) (b ∷ befores) [] news a h = absurd h
  fences_to zero (k ∷ heads) (b ∷ befores) (o ∷ olds) [] a h = absurd h
  fences_to zero (k ∷ heads) (b ∷ befores) (o ∷ olds) (n ∷ news) a h =
      let e = fences_more n news in let f = h.1.header.fences in let z = a.0.fences in let r = ap (fences_of means) h.2 in let s = (none_done heads befores olds a.1).0 in
      let one : one_begun b.head ≡ 1 = ap one_begun h.0 in omega arith
  fences_to (suc t) [] befores olds news a h = absurd h
  fences_to (suc t) (k ∷ heads) [] olds news a h = absurd h
  fences_to (suc t) (k ∷ heads) (b ∷ befores) [] news a h = absurd h
  fences_to (suc t) (k ∷ heads) (b ∷ befores) (o ∷ olds) [] a h = absurd h
  fences_to (suc t) (k ∷ heads) (b ∷ befores) (o ∷ olds) (n ∷ news) a h =
      let e = fences_more n news in let f = opened_fences b.head k o n h.0 a.0.fences in let r = fences_to t heads befores olds news a.1 h.1 in
      let next : suc t + 1 ≡ suc (t + 1) = omega arith in
      let taken = ap (λ (m : ℕ). begun_logs (take m (b ∷ befores))) next in omega arith

  faults_to : (t : ℕ) (heads : List LogHead) (befores : List Content) (olds news : List Device) → AllCanOpen means heads befores olds → HeadersTo means t heads befores olds news → faults_of means news ≡ 1
  faults_to zero [] befores olds news a h = absurd h
  faults_to zero (k ∷ heads) [] olds news a h = absurd h
  faults_to zero (k ∷ heads) (b ∷ befores) [] news a h = absurd h
  faults_to zero (k ∷ heads) (b ∷ befores) (o ∷ olds) [] a h = absurd h
  faults_to zero (k ∷ heads) (b ∷ befores) (o ∷ olds) (n ∷ news) a h =
      let e = faults_more n news in let f : one_fault (means n).faults ≡ 1 = ap one_fault (h.1.faults ∙ ap (λ (x : ℕ). x + 1) a.0.faults) in
      let r = ap (faults_of means) h.2 in let s = (none_done heads befores olds a.1).1 in omega arith
  faults_to (suc t) [] befores olds news a h = absurd h
  faults_to (suc t) (k ∷ heads) [] olds news a h = absurd h
  faults_to (suc t) (k ∷ heads) (b ∷ befores) [] news a h = absurd h
  faults_to (suc t) (k ∷ heads) (b ∷ befores) (o ∷ olds) [] a h = absurd h
  faults_to (suc t) (k ∷ heads) (b ∷ befores) (o ∷ olds) (n ∷ news) a h =
      let e = faults_more n news in let f : one_fault (means n).faults ≡ 0 = ap one_fault (opened_faults b.head k o n h.0 ∙ a.0.faults) in
      let r = faults_to t heads befores olds news a.1 h.1 in omega arith

  -- ---- one step, with head i, what its log holds, and the last device of those that are left
  module _ (heads : List LogHead) (base : List Decoded) (devices : List Device) (can : AllCanOpen means heads (contents_in base) devices) (logs : List (LogState Device)) (i : ℕ) (left : List Device)
      (o : OpenTo heads (contents_in base) devices logs (drop i heads) (contents_in (drop i base)) (reverse left)) (low : i < length heads) where
    lengths : (length heads ≡ length logs + length (drop i heads)) × (length devices ≡ length logs + length (reverse left))
    lengths = open_long heads (contents_in base) devices logs (drop i heads) (contents_in (drop i base)) (reverse left) o

    -- so many logs are open, a device is left, and what a log holds
    pub logs_many : length logs ≡ i
    logs_many = let l = lengths.0 in omega (arith, length-drop i heads)

    pub device_left : 1 ≤ length left
    device_left = let l = lengths.1 in let n = logs_many in let c = (can_long heads (contents_in base) devices can).1 in omega (arith, length-reverse left)

    pub base_left : i < length base
    base_left = let c = (can_long heads (contents_in base) devices can).0 in let n = length-map base content_in in omega arith

    module _ (head : LogHead) (none : LogHead) (head_is : head ≡ get_or heads i none) (log : Decoded) (log_is : log ≡ get_or base i log) (rest : List Device) (d : Device) (is : left ≡ rest ++ d ∷ []) where
      here : OpenTo heads (contents_in base) devices logs (head ∷ drop (i + 1) heads) (content_in log ∷ contents_in (drop (i + 1) base)) (d ∷ reverse rest)
      here = subst (λ (z : List LogHead × List Content × List Device). OpenTo heads (contents_in base) devices logs z.0 z.1 z.2)
          (λ j. (
            (drop_more heads i none low ∙ ap (λ (h : LogHead). h ∷ drop (i + 1) heads) (sym head_is)) j,
            ap contents_in (drop_more base i log base_left ∙ ap (λ (l : Decoded). l ∷ drop (i + 1) base) (sym log_is)) j,
            (ap reverse is ∙ reverse-append rest (d ∷ [])) j,
          )) o

      pub can_here : CanOpen means head (content_in log) d
      can_here = (left_open heads (contents_in base) devices logs (head ∷ drop (i + 1) heads) (content_in log ∷ contents_in (drop (i + 1) base)) (d ∷ reverse rest) here can).0

      pub log_more : (l : LogState Device) (logs' : List (LogState Device)) → IsOpen means head (content_in log) d l → logs' ≡ logs ++ l ∷ []
          → OpenTo heads (contents_in base) devices logs' (drop (i + 1) heads) (contents_in (drop (i + 1) base)) (reverse rest)
      log_more l logs' n put = subst (λ (ls : List (LogState Device)). OpenTo heads (contents_in base) devices ls (drop (i + 1) heads) (contents_in (drop (i + 1) base)) (reverse rest)) (sym put)
          (open_one heads (contents_in base) devices logs head (drop (i + 1) heads) (content_in log) (contents_in (drop (i + 1) base)) d (reverse rest) l here n)

      pub header_fails : (new : Device) (all : List Device) → (log.head ≡ None) × IsHeaderPending (means d) (means new) head → all ≡ map device_of logs ++ new ∷ reverse rest
          → HeaderFailed means heads (contents_in base) devices i all
      header_fails new all p back =
          let to : HeadersTo means i heads (contents_in base) devices all = subst (λ (z : ℕ × List Device). HeadersTo means z.0 heads (contents_in base) devices z.1) (λ j. (logs_many j, sym back j))
          (failed_here heads (contents_in base) devices logs head (drop (i + 1) heads) (content_in log) (contents_in (drop (i + 1) base)) d (reverse rest) new here p.0 p.1) in
          record { headers = to; fences = fences_to i heads (contents_in base) devices all can to; faults = faults_to i heads (contents_in base) devices all can to }

  -- no log was opened yet
  pub open_none : (heads : List LogHead) (base : List Decoded) (devices : List Device) (logs : List (LogState Device)) (left : List Device) → logs ≡ [] → left ≡ reverse devices
      → OpenTo heads (contents_in base) devices logs heads (contents_in base) (reverse left)
  open_none heads base devices logs left none is = subst (λ (z : List (LogState Device) × List Device). OpenTo heads (contents_in base) devices z.0 heads (contents_in base) z.1)
      (λ j. (sym none j, sym (ap reverse is ∙ reverse-reverse devices) j)) (refl, refl, refl)

  -- no head is left
  pub logs_open : (heads : List LogHead) (base : List Decoded) (devices : List Device) (logs : List (LogState Device)) (i : ℕ) (left : List Device) → AllCanOpen means heads (contents_in base) devices → i ≡ length heads
      → OpenTo heads (contents_in base) devices logs (drop i heads) (contents_in (drop i base)) (reverse left) → AreOpen means heads (contents_in base) devices logs
  logs_open heads base devices logs i left can end o =
      let l = open_long heads (contents_in base) devices logs (drop i heads) (contents_in (drop i base)) (reverse left) o in
      let l0 = l.0 in let l1 = l.1 in
      let c = can_long heads (contents_in base) devices can in
      let c0 = c.0 in let c1 = c.1 in
      let n = length-map base content_in in
      let e0 : length (drop i heads) ≡ 0 = omega (arith, length-drop i heads) in
      let e1 : length (contents_in (drop i base)) ≡ 0 = omega (arith, length-drop i base, length-map (drop i base) content_in) in
      let e2 : length (reverse left) ≡ 0 = omega (arith, length-drop i heads) in
      open_all heads (contents_in base) devices logs (subst (λ (z : List LogHead × List Content × List Device). OpenTo heads (contents_in base) devices logs z.0 z.1 z.2)
      (λ j. (none_long (drop i heads) e0 j, none_long (contents_in (drop i base)) e1 j, none_long (reverse left) e2 j)) o)
