-- A checkpoint changes neither the place nor the state that the files give.

use Rattle.std.proofs.Common.{ℕ, suc, ◌≡◌, ◌+◌, ◌%◌, ◌^◌, ◌<◌, ◌≤◌, true, List, [], ◌∷◌, ◌++◌, length, refl, sym, ap, ◌∙◌, subst, arith, append-nil, ◌⊎◌, inl, inr}
use Rattle.std.specs.Prelude.{Option, Some, None, codes, decimal}
use Rattle.std.proofs.lemmas.Bool.{cases_lt}
use Rattle.onll_outside.specs.Views.{StoreView}
use Rattle.onll_text.specs.declared.any_object.AnyObject.{AnyObject}
use Rattle.onll_text.specs.declared.any_object.Kind.{Kind}
use Rattle.onll_text.specs.Kinds.{kind_at, on_object}
use Rattle.onll_text.proofs.EachKind.{known}
use Rattle.onll_merge.specs.Recovered.{recovered_with}
use Rattle.onll_open.specs.Names.{log_name}
use Rattle.onll_task.specs.Reading.{FileIsTold}
use Rattle.onll_task.specs.Writing.{AllButStay}
use Rattle.onll_checkpoint.specs.Checkpoint.{CheckpointState}
use Rattle.onll_checkpoint.specs.Grammar.{checkpoint_in}
use Rattle.onll_areas.specs.Newest.{area_lines, counting, newer, newest}
use Rattle.onll_areas.proofs.NewestChanges.{parity, counts, newest_number, left_kept, right_kept, left_new, right_new}
use Rattle.onll_eras.specs.Names.{EraNames, area_name, area_files}
use Rattle.onll_eras.specs.Eras.{Era, era_of, next_area}
use Rattle.onll_eras.specs.EraJob.{started}
use Rattle.onll_eras.specs.Restored.{TellLogs, RestoredTo, Restores, era_in}
use Rattle.onll_eras.specs.Begun.{IsNone, AreNamesApart, header_images, IsPrinted, IsEraAfter, HoldsNoCheckpoint, LeavesEra, BeginsNext}
use Rattle.onll_eras.proofs.EachObject.{at_object, each_object}
use Rattle.onll_eras.proofs.NamesApart.{none_of_era}
use Rattle.onll_eras.proofs.HeadersAlone.{header_logs, headers_give, length-header_images}

-- ---- files that stay
told_on : (files : List (List ℕ)) (store after : StoreView) (name bytes : List ℕ) → AllButStay files store after → IsNone files name → FileIsTold store name bytes → FileIsTold after name bytes
told_on files store after name bytes stay none told = record { tells = stay.tells ∙ told.tells; file = stay.file told.tells name none ∙ told.file }

logs_on : (files : List (List ℕ)) (store after : StoreView) (logs : List ℕ) (t : ℕ) (images : List (List (List ℕ))) → AllButStay files store after
    → ((i : ℕ) → i < length images → IsNone files (log_name logs (t + i))) → TellLogs store logs t images → TellLogs after logs t images
logs_on files store after logs t [] stay none told = tt
logs_on files store after logs t (image ∷ images) stay none told =
    let here : IsNone files (log_name logs t) = (let e : t + 0 ≡ t = omega arith in subst (λ (i : ℕ). IsNone files (log_name logs i)) e (none 0 (omega arith))) in (
      record { bytes = told.0.bytes; told = told_on files store after (log_name logs t) told.0.bytes stay here told.0.told; image = told.0.image },
      logs_on files store after logs (suc t) images stay
          (λ i l. let e : t + suc i ≡ suc t + i = omega arith in subst (λ (j : ℕ). IsNone files (log_name logs j)) e (none (suc i) (omega arith))) told.1,
    )

-- ---- the era stays
-- what the areas have to hold so that the newest era is the same
record HoldSame {store : StoreView} {names : EraNames} {threads place : ℕ} {text : List ℕ}
    (r : Restores store names threads place text) (after : StoreView) : Type 0 where
  even : List ℕ
  odd : List ℕ
  even_told : FileIsTold after (area_name names.ckpt 0) even
  odd_told : FileIsTold after (area_name names.ckpt 1) odd
  same : newest even odd ≡ newest r.even r.odd

stays : {store : StoreView} {names : EraNames} {threads place : ℕ} {text : List ℕ} (r : Restores store names threads place text) (after : StoreView)
    (files : List (List ℕ)) → AllButStay files store after → IsNone files names.init → ((t : ℕ) → t < threads → IsNone files (log_name (era_in r).logs t)) → HoldSame r after
    → Restores after names threads place text
stays {store} {names} {threads} {place} {text} r after files stay apart none h =
    let E : Option CheckpointState → Era = era_of names r.bytes in
    let same = sym h.same in
    let count = r.many in
    let logs_told : TellLogs after (era_in r).logs 0 r.images = logs_on files store after (era_in r).logs 0 r.images stay
    (λ i l. let e : 0 + i ≡ i = omega arith in subst (λ (j : ℕ). IsNone files (log_name (era_in r).logs j)) (sym e) (none i (omega arith))) r.logs_told in
    record {
      bytes = r.bytes;
      first = r.first;
      init_told = told_on files store after names.init r.bytes stay apart r.init_told;
      init_read = r.init_read;
      even = h.even;
      odd = h.odd;
      even_told = h.even_told;
      odd_told = h.odd_told;
      object = r.object;
      began = ap (started r.first) h.same ∙ r.began;
      images = r.images;
      logs_told = subst (λ (n : Option CheckpointState). TellLogs after (E n).logs 0 r.images) same logs_told;
      many = r.many;
      restored = subst (λ (n : Option CheckpointState). on_object (λ k s. RestoredTo k (E n) s r.images place text) r.object) same r.restored;
    }

-- ---- the era begins
begun_to : (kind : Kind) (era : Era) (s : (kind_at kind).State) (threads place code : ℕ) (text : List ℕ) → threads ≤ 16 → place < 2 ^ 64 → era.place ≡ place
    → IsPrinted (kind_at kind) code s text → RestoredTo (kind_at kind) era s (header_images code era.text threads 0 threads) place text
begun_to kind era s threads place code text few within is p =
    let k = kind_at kind in
    subst (λ (c : ℕ). RestoredTo (kind_at kind) era s (header_images c era.text threads 0 threads) place text) (sym p.code_is) (record {
      recovered = recovered_with (header_logs k.code era.text threads 0 threads) [];
      gives = headers_give k.code era.text threads (known kind) few k.means;
      place_is = let e : era.place + 0 ≡ place = omega arith in sym e;
      within = within;
      state = p.printed;
    })

-- a place that is given is of 64 bits
of_64_bits : (era : Era) (images : List (List (List ℕ))) (place : ℕ) (text : List ℕ) (object : AnyObject) → on_object (λ k s. RestoredTo k era s images place text) object → place < 2 ^ 64
of_64_bits era images place text object h = at_object (λ k s. RestoredTo k era s images place text) (λ o. place < 2 ^ 64) (λ kind s r. r.within) object h

any_begun : (era : Era) (threads place code : ℕ) (text : List ℕ) (object : AnyObject) → threads ≤ 16 → place < 2 ^ 64 → era.place ≡ place → on_object (λ k s. IsPrinted k code s text) object
    → on_object (λ k s. RestoredTo k era s (header_images code era.text threads 0 threads) place text) object
any_begun era threads place code text object few within is p =
    each_object (λ k s. IsPrinted k code s text) (λ k s. RestoredTo k era s (header_images code era.text threads 0 threads) place text)
    (λ kind s h. begun_to kind era s threads place code text few within is h) object p

abbrev begins : {store : StoreView} {names : EraNames} {threads place : ℕ} {text : List ℕ} (r : Restores store names threads place text) (after : StoreView)
    (files : List (List ℕ)) → AllButStay files store after → IsNone files names.init → threads ≤ 16 → (n : IsEraAfter after names.ckpt (era_in r) threads place text)
    → (even odd : List ℕ) → FileIsTold after (area_name names.ckpt 0) even → FileIsTold after (area_name names.ckpt 1) odd → newest even odd ≡ Some n.checkpoint
    → Restores after names threads place text
begins {store} {names} {threads} {place} {text} r after files stay apart few n even odd even_told odd_told new =
    let E : Option CheckpointState → Era = era_of names r.bytes in
    let c = n.checkpoint in
    let same = sym new in
    let images = header_images n.code c.text threads 0 threads in
    let within = of_64_bits (era_in r) r.images place text r.object r.restored in
    let restored = any_begun (E (Some c)) threads place n.code text n.object few within n.place_is n.printed in
    record {
      bytes = r.bytes;
      first = r.first;
      init_told = told_on files store after names.init r.bytes stay apart r.init_told;
      init_read = r.init_read;
      even = even;
      odd = odd;
      even_told = even_told;
      odd_told = odd_told;
      object = n.object;
      began = ap (started r.first) new ∙ n.reads;
      images = images;
      logs_told = subst (λ (m : Option CheckpointState). TellLogs after (E m).logs 0 images) same n.begun.logs;
      many = length-header_images n.code c.text threads 0 threads;
      restored = subst (λ (m : Option CheckpointState). on_object (λ k s. RestoredTo k (E m) s images place text) n.object) same restored;
    }

-- that is the next era
next_begins : {store : StoreView} {names : EraNames} {threads place : ℕ} {text : List ℕ} (r : Restores store names threads place text) (after : StoreView)
    (files : List (List ℕ)) → AllButStay files store after → IsNone files names.init → threads ≤ 16 → (n : IsEraAfter after names.ckpt (era_in r) threads place text)
    → (even odd : List ℕ) → FileIsTold after (area_name names.ckpt 0) even → FileIsTold after (area_name names.ckpt 1) odd → newest even odd ≡ Some n.checkpoint → BeginsNext r after
next_begins {store} {names} {threads} {place} {text} r after files stay apart few n even odd even_told odd_told new = record {
  restores = begins r after files stay apart few n even odd even_told odd_told new;
  number_is = ap (λ (m : Option CheckpointState). (era_of names r.bytes m).number) new ∙ n.number_is;
  place_is = ap (λ (m : Option CheckpointState). (era_of names r.bytes m).place) new ∙ n.place_is;
  checkpoint = n.checkpoint;
  code = n.code;
  is_newest = (sym (ap (λ (m : Option CheckpointState). (era_of names r.bytes m).number) new), sym (ap (λ (m : Option CheckpointState). (era_of names r.bytes m).text) new));
  begun = n.begun;
  images = refl;
}

-- ---- both areas
number_of_era : (names : EraNames) (bytes : List ℕ) (n : Option CheckpointState) → (era_of names bytes n).number ≡ newest_number n
number_of_era names bytes None = refl
number_of_era names bytes (Some c) = refl

-- the logs of the era are none of the files of the next one's
logs_of_era : (names : EraNames) (bytes : List ℕ) (threads : ℕ) (n : Option CheckpointState) (a : ℕ) → next_area (era_of names bytes n) ≡ a
    → ((t : ℕ) → t < threads → IsNone (area_files names.ckpt a threads) (log_name names.logs t))
    → (t : ℕ) → t < threads → IsNone (area_files names.ckpt a threads) (log_name (era_of names bytes n).logs t)
logs_of_era names bytes threads None a e none t l = none t l
logs_of_era names bytes threads (Some c) a e none t l =
    none_of_era names.ckpt (codes "." ++ decimal t) a (c.number % 2) (omega arith) (omega arith) (λ same. omega arith) threads

-- the file of the other area is none of them
other_area : (ckpt : List ℕ) (a b threads : ℕ) → a < 2 → b < 2 → (a ≡ b → ⊥) → IsNone (area_files ckpt a threads) (area_name ckpt b)
other_area ckpt a b threads l k n = subst (λ (name : List ℕ). IsNone (area_files ckpt a threads) name) (append-nil (area_name ckpt b)) (none_of_era ckpt [] a b l k n threads)

module _ {store : StoreView} {names : EraNames} {threads place : ℕ} {text : List ℕ} (r : Restores store names threads place text) (after : StoreView)
    (tells : store.tells ≡ true) (few : threads ≤ 16) (a : ℕ) (is : next_area (era_in r) ≡ a) (apart : AreNamesApart names a threads)
    (stay : AllButStay (area_files names.ckpt a threads) store after) where
  abbrev files : List (List ℕ)
  files = area_files names.ckpt a threads

  abbrev before : Option CheckpointState
  before = newest r.even r.odd

  abbrev in_even : Option CheckpointState
  in_even = checkpoint_in (area_lines r.even)

  abbrev in_odd : Option CheckpointState
  in_odd = checkpoint_in (area_lines r.odd)

  next : (newest_number before + 1) % 2 ≡ a
  next = ap (λ m. (m + 1) % 2) (sym (number_of_era names r.bytes before)) ∙ is

  none : (t : ℕ) → t < threads → IsNone files (log_name (era_in r).logs t)
  none = logs_of_era names r.bytes threads before a is apart.logs_apart

  after_tells : after.tells ≡ true
  after_tells = stay.tells ∙ tells

  odd_stays : a ≡ 0 → FileIsTold after (area_name names.ckpt 1) r.odd
  odd_stays e = told_on files store after (area_name names.ckpt 1) r.odd stay (other_area names.ckpt a 1 threads (omega arith) (omega arith) (λ h. omega arith)) r.odd_told

  even_stays : a ≡ 1 → FileIsTold after (area_name names.ckpt 0) r.even
  even_stays e = told_on files store after (area_name names.ckpt 0) r.even stay (other_area names.ckpt a 0 threads (omega arith) (omega arith) (λ h. omega arith)) r.even_told

  -- one area is written, and doesn't count
  even_kept : (bytes : List ℕ) → a ≡ 0 → FileIsTold after (area_name names.ckpt 0) bytes → newest bytes r.odd ≡ before → Restores after names threads place text
  even_kept bytes e told same = stays r after files stay apart.init_apart none (record { even = bytes; odd = r.odd; even_told = told; odd_told = odd_stays e; same = same })

  odd_kept : (bytes : List ℕ) → a ≡ 1 → FileIsTold after (area_name names.ckpt 1) bytes → newest r.even bytes ≡ before → Restores after names threads place text
  odd_kept bytes e told same = stays r after files stay apart.init_apart none (record { even = r.even; odd = bytes; even_told = even_stays e; odd_told = told; same = same })

  abbrev Lost : ℕ → Type 0
  Lost b = (after.file (area_name names.ckpt b) ≡ store.file (area_name names.ckpt b)) ⊎ HoldsNoCheckpoint after (area_name names.ckpt b)

  even_lost : a ≡ 0 → Lost 0 → Restores after names threads place text
  even_lost e (inl same) = even_kept r.even e (record { tells = after_tells; file = same ∙ r.even_told.file }) refl
  even_lost e (inr h) = even_kept h.bytes e h.told
      (ap (λ (o : Option CheckpointState). newer (counting 0 o) (counting 1 in_odd)) h.none
      ∙ left_kept (counting 0 in_even) (counting 1 in_odd) before refl (λ c k. parity 0 in_even c k) (next ∙ e))

  odd_lost : a ≡ 1 → Lost 1 → Restores after names threads place text
  odd_lost e (inl same) = odd_kept r.odd e (record { tells = after_tells; file = same ∙ r.odd_told.file }) refl
  odd_lost e (inr h) = odd_kept h.bytes e h.told
      (ap (λ (o : Option CheckpointState). newer (counting 0 in_even) (counting 1 o)) h.none
      ∙ right_kept (counting 0 in_even) (counting 1 in_odd) before refl (λ c k. parity 1 in_odd c k) (next ∙ e))

  number_next : (n : IsEraAfter after names.ckpt (era_in r) threads place text) → n.checkpoint.number ≡ newest_number before + 1
  number_next n = n.number_is ∙ ap (λ m. m + 1) (number_of_era names r.bytes before)

  -- the next checkpoint stands in its area
  even_next : a ≡ 0 → IsEraAfter after names.ckpt (era_in r) threads place text → BeginsNext r after
  even_next e n =
      let c = n.checkpoint in
      let even : c.number % 2 ≡ 0 = ap (λ m. m % 2) (number_next n) ∙ (next ∙ e) in
      let told : FileIsTold after (area_name names.ckpt 0) n.begun.bytes = subst (λ (b : ℕ). FileIsTold after (area_name names.ckpt b) n.begun.bytes) even n.begun.told in
      next_begins r after files stay apart.init_apart few n n.begun.bytes r.odd told (odd_stays e)
      (ap (λ (o : Option CheckpointState). newer (counting 0 o) (counting 1 in_odd)) n.begun.found
      ∙ (ap (λ (o : Option CheckpointState). newer o (counting 1 in_odd)) (counts 0 c even)
      ∙ left_new (counting 0 in_even) (counting 1 in_odd) before c refl (number_next n)))

  odd_next : a ≡ 1 → IsEraAfter after names.ckpt (era_in r) threads place text → BeginsNext r after
  odd_next e n =
      let c = n.checkpoint in
      let odd : c.number % 2 ≡ 1 = ap (λ m. m % 2) (number_next n) ∙ (next ∙ e) in
      let told : FileIsTold after (area_name names.ckpt 1) n.begun.bytes = subst (λ (b : ℕ). FileIsTold after (area_name names.ckpt b) n.begun.bytes) odd n.begun.told in
      next_begins r after files stay apart.init_apart few n r.even n.begun.bytes (even_stays e) told
      (ap (λ (o : Option CheckpointState). newer (counting 0 in_even) (counting 1 o)) n.begun.found
      ∙ (ap (λ (o : Option CheckpointState). newer (counting 0 in_even) o) (counts 1 c odd)
      ∙ right_new (counting 0 in_even) (counting 1 in_odd) before c refl (number_next n)))

  area_lost : Lost a → Restores after names threads place text
  area_lost h = at (cases_lt a 1)
    where
      at : (a < 1) ⊎ (1 ≤ a) → Restores after names threads place text
      at (inl l) = let e : a ≡ 0 = omega arith in even_lost e (subst (λ (b : ℕ). Lost b) e h)
      at (inr l) = let e : a ≡ 1 = (let m = next in omega arith) in odd_lost e (subst (λ (b : ℕ). Lost b) e h)

  area_next : IsEraAfter after names.ckpt (era_in r) threads place text → BeginsNext r after
  area_next n = at (cases_lt a 1)
    where
      at : (a < 1) ⊎ (1 ≤ a) → BeginsNext r after
      at (inl l) = even_next (omega arith) n
      at (inr l) = odd_next (let m = next in omega arith) n

pub keeps_era : (store after : StoreView) (names : EraNames) (threads place : ℕ) (text : List ℕ) → store.tells ≡ true → 1 ≤ threads → threads ≤ 16
    → (r : Restores store names threads place text) → AreNamesApart names (next_area (era_in r)) threads
    → LeavesEra store after names.ckpt (era_in r) threads place text → Restores after names threads place text
keeps_era store after names threads place text tells some_threads few r apart h = at h.area
  where
    at : (after.file (area_name names.ckpt (next_area (era_in r))) ≡ store.file (area_name names.ckpt (next_area (era_in r)))) ⊎ HoldsNoCheckpoint after (area_name names.ckpt (next_area (era_in r))) ⊎ IsEraAfter after names.ckpt (era_in r) threads place text
        → Restores after names threads place text
    at (inl same) = area_lost r after tells few (next_area (era_in r)) refl apart h.others (inl same)
    at (inr (inl none)) = area_lost r after tells few (next_area (era_in r)) refl apart h.others (inr none)
    at (inr (inr next)) = (area_next r after tells few (next_area (era_in r)) refl apart h.others next).restores

pub next_era : (store after : StoreView) (names : EraNames) (threads place : ℕ) (text : List ℕ) → store.tells ≡ true → threads ≤ 16
    → (r : Restores store names threads place text) → AreNamesApart names (next_area (era_in r)) threads
    → AllButStay (area_files names.ckpt (next_area (era_in r)) threads) store after → IsEraAfter after names.ckpt (era_in r) threads place text → BeginsNext r after
next_era store after names threads place text tells few r apart stay n = area_next r after tells few (next_area (era_in r)) refl apart stay n
