-- What the file of an area gives, and where another file gives the same.
use Rattle.std.proofs.Common.{ℕ, zero, suc, Bool, true, false, true≢false, List, [], ◌∷◌, ◌≡◌, ◌<◌, ◌-◌, ◌%◌, ◌==◌, ◌⊎◌, inl, inr, length, Option, Some, None, refl, sym, ap, ◌∙◌, subst, arith, eqb-true}
use Rattle.std.specs.Prelude.{if◌then◌else◌, codes, ◌++◌}
use Rattle.std.specs.Option.{option_map}
use Rattle.std.proofs.lemmas.Bool.{cases_Bool}
use Rattle.onll_outside.specs.Directory.{SizeOf}
use Rattle.onll_outside.specs.Views.{StoreView, SameFiles, SameOthers}
use Rattle.onll_checkpoint.specs.Checkpoint.{CheckpointState}
use Rattle.onll_checkpoint.specs.Grammar.{checkpoint_in}
use Rattle.onll_areas.specs.Newest.{area_lines, newest_of, newer, counting}
use Rattle.onll_open.specs.Files.{is_made}
use Rattle.onll_open.proofs.Handing.{name_differs}
use Rattle.onll_live.specs.Eras.{AreaGives, AreasGive, area_name, number_of}
use Rattle.onll_live.specs.Settled.{IsRewritten, AreasSettled, IsUntorn, KeepsCheckpoint, KeepsArea}

-- ---- one file
-- the checkpoint of a file that is told
abbrev pub checkpoint_at : Option (List ℕ) → Option CheckpointState
checkpoint_at None = None
checkpoint_at (Some bytes) = checkpoint_in (area_lines bytes)

pub told_gives : (s : StoreView) (name : List ℕ) (found : Option CheckpointState) → s.tells ≡ true → AreaGives s name found → found ≡ checkpoint_at (s.file name)
told_gives s name found on (inl h) = h.found_is ∙ ap checkpoint_at (sym (h.held on))
told_gives s name found on (inr h) = h.1 ∙ sym (none_in (s.file name) (h.0 on))
  where
    none_in : (o : Option (List ℕ)) → is_made o ≡ false → checkpoint_at o ≡ None
    none_in None e = refl
    none_in (Some []) e = refl
    none_in (Some (b ∷ bs)) e = absurd (true≢false e)

gives_told : (s : StoreView) (name : List ℕ) (found : Option CheckpointState) → found ≡ checkpoint_at (s.file name) → AreaGives s name found
gives_told s name found e = at (s.file name) refl e
  where
    at : (o : Option (List ℕ)) → s.file name ≡ o → found ≡ checkpoint_at o → AreaGives s name found
    at None same e = inr ((λ on. ap is_made same), e)
    at (Some bytes) same e = inl (record { bytes = bytes; held = λ on. same; found_is = e })

-- a store that tells no file gives what it gave
pub gives_by : (old new : StoreView) (name : List ℕ) (found : Option CheckpointState) → new.tells ≡ old.tells
    → (old.tells ≡ true → found ≡ checkpoint_at (old.file name) → found ≡ checkpoint_at (new.file name)) → AreaGives old name found → AreaGives new name found
gives_by old new name found tells step h = at old.tells refl h
  where
    untold : {A : Type 0} → old.tells ≡ false → new.tells ≡ true → A
    untold e on = absurd (true≢false (sym on ∙ (tells ∙ e)))

    at : (t : Bool) → old.tells ≡ t → AreaGives old name found → AreaGives new name found
    at true e h = gives_told new name found (step e (told_gives old name found e h))
    at false e (inl h) = inl (record { bytes = h.bytes; held = λ on. untold e on; found_is = h.found_is })
    at false e (inr h) = inr ((λ on. untold e on), h.1)

gives_same : (old new : StoreView) (name : List ℕ) (found : Option CheckpointState) → new.tells ≡ old.tells → new.file name ≡ old.file name → AreaGives old name found → AreaGives new name found
gives_same old new name found tells file = gives_by old new name found tells (λ on e. e ∙ ap checkpoint_at (sym file))

-- what a later store gives, where no file changed
pub gives_since : (old mid : StoreView) (name : List ℕ) (found : Option CheckpointState) → SameFiles old mid → AreaGives mid name found → AreaGives old name found
gives_since old mid name found same = gives_same mid old name found (sym same.tells) (sym (same.file name))

pub same_keeps : (old new : StoreView) (name : List ℕ) → SameFiles old new → KeepsArea old new name
same_keeps old new name same found = gives_same old new name found same.tells (same.file name)

-- a file that is not there, or has no byte
pub none_given : (s : StoreView) (name : List ℕ) (size : Option ℕ) → SizeOf s name size → (size ≡ None) ⊎ (size ≡ Some 0) → AreaGives s name None
none_given s name size h empty = inr ((λ on. at (s.file name) (h on) empty), refl)
  where
    at : (o : Option (List ℕ)) → size ≡ option_map length o → (size ≡ None) ⊎ (size ≡ Some 0) → is_made o ≡ false
    at None e n = refl
    at (Some []) e n = refl
    at (Some (b ∷ bs)) e (inl n) = absurd (let x : None ≡ Some (length (b ∷ bs)) = sym n ∙ e in (cc))
    at (Some (b ∷ bs)) e (inr n) = absurd (let x : Some 0 ≡ Some (suc (length bs)) = sym n ∙ e in let y : 0 ≡ suc (length bs) = (cc) in omega arith)

-- ---- both areas
-- a checkpoint, where one is found
abbrev IsFound : Option CheckpointState → Type 0
IsFound found = (c : CheckpointState) × (found ≡ Some c)

module _ (number : ℕ) (some_era : 0 < number) where
  counted_here : (area : ℕ) (d : CheckpointState) → number_of (counting area (Some d)) ≡ number → number % 2 ≡ area
  counted_here area d e = at (cases_Bool (d.number % 2 == area))
    where
      at : ((d.number % 2 == area) ≡ true) ⊎ ((d.number % 2 == area) ≡ false) → number % 2 ≡ area
      at (inl b) =
          let is : d.number ≡ number = sym (ap (λ (t : Bool). number_of (if t then Some d else None)) b) ∙ e in
          ap (λ n. n % 2) (sym is) ∙ eqb-true (d.number % 2) area b
      at (inr b) = absurd (let none : 0 ≡ number = sym (ap (λ (t : Bool). number_of (if t then Some d else None)) b) ∙ e in omega arith)

  -- the newest checkpoint is that of its number's area
  even_found : (even odd : Option CheckpointState) → number_of (newest_of even odd) ≡ number → number % 2 ≡ 0 → IsFound even
  even_found (Some c) odd e is = (c, refl)
  even_found None None e is = absurd (omega arith)
  even_found None (Some d) e is = absurd (let here = counted_here 1 d e in omega (arith, here, is))

  odd_found : (even odd : Option CheckpointState) → number_of (newest_of even odd) ≡ number → number % 2 ≡ 1 → IsFound odd
  odd_found even (Some c) e is = (c, refl)
  odd_found None None e is = absurd (omega arith)
  odd_found (Some d) None e is = absurd (let here = counted_here 0 d (alone (counting 0 (Some d)) e) in omega (arith, here, is))
    where
      alone : (o : Option CheckpointState) → number_of (newer o None) ≡ number → number_of o ≡ number
      alone None e = e
      alone (Some c) e = e

found_kept : (old new : StoreView) (file : List ℕ) (found : Option CheckpointState) → KeepsCheckpoint old new file → IsFound found → AreaGives old file found → AreaGives new file found
found_kept old new file found keeps f h = subst (λ o. AreaGives new file o) (sym f.1) (keeps f.0 (subst (λ o. AreaGives old file o) f.1 h))

areas_apart : (name : List ℕ) → area_name name 0 ≡ area_name name 1 → ⊥
areas_apart name e = let same = name_differs (name ++ codes ".era") 0 1 (omega arith) (omega arith) e in absurd (omega (arith, same))

-- the newest checkpoint is kept where one area keeps what it holds
pub other_kept : (old new : StoreView) (name : List ℕ) (area : ℕ) (newest : Option CheckpointState) → area < 2 → KeepsArea old new (area_name name area) → SameOthers (area_name name area) old new
    → AreasGive old name newest → AreasGive new name newest
other_kept old new name zero newest within keeps others a = record {
  even = a.even;
  odd = a.odd;
  even_given = keeps a.even a.even_given;
  odd_given = gives_same old new (area_name name 1) a.odd others.tells (others.file (area_name name 1) (λ e. areas_apart name (sym e))) a.odd_given;
  newest_is = a.newest_is;
}
other_kept old new name (suc zero) newest within keeps others a = record {
  even = a.even;
  odd = a.odd;
  even_given = gives_same old new (area_name name 0) a.even others.tells (others.file (area_name name 0) (areas_apart name)) a.even_given;
  odd_given = keeps a.odd a.odd_given;
  newest_is = a.newest_is;
}
other_kept old new name (suc (suc area)) newest within keeps others a = absurd (omega arith)

-- it is kept where its own area keeps a checkpoint
pub newest_kept : (old new : StoreView) (name : List ℕ) (number area : ℕ) (newest : Option CheckpointState) → 0 < number → number % 2 ≡ area → KeepsCheckpoint old new (area_name name area)
    → SameOthers (area_name name area) old new → AreasGive old name newest → number_of newest ≡ number → AreasGive new name newest
newest_kept old new name number zero newest some_era is keeps others a e = record {
  even = a.even;
  odd = a.odd;
  even_given = found_kept old new (area_name name 0) a.even keeps (even_found number some_era a.even a.odd (ap number_of a.newest_is ∙ e) is) a.even_given;
  odd_given = gives_same old new (area_name name 1) a.odd others.tells (others.file (area_name name 1) (λ e. areas_apart name (sym e))) a.odd_given;
  newest_is = a.newest_is;
}
newest_kept old new name number (suc zero) newest some_era is keeps others a e = record {
  even = a.even;
  odd = a.odd;
  even_given = gives_same old new (area_name name 0) a.even others.tells (others.file (area_name name 0) (areas_apart name)) a.even_given;
  odd_given = found_kept old new (area_name name 1) a.odd keeps (odd_found number some_era a.even a.odd (ap number_of a.newest_is ∙ e) is) a.odd_given;
  newest_is = a.newest_is;
}
newest_kept old new name number (suc (suc area)) newest some_era is keeps others a e = absurd (omega (arith, is))

-- ---- where all was done
module _ (old mid new : StoreView) (name : List ℕ) (number : ℕ) (first : SameOthers (area_name name (number % 2)) old mid) (others : SameOthers (area_name name (1 - number % 2)) mid new) where
  apart : area_name name (number % 2) ≡ area_name name (1 - number % 2) → ⊥
  apart e = let same = name_differs (name ++ codes ".era") (number % 2) (1 - number % 2) (omega arith) (omega arith) e in absurd (omega (arith, same))

  pub settled_both : IsRewritten old mid (area_name name (number % 2)) → IsUntorn new (area_name name (1 - number % 2)) → AreasSettled old new name number
  settled_both r u = record {
    rewritten = λ some. record { bytes = r.bytes; was = r.was; now = λ on. others.file (area_name name (number % 2)) apart ∙ r.now on };
    untorn = u;
  }

pub settled_none : (old new : StoreView) (name : List ℕ) (number : ℕ) → number ≡ 0 → IsUntorn new (area_name name 1) → AreasSettled old new name number
settled_none old new name number none u = record {
  rewritten = λ some. absurd (omega (arith, none, some));
  untorn = let one : 1 ≡ 1 - number % 2 = omega (arith, none) in subst (λ a. IsUntorn new (area_name name a)) one u;
}
