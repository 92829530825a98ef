-- Reading the images of threads, one after the other.

use Rattle.std.proofs.Common.{Vec, Global, ℕ, zero, suc, List, [], ◌∷◌, ◌++◌, ◌≡◌, ◌+◌, ◌-◌, ◌*◌, ◌<◌, ◌≤◌, length, map, ap, sym, refl, subst, ◌∙◌, append_assoc, arith, Ok, Err}
use Rattle.std.specs.List.{All}
use Rattle.std.proofs.lemmas.List.{map-append}
use Rattle.std.proofs.lemmas.List.Elements.{All-from_recursion, recursion_from_All}
use Rattle.onll_model.proofs.Lists.{all_append}
use Rattle.onll_words.specs.declared.line.Line.{Line}
use Rattle.onll_pmem.specs.Pmem.{words_of}
use Rattle.onll_log.specs.ImageFile.{longest_image, image_lines}
use Rattle.onll_task.specs.declared.ending.Ending.{Ending}
use Rattle.onll_task.specs.Job.{Job}
use Rattle.onll_task.proofs.Jobs.{Never}
use Rattle.onll_outside.specs.Views.{StoreView}
use Rattle.onll_task.specs.declared.answer.Stop.{Stop}
use Rattle.onll_open.specs.Names.{log_name, log_names}
use Rattle.onll_task.specs.declared.images.KeptImages.{KeptImages}
use Rattle.onll_task.specs.declared.texts.KeptImage.{KeptImage}
use Rattle.onll_task.specs.Images.{Decides, AllDecide, KeepsOf, KeepOf, images_in}
use Rattle.onll_task.specs.Doing.{BeginsBy, lines_stage, each_job, each_stage}
use Rattle.onll_task.proofs.Stages.{ReadSo, none_read, value_next, value_stops, values_read, by_given, by_begins, by_stops, begins_by, stops_by}

-- the name of one thread before those of the rest
pub names_more : (logs : List ℕ) (i threads : ℕ) → i < threads → log_names logs i (threads - i) ≡ log_name logs i ∷ log_names logs (i + 1) (threads - (i + 1))
names_more logs i threads less =
    let split : threads - i ≡ suc (threads - (i + 1)) = omega (arith, less) in
    let up : suc i ≡ i + 1 = omega arith in
    ap (log_names logs i) split ∙ ap (λ j. log_name logs i ∷ log_names logs j (threads - (i + 1))) up

-- one image more
pub images_more : (images more : List (Vec Line Global)) (image : Vec Line Global) → more ≡ images ++ image ∷ [] → images_in more ≡ images_in images ++ words_of image.items ∷ []
images_more images more image e = ap images_in e ∙ map-append (λ (image : Vec Line Global). words_of image.items) images (image ∷ [])

-- the lines of one image more, before the images that are left
pub lines_more : (lines more : List (Vec Line Global)) (line : Vec Line Global) (image : List (List ℕ)) (left before : List (List (List ℕ))) → more ≡ lines ++ line ∷ [] → words_of line.items ≡ image → before ≡ image ∷ left
    → images_in more ++ left ≡ images_in lines ++ before
lines_more lines more line image left before e same split =
    ap (λ ls. ls ++ left) (images_more lines more line e)
    ∙ (append_assoc (images_in lines) (words_of line.items ∷ []) left
    ∙ (ap (λ i. images_in lines ++ i ∷ left) same ∙ ap (λ ls. images_in lines ++ ls) (sym split)))

-- a job that reads images and goes on so never says such an ending
pub reading_images_never : (ending : Ending) (logs : List ℕ) (threads i : ℕ) (next : List (List (List ℕ)) → Job) → ((images : List (List (List ℕ))) → Never ending (next images))
    → Never ending (each_job lines_stage (log_names logs i threads) next)
reading_images_never ending logs zero i next f = f []
reading_images_never ending logs (suc threads) i next f =
    λ bytes. reading_images_never ending logs threads (suc i) (λ images. next (image_lines bytes ∷ images)) (λ images. f (image_lines bytes ∷ images))

-- ---- lines that stand for the images that were read
-- lines that stand for one image more
pub standing_more : (lines images : List (List (List ℕ))) (l image : List (List ℕ)) → AllDecide lines images → Decides l image → AllDecide (lines ++ l ∷ []) (images ++ image ∷ [])
standing_more [] [] l image h k = (k, tt)
standing_more [] (i ∷ images) l image h k = absurd h
standing_more (x ∷ lines) [] l image h k = absurd h
standing_more (x ∷ lines) (i ∷ images) l image h k = (h.0, standing_more lines images l image h.1 k)

-- images were read, of which this is kept
pub record ReadStanding (all left : List (List ℕ)) (store mid : StoreView) (lines : List (List (List ℕ))) (counts : List ℕ) : Type 0 where
  pub images : List (List (List ℕ))
  pub keep : KeepOf lines counts images
  pub so : ReadSo lines_stage all left store mid images

pub none_standing : (all : List (List ℕ)) (store : StoreView) (lines : List (List (List ℕ))) (counts : List ℕ) → lines ≡ [] → counts ≡ [] → ReadStanding all all store store lines counts
none_standing all store lines counts e f =
    let none : List (List (List ℕ)) = [] in
    record { images = none; keep = record { stand = subst (λ ls. AllDecide ls none) (sym e) tt; many = f }; so = none_read lines_stage all store none refl }

-- one image more
keep_more : (lines images : List (List (List ℕ))) (counts : List ℕ) (l image : List (List ℕ)) (n : ℕ) → KeepOf lines counts images → KeepsOf l n image → KeepOf (lines ++ l ∷ []) (counts ++ n ∷ []) (images ++ image ∷ [])
keep_more lines images counts l image n h k = record {
  stand = standing_more lines images l image h.stand k.stands;
  many = ap (λ ns. ns ++ n ∷ []) h.many ∙ ap (λ m. map length images ++ m ∷ []) k.many ∙ sym (map-append length images (image ∷ []));
}

abbrev pub KeepsImage : KeptImage → List (List ℕ) → Type 0
KeepsImage kept image = KeepsOf kept.image kept.count image

pub standing_next : {all before left : List (List ℕ)} {name : List ℕ} {store mid new : StoreView} {lines more : List (List (List ℕ))} {counts longer : List ℕ} {kept : KeptImage}
    → ReadStanding all before store mid lines counts → before ≡ name ∷ left → BeginsBy [] mid new (lines_stage name) KeepsImage (Ok kept)
    → more ≡ lines ++ kept.image ∷ [] → longer ≡ counts ++ kept.count ∷ [] → ReadStanding all left store new more longer
standing_next {all} {left = left} {store = store} {new = new} {lines} {more} {counts} {longer} {kept} r split b e f =
    let image = (by_given b).value in
    record {
      images = r.images ++ image ∷ [];
      keep = subst (λ ls. KeepOf ls longer (r.images ++ image ∷ [])) (sym e) (subst (λ ns. KeepOf (lines ++ kept.image ∷ []) ns (r.images ++ image ∷ [])) (sym f)
          (keep_more lines r.images counts kept.image image kept.count r.keep (by_given b).fits));
      so = value_next r.so split (by_begins b) refl;
    }

pub standing_stops : {all before left : List (List ℕ)} {name : List ℕ} {store mid new : StoreView} {lines : List (List (List ℕ))} {counts : List ℕ} {s : Stop} {W : Type 0} {Fits : W → List (List (List ℕ)) → Type 0}
    → ReadStanding all before store mid lines counts → before ≡ name ∷ left → BeginsBy [] mid new (lines_stage name) KeepsImage (Err s)
    → BeginsBy [] store new (each_stage lines_stage all) Fits (Err s)
standing_stops {W = W} r split b =
    stops_by (value_stops {V = List (List ℕ)} {value = λ x. x} {W = W} {made = λ w. r.images} r.so split (by_stops b))

pub standing_read : {all left : List (List ℕ)} {store new : StoreView} (kept : KeptImages) → ReadStanding all left store new kept.images.items kept.counts.items → left ≡ []
    → BeginsBy [] store new (each_stage lines_stage all) (λ (k : KeptImages) images. KeepOf k.images.items k.counts.items images) (Ok kept)
standing_read kept r none = begins_by kept r.images r.keep (values_read {value = λ (u : Unit {0}). r.images} tt r.so none)

-- one number of lines more
pub few_more : (counts more : List ℕ) (n : ℕ) → All (λ count. 64 * count ≤ longest_image) counts → 64 * n ≤ longest_image → more ≡ counts ++ n ∷ [] → All (λ count. 64 * count ≤ longest_image) more
few_more counts more n few one e =
    let Few : ℕ → Type 0 = λ count. 64 * count ≤ longest_image in
    subst (All Few) (sym e) (All-from_recursion Few (counts ++ n ∷ []) (all_append Few counts (n ∷ []) (recursion_from_All Few counts few) (one, tt)))
