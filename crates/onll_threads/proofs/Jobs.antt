-- Jobs that are made of works and passes, and taken apart once they are done.
use Rattle.std.proofs.Common.{◌≡◌, ℕ, zero, suc, ◌+◌, ◌<◌, ◌≤◌, List, [], ◌∷◌, ◌++◌, length, reverse, take, Some, refl, sym, ap, ◌∙◌, subst, arith, append_assoc, append-nil, length-append}
use Rattle.std.proofs.lemmas.List.{length-reverse, reverse-append, reverse-reverse}
use Rattle.std.specs.Prelude.{slice_index_or}
use Rattle.std.specs.List.{AllByRecursion}
use Rattle.onll_model.specs.declared.call.Call.{Call}
use Rattle.onll_model.specs.declared.call.CallEnd.{CallEnd}
use Rattle.onll_model.specs.Object.{Behaviour}
use Rattle.onll_pmem.specs.Pmem.{DeviceView}
use Rattle.onll_shared.specs.Passes.{OnllView, PassView, IsTied}
use Rattle.onll_shared.specs.Starts.{IsNewcomer}
use Rattle.onll_threads.specs.declared.job.Job.{Job}
use Rattle.onll_threads.specs.Acts.{IsUnused}
use Rattle.onll_threads.specs.Crews.{AllDone, AreJobs, AreTaken, JobHasEnded, JobIsDone, IsJob, JobIsReady, WasDone}
use Rattle.onll_threads.proofs.Acting.{unused}
use Rattle.onll_threads.proofs.Sitting.{some_same}

none_long : {A : Type 0} (xs : List A) → length xs ≡ 0 → xs ≡ []
none_long [] e = refl
none_long (x ∷ xs) e = absurd (omega (arith, e))

-- the first of two lists that were put together
pub first_part : {A : Type 0} (n : ℕ) (xs ys : List A) → n ≡ length xs → take n (xs ++ ys) ≡ xs
first_part zero [] ys e = refl
first_part zero (x ∷ xs) ys e = absurd (omega (arith, e))
first_part (suc n) [] ys e = absurd (omega (arith, e))
first_part (suc n) (x ∷ xs) ys e = ap (λ l. x ∷ l) (first_part n xs ys (omega (arith, e)))

-- the last of what is left goes over to what is done
pub gone_over : {A : Type 0} (done left left' : List A) (x : A) (all : List A) → done ++ reverse left ≡ all → left ≡ left' ++ x ∷ []
    → (done ++ x ∷ []) ++ reverse left' ≡ all
gone_over done left left' x all is e =
    append_assoc done (x ∷ []) (reverse left')
    ∙ (ap (λ l. done ++ l) (sym (ap reverse e ∙ reverse-append left' (x ∷ []))) ∙ is)

pub none_done : {A : Type 0} (all turned : List A) → turned ≡ reverse all → [] ++ reverse turned ≡ all
none_done all turned e = ap reverse e ∙ reverse-reverse all

pub all_gone : {A : Type 0} (done left all : List A) → done ++ reverse left ≡ all → left ≡ [] → done ≡ all
all_gone done left all is e = sym (append-nil done) ∙ (ap (λ l. done ++ reverse l) (sym e) ∙ is)

head_of_rest : {A : Type 0} (P : A → Type 0) (left left' : List A) (x : A) → left ≡ left' ++ x ∷ []
    → AllByRecursion P (reverse left) → P x × AllByRecursion P (reverse left')
head_of_rest P left left' x e a = subst (AllByRecursion P) (ap reverse e ∙ reverse-append left' (x ∷ [])) a

-- what is so of all is so of the one at a place
pub all_at : {A : Type 0} (P : A → Type 0) (xs : List A) → AllByRecursion P xs → (i : ℕ) (d : A) → i < length xs
    → P (slice_index_or xs i d)
all_at P [] a i d l = absurd (omega (arith, l))
all_at P (x ∷ xs) a zero d l = a.0
all_at P (x ∷ xs) a (suc i) d l = all_at P xs a.1 i d (omega (arith, l))

module _ {State Op Query Reply Device Work Answer : Type 0} where
  -- one job more
  pub jobs_more : (onll : OnllView State) (works : List Work) (passes : List (PassView State Device)) (jobs : List (Job State Device Work Answer Op Query Reply))
      (w : Work) (p : PassView State Device) (j : Job State Device Work Answer Op Query Reply) → AreJobs onll works passes jobs → IsJob onll w p j
      → AreJobs onll (works ++ w ∷ []) (passes ++ p ∷ []) (jobs ++ j ∷ [])
  jobs_more onll [] [] [] w p j a is = (is, tt)
  jobs_more onll [] [] (x ∷ jobs) w p j a is = absurd a
  jobs_more onll [] (q ∷ passes) jobs w p j a is = absurd a
  jobs_more onll (v ∷ works) [] jobs w p j a is = absurd a
  jobs_more onll (v ∷ works) (q ∷ passes) [] w p j a is = absurd a
  jobs_more onll (v ∷ works) (q ∷ passes) (x ∷ jobs) w p j a is = (a.0, jobs_more onll works passes jobs w p j a.1 is)

  -- one job more is taken apart
  pub taken_more : (jobs : List (Job State Device Work Answer Op Query Reply)) (works : List Work) (passes : List (PassView State Device)) (answers : List Answer)
      (j : Job State Device Work Answer Op Query Reply) (w : Work) (p : PassView State Device) (a : Answer) → AreTaken jobs works passes answers
      → j.work ≡ w → j.pass ≡ Some p → j.answer ≡ Some a
      → AreTaken (jobs ++ j ∷ []) (works ++ w ∷ []) (passes ++ p ∷ []) (answers ++ a ∷ [])
  taken_more [] [] [] [] j w p a t e f g = (e, f, g, tt)
  taken_more [] [] [] (x ∷ answers) j w p a t e f g = absurd t
  taken_more [] [] (x ∷ passes) answers j w p a t e f g = absurd t
  taken_more [] (x ∷ works) passes answers j w p a t e f g = absurd t
  taken_more (x ∷ jobs) [] passes answers j w p a t e f g = absurd t
  taken_more (x ∷ jobs) (v ∷ works) [] answers j w p a t e f g = absurd t
  taken_more (x ∷ jobs) (v ∷ works) (q ∷ passes) [] j w p a t e f g = absurd t
  taken_more (x ∷ jobs) (v ∷ works) (q ∷ passes) (b ∷ answers) j w p a t e f g =
      (t.0, t.1, t.2, taken_more jobs works passes answers j w p a t.3 e f g)

  pub jobs_long : (onll : OnllView State) (works : List Work) (passes : List (PassView State Device)) (jobs : List (Job State Device Work Answer Op Query Reply))
      → AreJobs onll works passes jobs → length jobs ≡ length works
  jobs_long onll [] [] [] a = refl
  jobs_long onll [] [] (x ∷ jobs) a = absurd a
  jobs_long onll [] (q ∷ passes) jobs a = absurd a
  jobs_long onll (v ∷ works) [] jobs a = absurd a
  jobs_long onll (v ∷ works) (q ∷ passes) [] a = absurd a
  jobs_long onll (v ∷ works) (q ∷ passes) (x ∷ jobs) a = let rest = jobs_long onll works passes jobs a.1 in omega (arith, rest)

  -- jobs in the making: of the first works and passes, what is left of which is turned round
  pub record IsMaking (onll : OnllView State) (works0 : List Work) (passes0 : List (PassView State Device)) (works : List Work)
      (passes : List (PassView State Device)) (jobs : List (Job State Device Work Answer Op Query Reply)) (room : ℕ) : Type 0 where
    pub works_done : List Work
    pub passes_done : List (PassView State Device)
    pub works_are : works_done ++ reverse works ≡ works0
    pub passes_are : passes_done ++ reverse passes ≡ passes0
    pub many : length works ≡ length passes
    pub are_jobs : AreJobs onll works_done passes_done jobs
    pub fit : length jobs + length passes ≤ room

  pub making_none : (onll : OnllView State) (works0 : List Work) (passes0 : List (PassView State Device)) (works : List Work)
      (passes : List (PassView State Device)) (jobs : List (Job State Device Work Answer Op Query Reply)) (room : ℕ) → length works0 ≡ length passes0 → jobs ≡ []
      → length passes0 ≤ room → works ≡ reverse works0 → passes ≡ reverse passes0
      → IsMaking onll works0 passes0 works passes jobs room
  making_none onll works0 passes0 works passes jobs room many none low w p = record {
    works_done = [];
    passes_done = [];
    works_are = none_done works0 works w;
    passes_are = none_done passes0 passes p;
    many = (let a = ap length w in let c = ap length p in
        omega (arith, a, c, many, length-reverse works0, length-reverse passes0));
    are_jobs = subst (AreJobs onll [] []) (sym none) tt;
    fit = (let a = ap length none in let c = ap length p in omega (arith, a, c, low, length-reverse passes0));
  }

  pub making_more : (onll : OnllView State) (works0 : List Work) (passes0 : List (PassView State Device)) (works works' : List Work)
      (passes passes' : List (PassView State Device)) (jobs jobs' : List (Job State Device Work Answer Op Query Reply)) (room room' : ℕ) (w : Work)
      (p : PassView State Device) (j : Job State Device Work Answer Op Query Reply) → IsMaking onll works0 passes0 works passes jobs room → works ≡ works' ++ w ∷ []
      → passes ≡ passes' ++ p ∷ [] → IsJob onll w p j → jobs' ≡ jobs ++ j ∷ [] → room' ≡ room
      → IsMaking onll works0 passes0 works' passes' jobs' room'
  making_more onll works0 passes0 works works' passes passes' jobs jobs' room room' w p j m e f is put same = record {
    works_done = m.works_done ++ w ∷ [];
    passes_done = m.passes_done ++ p ∷ [];
    works_are = gone_over m.works_done works works' w works0 m.works_are e;
    passes_are = gone_over m.passes_done passes passes' p passes0 m.passes_are f;
    many = (let k = m.many in let a = ap length e in let c = ap length f in
        omega (arith, k, a, c, length-append works' (w ∷ []), length-append passes' (p ∷ [])));
    are_jobs = subst (AreJobs onll (m.works_done ++ w ∷ []) (m.passes_done ++ p ∷ [])) (sym put)
        (jobs_more onll m.works_done m.passes_done jobs w p j m.are_jobs is);
    fit = (let r = m.fit in let a = ap length put in let c = ap length f in
        omega (arith, r, a, c, same, length-append jobs (j ∷ []), length-append passes' (p ∷ [])));
  }

  pub all_made : (onll : OnllView State) (works0 : List Work) (passes0 : List (PassView State Device)) (works : List Work)
      (passes : List (PassView State Device)) (jobs : List (Job State Device Work Answer Op Query Reply)) (room : ℕ) → IsMaking onll works0 passes0 works passes jobs room
      → passes ≡ [] → AreJobs onll works0 passes0 jobs
  all_made onll works0 passes0 works passes jobs room m none =
      let k = m.many in
      let n = ap length none in
      let w : m.works_done ≡ works0 = all_gone m.works_done works works0 m.works_are (none_long works (omega (arith, k, n))) in
      let p : m.passes_done ≡ passes0 = all_gone m.passes_done passes passes0 m.passes_are none in
      subst (λ (z : List Work × List (PassView State Device)). AreJobs onll z.0 z.1 jobs) (λ i. (w i, p i)) m.are_jobs

  -- jobs that are being taken apart, what is left of which is turned round
  pub record IsTaking (jobs0 jobs : List (Job State Device Work Answer Op Query Reply)) (works : List Work) (passes : List (PassView State Device)) (answers : List Answer)
      (works_room passes_room answers_room : ℕ) : Type 0 where
    pub jobs_done : List (Job State Device Work Answer Op Query Reply)
    pub jobs_are : jobs_done ++ reverse jobs ≡ jobs0
    pub ended : AllByRecursion JobHasEnded (reverse jobs)
    pub taken : AreTaken jobs_done works passes answers
    pub works_fit : length works + length jobs ≤ works_room
    pub passes_fit : length passes + length jobs ≤ passes_room
    pub answers_fit : length answers + length jobs ≤ answers_room

  pub taking_none : (jobs0 jobs : List (Job State Device Work Answer Op Query Reply)) (works : List Work) (passes : List (PassView State Device)) (answers : List Answer)
      (wr pr ar : ℕ) → jobs ≡ reverse jobs0 → AllByRecursion JobHasEnded jobs0 → works ≡ [] → passes ≡ [] → answers ≡ []
      → length jobs0 ≤ wr → length jobs0 ≤ pr → length jobs0 ≤ ar → IsTaking jobs0 jobs works passes answers wr pr ar
  taking_none jobs0 jobs works passes answers wr pr ar e ended w p a wl pl al =
      let l = ap length e in
      let lw = ap length w in
      let lp = ap length p in
      let la = ap length a in
      record {
        jobs_done = [];
        jobs_are = none_done jobs0 jobs e;
        ended = subst (AllByRecursion JobHasEnded) (sym (none_done jobs0 jobs e)) ended;
        taken = subst (λ (z : List Work × (List (PassView State Device) × List Answer)). AreTaken {Op = Op} {Query = Query} {Reply = Reply} [] z.0 z.1.0 z.1.1)
            (λ i. (sym w i, (sym p i, sym a i))) tt;
        works_fit = omega (arith, l, lw, wl, length-reverse jobs0);
        passes_fit = omega (arith, l, lp, pl, length-reverse jobs0);
        answers_fit = omega (arith, l, la, al, length-reverse jobs0);
      }

  -- the job that comes next has ended
  pub next_ended : (jobs0 jobs jobs' : List (Job State Device Work Answer Op Query Reply)) (works : List Work) (passes : List (PassView State Device)) (answers : List Answer)
      (wr pr ar : ℕ) (j : Job State Device Work Answer Op Query Reply) → IsTaking jobs0 jobs works passes answers wr pr ar → jobs ≡ jobs' ++ j ∷ [] → JobHasEnded j
  next_ended jobs0 jobs jobs' works passes answers wr pr ar j t e = (head_of_rest JobHasEnded jobs jobs' j e t.ended).0

  pub taking_more : (jobs0 jobs jobs' : List (Job State Device Work Answer Op Query Reply)) (works works' : List Work) (passes passes' : List (PassView State Device))
      (answers answers' : List Answer) (wr pr ar wr' pr' ar' : ℕ) (j : Job State Device Work Answer Op Query Reply) (w : Work) (p : PassView State Device) (a : Answer)
      → IsTaking jobs0 jobs works passes answers wr pr ar → jobs ≡ jobs' ++ j ∷ []
      → j.work ≡ w → j.pass ≡ Some p → j.answer ≡ Some a
      → works' ≡ works ++ w ∷ [] → passes' ≡ passes ++ p ∷ [] → answers' ≡ answers ++ a ∷ []
      → wr' ≡ wr → pr' ≡ pr → ar' ≡ ar → IsTaking jobs0 jobs' works' passes' answers' wr' pr' ar'
  taking_more jobs0 jobs jobs' works works' passes passes' answers answers' wr pr ar wr' pr' ar' j w p a t e wi pi ai wp pp ap' sw sp sa =
      let l = ap length e in
      let lw = ap length wp in
      let lp = ap length pp in
      let la = ap length ap' in
      let fw = t.works_fit in
      let fp = t.passes_fit in
      let fa = t.answers_fit in
      record {
        jobs_done = t.jobs_done ++ j ∷ [];
        jobs_are = gone_over t.jobs_done jobs jobs' j jobs0 t.jobs_are e;
        ended = (head_of_rest JobHasEnded jobs jobs' j e t.ended).1;
        taken = subst (λ (z : List Work × (List (PassView State Device) × List Answer)).
            AreTaken (t.jobs_done ++ j ∷ []) z.0 z.1.0 z.1.1)
            (λ i. (sym wp i, (sym pp i, sym ap' i)))
            (taken_more t.jobs_done works passes answers j w p a t.taken wi pi ai);
        works_fit = omega (arith, l, lw, fw, sw, length-append jobs' (j ∷ []), length-append works (w ∷ []));
        passes_fit = omega (arith, l, lp, fp, sp, length-append jobs' (j ∷ []), length-append passes (p ∷ []));
        answers_fit = omega (arith, l, la, fa, sa, length-append jobs' (j ∷ []), length-append answers (a ∷ []));
      }

  pub all_taken : (jobs0 jobs : List (Job State Device Work Answer Op Query Reply)) (works : List Work) (passes : List (PassView State Device)) (answers : List Answer)
      (wr pr ar : ℕ) → IsTaking jobs0 jobs works passes answers wr pr ar → jobs ≡ [] → AreTaken jobs0 works passes answers
  all_taken jobs0 jobs works passes answers wr pr ar t none =
      subst (λ (js : List (Job State Device Work Answer Op Query Reply)). AreTaken js works passes answers) (all_gone t.jobs_done jobs jobs0 t.jobs_are none) t.taken

module _ {State Op Query Reply Device Work Answer : Type 0} (b : Behaviour State Op Query Reply) (means : Device → DeviceView)
    (promise : Work → Work → List (Call State Op Query Reply) → List (CallEnd State Op Query Reply) → Answer → Type 0)
    (onll : OnllView State) where
  -- jobs of passes on which nothing was done are ready
  pub all_ready : (works : List Work) (passes : List (PassView State Device)) (jobs : List (Job State Device Work Answer Op Query Reply)) → AreJobs onll works passes jobs
      → AllByRecursion (IsTied b means onll) passes → AllByRecursion IsNewcomer passes → AllByRecursion (JobIsReady b means) jobs
  all_ready [] [] [] a t n = tt
  all_ready [] [] (j ∷ jobs) a t n = absurd a
  all_ready [] (p ∷ passes) jobs a t n = absurd a
  all_ready (w ∷ works) [] jobs a t n = absurd a
  all_ready (w ∷ works) (p ∷ passes) [] a t n = absurd a
  all_ready (w ∷ works) (p ∷ passes) (j ∷ jobs) a t n = (
    record {
      pass = p;
      pass_is = a.0.pass_is;
      unused = subst (λ (o : OnllView State). IsUnused b means o p) (sym a.0.onll_is) (unused b means onll p t.0 n.0.own n.0.whole);
    },
    all_ready works passes jobs a.1 t.1 n.1,
  )

  abbrev pub EachDone : List (Job State Device Work Answer Op Query Reply) → List (Job State Device Work Answer Op Query Reply)
      → Type 0
  EachDone olds news = (i : ℕ) (d : Job State Device Work Answer Op Query Reply) → i < length olds
      → JobIsDone b means promise (slice_index_or olds i d) (slice_index_or news i d)

  -- jobs that were done have ended
  pub all_ended : (olds news : List (Job State Device Work Answer Op Query Reply)) → length news ≡ length olds → EachDone olds news → AllByRecursion JobHasEnded news
  all_ended [] [] l e = tt
  all_ended [] (n ∷ news) l e = absurd (omega (arith, l))
  all_ended (o ∷ olds) [] l e = absurd (omega (arith, l))
  all_ended (o ∷ olds) (n ∷ news) l e =
      let h = e 0 o (omega arith) in (
        record { pass = h.after; pass_is = h.after_is; answer = h.answer; answer_is = h.answer_is },
        all_ended olds news (omega (arith, l)) (λ i d k. e (suc i) d (omega (arith, k))),
      )

  -- what one job did, as its pass, work and answer say
  one_done : (w v : Work) (p q : PassView State Device) (a : Answer) (j k : Job State Device Work Answer Op Query Reply) → IsJob onll w p j → JobIsDone b means promise j k
      → k.work ≡ v → k.pass ≡ Some q → k.answer ≡ Some a → WasDone b means onll (promise w v) p q a
  one_done w v p q a j k is h e f g =
      let before : h.before ≡ p = some_same h.before p (sym h.before_is ∙ is.pass_is) in
      let after : h.after ≡ q = some_same h.after q (sym h.after_is ∙ f) in
      let answer : h.answer ≡ a = some_same h.answer a (sym h.answer_is ∙ g) in
      subst (λ (o : OnllView State). WasDone b means o (promise w v) p q a) is.onll_is
      (subst (λ (z : Work × Work). WasDone b means j.at.now.onll (promise z.0 z.1) p q a) (λ i. (is.work_is i, e i))
      (subst (λ (z : PassView State Device × PassView State Device). WasDone b means j.at.now.onll (promise j.work k.work) z.0 z.1 a)
      (λ i. (before i, after i))
      (subst (λ (x : Answer). WasDone b means j.at.now.onll (promise j.work k.work) h.before h.after x) answer h.done)))

  pub all_done : (works : List Work) (passes : List (PassView State Device)) (olds news : List (Job State Device Work Answer Op Query Reply)) (works' : List Work)
      (passes' : List (PassView State Device)) (answers : List Answer) → AreJobs onll works passes olds
      → length news ≡ length olds → EachDone olds news → AreTaken news works' passes' answers
      → AllDone b means promise onll works passes works' passes' answers
  all_done [] [] [] [] [] [] [] a l e t = tt
  all_done [] [] [] (n ∷ news) ws ps got a l e t = absurd (omega (arith, l))
  all_done [] [] [] [] [] [] (x ∷ got) a l e t = absurd t
  all_done [] [] [] [] [] (x ∷ ps) got a l e t = absurd t
  all_done [] [] [] [] (x ∷ ws) ps got a l e t = absurd t
  all_done [] [] (o ∷ olds) news ws ps got a l e t = absurd a
  all_done [] (p ∷ passes) olds news ws ps got a l e t = absurd a
  all_done (w ∷ works) [] olds news ws ps got a l e t = absurd a
  all_done (w ∷ works) (p ∷ passes) [] news ws ps got a l e t = absurd a
  all_done (w ∷ works) (p ∷ passes) (o ∷ olds) [] ws ps got a l e t = absurd (omega (arith, l))
  all_done (w ∷ works) (p ∷ passes) (o ∷ olds) (n ∷ news) [] ps got a l e t = absurd t
  all_done (w ∷ works) (p ∷ passes) (o ∷ olds) (n ∷ news) (v ∷ ws) [] got a l e t = absurd t
  all_done (w ∷ works) (p ∷ passes) (o ∷ olds) (n ∷ news) (v ∷ ws) (q ∷ ps) [] a l e t = absurd t
  all_done (w ∷ works) (p ∷ passes) (o ∷ olds) (n ∷ news) (v ∷ ws) (q ∷ ps) (x ∷ got) a l e t = (
    one_done w v p q x o n a.0 (e 0 o (omega arith)) t.0 t.1 t.2,
    all_done works passes olds news ws ps got a.1 (omega (arith, l)) (λ i d k. e (suc i) d (omega (arith, k))) t.3,
  )
