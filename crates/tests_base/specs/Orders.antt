-- What a caller keeps of a spot from one step of an update to the next.
use Rattle.std.specs.Prelude.{ℕ, [], ◌≡◌, ◌≢◌, ◌↔◌, ◌+◌, None}
use Rattle.onll_model.specs.Frames.{Rest, Loaded, Walk, Logging}
use Rattle.onll_trace.specs.declared.trace.Post.{Post}
use Rattle.onll_trace.specs.declared.trace.Link.{Link}
use Rattle.onll_trace.specs.declared.trace.Link.TheVariants.{Linked, Moved}
use Rattle.onll_trace.specs.Rule.{name_at}
use Rattle.onll_trace.specs.Spots.{TraceView, SpotView, IsOf, IsLawful, IsDrafted, HasMet, base_of, activity_of}

-- the spot's thread rests, no fence of it has failed, and nothing is drafted
pub record IsResting (b : TraceView) (p : SpotView) : Type 0 where
  pub of : IsOf b p
  pub rests : activity_of p ≡ Rest
  pub free : p.me.part.stuck ≡ None
  pub bare : p.me.draft ≡ []

-- a row is drafted, and its look has found this front
pub record HasFront (b : TraceView) (p : SpotView) (front : Post) : Type 0 where
  pub of : IsOf b p
  pub free : p.me.part.stuck ≡ None
  pub drafted : IsDrafted p
  pub loaded : activity_of p ≡ Loaded front.place
  pub front_is : front.name ≡ name_at (base_of p) p.known front.place
  pub base_alone : (front.name ≡ 0) ↔ (front.place ≡ base_of p)
  pub lawful : IsLawful p

-- the own node is linked, and the walk has come down to this post; at the base it has ended
pub record IsWalking (b : TraceView) (t : ℕ) (p : SpotView) (post : Post) : Type 0 where
  pub of : IsOf b p
  pub thread : p.me.thread ≡ t
  pub free : p.me.part.stuck ≡ None
  pub bare : p.me.draft ≡ []
  pub met : HasMet p post.name post.place
  pub base_alone : (post.name ≡ 0) ↔ (post.place ≡ base_of p)
  pub on : post.name ≢ 0 → (top : ℕ) × (activity_of p ≡ Walk top post.place)
  pub over : post.name ≡ 0 → (top : ℕ) × (n : ℕ) × (activity_of p ≡ Logging top n)

-- the walk has ended, and the window is to be logged
pub record IsLogging (b : TraceView) (t : ℕ) (p : SpotView) : Type 0 where
  pub of : IsOf b p
  pub thread : p.me.thread ≡ t
  pub free : p.me.part.stuck ≡ None
  pub bare : p.me.draft ≡ []
  pub logs : (top : ℕ) × (n : ℕ) × (activity_of p ≡ Logging top n)

-- what an exchange leaves
abbrev pub HasExchanged : TraceView → Post → SpotView → Link → Type 0
HasExchanged b front p (Linked place) = IsWalking b p.me.thread p front × (place ≡ front.place + 1)
HasExchanged b front p (Moved loaded found) = IsResting b p

-- both spots of a trace of two threads
pub record AreBoth (b : TraceView) (p q : SpotView) : Type 0 where
  pub two : b.plan.threads ≡ 2
  pub first : IsOf b p
  pub second : IsOf b q
  pub threads : (p.me.thread ≡ 0) × (q.me.thread ≡ 1)
