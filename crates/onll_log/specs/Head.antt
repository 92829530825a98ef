use Rattle.std.specs.Prelude.{ℕ, zero, suc, ◌≤◌, ◌<◌, ◌≡◌, ◌+◌, ◌==◌, ◌&&◌, ◌||◌, ◌++◌, Bool, List, [], ◌∷◌, length, take, drop, nat_le, nat_lt, slice_index_or}
use Rattle.onll_model.specs.Limits.{most_threads, greatest_code}
use Rattle.sha2.specs.Sha256.{sha256}
use Rattle.onll_words.specs.Lines.{bytes_of_words}
use Rattle.onll_words.specs.Bytes.{words_in, low_word}
use Rattle.onll_log.specs.declared.head.LogHead.{LogHead}

-- The first line of a log. A line is a list of eight words.

abbrev pub word : List ℕ → ℕ → ℕ
word line j = slice_index_or line j 0

-- the bytes ONLLLOG1, the lowest first
abbrev pub log_magic : ℕ
log_magic = 0x31474f4c4c4c4e4f

-- three words of the first 24 bytes of SHA-256 (FIPS 180-4) over bytes
abbrev pub digest_words : List ℕ → List ℕ
digest_words bytes = words_in low_word 3 (take 24 (sha256 bytes))

-- the words of a head's line before its digest
abbrev pub head_front : ℕ → ℕ → ℕ → ℕ → List ℕ
head_front format thread threads object = log_magic ∷ format ∷ thread ∷ threads ∷ object ∷ []

-- the head of a log of the object that these bytes of an initial state begin
abbrev pub head_for : ℕ → ℕ → ℕ → ℕ → List ℕ → LogHead
head_for format thread threads object init = record {
  thread = thread;
  threads = threads;
  object = object;
  digest = digest_words (bytes_of_words (head_front format thread threads object) ++ init);
  format = format;
}

-- the heads of this many logs, of threads t and above among `count`
abbrev pub heads_from : ℕ → ℕ → List ℕ → ℕ → ℕ → List LogHead
heads_from count object init t zero = []
heads_from count object init t (suc n) = head_for 2 t count object init ∷ heads_from count object init (suc t) n

abbrev pub head_line : LogHead → List ℕ
head_line head = head_front head.format head.thread head.threads head.object ++ head.digest

-- the fields that a head can have
pub record FitsHead (head : LogHead) : Type 0 where
  pub thread : head.thread < head.threads
  pub threads : head.threads ≤ most_threads
  pub object : (1 ≤ head.object) × (head.object ≤ greatest_code)
  pub format : (1 ≤ head.format) × (head.format ≤ 2)
  pub digest : length head.digest ≡ 3

-- the head of the log of thread t, one of so many, of the newest format
pub record IsThreadHead (count t : ℕ) (head : LogHead) : Type 0 where
  pub thread : head.thread ≡ t
  pub threads : head.threads ≡ count
  pub format : head.format ≡ 2
  pub fits : FitsHead head

-- the heads of the logs of threads, in their order, the first of them thread t
abbrev pub AreHeads : ℕ → ℕ → List LogHead → Type 0
AreHeads count t [] = Unit {0}
AreHeads count t (head ∷ heads) = IsThreadHead count t head × AreHeads count (t + 1) heads

-- whether a line is the head of a log of either format
abbrev pub is_head : List ℕ → Bool
is_head line = (word line 0 == log_magic)
    && (((word line 1 == 1) || (word line 1 == 2))
    && (nat_lt (word line 2) (word line 3)
    && (nat_le (word line 3) 16 && (nat_le 1 (word line 4) && nat_le (word line 4) greatest_code))))

-- the head that a line says
abbrev pub head_of : List ℕ → LogHead
head_of line = record { thread = word line 2; threads = word line 3; object = word line 4; digest = drop 5 line; format = word line 1 }
