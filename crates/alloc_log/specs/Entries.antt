-- What a log is, told without a reader: a list of entries, each allowed where it stands. `reads_iff` says that reading agrees.
use Rattle.std.specs.Prelude.{◌≡◌, ℕ, ◌+◌, ◌*◌, ◌%◌, ◌<◌, ◌≤◌, List, [], ◌∷◌, ◌++◌, replicate, slice_index}
use Rattle.std.proofs.lemmas.List.Edits.{sets}
use Rattle.alloc_log.specs.Word.{allocated, released, barrier, allocated_run, released_run, length_of}

pub data Entry : Type 0 where
  allocate release : ℕ → Entry
  barrier! : Entry
  -- a run: its first block and its length in blocks
  allocate_run release_run : ℕ → ℕ → Entry

-- the words that record an entry
abbrev pub words_of : Entry → List ℕ
words_of (allocate b) = allocated b ∷ []
words_of (release b) = released b ∷ []
words_of barrier! = barrier ∷ []
words_of (allocate_run b n) = allocated_run b ∷ length_of n ∷ []
words_of (release_run b n) = released_run b ∷ length_of n ∷ []

abbrev pub all_words : List Entry → List ℕ
all_words [] = []
all_words (e ∷ es) = words_of e ++ all_words es

-- n blocks from b on, at least one, lie in the store and in one arena, and each has the mark x
pub record Stretch (arenas per x b n : ℕ) (m : List ℕ) : Type 0 where
  pub some : 0 < n
  pub start : b < arenas * per
  pub edge : b % per + n ≤ per
  pub marks : (i : ℕ) → i < n → slice_index m (b + i) ≡ x

-- an entry is allowed on the marks m
abbrev pub Allowed : ℕ → ℕ → List ℕ → Entry → Type 0
Allowed arenas per m (allocate b) = Stretch arenas per 0 b 1 m
Allowed arenas per m (release b) = Stretch arenas per 1 b 1 m
Allowed arenas per m barrier! = Unit {0}
Allowed arenas per m (allocate_run b n) = Stretch arenas per 0 b n m
Allowed arenas per m (release_run b n) = Stretch arenas per 1 b n m

-- the marks behind an entry
abbrev pub behind : List ℕ → Entry → List ℕ
behind m (allocate b) = sets m b (replicate 1 1)
behind m (release b) = sets m b (replicate 1 0)
behind m barrier! = m
behind m (allocate_run b n) = sets m b (replicate n 1)
behind m (release_run b n) = sets m b (replicate n 0)

abbrev pub AllAllowed : ℕ → ℕ → List ℕ → List Entry → Type 0
AllAllowed arenas per m [] = Unit {0}
AllAllowed arenas per m (e ∷ es) = Allowed arenas per m e × AllAllowed arenas per (behind m e) es

abbrev pub behind_all : List ℕ → List Entry → List ℕ
behind_all m [] = m
behind_all m (e ∷ es) = behind_all (behind m e) es
