-- BIRTHS BESIDE BLOCKS (3.13): "Every result that names a block, L's runs and the reading of a log apart, now gives block and birth … log bytes keep their old
-- form." That a birth is the right one is told of whole histories: `birth_is` in `HistoryFacts`.
use Rattle.std.specs.Prelude.{◌≡◌, List, [], ◌∷◌, map, ℕ, suc, ◌*◌, ◌≤◌, ◌<◌}
use Rattle.answer.specs.Reply.{accepted}
use Rattle.geometry.specs.declared.Geometry.{Geometry}
use Rattle.alloc_log.specs.Word.{allocated, released, barrier, write_at, bytes_of}
use Rattle.model.specs.View.{View}
use Rattle.model.specs.Lists.{In}
use Rattle.model.specs.Results.{paired, blocks_of}
use Rattle.model.specs.SoundMeans.{On}
use Rattle.model.specs.Held.{frees}
use Rattle.model.specs.State.{State}
use Rattle.model.specs.Calls.{Account, looking, opening, freeing, closing, removing, reclaiming, placing, marking, renewing, account}
use Rattle.model.specs.Calls.{block, writing, first_queued, result, spelling}
use Rattle.model.specs.Layout.{state_of}
use Rattle.model.specs.Memory.{Memory, words_used, reply, after}
use Rattle.model.specs.History.{Event, give, free, events_of}
use Rattle.model.specs.Command.{Command}
use Rattle.model.specs.declared.Spelling.{Spelling}
use Rattle.model.specs.declared.Spelling.TheVariants.{Numbers, Blocks}
use Rattle.model.specs.Command.{Compress}

-- ── the events read off a result are the blocks, not their births ──

-- the blocks that a call gives and frees
abbrev pub moves_by : Geometry → State → Account → List Event
moves_by g T (looking s cs res note) = []
moves_by g T (opening cs a) = []
moves_by g T (freeing cs a) = map free (frees T.view (a T))
moves_by g T (closing r) = []
moves_by g T (removing r) = []
moves_by g T (reclaiming k) = map free (first_queued T k)
moves_by g T (placing r x k) = give (block g T k) ∷ map free (frees T.view (writing g T r x k))
moves_by g T marking = []
moves_by g T renewing = []

abbrev pub moves : Geometry → State → Command → List Event
moves g T c = moves_by g T (account c)

abbrev pub EventsAre : Type 0
EventsAre = (g : Geometry) (T : State) (c : Command) → events_of c (accepted (result g T c)) ≡ moves g T c

-- ── the numbers of a result that names blocks ──

-- in the store, b is on a page of a record, and its birth is a number that was given
pub record InStore (K : View) (b : ℕ) : Type 0 where
  pub slot : ℕ
  pub page : ℕ
  pub on : On K slot page b
  pub above : 0 < K.birth b
  pub given : K.birth b ≤ K.last

-- the numbers l are blocks that stand in the store, each with its birth there behind it
pub record WithBirths (K : View) (l : List ℕ) : Type 0 where
  pub these : List ℕ
  pub numbers : l ≡ paired K.birth these
  pub in_store : (b : ℕ) → In b these → InStore K b

-- a W of record r first gives a block that was free, with the birth that it has from then on, which is r; K is the store before the call, L after it
pub record GivesFirst (K L : View) (r : ℕ) (l : List ℕ) : Type 0 where
  pub first : ℕ
  pub rest : List ℕ
  pub numbers : l ≡ first ∷ r ∷ rest
  pub free : K.birth first ≡ 0
  pub birth : L.birth first ≡ r
  pub freed : WithBirths K rest

-- an S gives the number of the new record, and nothing else
pub record NumberOnly (K L : View) (l : List ℕ) : Type 0 where
  pub numbers : l ≡ L.last ∷ []
  pub next : L.last ≡ suc K.last

-- a T gives blocks that stood in the queue, each with the birth that it has there; none of them is on a page
pub record FromQueue (T : State) (l : List ℕ) : Type 0 where
  pub these : List ℕ
  pub numbers : l ≡ paired T.queue.birth these
  pub in_queue : (b : ℕ) → In b these → In b T.queue.list
  pub above : (b : ℕ) → In b these → 0 < T.queue.birth b
  pub given : (b : ℕ) → In b these → T.queue.birth b ≤ T.view.last
  pub unborn : (b : ℕ) → In b these → T.view.birth b ≡ 0

abbrev pub Spelled : View → Spelling → List ℕ → Type 0
Spelled K Numbers l = Unit {0}
Spelled K Blocks l = WithBirths K l

-- T is the state before the call, U after it
abbrev pub NamedAs : State → State → Account → List ℕ → Type 0
NamedAs T U (looking s cs res note) l = Spelled T.view s l
NamedAs T U (opening cs a) l = Unit {0}
NamedAs T U (freeing cs a) l = WithBirths T.view l
NamedAs T U (closing r) l = NumberOnly T.view U.view l
NamedAs T U (removing r) l = l ≡ []
NamedAs T U (reclaiming k) l = FromQueue T l
NamedAs T U (placing r x k) l = GivesFirst T.view U.view r l
NamedAs T U marking l = Unit {0}
NamedAs T U renewing l = Unit {0}

abbrev pub NamedBy : State → State → Command → List ℕ → Type 0
NamedBy T U c l = NamedAs T U (account c) l

abbrev pub BirthsInResults : Type 0
BirthsInResults = (g : Geometry) (M : Memory) (c : Command) (l : List ℕ) → reply g M c ≡ accepted l →
    NamedBy (state_of g M.tables) (state_of g (after g M c).tables) c l

-- ── "log bytes keep their old form" ──

-- the words that a call writes, by the blocks of its result alone; C apart, which writes the log anew
abbrev pub words_of_w : List ℕ → List ℕ
words_of_w [] = []
words_of_w (b ∷ freed) = allocated b ∷ map released freed

abbrev pub words_as : Account → List ℕ → List ℕ
words_as (looking s cs res note) l = []
words_as (opening cs a) l = []
words_as (freeing cs a) l = map released l
words_as (closing r) l = []
words_as (removing r) l = []
words_as (reclaiming k) l = map released l
words_as (placing r x k) l = words_of_w l
words_as marking l = barrier ∷ []
words_as renewing l = []

abbrev pub words_for : Command → List ℕ → List ℕ
words_for c l = words_as (account c) l

abbrev pub LogAsBefore : Type 0
LogAsBefore = (g : Geometry) (M : Memory) (c : Command) (l : List ℕ) → (c ≡ Compress → ⊥) → reply g M c ≡ accepted l →
    (after g M c).log ≡ write_at M.log (8 * words_used M) (bytes_of (words_for c (blocks_of (spelling c) l)))
