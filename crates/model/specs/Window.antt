-- THE WINDOW OF A LINE, told by slots: "After each S there, the oldest sealed records without a fork are deleted, one after another, until at most n sealed
-- ones are left or only forked ones and the newest sealed one remain"; "a window passes over" a named record "as over a forked one" (1.9). Throughout r is the
-- slot of the record just sealed, so the newest sealed one, and `names` has the count of names of each slot before the call: the seal moves those of r alone.
use Rattle.std.specs.Prelude.{◌≡◌, ◌↔◌, ◌⊎◌, Bool, cond, not, ◌&&◌, List, [], ◌∷◌, ◌++◌, map, ℕ, zero, suc, ◌-◌, ◌≤◌, ◌<◌, eqb, ltb, length}
use Rattle.model.specs.View.{View}
use Rattle.model.specs.Lists.{In, Pairwise, elem, keep_if, trim, on_first}
use Rattle.model.specs.SoundMeans.{Live}
use Rattle.model.specs.Actions.{Action, do_s, do_d, Asks, done, forked, delete}
use Rattle.model.specs.Held.{frees}
use Rattle.model.specs.Queue.{enqueued}
use Rattle.model.specs.State.{State, with_view, with_queue}
use Rattle.model.specs.DeleteOrder.{DeleteOrder}

-- ── actions one after another ──

-- the store after them, and the blocks that they take off their last page, each from the store that it meets
unfoldable pub steps : View → List Action → View
steps K [] = K
steps K (a ∷ l) = steps (done K a) l

unfoldable pub frees_along : View → List Action → List ℕ
frees_along K [] = []
frees_along K (a ∷ l) = frees K a ++ frees_along (done K a) l

-- each is one that the store it meets allows
abbrev pub AsksAlong : View → List Action → Type 0
AsksAlong K [] = Unit {0}
AsksAlong K (a ∷ l) = Asks K a × AsksAlong (done K a) l

-- ── the sealed records of a line ──

-- the records of a line up to the one that the link l leads to, oldest first; k is at least that one's number (numbers fall along `prev`)
unfoldable pub up_to : View → ℕ → ℕ → List ℕ
up_to K zero l = []
up_to K (suc k) zero = []
up_to K (suc k) (suc s) = up_to K k (K.prev s) ++ (s ∷ [])

-- those before s in its line
unfoldable pub older : View → ℕ → List ℕ
older K s = up_to K (K.num s) (K.prev s)

-- the sealed records of the line of r, oldest first
unfoldable pub sealed_of : View → ℕ → List ℕ
sealed_of K r = older K r ++ (r ∷ [])

-- s is t, or stands before t in its line
pub data UpTo (K : View) (s : ℕ) : ℕ → Type 0 where
  itself : UpTo K s s
  after : {p t : ℕ} → Live K t → K.prev t ≡ suc p → UpTo K s p → UpTo K s t

-- what `sealed_of` lists
pub record SealedOf (K : View) (r : ℕ) : Type 0 where
  -- the records of the line up to r, each of them sealed, by rising number
  pub these : (s : ℕ) → In s (sealed_of K r) ↔ UpTo K s r
  pub live : (s : ℕ) → In s (sealed_of K r) → Live K s
  pub sealed : (s : ℕ) → In s (sealed_of K r) → K.is_open s ≡ 0
  pub same_base : (s : ℕ) → In s (sealed_of K r) → K.base s ≡ K.base r
  pub rising : Pairwise (λ s t. K.num s < K.num t) (sealed_of K r)
  pub few : length (sealed_of K r) ≤ K.slots
  -- all of them: where an open record f follows r, as after S, no other sealed record of the line follows
  pub all : (f t : ℕ) → Live K f → K.prev f ≡ suc r → 0 < K.is_open f → Live K t → K.is_open t ≡ 0 → UpTo K r t → t ≡ r

-- ── which of them go ──

-- no fork is on it, and no name
unfoldable pub bare : View → (ℕ → ℕ) → ℕ → Bool
bare K names s = eqb (forked K s) 0 && eqb (names s) 0

-- the records that go when the window is n (0: the line has none)
unfoldable pub victims : View → (ℕ → ℕ) → ℕ → ℕ → List ℕ
victims K names zero r = []
victims K names (suc n) r = trim (bare K names) (length (sealed_of K r) - suc n) (sealed_of K r)

-- as actions
abbrev pub trimming : View → (ℕ → ℕ) → ℕ → ℕ → List Action
trimming K names n r = map do_d (victims K names n r)

-- the call S on the open record s of a line whose window is n: the seal, then the window's deletes in the store after it
unfoldable pub sealing : View → (ℕ → ℕ) → ℕ → ℕ → List Action
sealing K names n s = do_s s ∷ trimming (done K (do_s s)) names n s

-- ── the same, by the paper's loop ──

-- a record of the line that may go: not the newest sealed one, and neither a fork nor a name is on it
unfoldable pub may_go : View → (ℕ → ℕ) → ℕ → ℕ → Bool
may_go K names r s = not (eqb s r) && bare K names s

-- what the loop leaves: the store, the records deleted and the blocks that they leave, in this order
pub record Trimmed : Type 0 where
  pub store : View
  pub gone : List ℕ
  pub freed : List ℕ

abbrev pub untrimmed : View → Trimmed
untrimmed K = record { store = K; gone = []; freed = [] }

-- s is deleted first, then the rest
abbrev pub delete_first : View → ℕ → Trimmed → Trimmed
delete_first K s T = record { store = T.store; gone = s ∷ T.gone; freed = frees K (do_d s) ++ T.freed }

-- while more than n sealed records are left and one of them may go, the oldest that may go is deleted from the store as it then is; k: so many turns at most
unfoldable pub trim_loop : ℕ → View → (ℕ → ℕ) → ℕ → ℕ → Trimmed
trim_loop zero K names n r = untrimmed K
trim_loop (suc k) K names n r =
    cond (ltb n (length (sealed_of K r)))
    (on_first (keep_if (may_go K names r) (sealed_of K r)) (untrimmed K) (λ s. delete_first K s (trim_loop k (delete K s) names n r)))
    (untrimmed K)

-- ── deadlists, counted ──

-- how many blocks of n's deadlist are born above p
unfoldable pub born_above : View → ℕ → ℕ → ℕ
born_above K p n = length (keep_if (λ b. ltb p (K.birth b)) (K.list n))

-- ── of the state ──

-- actions are done one after another, and the blocks that leave their last page are queued, with the births that they had before (4.3)
unfoldable pub queueing : State → List Action → State
queueing T l = with_queue (with_view T (steps T.view l)) (enqueued T.queue T.view.birth (frees_along T.view l))

-- ── the theorems ──

-- each delete frees and joins in the order of rule 4.2, of the store that it meets
abbrev pub OrderAlong : View → List ℕ → Type 0
OrderAlong K [] = Unit {0}
OrderAlong K (v ∷ vs) = DeleteOrder K v × OrderAlong (delete K v) vs

-- "until at most n sealed ones are left or only forked ones and the newest sealed one remain", where a named one is passed over as a forked one is: L is
-- the store afterwards
abbrev pub WindowStops : View → (ℕ → ℕ) → ℕ → ℕ → Type 0
WindowStops L names n r = (length (sealed_of L r) ≤ n) ⊎ ((s : ℕ) → In s (sealed_of L r) → (s ≡ r → ⊥) → (0 < forked L s) ⊎ (0 < names s))

-- "the oldest sealed records without a fork", and without a name: of the store K before the deletes and the store L after them
pub record WindowTakes (K L : View) (names : ℕ → ℕ) (n r : ℕ) : Type 0 where
  -- sealed records of the line, never the newest, none with a fork or a name on it, by rising number
  pub sealed : (s : ℕ) → In s (victims K names n r) → In s (sealed_of K r)
  pub not_newest : (s : ℕ) → In s (victims K names n r) → K.num s < K.num r
  pub unforked : (s : ℕ) → In s (victims K names n r) → forked K s ≡ 0
  pub nameless : (s : ℕ) → In s (victims K names n r) → names s ≡ 0
  pub rising : Pairwise (λ s t. K.num s < K.num t) (victims K names n r)
  -- none newer than one that stays and might have gone
  pub oldest : (s t : ℕ) → In s (victims K names n r) → In t (sealed_of K r) → (t ≡ r → ⊥) → forked K t ≡ 0 → names t ≡ 0 →
      (In t (victims K names n r) → ⊥) → K.num s < K.num t
  -- not one more than needed: where one goes, n are left
  pub needed : (s : ℕ) → In s (victims K names n r) → n ≤ length (sealed_of L r)
  -- they leave the store, and no other record does; of the others number, state, base and pages are as before
  pub gone : (s : ℕ) → In s (victims K names n r) → L.num s ≡ 0
  pub num : (s : ℕ) → (In s (victims K names n r) → ⊥) → L.num s ≡ K.num s
  pub is_open : (s : ℕ) → L.is_open s ≡ K.is_open s
  pub base : (s : ℕ) → L.base s ≡ K.base s
  pub page : (s x : ℕ) → L.page s x ≡ K.page s x
  pub last : L.last ≡ K.last
  -- the sealed records left are those that did not go, in the order they had
  pub left : sealed_of L r ≡ keep_if (λ s. not (elem s (victims K names n r))) (sealed_of K r)
  -- who has a fork on it has one still, and no other
  pub forks : (s : ℕ) → (forked L s ≡ 0) ↔ (forked K s ≡ 0)
