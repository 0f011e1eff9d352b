-- A block that was freed is given again, or listed, only behind an accepted Y or C.
use mathlib.Core.Path.{◌≡◌, refl, sym, ap, ap₂, ◌∙◌, subst}
use mathlib.Core.Logic.{◌⊎◌, inl, inr}
use mathlib.Core.Bool.{Bool, true, false, ◌&&◌, ◌||◌, false≢true}
use mathlib.Core.List.{List, [], ◌∷◌, ◌++◌, map}
use Prim.Native.Nat.{ℕ, ◌<◌}
use native.Mathlib.Omega.{arith}
use lib.Dec.{eqb}
use borrow.Author.Tests.{eq-eqb}
use Rattle.answer.specs.Reply.{Reply, accepted, refused}
use Rattle.answer.proofs.Cases.{cases, either}
use Rattle.geometry.specs.declared.Geometry.{Geometry}
use Rattle.geometry.specs.Limits.{Inside, blocks}
use Rattle.alloc_log.specs.Runs.{Run, Covered, Longest, All}
use Rattle.model.specs.Book.{Some}
use Rattle.model.specs.Results.{blocks_in}
use Rattle.model.specs.State.{fresh}
use Rattle.model.specs.Calls.{Account, looking, opening, freeing, closing, removing, reclaiming, placing, marking, renewing, account, pairs}
use Rattle.model.specs.Calls.{result}
use Rattle.model.specs.FreeList.{free_runs}
use Rattle.model.specs.History.{Machine, Event, give, free, Entry, entry_of, events_by, events_of, write_events, state_from, history_from}
use Rattle.model.specs.History.{was_accepted, freed_among, syncs_by, syncs, synced?, unsynced_after, unsynced_from, unsynced}
use Rattle.model.specs.HistoryFacts.{Synced, Frees, Gives, runs_of_pairs, Lists}
use Rattle.model.specs.Model.{Screened, model, state_after, history}
use Rattle.model.specs.Command.{Command}
use Rattle.model.specs.Command.{Write}
use Rattle.model.proofs.EachCall.{Is, is}
use Rattle.model.proofs.ModelFacts.{accepted_is}
use Rattle.model.proofs.Waiting.{waits_in}
use Rattle.model.proofs.Reckoning.{waits_reckoned}
use Rattle.model.proofs.FreeListFacts.{free_list_is}
use Rattle.model.proofs.StepFacts.{reached}
use Rattle.model.proofs.WholeListProof.{whole_list}

-- ── an entry of a history, and the calls ahead of it ──

head_or : Entry → List Entry → Entry
head_or d [] = d
head_or d (e ∷ l) = e

tail_of : List Entry → List Entry
tail_of [] = []
tail_of (e ∷ l) = l

same_head : (e f : Entry) (l m : List Entry) → e ∷ l ≡ f ∷ m → e ≡ f
unfolding head_or
same_head e f l m p = ap (head_or e) p

same_tail : (e f : Entry) (l m : List Entry) → e ∷ l ≡ f ∷ m → l ≡ m
unfolding tail_of
same_tail e f l m p = ap tail_of p

is_empty : List Entry → Bool
is_empty [] = true
is_empty (e ∷ l) = false

no_nil : (e : Entry) (l : List Entry) → [] ≡ e ∷ l → ⊥
unfolding is_empty
no_nil e l p = false≢true (sym (ap is_empty p))

-- the calls whose history stands ahead of an entry, and the call that it is of
pub record Ahead (M : Machine) (T : M.Tables) (hs : List Entry) (f : Entry) : Type 0 where
  pub calls : List M.Asked
  pub call : M.Asked
  pub before : history_from M T calls ≡ hs
  pub is : f ≡ entry_of M (state_from M T calls) call

pub entry_of_lem : (M : Machine) (l : List M.Asked) (T : M.Tables) (hs : List Entry) (f : Entry) (zs : List Entry) →
    history_from M T l ≡ hs ++ (f ∷ zs) → Ahead M T hs f
entry_of_lem M [] T [] f zs p = absurd (no_nil f zs p)
entry_of_lem M [] T (h ∷ hs) f zs p = absurd (no_nil h (hs ++ (f ∷ zs)) p)
entry_of_lem M (i ∷ l) T [] f zs p =
    record { calls = []; call = i; before = refl; is = sym (same_head (entry_of M T i) f (history_from M (M.after T i) l) zs p) }
entry_of_lem M (i ∷ l) T (h ∷ hs) f zs p =
    let a = entry_of_lem M l (M.after T i) hs f zs (same_tail (entry_of M T i) h (history_from M (M.after T i) l) (hs ++ (f ∷ zs)) p) in
    let q = same_head (entry_of M T i) h (history_from M (M.after T i) l) (hs ++ (f ∷ zs)) p in
    record { calls = i ∷ a.calls; call = a.call; before = ap₂ {C = List Entry} (λ x m. x ∷ m) q a.before; is = a.is }

-- ── a freed block waits till the next Y or C ──

-- an event: whether it frees, and its block
is_free : Event → Bool
is_free (give d) = false
is_free (free d) = true

block_in : Event → ℕ
block_in (give d) = d
block_in (free d) = d

not_free : (b c : ℕ) → give c ≡ free b → ⊥
unfolding is_free
not_free b c e = false≢true (ap is_free e)

same_free : (b c : ℕ) → free c ≡ free b → c ≡ b
unfolding block_in
same_free b c e = ap block_in e

same_give : (b c : ℕ) → give c ≡ give b → c ≡ b
unfolding block_in
same_give b c e = ap block_in e

or_right : (s t : Bool) → t ≡ true → (s || t) ≡ true
or_right true t e = refl
or_right false t e = e

or_left : (s t : Bool) → s ≡ true → (s || t) ≡ true
or_left true t e = refl
or_left false t e = absurd (false≢true e)

among : (b : ℕ) (l : List Event) → Some (λ v. v ≡ free b) l → freed_among b l ≡ true
among b [] i = absurd i
among b (give c ∷ l) i = cases i (λ e. absurd (not_free b c e)) (among b l)
among b (free c ∷ l) i =
    cases i
    (λ e. or_left (eqb b c) (freed_among b l) (eq-eqb b c (sym (same_free b c e))))
    (λ j. or_right (eqb b c) (freed_among b l) (among b l j))

-- a call that frees a block is no Y and no C
frees_by : (A : Account) (l : List ℕ) (b : ℕ) → Some (λ v. v ≡ free b) (events_by A l) → syncs_by A ≡ false
frees_by (looking s cs res note) l b i = refl
frees_by (opening cs a) l b i = refl
frees_by (freeing cs a) l b i = refl
frees_by (closing r) l b i = refl
frees_by (removing r) l b i = refl
frees_by (reclaiming k) l b i = refl
frees_by (placing r x k) l b i = refl
frees_by marking l b i = absurd i
frees_by renewing l b i = absurd i

frees_not_syncs : (c : Command) (A : Reply) (b : ℕ) → Some (λ v. v ≡ free b) (events_of c A) → (was_accepted A && syncs c) ≡ false
frees_not_syncs c (refused n) b i = refl
frees_not_syncs c (accepted l) b i = frees_by (account c) l b i

waits_on : (u : ℕ → Bool) (b : ℕ) (l : List Entry) → u b ≡ true → Some Synced l ⊎ (unsynced_from u l b ≡ true)
waits_on u b [] h = inr h
waits_on u b (e ∷ l) h =
    cases (either (synced? e))
    (λ y. inl (inl y))
    (λ n. cases (waits_on (unsynced_after u e) b l (rw n (or_left (u b) _ h))) (λ y. inl (inr y)) (λ y. inr y))

freed_waits : (u : ℕ → Bool) (b : ℕ) (xs : List Entry) (e : Entry) (ys : List Entry) → Frees b e →
    Some Synced ys ⊎ (unsynced_from u (xs ++ (e ∷ ys)) b ≡ true)
freed_waits u b [] e ys i =
    waits_on (unsynced_after u e) b ys
    (rw (frees_not_syncs e.call e.answer b i) (or_right (u b) (freed_among b (events_of e.call e.answer)) (among b (events_of e.call e.answer) i)))
freed_waits u b (x ∷ xs) e ys i = freed_waits (unsynced_after u x) b xs e ys i

-- the entries ahead of f
ahead : (xs ys zs : List Entry) (e f : Entry) → xs ++ (e ∷ (ys ++ (f ∷ zs))) ≡ (xs ++ (e ∷ ys)) ++ (f ∷ zs)
ahead xs ys zs e f = sym (mathlib.Core.List.append_assoc xs (e ∷ ys) (f ∷ zs))

-- ── what gives a block ──

-- only a W does, its first number
no_give : (b : ℕ) (l : List ℕ) → Some (λ v. v ≡ give b) (map free l) → ⊥
no_give b [] i = i
no_give b (c ∷ l) i = cases i (λ e. not_free c b (sym e)) (no_give b l)

-- the numbers of a W that gave b begin with it
pub record GaveBy (b : ℕ) (c : Command) (A : Reply) : Type 0 where
  pub r : ℕ
  pub x : ℕ
  pub k : ℕ
  pub rest : List ℕ
  pub call : c ≡ Write r x k
  pub answer : A ≡ accepted (b ∷ rest)

gives_first : (b r x k : ℕ) (l : List ℕ) → Some (λ v. v ≡ give b) (write_events (blocks_in l)) → GaveBy b (Write r x k) (accepted l)
unfolding blocks_in
gives_first b r x k [] i = absurd i
gives_first b r x k (c ∷ []) i = absurd i
gives_first b r x k (c ∷ v ∷ l) i =
    cases i
    (λ e. record { r = r; x = x; k = k; rest = v ∷ l; call = refl; answer = ap (λ d. accepted (d ∷ v ∷ l)) (same_give b c e) })
    (λ j. absurd (no_give b (blocks_in l) j))

gave_as : (b : ℕ) (c : Command) (A : Account) (l : List ℕ) → Is c A → Some (λ v. v ≡ give b) (events_by A l) → GaveBy b c (accepted l)
gave_as b c (looking s cs res note) l e i = absurd i
gave_as b c (opening cs a) l e i = absurd i
gave_as b c (freeing cs a) l e i = absurd (no_give b (blocks_in l) i)
gave_as b c (closing r) l e i = absurd i
gave_as b c (removing r) l e i = absurd i
gave_as b c (reclaiming k) l e i = absurd (no_give b (blocks_in l) i)
gave_as b c (placing r x k) l e i = subst (λ d. GaveBy b d (accepted l)) (sym e) (gives_first b r x k l i)
gave_as b c marking l e i = absurd i
gave_as b c renewing l e i = absurd i

pub gave_by : (b : ℕ) (c : Command) (A : Reply) → Some (λ v. v ≡ give b) (events_of c A) → GaveBy b c A
gave_by b c (refused n) i = absurd i
gave_by b c (accepted l) i = gave_as b c (account c) l (is c) i

first_from : List ℕ → ℕ
first_from [] = 0
first_from (b ∷ l) = b

pub same_first : (b c : ℕ) (l m : List ℕ) → b ∷ l ≡ c ∷ m → b ≡ c
unfolding first_from
same_first b c l m e = ap first_from e

-- ── what lists a block ──

pub runs_back : (l : List Run) → runs_of_pairs (pairs l) ≡ l
unfolding pairs
runs_back [] = refl
runs_back (r ∷ l) = ap {B = List Run} (λ m. r ∷ m) (runs_back l)

covered_below : (per n b : ℕ) (t : ℕ → Bool) (l : List Run) → All (λ r. Longest per t n r.0 r.1) l → Covered b l → b < n
covered_below per n b t [] a c = absurd c
covered_below per n b t (r ∷ l) a c = cases c (λ k. omega (arith, k.1, a.0.inside)) (covered_below per n b t l a.1)

module _ (g : Geometry) (inside : Inside g) (before : List Screened) where
  pub given_after : (xs ys zs : List Entry) (e f : Entry) (b : ℕ) → history g before ≡ xs ++ (e ∷ (ys ++ (f ∷ zs))) → Frees b e → Gives b f → Some Synced ys
  given_after xs ys zs e f b p i j =
      let A = entry_of_lem (model g) before (fresh g) (xs ++ (e ∷ ys)) f zs (p ∙ ahead xs ys zs e f) in
      let a = A.call in
      let G = gave_by b f.call f.answer j in
      let q = (whole_list g inside A.calls).gives a G.r G.x G.k (b ∷ G.rest)
      (sym (ap (λ x. x.call) A.is) ∙ G.call) (sym (ap (λ x. x.answer) A.is) ∙ G.answer) in
      cases (freed_waits (λ c. false) b xs e ys i)
      (λ y. y)
      (λ y. absurd (false≢true (sym q.6 ∙ ap (unsynced (history g A.calls)) (sym (same_first b q.0 G.rest q.1 q.2)) ∙
      ap (λ h. unsynced h b) A.before ∙ y)))

  pub listed_after : (xs ys zs : List Entry) (e f : Entry) (b : ℕ) → history g before ≡ xs ++ (e ∷ (ys ++ (f ∷ zs))) → Frees b e → Lists b f → Some Synced ys
  listed_after xs ys zs e f b p i (l, fc, fa, cov) =
      let A = entry_of_lem (model g) before (fresh g) (xs ++ (e ∷ ys)) f zs (p ∙ ahead xs ys zs e f) in
      let T = state_after g A.calls in
      let a = A.call in
      let R = (reached g inside A.calls).fine in
      let F = free_list_is g inside T R.sound R.queue in
      let w = (accepted_is g T a l (sym (ap (λ x. x.answer) A.is) ∙ fa)).1 in
      let r : l ≡ pairs (free_runs g T) = sym w ∙ ap (result g T) (sym (ap (λ x. x.call) A.is) ∙ fc) ∙ F.given in
      let c : Covered b (free_runs g T) = subst (Covered b) (ap runs_of_pairs r ∙ runs_back (free_runs g T)) cov in
      let free? = (F.covered b (covered_below g.per (blocks g) b _ (free_runs g T) F.longest.each c)).0 c in
      cases (freed_waits (λ c. false) b xs e ys i)
      (λ y. y)
      (λ y. absurd (free?.2 (waits_in T b (waits_reckoned g A.calls b ∙ ap (λ h. unsynced h b) A.before ∙ y))))
