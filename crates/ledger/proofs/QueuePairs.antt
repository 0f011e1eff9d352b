-- A queue as the ledger keeps it: its blocks in order, each with its birth.
use mathlib.Core.Path.{◌≡◌, refl, sym, ap, ap₂, ◌∙◌}
use mathlib.Core.Logic.{inl, inr}
use mathlib.Core.List.{List, [], ◌∷◌, ◌++◌, map, map-append}
use Prim.Native.Nat.{ℕ, zero, suc}
use lib.ListN.{take, drop}
use Rattle.model.specs.Lists.{In, Once}
use Rattle.model.specs.Results.{Item, born, born_in, paired, numbers_of}
use Rattle.model.specs.Queue.{Queue, enqueued, dequeued}
use Rattle.model.proofs.ListFacts.{cleared_out}
use Rattle.model.proofs.QueueFacts.{not_both, overlaid_in, overlaid_out}
use Rattle.ledger.specs.Ledger.{blocks_of}

-- blocks, each with its birth
abbrev pub entries : (ℕ → ℕ) → List ℕ → List (ℕ × ℕ)
entries f l = map (λ b. (b, f b)) l

-- the queue of a state
abbrev pub entries_of : Queue → List (ℕ × ℕ)
entries_of Q = entries Q.birth Q.list

pub entry_blocks : (f : ℕ → ℕ) (l : List ℕ) → blocks_of (entries f l) ≡ l
entry_blocks f [] = refl
entry_blocks f (b ∷ l) = ap {B = List ℕ} (λ m. b ∷ m) (entry_blocks f l)

pub entries_same : (f h : ℕ → ℕ) (l : List ℕ) → ((b : ℕ) → In b l → f b ≡ h b) → entries f l ≡ entries h l
entries_same f h [] e = refl
entries_same f h (b ∷ l) e =
    ap₂ {C = List (ℕ × ℕ)} (λ (v : ℕ) (m : List (ℕ × ℕ)). (b, v) ∷ m) (e b (inl refl)) (entries_same f h l (λ c i. e c (inr i)))

-- the first k of them, and the rest
pub entries_first : (f : ℕ → ℕ) (k : ℕ) (l : List ℕ) → take k (entries f l) ≡ entries f (take k l)
entries_first f zero l = refl
entries_first f (suc k) [] = refl
entries_first f (suc k) (b ∷ l) = ap {B = List (ℕ × ℕ)} (λ m. (b, f b) ∷ m) (entries_first f k l)

pub entries_later : (f : ℕ → ℕ) (k : ℕ) (l : List ℕ) → drop k (entries f l) ≡ entries f (drop k l)
entries_later f zero l = refl
entries_later f (suc k) [] = refl
entries_later f (suc k) (b ∷ l) = entries_later f k l

-- blocks join that were not queued: those before them keep their births
pub entries_joined : (Q : Queue) (f : ℕ → ℕ) (l : List ℕ) → ((b : ℕ) → In b Q.list → In b l → ⊥) →
    entries_of Q ++ entries f l ≡ entries_of (enqueued Q f l)
entries_joined Q f l n =
    let h : ℕ → ℕ = (enqueued Q f l).birth in
    ap₂ {C = List (ℕ × ℕ)} (λ (a c : List (ℕ × ℕ)). a ++ c)
    (entries_same Q.birth h Q.list (λ b i. sym (overlaid_out Q.birth f l b (n b i))))
    (entries_same f h l (λ b i. sym (overlaid_in Q.birth f l b i))) ∙
    sym (map-append (λ (b : ℕ). (b, h b)) Q.list l)

-- the first k leave: each block is once in the queue, so those after them keep their births
pub entries_left : (Q : Queue) (k : ℕ) → Once Q.list → drop k (entries_of Q) ≡ entries_of (dequeued Q k)
entries_left Q k o =
    entries_later Q.birth k Q.list ∙
    entries_same Q.birth (dequeued Q k).birth (drop k Q.list)
    (λ b i. sym (cleared_out Q.birth (take k Q.list) b (λ j. not_both k Q.list o b j i)))

-- ── as a result ──

abbrev pub entry_items : List (ℕ × ℕ) → List Item
entry_items q = map (λ s. born s.0 s.1) q

pub entry_numbers : (f : ℕ → ℕ) (l : List ℕ) → numbers_of (entry_items (entries f l)) ≡ paired f l
unfolding numbers_of paired
entry_numbers f [] = refl
entry_numbers f (b ∷ l) = ap {B = List ℕ} (λ m. b ∷ f b ∷ m) (entry_numbers f l)

pub items_entries : (q : List (ℕ × ℕ)) → born_in (numbers_of (entry_items q)) ≡ entry_items q
unfolding numbers_of born_in
items_entries [] = refl
items_entries (s ∷ q) = ap {B = List Item} (λ m. born s.0 s.1 ∷ m) (items_entries q)
