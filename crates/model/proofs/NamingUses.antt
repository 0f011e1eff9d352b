-- USES OF THE NAMING LAWS (specs/NamingLaws.antt), on any tables: each needs all that its laws say, and would not follow from weaker ones.
use mathlib.Core.Path.{◌≡◌, refl, sym, ap, ◌∙◌}
use mathlib.Core.Logic.{◌⊎◌, inl, inr}
use mathlib.Core.Bool.{false≢true}
use mathlib.Core.List.{List, [], ◌∷◌}
use Prim.Native.Nat.{ℕ, zero, suc, ◌≤◌, ◌<◌}
use native.Mathlib.Omega.{arith}
use lib.ListN.{length, get_or}
use Rattle.answer.specs.Reply.{Reply, accepted, refused}
use Rattle.answer.proofs.Cases.{cases}
use Rattle.geometry.specs.declared.Geometry.{Geometry}
use Rattle.model.specs.Names.{letters, valid_name, ValidName}
use Rattle.model.specs.Lists.{In}
use Rattle.model.specs.Memory.{Memory, reply, after}
use Rattle.model.specs.History.{Machine, was_accepted, state_from}
use Rattle.model.specs.Demand.{Request, met_by, Own, with_out, own_store}
use Rattle.model.specs.NamingLaws.{Resolves, Unused, Did, GivesNumber, OfName, Deletes, EachNamed, Different, NamingLaws}
use Rattle.model.specs.State.{State, fresh}
use Rattle.model.specs.Model.{Screened, model}
use Rattle.model.specs.Command.{Command}
use Rattle.model.specs.Command.{Begin, Write, Erase, Seal, Fork, Delete, Read, Estimate, Retain, Attach, Detach, Resolve}
use Rattle.model.proofs.StepFacts.{fresh_fine}
use Rattle.model.proofs.NameBytes.{valid_iff}
use Rattle.model.proofs.ReadingFacts.{fine_from}
use Rattle.model.proofs.NamingFacts.{naming_laws}
use Rattle.model.proofs.NamingProof.{naming}
use Rattle.model.proofs.PaperExample.{small, fine, replies_to}
use Rattle.model.proofs.ReadingUses.{inside}

-- ── names ──

abbrev pub easter : List ℕ
easter = 101 ∷ 97 ∷ 115 ∷ 116 ∷ 101 ∷ 114 ∷ []

-- (with a capital letter)
abbrev pub capital : List ℕ
capital = 69 ∷ 97 ∷ 115 ∷ 116 ∷ 101 ∷ 114 ∷ []

abbrev pub ab : List ℕ
ab = 97 ∷ 98 ∷ []

abbrev pub ac : List ℕ
ac = 97 ∷ 99 ∷ []

-- n times the letter a
abbrev pub all_a : ℕ → List ℕ
all_a zero = []
all_a (suc n) = 97 ∷ all_a n

good_easter : ValidName easter
unfolding valid_name letters
good_easter = (valid_iff easter).0 refl

length_A : (n : ℕ) → length (all_a n) ≡ n
length_A zero = refl
length_A (suc n) = ap suc (length_A n)

only_A : (n b : ℕ) → In b (all_a n) → b ≡ 97
only_A zero b i = absurd i
only_A (suc n) b i = cases i (λ e. e) (only_A n b)

good_A : (n : ℕ) → 0 < n → n ≤ 32 → ValidName (all_a n)
good_A n h g = record {
  some = omega (arith, length_A n);
  short = omega (arith, length_A n);
  letter = λ b i. (omega (arith, only_A n b i), omega (arith, only_A n b i));
}

bad_33 : ValidName (all_a 33) → ⊥
unfolding valid_name letters
bad_33 valid = false≢true ((valid_iff (all_a 33)).1 valid)

bad_capital : ValidName capital → ⊥
unfolding valid_name letters
bad_capital valid = false≢true ((valid_iff capital).1 valid)

bad_empty : ValidName [] → ⊥
unfolding valid_name letters
bad_empty valid = false≢true ((valid_iff []).1 valid)

-- one first letter, two names
two_names_lem : ab ≡ ac → ⊥
two_names_lem e = let z : ◌≡◌ {A = ℕ} 98 99 = ap (λ l. get_or l 1 0) e in omega arith

-- b, and a, aa, … of 1 to 32 letters: 33 names
abbrev lengths : ℕ → List (List ℕ)
lengths zero = []
lengths (suc n) = all_a (suc n) ∷ lengths n

abbrev pub thirty_three : List (List ℕ)
thirty_three = (98 ∷ []) ∷ lengths 32

shorter : (n m : ℕ) → n < m → EachNamed (λ k. k ≡ all_a m → ⊥) (lengths n)
shorter zero m h = tt
shorter (suc n) m h = (
  λ e. let z : ⊥ = omega (arith, ap (λ (k : List ℕ). length k) e, length_A (suc n), length_A m) in z,
  shorter n m (omega arith),
)

no_b : (n : ℕ) → EachNamed (λ k. k ≡ 98 ∷ [] → ⊥) (lengths n)
no_b zero = tt
no_b (suc n) = (λ e. let z : ◌≡◌ {A = ℕ} 97 98 = ap (λ l. get_or l 0 0) e in omega arith, no_b n)

all_lengths : (n : ℕ) → Different (lengths n)
all_lengths zero = tt
all_lengths (suc n) = (shorter n (suc n) (omega arith), all_lengths n)

count_lengths : (n : ℕ) → length (lengths n) ≡ n
count_lengths zero = refl
count_lengths (suc n) = ap suc (count_lengths n)

-- each is a name
good_lengths : (n : ℕ) → n ≤ 32 → EachNamed ValidName (lengths n)
good_lengths zero h = tt
good_lengths (suc n) h = (good_A (suc n) (omega arith) h, good_lengths n (omega arith))

pub good_33 : EachNamed ValidName thirty_three
unfolding valid_name letters
good_33 = ((valid_iff (98 ∷ [])).0 refl, good_lengths 32 (omega arith))

-- ── replies ──

-- the call d on the tables U, and its reply
abbrev pub Says : (M : Machine) → M.Tables → M.Asked → Command → Reply → Type 0
Says M U i d a = (M.call i ≡ d) × (M.answer U i ≡ a)

-- the reply b is a, unless log, buffer or tables are at fault
abbrev pub Answered : Reply → Reply → Type 0
Answered a b = (b ≡ a) ⊎ ((n : ℕ) × (n < 5) × (b ≡ refused n))

-- M l is answered so, whatever it comes with
abbrev pub Told : (M : Machine) → M.Tables → List ℕ → Reply → Type 0
Told M U l a = (v : M.Asked) → M.call v ≡ Resolve l → Answered a (M.answer U v)

reply? : (A : Reply) → ((m : List ℕ) × (A ≡ accepted m)) ⊎ ((n : ℕ) × (A ≡ refused n))
reply? (accepted m) = inl (m, refl)
reply? (refused n) = inr (n, refl)

module _ (M : Machine) (U : M.Tables) where
  gives : (l : List ℕ) (r : ℕ) → Resolves M U l r → Told M U l (accepted (r ∷ []))
  gives l r S v c =
      cases (reply? (M.answer U v))
      (λ w. let (m, a) = w in inl (a ∙ ap accepted (S.gives v m c a)))
      (λ w. let (n, a) = w in inr (n, S.there v n c a, a))

  gives_17 : (l : List ℕ) → Unused M U l → Told M U l (refused 17)
  gives_17 l S v c =
      cases (reply? (M.answer U v))
      (λ w. let (m, a) = w in absurd (S.none v m c a))
      (λ w. let (n, a) = w in cases (S.seventeen v n c a) (λ h. inr (n, h, a)) (λ e. inl (a ∙ ap refused e)))

  -- what was heard
  asked : (l : List ℕ) (r : ℕ) → Resolves M U l r → (v : M.Asked) (m : List ℕ) → Says M U v (Resolve l) (accepted m) → GivesNumber M U l r
  asked l r S v m (e, a) = (v, e, a ∙ ap accepted (S.gives v m e a))

  accepts : (i : M.Asked) (d : Command) (m : List ℕ) → Says M U i d (accepted m) → Did M U i d
  accepts i d m (e, a) = (e, ap was_accepted a)

  refuses : (i : M.Asked) (n : ℕ) (d : Command) → M.answer U i ≡ refused n → Did M U i d → ⊥
  refuses i n d a (e, w) = false≢true (sym (ap was_accepted a) ∙ w)

  other_call : (i : M.Asked) (c d : Command) → M.call i ≡ c → (c ≡ d → ⊥) → Did M U i d → ⊥
  other_call i c d e n (f, w) = n (sym e ∙ f)

-- ── a store that obeys the laws after any calls ──

module _ (M : Machine) (now : M.Tables) (laws : (cs : List M.Asked) → NamingLaws M (state_from M now cs)) where
  abbrev pub at : List M.Asked → M.Tables
  at cs = state_from M now cs

  -- attached: right after N l r, M l gives r
  pub put_on : (c : M.Asked) (l : List ℕ) (r : ℕ) (k : List ℕ) → Says M now c (Attach l r) (accepted k) → Told M (at (c ∷ [])) l (accepted (r ∷ []))
  put_on c l r k N = gives M (at (c ∷ [])) l r ((laws []).attached c l r (accepts M now c (Attach l r) k N))

  -- N l r, and then S r gives n
  module _ (c v s : M.Asked) (l : List ℕ) (r n : ℕ) (k m rest : List ℕ) (N : Says M now c (Attach l r) (accepted k))
      (heard : Says M (at (c ∷ [])) v (Resolve l) (accepted m)) (S : Says M (at (c ∷ [])) s (Seal r) (accepted (n ∷ rest))) where
    moves : Resolves M (at (c ∷ s ∷ [])) l n
    moves =
        (laws (c ∷ [])).sealed s l r n rest S.0 S.1
        (asked M (at (c ∷ [])) l r ((laws []).attached c l r (accepts M now c (Attach l r) k N)) v m heard)

    -- attached, sealed: M l gives n
    pub goes_with_S : Told M (at (c ∷ s ∷ [])) l (accepted (n ∷ []))
    goes_with_S = gives M (at (c ∷ s ∷ [])) l n moves

    -- THE WRONG PROGRAM: a name that stays on the sealed record is refused
    pub not_left : (w : M.Asked) → (n ≡ r → ⊥) → Says M (at (c ∷ s ∷ [])) w (Resolve l) (accepted (r ∷ [])) → ⊥
    not_left w d (e, a) = d (sym (ap (λ x. get_or x 0 0) (moves.gives w (r ∷ []) e a)))

    -- in_use: and no N of l is accepted
    pub not_on_twice : (w u : M.Asked) (q : ℕ) (x y : List ℕ) → Says M (at (c ∷ s ∷ [])) w (Resolve l) (accepted x) →
        Says M (at (c ∷ s ∷ [])) u (Attach l q) (accepted y) → ⊥
    not_on_twice w u q x y heard (e, a) = (laws (c ∷ s ∷ [])).in_use u l n q y (asked M (at (c ∷ s ∷ [])) l n moves w x heard) e a

  -- ── a name on record r ──

  module _ (l : List ℕ) (r : ℕ) (on : GivesNumber M now l r) where
    through : (c : M.Asked) (d : Command) → M.call c ≡ d → (d ≡ Detach l → ⊥) → (d ≡ Seal r → ⊥) → Resolves M (at (c ∷ [])) l r
    through c d e u s = (laws []).stays c l r on (other_call M now c d (Detach l) e u) (other_call M now c d (Seal r) e s)

    -- stays: every other call leaves it there, and so does a U of it or an S of r that is refused
    pub stays_through : (c : M.Asked) (d : Command) → M.call c ≡ d → (d ≡ Detach l → ⊥) → (d ≡ Seal r → ⊥) → Told M (at (c ∷ [])) l (accepted (r ∷ []))
    stays_through c d e u s = gives M (at (c ∷ [])) l r (through c d e u s)

    pub stays_refused : (c : M.Asked) (n : ℕ) → M.answer now c ≡ refused n → Told M (at (c ∷ [])) l (accepted (r ∷ []))
    stays_refused c n a = gives M (at (c ∷ [])) l r ((laws []).stays c l r on (refuses M now c n (Detach l) a) (refuses M now c n (Seal r) a))

    -- on a sealed record it stays through an S of another one of the line
    pub stays_at_S : (s : M.Asked) (o : ℕ) → M.call s ≡ Seal o → (o ≡ r → ⊥) → Told M (at (s ∷ [])) l (accepted (r ∷ []))
    stays_at_S s o e n = stays_through s (Seal o) e (λ w. let z : ◌≡◌ {A = ℕ} 0 1 = cc in omega arith) (λ w. n (cc))

    -- THE WRONG PROGRAM: a name that goes with a fork is refused
    pub not_forked : (f w : M.Asked) (n : ℕ) (rest : List ℕ) → Says M now f (Fork r) (accepted (n ∷ rest)) → (n ≡ r → ⊥) →
        Says M (at (f ∷ [])) w (Resolve l) (accepted (n ∷ [])) → ⊥
    not_forked f w n rest F d (e, a) =
        let R = through f (Fork r) F.0 (λ i. let z : ◌≡◌ {A = ℕ} 0 1 = cc in omega arith) (λ i. let z : ◌≡◌ {A = ℕ} 0 1 = cc in omega arith) in
        d (ap (λ x. get_or x 0 0) (R.gives w (n ∷ []) e a))

    -- there: neither D nor a window takes its record
    pub not_lost : (c v w : M.Asked) (d : Command) (x : ℕ) (m : List ℕ) → M.call c ≡ d → (d ≡ Detach l → ⊥) → (d ≡ Seal r → ⊥) →
        Says M (at (c ∷ [])) v (Resolve l) (accepted m) → Says M (at (c ∷ [])) w (Read r x) (refused 8) → ⊥
    not_lost c v w d x m e u s heard (f, a) = (laws (c ∷ [])).there w l r x (asked M (at (c ∷ [])) l r (through c d e u s) v m heard) f a

    -- named, named-never: D r and Q r are refused with 10, or else with 18
    deletes : (d : M.Asked) → Deletes r (M.call d) → (M.answer now d ≡ refused 10) ⊎ Answered (refused 18) (M.answer now d)
    deletes d e =
        cases (reply? (M.answer now d))
        (λ w. let (m, a) = w in absurd ((laws []).named_never d l r m on e a))
        (λ w.
        let (n, a) = w in
        cases ((laws []).named d l r n on e a) (λ h. inr (inr (n, h, a))) (λ o. cases o (λ i. inl (a ∙ ap refused i)) (λ i. inr (inl (a ∙ ap refused i)))))

    pub D_refused : (d : M.Asked) → M.call d ≡ Delete r → (M.answer now d ≡ refused 10) ⊎ Answered (refused 18) (M.answer now d)
    D_refused d e = deletes d (inl e)

    pub Q_refused : (d : M.Asked) → M.call d ≡ Estimate r → (M.answer now d ≡ refused 10) ⊎ Answered (refused 18) (M.answer now d)
    Q_refused d e = deletes d (inr e)

    -- second: a record that two names are on is not written, erased, sealed or given a window
    pub not_open : (k : List ℕ) → GivesNumber M now k r → (l ≡ k → ⊥) → (c : M.Asked) (x y : ℕ) (m : List ℕ) →
        (Says M now c (Write r x y) (accepted m) → ⊥) × (Says M now c (Erase r x) (accepted m) → ⊥) ×
        (Says M now c (Seal r) (accepted m) → ⊥) × (Says M now c (Retain r x) (accepted m) → ⊥)
    not_open k also n c x y m =
        let second = (laws []).second c l k r m on also n in (
          λ w. second (inl (x, y, w.0)) w.1,
          λ w. second (inr (inl (x, w.0))) w.1,
          λ w. second (inr (inr (inl w.0))) w.1,
          λ w. second (inr (inr (inr (x, w.0)))) w.1,
        )

  -- ── U l takes it off ──

  module _ (u : M.Asked) (l k : List ℕ) (U : Says M now u (Detach l) (accepted k)) where
    -- detached: M l is refused with 17
    pub off : Told M (at (u ∷ [])) l (refused 17)
    off = gives_17 M (at (u ∷ [])) l ((laws []).detached u l (accepts M now u (Detach l) k U))

    -- unknown: and no second U is accepted
    pub not_off_twice : (v w : M.Asked) (m : List ℕ) → Says M (at (u ∷ [])) v (Resolve l) (refused 17) → Says M (at (u ∷ [])) w (Detach l) (accepted m) → ⊥
    not_off_twice v w m heard (e, a) = (laws (u ∷ [])).unknown w v l m heard.0 heard.1 e a

    -- unused: so it stays, whatever is called and however it is answered, until an N of l is accepted
    pub stays_off : (v c : M.Asked) → Says M (at (u ∷ [])) v (Resolve l) (refused 17) → ((r : ℕ) → Did M (at (u ∷ [])) c (Attach l r) → ⊥) →
        Told M (at (u ∷ c ∷ [])) l (refused 17)
    stays_off v c heard n = gives_17 M (at (u ∷ c ∷ [])) l ((laws (u ∷ [])).unused c v l heard.0 heard.1 n)

    -- attached: which may put it on another record
    pub on_another : (c : M.Asked) (q : ℕ) (m : List ℕ) → Says M (at (u ∷ [])) c (Attach l q) (accepted m) → Told M (at (u ∷ c ∷ [])) l (accepted (q ∷ []))
    on_another c q m N = gives M (at (u ∷ c ∷ [])) l q ((laws (u ∷ [])).attached c l q (accepts M (at (u ∷ [])) c (Attach l q) m N))

  -- ── names are compared whole ──

  -- unused: N of ab leaves ac off
  pub ac_off : (c v : M.Asked) (r : ℕ) → M.call c ≡ Attach ab r → Says M now v (Resolve ac) (refused 17) → Told M (at (c ∷ [])) ac (refused 17)
  ac_off c v r e heard =
      gives_17 M (at (c ∷ [])) ac ((laws []).unused c v ac heard.0 heard.1
      (λ q. other_call M now c (Attach ab r) (Attach ac q) e (λ w. two_names_lem (cc))))

  -- THE WRONG PROGRAM: one that looks at the first letter only is refused
  pub not_by_first_letter : (c v w : M.Asked) (r : ℕ) (m : List ℕ) → M.call c ≡ Attach ab r → Says M now v (Resolve ac) (refused 17) →
      Says M (at (c ∷ [])) w (Resolve ac) (accepted m) → ⊥
  not_by_first_letter c v w r m e heard (f, a) =
      ((laws []).unused c v ac heard.0 heard.1 (λ q. other_call M now c (Attach ab r) (Attach ac q) e (λ w. two_names_lem (cc)))).none w m f a

  -- unknown: nor does U of ac take ab off
  pub ac_not_taken : (c v u : M.Asked) (r : ℕ) (m k : List ℕ) → Says M now c (Attach ab r) (accepted k) →
      Says M (at (c ∷ [])) v (Resolve ac) (refused 17) → Says M (at (c ∷ [])) u (Detach ac) (accepted m) → ⊥
  ac_not_taken c v u r m k N heard (e, a) = (laws (c ∷ [])).unknown u v ac m heard.0 heard.1 e a

  -- stays: N and U of ab leave ac on its record
  pub ac_on : (c : M.Asked) (r q : ℕ) → GivesNumber M now ac r → (M.call c ≡ Attach ab q) ⊎ (M.call c ≡ Detach ab) →
      Told M (at (c ∷ [])) ac (accepted (r ∷ []))
  ac_on c r q on e =
      cases e
      (λ i. stays_through ac r on c (Attach ab q) i
      (λ w. let z : ◌≡◌ {A = ℕ} 0 1 = cc in omega arith) (λ w. let z : ◌≡◌ {A = ℕ} 0 1 = cc in omega arith))
      (λ i. stays_through ac r on c (Detach ab) i (λ w. two_names_lem (cc)) (λ w. let z : ◌≡◌ {A = ℕ} 0 1 = cc in omega arith))

  -- ── 33 names ──

  -- few: not all of 33 names are on records
  pub not_33 : EachNamed (λ l. (r : ℕ) × GivesNumber M now l r) thirty_three → ⊥
  not_33 u = let z : ⊥ = omega (arith, (laws []).few thirty_three (no_b 32, all_lengths 32) u, count_lengths 32) in z

  -- ── 16 ──

  -- bad, bad-never: N, U and M of what is no name are refused with 16
  sixteen : (l : List ℕ) → (ValidName l → ⊥) → (v : M.Asked) → OfName l (M.call v) → Answered (refused 16) (M.answer now v)
  sixteen l b v o =
      cases (reply? (M.answer now v))
      (λ w. let (m, a) = w in absurd ((laws []).bad_never v l m o b a))
      (λ w. let (n, a) = w in cases ((laws []).bad v l n o b a) (λ h. inr (n, h, a)) (λ i. inl (a ∙ ap refused i)))

  pub no_capitals : (v : M.Asked) (r : ℕ) → M.call v ≡ Attach capital r → Answered (refused 16) (M.answer now v)
  no_capitals v r e = sixteen capital bad_capital v (inl (r, e))

  pub not_empty : (v : M.Asked) → M.call v ≡ Detach [] → Answered (refused 16) (M.answer now v)
  not_empty v e = sixteen [] bad_empty v (inr (inl e))

  pub not_33_letters : (v : M.Asked) → M.call v ≡ Resolve (all_a 33) → Answered (refused 16) (M.answer now v)
  not_33_letters v e = sixteen (all_a 33) bad_33 v (inr (inr e))

  -- good: a name never is
  pub easter_not_16 : (v : M.Asked) (r : ℕ) → (Says M now v (Attach easter r) (refused 16) → ⊥) × (Says M now v (Detach easter) (refused 16) → ⊥) ×
      (Says M now v (Resolve easter) (refused 16) → ⊥)
  easter_not_16 v r =
      let good : OfName easter (M.call v) → M.answer now v ≡ refused 16 → ⊥ = λ o. (laws []).good v easter o good_easter in
      (λ w. good (inl (r, w.0)) w.1, λ w. good (inr (inl w.0)) w.1, λ w. good (inr (inr w.0)) w.1)

  pub longest_not_16 : (v : M.Asked) → Says M now v (Resolve (all_a 32)) (refused 16) → ⊥
  longest_not_16 v w = (laws []).good v (all_a 32) (inr (inr w.0)) (good_A 32 (omega arith) (omega arith)) w.1

-- ── the listing's store: B · N easter 1 · M easter · S 1 · M easter ──

obeys : (cs : List Screened) → NamingLaws (model small) (state_from (model small) (fresh small) (fine Begin ∷ cs))
obeys cs =
    naming_laws small inside (state_from (model small) (fresh small) (fine Begin ∷ cs))
    (fine_from small inside (fine Begin ∷ cs) (fresh small) (fresh_fine small inside))

abbrev begun : State
begun = state_from (model small) (fresh small) (fine Begin ∷ [])

named_1 : Says (model small) begun (fine (Attach easter 1)) (Attach easter 1) (accepted [])
unfolding replies_to
named_1 = (refl, refl)

asked_1 : Says (model small) (state_from (model small) begun (fine (Attach easter 1) ∷ [])) (fine (Resolve easter)) (Resolve easter) (accepted (1 ∷ []))
unfolding replies_to
asked_1 = (refl, refl)

sealed_1 : Says (model small) (state_from (model small) begun (fine (Attach easter 1) ∷ [])) (fine (Seal 1)) (Seal 1) (accepted (2 ∷ []))
unfolding replies_to
sealed_1 = (refl, refl)

-- so easter is on record 2, by the laws
pub easter_on_2 : Told (model small) (state_from (model small) begun (fine (Attach easter 1) ∷ fine (Seal 1) ∷ [])) easter (accepted (2 ∷ []))
easter_on_2 =
    goes_with_S (model small) begun obeys (fine (Attach easter 1)) (fine (Resolve easter)) (fine (Seal 1)) easter 1 2 [] (1 ∷ []) [] named_1 asked_1 sealed_1

-- ── the calls as they are made ──

-- `naming`: on any tables, each call with log bytes and a buffer of its own, a named record is not deleted
pub lent_18 : (g : Geometry) (t : List ℕ) (v d : Request) (l : List ℕ) (r : ℕ) (m : List ℕ) →
    v.call ≡ Resolve l → reply g (met_by t v) v.call ≡ accepted (r ∷ []) → d.call ≡ Delete r → reply g (met_by t d) d.call ≡ accepted m → ⊥
lent_18 g t v d l r m e a f b = ((naming g).0 t).named_never d l r m (v, e, a) (inl f) b

-- and on a store that keeps its own log, whatever its tables are, the name goes with S
pub own_goes_with_S : (g : Geometry) (M : Memory) (c v s : Own) (l : List ℕ) (r n : ℕ) (k m rest : List ℕ) →
    let N = after g (with_out M c.out) c.call in
    c.call ≡ Attach l r → reply g (with_out M c.out) c.call ≡ accepted k →
    v.call ≡ Resolve l → reply g (with_out N v.out) v.call ≡ accepted m →
    s.call ≡ Seal r → reply g (with_out N s.out) s.call ≡ accepted (n ∷ rest) →
    Told (own_store g) (after g (with_out N s.out) s.call) l (accepted (n ∷ []))
own_goes_with_S g M c v s l r n k m rest e a f b h d =
    goes_with_S (own_store g) M (λ cs. (naming g).1 (state_from (own_store g) M cs)) c v s l r n k m rest (e, a) (f, b) (h, d)
