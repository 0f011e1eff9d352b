-- The header, the log, and the whole test.
use Rattle.std.proofs.Common.{
  ◌≡◌,
  ℕ,
  ◌*◌,
  ◌≤◌,
  Bool,
  true,
  false,
  cond,
  not,
  ◌&&◌,
  eqb,
  ltb,
  leb,
  List,
  get_or,
  take,
  replicate,
  sym,
  refl,
  ap,
  ◌∙◌,
  ap₂,
  arith,
  leb-true,
}
use mathlib.Core.Path.{fun_ext}
use mathlib.Core.Bool.{and-false}
use lib.ListN.{get_or-replicate, length-replicate, get_or-eq_default}
use Rattle.answer.proofs.Cases.{cases, lt?}
use Rattle.geometry.specs.declared.Geometry.{Geometry}
use Rattle.geometry.specs.Limits.{blocks}
use Rattle.alloc_log.specs.Marks.{held_in}
use Rattle.alloc_log.specs.Read.{Result, read_log}
use Rattle.alloc_log.specs.Tool.{readable, marks_of}
use Rattle.model.specs.Table.{all}
use Rattle.model.specs.Held.{on_pages, held}
use Rattle.model.specs.Layout.{view_of, state_of}
use Rattle.model.specs.Check as check
use Rattle.model.specs.Check.{imp, same, linked?, page?, list?, slot?, empty?, once?, all_own, good?}
use Rattle.model.specs.Memory.{numbers?, range?, queue?, waiting?, windows?, names?, free?, log_holds?, sound?}
use Rattle.soundness.specs.Pairs.{linked_to?}
use Rattle.soundness.proofs.Pairing.{pairs_exact}
use Rattle.std.proofs.lemmas.Bool.{and_parts, and_left, and_right}
use Rattle.soundness.proofs.Loops.{positive, all_both, all_same}

module _ (g : Geometry) (t : List ℕ) where
  pub range_is : {last counter writes used : ℕ} {marks : Bool} → last ≡ get_or t 6 0 →
      marks ≡ all g.arenas (λ a. ltb ((state_of g t).mark a) g.per) → counter ≡ get_or t 7 0 → writes ≡ get_or t 8 0 → used ≡ get_or t 9 0 →
      leb last 999999 && (marks && (ltb counter g.arenas && (ltb writes g.turn && leb used g.words))) ≡ range? g (state_of g t)
  unfolding range? state_of view_of
  range_is a b c d e = rw (a, b, c, d, e)

  -- what the check of the log asks of the header
  pub range_known : range? g (state_of g t) ≡ true → get_or t 9 0 ≤ g.words
  range_known h =
      let u : Bool = leb (get_or t 9 0) g.words in
      let w = ltb (get_or t 8 0) g.turn in
      let k = ltb (get_or t 7 0) g.arenas in
      let m = all g.arenas (λ a. ltb ((state_of g t).mark a) g.per) in
      let l = leb (get_or t 6 0) 999999 in
      let fits = and_parts l (m && (k && (w && u))) (range_is refl refl refl refl refl ∙ h) in
      leb-true (get_or t 9 0) g.words
      (and_parts w u (and_parts k (w && u) (and_parts m (k && (w && u)) fits.1).1).1).1

  module _ (log : List ℕ) {used : ℕ} (u : used ≡ get_or t 9 0) {ok : Bool} {marks : List ℕ}
      (read : ◌≡◌ {A = Result} (ok, marks) (read_log g.arenas g.per (take (8 * used) log))) where
    pub log_unread : ok ≡ false → ok ≡ log_holds? g (state_of g t) log
    unfolding log_holds? readable state_of
    log_unread z =
        let r : (read_log g.arenas g.per (take (8 * get_or t 9 0) log)).0 ≡ false = sym (ap (λ (x : Result). x.0) (rw u at read)) ∙ z in
        rw (r, z)

    pub log_read : {r : Bool} → ok ≡ true → r ≡ all (blocks g) (λ b. same (held_in marks b) (held (state_of g t) b)) →
        r ≡ log_holds? g (state_of g t) log
    unfolding log_holds? readable marks_of state_of
    log_read z e =
        let s : (read_log g.arenas g.per (take (8 * get_or t 9 0) log)).0 ≡ true = sym (ap (λ (x : Result). x.0) (rw u at read)) ∙ z in
        let m : (read_log g.arenas g.per (take (8 * get_or t 9 0) log)).1 ≡ marks = sym (ap (λ (x : Result). x.1) (rw u at read)) in
        rw (s, m) e

-- ── marks ──

abbrev pub seen : List ℕ → ℕ → ℕ
seen m b = get_or m b 0

pub seen_none : (n : ℕ) → seen (replicate n 0) ≡ (λ b. 0)
seen_none n =
    fun_ext (λ b. cases (lt? b n)
    (λ h. get_or-replicate n b 0 0 h)
    (λ h. get_or-eq_default (replicate n 0) 0 (omega (arith, length-replicate {A = ℕ} n 0))))

-- ── the whole ──

-- a slot's links, and the rest of what is asked of it
slot_parts : (live links pages list none : Bool) → cond live ((links && pages) && list) none ≡ (imp live links && cond live (pages && list) none)
unfolding imp
slot_parts true true pages list none = refl
slot_parts true false pages list none = refl
slot_parts false links pages list none = refl

-- the first of five tests beside the fourth
moved : (a b c d e : Bool) → a && (b && (c && (d && e))) ≡ (a && d) && (b && (c && e))
moved true true true d e = refl
moved true true false d e = sym (and-false d)
moved true false c d e = sym (and-false d)
moved false b c d e = refl

-- eleven tests, as `sound?` joins them, and as the code does
regroup : (n r l p s b q w i m h : Bool) → n && (r && ((((l && p) && s) && b) && (q && (w && (i && (m && h)))))) ≡
    ((n && r) && l) && (((((((p && s) && b) && q) && w) && i) && m) && h)
regroup false r l p s b q w i m h = refl
regroup true false l p s b q w i m h = refl
regroup true true false p s b q w i m h = refl
regroup true true true p s b q w i m h = go ((p && s) && b) q w i m h
  where
    go : (g q w i m h : Bool) → g && (q && (w && (i && (m && h)))) ≡ ((((g && q) && w) && i) && m) && h
    go false q w i m h = refl
    go true false w i m h = refl
    go true true false i m h = refl
    go true true true false m h = refl
    go true true true true m h = refl

same_turned : (a b : Bool) → same a b ≡ same b a
same_turned true true = refl
same_turned true false = refl
same_turned false true = refl
same_turned false false = refl

module _ (g : Geometry) (t : List ℕ) where
  abbrev links : Bool
  links = all g.records (λ s. imp (ltb 0 ((view_of g t).num s)) (linked? (view_of g t) s))

  -- each record paired with the slots before its own
  abbrev pub pairs : Bool
  pairs = all g.records (λ s. imp (ltb 0 ((view_of g t).num s)) (linked_to? (view_of g t) s s))

  pairs_are : pairs ≡ links
  unfolding view_of
  pairs_are = pairs_exact (view_of g t)

  abbrev pub paged : Bool
  paged = all g.records (λ s. cond (ltb 0 ((view_of g t).num s)) (all g.pages (page? (view_of g t) s) && list? (view_of g t) s) (empty? (view_of g t) s))

  -- no block is the own of two records, on top of the marks f
  abbrev pub single : (ℕ → ℕ) → Bool
  single f = once? f (all_own (view_of g t))

  -- the blocks on pages are those that m marks
  abbrev pub agrees : List ℕ → Bool
  agrees m = all (blocks g) (λ b. same (held_in m b) (on_pages (view_of g t) b))

  -- the queue
  abbrev pub queues : Bool
  queues = queue? (state_of g t)

  -- the blocks that wait and the free words
  abbrev pub words : Bool
  words = waiting? (state_of g t) && free? (state_of g t) t

  -- the windows
  abbrev pub windows : Bool
  windows = windows? (view_of g t) (state_of g t).notes

  -- the names
  abbrev pub names : Bool
  names = names? (view_of g t) (state_of g t).notes

  abbrev pub marked : ℕ → ℕ
  marked = check.marks_of (λ c. 0) (all_own (view_of g t))

  abbrev pub born : Bool
  born = all (blocks g) (λ b. same (ltb 0 ((view_of g t).birth b)) (ltb 0 (marked b)))

  good_is : good? (view_of g t) ≡ ((links && paged) && single (λ c. 0)) && born
  unfolding good? slot? view_of
  good_is =
      ap (λ (x : Bool). (x && single (λ c. 0)) && born)
      (all_both g.records _ _ _
      (λ s. slot_parts (ltb 0 ((view_of g t).num s)) (linked? (view_of g t) s) (all g.pages (page? (view_of g t) s)) (list? (view_of g t) s)
      (empty? (view_of g t) s)))

  -- what is asked of the header and of the records, and of the rest but for the log
  abbrev pub head : Bool
  head = (numbers? g t && range? g (state_of g t)) && pairs

  abbrev pub rest : Bool
  rest = (((((paged && single (λ c. 0)) && born) && queues) && words) && windows) && names

  module _ (log : List ℕ) where
    -- the whole test, from its parts
    sound_is : sound? g t log ≡
        (numbers? g t && (range? g (state_of g t) && ((((links && paged) && single (λ c. 0)) && born) &&
        (queues && (words && (windows && (names && log_holds? g (state_of g t) log)))))))
    unfolding sound? state_of
    sound_is =
        ap (λ (x : Bool). numbers? g t && (range? g (state_of g t) && x))
        (ap₂ (λ (x y : Bool). x && (queues && y)) good_is
        (moved (waiting? (state_of g t)) windows names (free? (state_of g t) t) (log_holds? g (state_of g t) log)))

    sound_parts : sound? g t log ≡ head && (rest && log_holds? g (state_of g t) log)
    sound_parts =
        sound_is ∙
        regroup (numbers? g t) (range? g (state_of g t)) links paged (single (λ c. 0)) born queues words windows names (log_holds? g (state_of g t) log) ∙
        ap (λ (x : Bool). ((numbers? g t && range? g (state_of g t)) && x) && (rest && log_holds? g (state_of g t) log)) (sym pairs_are)

    module _ {h : Bool} (head_is : h ≡ head) where
      pub sound_unheaded : h ≡ false → false ≡ sound? g t log
      sound_unheaded z = let n = sym head_is ∙ z in sym (sound_parts ∙ and_left _ _ n)

      module _ (y : h ≡ true) {v : Bool} (rest_is : v ≡ rest) where
        pub sound_unrested : v ≡ false → v ≡ sound? g t log
        sound_unrested z = let n = sym rest_is ∙ z in z ∙ sym (sound_parts ∙ and_right head _ (and_left _ _ n))

        pub sound_logged : v ≡ true → {r : Bool} → r ≡ log_holds? g (state_of g t) log → r ≡ sound? g t log
        sound_logged z e =
            let p : head ≡ true = sym head_is ∙ y in
            let q : rest ≡ true = sym rest_is ∙ z in
            e ∙ sym (sound_parts ∙ rw (p, q))

  -- marks z, all 0, and the marks m of the own blocks on top of them
  module _ (z : List ℕ) (empty : seen z ≡ (λ c. 0)) where
    pub paged_is : paged && single (seen z) ≡ paged && single (λ c. 0)
    paged_is = ap (λ (f : ℕ → ℕ). paged && single f) empty

    pub born_is : (m : List ℕ) → ((b : ℕ) → get_or m b 0 ≡ check.marks_of (seen z) (all_own (view_of g t)) b) → agrees m ≡ born
    unfolding held_in on_pages
    born_is m is = all_same (blocks g) _ _ (λ b l.
        let own_is : get_or m b 0 ≡ marked b = is b ∙ ap (λ (f : ℕ → ℕ). check.marks_of f (all_own (view_of g t)) b) empty in
        ap₂ same (ap (λ (x : ℕ). not (eqb x 0)) own_is ∙ positive (marked b)) (positive ((view_of g t).birth b)) ∙
        same_turned (ltb 0 (marked b)) (ltb 0 ((view_of g t).birth b)))
