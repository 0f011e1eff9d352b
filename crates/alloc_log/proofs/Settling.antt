-- What is settled of a log, found step by step: words and their bytes, how many words stand up to the last barrier, and a search from the log's end.
use Rattle.std.proofs.Common.{
  ◌≡◌,
  ℕ,
  suc,
  ◌+◌,
  ◌-◌,
  ◌*◌,
  ◌/◌,
  ◌%◌,
  ◌<◌,
  ◌≤◌,
  cond,
  eqb,
  ltb,
  ◌⊎◌,
  List,
  [],
  ◌∷◌,
  ◌++◌,
  length,
  take,
  drop,
  sym,
  refl,
  ap,
  ◌∙◌,
  subst,
  inl,
  inr,
  arith,
  length-append,
  length-drop,
  take-append-drop,
  length-take-le,
  take_all,
  take-take,
  lt-ltb,
  eq-eqb,
  ne_eqb,
}
use lib.Seq.{append_snoc}
use Rattle.answer.proofs.Cases.{cases, lt?, same?}
use Rattle.alloc_log.specs.Word.{words, word_at, barrier}
use Rattle.alloc_log.specs.Settled.{up_to_barrier, NoBarrier, SettledIs}
use Rattle.alloc_log.proofs.Reading.{words_step}
use Rattle.alloc_log.proofs.Appending.{words_append}

-- ── how many words some bytes have ──

-- eight bytes each, and fewer than eight at the end
pub words_count : (l : List ℕ) → 8 * length (words l) + length l % 8 ≡ length l
unfolding words
words_count [] = refl
words_count (a ∷ []) = refl
words_count (a ∷ b ∷ []) = refl
words_count (a ∷ b ∷ c ∷ []) = refl
words_count (a ∷ b ∷ c ∷ d ∷ []) = refl
words_count (a ∷ b ∷ c ∷ d ∷ e ∷ []) = refl
words_count (a ∷ b ∷ c ∷ d ∷ e ∷ f ∷ []) = refl
words_count (a ∷ b ∷ c ∷ d ∷ e ∷ f ∷ g ∷ []) = refl
words_count (a ∷ b ∷ c ∷ d ∷ e ∷ f ∷ g ∷ h ∷ rest) = let k = words_count rest in omega arith

-- fewer than eight bytes have no word
short_none : (l : List ℕ) → length l < 8 → NoBarrier (words l)
short_none l h = none (words l) (omega (arith, words_count l))
  where
    none : (ws : List ℕ) → length ws ≡ 0 → NoBarrier ws
    none [] e = tt
    none (w ∷ ws) e = absurd (let z : ⊥ = omega arith in z)

-- ── how many words stand up to the last barrier ──

-- one word more in front: where a barrier stands behind it the count is one more, else the word itself counts if it is one
front_on : (w : ℕ) (ws : List ℕ) → 0 < up_to_barrier ws → up_to_barrier (w ∷ ws) ≡ suc (up_to_barrier ws)
unfolding up_to_barrier
front_on w ws h = rw (lt-ltb 0 (up_to_barrier ws) h)

front_last : (w : ℕ) (ws : List ℕ) → up_to_barrier ws ≡ 0 → w ≡ barrier → up_to_barrier (w ∷ ws) ≡ 1
unfolding up_to_barrier
front_last w ws e b = rw (e, eq-eqb w barrier b)

front_none : (w : ℕ) (ws : List ℕ) → up_to_barrier ws ≡ 0 → (w ≡ barrier → ⊥) → up_to_barrier (w ∷ ws) ≡ 0
unfolding up_to_barrier
front_none w ws e b = rw (e, ne_eqb w barrier b)

-- words with no barrier count nothing, alone or behind others
pub up_none : (ws : List ℕ) → NoBarrier ws → up_to_barrier ws ≡ 0
unfolding up_to_barrier
up_none [] n = refl
up_none (w ∷ ws) n = front_none w ws (up_none ws n.1) n.0

pub up_append : (ws vs : List ℕ) → NoBarrier vs → up_to_barrier (ws ++ vs) ≡ up_to_barrier ws
unfolding up_to_barrier
up_append [] vs n = up_none vs n
up_append (w ∷ ws) vs n = ap (λ (u : ℕ). cond (ltb 0 u) (suc u) (cond (eqb w barrier) 1 0)) (up_append ws vs n)

-- words whose last one is a barrier count all
pub up_last : (ws : List ℕ) → up_to_barrier (ws ++ (barrier ∷ [])) ≡ suc (length ws)
unfolding up_to_barrier
up_last [] = refl
up_last (w ∷ ws) = let e = up_last ws in front_on w (ws ++ (barrier ∷ [])) (omega arith) ∙ ap suc e

-- words up to a barrier, and none behind it
pub up_to : (ws vs : List ℕ) → NoBarrier vs → up_to_barrier (ws ++ (barrier ∷ vs)) ≡ suc (length ws)
up_to ws vs n = ap up_to_barrier (sym (append_snoc ws barrier vs)) ∙ up_append (ws ++ (barrier ∷ [])) vs n ∙ up_last ws

-- the first k of some words: there are none, or the last of them is a barrier; and no word behind them is one
pub record UpTo (ws : List ℕ) (k : ℕ) : Type 0 where
  pub most : k ≤ length ws
  pub ends : (k ≡ 0) ⊎ ((early : List ℕ) × (take k ws ≡ early ++ (barrier ∷ [])))
  pub behind : NoBarrier (drop k ws)

pub up_is : (ws : List ℕ) → UpTo ws (up_to_barrier ws)
unfolding up_to_barrier
up_is [] = record { most = omega arith; ends = inl refl; behind = tt }
up_is (w ∷ ws) =
    let r = up_is ws in
    cases (lt? 0 (up_to_barrier ws))
    (λ h. subst (UpTo (w ∷ ws)) (sym (front_on w ws h)) record {
      most = omega (arith, r.most);
      ends = cases r.ends (λ z. absurd (let y : ⊥ = omega arith in y)) (λ e. inr (w ∷ e.0, ap (λ (l : List ℕ). w ∷ l) e.1));
      behind = r.behind;
    })
    (λ h.
    let z : up_to_barrier ws ≡ 0 = omega arith in
    let n : NoBarrier ws = subst (λ (k : ℕ). NoBarrier (drop k ws)) z r.behind in
    cases (same? w barrier)
    (λ b. subst (UpTo (w ∷ ws)) (sym (front_last w ws z b)) record {
      most = omega arith;
      ends = inr ([], ap (λ (v : ℕ). v ∷ []) b);
      behind = n;
    })
    (λ b. subst (UpTo (w ∷ ws)) (sym (front_none w ws z b)) record { most = omega arith; ends = inl refl; behind = (b, n) }))

-- ── what is settled, by where it ends ──

-- the bytes behind what is settled count nothing
settled_front : (log part : List ℕ) → SettledIs log part → up_to_barrier (words log) ≡ up_to_barrier (words part)
settled_front log part s =
    ap (λ (l : List ℕ). up_to_barrier (words l)) s.split
    ∙ ap up_to_barrier (words_append part s.rest s.whole)
    ∙ up_append (words part) (words s.rest) s.behind

-- a part of a log that is what is settled of it has as many bytes as the count says
pub settled_count : (log part : List ℕ) → SettledIs log part → 8 * up_to_barrier (words log) ≡ length part
unfolding up_to_barrier words
settled_count log part s =
    let front = settled_front log part s in
    cases s.ends
    (λ e.
    let n : up_to_barrier (words part) ≡ 0 = ap (λ (l : List ℕ). up_to_barrier (words l)) e in
    let z : length part ≡ 0 = ap length e in
    omega arith)
    (λ e.
    let n : up_to_barrier (words part) ≡ suc (length e.0) = ap up_to_barrier e.1 ∙ up_last e.0 in
    let k : length (words part) ≡ length e.0 + 1 = ap length e.1 ∙ length-append e.0 (barrier ∷ []) in
    omega (arith, words_count part, s.whole))

-- the bytes up to a place between words: whole words, and those behind them
module _ (log : List ℕ) (end : ℕ) (h : end ≤ length log) (w : end % 8 ≡ 0) where
  front_length : length (take end log) ≡ end
  front_length = length-take-le end log h

  front_whole : length (take end log) % 8 ≡ 0
  front_whole = rw front_length w

  pub words_split : words log ≡ words (take end log) ++ words (drop end log)
  words_split = ap words (sym (take-append-drop end log)) ∙ words_append (take end log) (drop end log) front_whole

  pub front_words : 8 * length (words (take end log)) ≡ end
  front_words = omega (arith, words_count (take end log), front_length, front_whole)

-- ── words without a barrier, and bytes cut short ──

none_front : (ws vs : List ℕ) → NoBarrier (ws ++ vs) → NoBarrier ws
none_front [] vs n = tt
none_front (w ∷ ws) vs n = (n.0, none_front ws vs n.1)

none_both : (ws vs : List ℕ) → NoBarrier ws → NoBarrier vs → NoBarrier (ws ++ vs)
none_both [] vs n m = m
none_both (w ∷ ws) vs n m = (n.0, none_both ws vs n.1 m)

-- bytes without a barrier have none where they are cut short: they are the words before the cut, and fewer than eight bytes
pub none_cut : (l : List ℕ) (k : ℕ) → NoBarrier (words l) → NoBarrier (words (take k l))
none_cut l k n =
    cases (lt? (length l) k)
    (λ h. rw (take_all k l (omega arith)) n)
    (λ h.
    let m : ℕ = k - k % 8 in
    let c : length (take k l) ≡ k = length-take-le k l h in
    let w : NoBarrier (words (take m l) ++ words (drop m l)) = subst NoBarrier (words_split l m (omega arith) (omega arith)) n in
    subst NoBarrier (sym (words_split (take k l) m (omega arith) (omega arith)))
    (none_both (words (take m (take k l))) (words (drop m (take k l)))
    (rw (take-take m k l (omega arith)) (none_front (words (take m l)) (words (drop m l)) w))
    (short_none (drop m (take k l)) (omega (arith, length-drop m (take k l))))))

-- ── the search from the log's end ──

-- it starts after the last whole word
pub search_starts : (log : List ℕ) → NoBarrier (words (drop (8 * (length log / 8)) log))
search_starts log = short_none (drop (8 * (length log / 8)) log) (omega (arith, length-drop (8 * (length log / 8)) log))

-- the word at `at` is v, and no word after it is a barrier
module _ (log : List ℕ) (at : ℕ) (h : at + 8 ≤ length log) (w : at % 8 ≡ 0) (n : NoBarrier (words (drop (at + 8) log))) {v : ℕ} (is : v ≡ word_at log at) where
  last_word : words (drop at log) ≡ v ∷ words (drop (at + 8) log)
  last_word = words_step log at h ∙ ap (λ (x : ℕ). x ∷ words (drop (at + 8) log)) (sym is)

  -- the search goes on where the word is none
  pub search_on : (v ≡ 3 → ⊥) → NoBarrier (words (drop at log))
  search_on b = subst NoBarrier (sym last_word) (b, n)

  -- and ends where it is one
  last_barrier : v ≡ 3 → up_to_barrier (words log) ≡ suc (length (words (take at log)))
  last_barrier b =
      let front : List ℕ = words (take at log) in
      ap up_to_barrier (words_split log at (omega arith) w)
      ∙ ap (λ (l : List ℕ). up_to_barrier (front ++ l)) (last_word ∙ ap (λ (x : ℕ). x ∷ words (drop (at + 8) log)) b)
      ∙ up_to front (words (drop (at + 8) log)) n

  pub search_finds : v ≡ 3 → at + 8 ≡ 8 * up_to_barrier (words log)
  search_finds b = omega (arith, last_barrier b, front_words log at (omega arith) w)

-- or at the log's start
pub search_fails : (log : List ℕ) (end : ℕ) → end ≡ 0 → NoBarrier (words (drop end log)) → 0 ≡ 8 * up_to_barrier (words log)
search_fails log end e n = let z = up_none (words log) (subst (λ (k : ℕ). NoBarrier (words (drop k log))) e n) in omega arith
