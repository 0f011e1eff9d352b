-- What each word of a log does to the marks.
use Rattle.std.proofs.Common.{◌≡◌, Some, ℕ, ◌+◌, ◌-◌, ◌*◌, ◌/◌, ◌%◌, ◌<◌, ◌≤◌, Bool, true, false, eqb, List, refl, arith, ne_eqb, le-leb}
use borrow.Author.Tests.{lt-leb}
use Rattle.alloc_log.specs.Word.{allocated, released, barrier, allocated_run, released_run, length_of}
use Rattle.alloc_log.specs.Marks.{mark_run}
use Rattle.alloc_log.specs.Read.{changed, by_code, first_word, second_word}
use Rattle.alloc_log.specs.declared.read.Progress.TheVariants.{Ready, Run}

-- the word that allocates or frees a block, and the first word of a run's entry
abbrev pub one_word : Bool → ℕ → ℕ
one_word true b = allocated b
one_word false b = released b

abbrev pub run_word : Bool → ℕ → ℕ
run_word true b = allocated_run b
run_word false b = released_run b

first_code : (n : ℕ) (m : List ℕ) (b c : ℕ) → b < n → c < 256 → (c ≡ 3 → ⊥) → first_word n m (b * 16384 + c) ≡ by_code m c b
unfolding first_word
first_code n m b c h k f =
    let a : (b * 16384 + c) % 256 ≡ c = omega arith in
    let d : b * 16384 + c - c ≡ b * 16384 = omega arith in
    let e : b * 16384 % 16384 ≡ 0 = omega arith in
    let g : b * 16384 / 16384 ≡ b = omega arith in
    simp (a, d, e, g, ne_eqb c 3 f, lt-leb n b h)

pub one_word_lem : (n : ℕ) (m : List ℕ) (b : ℕ) (held : Bool) → b < n → first_word n m (one_word held b) ≡ changed (mark_run m b 1 held)
unfolding by_code
one_word_lem n m b true h = first_code n m b 1 h (omega arith) (λ e. omega arith)
one_word_lem n m b false h = first_code n m b 2 h (omega arith) (λ e. omega arith)

pub run_word_lem : (n : ℕ) (m : List ℕ) (b : ℕ) (held : Bool) → b < n → first_word n m (run_word held b) ≡ (Some (Run held b), m)
unfolding by_code
run_word_lem n m b true h = first_code n m b 4 h (omega arith) (λ e. omega arith)
run_word_lem n m b false h = first_code n m b 5 h (omega arith) (λ e. omega arith)

pub barrier_word : (n : ℕ) (m : List ℕ) → first_word n m barrier ≡ (Some Ready, m)
unfolding first_word
barrier_word n m = refl

pub size_word : (per : ℕ) (m : List ℕ) (held : Bool) (b n : ℕ) → 0 < n → b % per + n ≤ per
    → second_word per m held b (length_of n) ≡ changed (mark_run m b n held)
unfolding second_word
size_word per m held b n p h =
    let d : n * 16384 % 16384 ≡ 0 = omega arith in
    let e : n * 16384 / 16384 ≡ n = omega arith in
    let z : eqb (n * 16384) 0 ≡ false = ne_eqb (n * 16384) 0 (λ q. omega arith) in
    simp (z, d, e, le-leb (b % per + n) per h)
