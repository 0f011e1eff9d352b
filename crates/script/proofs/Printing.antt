-- Laws of printing: a byte, a digit more, a number, many of them and a whole reply behind what was written before.
use Prim.Native.Nat.{ℕ, ◌+◌, ◌-◌, ◌*◌, ◌/◌, ◌%◌, ◌^◌, ◌<◌, ◌≤◌}
use mathlib.Core.Path.{◌≡◌, refl, sym, ap, ◌∙◌}
use mathlib.Core.Bool.{cond}
use mathlib.Core.List.{List, [], ◌∷◌, ◌++◌, map, append_assoc}
use native.Mathlib.Numerals.{add-one}
use native.Mathlib.Omega.{arith}
use lib.ListN.{length, take, drop, set, get_or, length-append, drop_of_length-le}
use lib.Seq.{set-set, set_split, length-take-le, drop-cons, get_or-take}
use types.Run.{miss}
use borrow.Enum.Refused.{Among, opened}
use denote.Enum.Declared.{tag_of}
use Rattle.alloc_log.specs.Word.{write_at}
use Rattle.alloc_log.proofs.Writing.{length_write, write_none, write_write}
use Rattle.answer.proofs.Cases.{cases, lt?}
use Rattle.std.specs.Prelude.{Result, Ok}
use Rattle.model.specs.declared.Call.{Call}
use Rattle.model.specs.declared.Call.TheVariants.{Begin, Write, Erase, Seal, Fork, Delete, Read, Barrier, Compress, FreeList, Estimate, Retain, Reclaim}
use Rattle.model.specs.declared.Spelling.{Spelling}
use Rattle.model.specs.declared.Spelling.TheVariants.{Numbers, Blocks}
use Rattle.model.specs.Calls.{spelling}
use Rattle.model.specs.Command.{command}
use Rattle.model.specs.Results.{plain, born_in, items_of}
use Rattle.model.specs.contracts.Call.{the_type as call-type}
use Rattle.script.specs.declared.parse.Parsed.{Parsed}
use Rattle.script.specs.declared.parse.Parsed.TheVariants.{Store, Asks, Named, No}
use Rattle.script.specs.Decimal.{decimal, led, spaced}
use Rattle.script.specs.ReplyText.{item_text, items_text, is_blocks, spelling_of, Room}
use Rattle.script.specs.contracts.parse.Parsed.{the_type}
use Rattle.script.proofs.Decimals.{decimal_one, decimal_more, decimal_two, decimal_three, decimal_four, length_decimal}
use Rattle.script.proofs.Decimals.{length_one, length_more, length_two, length_three, length_four}
use Rattle.script.proofs.Decimals.{thousands_digit, hundreds_digit, tens_digit, ones_digit}

-- a byte is a write of one
pub set_write : (d : List ℕ) (at v : ℕ) → at < length d → set d at v ≡ write_at d at (v ∷ [])
unfolding write_at
set_write d at v h = set_split d at v h ∙ ap (λ (n : ℕ). take at d ++ (v ∷ drop n d)) (sym (add-one at))

-- a byte behind a write
pub set_behind : (d d' : List ℕ) (at n v : ℕ) (s : List ℕ) → d' ≡ write_at d at s → n ≡ at + length s → n < length d
    → set d' n v ≡ write_at d at (s ++ (v ∷ []))
set_behind d d' at n v s e p h =
    let k : at + length s ≤ length d = omega arith in
    let w : length d' ≡ length d = ap length e ∙ length_write d at s k in
    set_write d' n v (omega arith) ∙ ap (λ (x : List ℕ). write_at x n (v ∷ [])) e ∙ write_write d at n s (v ∷ []) p (omega arith)

-- ── a number ──

pub put_one : (d : List ℕ) (at n : ℕ) → n < 10 → at + length (decimal n) ≤ length d
    → (at + 1 ≡ at + length (decimal n)) × (set d at (48 + n) ≡ write_at d at (decimal n))
put_one d at n h k =
    let e = length_one n h in
    (omega arith, rw (decimal_one n h) (set_write d at (48 + n) (omega arith)))

pub put_more : (d d' : List ℕ) (at n end : ℕ) → 10 ≤ n → at + length (decimal n) ≤ length d → end ≡ at + length (decimal (n / 10))
    → d' ≡ write_at d at (decimal (n / 10)) → (end + 1 ≡ at + length (decimal n)) × (set d' end (48 + n % 10) ≡ write_at d at (decimal n))
put_more d d' at n end h k p e =
    let l = length_more n h in
    (omega arith, rw (decimal_more n h) (set_behind d d' at end (48 + n % 10) (decimal (n / 10)) e p (omega arith)))

-- a byte, and a write right behind it
pub set_ahead : (d : List ℕ) (at b : ℕ) (s : List ℕ) → at < length d → write_at (set d at b) (at + 1) s ≡ write_at d at (b ∷ s)
set_ahead d at b s h =
    ap (λ (x : List ℕ). write_at x (at + 1) s) (set_write d at b h) ∙ write_write d at (at + 1) (b ∷ []) s (omega arith) (omega arith)

module _ (d : List ℕ) (at s : ℕ) (room : at + 11 ≤ length d) where
  -- a separator and a number
  pub put_led : (d' : List ℕ) (n r : ℕ) → n < 10 ^ 10 → r ≡ at + 1 + length (decimal n) → d' ≡ write_at (set d at s) (at + 1) (decimal n)
      → (r ≡ at + length (led s n)) × (r ≤ at + 11) × (d' ≡ write_at d at (led s n))
  unfolding led
  put_led d' n r k e w =
      let l = length_decimal 9 n k in
      (omega arith, omega arith, w ∙ set_ahead d at s (decimal n) (omega arith))

  one_behind : (a : ℕ) → set (set d at s) (at + 1) a ≡ write_at d at (s ∷ a ∷ [])
  one_behind a = set_behind d _ at (at + 1) a (s ∷ []) (set_write d at s (omega arith)) (omega arith) (omega arith)

  -- a separator and one digit
  pub put_digit : (n : ℕ) → n < 10
      → (at + 2 ≡ at + length (led s n)) × (at + 2 ≤ at + 11) × (set (set d at s) (at + 1) (48 + n) ≡ write_at d at (led s n))
  unfolding led
  put_digit n h = rw (decimal_one n h) (refl, omega arith, one_behind (48 + n))

  -- a separator and two or three digits
  two_behind : (a b : ℕ) → set (set (set d at s) (at + 1) a) (at + 2) b ≡ write_at d at (s ∷ a ∷ b ∷ [])
  two_behind a b = set_behind d _ at (at + 2) b (s ∷ a ∷ []) (one_behind a) (omega arith) (omega arith)

  three_behind : (a b c : ℕ) → set (set (set (set d at s) (at + 1) a) (at + 2) b) (at + 3) c ≡ write_at d at (s ∷ a ∷ b ∷ c ∷ [])
  three_behind a b c = set_behind d _ at (at + 3) c (s ∷ a ∷ b ∷ []) (two_behind a b) (omega arith) (omega arith)

  -- four digits, of which one that is not there is written over by the one behind it
  module _ (p q r a b c e : ℕ) where
    few_two : p ≡ at + 1 → q ≡ at + 1 → r ≡ at + 2 → set (set (set (set (set d at s) (at + 1) a) p b) q c) r e ≡ write_at d at (s ∷ c ∷ e ∷ [])
    few_two ep eq er =
        rw (ep, eq, er)
        (ap (λ (x : List ℕ). set (set x (at + 1) c) (at + 2) e) (set-set (set d at s) (at + 1) a b)
        ∙ ap (λ (x : List ℕ). set x (at + 2) e) (set-set (set d at s) (at + 1) b c)
        ∙ two_behind c e)

    few_three : p ≡ at + 1 → q ≡ at + 2 → r ≡ at + 3 → set (set (set (set (set d at s) (at + 1) a) p b) q c) r e ≡ write_at d at (s ∷ b ∷ c ∷ e ∷ [])
    few_three ep eq er =
        rw (ep, eq, er) (ap (λ (x : List ℕ). set (set x (at + 2) c) (at + 3) e) (set-set (set d at s) (at + 1) a b) ∙ three_behind b c e)

    few_four : p ≡ at + 2 → q ≡ at + 3 → r ≡ at + 4 → set (set (set (set (set d at s) (at + 1) a) p b) q c) r e ≡ write_at d at (s ∷ a ∷ b ∷ c ∷ e ∷ [])
    few_four ep eq er = rw (ep, eq, er) (set_behind d _ at (at + 4) e (s ∷ a ∷ b ∷ c ∷ []) (three_behind a b c) (omega arith) (omega arith))

  -- a separator and a number of two to four digits by fixed point
  pub put_few : (n w : ℕ) → 10 ≤ n → n < 10000 → w ≡ length (decimal n)
      → (at + w + 1 ≡ at + length (led s n)) × (at + w + 1 ≤ at + 11)
      × (set (set (set (set (set d at s) (at + 1) (48 + n * 4294968 / 4294967296)) (at + 1 + w / 4) (48 + n * 4294968 % 4294967296 * 10 / 4294967296))
      (at + w - 1) (48 + n * 4294968 % 4294967296 * 10 % 4294967296 * 10 / 4294967296))
      (at + w) (48 + n * 4294968 % 4294967296 * 10 % 4294967296 * 10 % 4294967296 * 10 / 4294967296)
      ≡ write_at d at (led s n))
  unfolding led
  put_few n w h k e =
      let m = length_decimal 3 n k in (
        omega arith,
        omega arith,
        rw (thousands_digit n k, hundreds_digit n k, tens_digit n k, ones_digit n k)
            (cases (lt? n 100)
            (λ f. let l = length_two n h f in rw (decimal_two n h f) (few_two _ _ _ _ _ _ _ (omega arith) (omega arith) (omega arith)))
            (λ f.
            cases (lt? n 1000)
            (λ g. let l = length_three n f g in rw (decimal_three n f g) (few_three _ _ _ _ _ _ _ (omega arith) (omega arith) (omega arith)))
            (λ g. let l = length_four n g k in rw (decimal_four n g k) (few_four _ _ _ _ _ _ _ (omega arith) (omega arith) (omega arith))))),
      )

-- ── many numbers ──

-- that what is left to write at `end` makes of t what the whole makes of d
pub record Left (d : List ℕ) (at : ℕ) (whole t : List ℕ) (end : ℕ) (rest : List ℕ) : Type 0 where
  pub written : write_at t end rest ≡ write_at d at whole
  pub reaches : end + length rest ≡ at + length whole

module _ (d : List ℕ) (at : ℕ) (whole : List ℕ) where
  pub left_all : Left d at whole d at whole
  left_all = record { written = refl; reaches = refl }

  -- its first part is written
  pub left_less : (t t' : List ℕ) (end r : ℕ) (w rest : List ℕ) → Left d at whole t end (w ++ rest)
      → t' ≡ write_at t end w → r ≡ end + length w → r ≤ length t → Left d at whole t' r rest
  left_less t t' end r w rest l e p h =
      record {
        written = ap (λ (x : List ℕ). write_at x r rest) e ∙ write_write t end r w rest p h ∙ l.written;
        reaches = omega (arith, l.reaches, length-append w rest);
      }

  pub left_none : (t : List ℕ) (end : ℕ) (rest : List ℕ) → Left d at whole t end rest → rest ≡ [] → (end ≡ at + length whole) × (t ≡ write_at d at whole)
  left_none t end rest l e =
      (omega (arith, l.reaches, ap length e), sym (write_none t end) ∙ ap (write_at t end) (sym e) ∙ l.written)

-- the first of the numbers that are left, and those after it
pub numbers_left : (l : List ℕ) (i : ℕ) → i < length l → spaced (drop i l) ≡ led 32 (get_or l i 0) ++ spaced (drop (i + 1) l)
unfolding spaced led
numbers_left l i k = rw (add-one, drop-cons l i 0 k)

pub numbers_over : (l : List ℕ) (i : ℕ) → length l ≤ i → spaced (drop i l) ≡ []
unfolding spaced
numbers_over l i k = rw (drop_of_length-le l k)

module _ (out : List ℕ) (n : ℕ) (h : n ≤ length out) where
  left_first : (i : ℕ) → i < n → drop i (take n out) ≡ get_or out i 0 ∷ drop (i + 1) (take n out)
  left_first i k =
      let l = length-take-le n out h in
      drop-cons (take n out) i 0 (omega arith) ∙ rw (get_or-take n out i 0 k, add-one)

  left_over : (i : ℕ) → n ≤ i → drop i (take n out) ≡ []
  left_over i k = drop_of_length-le (take n out) {i = i} (omega (arith, length-take-le n out h))

  -- the first of the blocks that are left with its birth, and those behind it
  pub blocks_left : (i : ℕ) → i + 1 < n → items_text (born_in (drop i (take n out)))
      ≡ led 32 (get_or out i 0) ++ (led 58 (get_or out (i + 1) 0) ++ items_text (born_in (drop (i + 2) (take n out))))
  unfolding items_text item_text born_in
  blocks_left i k =
      let e : i + 1 + 1 ≡ i + 2 = omega arith in
      rw (left_first i (omega arith), left_first (i + 1) k, e) (append_assoc (led 32 (get_or out i 0)) (led 58 (get_or out (i + 1) 0)) _)

  -- a last number without another is no block
  pub blocks_over : (i : ℕ) → n ≤ i + 1 → items_text (born_in (drop i (take n out))) ≡ []
  unfolding items_text born_in
  blocks_over i k =
      cases (lt? i n)
      (λ f. rw (left_first i f, left_over (i + 1) k))
      (λ f. rw (left_over i f))

-- plain items are numbers behind spaces
pub items_spaced : (ns : List ℕ) → items_text (map plain ns) ≡ spaced ns
unfolding items_text item_text led spaced
items_spaced [] = refl
items_spaced (n ∷ ns) = ap (λ (l : List ℕ). 32 ∷ (decimal n ++ l)) (items_spaced ns)

-- the text by the test
pub by_test : (s : Spelling) (n : ℕ) (out : List ℕ)
    → items_text (items_of s (take n out)) ≡ cond (is_blocks s) (items_text (born_in (take n out))) (spaced (take n out))
unfolding items_of
by_test Numbers n out = items_spaced (take n out)
by_test Blocks n out = refl

-- ── a reply ──

-- a sign in front, a line feed behind
pub put_line : (d d' : List ℕ) (b at end : ℕ) (s : List ℕ) → end < length d → end ≡ at + 1 + length s → d' ≡ write_at (set d at b) (at + 1) s
    → (end + 1 ≡ at + length (b ∷ (s ++ (10 ∷ [])))) × (set d' end 10 ≡ write_at d at (b ∷ (s ++ (10 ∷ []))))
put_line d d' b at end s h e w =
    let l = length-append s (10 ∷ []) in
    (omega arith, set_behind d d' at end 10 (b ∷ s) (w ∙ set_ahead d at b s (omega arith)) (omega arith) h)

pub room_done : {text out : List ℕ} {at n : ℕ} {answer : Result ℕ ℕ} → Room text at answer out → answer ≡ Ok n
    → (at + 12 * n + 16 ≤ length text) × (n ≤ length out)
room_done room e = (rw e at room.fits, rw e at room.gives)

pub room_any : {text out : List ℕ} {at : ℕ} {answer : Result ℕ ℕ} → Room text at answer out → at + 16 ≤ length text
room_any room = let h = room.fits in omega arith

-- a line that asks no call is answered in numbers
pub spelling_none : (p : Parsed) → Among (0 ∷ 2 ∷ 3 ∷ []) (tag_of the_type p) → Numbers ≡ spelling_of p
unfolding spelling_of
spelling_none (Store x) h = refl
spelling_none (Asks c) h = absurd (miss (0 ∷ 2 ∷ 3 ∷ []) 1 tt (opened h))
spelling_none (Named n e) h = refl
spelling_none No h = refl

-- the places of the calls that name no block, in the order of `Call`
abbrev others : List ℕ
others = 0 ∷ 3 ∷ 4 ∷ 5 ∷ 7 ∷ 8 ∷ 9 ∷ 10 ∷ 11 ∷ []

spelling_plain : (c : Call) → Among others (tag_of call-type c) → Numbers ≡ spelling (command c)
spelling_plain Begin h = refl
spelling_plain (Write r x k) h = absurd (miss others 1 tt (opened h))
spelling_plain (Erase r x) h = absurd (miss others 2 tt (opened h))
spelling_plain (Seal r) h = refl
spelling_plain (Fork r) h = refl
spelling_plain (Delete r) h = refl
spelling_plain (Read r x) h = absurd (miss others 6 tt (opened h))
spelling_plain Barrier h = refl
spelling_plain Compress h = refl
spelling_plain FreeList h = refl
spelling_plain (Estimate r) h = refl
spelling_plain (Retain r n) h = refl
spelling_plain (Reclaim k) h = absurd (miss others 12 tt (opened h))

-- a call that names no block is answered in numbers
pub spelling_other : (p : Parsed) (c : Call) → p ≡ Asks c → Among others (tag_of call-type c) → Numbers ≡ spelling_of p
unfolding spelling_of
spelling_other p c e h = rw e (spelling_plain c h)
