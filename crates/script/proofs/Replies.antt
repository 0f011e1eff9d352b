-- A printed reply reads back, so that no two print alike; and it is one line, so that the lines of an output are its replies.
use Prim.Native.Nat.{ℕ, zero, suc, ◌+◌, ◌-◌, ◌*◌, ◌≤◌}
use mathlib.Core.Path.{◌≡◌, refl, sym, ap, ◌∙◌}
use mathlib.Core.Bool.{true, false}
use mathlib.Core.List.{List, [], ◌∷◌, ◌++◌, append_assoc, append-nil}
use mathlib.Core.Option.{Option, none, some}
use native.Mathlib.Omega.{arith}
use borrow.Author.Tests.{ne_eqb}
use lib.ListN.{length}
use Rattle.answer.specs.Reply.{Reply, accepted, refused}
use Rattle.model.specs.declared.Spelling.{Spelling}
use Rattle.model.specs.declared.Spelling.TheVariants.{Numbers, Blocks}
use Rattle.model.specs.Results.{Item, plain, born, born_in, items_of, numbers_of}
use Rattle.script.specs.Decimal.{decimal, led}
use Rattle.script.specs.Lines.{lines_of, ended, NoFeed, NoFeeds}
use Rattle.script.specs.ReplyText.{item_text, items_text, reply_text, Printed, printed_of, Whole, WholeReply, reply_in}
use Rattle.script.specs.ReplyText.{begins, with_first, item_of, turns, inside_read, items_read, gives, refuses, reply_read}
use Rattle.script.specs.ReplyText.{Spelled, reply_line, reply_lines, reply_texts}
use Rattle.script.proofs.Decimals.{decimal_one}
use Rattle.script.proofs.Digits.{AllDigits, Ends, value_of, Makes, makes, decimal_means}
use Rattle.script.proofs.LinesFacts.{lines_ended}
use Rattle.script.proofs.OnePass.{no_feed_append, no_feed_led}
use Rattle.script.proofs.Reading.{digit_yes}

-- ── what is printed reads back ──

-- digits are read to the number that they make
inside_digits : (p : Option ℕ) (l rest : List ℕ) (v : ℕ) → AllDigits l → inside_read p v (l ++ rest) ≡ inside_read p (value_of v l) rest
unfolding inside_read
inside_digits p [] rest v a = refl
inside_digits p (b ∷ l) rest v a = rw a.0 (inside_digits p l rest (v * 10 + (b - 48)) a.1)

inside_number : (p : Option ℕ) (n : ℕ) (rest : List ℕ) → inside_read p 0 (decimal n ++ rest) ≡ inside_read p n rest
inside_number p n rest =
    let d = decimal_means n in
    inside_digits p (decimal n) rest 0 d.0 ∙ ap (λ (v : ℕ). inside_read p v rest) d.1

begins_high : (d : ℕ) (l : List ℕ) → 49 ≤ d → d ≤ 57 → begins (d ∷ l) ≡ true
begins_high d [] h k = digit_yes d (omega arith) k
begins_high d (c ∷ l) h k =
    let n : d ≡ 48 → ⊥ = omega arith in
    rw (digit_yes d (omega arith) k, ne_eqb d 48 n)

begins_zero : (rest : List ℕ) → Ends rest → begins (48 ∷ rest) ≡ true
begins_zero [] h = refl
begins_zero (b ∷ l) h = rw h

-- a number begins with its digits, if no digit follows them
begins_decimal : (n : ℕ) (rest : List ℕ) → Ends rest → begins (decimal n ++ rest) ≡ true
unfolding Makes
begins_decimal zero rest h = rw (decimal_one 0 (omega arith)) (begins_zero rest h)
begins_decimal (suc n) rest h =
    let m = makes (suc n) (suc n) (omega arith) (omega arith) in
    rw m.2 (begins_high m.0 (m.1 ++ rest) m.3 m.4)

-- an item without the space in front of it
body : Item → List ℕ
body (plain n) = decimal n
body (born b v) = decimal b ++ led 58 v

-- items, and the line feed behind them
line : List Item → List ℕ
line l = items_text l ++ (10 ∷ [])

line_more : (i : Item) (l : List Item) → line (i ∷ l) ≡ 32 ∷ (body i ++ line l)
unfolding items_text item_text led line body
line_more (plain n) l = ap (λ (x : List ℕ). 32 ∷ x) (append_assoc (decimal n) (items_text l) (10 ∷ []))
line_more (born b v) l = ap (λ (x : List ℕ). 32 ∷ x) (append_assoc (decimal b ++ led 58 v) (items_text l) (10 ∷ []))

-- what stands behind an item is a space or the line feed
line_ends : (l : List Item) → Ends (line l)
unfolding items_text line
line_ends [] = refl
line_ends (i ∷ l) = rw (line_more i l) refl

body_begins : (i : Item) (rest : List ℕ) → Ends rest → begins (body i ++ rest) ≡ true
unfolding body led
body_begins (plain n) rest h = begins_decimal n rest h
body_begins (born b v) rest h = rw (append_assoc (decimal b) (58 ∷ decimal v) rest) (begins_decimal b (58 ∷ (decimal v ++ rest)) refl)

-- an item is read, if what stands behind it is
body_read : (i : Item) (l : List Item) → ((p : Option ℕ) (v : ℕ) → inside_read p v (line l) ≡ some (item_of p v ∷ l))
    → inside_read none 0 (body i ++ line l) ≡ some (i ∷ l)
unfolding body led inside_read
body_read (plain n) l h = inside_number none n (line l) ∙ h none n
body_read (born b v) l h =
    rw (append_assoc (decimal b) (58 ∷ decimal v) (line l))
    (inside_number none b (58 ∷ (decimal v ++ line l)) ∙ rw (begins_decimal v (line l) (line_ends l)) (inside_number (some b) v (line l) ∙ h (some b) v))

-- a space is no colon
turns_space : (p : Option ℕ) (l : List ℕ) → turns p 32 l ≡ false
turns_space none l = refl
turns_space (some b) l = refl

turns_feed : (p : Option ℕ) → turns p 10 [] ≡ false
turns_feed none = refl
turns_feed (some b) = refl

inside_items : (l : List Item) (p : Option ℕ) (v : ℕ) → inside_read p v (line l) ≡ some (item_of p v ∷ l)
unfolding inside_read items_text line
inside_items [] p v = rw (turns_feed p)
inside_items (i ∷ l) p v =
    rw (line_more i l, turns_space p (body i ++ line l), body_begins i (line l) (line_ends l)) (ap (with_first (item_of p v)) (body_read i l (inside_items l)))

items_back : (l : List Item) → items_read (line l) ≡ some l
unfolding items_read items_text line
items_back [] = refl
items_back (i ∷ l) = rw (line_more i l, body_begins i (line l) (line_ends l)) (body_read i l (inside_items l))

-- A PRINTED REPLY READS BACK, the colons with it
pub printed_read : (s : Spelling) (r : Reply) → reply_read (reply_text s r) ≡ some (printed_of s r)
unfolding reply_read reply_text items_text item_text line
printed_read s (accepted ns) = ap gives (items_back (items_of s ns))
printed_read s (refused k) = ap refuses (ap (λ (x : List ℕ). items_read (x ++ (10 ∷ []))) (sym (append-nil (led 32 k))) ∙ items_back (plain k ∷ []))

-- ── no number is lost, but a last one of blocks that has no birth ──

born_back : (ns : List ℕ) (m : ℕ) → length ns ≡ 2 * m → numbers_of (born_in ns) ≡ ns
unfolding born_in numbers_of
born_back [] m h = refl
born_back (n ∷ []) m h = absurd (let z : ⊥ = omega arith in z)
born_back (b ∷ v ∷ ns) m h = ap (λ (l : List ℕ). b ∷ v ∷ l) (born_back ns (m - 1) (omega arith))

-- THE ITEMS HAVE ALL THE NUMBERS, and what is printed stands for the reply
pub whole_back : (s : Spelling) (ns : List ℕ) → Whole s ns → numbers_of (items_of s ns) ≡ ns
unfolding items_of numbers_of
whole_back Numbers [] w = refl
whole_back Numbers (n ∷ ns) w = ap (λ (l : List ℕ). n ∷ l) (whole_back Numbers ns w)
whole_back Blocks ns w = born_back ns w.0 w.1

pub printed_back : (s : Spelling) (r : Reply) → WholeReply s r → reply_in (printed_of s r) ≡ r
printed_back s (accepted ns) w = ap accepted (whole_back s ns w)
printed_back s (refused k) w = refl

some_printed : {p q : Printed} → some p ≡ some q → p ≡ q
some_printed e = cc

-- NO TWO REPLIES PRINT ALIKE, whatever their spellings
pub reply_once : (s t : Spelling) (r q : Reply) → WholeReply s r → WholeReply t q → reply_text s r ≡ reply_text t q → r ≡ q
reply_once s t r q w x e =
    let p : printed_of s r ≡ printed_of t q = some_printed (sym (printed_read s r) ∙ ap reply_read e ∙ printed_read t q) in
    sym (printed_back s r w) ∙ ap reply_in p ∙ printed_back t q x

-- ── a reply is one line ──

no_feed_item : (i : Item) → NoFeed (item_text i)
unfolding item_text
no_feed_item (plain n) = no_feed_led 32 n (omega arith)
no_feed_item (born b v) = no_feed_append (led 32 b) (led 58 v) (no_feed_led 32 b (omega arith)) (no_feed_led 58 v (omega arith))

no_feed_items : (l : List Item) → NoFeed (items_text l)
unfolding items_text
no_feed_items [] = tt
no_feed_items (i ∷ l) = no_feed_append (item_text i) (items_text l) (no_feed_item i) (no_feed_items l)

-- A REPLY IS ONE LINE: its last byte is a line feed, and no other
pub reply_line_lem : (s : Spelling) (r : Reply) → (reply_text s r ≡ reply_line s r ++ (10 ∷ [])) × NoFeed (reply_line s r)
unfolding reply_text reply_line
reply_line_lem s (accepted ns) = (refl, (omega arith, no_feed_items (items_of s ns)))
reply_line_lem s (refused k) = (refl, (omega arith, no_feed_led 32 k (omega arith)))

texts_ended : (rs : List Spelled) → (reply_texts rs ≡ ended (reply_lines rs)) × NoFeeds (reply_lines rs)
unfolding reply_texts reply_lines ended
texts_ended [] = (refl, tt)
texts_ended (r ∷ rs) =
    let x : List ℕ = reply_line r.spelling r.reply in
    let l = reply_line_lem r.spelling r.reply in
    let t = texts_ended rs in
    (ap (λ (y : List ℕ). y ++ reply_texts rs) l.0 ∙ append_assoc x (10 ∷ []) (reply_texts rs) ∙ ap (λ (y : List ℕ). x ++ (10 ∷ y)) t.0, (l.1, t.1))

-- THE LINES OF AN OUTPUT ARE ITS REPLIES
pub replies_lines : (rs : List Spelled) → lines_of (reply_texts rs) ≡ reply_lines rs
replies_lines rs = let t = texts_ended rs in ap lines_of t.0 ∙ lines_ended (reply_lines rs) t.1
