-- "one a line .. ended by a line feed or the end of input; nothing behind the last line feed is no line." (10.1)
use Rattle.std.specs.Prelude.{ℕ, zero, suc, ◌+◌, cond, List, [], ◌∷◌, ◌++◌, ◌≡◌, length, drop, eqb, ltb, Option, Some, None}
use Rattle.std.proofs.Math.Seq.{slice}

-- how many bytes stand before the first line feed, or the end
unfoldable pub run : List ℕ → ℕ
run [] = 0
run (b ∷ l) = cond (eqb b 10) 0 (suc (run l))

-- the start and the end of a line, or none
abbrev pub Line : Type 0
Line = Option (ℕ × ℕ)

-- the line at a position, or none where no byte is left
unfoldable pub line_at : List ℕ → ℕ → Line
line_at text at = cond (ltb at (length text)) (Some (at, at + run (drop at text))) None

-- a byte in front of lines joins the first
abbrev pub joins : ℕ → List (List ℕ) → List (List ℕ)
joins b [] = (b ∷ []) ∷ []
joins b (l ∷ ls) = (b ∷ l) ∷ ls

-- the lines of a text
unfoldable pub lines_of : List ℕ → List (List ℕ)
lines_of [] = []
lines_of (b ∷ l) = cond (eqb b 10) ([] ∷ lines_of l) (joins b (lines_of l))

abbrev pub on_line : Line → (ℕ → ℕ → List (List ℕ)) → List (List ℕ)
on_line (Some line) f = f line.0 line.1
on_line None f = []

-- the lines that a reader meets from a position on, each behind the line feed of the one before; at most n of them
unfoldable pub walk : ℕ → List ℕ → ℕ → List (List ℕ)
walk zero text at = []
walk (suc n) text at = on_line (line_at text at) (λ s e. slice s e text ∷ walk n text (e + 1))

-- lines with a line feed behind each
unfoldable pub ended : List (List ℕ) → List ℕ
ended [] = []
ended (l ∷ ls) = l ++ (10 ∷ ended ls)

-- no byte of a line is a line feed
abbrev pub NoFeed : List ℕ → Type 0
NoFeed [] = Unit {0}
NoFeed (b ∷ l) = (b ≡ 10 → ⊥) × NoFeed l

abbrev pub NoFeeds : List (List ℕ) → Type 0
NoFeeds [] = Unit {0}
NoFeeds (l ∷ ls) = NoFeed l × NoFeeds ls
