-- "A word is 8 bytes, big-endian." (6.1)
use Rattle.std.specs.Prelude.{ℕ, ◌+◌, ◌*◌, ◌/◌, ◌%◌, List, [], ◌∷◌, ◌++◌, length, take, drop, slice_index}

-- bytes with others in the place of those from `at` on; "the bytes beyond it stay" (6.3)
unfoldable pub write_at : List ℕ → ℕ → List ℕ → List ℕ
write_at bytes at others = take at bytes ++ (others ++ drop (at + length others) bytes)

-- the number that eight bytes spell, the highest first
unfoldable pub spell : ℕ → ℕ → ℕ → ℕ → ℕ → ℕ → ℕ → ℕ → ℕ
spell a b c d e f g h = ((((((a * 256 + b) * 256 + c) * 256 + d) * 256 + e) * 256 + f) * 256 + g) * 256 + h

-- the eight bytes of a word, the highest first
unfoldable pub word_bytes : ℕ → List ℕ
word_bytes w =
    w / 0x100_0000_0000_0000 % 256
    ∷ w / 0x1_0000_0000_0000 % 256
    ∷ w / 0x100_0000_0000 % 256
    ∷ w / 0x1_0000_0000 % 256
    ∷ w / 0x100_0000 % 256
    ∷ w / 0x1_0000 % 256
    ∷ w / 0x100 % 256
    ∷ w % 256
    ∷ []

-- the word at byte position i
unfoldable pub word_at : List ℕ → ℕ → ℕ
unfolding spell
word_at l i =
    spell (slice_index l i) (slice_index l (i + 1)) (slice_index l (i + 2)) (slice_index l (i + 3)) (slice_index l (i + 4)) (slice_index l (i + 5))
    (slice_index l (i + 6))
    (slice_index l (i + 7))

-- the words of a list of bytes, eight bytes each; fewer than eight at the end are none
unfoldable pub words : List ℕ → List ℕ
unfolding spell
words [] = []
words (a ∷ []) = []
words (a ∷ b ∷ []) = []
words (a ∷ b ∷ c ∷ []) = []
words (a ∷ b ∷ c ∷ d ∷ []) = []
words (a ∷ b ∷ c ∷ d ∷ e ∷ []) = []
words (a ∷ b ∷ c ∷ d ∷ e ∷ f ∷ []) = []
words (a ∷ b ∷ c ∷ d ∷ e ∷ f ∷ g ∷ []) = []
words (a ∷ b ∷ c ∷ d ∷ e ∷ f ∷ g ∷ h ∷ rest) = spell a b c d e f g h ∷ words rest

-- the bytes of a list of words
abbrev pub bytes_of : List ℕ → List ℕ
bytes_of [] = []
bytes_of (w ∷ ws) = word_bytes w ++ bytes_of ws

-- "Its low byte is 1 allocate one, 2 free one, 3 barrier, 4 allocate a run, 5 free a run. The rest is the byte address, block times 16,384;
-- for 3 it is zero. After 4 and 5 a second word is the length in bytes." (6.1, 6.2)
abbrev pub allocated : ℕ → ℕ
allocated b = b * 16384 + 1

abbrev pub released : ℕ → ℕ
released b = b * 16384 + 2

abbrev pub barrier : ℕ
barrier = 3

abbrev pub allocated_run : ℕ → ℕ
allocated_run b = b * 16384 + 4

abbrev pub released_run : ℕ → ℕ
released_run b = b * 16384 + 5

abbrev pub length_of : ℕ → ℕ
length_of n = n * 16384
