-- Lines of eight words, and the bytes that they stand for, the highest of each word first. Assumes nothing: these are definitions.
use Rattle.std.specs.Prelude.{◌≡◌, ℕ, zero, suc, ◌-◌, ◌*◌, ◌/◌, List, [], ◌∷◌, ◌++◌, length, take, drop, map}
use Rattle.std.specs.Simd.{first_chunks}
use Rattle.plain.specs.Term.{eight}
use Rattle.plain.specs.Read.{number}
use Rattle.plain.specs.Device as device
use Rattle.plain.specs.Device.{so_many_of}
use Rattle.programs.specs.Machine.{tidy}
use Rattle.lines.specs.declared.line.Line.{Line}

unfoldable pub bytes_of : List ℕ → List ℕ
bytes_of [] = []
bytes_of (w ∷ ws) = eight w ++ bytes_of ws

-- the bytes of a line
abbrev pub line_of : Line → device.Line
line_of l = bytes_of l.words

-- the line with a number in its first word
unfoldable pub number_line : ℕ → device.Line
number_line n = eight n ++ so_many_of 56 0

-- the word that stands at so many bytes from the front
unfoldable pub word_at : List ℕ → ℕ → ℕ
word_at bs i = number (take 8 (drop i bs))

-- the words of a line
unfoldable pub words_in : device.Line → List ℕ
words_in l = word_at l 0 ∷ word_at l 8 ∷ word_at l 16 ∷ word_at l 24 ∷ word_at l 32 ∷ word_at l 40 ∷ word_at l 48 ∷ word_at l 56 ∷ []

-- so many words, of eight bytes each
unfoldable pub words_of : ℕ → List ℕ → List ℕ
words_of n bs = map number (first_chunks 8 n bs)

-- a line's words and bytes are those of 64 bytes; of any others, those of a blank line
pub record HoldsLine (l : Line) (bytes : List ℕ) : Type 0 where
  pub words : l.words ≡ words_in (tidy bytes)
  pub line : line_of l ≡ tidy bytes

-- so many lines of eight words each
unfoldable pub lines_in : ℕ → List ℕ → List device.Line
lines_in zero ws = []
lines_in (suc n) ws = bytes_of (take 8 ws) ∷ lines_in n (drop 8 ws)

-- the lines of these words from line i on
unfoldable pub answers : List ℕ → ℕ → List device.Line
answers ws i = lines_in (length ws / 8 - i) (drop (8 * i) ws)
